-- Checks that follow each other.
use Rattle.std.proofs.Common.{◌≡◌, ◌∙◌}
use Rattle.std.specs.Prelude.{Option, Some, None, Result, Ok, Err}
use Rattle.sb_log.specs.declared.refusals.Refusal.{Refusal}
use Rattle.sb_model.specs.Replies.{Planned}
use Rattle.sb_model.specs.Refusals.{need}
use Rattle.sb_instance.specs.Asked.{Passes}
use Rattle.sb_instance.specs.declared.stopped.Stopped.{Stopped}
use Rattle.sb_instance.specs.declared.stopped.Stopped.TheVariants as stopped

-- a check that stops stops the rest
pub passes_stop : (a b c : Planned) (why : Stopped) → Passes a b (Err why) → Passes a c (Err why)
passes_stop a b c stopped.OutOfMemory h = tt
passes_stop a b c (stopped.Refused r) h = h

-- what one check goes on with, the next one checks
pub passes_then : (a b c : Planned) (r : Result (Unit {0}) Stopped) → a ≡ b → Passes b c r → Passes a c r
passes_then a b c (Ok done) e h = e ∙ h
passes_then a b c (Err stopped.OutOfMemory) e h = tt
passes_then a b c (Err (stopped.Refused r)) e h = e ∙ h

-- what is needed is there
pub passes_found : {A : Type 0} (o : Option A) (x : A) (r : Refusal) (b c : Planned) (result : Result (Unit {0}) Stopped) → Some x ≡ o → Passes b c result → Passes (need o r (λ def. b)) c result
passes_found None x r b c result e h = passes_then (Err r) b c result (absurd (no_some e)) h
  where
    no_some : Some x ≡ None → ⊥
    no_some p = cc
passes_found (Some y) x r b c result e h = h
