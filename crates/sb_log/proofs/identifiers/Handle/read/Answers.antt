use Rattle.std.proofs.Common.{ℕ, List, Bool, true, false, length, ◌==◌, if◌then◌else◌, ◌≡◌, refl, sym, ap, Option, None, Some}
use Rattle.std.specs.Option.{option_map}
use Rattle.std.specs.Int.{from_be_bytes, w128}
use Rattle.std.proofs.lemmas.Bool.{false≢true}
use Rattle.uuid.specs.Text.{parsed}
use Rattle.sb_log.proofs.identifiers.Handle.read.Goals as goal

none_from_no_some : {X : Type 0} (o : Option X) → ((u : X) → o ≡ Some u → ⊥) → o ≡ None
none_from_no_some None h = refl
none_from_no_some (Some u) h = absurd (h u refl)

none_either : {X Y : Type 0} (f : X → Y) (b : Bool) (o : Option X) → o ≡ None → None ≡ option_map f (if b then o else None)
none_either f true o e = sym (ap (option_map f) e)
none_either f false o e = refl

pub returns-in-Err : goal.returns-in-Err
returns-in-Err c =
    let t = c.args.text.now in
    none_either (λ (bytes : List ℕ). record { 0 = from_be_bytes w128 bytes }) (length t == 36) (parsed t)
    (none_from_no_some (parsed t) (λ u h. false≢true (c.in-Err.ensures.ok.1 (u, h))))
