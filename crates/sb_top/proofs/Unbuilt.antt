-- What is refused by its words is a step that leaves the instance as it is.
use Rattle.std.proofs.Common.{◌≡◌, ℕ, Bool, true, false, List, Option, Some, None, inl, inr, refl, sym, ap, subst, ◌∙◌}
use Rattle.std.specs.Prelude.{IsTrue}
use Rattle.sb_log.specs.declared.identifiers.Actor.{Actor}
use Rattle.sb_log.specs.declared.identifiers.Actor.TheVariants as actor
use Rattle.sb_log.specs.declared.refusals.Refusal.{Refusal}
use Rattle.sb_log.specs.declared.refusals.Refusal.TheVariants as refusal
use Rattle.sb_model.specs.Instance.{Part}
use Rattle.sb_model.specs.Steps.{is_of_words}
use Rattle.sb_top.specs.Following.{first_session, refused_words}
use Rattle.sb_top.specs.Runs.{IsPlain, IsStep, MayRefuse}

of_session : (p : Part) (words : List ℕ) (r : Refusal) → IsPlain p → IsTrue (is_of_words r) → IsStep p (refused_words first_session words r) p
of_session p words (refusal.NoVariable name) plain may = record { gives = refl; state = refl; plain = plain; low = refl }
of_session p words (refusal.WrongKind kind) plain may = record { gives = refl; state = refl; plain = plain; low = refl }
of_session p words (refusal.Overflow left) plain may = record { gives = refl; state = refl; plain = plain; low = refl }
of_session p words refusal.NotYet plain may = record { gives = refl; state = refl; plain = plain; low = refl }
of_session p words _ plain may = cc

of_world : (p : Part) (words : List ℕ) → IsPlain p → IsStep p (refused_words actor.World words refusal.NotYet) p
of_world p words plain = record { gives = refl; state = refl; plain = plain; low = refl }

pub refused_step : (p : Part) (who : Actor) (words : List ℕ) (r : Refusal) → IsPlain p → MayRefuse who r → IsStep p (refused_words who words r) p
refused_step p who words r plain (inl may) = rw may.0 (of_session p words r plain may.1)
refused_step p who words r plain (inr may) = rw (may.0, may.1) (of_world p words plain)
