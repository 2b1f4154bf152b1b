use Rattle.std.proofs.Common.{◌≡◌, drop}
use Rattle.std.specs.Prelude.{find, option_map}
use Rattle.sb_model.specs.Sides.{same_name}
use Rattle.sb_catalog.proofs.senders.sender_among.Given as goal

abbrev pub invariant-loop-sent : goal.invariant-loop-sent
invariant-loop-sent l = option_map (λ sent. sent.by) (find (λ sent. same_name sent.kind l.kind) (drop l.sent-index l.types)) ≡ option_map (λ sent. sent.by) (find (λ sent. same_name sent.kind l.kind) l.types)
