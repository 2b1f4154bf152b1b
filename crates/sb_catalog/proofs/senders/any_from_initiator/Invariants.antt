use Rattle.std.proofs.Common.{◌≡◌, drop, true}
use Rattle.std.specs.List.{list_any}
use Rattle.sb_model.specs.Catalog.{may_be_sent_by}
use Rattle.sb_catalog.proofs.senders.any_from_initiator.Given as goal

abbrev pub invariant-loop-sent : goal.invariant-loop-sent
invariant-loop-sent l = list_any (λ sent. may_be_sent_by sent.by true) (drop l.sent-index l.types) ≡ list_any (λ sent. may_be_sent_by sent.by true) l.types
