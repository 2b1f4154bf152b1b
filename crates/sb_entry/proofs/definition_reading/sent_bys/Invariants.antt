use Rattle.std.proofs.Common.{◌≡◌, ◌-◌}
use Rattle.sb_fields.specs.Reading.{list_at}
use Rattle.sb_model.specs.Reading.{sent_by_at}
use Rattle.sb_entry.proofs.Loop.{with_front}
use Rattle.sb_entry.proofs.definition_reading.sent_bys.Given as goal

abbrev pub invariant-loop : goal.invariant-loop
invariant-loop l = with_front l.values.items (list_at sent_by_at (l.count - l.counter) l.rest) ≡ list_at sent_by_at l.count l.bytes
