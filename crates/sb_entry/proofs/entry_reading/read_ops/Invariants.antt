use Rattle.std.proofs.Common.{◌≡◌, ◌-◌}
use Rattle.sb_fields.specs.Reading.{list_at}
use Rattle.sb_model.specs.Reading.{op_at}
use Rattle.sb_entry.proofs.Loop.{with_front}
use Rattle.sb_entry.proofs.entry_reading.read_ops.Given as goal

abbrev pub invariant-loop : goal.invariant-loop
invariant-loop l = with_front l.values.items (list_at op_at (l.count - l.counter) l.rest) ≡ list_at op_at l.count l.bytes
