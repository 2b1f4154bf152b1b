use Rattle.std.proofs.Common.{◌≡◌, drop}
use Rattle.std.specs.Prelude.{flat_map}
use Rattle.sb_model.specs.Messages.{end_of_op, final_content, first_of}
use Rattle.sb_scan.proofs.sent.final_among.Given as goal

abbrev pub invariant-loop-op : goal.invariant-loop-op
invariant-loop-op l = first_of (flat_map final_content (flat_map (end_of_op l.side) (drop l.op-index l.ops))) ≡ first_of (flat_map final_content (flat_map (end_of_op l.side) l.ops))
