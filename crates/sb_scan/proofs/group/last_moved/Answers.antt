use Rattle.std.proofs.Common.{◌+◌, sym, ◌∙◌, ap, drop, arith}
use Rattle.std.specs.Prelude.{flat_map}
use Rattle.std.specs.List.{last_or}
use Rattle.sb_model.specs.Sides.{ops_of}
use Rattle.sb_model.specs.Groups.{group_moved}
use Rattle.sb_scan.proofs.Looking.{moved_step}
use Rattle.sb_scan.proofs.group.last_moved.Goals as goal

pub loop-entry-preserved : goal.loop-entry-preserved
loop-entry-preserved c =
    ap (λ o. last_or o (flat_map (group_moved c.args.side) (ops_of (drop (c.loop-entry.entry-index + 1) c.args.log.now)))) c.moved_in-last.ensures
    ∙ sym (moved_step c.args.side c.args.log.now c.loop-entry.entry-index c.loop-entry.last c.entry-item.result (omega arith) c.entry-item.is)
    ∙ c.loop-entry.invariant
