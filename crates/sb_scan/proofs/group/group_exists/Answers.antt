use Rattle.std.proofs.Common.{◌+◌, ◌||◌, drop, map, ap, sym, ◌∙◌, arith}
use Rattle.std.specs.List.{list_any}
use Rattle.sb_model.specs.Groups.{keeps_group}
use Rattle.sb_scan.specs.Seen.{making_of}
use Rattle.sb_scan.proofs.Looking.{any_step}
use Rattle.sb_scan.proofs.group.group_exists.Goals as goal

pub returns-then-keeps_group : goal.returns-then-keeps_group
returns-then-keeps_group c =
    ap (λ b. b || list_any (keeps_group c.args.log.now c.args.group) (map making_of (drop (c.loop-made.made-index + 1) c.as_slice-known.result.now))) (sym c.if-keeps_group.true ∙ c.keeps_group.ensures)
    ∙ any_step (keeps_group c.args.log.now c.args.group) making_of c.as_slice-known.result.now c.loop-made.made-index c.made-item.result (omega arith) c.made-item.is
    ∙ c.loop-made.invariant

pub loop-made-preserved : goal.loop-made-preserved
loop-made-preserved c =
    ap (λ b. b || list_any (keeps_group c.args.log.now c.args.group) (map making_of (drop (c.loop-made.made-index + 1) c.as_slice-known.result.now))) (sym c.if-keeps_group.false ∙ c.keeps_group.ensures)
    ∙ any_step (keeps_group c.args.log.now c.args.group) making_of c.as_slice-known.result.now c.loop-made.made-index c.made-item.result (omega arith) c.made-item.is
    ∙ c.loop-made.invariant
