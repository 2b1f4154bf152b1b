use Rattle.std.proofs.Common.{◌++◌}
use Rattle.sb_proc.proofs.Laid.{laid_turn, laid_less, laid_end}
use Rattle.sb_proc.proofs.rest.lay_out.Goals as goal

pub items-preserved : goal.items-preserved
items-preserved g c =
    laid_turn c.items.opened c.pop.new.self c.items.others.items c.push_front.new.self.items (c.args.opened.now ++ c.args.others.now.items) c.in-Some.item
    c.in-Some.ensures c.in_ok-push_front.ensures.items c.items.invariant

pub items-smaller : goal.items-smaller
items-smaller g c = laid_less c.items.opened c.pop.new.self c.in-Some.item c.in-Some.ensures

pub returns-clause-laid : goal.returns-clause-laid
returns-clause-laid g c =
    laid_end c.items.opened c.items.others.items (c.args.opened.now ++ c.args.others.now.items) c.in_default.ensures.0 c.items.invariant
