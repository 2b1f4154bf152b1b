use Rattle.std.proofs.Common.{sym, ◌∙◌, ap}
use Rattle.std.specs.Prelude.{is_some}
use Rattle.sb_scan.specs.Seen.{making_of}
use Rattle.sb_scan.proofs.Looking.{is_some-map, made_is_there}
use Rattle.sb_scan.proofs.making.has_side.Goals as goal

pub returns : goal.returns
returns c =
    c.is_some.ensures ∙ sym (is_some-map making_of c.made.result) ∙ ap is_some c.made.ensures ∙ made_is_there c.args.log.now c.args.side
