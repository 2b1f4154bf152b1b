use Rattle.std.proofs.Common.{sym, ◌∙◌, ap}
use Rattle.std.specs.Prelude.{is_some}
use Rattle.sb_model.specs.Sides.{is_of, made_by}
use Rattle.sb_scan.specs.Seen.{making_of}
use Rattle.sb_scan.proofs.Looking.{is_some-map, is_some-find}
use Rattle.sb_scan.proofs.level.makes.Goals as goal

pub returns : goal.returns
returns c =
    c.is_some.ensures ∙ sym (is_some-map making_of c.made_in.result) ∙ ap is_some c.made_in.ensures
    ∙ is_some-find (is_of c.args.side) (made_by c.args.entry.now)
