use Rattle.std.proofs.Common.{◌∙◌, ap, drop}
use Rattle.std.specs.Prelude.{is_none}
use Rattle.sb_model.specs.Messages.{numbered}
use Rattle.sb_model.specs.States.{is_empty}
use Rattle.sb_scan.proofs.Looking.{none_behind}
use Rattle.sb_scan.proofs.state.is_all_acked.Goals as goal

pub returns-in-Some : goal.returns-in-Some
returns-in-Some c =
    ap is_none c.in-Some.ensures ∙ none_behind (numbered c.args.log.now c.args.side) c.acked-upto.result
    ∙ ap (λ n. is_empty (drop n (numbered c.args.log.now c.args.side))) c.acked-upto.ensures

pub returns-in-None : goal.returns-in-None
returns-in-None c =
    ap is_none c.in-None.ensures ∙ none_behind (numbered c.args.log.now c.args.side) c.acked-upto.result
    ∙ ap (λ n. is_empty (drop n (numbered c.args.log.now c.args.side))) c.acked-upto.ensures
