use Rattle.std.proofs.Common.{◌≡◌, Ok, sym, ap, ◌∙◌, rules}
use Rattle.sb_proc.specs.Asking.{place_in, scope_in}
use Rattle.sb_proc.proofs.Dialogs.{dialog_goes}
use Rattle.sb_proc.proofs.request.begin_dialog.Goals as goal

pub returns : goal.returns
returns c =
    let source : c.in_ok-clone.field-0 ≡ c.args.from.now = search rules in
    let copy : c.in_ok-clone-2.field-0 ≡ c.args.contract.now = search rules in
    dialog_goes (place_in c.args.asking.now) (scope_in c.args.asking.now) c.args.variable.now c.args.from.now _ c.args.to.now _ c.args.instance _ c.args.contract.now _
    c.args.options.now _ c.in_ok-chosen.chosen c.in_ok-is_declared.ensures (c.in_ok-to.ensures ∙ ap Ok (sym c.to.view_is)) c.as_slice.ensures c.in_ok-chosen.ensures
    source c.instance_if_written.ensures copy
