use Rattle.std.proofs.Common.{◌≡◌, drop, fold}
use Rattle.sb_proc.specs.Replies.{after_selected}
use Rattle.sb_proc.specs.Scopes.{scope_with}
use Rattle.sb_proc.proofs.replies.take_parts.Given as goal

abbrev pub invariant-loop-part : goal.invariant-loop-part
invariant-loop-part l =
    scope_with l.variables (fold (after_selected l.row) l.variables.variables (drop l.part-index l.selected))
    ≡ scope_with l.initial.variables (fold (after_selected l.row) l.initial.variables.variables l.selected)
