use Rattle.std.proofs.Common.{◌≡◌, drop}
use Rattle.sb_proc.specs.Scopes.{all_declared}
use Rattle.sb_proc.specs.Seen.{scope_of}
use Rattle.sb_proc.proofs.request.selected_declared.Given as goal

abbrev pub invariant-loop-part : goal.invariant-loop-part
invariant-loop-part l = all_declared (scope_of l.seen) (λ x. x.variable) (drop l.part-index l.selected) ≡ all_declared (scope_of l.seen) (λ x. x.variable) l.selected
