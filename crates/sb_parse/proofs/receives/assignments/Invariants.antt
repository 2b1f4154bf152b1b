use Rattle.std.proofs.Common.{◌≤◌, length}
use Rattle.sb_grammar.specs.Dialogs.{assignment, assignments}
use Rattle.sb_parse.proofs.Members.{Members}
use Rattle.sb_parse.proofs.receives.assignments.Given as goal

abbrev pub invariant-members : goal.invariant-members
invariant-members l = Members assignment l.all l.rest ((assignments l.fn.variable).reads l.fn.tokens) × (length l.rest ≤ length l.fn.tokens)

abbrev pub decreases-members : goal.decreases-members
decreases-members l = length l.rest
