use Rattle.std.proofs.Common.{◌≤◌, length}
use Rattle.sb_grammar.specs.Definitions.{commas}
use Rattle.sb_grammar.specs.Values.{name}
use Rattle.sb_parse.proofs.Members.{Members}
use Rattle.sb_parse.proofs.contracts.names.Given as goal

abbrev pub invariant-members : goal.invariant-members
invariant-members l = Members name l.all l.rest ((commas name).reads l.fn.tokens) × (length l.rest ≤ length l.fn.tokens)

abbrev pub decreases-members : goal.decreases-members
decreases-members l = length l.rest
