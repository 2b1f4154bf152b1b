use Rattle.std.proofs.Common.{◌≤◌, length}
use Rattle.sb_grammar.specs.Definitions.{commas}
use Rattle.sb_grammar.specs.RowStatements.{declaration}
use Rattle.sb_grammar.specs.Exprs.{sum}
use Rattle.sb_parse.proofs.Members.{Members}
use Rattle.sb_parse.proofs.row.declarations.Given as goal

abbrev pub invariant-members : goal.invariant-members
invariant-members l = Members (declaration (sum l.levels)) l.all l.rest ((commas (declaration (sum l.levels))).reads l.fn.tokens) × (length l.rest ≤ length l.fn.tokens)

abbrev pub decreases-members : goal.decreases-members
decreases-members l = length l.rest
