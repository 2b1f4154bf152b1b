use Rattle.std.proofs.Common.{◌≤◌, length}
use Rattle.sb_grammar.specs.Batches.{AtEnd, batch_bars, batch_first, batch_turn, batch_more}
use Rattle.sb_parse.proofs.Series.{Goes}
use Rattle.sb_parse.proofs.batch.batch_more.Given as goal

abbrev pub invariant-turns : goal.invariant-turns
invariant-turns l = Goes batch_bars (batch_first 64) (batch_turn 64) AtEnd l.progress l.rest ((batch_more 64 l.fn.first).reads l.fn.tokens) × (length l.rest ≤ length l.fn.tokens)

abbrev pub decreases-turns : goal.decreases-turns
decreases-turns l = length l.rest
