use Rattle.std.proofs.Common.{◌≤◌, length}
use Rattle.sb_grammar.specs.Batches.{AtEnd, procedure_bars, procedure_first, procedure_turn, procedure_more}
use Rattle.sb_parse.proofs.Series.{Goes}
use Rattle.sb_parse.proofs.batch.procedure_more.Given as goal

abbrev pub invariant-turns : goal.invariant-turns
invariant-turns l = Goes procedure_bars (procedure_first 64) (procedure_turn 64) AtEnd l.progress l.rest ((procedure_more 64 l.fn.first).reads l.fn.tokens) × (length l.rest ≤ length l.fn.tokens)

abbrev pub decreases-turns : goal.decreases-turns
decreases-turns l = length l.rest
