use Rattle.std.proofs.Common.{◌+◌, ◌*◌, ◌≤◌, length}
use Rattle.sb_grammar.specs.Words.{fixed_at}
use Rattle.sb_grammar.specs.declared.word.Fixed.TheVariants as fixed
use Rattle.sb_grammar.specs.Exprs.{and_step, or_step, test, conjunction, more_tests, more_conjunctions}
use Rattle.sb_grammar.proofs.Laws.{Turns}
use Rattle.sb_parse.proofs.condition.+condition.Given as goal

abbrev pub decreases-item : goal.decreases-item
decreases-item l = 16 * l.levels + 0

abbrev pub decreases-nested : goal.decreases-nested
decreases-nested l = 16 * l.levels + 9

abbrev pub decreases-bracketed : goal.decreases-bracketed
decreases-bracketed l = 16 * l.levels + 8

abbrev pub decreases-bracket_by : goal.decreases-bracket_by
decreases-bracket_by l = 16 * l.levels + 7

abbrev pub decreases-more_conjunctions : goal.decreases-more_conjunctions
decreases-more_conjunctions l = 16 * l.levels + 6

abbrev pub decreases-conjunction : goal.decreases-conjunction
decreases-conjunction l = 16 * l.levels + 4

abbrev pub decreases-more_tests : goal.decreases-more_tests
decreases-more_tests l = 16 * l.levels + 3

abbrev pub decreases-test : goal.decreases-test
decreases-test l = 16 * l.levels + 1

abbrev pub decreases-and_test : goal.decreases-and_test
decreases-and_test l = 16 * l.levels + 2

abbrev pub decreases-or_conjunction : goal.decreases-or_conjunction
decreases-or_conjunction l = 16 * l.levels + 5

abbrev pub invariant-more_tests-ands : goal.invariant-more_tests-ands
invariant-more_tests-ands l = Turns (fixed_at fixed.And) (and_step (test l.levels)) l.left l.rest ((more_tests (test l.levels) l.fn.first).reads l.fn.tokens) × (length l.rest ≤ length l.fn.tokens)

abbrev pub decreases-more_tests-ands : goal.decreases-more_tests-ands
decreases-more_tests-ands l = length l.rest

abbrev pub invariant-more_conjunctions-ors : goal.invariant-more_conjunctions-ors
invariant-more_conjunctions-ors l = Turns (fixed_at fixed.Or) (or_step (conjunction l.levels)) l.left l.rest ((more_conjunctions (conjunction l.levels) l.fn.first).reads l.fn.tokens) × (length l.rest ≤ length l.fn.tokens)

abbrev pub decreases-more_conjunctions-ors : goal.decreases-more_conjunctions-ors
decreases-more_conjunctions-ors l = length l.rest
