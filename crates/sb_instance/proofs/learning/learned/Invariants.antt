use Rattle.sb_instance.proofs.Learned.{IsLearned}
use Rattle.sb_instance.proofs.learning.learned.Given as goal

abbrev pub invariant-loop-entry : goal.invariant-loop-entry
invariant-loop-entry l = IsLearned l.log l.entry-index l.catalog
