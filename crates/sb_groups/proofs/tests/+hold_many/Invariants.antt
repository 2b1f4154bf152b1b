use Rattle.sb_groups.proofs.tests.+hold_many.Given as goal

abbrev pub decreases-hold_many : goal.decreases-hold_many
decreases-hold_many g l = l.left
