use Rattle.sb_proc.proofs.Chains.{reached_does, end_does_nothing, told_does, denied_ends, failed_ends}
use Rattle.sb_proc.proofs.facts.acts_are_what_the_block_does.Goals as goal

pub returns-clause-reached : goal.returns-clause-reached
returns-clause-reached c = reached_does

pub returns-clause-end : goal.returns-clause-end
returns-clause-end c = end_does_nothing

pub returns-clause-told : goal.returns-clause-told
returns-clause-told c = told_does

pub returns-clause-denied : goal.returns-clause-denied
returns-clause-denied c = denied_ends

pub returns-clause-failed : goal.returns-clause-failed
returns-clause-failed c = failed_ends
