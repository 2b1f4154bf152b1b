use Rattle.sb_script.proofs.Alone.{one_saying}
use Rattle.sb_script.proofs.facts.bytes_say_one_thing.Goals as goal

pub returns : goal.returns
returns c = one_saying
