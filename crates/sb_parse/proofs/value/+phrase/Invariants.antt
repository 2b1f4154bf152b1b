use Rattle.std.proofs.Common.{length}
use Rattle.sb_parse.proofs.value.+phrase.Given as goal

abbrev pub decreases-phrase : goal.decreases-phrase
decreases-phrase l = length l.words.now
