use Rattle.sb_show.specs.Answers.{reply_words}
use Rattle.sb_show.proofs.answer.push_reply.Goals as goal

pub returns-in-Waiting : goal.returns-in-Waiting
unfolding reply_words
returns-in-Waiting c = rw c.in-Waiting.is c.push_numbered-in-Waiting.ensures
