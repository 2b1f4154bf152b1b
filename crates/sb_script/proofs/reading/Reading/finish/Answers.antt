use Rattle.std.proofs.Common.{[]}
use Rattle.sb_script.proofs.Goes.{last_piece}
use Rattle.sb_script.proofs.reading.Reading.finish.Goals as goal

pub returns-in-Ok-clause-goes_on : goal.returns-in-Ok-clause-goes_on
returns-in-Ok-clause-goes_on c = rw last_piece (c.in-Ok.ensures.goes_on [])

pub returns-in-Err-clause-stops : goal.returns-in-Err-clause-stops
returns-in-Err-clause-stops c = rw last_piece (c.in-Err.ensures.stops [])
