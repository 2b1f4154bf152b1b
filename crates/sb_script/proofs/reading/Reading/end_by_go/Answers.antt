use Rattle.sb_script.proofs.reading.Reading.end_by_go.Goals as goal

pub returns-in-Err-clause-stops : goal.returns-in-Err-clause-stops
returns-in-Err-clause-stops c = λ ps. rw (← c.replace-text.ensures.value) (c.in-Err.ensures.stops ps)
