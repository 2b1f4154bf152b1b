-- The transcript: the lines of each step.
use Rattle.std.specs.Prelude.{ℕ, List, ◌++◌, flat_map, codes}
use Rattle.sb_log.specs.declared.steps.Step.{Step}
use Rattle.sb_show.specs.Values.{actor_text}
use Rattle.sb_show.specs.Events.{event_text}
use Rattle.sb_show.specs.Answers.{answer_words, details}

-- a step is one line, who and what and the answer, and the lines of detail
unfoldable pub text_of_step : Step → List ℕ
text_of_step s = actor_text s.who ++ codes " " ++ event_text s.event ++ codes ": " ++ answer_words s.event s.answer ++ codes "\n" ++ details s.answer

-- the transcript of a history
abbrev pub transcript : List Step → List ℕ
transcript steps = flat_map text_of_step steps
