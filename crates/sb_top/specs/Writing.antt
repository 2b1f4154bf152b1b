-- How far a transcript was written.
use Rattle.std.specs.Prelude.{ℕ, ◌≤◌, List, length, take, Option}
use Rattle.std.specs.Io.KnownBytes.{Appends}
use Rattle.sb_model.specs.Survival.{IsPrefixOf}
use Rattle.sb_show.specs.Transcript.{transcript}
use Rattle.sb_log.specs.declared.steps.Step.{Step}

-- a beginning of the transcript of these steps was written, which has so many steps whole
pub record IsWritten (old new : Option (List ℕ)) (steps : List Step) (whole : ℕ) : Type 0 where
  pub bytes : List ℕ
  pub appended : Appends old new bytes
  pub within : whole ≤ length steps
  pub whole_steps : IsPrefixOf (transcript (take whole steps)) bytes
  pub part : IsPrefixOf bytes (transcript steps)
