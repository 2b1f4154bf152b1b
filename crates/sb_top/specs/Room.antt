-- How full a history is.
use Rattle.std.specs.Prelude.{◌≡◌, ℕ, suc, ◌<◌, nat_le, Bool, false, ◌||◌, List, length, take}
use Rattle.sb_log.specs.declared.steps.Step.{Step}
use Rattle.sb_show.specs.Transcript.{transcript}

-- the steps so far, and room for more of them
pub record Recorded : Type 0 where
  pub steps : List Step
  pub spare : ℕ

-- a history is full at 200,000 steps, or at 536,870,912 bytes of transcript
abbrev pub is_full : List Step → Bool
is_full history = nat_le 200000 (length history) || nat_le 536870912 (length (transcript history))

-- no step came to a full history
abbrev pub HasRoomThroughout : List Step → Type 0
HasRoomThroughout history = (n : ℕ) → n < length history → is_full (take n history) ≡ false

-- one step came to a history with room
pub record IsLonger (before now : List Step) : Type 0 where
  pub room : length before < 200000
  pub one : length now ≡ suc (length before)
