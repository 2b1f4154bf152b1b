-- How a run ends, what stands in the sink then, and what the source had.
use Rattle.std.specs.Prelude.{◌≡◌, ⊤, ℕ, ◌≤◌, ◌⊎◌, Bool, true, false, nat_eq, List, [], ◌∷◌, length, Option, Some, Ok, Err, codes}
use Rattle.std.specs.Cmp.Lexicographic.{pointwise}
use Rattle.std.specs.Io.KnownBytes.{Appends, Keeps, Consumes, IsAtEnd}
use Rattle.sb_log.specs.declared.steps.Step.{Step}
use Rattle.sb_script.specs.Script.{ScriptSays, bad_line, limit}
use Rattle.sb_script.specs.declared.commands.BadWhy.{BadWhy}
use Rattle.sb_script.specs.declared.commands.Command.{Command}
use Rattle.sb_show.specs.Transcript.{transcript}
use Rattle.sb_show.specs.Values.{capped}
use Rattle.sb_top.specs.Following.{Follows, FollowsSoFar, FollowsUpToMore}
use Rattle.sb_top.specs.Room.{is_full}
use Rattle.sb_top.specs.Writing.{IsWritten}
use Rattle.sb_top.specs.declared.ending.Why.{Why}
use Rattle.sb_top.specs.declared.ending.Why.TheVariants as why

-- the words of the command line are `steps` alone
abbrev pub is_steps : List (List ℕ) → Bool
is_steps [] = false
is_steps (word ∷ []) = pointwise nat_eq word (codes "steps")
is_steps (word ∷ next ∷ words) = false

-- the status of a program that ends for this reason
abbrev pub status_of : Why → ℕ
status_of why.Fine = 0
status_of (why.Script line bad) = 1
status_of why.Usage = 2
status_of why.ReadFault = 3
status_of why.WriteFault = 4
status_of why.OutOfMemory = 5
status_of (why.HistoryFull bytes steps) = 8

-- the name of the reason
abbrev pub name_of : Why → List ℕ
name_of why.Fine = codes "Fine"
name_of (why.Script line bad) = codes "Script"
name_of why.Usage = codes "Usage"
name_of why.ReadFault = codes "ReadFault"
name_of why.WriteFault = codes "WriteFault"
name_of why.OutOfMemory = codes "OutOfMemory"
name_of (why.HistoryFull bytes steps) = codes "HistoryFull"

-- ---- what is written

-- nothing was run, and nothing written
pub record IsIdle (old new : Option (List ℕ)) (history : List Step) (whole : ℕ) : Type 0 where
  pub nothing : Keeps old new
  pub no_step : history ≡ []
  pub none : whole ≡ 0

-- the whole transcript was written
pub record IsTold (old new : Option (List ℕ)) (history : List Step) (whole : ℕ) : Type 0 where
  pub text : Appends old new (transcript history)
  pub all : whole ≡ length history

-- what was written of a history
abbrev pub Wrote : Why → Option (List ℕ) → Option (List ℕ) → List Step → ℕ → Type 0
Wrote why.Fine old new history whole = IsTold old new history whole
Wrote (why.HistoryFull bytes steps) old new history whole = IsTold old new history whole
Wrote why.WriteFault old new history whole = IsWritten old new history whole
Wrote why.OutOfMemory old new history whole = IsWritten old new history whole
Wrote (why.Script line bad) old new history whole = IsIdle old new history whole
Wrote why.Usage old new history whole = IsIdle old new history whole
Wrote why.ReadFault old new history whole = IsIdle old new history whole

-- why the transcript isn't whole: the sink failed, or memory was wanting
abbrev pub why_unwritten : Bool → Why
why_unwritten true = why.WriteFault
why_unwritten false = why.OutOfMemory

-- ---- what is read and followed

-- a source was read to its end, or past the most bytes that a script has, and these are the bytes
pub record IsRead (old new : Option (List ℕ)) (bytes : List ℕ) : Type 0 where
  pub consumed : Consumes old new bytes
  pub whole : length bytes ≤ limit → IsAtEnd new

-- the source was read, its bytes are a script, and its commands are so
abbrev pub ReadsScript : Option (List ℕ) → Option (List ℕ) → (List Command → Type 0) → Type 0
ReadsScript old new P = (bytes : List ℕ) × (commands : List Command) × IsRead old new bytes × ScriptSays bytes (Ok commands) × P commands

-- the source was read to its end, and the history is one of its script
pub record HasFollowed (old new : Option (List ℕ)) (so : List Command → Type 0) : Type 0 where
  pub at_end : IsAtEnd new
  pub follows : ReadsScript old new so

-- how the history follows the script; where memory was wanting before, it is empty
abbrev pub Followed : Why → Option (List ℕ) → Option (List ℕ) → List Step → Type 0
Followed why.Fine old new history = HasFollowed old new (λ commands. Follows commands history)
Followed (why.HistoryFull bytes steps) old new history = HasFollowed old new (λ commands. FollowsUpToMore commands history)
Followed why.WriteFault old new history = ReadsScript old new (λ commands. FollowsSoFar commands history)
Followed why.OutOfMemory old new history = (history ≡ []) ⊎ ReadsScript old new (λ commands. FollowsSoFar commands history)
Followed (why.Script line bad) old new history = history ≡ []
Followed why.Usage old new history = history ≡ []
Followed why.ReadFault old new history = history ≡ []

-- how a run of these commands ends, and how its history follows them
abbrev pub Ran : Why → List Command → List Step → Type 0
Ran why.Fine commands history = Follows commands history
Ran (why.HistoryFull bytes steps) commands history = FollowsUpToMore commands history
Ran why.WriteFault commands history = FollowsSoFar commands history
Ran why.OutOfMemory commands history = FollowsSoFar commands history
Ran (why.Script line bad) commands history = ⊥
Ran why.Usage commands history = ⊥
Ran why.ReadFault commands history = ⊥

-- ---- why

-- these bytes say nothing but this refusal
pub record IsRefused (bytes : List ℕ) (line : ℕ) (bad : BadWhy) : Type 0 where
  pub says : ScriptSays bytes (Err (bad_line line bad))
  pub no_script : (commands : List Command) → ScriptSays bytes (Ok commands) → ⊥

-- Script: the bytes that were read are no script, by this line and for this reason
abbrev pub HasBadScript : Why → Option (List ℕ) → Option (List ℕ) → Type 0
HasBadScript (why.Script line bad) old new = (bytes : List ℕ) × IsRead old new bytes × IsRefused bytes line bad
HasBadScript _ old new = ⊤

-- HistoryFull: the history is full, and has so many bytes, at most 2^64 - 1, and steps
abbrev pub HasFilled : Why → List Step → Type 0
HasFilled (why.HistoryFull bytes steps) history =
    (is_full history ≡ true) × (bytes ≡ capped (length (transcript history))) × (steps ≡ length history)
HasFilled _ history = ⊤

abbrev pub IsScript : List ℕ → Type 0
IsScript bytes = (commands : List Command) × ScriptSays bytes (Ok commands)

-- with the word, a script and no fault the status is 0, or 5 where memory was wanting, or 8 where the history was full
abbrev pub Completes : Bool → Option (List ℕ) → Type 0 → Type 0 → ℕ → Type 0
Completes word left read_fault write_fault status =
    (bytes : List ℕ) → word ≡ true → left ≡ Some bytes → IsScript bytes → (read_fault → ⊥) → (write_fault → ⊥)
    → (status ≡ 0) ⊎ (status ≡ 5) ⊎ (status ≡ 8)
