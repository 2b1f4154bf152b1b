-- How far the reading of a script came.
use Rattle.std.specs.Prelude.{ℕ, List, Option, None, Some, Ok, Err, string_bytes}
use Rattle.sb_script.specs.declared.commands.Command.{Command}
use Rattle.sb_script.specs.declared.reading.Reading.{Reading}
use Rattle.sb_script.specs.declared.reading.ScriptRefused.{ScriptRefused}
use Rattle.sb_script.specs.declared.reading.ScriptRefused.TheVariants as refused
use Rattle.sb_script.specs.Script.{BadLine, bad_line, Said, Piece, pieces, Say, ScriptSays}

-- the pieces of lines behind those that are read
abbrev pub left : Reading → List (List ℕ) → List Piece
left r ls = pieces r.first (string_bytes r.batch) r.number ls

-- what pieces say behind some commands is what other pieces say behind more commands
pub record GoesOn (whole : List Piece) (before : List Command) (rest : List Piece) (now : List Command) : Type 0 where
  pub says : (said : Said) → Say rest now said → Say whole before said
  pub only : (cs : List Command) → Say whole before (Ok cs) → Say rest now (Ok cs)

-- what a refusal says; memory may be wanting at any time
abbrev pub Refusing : (BadLine → Type 0) → ScriptRefused → Type 0
Refusing P (refused.BadLine number reason) = P (bad_line number reason)
Refusing P refused.OutOfMemory = Unit {0}

abbrev pub IsOutOfMemory : ScriptRefused → Type 0
IsOutOfMemory (refused.BadLine number reason) = ⊥
IsOutOfMemory refused.OutOfMemory = Unit {0}

abbrev pub refusal_of : Option BadLine → ScriptRefused
refusal_of None = refused.OutOfMemory
refusal_of (Some bad) = refused.BadLine bad.line bad.why

-- pieces behind some commands say this refusal and no commands, unless memory was wanting
pub record StopsAt (whole : List Piece) (before : List Command) (e : ScriptRefused) : Type 0 where
  pub says : Refusing (λ bad. Say whole before (Err bad)) e
  pub only : (cs : List Command) → Say whole before (Ok cs) → IsOutOfMemory e

-- the refusal of a script
abbrev pub IsRefusal : List ℕ → ScriptRefused → Type 0
IsRefusal bytes e = Refusing (λ bad. ScriptSays bytes (Err bad)) e
