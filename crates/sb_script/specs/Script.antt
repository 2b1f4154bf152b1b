-- Scripts: which pieces their lines make, and what these say.
use Rattle.std.specs.Prelude.{◌≡◌, ℕ, ◌+◌, ◌==◌, nat_lt, Bool, true, false, List, [], ◌∷◌, ◌++◌, length, take, count_by, Option, None, Some, Result, Ok, Err}
use Rattle.std.specs.Str.{is_utf8}
use Rattle.std.specs.Str.Lossy.{utf8_valid_len}
use Rattle.std.specs.Str.Lines.{lines}
use Rattle.sb_grammar.specs.Batches as grammar
use Rattle.sb_grammar.specs.declared.tree.Statement.{Statement}
use Rattle.sb_parse.specs.declared.text.ParseRefused.{ParseRefused}
use Rattle.sb_parse.specs.declared.text.ParseRefused.TheVariants as parse
use Rattle.sb_parse.specs.Places.{IsSpelledIn, Refuses}
use Rattle.sb_script.specs.declared.commands.BadWhy.{BadWhy}
use Rattle.sb_script.specs.declared.commands.BadWhy.TheVariants as why
use Rattle.sb_script.specs.declared.commands.Command.{Command}
use Rattle.sb_script.specs.declared.commands.Command.TheVariants as command
use Rattle.sb_script.specs.declared.lines.Line.{Line}
use Rattle.sb_script.specs.declared.lines.Line.TheVariants as line
use Rattle.sb_script.specs.Lines.{line_of, trimmed}
use Rattle.sb_script.specs.Commands.{command_of}

-- the most bytes that a script has
abbrev pub limit : ℕ
limit = 8388608

-- a line that is refused, from 1, and why
pub record BadLine : Type 0 where
  pub line : ℕ
  pub why : BadWhy

abbrev pub bad_line : ℕ → BadWhy → BadLine
bad_line number reason = record { line = number; why = reason }

-- what is said: commands, or the first refusal
abbrev pub Said : Type 0
Said = Result (List Command) BadLine

-- how many lines end in these bytes
abbrev pub line_ends : List ℕ → ℕ
line_ends z = count_by (λ b. b == 10) z

-- ---- pieces

-- a batch, by its first line and its text, or the line of a command and its number
pub data Piece : Type 0 where
  batch : ℕ → List ℕ → Piece
  command_line : ℕ → List ℕ → Piece

-- which pieces end with a line: GO ends a batch, and so does a command, which follows it
abbrev pub ended : Line → ℕ → List ℕ → ℕ → List ℕ → List Piece
ended line.Text first text number l = []
ended line.Go first text number l = batch first text ∷ []
ended line.Command first text number l = batch first text ∷ command_line number l ∷ []

-- the first line of the batch that is open behind a line
abbrev pub first_behind : Line → ℕ → ℕ → ℕ
first_behind line.Text first number = first
first_behind line.Go first number = number + 1
first_behind line.Command first number = number + 1

-- the text of the batch that is open behind a line: a batch keeps its lines
abbrev pub text_behind : Line → List ℕ → List ℕ → List ℕ
text_behind line.Text text l = text ++ (l ++ 10 ∷ [])
text_behind line.Go text l = []
text_behind line.Command text l = []

-- the pieces of lines, numbered from here on, behind a batch that is open, which has this first line and this text
unfoldable pub pieces : ℕ → List ℕ → ℕ → List (List ℕ) → List Piece
pieces first text number [] = batch first text ∷ []
pieces first text number (l ∷ ls) = ended (line_of l) first text number l ++ pieces (first_behind (line_of l) first number) (text_behind (line_of l) text l) (number + 1) ls

-- ---- what the pieces say

-- a batch is its text and its statements; one without statements is none
abbrev pub batched : List ℕ → List Statement → List Command
batched text [] = []
batched text (s ∷ ss) = command.Batch text (s ∷ ss) ∷ []

-- the line of a place in a batch
abbrev pub line_at : ℕ → List ℕ → ℕ → ℕ
line_at first text at = first + line_ends (take at text)

-- the line of the place that refuses a batch
abbrev pub named : ℕ → List ℕ → ParseRefused → Option BadLine
named first text parse.OutOfMemory = None
named first text (parse.BadStatement at) = Some (bad_line (line_at first text at) why.BadStatement)
named first text (parse.Unsupported at what) = Some (bad_line (line_at first text at) (why.Unsupported what))
named first text (parse.Unlexed at) = Some (bad_line (line_at first text at) why.Unlexed)

abbrev pub commanded : ℕ → Result Command BadWhy → Said
commanded number (Ok c) = Ok (c ∷ [])
commanded number (Err reason) = Err (bad_line number reason)

-- what a piece says: a batch what its tokens spell, or else its first place at which no spelling goes on
unfoldable pub PieceSays : Piece → Said → Type 0
PieceSays (batch first text) (Ok cs) = (block : List Statement) × IsSpelledIn (grammar.batch grammar.levels) block text × (cs ≡ batched text block)
PieceSays (batch first text) (Err bad) = (refused : ParseRefused) × Refuses (grammar.batch grammar.levels) text refused × (named first text refused ≡ Some bad)
PieceSays (command_line number l) said = said ≡ commanded number (command_of (trimmed l))

-- what is said behind a piece: nothing more behind a refusal
abbrev pub Behind : (List Command → Type 0) → Said → Said → Type 0
Behind Rest (Ok cs) said = Rest cs
Behind Rest (Err bad) said = said ≡ Err bad

-- what pieces say behind these commands: one after the other, up to the first refusal
unfoldable pub Say : List Piece → List Command → Said → Type 0
Say [] before said = said ≡ Ok before
Say (p ∷ ps) before said = (here : Said) × PieceSays p here × Behind (λ cs. Say ps (before ++ cs) said) here said

-- ---- scripts

-- the pieces of a whole text
abbrev pub pieces_of : List ℕ → List Piece
pieces_of text = pieces 1 [] 1 (lines text)

-- the number of the line behind these bytes
abbrev pub line_behind : List ℕ → ℕ
line_behind z = line_ends z + 1

-- what bytes say, by whether they are too long and whether they are text
abbrev pub SayBy : Bool → Bool → List ℕ → Said → Type 0
SayBy true _ bytes said = said ≡ Err (bad_line (line_behind (take limit bytes)) why.TooLong)
SayBy false false bytes said = said ≡ Err (bad_line (line_behind (take (utf8_valid_len bytes) bytes)) why.NotText)
SayBy false true bytes said = Say (pieces_of bytes) [] said

-- what the bytes of a script say
abbrev pub ScriptSays : List ℕ → Said → Type 0
ScriptSays bytes said = SayBy (nat_lt limit (length bytes)) (is_utf8 bytes) bytes said
