-- Commands of the world: which lines spell them.
use Rattle.std.specs.Prelude.{ℕ, ◌+◌, ◌-◌, ◌*◌, nat_le, not, ◌&&◌, ◌||◌, if◌then◌else◌, List, [], ◌∷◌, codes, Option, None, Some, option_map, ok_or, Result, Err}
use Rattle.std.specs.Result.{result_ok}
use Rattle.std.specs.Char.{is_ascii_digit}
use Rattle.std.specs.List.{list_all}
use Rattle.hex.specs.Hex.{decode_of}
use Rattle.sb_log.specs.declared.identifiers.Who.{Who}
use Rattle.sb_log.specs.declared.identifiers.Who.TheVariants as who
use Rattle.sb_script.specs.declared.commands.BadWhy.{BadWhy}
use Rattle.sb_script.specs.declared.commands.BadWhy.TheVariants as why
use Rattle.sb_script.specs.declared.commands.Command.{Command}
use Rattle.sb_script.specs.declared.commands.Command.TheVariants as command
use Rattle.sb_script.specs.declared.commands.Word.{Word}
use Rattle.sb_script.specs.declared.commands.Word.TheVariants as words
use Rattle.sb_script.specs.Lines.{same, word, behind_word}

-- ---- numbers

-- the greatest number of a command
abbrev pub most : ℕ
most = 1000000000000

-- the number that digits spell behind those that spell n
abbrev pub decimal_from : ℕ → List ℕ → ℕ
decimal_from n [] = n
decimal_from n (d ∷ z) = decimal_from (n * 10 + (d - 48)) z

abbrev pub decimal : List ℕ → ℕ
decimal z = decimal_from 0 z

abbrev pub at_most : ℕ → ℕ → Option ℕ
at_most m n = if nat_le n m then Some n else None

-- the number that digits spell, at least one of them, unless it is too great
abbrev pub number_of : List ℕ → Option ℕ
number_of z = if same z [] || not (list_all is_ascii_digit z) then None else at_most most (decimal z)

-- ---- arguments

abbrev pub instance : List ℕ → Option Who
instance z = if same z (codes "A") then Some who.A else (if same z (codes "B") then Some who.B else None)

abbrev pub from_1_to_9 : Option ℕ → Option ℕ
from_1_to_9 None = None
from_1_to_9 (Some n) = if nat_le 1 n && nat_le n 9 then Some n else None

-- a session's number, 1 where none is spelled
abbrev pub session_number : List ℕ → Option ℕ
session_number z = if same z [] then Some 1 else from_1_to_9 (number_of z)

abbrev pub connect_by : Option Who → Option ℕ → Option Command
connect_by (Some i) (Some n) = Some (command.Connect (record { instance = i; number = n }))
connect_by (Some i) None = None
connect_by None n = None

-- an instance, and a session's number
abbrev pub connect : List ℕ → Option Command
connect z = connect_by (instance (word z)) (session_number (behind_word z))

-- pairs of hexadecimal digits in either case, none for no bytes
abbrev pub inject : List ℕ → Option Command
inject z = option_map command.Inject (result_ok (decode_of z))

-- nothing
abbrev pub alone : Command → List ℕ → Option Command
alone c z = if same z [] then Some c else None

abbrev pub of_number : Word → ℕ → Option Command
of_number words.Deliver n = Some (command.Deliver n)
of_number words.Lose n = Some (command.Lose n)
of_number words.Tick n = Some (command.Tick n)
of_number words.Clock n = Some (command.Clock n)
of_number words.Fuse n = Some (command.Fuse n)
of_number words.Crash n = Some (command.Crash n)
of_number _ n = None

-- a number
abbrev pub numbered : Word → Option ℕ → Option Command
numbered w None = None
numbered w (Some n) = of_number w n

-- ---- commands

abbrev pub later_word_of : List ℕ → Option Word
later_word_of z =
    if same z (codes ":clock") then Some words.Clock
    else (if same z (codes ":fuse") then Some words.Fuse
    else (if same z (codes ":crash") then Some words.Crash
    else (if same z (codes ":open") then Some words.Open
    else (if same z (codes ":serve") then Some words.Serve
    else (if same z (codes ":dump") then Some words.Dump
    else (if same z (codes ":inject") then Some words.Inject
    else None))))))

-- the words that commands begin with
abbrev pub word_of : List ℕ → Option Word
word_of z =
    if same z (codes ":connect") then Some words.Connect
    else (if same z (codes ":pump") then Some words.Pump
    else (if same z (codes ":deliver") then Some words.Deliver
    else (if same z (codes ":lose") then Some words.Lose
    else (if same z (codes ":clean") then Some words.Clean
    else (if same z (codes ":tick") then Some words.Tick
    else later_word_of z)))))

-- the command of a first word and what stands behind it, unless that is no argument of the command
abbrev pub argued : Word → List ℕ → Option Command
argued words.Connect z = connect z
argued words.Inject z = inject z
argued words.Pump z = alone command.Pump z
argued words.Clean z = alone command.Clean z
argued words.Open z = alone command.Open z
argued words.Serve z = alone command.Serve z
argued words.Dump z = alone command.Dump z
argued w z = numbered w (number_of z)

abbrev pub command_behind : Word → List ℕ → Result Command BadWhy
command_behind w z = ok_or (argued w z) why.BadArgument

abbrev pub command_by : Option Word → List ℕ → Result Command BadWhy
command_by None z = Err why.UnknownCommand
command_by (Some w) z = command_behind w z

-- what a line without the blanks at its ends commands
unfoldable pub command_of : List ℕ → Result Command BadWhy
command_of z = command_by (word_of (word z)) (behind_word z)
