-- How a transcript prints refusals.
use Rattle.std.specs.Prelude.{ℕ, List, [], ◌∷◌, ◌++◌, flat_map, codes}
use Rattle.std.specs.Fmt.{decimal, signed_decimal}
use Rattle.sb_log.specs.Handles.{text_of_handle}
use Rattle.sb_log.specs.declared.refusals.Refusal.{Refusal}
use Rattle.sb_log.specs.declared.refusals.Refusal.TheVariants as refusal
use Rattle.sb_log.specs.declared.refusals.ValueKind.{ValueKind}
use Rattle.sb_log.specs.declared.refusals.ValueKind.TheVariants as value
use Rattle.sb_log.specs.declared.steps.Barred.{Barred}
use Rattle.sb_log.specs.declared.steps.Barred.TheVariants as barred
use Rattle.sb_show.specs.Values.{letter, session_text, name_text, state_text}

-- a kind by its long keyword
abbrev pub value_text : ValueKind → List ℕ
value_text value.Bigint = codes "BIGINT"
value_text value.Text = codes "NVARCHAR"
value_text value.Bytes = codes "VARBINARY"
value_text value.Identifier = codes "UNIQUEIDENTIFIER"

abbrev pub next_number_text : ℕ → List ℕ
next_number_text n = codes " " ++ decimal n

-- numbers with a space between two
abbrev pub numbers_text : List ℕ → List ℕ
numbers_text [] = []
numbers_text (n ∷ ns) = decimal n ++ flat_map next_number_text ns

-- a refusal's number and name
abbrev pub refusal_words : Refusal → List ℕ
refusal_words (refusal.Down _) = codes "1 Down "
refusal_words (refusal.NoVariable _) = codes "2 NoVariable "
refusal_words (refusal.WrongKind _) = codes "3 WrongKind "
refusal_words (refusal.Overflow _) = codes "4 Overflow "
refusal_words (refusal.NoTransaction _) = codes "5 NoTransaction "
refusal_words (refusal.InTransaction _) = codes "6 InTransaction "
refusal_words (refusal.NameTaken _) = codes "7 NameTaken "
refusal_words (refusal.NoMessageType _) = codes "8 NoMessageType "
refusal_words (refusal.NoContract _) = codes "9 NoContract "
refusal_words (refusal.NoQueue _) = codes "10 NoQueue "
refusal_words (refusal.NoProcedure _) = codes "11 NoProcedure "
refusal_words (refusal.NoService _) = codes "12 NoService "
refusal_words (refusal.NoTable _) = codes "13 NoTable "
refusal_words (refusal.NothingFromInitiator _) = codes "14 NothingFromInitiator "
refusal_words refusal.TooMany = codes "15 TooMany 4096"
refusal_words (refusal.NoConversation _) = codes "16 NoConversation "
refusal_words (refusal.NoGroup _) = codes "17 NoGroup "
refusal_words (refusal.WrongState _) = codes "18 WrongState "
refusal_words (refusal.NotInContract _) = codes "19 NotInContract "
refusal_words (refusal.NotYours _) = codes "20 NotYours "
refusal_words (refusal.BodyNotEmpty _) = codes "21 BodyNotEmpty "
refusal_words (refusal.BodyTooLong _) = codes "22 BodyTooLong "
refusal_words (refusal.BadNumber _) = codes "23 BadNumber "
refusal_words (refusal.QueueOff _) = codes "24 QueueOff "
refusal_words (refusal.GroupHeld _) = codes "25 GroupHeld "
refusal_words (refusal.RowHeld _) = codes "26 RowHeld "
refusal_words (refusal.DuplicateKey _) = codes "27 DuplicateKey "
refusal_words (refusal.Deadlock _) = codes "28 Deadlock "
refusal_words (refusal.TooBig _) = codes "29 TooBig "
refusal_words (refusal.Full _) = codes "30 Full "
refusal_words (refusal.DiskFailed _) = codes "31 DiskFailed "
refusal_words refusal.OutOfMemory = codes "32 OutOfMemory"
refusal_words refusal.NotYet = codes "33 NotYet"

-- the value that a refusal shows
abbrev pub shown_value : Refusal → List ℕ
shown_value (refusal.Down x) = letter x
shown_value (refusal.NoVariable name) = name
shown_value (refusal.WrongKind k) = value_text k
shown_value (refusal.Overflow left) = signed_decimal left
shown_value (refusal.NoTransaction s) = session_text s
shown_value (refusal.InTransaction tx) = decimal tx
shown_value (refusal.NoConversation handle) = text_of_handle handle
shown_value (refusal.NoGroup group) = text_of_handle group
shown_value (refusal.WrongState s) = state_text s
shown_value (refusal.BodyNotEmpty bytes) = decimal bytes
shown_value (refusal.BodyTooLong bytes) = decimal bytes
shown_value (refusal.BadNumber number) = signed_decimal number
shown_value (refusal.GroupHeld tx) = decimal tx
shown_value (refusal.RowHeld tx) = decimal tx
shown_value (refusal.DuplicateKey key) = signed_decimal key
shown_value (refusal.Deadlock txs) = numbers_text txs
shown_value (refusal.TooBig bytes) = decimal bytes
shown_value (refusal.Full bytes) = decimal bytes
shown_value (refusal.DiskFailed x) = letter x
shown_value refusal.TooMany = []
shown_value refusal.OutOfMemory = []
shown_value refusal.NotYet = []
shown_value (refusal.NameTaken name) = name_text name
shown_value (refusal.NoMessageType name) = name_text name
shown_value (refusal.NoContract name) = name_text name
shown_value (refusal.NoQueue name) = name_text name
shown_value (refusal.NoProcedure name) = name_text name
shown_value (refusal.NoService name) = name_text name
shown_value (refusal.NoTable name) = name_text name
shown_value (refusal.NothingFromInitiator name) = name_text name
shown_value (refusal.NotInContract name) = name_text name
shown_value (refusal.NotYours name) = name_text name
shown_value (refusal.QueueOff name) = name_text name

-- number, name and value
unfoldable pub refusal_text : Refusal → List ℕ
refusal_text r = refusal_words r ++ shown_value r

-- a command of the world is refused without a number
abbrev pub barred_words : Barred → List ℕ
barred_words (barred.NoFrame _) = codes "NoFrame "
barred_words (barred.WireFull _) = codes "WireFull "
barred_words (barred.Up _) = codes "Up "
barred_words (barred.ClockBack _) = codes "ClockBack "
barred_words (barred.OpenSessions _) = codes "OpenSessions "
barred_words barred.Forged = codes "Forged"

abbrev pub barred_value : Barred → List ℕ
barred_value (barred.NoFrame number) = decimal number
barred_value (barred.WireFull bytes) = decimal bytes
barred_value (barred.Up x) = letter x
barred_value (barred.ClockBack moment) = decimal moment
barred_value (barred.OpenSessions s) = session_text s
barred_value barred.Forged = []

unfoldable pub barred_text : Barred → List ℕ
barred_text b = barred_words b ++ barred_value b
