-- How a transcript prints names, ids, numbers, bodies and sides.
use Rattle.std.specs.Prelude.{ℕ, ℤ, ◌+◌, ◌/◌, ◌%◌, ◌==◌, ◌-◌, ◌^◌, min, nat_lt, Bool, true, false, if◌then◌else◌, List, [], ◌∷◌, ◌++◌, flat_map, Option, None, Some, codes}
use Rattle.std.specs.Fmt.{decimal, signed_decimal}
use Rattle.sb_log.specs.Handles.{text_of_handle}
use Rattle.sb_log.specs.declared.identifiers.Handle.{Handle}
use Rattle.sb_log.specs.declared.identifiers.Who.{Who}
use Rattle.sb_log.specs.declared.identifiers.Who.TheVariants as who
use Rattle.sb_log.specs.declared.identifiers.Session.{Session}
use Rattle.sb_log.specs.declared.identifiers.Actor.{Actor}
use Rattle.sb_log.specs.declared.identifiers.Actor.TheVariants as actor
use Rattle.sb_log.specs.declared.identifiers.SideId.{SideId}
use Rattle.sb_log.specs.declared.identifiers.State.{State}
use Rattle.sb_log.specs.declared.identifiers.State.TheVariants as state
use Rattle.sb_log.specs.declared.messages.Kind.{Kind}
use Rattle.sb_log.specs.declared.messages.Kind.TheVariants as kind
use Rattle.sb_model.specs.ErrorBody.{utf16}

abbrev pub letter : Who → List ℕ
letter who.A = codes "A"
letter who.B = codes "B"

-- a number behind a word
unfoldable pub numbered : List ℕ → ℕ → List ℕ
numbered word n = word ++ decimal n

-- a session as its instance and its number, which is 1 to 9
abbrev pub session_text : Session → List ℕ
session_text s = letter s.instance ++ (48 + s.number % 10) ∷ []

-- who makes a step: `A1` is session 1 of A, `B.r2` is reader 2 of B
abbrev pub actor_text : Actor → List ℕ
actor_text actor.World = codes "world"
actor_text (actor.Session s) = session_text s
actor_text (actor.Reader x n) = letter x ++ codes ".r" ++ decimal n

abbrev pub end_text : Bool → List ℕ
end_text true = codes " i"
end_text false = codes " t"

-- a side as its conversation and which end it is
unfoldable pub side_text : SideId → List ℕ
side_text s = text_of_handle s.conversation ++ end_text s.initiator

-- a byte of a name, a closing bracket doubled
abbrev pub name_byte : ℕ → List ℕ
name_byte b = if b == 93 then 93 ∷ 93 ∷ [] else b ∷ []

-- a name in brackets
unfoldable pub name_text : List ℕ → List ℕ
name_text name = codes "[" ++ flat_map name_byte name ++ codes "]"

-- the name of a type of the broker's own
abbrev pub system_type : List ℕ → List ℕ
system_type name = codes "http://schemas.microsoft.com/SQL/ServiceBroker/" ++ name

abbrev pub kind_name : Kind → List ℕ
kind_name (kind.App name) = name
kind_name kind.EndDialog = system_type (codes "EndDialog")
kind_name kind.Error = system_type (codes "Error")
kind_name kind.DialogTimer = system_type (codes "DialogTimer")

-- a hexadecimal digit in lower case
abbrev pub digit : ℕ → ℕ
digit d = if nat_lt d 10 then 48 + d else 87 + d

abbrev pub byte_text : ℕ → List ℕ
byte_text b = digit (b / 16) ∷ digit (b % 16) ∷ []

-- bytes as `0x` and two digits each
unfoldable pub digits_text : List ℕ → List ℕ
digits_text bytes = codes "0x" ++ flat_map byte_text bytes

-- what may be missing is printed as NULL then
abbrev pub or_null : {A : Type 0} → (A → List ℕ) → Option A → List ℕ
or_null f None = codes "NULL"
or_null f (Some x) = f x

abbrev pub body_text : Option (List ℕ) → List ℕ
body_text body = or_null digits_text body

-- a row's body is printed as the bytes of its UTF-16LE
abbrev pub row_body_text : Option (List ℕ) → List ℕ
row_body_text body = or_null (λ text. digits_text (utf16 text)) body

abbrev pub group_text : Option Handle → List ℕ
group_text group = or_null text_of_handle group

abbrev pub number_or_null : Option ℤ → List ℕ
number_or_null n = or_null signed_decimal n

abbrev pub state_text : State → List ℕ
state_text state.SO = codes "SO"
state_text state.SI = codes "SI"
state_text state.CO = codes "CO"
state_text state.DI = codes "DI"
state_text state.DO = codes "DO"
state_text state.ER = codes "ER"
state_text state.CD = codes "CD"

-- a number, or the greatest that a u64 holds
abbrev pub capped : ℕ → ℕ
capped n = min n (2 ^ 64 - 1)
