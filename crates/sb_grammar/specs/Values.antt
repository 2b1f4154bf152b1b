-- What single tokens stand for.
use Rattle.std.specs.Prelude.{ℕ, ℤ, pos, ◌+◌, ◌-◌, ◌*◌, ◌^◌, Bool, true, false, ◌&&◌, nat_lt, List, [], ◌∷◌, codes, fold, Option, Some, None, if◌then◌else◌}
use Rattle.std.specs.Str.{is_utf8, bytes_eq}
use Rattle.std.specs.List.{list_any}
use Rattle.std.specs.Option.{option_map}
use Rattle.sb_log.specs.declared.refusals.ValueKind.{ValueKind}
use Rattle.sb_log.specs.declared.refusals.ValueKind.TheVariants as kinds
use Rattle.sb_log.specs.declared.identifiers.Handle.{Handle}
use Rattle.sb_log.specs.Names.{is_name}
use Rattle.sb_log.specs.Handles.{handle_of_text}
use Rattle.sb_lex.specs.declared.token.TokenKind.{TokenKind}
use Rattle.sb_lex.specs.declared.token.TokenKind.TheVariants as tokens
use Rattle.sb_grammar.specs.declared.lexeme.Lexeme.{Lexeme}
use Rattle.sb_grammar.specs.declared.word.Fixed.{Fixed}
use Rattle.sb_grammar.specs.declared.word.Fixed.TheVariants as fixed
use Rattle.sb_grammar.specs.declared.choice.KindWord.{KindWord}
use Rattle.sb_grammar.specs.declared.tree.BrokerInstance.{BrokerInstance}
use Rattle.sb_grammar.specs.declared.tree.BrokerInstance.TheVariants as instances
use Rattle.sb_grammar.specs.Words.{is_fixed, fixed_at, example}
use Rattle.sb_grammar.specs.Rules.{Rule, token, also, alt, bind, map_rule, pure, nothing}

-- a fixed word or sign
abbrev pub sign : Fixed → Rule (Unit {0})
sign w = token (fixed_at w) (example w) tt

-- a fixed word or sign, and then a rule
abbrev pub word : {A : Type 0} → Fixed → Rule A → Rule A
word w r = also (sign w) r

-- fixed words and signs one after the other
unfoldable pub phrase : List Fixed → Rule (Unit {0})
phrase [] = nothing
phrase (w ∷ ws) = word w (phrase ws)

-- the words that a bare name can't be: ANY and each that a statement begins with
abbrev pub reserved : List Fixed
reserved =
    fixed.Any ∷ fixed.Create ∷ fixed.Alter ∷ fixed.Begin ∷ fixed.Commit ∷ fixed.Rollback ∷ fixed.Send ∷ fixed.Waitfor ∷ fixed.Receive ∷ fixed.Get
    ∷ fixed.Move ∷ fixed.End ∷ fixed.Insert ∷ fixed.Update ∷ fixed.Delete ∷ fixed.Select ∷ fixed.Declare ∷ fixed.Set ∷ fixed.If ∷ fixed.Return ∷ []

unfoldable pub is_reserved : Lexeme → Bool
is_reserved t = list_any (λ w. is_fixed w t) reserved

-- a text is in UTF-8
abbrev pub text_by : List ℕ → Option (List ℕ)
text_by value = if is_utf8 value then Some value else None

abbrev pub named : List ℕ → Option (List ℕ)
named value = if is_utf8 value && is_name value then Some value else None

abbrev pub name_by : TokenKind → Bool → List ℕ → Option (List ℕ)
name_by tokens.Word true value = None
name_by tokens.Word false value = named value
name_by tokens.Bracketed is_reserved value = named value
name_by tokens.Quoted is_reserved value = named value
name_by _ is_reserved value = None

-- a name, bare or in brackets or quotes
unfoldable pub name_of : Lexeme → Option (List ℕ)
name_of t = name_by t.kind (is_reserved t) t.value

abbrev pub example_name : Lexeme
example_name = record { kind = tokens.Word; value = codes "x"; start = 0; end = 0 }

abbrev pub name : Rule (List ℕ)
name = token name_of example_name (codes "x")

-- a name, and before it the schema, which is dropped
unfoldable pub qname : Rule (List ℕ)
qname = alt (fixed_at fixed.Schema) (λ _. word fixed.Dot name) name (λ _. Unit {0})

abbrev pub variable_by : TokenKind → List ℕ → Option (List ℕ)
variable_by tokens.Variable value = text_by value
variable_by _ value = None

unfoldable pub variable_of : Lexeme → Option (List ℕ)
variable_of t = variable_by t.kind t.value

abbrev pub example_variable : Lexeme
example_variable = record { kind = tokens.Variable; value = codes "@"; start = 0; end = 0 }

abbrev pub variable : Rule (List ℕ)
variable = token variable_of example_variable (codes "@")

abbrev pub text_value : TokenKind → List ℕ → Option (List ℕ)
text_value tokens.Text value = text_by value
text_value _ value = None

-- a text literal
unfoldable pub text_of : Lexeme → Option (List ℕ)
text_of t = text_value t.kind t.value

abbrev pub example_text : Lexeme
example_text = record { kind = tokens.Text; value = []; start = 0; end = 0 }

abbrev pub text : Rule (List ℕ)
text = token text_of example_text []

-- one more decimal digit
abbrev pub with_digit : ℕ → ℕ → ℕ
with_digit n b = n * 10 + (b - 48)

abbrev pub number_by : ℕ → Option ℤ
number_by n = if nat_lt n (2 ^ 63) then Some (pos n) else None

abbrev pub number_value : TokenKind → List ℕ → Option ℤ
number_value tokens.Number value = number_by (fold with_digit 0 value)
number_value _ value = None

-- decimal digits of a BIGINT
unfoldable pub number_of : Lexeme → Option ℤ
number_of t = number_value t.kind t.value

abbrev pub example_number : Lexeme
example_number = record { kind = tokens.Number; value = codes "1"; start = 0; end = 0 }

abbrev pub number : Rule ℤ
number = token number_of example_number (pos 1)

unfoldable pub on_off_of : Lexeme → Option Bool
on_off_of t = if is_fixed fixed.On t then Some true else (if is_fixed fixed.Off t then Some false else None)

abbrev pub on_off : Rule Bool
on_off = token on_off_of (example fixed.On) true

abbrev pub plain_kind : ValueKind → Option KindWord
plain_kind k = Some (record { kind = k; is_sized = false })

abbrev pub sized_kind : ValueKind → Option KindWord
sized_kind k = Some (record { kind = k; is_sized = true })

-- a kind's first word
unfoldable pub kind_word_of : Lexeme → Option KindWord
kind_word_of t =
    if is_fixed fixed.BigInt t then plain_kind kinds.Bigint
    else (if is_fixed fixed.Int t then plain_kind kinds.Bigint
    else (if is_fixed fixed.SysName t then plain_kind kinds.Text
    else (if is_fixed fixed.UniqueIdentifier t then plain_kind kinds.Identifier
    else (if is_fixed fixed.NVarChar t then sized_kind kinds.Text
    else (if is_fixed fixed.VarBinary t then sized_kind kinds.Bytes else None)))))

abbrev pub some_number : Option ℤ → Option (Unit {0})
some_number None = None
some_number (Some n) = Some tt

-- the length of a kind, which says nothing
unfoldable pub size_of : Lexeme → Option (Unit {0})
size_of t = if is_fixed fixed.Max t then Some tt else some_number (number_of t)

abbrev pub size : Rule (Unit {0})
size = token size_of (example fixed.Max) tt

abbrev pub kind_by : ValueKind → Bool → Rule ValueKind
kind_by kind false = pure kind
kind_by kind true = word fixed.Open (also (token size_of (example fixed.Max) tt) (map_rule (λ _. kind) (sign fixed.Close)))

abbrev pub kind_rest : KindWord → Rule ValueKind
kind_rest k = kind_by k.kind k.is_sized

abbrev pub example_kind : KindWord
example_kind = record { kind = kinds.Bigint; is_sized = false }

unfoldable pub kind : Rule ValueKind
kind = bind (token kind_word_of (example fixed.BigInt) example_kind) kind_rest (λ _. Unit {0})

-- the handle that a text spells
abbrev pub handle_by : List ℕ → Option Handle
handle_by value = if is_utf8 value then handle_of_text value else None

abbrev pub broker_value : TokenKind → List ℕ → Option BrokerInstance
broker_value tokens.Text value = if bytes_eq value (codes "CURRENT DATABASE") then Some instances.Current else option_map instances.Other (handle_by value)
broker_value _ value = None

-- the broker instance of a dialog's target
unfoldable pub broker_of : Lexeme → Option BrokerInstance
broker_of t = broker_value t.kind t.value

abbrev pub example_broker : Lexeme
example_broker = record { kind = tokens.Text; value = codes "CURRENT DATABASE"; start = 0; end = 0 }

abbrev pub broker : Rule BrokerInstance
broker = token broker_of example_broker instances.Current
