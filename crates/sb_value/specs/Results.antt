-- Sums, differences and comparisons.
use Rattle.std.specs.Prelude.{ℤ, ◌+ℤ◌, ◌-ℤ◌, int_lt, Bool, false, ◌++◌, if◌then◌else◌, Result, Ok, Err}
use Rattle.sb_log.specs.declared.refusals.ValueKind.TheVariants as kind
use Rattle.sb_model.specs.Rows.{same_int}
use Rattle.sb_model.specs.Sides.{same_name, same_id}
use Rattle.sb_value.specs.declared.fault.Fault.{Fault}
use Rattle.sb_value.specs.declared.fault.Fault.TheVariants.{Overflow}
use Rattle.sb_value.specs.declared.value.Value.{Value}
use Rattle.sb_value.specs.declared.value.Value.TheVariants as value
use Rattle.sb_value.specs.Faults.{want}
use Rattle.sb_value.specs.Values.{is_bigint, as_number, as_text, as_bytes, as_identifier}

-- a result with this left operand: a BIGINT, or it leaves them
abbrev pub within_bigint : ℤ → ℤ → Result Value Fault
within_bigint left z = if is_bigint z then Ok (value.Number z) else Err (Overflow left)

-- `+` adds BIGINTs where its left value is one, and else joins texts; with NULL it is NULL
abbrev pub plus : Value → Value → Result Value Fault
plus value.Null b = Ok value.Null
plus a value.Null = Ok value.Null
plus (value.Number x) b = want (as_number b) kind.Bigint (λ y. within_bigint x (x +ℤ y))
plus a b = want (as_text a) kind.Text (λ s. want (as_text b) kind.Text (λ t. Ok (value.Text (s ++ t))))

-- `-` subtracts BIGINTs; with NULL it is NULL
abbrev pub minus : Value → Value → Result Value Fault
minus value.Null b = Ok value.Null
minus a value.Null = Ok value.Null
minus a b = want (as_number a) kind.Bigint (λ x. want (as_number b) kind.Bigint (λ y. within_bigint x (x -ℤ y)))

-- `=` compares the right value, as one of the left one's kind; nothing is equal to NULL
abbrev pub is_equal : Value → Value → Result Bool Fault
is_equal value.Null b = Ok false
is_equal a value.Null = Ok false
is_equal (value.Number x) b = want (as_number b) kind.Bigint (λ y. Ok (same_int x y))
is_equal (value.Text x) b = want (as_text b) kind.Text (λ y. Ok (same_name x y))
is_equal (value.Bytes x) b = want (as_bytes b) kind.Bytes (λ y. Ok (same_name x y))
is_equal (value.Identifier x) b = want (as_identifier b) kind.Identifier (λ y. Ok (same_id x y))

-- `<` orders BIGINTs alone; with NULL it doesn't hold
abbrev pub is_less : Value → Value → Result Bool Fault
is_less value.Null b = Ok false
is_less a value.Null = Ok false
is_less a b = want (as_number a) kind.Bigint (λ x. want (as_number b) kind.Bigint (λ y. Ok (int_lt x y)))
