-- The scanner, as functions on the bytes of a text. A place past the end reads as 0, which begins and goes on with nothing.
use Rattle.std.specs.Prelude.{ℕ, zero, suc, ◌+◌, ◌-◌, Bool, true, false, not, ◌&&◌, ◌||◌, if◌then◌else◌, ◌==◌, List, [], ◌∷◌, ◌++◌, drop, slice_index, Option, Some, None}
use Rattle.std.specs.Char.{is_ascii_digit, is_ascii_hexdigit, is_ascii_alphabetic, is_ascii_alphanumeric}
use Rattle.std.specs.List.{prefix_len}
use Rattle.sb_lex.specs.declared.token.TokenKind.{TokenKind}
use Rattle.sb_lex.specs.declared.token.TokenKind.TheVariants.{Word, Bracketed, Quoted, Variable, Text, Binary, Number, Sign}
use Rattle.sb_lex.specs.declared.token.Token.{Token}
use Rattle.sb_lex.specs.declared.piece.Class.{Class}
use Rattle.sb_lex.specs.declared.piece.Class.TheVariants as class
use Rattle.sb_lex.specs.declared.piece.Piece.{Piece}
use Rattle.sb_lex.specs.declared.piece.Piece.TheVariants as piece

-- a byte of a class; a letter is an ASCII letter
abbrev pub is_in : Class → ℕ → Bool
is_in class.Blank b = b == 32 || b == 9 || b == 10
is_in class.Digit b = is_ascii_digit b
is_in class.Hex b = is_ascii_hexdigit b
is_in class.Letter b = is_ascii_alphabetic b || b == 95
is_in class.Word b = is_ascii_alphanumeric b || b == 95 || b == 36 || b == 35 || b == 64
is_in class.Line b = not (b == 10)

-- how many bytes of a class stand in front
abbrev pub run : Class → List ℕ → ℕ
run c z = prefix_len (is_in c) z

-- The place behind the closing quote, where z stands at `at`. A doubled quote closes nothing.
abbrev pub closing : ℕ → Bool → ℕ → List ℕ → Option ℕ
closing quote is_second at [] = None
closing quote true at (b ∷ z) = closing quote false (at + 1) z
closing quote false at (b ∷ z) =
    if b == quote && not (slice_index z 0 == quote) then Some (at + 1) else closing quote (b == quote) (at + 1) z

-- the place behind the end of the outermost of so many open comments
abbrev pub comment : ℕ → Bool → ℕ → List ℕ → Option ℕ
comment depth is_second at [] = None
comment depth true at (b ∷ z) = comment depth false (at + 1) z
comment depth false at (b ∷ z) =
    if b == 47 && slice_index z 0 == 42 then comment (depth + 1) true (at + 1) z
    else (if b == 42 && slice_index z 0 == 47 then (if depth == 1 then Some (at + 2) else comment (depth - 1) true (at + 1) z)
    else comment depth false (at + 1) z)

-- the place behind the pairs of hexadecimal digits in front
abbrev pub pairs : ℕ → List ℕ → ℕ
pairs at [] = at
pairs at (a ∷ []) = at
pairs at (a ∷ b ∷ z) = if is_in class.Hex a && is_in class.Hex b then pairs (at + 2) z else at

abbrev pub closed : TokenKind → Option ℕ → Piece
closed kind None = piece.Unlexed
closed kind (Some len) = piece.Token kind len

abbrev pub passed : Option ℕ → Piece
passed None = piece.Unlexed
passed (Some len) = piece.Gap len

-- what begins with a letter, by its first two bytes
abbrev pub letter_at : ℕ → ℕ → List ℕ → Piece
letter_at b c z = if b == 78 && c == 39 then closed Text (closing 39 false 2 (drop 2 z)) else piece.Token Word (run class.Word z)

-- what begins with a digit
abbrev pub digit_at : ℕ → ℕ → List ℕ → Piece
digit_at b c z = if b == 48 && c == 120 then piece.Token Binary (pairs 2 (drop 2 z)) else piece.Token Number (run class.Digit z)

-- a sign, by its first two bytes
unfoldable pub sign : ℕ → ℕ → Piece
sign b c =
    if b == 60 && c == 62 then piece.Token Sign 2
    else (if b == 40 || b == 41 || b == 44 || b == 46 || b == 59 || b == 61 || b == 60 || b == 62 || b == 43 || b == 45 || b == 42 then piece.Token Sign 1
    else piece.Unlexed)

-- what begins with neither a letter, `@` nor a digit
unfoldable pub other_at : ℕ → ℕ → List ℕ → Piece
other_at b c z =
    if is_in class.Blank b then piece.Gap 1
    else (if b == 45 && c == 45 then piece.Gap (run class.Line z)
    else (if b == 47 && c == 42 then passed (comment 1 false 2 (drop 2 z))
    else (if b == 39 then closed Text (closing 39 false 1 (drop 1 z))
    else (if b == 34 then closed Quoted (closing 34 false 1 (drop 1 z))
    else (if b == 91 then closed Bracketed (closing 93 false 1 (drop 1 z))
    else sign b c)))))

-- what stands in front: a token of a kind and a length, a blank or a comment, or neither
unfoldable pub piece_at : List ℕ → Piece
piece_at z =
    let b = slice_index z 0 in
    let c = slice_index z 1 in
    if is_in class.Letter b then letter_at b c z
    else (if b == 64 then piece.Token Variable (run class.Word z)
    else (if is_in class.Digit b then digit_at b c z
    else other_at b c z))

-- the tokens of a text, and the place where the first thing stands that is none
pub record Tokens : Type 0 where
  pub tokens : List Token
  pub unlexed : Option ℕ

abbrev pub before : Token → Tokens → Tokens
before t ts = record { tokens = t ∷ ts.tokens; unlexed = ts.unlexed }

-- what a piece at a place gives, where next gives the tokens behind a piece that has so many bytes more than one
abbrev pub tokens_by : Piece → ℕ → (ℕ → Tokens) → Tokens
tokens_by piece.Unlexed at next = record { tokens = []; unlexed = Some at }
tokens_by (piece.Gap len) at next = next (len - 1)
tokens_by (piece.Token kind len) at next = before (record { kind = kind; start = at; end = at + len }) (next (len - 1))

-- Of the text from the place `at` on. The first number counts the bytes that are left of a piece.
abbrev pub tokens_from : ℕ → ℕ → List ℕ → Tokens
tokens_from left at [] = record { tokens = []; unlexed = None }
tokens_from (suc left) at (b ∷ z) = tokens_from left (at + 1) z
tokens_from zero at (b ∷ z) = tokens_by (piece_at (b ∷ z)) at (λ left. tokens_from left (at + 1) z)

unfoldable pub tokens_of : List ℕ → Tokens
tokens_of z = tokens_from 0 0 z

-- the tokens that were cut, and then others
abbrev pub after : List Token → Tokens → Tokens
after ts more = record { tokens = ts ++ more.tokens; unlexed = more.unlexed }
