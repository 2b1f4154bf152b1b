-- What the tokens of a text stand for.
use Rattle.std.specs.Prelude.{ℕ, ◌+◌, ◌-◌, ◌*◌, ◌==◌, Bool, true, false, ◌&&◌, nat_le, List, [], ◌∷◌, length, take, drop, map, slice_index, if◌then◌else◌}
use Rattle.sb_lex.specs.declared.token.TokenKind.{TokenKind}
use Rattle.sb_lex.specs.declared.token.TokenKind.TheVariants as tokens
use Rattle.sb_lex.specs.declared.token.Token.{Token}
use Rattle.sb_grammar.specs.declared.lexeme.Lexeme.{Lexeme}
use Rattle.sb_grammar.specs.Rules.{Toks}

-- a text between its quotes, where a doubled quote is written once; the flag says that the next byte is the second of two
abbrev pub undoubled : ℕ → Bool → List ℕ → List ℕ
undoubled quote is_second [] = []
undoubled quote true (b ∷ z) = undoubled quote false z
undoubled quote false (b ∷ z) = b ∷ undoubled quote (b == quote) z

-- behind so many bytes and before the last
abbrev pub inner : ℕ → List ℕ → List ℕ
inner n z = take (length z - n - 1) (drop n z)

-- what stands before a text's first character: a quote, or N and a quote
abbrev pub text_open : List ℕ → ℕ
text_open z = if slice_index z 0 == 78 then 2 else 1

abbrev pub is_between : ℕ → ℕ → ℕ → Bool
is_between low high b = nat_le low b && nat_le b high

-- the value of a hexadecimal digit
abbrev pub digit_value : ℕ → ℕ
digit_value b = if is_between 48 57 b then b - 48 else (if is_between 97 102 b then b - 87 else (if is_between 65 70 b then b - 55 else 0))

-- the bytes that pairs of hexadecimal digits spell
abbrev pub byte_pairs : List ℕ → List ℕ
byte_pairs [] = []
byte_pairs (a ∷ []) = []
byte_pairs (a ∷ b ∷ z) = (digit_value a * 16 + digit_value b) ∷ byte_pairs z

-- what a token of a kind stands for
abbrev pub value_of : TokenKind → List ℕ → List ℕ
value_of tokens.Text z = undoubled 39 false (inner (text_open z) z)
value_of tokens.Quoted z = undoubled 34 false (inner 1 z)
value_of tokens.Bracketed z = undoubled 93 false (inner 1 z)
value_of tokens.Binary z = byte_pairs (drop 2 z)
value_of _ z = z

-- the slice of a text that a token names
abbrev pub slice_of : List ℕ → Token → List ℕ
slice_of text t = take (t.end - t.start) (drop t.start text)

abbrev pub lexeme_of : List ℕ → Token → Lexeme
lexeme_of text t = record { kind = t.kind; value = value_of t.kind (slice_of text t); start = t.start; end = t.end }

abbrev pub lexemes_of : List ℕ → List Token → Toks
lexemes_of text ts = map (lexeme_of text) ts
