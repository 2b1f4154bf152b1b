-- How a text is cut into tokens, apart from how they are found. A byte past the end reads as 0, which goes on with nothing.
use Rattle.std.specs.Prelude.{◌≡◌, ℕ, zero, suc, ◌+◌, ◌%◌, ◌<◌, ◌≤◌, Bool, true, false, ◌&&◌, ◌⊎◌, if◌then◌else◌, ◌==◌, List, [], ◌∷◌, ◌++◌, length, slice_index, codes, Option, Some, None}
use Rattle.std.specs.List.{list_all, list_any}
use Rattle.sb_lex.specs.declared.token.TokenKind.{TokenKind}
use Rattle.sb_lex.specs.declared.token.TokenKind.TheVariants.{Word, Bracketed, Quoted, Variable, Text, Binary, Number, Sign}
use Rattle.sb_lex.specs.declared.token.Token.{Token}
use Rattle.sb_lex.specs.declared.piece.Class.{Class}
use Rattle.sb_lex.specs.declared.piece.Class.TheVariants as class
use Rattle.sb_lex.specs.Lex.{is_in}

-- what a text is made of: tokens, and blanks and comments between them
pub data Part : Type 0 where
  blank : Part
  line_comment : Part
  comment : Part
  token : TokenKind → Part

-- a text with each closing quote in it doubled
abbrev pub doubled : ℕ → List ℕ → List ℕ
doubled quote [] = []
doubled quote (b ∷ z) = if b == quote then quote ∷ quote ∷ doubled quote z else b ∷ doubled quote z

-- such a text between its quotes
abbrev pub quoted : ℕ → ℕ → List ℕ → List ℕ
quoted first last z = first ∷ doubled last z ++ last ∷ []

-- the first two bytes are these
abbrev pub begins : ℕ → ℕ → List ℕ → Bool
begins a b z = slice_index z 0 == a && slice_index z 1 == b

-- What ends so many open comments. They nest: `/*` opens one more and `*/` ends one.
pub data Closes : ℕ → List ℕ → Type 0 where
  all_closed : Closes zero []
  closes : (depth : ℕ) (z : List ℕ) → Closes depth z → Closes (suc depth) (42 ∷ 47 ∷ z)
  opens : (depth : ℕ) (z : List ℕ) → Closes (suc (suc depth)) z → Closes (suc depth) (47 ∷ 42 ∷ z)
  goes_on : (depth b : ℕ) (z : List ℕ) → begins 47 42 (b ∷ z) ≡ false → begins 42 47 (b ∷ z) ≡ false → Closes (suc depth) z → Closes (suc depth) (b ∷ z)

abbrev pub is_sign : ℕ → Bool
is_sign b = list_any (λ c. b == c) (codes "(),.;=<>+-*")

-- all of these bytes are of a class
abbrev pub AllIn : Class → List ℕ → Type 0
AllIn c z = list_all (is_in c) z ≡ true

-- spelled as its kind says
abbrev pub IsSpelled : Part → List ℕ → Type 0
IsSpelled blank s = (b : ℕ) × (s ≡ b ∷ []) × (is_in class.Blank b ≡ true)
IsSpelled line_comment s = (z : List ℕ) × (s ≡ 45 ∷ 45 ∷ z) × AllIn class.Line z
IsSpelled comment s = (z : List ℕ) × (s ≡ 47 ∷ 42 ∷ z) × Closes 1 z
IsSpelled (token Word) s = (b : ℕ) × (z : List ℕ) × (s ≡ b ∷ z) × (is_in class.Letter b ≡ true) × AllIn class.Word z
IsSpelled (token Bracketed) s = (z : List ℕ) × (s ≡ quoted 91 93 z)
IsSpelled (token Quoted) s = (z : List ℕ) × (s ≡ quoted 34 34 z)
IsSpelled (token Variable) s = (z : List ℕ) × (s ≡ 64 ∷ z) × AllIn class.Word z
IsSpelled (token Text) s = (z : List ℕ) × ((s ≡ quoted 39 39 z) ⊎ (s ≡ 78 ∷ quoted 39 39 z))
IsSpelled (token Binary) s = (z : List ℕ) × (s ≡ 48 ∷ 120 ∷ z) × (length z % 2 ≡ 0) × AllIn class.Hex z
IsSpelled (token Number) s = (0 < length s) × AllIn class.Digit s
IsSpelled (token Sign) s = (s ≡ codes "<>") ⊎ ((b : ℕ) × (s ≡ b ∷ []) × (is_sign b ≡ true))

-- the line's end, or the text's
abbrev pub AtLineEnd : List ℕ → Type 0
AtLineEnd [] = Unit {0}
AtLineEnd (b ∷ z) = b ≡ 10

-- What stands behind doesn't go on with it: a token and a line's comment are as long as they can be, and no token ends at a doubled quote.
abbrev pub Ends : Part → List ℕ → List ℕ → Type 0
Ends blank s rest = Unit {0}
Ends line_comment s rest = AtLineEnd rest
Ends comment s rest = Unit {0}
Ends (token Word) s rest = (is_in class.Word (slice_index rest 0) ≡ false) × (s ≡ codes "N" → slice_index rest 0 ≡ 39 → ⊥)
Ends (token Bracketed) s rest = slice_index rest 0 ≡ 93 → ⊥
Ends (token Quoted) s rest = slice_index rest 0 ≡ 34 → ⊥
Ends (token Variable) s rest = is_in class.Word (slice_index rest 0) ≡ false
Ends (token Text) s rest = slice_index rest 0 ≡ 39 → ⊥
Ends (token Binary) s rest = is_in class.Hex (slice_index rest 0) ≡ true → is_in class.Hex (slice_index rest 1) ≡ false
Ends (token Number) s rest = (is_in class.Digit (slice_index rest 0) ≡ false) × (s ≡ codes "0" → slice_index rest 0 ≡ 120 → ⊥)
Ends (token Sign) s rest = (s ≡ codes "<" → slice_index rest 0 ≡ 62 → ⊥) × (s ≡ codes "-" → slice_index rest 0 ≡ 45 → ⊥)

-- a slice of the text, and what it is
pub record Slice : Type 0 where
  pub part : Part
  pub bytes : List ℕ

-- slices one after the other, and then a rest
abbrev pub joined : List Slice → List ℕ → List ℕ
joined [] rest = rest
joined (p ∷ ps) rest = p.bytes ++ joined ps rest

-- each is spelled as its kind says, and what stands behind it doesn't go on with it
abbrev pub AreParts : List Slice → List ℕ → Type 0
AreParts [] rest = Unit {0}
AreParts (p ∷ ps) rest = IsSpelled p.part p.bytes × Ends p.part p.bytes (joined ps rest) × AreParts ps rest

abbrev pub with_token : Part → ℕ → ℕ → List Token → List Token
with_token (token kind) start end ts = record { kind = kind; start = start; end = end } ∷ ts
with_token _ start end ts = ts

-- the tokens among them, where the first stands at this place
abbrev pub tokens_at : ℕ → List Slice → List Token
tokens_at at [] = []
tokens_at at (p ∷ ps) = with_token p.part at (at + length p.bytes) (tokens_at (at + length p.bytes) ps)

-- No blank, comment or token stands in front: a comment, text or bracket that begins there doesn't end, or its character begins no token.
pub record IsUnlexed (z : List ℕ) : Type 0 where
  pub some : 0 < length z
  pub none : (part : Part) (s rest : List ℕ) → z ≡ s ++ rest → IsSpelled part s → Ends part s rest → ⊥

-- nothing is left, or something unlexed from this place on
abbrev pub Stops : Option ℕ → ℕ → List ℕ → Type 0
Stops None at rest = rest ≡ []
Stops (Some place) at rest = (place ≡ at) × IsUnlexed rest

-- the tokens of a text up to its end, or up to the first place where no blank, comment or token stands
pub record IsCut (text : List ℕ) (tokens : List Token) (unlexed : Option ℕ) : Type 0 where
  pub slices : List Slice
  pub rest : List ℕ
  pub whole : text ≡ joined slices rest
  pub parts : AreParts slices rest
  pub tokens_are : tokens ≡ tokens_at 0 slices
  pub stops : Stops unlexed (length (joined slices [])) rest

-- there is no other way to cut the text
abbrev pub IsOnlyCut : List ℕ → List Token → Option ℕ → Type 0
IsOnlyCut text tokens unlexed = (ts : List Token) (u : Option ℕ) → IsCut text ts u → (ts ≡ tokens) × (u ≡ unlexed)

-- the tokens are slices of so many bytes from a place on, none of them empty, one behind the other
abbrev pub InOrder : ℕ → List Token → ℕ → Type 0
InOrder at [] len = at ≤ len
InOrder at (t ∷ ts) len = (at ≤ t.start) × (t.start < t.end) × InOrder t.end ts len
