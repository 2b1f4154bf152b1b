-- What a grammar is made of: rules, each with what it reads and what it spells.
use Rattle.std.specs.Prelude.{◌≡◌, ◌⊎◌, ◌^◌, ℕ, zero, suc, List, [], ◌∷◌, ◌++◌, length, Option, Some, None, Result, Ok, Err}
use Rattle.sb_grammar.specs.declared.lexeme.Lexeme.{Lexeme}
use Rattle.sb_grammar.specs.declared.choice.Barred.{Barred}

abbrev pub Toks : Type 0
Toks = List Lexeme

-- how many tokens are left from the first at which no spelling goes on, and the word that it is if it isn't supported there
abbrev pub Stop : Type 0
Stop = ℕ × Option Barred

abbrev pub bad : ℕ → Stop
bad n = (n, None)

abbrev pub barred_at : ℕ → Barred → Stop
barred_at n w = (n, Some w)

-- a value and the tokens behind it, or where no spelling goes on
abbrev pub Read : Type 0 → Type 0
Read A = Result (A × Toks) Stop

pub record Rule (A : Type 0) : Type 1 where
  pub reads : Toks → Read A
  -- the first tokens spell the value, and the second stand behind it
  pub spells : A → Toks → Toks → Type 0
  -- the first tokens go on to the second, where this word stands first and isn't supported
  pub bars : Toks → Toks → Barred → Type 0
  -- what may stand behind the shortest spelling
  pub Fine : Toks → Type 0
  pub min : Toks
  pub least : A

abbrev pub and_then : {A B : Type 0} → Read A → (A → Toks → Read B) → Read B
and_then (Ok p) f = f p.0 p.1
and_then (Err n) f = Err n

abbrev pub either : {A B : Type 0} → Option B → (B → A) → A → A
either (Some b) f x = f b
either None f x = x

abbrev pub either_fact : {B : Type 0} → Option B → (B → Type 0) → Type 0 → Type 0
either_fact (Some b) P Q = P b
either_fact None P Q = Q

-- what a test says of the first token
abbrev pub head : {B : Type 0} → (Lexeme → Option B) → Toks → Option B
head f [] = None
head f (t ∷ ts) = f t

-- no token
abbrev pub pure : {A : Type 0} → A → Rule A
pure a = record { reads = λ ts. Ok (a, ts); spells = λ x ts rest. (x ≡ a) × (ts ≡ rest); bars = λ ts rest w. ⊥; Fine = λ _. Unit {0}; min = []; least = a }

abbrev pub token_reads : {A : Type 0} → (Lexeme → Option A) → Toks → Read A
token_reads f [] = Err (bad 0)
token_reads f (t ∷ ts) = either (f t) (λ a. Ok (a, ts)) (Err (bad (suc (length ts))))

-- one token that the test takes, as this one
abbrev pub token : {A : Type 0} → (Lexeme → Option A) → Lexeme → A → Rule A
token f t a = record { reads = token_reads f; spells = λ x ts rest. (u : Lexeme) × (ts ≡ u ∷ rest) × (f u ≡ Some x); bars = λ ts rest w. ⊥; Fine = λ _. Unit {0}; min = t ∷ []; least = a }

-- one rule, and then one that may depend on its value
abbrev pub bind : {A B : Type 0} → Rule A → (A → Rule B) → (Toks → Type 0) → Rule B
bind p q F = record {
  reads = λ ts. and_then (p.reads ts) (λ x rest. (q x).reads rest);
  spells = λ y ts rest. (x : _) × (mid : Toks) × p.spells x ts mid × (q x).spells y mid rest;
  bars = λ ts rest w. p.bars ts rest w ⊎ ((x : _) × (mid : Toks) × p.spells x ts mid × (q x).bars mid rest w);
  Fine = F;
  min = p.min ++ (q p.least).min;
  least = (q p.least).least;
}

abbrev pub alt_reads : {A B : Type 0} → (Lexeme → Option B) → (B → Rule A) → Rule A → Toks → Read A
alt_reads f p q [] = q.reads []
alt_reads f p q (t ∷ ts) = either (f t) (λ b. (p b).reads ts) (q.reads (t ∷ ts))

abbrev pub alt_spells : {A B : Type 0} → (Lexeme → Option B) → (B → Rule A) → Rule A → A → Toks → Toks → Type 0
alt_spells f p q x [] rest = q.spells x [] rest
alt_spells f p q x (t ∷ ts) rest = either_fact (f t) (λ b. (p b).spells x ts rest) (q.spells x (t ∷ ts) rest)

abbrev pub alt_bars : {A B : Type 0} → (Lexeme → Option B) → (B → Rule A) → Rule A → Toks → Toks → Barred → Type 0
alt_bars f p q [] rest w = q.bars [] rest w
alt_bars f p q (t ∷ ts) rest w = either_fact (f t) (λ b. (p b).bars ts rest w) (q.bars (t ∷ ts) rest w)

-- Where the test takes the first token, what stands behind it, and else another rule. So a fixed word is read as fixed.
abbrev pub alt : {A B : Type 0} → (Lexeme → Option B) → (B → Rule A) → Rule A → (Toks → Type 0) → Rule A
alt f p q F = record { reads = alt_reads f p q; spells = alt_spells f p q; bars = alt_bars f p q; Fine = F; min = q.min; least = q.least }

abbrev pub barred_reads : {A : Type 0} → (Lexeme → Option Barred) → Rule A → Toks → Read A
barred_reads f q [] = q.reads []
barred_reads f q (t ∷ ts) = either (f t) (λ b. Err (barred_at (suc (length ts)) b)) (q.reads (t ∷ ts))

abbrev pub barred_spells : {A : Type 0} → (Lexeme → Option Barred) → Rule A → A → Toks → Toks → Type 0
barred_spells f q x [] rest = q.spells x [] rest
barred_spells f q x (t ∷ ts) rest = either_fact (f t) (λ b. ⊥) (q.spells x (t ∷ ts) rest)

abbrev pub barred_bars : {A : Type 0} → (Lexeme → Option Barred) → Rule A → Toks → Toks → Barred → Type 0
barred_bars f q [] rest w = q.bars [] rest w
barred_bars f q (t ∷ ts) rest w = either_fact (f t) (λ b. (w ≡ b) × (rest ≡ t ∷ ts)) (q.bars (t ∷ ts) rest w)

-- a rule that no word which the test takes begins, and such a word isn't supported
abbrev pub barred : {A : Type 0} → (Lexeme → Option Barred) → Rule A → (Toks → Type 0) → Rule A
barred f q F = record { reads = barred_reads f q; spells = barred_spells f q; bars = barred_bars f q; Fine = F; min = q.min; least = q.least }

-- ---- made of these

abbrev pub map_rule : {A B : Type 0} → (A → B) → Rule A → Rule B
map_rule f r = bind r (λ x. pure (f x)) r.Fine

-- one rule, and then another
abbrev pub also : {A B : Type 0} → Rule A → Rule B → Rule B
also p q = bind p (λ _. q) q.Fine

-- one rule, and then another whose value is dropped
abbrev pub ended : {A B : Type 0} → Rule A → Rule B → Rule A
ended p q = bind p (λ x. map_rule (λ _. x) q) q.Fine

abbrev pub Apart : {A B : Type 0} → (Lexeme → Option B) → (B → Rule A) → Toks → Type 0
Apart f p follow = (head f follow ≡ None) × ((b : _) → (p b).Fine follow)

-- a part that may be absent, and its first token says whether it is
abbrev pub optional : {A B : Type 0} → (Lexeme → Option B) → (B → Rule A) → Rule (Option A)
optional f p = alt f (λ b. map_rule Some (p b)) (pure None) (Apart f p)

-- what ends a value that goes on
abbrev pub Rests : {A B : Type 0} → (Lexeme → Option B) → (B → A → Rule A) → Toks → Type 0
Rests f p follow = (head f follow ≡ None) × ((b : _) (a : _) → (p b a).Fine follow)

-- a value that goes on as long as the test takes the next token, so many times at most
abbrev pub loop : {A B : Type 0} → ℕ → (Lexeme → Option B) → (B → A → Rule A) → A → Rule A
loop zero f p a = pure a
loop (suc n) f p a = alt f (λ b. bind (p b a) (λ c. loop n f p c) (Rests f p)) (pure a) (Rests f p)

-- more than a text can have
unfoldable pub most : ℕ
most = 2 ^ 63

-- whatever stands behind
abbrev pub Any : Toks → Type 0
Any _ = Unit {0}

abbrev pub nothing : Rule (Unit {0})
nothing = pure {A = Unit {0}} tt

abbrev pub pushed : {A : Type 0} → List A → A → List A
pushed all v = all ++ v ∷ []

abbrev pub push_step : {A B : Type 0} → Rule A → B → List A → Rule (List A)
push_step p _ all = map_rule (pushed all) p

abbrev pub singleton : {A : Type 0} → A → List A
singleton v = v ∷ []

-- One after the other until there is none, so many at most. What may stand behind one of them is what may stand behind the last.
abbrev pub until_by : {A : Type 0} → (A → Rule (List A)) → List A → Option A → Rule (List A)
until_by next all None = pure all
until_by next all (Some v) = next v

unfoldable pub until : {A : Type 0} → ℕ → Rule (Option A) → (Toks → Type 0) → List A → Rule (List A)
until zero r F all = map_rule (λ _. all) r
until (suc k) r F all = bind r (until_by (λ v. until k r F (pushed all v)) all) F

-- A value that goes on as long as the test takes the next token, unless that word is barred. What is taken depends on the value so far.
unfoldable pub series : {S B : Type 0} → ℕ → (S → Lexeme → Option Barred) → (S → Lexeme → Option B) → (S → B → Rule S) → (Toks → Type 0) → S → Rule S
series zero g f p F s = pure s
series (suc k) g f p F s = barred (g s) (alt (f s) (λ b. bind (p s b) (λ v. series k g f p F v) F) (pure s) F) F

abbrev pub drop_value : {A : Type 0} → A → Unit {0}
drop_value _ = tt

-- a token that may stand there, and says nothing
abbrev pub skipped : {B : Type 0} → (Lexeme → Option B) → Rule (Unit {0})
skipped f = map_rule drop_value (optional f (λ _. nothing))
