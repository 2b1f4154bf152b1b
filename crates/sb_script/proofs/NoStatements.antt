-- Which tokens spell no statements.
use Rattle.std.proofs.Common.{◌≡◌, ℕ, zero, suc, ◌<◌, ◌⊎◌, inl, inr, true, [], ◌∷◌, length, Option, None, Some, refl, ap, ◌∙◌, arith, length-append}
use Rattle.sb_grammar.specs.declared.lexeme.Lexeme.{Lexeme}
use Rattle.sb_grammar.specs.declared.tree.Statement.{Statement}
use Rattle.sb_grammar.specs.declared.choice.Barred.{Barred}
use Rattle.sb_grammar.specs.declared.choice.First.{First}
use Rattle.sb_grammar.specs.declared.choice.First.TheVariants as first
use Rattle.sb_grammar.specs.declared.choice.Place.{Place}
use Rattle.sb_grammar.specs.declared.choice.Place.TheVariants as place
use Rattle.sb_grammar.specs.declared.choice.Progress.{Progress}
use Rattle.sb_grammar.specs.Rules.{Rule, Toks, map_rule, either_fact, series, most, pushed}
use Rattle.sb_grammar.specs.Definitions.{create_rest}
use Rattle.sb_grammar.specs.Statements.{rest_of, closed}
use Rattle.sb_grammar.specs.Batches.{AtEnd, with_statement, at_start, procedure_def, procedure_word, create_turn, batch_by, batch_turn, batch_bars, batch_first, batch}

-- one statement more
abbrev Adds : Progress → Progress → Type 0
Adds q p = (s : Statement) × (p.statements ≡ pushed q.statements s)

adds_mapped : (q p : Progress) (at : Place) (r : Rule Statement) (ts rest : Toks) → (map_rule (with_statement q at) r).spells p ts rest → Adds q p
adds_mapped q p at r ts rest h = (h.0, ap (λ (x : Progress). x.statements) h.3.0)

adds_created : (n : ℕ) (q p : Progress) (ts rest : Toks) → (create_turn n q).spells p ts rest → Adds q p
unfolding create_turn
adds_created n q p [] rest h = adds_mapped q p place.Inside (closed create_rest) [] rest h
adds_created n q p (t ∷ ts) rest h = by_word (procedure_word t) h
  where
    by_word : (o : Option (Unit {0})) → either_fact o (λ b. (map_rule (with_statement q place.Closed) (procedure_def n)).spells p ts rest) ((map_rule (with_statement q place.Inside) (closed create_rest)).spells p (t ∷ ts) rest) → Adds q p
    by_word (Some b) k = adds_mapped q p place.Closed (procedure_def n) ts rest k
    by_word None k = adds_mapped q p place.Inside (closed create_rest) (t ∷ ts) rest k

adds_by : (n : ℕ) (q p : Progress) (at : Place) (f : First) (ts rest : Toks) → (batch_by n q at f).spells p ts rest → Adds q p
adds_by n q p place.Start first.Create ts rest h = adds_created n q p ts rest h
adds_by n q p at f ts rest h = adds_mapped q p place.Inside (closed (rest_of true n f)) ts rest h

adds : (n : ℕ) (q p : Progress) (f : First) (ts rest : Toks) → (batch_turn n q f).spells p ts rest → Adds q p
unfolding batch_turn
adds n q p f ts rest h = adds_by n q p q.place f ts rest h

-- nothing, or some statements
abbrev Says : Progress → Progress → Toks → Toks → Type 0
Says q p ts rest = ((p ≡ q) × (ts ≡ rest)) ⊎ (0 < length p.statements)

said_more : (q v p : Progress) (mid rest : Toks) → Adds q v → Says v p mid rest → 0 < length p.statements
said_more q v p mid rest (s, e) (inl (same, none)) = omega (arith, ap (λ (x : Progress). length x.statements) same, ap length e, length-append q.statements (s ∷ []))
said_more q v p mid rest (s, e) (inr some) = some

-- one statement, and then the others
abbrev After : ℕ → ℕ → Progress → Progress → Toks → Toks → First → Type 0
After n k q p ts rest b = (v : Progress) × (mid : Toks) × (batch_turn n q b).spells v ts mid × (series k batch_bars (batch_first n) (batch_turn n) AtEnd v).spells p mid rest

-- what fewer turns say
abbrev Fewer : ℕ → ℕ → Progress → Toks → Type 0
Fewer n k p rest = (v : Progress) (mid : Toks) → (series k batch_bars (batch_first n) (batch_turn n) AtEnd v).spells p mid rest → Says v p mid rest

says_first : (n k : ℕ) (q p : Progress) (t : Lexeme) (ts rest : Toks) → Fewer n k p rest → (o : Option First) → either_fact o (After n k q p ts rest) ((p ≡ q) × (t ∷ ts ≡ rest)) → Says q p (t ∷ ts) rest
says_first n k q p t ts rest fewer (Some b) (v, mid, turn, more) = inr (said_more q v p mid rest (adds n q v b ts mid turn) (fewer v mid more))
says_first n k q p t ts rest fewer None same = inl same

says_turn : (n k : ℕ) (q p : Progress) (t : Lexeme) (ts rest : Toks) → Fewer n k p rest → (o : Option Barred) → either_fact o (λ b. ⊥) (either_fact (batch_first n q t) (After n k q p ts rest) ((p ≡ q) × (t ∷ ts ≡ rest))) → Says q p (t ∷ ts) rest
says_turn n k q p t ts rest fewer (Some b) never = absurd never
says_turn n k q p t ts rest fewer None more = says_first n k q p t ts rest fewer (batch_first n q t) more

series_says : (n k : ℕ) (q p : Progress) (ts rest : Toks) → (series k batch_bars (batch_first n) (batch_turn n) AtEnd q).spells p ts rest → Says q p ts rest
unfolding series
series_says n zero q p ts rest h = inl h
series_says n (suc k) q p [] rest h = inl h
series_says n (suc k) q p (t ∷ ts) rest h = says_turn n k q p t ts rest (λ v mid more. series_says n k v p mid rest more) (batch_bars q t) h

no_turn : (n k : ℕ) (q : Progress) → (series k batch_bars (batch_first n) (batch_turn n) AtEnd q).spells q [] []
unfolding series
no_turn n zero q = (refl, refl)
no_turn n (suc k) q = (refl, refl)

pub no_tokens : (n : ℕ) (ts : Toks) → (batch n).spells [] ts [] → ts ≡ []
unfolding batch
no_tokens n ts h = by_says (series_says n most at_start h.0 ts h.1 h.2)
  where
    by_says : Says at_start h.0 ts h.1 → ts ≡ []
    by_says (inl same) = same.1 ∙ h.3.1
    by_says (inr some) = absurd (omega (arith, ap length h.3.0))

pub no_statements : (n : ℕ) → (batch n).spells [] [] []
unfolding batch
no_statements n = (at_start, [], no_turn n most at_start, (refl, refl))
