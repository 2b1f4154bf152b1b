-- What follows of the answer for a text's tokens.
use Rattle.std.proofs.Common.{◌≡◌, inl, inr, ℕ, zero, suc, List, [], ◌∷◌, ◌++◌, length, Option, Some, None, Result, Ok, Err, refl, sym, ap, subst, ◌∙◌, arith}
use Rattle.std.specs.Prelude.{IfOk, IfErr}
use Rattle.std.proofs.lemmas.List.{append-nil}
use Rattle.sb_lex.specs.declared.token.Token.{Token}
use Rattle.sb_lex.specs.Cuts.{IsCut, IsOnlyCut}
use Rattle.sb_grammar.specs.Rules.{Toks, Stop, Rule}
use Rattle.sb_grammar.specs.Whole.{Begins, FirstPlace}
use Rattle.sb_parse.specs.declared.fault.Fault.{Fault}
use Rattle.sb_parse.specs.declared.fault.Fault.TheVariants.{Memory, Bad, Unsupported}
use Rattle.sb_parse.specs.Answers.{Answers, Names}
use Rattle.sb_parse.specs.Lexemes.{lexemes_of}
use Rattle.sb_parse.specs.Places.{IsSpelledIn, IsFirstPlace, Refuses, IsRead, place_of, finished}

abbrev found : {A : Type 0} → A → Result A Stop
found x = Ok x

abbrev stopped : {A : Type 0} → Stop → Result A Stop
stopped s = Err s

found_is : {A : Type 0} (x y : A) → found x ≡ found y → x ≡ y
found_is x y e = cc

not_found : {A P : Type 0} (x : A) (s : Stop) → found x ≡ stopped s → P
not_found x s e = absurd cc

abbrev place_at : ℕ → Option ℕ
place_at at = Some at

no_place : {P : Type 0} (at : ℕ) → None ≡ place_at at → P
no_place at e = absurd cc

no_tokens : (ts : Toks) → 0 ≡ length ts → ts ≡ []
no_tokens [] e = refl
no_tokens (t ∷ ts) e = absurd (omega arith)

module _ {A : Type 0} (r : Rule A) where
  pub call_spelled : (text : List ℕ) (ts : List Token) (u : Option ℕ) → IsCut text ts u → (x : Result A Fault) → IfOk x (λ all. r.spells all (lexemes_of text ts) []) → IfOk (finished ts u x) (λ all. IsSpelledIn r all text)
  call_spelled text ts None cut (Ok x) s = (ts, cut, s)
  call_spelled text ts (Some at) cut (Ok x) s = tt
  call_spelled text ts None cut (Err e) s = tt
  call_spelled text ts (Some at) cut (Err e) s = tt

  -- the only cut of the text reaches its end, and its tokens spell that
  spelled_by : (text : List ℕ) (ts : List Token) (u : Option ℕ) → IsOnlyCut text ts u → (all : A) → IsSpelledIn r all text → (None ≡ u) × r.spells all (lexemes_of text ts) []
  spelled_by text ts u only all s =
      let same = only s.0 None s.1 in
      (same.1, subst (λ (z : List Token). r.spells all (lexemes_of text z) []) same.0 s.2)

  pub call_only : (text : List ℕ) (ts : List Token) (u : Option ℕ) → IsOnlyCut text ts u → (x : Result A Fault) → ((all : A) → r.spells all (lexemes_of text ts) [] → Answers x (Ok all)) → (all : A) → IsSpelledIn r all text → IsRead all (finished ts u x)
  call_only text ts (Some at) only (Ok x) h all s = no_place at (spelled_by text ts (Some at) only all s).0
  call_only text ts (Some at) only (Err e) h all s = no_place at (spelled_by text ts (Some at) only all s).0
  call_only text ts None only (Ok x) h all s = sym (found_is all x (h all (spelled_by text ts None only all s).1))
  call_only text ts None only (Err Memory) h all s = tt
  call_only text ts None only (Err (Bad n)) h all s = not_found all (n, None) (h all (spelled_by text ts None only all s).1)
  call_only text ts None only (Err (Unsupported n w)) h all s = not_found all (n, Some w) (h all (spelled_by text ts None only all s).1)

  abbrev first_place : (text : List ℕ) (ts : List Token) (u : Option ℕ) → IsCut text ts u → (n : ℕ) → FirstPlace r (lexemes_of text ts) n → IsFirstPlace r text (place_of ts n)
  first_place text ts u cut n first = record { tokens = ts; unlexed = u; cut = cut; left = n; first = first; there = refl }

  -- tokens that end too soon begin a spelling
  ends_begin : (ts : Toks) → FirstPlace r ts 0 → Begins r ts
  ends_begin ts first = subst (λ (z : Toks). Begins r z) (sym (first.parts ∙ ap (λ (z : Toks). first.before ++ z) (no_tokens first.rest first.left) ∙ append-nil first.before)) first.begins

  pub call_place : (text : List ℕ) (ts : List Token) (u : Option ℕ) → IsCut text ts u → (x : Result A Fault) → IfOk x (λ all. r.spells all (lexemes_of text ts) []) → Names x r (lexemes_of text ts) → IfErr (finished ts u x) (Refuses r text)
  call_place text ts None cut (Ok x) s names = tt
  call_place text ts (Some at) cut (Ok x) s names = record { tokens = ts; cut = cut; begins = ([], x, subst (λ (z : Toks). r.spells x z []) (sym (append-nil (lexemes_of text ts))) s) }
  call_place text ts None cut (Err Memory) s names = tt
  call_place text ts (Some at) cut (Err Memory) s names = tt
  call_place text ts None cut (Err (Bad n)) s names = record { place = first_place text ts None cut n names.first; judged = inl refl; unspelled = names.unspelled; supported = names.supported }
  call_place text ts (Some at) cut (Err (Bad zero)) s names = record { tokens = ts; cut = cut; begins = ends_begin (lexemes_of text ts) names.first }
  call_place text ts (Some at) cut (Err (Bad (suc n))) s names = record { place = first_place text ts (Some at) cut (suc n) names.first; judged = inr (omega arith); unspelled = names.unspelled; supported = names.supported }
  call_place text ts None cut (Err (Unsupported n w)) s names = record { place = first_place text ts None cut n names.first; some = names.some; word = names.word }
  call_place text ts (Some at) cut (Err (Unsupported n w)) s names = record { place = first_place text ts (Some at) cut n names.first; some = names.some; word = names.word }
