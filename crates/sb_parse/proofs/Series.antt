-- A loop of the code that has read some members of a series.
use Rattle.std.proofs.Common.{◌≡◌, ℕ, zero, suc, ◌<◌, ◌≤◌, [], ◌∷◌, length, drop, get_or, Option, Some, None, Ok, Err, refl, sym, ap, ◌∙◌, arith}
use Rattle.sb_grammar.specs.declared.lexeme.Lexeme.{Lexeme}
use Rattle.sb_grammar.specs.declared.choice.Barred.{Barred}
use Rattle.sb_grammar.specs.Rules.{Toks, Stop, bad, barred_at, Read, Rule, either, series}
use Rattle.sb_grammar.proofs.Laws.{bind_by}
use Rattle.sb_parse.specs.declared.fault.Fault.{Fault}
use Rattle.sb_parse.specs.declared.fault.Fault.TheVariants.{Memory, Bad, Unsupported}
use Rattle.sb_parse.specs.Gives.{Fails}

module _ {S B : Type 0} (g : S → Lexeme → Option Barred) (f : S → Lexeme → Option B) (p : S → B → Rule S) (F : Toks → Type 0) where
  -- reading goes on from here as from the start, with turns enough
  pub record Goes (s : S) (ts : Toks) (whole : Read S) : Type 0 where
    pub turns : ℕ
    pub enough : length ts < turns
    pub goes_on : (series turns g f p F s).reads ts ≡ whole

  pub goes_start : (n : ℕ) (s : S) (ts : Toks) → length ts < n → Goes s ts ((series n g f p F s).reads ts)
  goes_start n s ts enough = record { turns = n; enough = enough; goes_on = refl }

  abbrev unbarred_reads : ℕ → S → Lexeme → Toks → Option B → Read S
  unbarred_reads n s t ts o = either o (λ b. bind_by (λ v. series n g f p F v) ((p s b).reads ts)) (Ok (s, t ∷ ts))

  step : (n : ℕ) (s : S) (t : Lexeme) (ts : Toks) (b : B) → g s t ≡ None → f s t ≡ Some b → (series (suc n) g f p F s).reads (t ∷ ts) ≡ bind_by (λ v. series n g f p F v) ((p s b).reads ts)
  unfolding series
  step n s t ts b h k = ap (λ o. either o (λ w. Err (barred_at (suc (length ts)) w)) (unbarred_reads n s t ts (f s t))) h ∙ ap (unbarred_reads n s t ts) k

  over : (n : ℕ) (s : S) (t : Lexeme) (ts : Toks) → g s t ≡ None → f s t ≡ None → (series (suc n) g f p F s).reads (t ∷ ts) ≡ Ok (s, t ∷ ts)
  unfolding series
  over n s t ts h k = ap (λ o. either o (λ w. Err (barred_at (suc (length ts)) w)) (unbarred_reads n s t ts (f s t))) h ∙ ap (unbarred_reads n s t ts) k

  stopped : (n : ℕ) (s : S) (t : Lexeme) (ts : Toks) (w : Barred) → g s t ≡ Some w → (series (suc n) g f p F s).reads (t ∷ ts) ≡ Err (barred_at (suc (length ts)) w)
  unfolding series
  stopped n s t ts w h = ap (λ o. either o (λ w. Err (barred_at (suc (length ts)) w)) (unbarred_reads n s t ts (f s t))) h

  nothing_left : (n : ℕ) (s : S) → (series (suc n) g f p F s).reads [] ≡ Ok (s, [])
  unfolding series
  nothing_left n s = refl

  go_at : (n : ℕ) (s v : S) (t : Lexeme) (ts rest : Toks) (b : B) (whole : Read S) → length (t ∷ ts) < n → (series n g f p F s).reads (t ∷ ts) ≡ whole
      → g s t ≡ None → f s t ≡ Some b → (p s b).reads ts ≡ Ok (v, rest) → length rest ≤ length ts → Goes v rest whole
  go_at zero s v t ts rest b whole e r h k q short = absurd (omega arith)
  go_at (suc n) s v t ts rest b whole e r h k q short = record { turns = n; enough = omega arith; goes_on = sym (step n s t ts b h k ∙ ap (bind_by (λ v. series n g f p F v)) q) ∙ r }

  fail_at : (n : ℕ) (s : S) (t : Lexeme) (ts : Toks) (b : B) (m : Stop) (whole : Read S) → length (t ∷ ts) < n → (series n g f p F s).reads (t ∷ ts) ≡ whole
      → g s t ≡ None → f s t ≡ Some b → (p s b).reads ts ≡ Err m → whole ≡ Err m
  fail_at zero s t ts b m whole e r h k q = absurd (omega arith)
  fail_at (suc n) s t ts b m whole e r h k q = sym r ∙ step n s t ts b h k ∙ ap (bind_by (λ v. series n g f p F v)) q

  bar_at : (n : ℕ) (s : S) (t : Lexeme) (ts : Toks) (w : Barred) (whole : Read S) → length (t ∷ ts) < n → (series n g f p F s).reads (t ∷ ts) ≡ whole → g s t ≡ Some w → whole ≡ Err (barred_at (suc (length ts)) w)
  bar_at zero s t ts w whole e r h = absurd (omega arith)
  bar_at (suc n) s t ts w whole e r h = sym r ∙ stopped n s t ts w h

  over_at : (n : ℕ) (s : S) (t : Lexeme) (ts : Toks) (whole : Read S) → length (t ∷ ts) < n → (series n g f p F s).reads (t ∷ ts) ≡ whole → g s t ≡ None → f s t ≡ None → whole ≡ Ok (s, t ∷ ts)
  over_at zero s t ts whole e r h k = absurd (omega arith)
  over_at (suc n) s t ts whole e r h k = sym r ∙ over n s t ts h k

  nil_at : (n : ℕ) (s : S) (whole : Read S) → 0 < n → (series n g f p F s).reads [] ≡ whole → whole ≡ Ok (s, [])
  nil_at zero s whole e r = absurd (omega arith)
  nil_at (suc n) s whole e r = sym r ∙ nothing_left n s

  -- the same, where the tokens are cut as the code cuts them
  pub cut_go : (z rest : Toks) (t : Lexeme) (s v : S) (b : B) (whole : Read S) → Goes s z whole → 1 ≤ length z → t ≡ get_or z 0 t → g s t ≡ None → f s t ≡ Some b → (p s b).reads (drop 1 z) ≡ Ok (v, rest) → length rest ≤ length (drop 1 z) → Goes v rest whole
  cut_go [] rest t s v b whole G some is h k q short = absurd (omega arith)
  cut_go (u ∷ us) rest t s v b whole G some is h k q short = go_at G.turns s v u us rest b whole G.enough G.goes_on (ap (g s) (sym is) ∙ h) (ap (f s) (sym is) ∙ k) q short

  pub cut_fail : (e : Fault) (z : Toks) (t : Lexeme) (s : S) (b : B) (whole : Read S) → Goes s z whole → 1 ≤ length z → t ≡ get_or z 0 t → g s t ≡ None → f s t ≡ Some b → Fails e ((p s b).reads (drop 1 z)) → Fails e whole
  cut_fail e [] t s b whole G some is h k q = absurd (omega arith)
  cut_fail Memory (u ∷ us) t s b whole G some is h k q = tt
  cut_fail (Bad n) (u ∷ us) t s b whole G some is h k q = fail_at G.turns s u us b (bad n) whole G.enough G.goes_on (ap (g s) (sym is) ∙ h) (ap (f s) (sym is) ∙ k) q
  cut_fail (Unsupported n w) (u ∷ us) t s b whole G some is h k q = fail_at G.turns s u us b (barred_at n w) whole G.enough G.goes_on (ap (g s) (sym is) ∙ h) (ap (f s) (sym is) ∙ k) q

  pub cut_bar : (z : Toks) (t : Lexeme) (s : S) (w : Barred) (whole : Read S) → Goes s z whole → 1 ≤ length z → t ≡ get_or z 0 t → g s t ≡ Some w → whole ≡ Err (barred_at (length z) w)
  cut_bar [] t s w whole G some is h = absurd (omega arith)
  cut_bar (u ∷ us) t s w whole G some is h = bar_at G.turns s u us w whole G.enough G.goes_on (ap (g s) (sym is) ∙ h)

  pub cut_over : (z : Toks) (t : Lexeme) (s : S) (whole : Read S) → Goes s z whole → 1 ≤ length z → t ≡ get_or z 0 t → g s t ≡ None → f s t ≡ None → whole ≡ Ok (s, z)
  cut_over [] t s whole G some is h k = absurd (omega arith)
  cut_over (u ∷ us) t s whole G some is h k = over_at G.turns s u us whole G.enough G.goes_on (ap (g s) (sym is) ∙ h) (ap (f s) (sym is) ∙ k)

  pub cut_end : (z : Toks) (s : S) (whole : Read S) → Goes s z whole → length z < 1 → whole ≡ Ok (s, z)
  cut_end [] s whole G short = let e = G.enough in nil_at G.turns s whole (omega arith) G.goes_on
  cut_end (u ∷ us) s whole G short = absurd (omega arith)
