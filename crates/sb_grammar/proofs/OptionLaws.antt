-- The laws of options in any order.
use Rattle.std.proofs.Common.{◌≡◌, ℕ, zero, suc, Bool, true, false, ◌∷◌, ◌++◌, Option, Some, None, refl}
use Rattle.sb_grammar.specs.declared.word.Fixed.TheVariants as fixed
use Rattle.sb_grammar.specs.Words.{fixed_at, example}
use Rattle.sb_grammar.specs.Rules.{Rule, Toks, token, bind, pure}
use Rattle.sb_grammar.specs.Options.{Choices, Over, one, another, more_by, more, options_by, options}
use Rattle.sb_grammar.proofs.Sounds.{Sound, pure-is, token-is, word-is, bind-is, then-is, alt-is, barred-is}

-- the example of the next option begins it
pub record Fits {S B : Type 0} (c : Choices S B) : Type 0 where
  pub fits : (s : S) (o : B) → c.next s ≡ Some o → c.take s (c.example o) ≡ Some o
  pub unbarred : (s : S) (o : B) → c.bars s (c.example o) ≡ None
  pub values : (s : S) (b : B) → Sound (c.value s b) c.Ends
  pub comma : (follow : Toks) → c.Ends (example fixed.Comma ∷ follow)

module _ {S B : Type 0} (c : Choices S B) (C : Fits c) where
  one-is : (s : S) (o : B) → c.next s ≡ Some o → Sound (one c o s) c.Ends
  unfolding one
  one-is s o e = barred-is (c.bars s) (bind (token (c.take s) (c.example o) o) (c.value s) c.Ends) c.Ends
      (then-is (token (c.take s) (c.example o) o) (c.value s) c.Ends (token-is (c.take s) (c.example o) o (C.fits s o e)) (C.values s)) (λ follow g. C.unbarred s o)

  -- what is known of the rule for the options that remain
  record Remains (next : S → Rule S) : Type 0 where
    is : (s : S) → Sound (next s) (Over c)
    begins : (s : S) (follow : Toks) → Over c follow → c.Ends ((next s).min ++ follow)

  another-is : (next : S → Rule S) → Remains next → (s : S) (o : B) → c.next s ≡ Some o → (b : Bool) → Sound (another c next s o b) (Over c)
  another-is next N s o e true = word-is fixed.Comma (bind (one c o s) next (Over c)) (Over c) (bind-is (one c o s) next c.Ends (Over c) (one-is s o e) N.is N.begins)
  another-is next N s o e false = alt-is (fixed_at fixed.Comma) (λ _. bind (one c o s) next (Over c)) (pure s) (Over c)
      (λ _. bind-is (one c o s) next c.Ends (Over c) (one-is s o e) N.is N.begins) (pure-is s (Over c)) (λ follow g. g.comma)

  another-begins : (next : S → Rule S) (s : S) (o : B) (b : Bool) (follow : Toks) → Over c follow → c.Ends ((another c next s o b).min ++ follow)
  another-begins next s o true follow g = C.comma ((bind (one c o s) next (Over c)).min ++ follow)
  another-begins next s o false follow g = g.ends

  more_by-is : (next : S → Rule S) → Remains next → (s : S) (o : Option B) → c.next s ≡ o → Sound (more_by c next s o) (Over c)
  more_by-is next N s None e = pure-is s (Over c)
  more_by-is next N s (Some o) e = another-is next N s o e (c.needs s)

  more_by-begins : (next : S → Rule S) (s : S) (o : Option B) (follow : Toks) → Over c follow → c.Ends ((more_by c next s o).min ++ follow)
  more_by-begins next s None follow g = g.ends
  more_by-begins next s (Some o) follow g = another-begins next s o (c.needs s) follow g

  more-remains : (k : ℕ) → Remains (more c k)
  unfolding more
  more-remains zero = record { is = λ s. pure-is s (Over c); begins = λ s follow g. g.ends }
  more-remains (suc k) = record { is = λ s. more_by-is (more c k) (more-remains k) s (c.next s) refl; begins = λ s follow g. more_by-begins (more c k) s (c.next s) follow g }

  options_by-is : (k : ℕ) (s : S) (o : Option B) → c.next s ≡ o → Sound (options_by c k s o) (Over c)
  options_by-is k s None e = pure-is s (Over c)
  options_by-is k s (Some o) e = bind-is (one c o s) (more c k) c.Ends (Over c) (one-is s o e) (more-remains k).is (more-remains k).begins

  pub options-is : (k : ℕ) (s : S) → Sound (options c k s) (Over c)
  unfolding options
  options-is k s = options_by-is k s (c.next s) refl
