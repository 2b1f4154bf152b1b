-- A text is refused at one place and for one reason alone, and then spells nothing.
use Rattle.std.proofs.Common.{◌≡◌, ◌⊎◌, inl, inr, ℕ, ◌<◌, List, [], Option, Some, None, sym, ap, subst, ◌∙◌}
use Rattle.sb_lex.specs.declared.token.Token.{Token}
use Rattle.sb_lex.specs.Lex.{Tokens}
use Rattle.sb_lex.specs.Cuts.{IsCut}
use Rattle.sb_lex.proofs.CutLaws.{only_cut}
use Rattle.sb_grammar.specs.declared.choice.Barred.{Barred}
use Rattle.sb_grammar.specs.Rules.{Rule}
use Rattle.sb_grammar.specs.Whole.{Begins, FirstPlace, IsBarred, IsGrammar}
use Rattle.sb_grammar.proofs.WholeLaws.{one_first, not_all, one_barred, none_spelled}
use Rattle.sb_parse.specs.declared.text.ParseRefused.{ParseRefused}
use Rattle.sb_parse.specs.declared.text.ParseRefused.TheVariants.{OutOfMemory, BadStatement, Unsupported, Unlexed}
use Rattle.sb_parse.specs.Lexemes.{lexemes_of}
use Rattle.sb_parse.specs.Places.{IsSpelledIn, place_of, IsFirstPlace, IsBadStatement, IsUnlexedAt, Refuses}

-- a refusal of the text, and not want of memory
abbrev pub IsKnown : ParseRefused → Type 0
IsKnown OutOfMemory = ⊥
IsKnown (BadStatement at) = Unit {0}
IsKnown (Unsupported at what) = Unit {0}
IsKnown (Unlexed at) = Unit {0}

abbrev some_place : ℕ → Option ℕ
some_place at = Some at

place_is : (a b : ℕ) → some_place a ≡ some_place b → a ≡ b
place_is a b e = cc

no_place : (a : ℕ) → some_place a ≡ None → ⊥
no_place a e = cc

-- a text is cut in one way
one_cut : (text : List ℕ) (ts us : List Token) (u v : Option ℕ) → IsCut text ts u → IsCut text us v → (us ≡ ts) × (v ≡ u)
one_cut text ts us u v c d =
    let same = sym (only_cut text us v d) ∙ only_cut text ts u c in
    (ap (λ (x : Tokens). x.tokens) same, ap (λ (x : Tokens). x.unlexed) same)

module _ {A : Type 0} (r : Rule A) (G : IsGrammar r) (text : List ℕ) where
  -- the same tokens, and as many left
  same_place : (a b : ℕ) (P : IsFirstPlace r text a) (Q : IsFirstPlace r text b) → (Q.tokens ≡ P.tokens) × (Q.left ≡ P.left)
  same_place a b P Q =
      let cut = one_cut text P.tokens Q.tokens P.unlexed Q.unlexed P.cut Q.cut in
      let first = subst (λ (z : List Token). FirstPlace r (lexemes_of text z) Q.left) cut.0 Q.first in
      (cut.0, one_first r (lexemes_of text P.tokens) Q.left P.left first P.first)

  one_place : (a b : ℕ) → IsFirstPlace r text a → IsFirstPlace r text b → a ≡ b
  one_place a b P Q =
      let same = same_place a b P Q in
      P.there ∙ sym (Q.there ∙ ap (λ (z : List Token). place_of z Q.left) same.0 ∙ ap (place_of P.tokens) same.1)

  moved : (a b : ℕ) (P : IsFirstPlace r text a) (Q : IsFirstPlace r text b) (w : Barred) → IsBarred r (lexemes_of text Q.tokens) Q.left w → IsBarred r (lexemes_of text P.tokens) P.left w
  moved a b P Q w h =
      let same = same_place a b P Q in
      subst (λ (n : ℕ). IsBarred r (lexemes_of text P.tokens) n w) same.1 (subst (λ (z : List Token). IsBarred r (lexemes_of text z) Q.left w) same.0 h)

  -- a token that stands at the first place isn't one that no token stands at
  not_unlexed : (a b : ℕ) (P : IsFirstPlace r text a) → 0 < P.left → IsUnlexedAt r text b → ⊥
  not_unlexed a b P some U =
      let cut = one_cut text P.tokens U.tokens P.unlexed (Some b) P.cut U.cut in
      not_all r (lexemes_of text P.tokens) P.left P.first some (subst (λ (z : List Token). Begins r (lexemes_of text z)) cut.0 U.begins)

  not_both : (a b : ℕ) → IsBadStatement r text a → IsUnlexedAt r text b → ⊥
  not_both a b B U = by_end B.judged
    where
      by_end : (B.place.unlexed ≡ None) ⊎ (0 < B.place.left) → ⊥
      by_end (inl e) = no_place b ((one_cut text B.place.tokens U.tokens B.place.unlexed (Some b) B.place.cut U.cut).1 ∙ e)
      by_end (inr some) = not_unlexed a b B.place some U

  pub one_refusal : (one other : ParseRefused) → IsKnown one → IsKnown other → Refuses r text one → Refuses r text other → one ≡ other
  one_refusal OutOfMemory other k l h i = absurd k
  one_refusal (BadStatement a) OutOfMemory k l h i = absurd l
  one_refusal (BadStatement a) (BadStatement b) k l h i = ap (λ (n : ℕ). BadStatement n) (one_place a b h.place i.place)
  one_refusal (BadStatement a) (Unsupported b w) k l h i = absurd (h.supported w (moved a b h.place i.place w i.word))
  one_refusal (BadStatement a) (Unlexed b) k l h i = absurd (not_both a b h i)
  one_refusal (Unsupported a v) OutOfMemory k l h i = absurd l
  one_refusal (Unsupported a v) (BadStatement b) k l h i = absurd (i.supported v (moved b a i.place h.place v h.word))
  one_refusal (Unsupported a v) (Unsupported b w) k l h i =
      ap (λ (n : ℕ). Unsupported n v) (one_place a b h.place i.place) ∙ ap (λ (x : Barred). Unsupported b x) (one_barred r G (lexemes_of text h.place.tokens) h.place.left v w h.word (moved a b h.place i.place w i.word))
  one_refusal (Unsupported a v) (Unlexed b) k l h i = absurd (not_unlexed a b h.place h.some i)
  one_refusal (Unlexed a) OutOfMemory k l h i = absurd l
  one_refusal (Unlexed a) (BadStatement b) k l h i = absurd (not_both b a i h)
  one_refusal (Unlexed a) (Unsupported b w) k l h i = absurd (not_unlexed b a i.place i.some h)
  one_refusal (Unlexed a) (Unlexed b) k l h i = ap (λ (n : ℕ). Unlexed n) (place_is a b (sym (one_cut text h.tokens i.tokens (Some a) (Some b) h.cut i.cut).1))

  -- the tokens of the first place spell what the text spells
  spelled_there : (a : ℕ) (P : IsFirstPlace r text a) (x : A) → IsSpelledIn r x text → r.spells x (lexemes_of text P.tokens) []
  spelled_there a P x (ts, cut, s) = subst (λ (z : List Token). r.spells x (lexemes_of text z) []) (one_cut text P.tokens ts P.unlexed None P.cut cut).0 s

  pub refused_spells_none : (refused : ParseRefused) → IsKnown refused → Refuses r text refused → (x : A) → IsSpelledIn r x text → ⊥
  refused_spells_none OutOfMemory k h x s = k
  refused_spells_none (BadStatement a) k h x s = h.unspelled x (spelled_there a h.place x s)
  refused_spells_none (Unsupported a w) k h x s = none_spelled r G (lexemes_of text h.place.tokens) (h.place.left, Some w) (G.stated_is_barred (lexemes_of text h.place.tokens) h.place.left w h.word) x (spelled_there a h.place x s)
  refused_spells_none (Unlexed a) k h x (ts, cut, s) = no_place a (one_cut text ts h.tokens None (Some a) cut h.cut).1
