-- A quoted token stands for what is quoted.
use Rattle.std.proofs.Common.{◌≡◌, ℕ, ◌-◌, ◌==◌, Bool, true, false, List, [], ◌∷◌, ◌++◌, length, take, refl, sym, ap, ◌∙◌, arith, length-append}
use Rattle.std.specs.Prelude.{if◌then◌else◌}
use Rattle.std.proofs.Math.Seq.{take-append_seam}
use Rattle.std.proofs.lemmas.Bool.{eqb-true, eq-eqb}
use Rattle.sb_lex.specs.declared.token.TokenKind.TheVariants as tokens
use Rattle.sb_lex.specs.Cuts.{doubled, quoted}
use Rattle.sb_parse.specs.Lexemes.{undoubled, inner, value_of}

one_more : (q b : ℕ) (z : List ℕ) (c : Bool) → (b == q) ≡ c → undoubled q false (doubled q z) ≡ z → undoubled q false (doubled q (b ∷ z)) ≡ b ∷ z
one_more q b z true h e =
    ap (λ (c : Bool). undoubled q false (if c then q ∷ q ∷ doubled q z else b ∷ doubled q z)) h ∙ ap (λ (c : Bool). q ∷ undoubled q c (q ∷ doubled q z)) (eq-eqb q q refl)
    ∙ ap (λ (y : List ℕ). q ∷ y) e ∙ ap (λ (v : ℕ). v ∷ z) (sym (eqb-true b q h))
one_more q b z false h e =
    ap (λ (c : Bool). undoubled q false (if c then q ∷ q ∷ doubled q z else b ∷ doubled q z)) h ∙ ap (λ (c : Bool). b ∷ undoubled q c (doubled q z)) h ∙ ap (λ (y : List ℕ). b ∷ y) e

undoubled_doubled : (q : ℕ) (z : List ℕ) → undoubled q false (doubled q z) ≡ z
undoubled_doubled q [] = refl
undoubled_doubled q (b ∷ z) = one_more q b z (b == q) refl (undoubled_doubled q z)

-- behind what opens it and before the closing quote
inner_is : (n : ℕ) (d : List ℕ) (q : ℕ) → n ≡ length d → take n (d ++ q ∷ []) ≡ d
inner_is n d q e = ap (λ (n : ℕ). take n (d ++ q ∷ [])) e ∙ take-append_seam d (q ∷ [])

first_inner : (a : ℕ) (d : List ℕ) (q : ℕ) → inner 1 (a ∷ (d ++ q ∷ [])) ≡ d
first_inner a d q = let len = length-append d (q ∷ []) in inner_is (length (a ∷ (d ++ q ∷ [])) - 1 - 1) d q (omega (arith, len))

second_inner : (a b : ℕ) (d : List ℕ) (q : ℕ) → inner 2 (a ∷ b ∷ (d ++ q ∷ [])) ≡ d
second_inner a b d q = let len = length-append d (q ∷ []) in inner_is (length (a ∷ b ∷ (d ++ q ∷ [])) - 2 - 1) d q (omega (arith, len))

pub text_stands_for : (z : List ℕ) → value_of tokens.Text (quoted 39 39 z) ≡ z
text_stands_for z = ap (undoubled 39 false) (first_inner 39 (doubled 39 z) 39) ∙ undoubled_doubled 39 z

pub national_stands_for : (z : List ℕ) → value_of tokens.Text (78 ∷ quoted 39 39 z) ≡ z
national_stands_for z = ap (undoubled 39 false) (second_inner 78 39 (doubled 39 z) 39) ∙ undoubled_doubled 39 z

pub quoted_stands_for : (z : List ℕ) → value_of tokens.Quoted (quoted 34 34 z) ≡ z
quoted_stands_for z = ap (undoubled 34 false) (first_inner 34 (doubled 34 z) 34) ∙ undoubled_doubled 34 z

pub bracketed_stands_for : (z : List ℕ) → value_of tokens.Bracketed (quoted 91 93 z) ≡ z
bracketed_stands_for z = ap (undoubled 93 false) (first_inner 91 (doubled 93 z) 93) ∙ undoubled_doubled 93 z
