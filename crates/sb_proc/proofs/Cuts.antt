-- A text that is cut out of a batch.
use Rattle.std.proofs.Common.{◌≡◌, ◌⊎◌, inl, inr, ℕ, ◌+◌, ◌-◌, ◌<◌, ◌≤◌, min, List, [], length, Option, drop, take, refl, sym, ap, ◌∙◌, arith}
use Rattle.std.proofs.lemmas.List.{drop_all, drop-take, take_min, length-take}
use Rattle.std.proofs.lemmas.Bool.{cases_lt}
use Rattle.std.specs.Str.Lossy.{utf8_lossy}
use Rattle.sb_lex.specs.Cuts.{IsCut}
use Rattle.sb_lex.specs.Lex.{Tokens, tokens_of}
use Rattle.sb_lex.specs.declared.token.Token.{Token}
use Rattle.sb_lex.proofs.CutLaws.{only_cut}
use Rattle.sb_proc.specs.Requests.{end_of_last, procedure_text}

within : {A : Type 0} (at t : ℕ) (xs : List A) → at ≤ t → take (t - at) (drop at xs) ≡ drop at (take t xs)
within at t xs le =
    let whole : at + (t - at) ≡ t = omega arith in
    sym (drop-take at (t - at) xs) ∙ ap (λ n. drop at (take n xs)) whole

past : {A : Type 0} (at t : ℕ) (xs : List A) → t < at → take (t - t) (drop t xs) ≡ drop at (take t xs)
past at t xs lt =
    let none : t - t ≡ 0 = omega arith in
    let short : length (take t xs) ≤ at = omega (arith, length-take t xs) in
    ap (λ n. take n (drop t xs)) none ∙ sym (drop_all at (take t xs) short)

by_order : {A : Type 0} (at t s : ℕ) (xs : List A) → (t < at) ⊎ (at ≤ t) → s ≡ min at t → take (t - s) (drop s xs) ≡ drop at (take t xs)
by_order at t s xs (inl lt) is = let e : s ≡ t = omega arith in ap (λ n. take (t - n) (drop n xs)) e ∙ past at t xs lt
by_order at t s xs (inr le) is = let e : s ≡ at = omega arith in ap (λ n. take (t - n) (drop n xs)) e ∙ within at t xs le

-- from one place to another, where the text may end before them
pub cut_is : {A : Type 0} (at e t s : ℕ) (xs : List A) → t ≡ min e (length xs) → s ≡ min at t → take (t - s) (drop s xs) ≡ drop at (take e xs)
cut_is at e t s xs ends starts =
    by_order at t s xs (cases_lt t at) starts ∙ ap (λ n. drop at (take n xs)) ends ∙ ap (drop at) (take_min e xs)

-- the scanner's tokens, by how a text is cut
tokens_are : (text : List ℕ) (ts : List Token) (u : Option ℕ) → IsCut text ts u → (tokens_of text).tokens ≡ ts
tokens_are text ts u c = ap (λ (t : Tokens). t.tokens) (only_cut text ts u c)

-- a procedure's text, by where the last token of its batch's cut ends
pub text_is : (at e t s : ℕ) (batch bytes : List ℕ) (ts given : List Token) (u : Option ℕ) → IsCut batch ts u → bytes ≡ batch → given ≡ ts → e ≡ end_of_last given →
    t ≡ min e (length bytes) → s ≡ min at t → utf8_lossy (take (t - s) (drop s bytes)) ≡ procedure_text at batch
text_is at e t s batch bytes ts given u c same all is ends starts =
    ap utf8_lossy (cut_is at e t s bytes ends starts)
    ∙ ap (λ z. utf8_lossy (drop at (take e z))) same
    ∙ ap (λ n. utf8_lossy (drop at (take n batch))) (is ∙ ap end_of_last (all ∙ sym (tokens_are batch ts u c)))
