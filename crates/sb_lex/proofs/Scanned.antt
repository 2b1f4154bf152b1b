-- What follows where a call has the scanner's tokens.
use Rattle.std.proofs.Common.{◌≡◌, ℕ, List, Option, Result, Ok, Err, length, sym, ap, subst, ◌∙◌}
use Rattle.std.specs.Prelude.{IfOk}
use Rattle.sb_lex.specs.declared.lex.Lexed.{Lexed}
use Rattle.sb_lex.specs.Answer.{tokens_in}
use Rattle.sb_lex.specs.declared.token.Token.{Token}
use Rattle.sb_lex.specs.Lex.{Tokens, tokens_of}
use Rattle.sb_lex.specs.Cuts.{IsCut, IsOnlyCut, InOrder}
use Rattle.sb_lex.proofs.CutLaws.{is_cut, only_cut, cut_in_order}

abbrev scanned : List Token → Option ℕ → Tokens
scanned ts u = record { tokens = ts; unlexed = u }

pub cut_of : (z : List ℕ) (ts : List Token) (u : Option ℕ) → scanned ts u ≡ tokens_of z → IsCut z ts u
cut_of z ts u e = subst (λ (t : Tokens). IsCut z t.tokens t.unlexed) (sym e) (is_cut z)

pub only_of : (z : List ℕ) (ts : List Token) (u : Option ℕ) → scanned ts u ≡ tokens_of z → IsOnlyCut z ts u
only_of z ts u e vs w C =
    let same : scanned vs w ≡ scanned ts u = sym (only_cut z vs w C) ∙ sym e in
    (ap (λ (t : Tokens). t.tokens) same, ap (λ (t : Tokens). t.unlexed) same)

pub order_of : (z : List ℕ) (ts : List Token) (u : Option ℕ) → scanned ts u ≡ tokens_of z → InOrder 0 ts (length z)
order_of z ts u e = cut_in_order z ts u (cut_of z ts u e)

-- what holds of the tokens that a call scanned
pub if_scanned : {E : Type 0} (z : List ℕ) (r : Result Lexed E) (P : List Token → Option ℕ → Type 0) → ((ts : List Token) (u : Option ℕ) → scanned ts u ≡ tokens_of z → P ts u)
    → IfOk r (λ l. tokens_in l ≡ tokens_of z) → IfOk r (λ l. P l.tokens.items l.unlexed)
if_scanned z (Ok l) P each h = each l.tokens.items l.unlexed h
if_scanned z (Err e) P each h = h

pub cut_as : (z : List ℕ) (ts : List Token) (u w : Option ℕ) → scanned ts u ≡ tokens_of z → u ≡ w → IsCut z ts w
cut_as z ts u w e is = subst (IsCut z ts) is (cut_of z ts u e)
