-- A loop of the code that reads until there is none.
use Rattle.std.proofs.Common.{◌≡◌, ℕ, zero, suc, ◌<◌, List, [], ◌∷◌, ◌++◌, length, Option, Some, None, Ok, Err, sym, ap, ◌∙◌, arith}
use Rattle.sb_grammar.specs.Rules.{Toks, Stop, bad, barred_at, Read, Rule, until_by, until}
use Rattle.sb_parse.specs.declared.fault.Fault.{Fault}
use Rattle.sb_parse.specs.declared.fault.Fault.TheVariants.{Memory, Bad, Unsupported}
use Rattle.sb_parse.specs.Gives.{Fails}
use Rattle.sb_grammar.proofs.Laws.{bind_by}

-- reading goes on from here as from the start, with turns enough
pub record Untils {A : Type 0} (r : Rule (Option A)) (F : Toks → Type 0) (all : List A) (ts : Toks) (whole : Read (List A)) : Type 0 where
  pub turns : ℕ
  pub enough : length ts < turns
  pub goes_on : (until turns r F all).reads ts ≡ whole

pub untils_start : {A : Type 0} (r : Rule (Option A)) (F : Toks → Type 0) (first : Rule A) (n : ℕ) (ts rest : Toks) (a : A)
    → first.reads ts ≡ Ok (a, rest) → length rest < n → Untils r F (a ∷ []) rest (bind_by (λ v. until n r F (v ∷ [])) (first.reads ts))
untils_start r F first n ts rest a e enough = record { turns = n; enough = enough; goes_on = sym (ap (bind_by (λ v. until n r F (v ∷ []))) e) }

go_at : {A : Type 0} (r : Rule (Option A)) (F : Toks → Type 0) (all : List A) (ts rest : Toks) (v : A) (whole : Read (List A))
    → (n : ℕ) → length ts < n → (until n r F all).reads ts ≡ whole → r.reads ts ≡ Ok (Some v, rest) → length rest < length ts → Untils r F (all ++ v ∷ []) rest whole
unfolding until
go_at r F all ts rest v whole zero e g h short = absurd (omega arith)
go_at r F all ts rest v whole (suc n) e g h short = record { turns = n; enough = omega arith; goes_on = sym (ap (bind_by (until_by (λ v. until n r F (all ++ v ∷ [])) all)) h) ∙ g }

pub untils_go : {A : Type 0} (r : Rule (Option A)) (F : Toks → Type 0) (all : List A) (ts rest : Toks) (v : A) (whole : Read (List A))
    → Untils r F all ts whole → r.reads ts ≡ Ok (Some v, rest) → length rest < length ts → Untils r F (all ++ v ∷ []) rest whole
untils_go r F all ts rest v whole U = go_at r F all ts rest v whole U.turns U.enough U.goes_on

end_at : {A : Type 0} (r : Rule (Option A)) (F : Toks → Type 0) (all : List A) (ts rest : Toks) (whole : Read (List A))
    → (n : ℕ) → length ts < n → (until n r F all).reads ts ≡ whole → r.reads ts ≡ Ok (None, rest) → whole ≡ Ok (all, rest)
unfolding until
end_at r F all ts rest whole zero e g h = absurd (omega arith)
end_at r F all ts rest whole (suc n) e g h = sym g ∙ ap (bind_by (until_by (λ v. until n r F (all ++ v ∷ [])) all)) h

pub untils_end : {A : Type 0} (r : Rule (Option A)) (F : Toks → Type 0) (all : List A) (ts rest : Toks) (whole : Read (List A))
    → Untils r F all ts whole → r.reads ts ≡ Ok (None, rest) → whole ≡ Ok (all, rest)
untils_end r F all ts rest whole U = end_at r F all ts rest whole U.turns U.enough U.goes_on

fail_at : {A : Type 0} (r : Rule (Option A)) (F : Toks → Type 0) (all : List A) (ts : Toks) (m : Stop) (whole : Read (List A))
    → (n : ℕ) → length ts < n → (until n r F all).reads ts ≡ whole → r.reads ts ≡ Err m → whole ≡ Err m
unfolding until
fail_at r F all ts m whole zero e g h = absurd (omega arith)
fail_at r F all ts m whole (suc n) e g h = sym g ∙ ap (bind_by (until_by (λ v. until n r F (all ++ v ∷ [])) all)) h

pub untils_fail : {A : Type 0} (r : Rule (Option A)) (F : Toks → Type 0) (all : List A) (ts : Toks) (m : Stop) (whole : Read (List A))
    → Untils r F all ts whole → r.reads ts ≡ Err m → whole ≡ Err m
untils_fail r F all ts m whole U = fail_at r F all ts m whole U.turns U.enough U.goes_on

pub untils_fails : {A : Type 0} (e : Fault) (r : Rule (Option A)) (F : Toks → Type 0) (all : List A) (ts : Toks) (whole : Read (List A)) → Untils r F all ts whole → Fails e (r.reads ts) → Fails e whole
untils_fails Memory r F all ts whole U h = tt
untils_fails (Bad m) r F all ts whole U h = untils_fail r F all ts (bad m) whole U h
untils_fails (Unsupported m w) r F all ts whole U h = untils_fail r F all ts (barred_at m w) whole U h
