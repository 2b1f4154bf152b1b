-- What holds of each plan that a request can have: a refusal owes nothing, and the tests before a plan are passed over.
use Rattle.std.proofs.Common.{◌≡◌, Bool, true, false, Option, Some, None, Result, Ok, Err, refl, subst}
use Rattle.std.specs.Prelude.{⊤, ℤ}
use Rattle.sb_log.specs.declared.refusals.Refusal.{Refusal}
use Rattle.sb_log.specs.declared.requests.Filter.{Filter}
use Rattle.sb_log.specs.declared.requests.Filter.TheVariants as filters
use Rattle.sb_log.specs.declared.requests.Relation.{Relation}
use Rattle.sb_log.specs.declared.requests.Relation.TheVariants as relation
use Rattle.sb_model.specs.Refusals.{need, refuse_if, unless_refused, and_then}
use Rattle.sb_model.specs.Replies.{Ask, Plan, Planned, live, with_optional_number, with_relation, with_filter}

-- a plan, where there is one, has the property
abbrev pub OfPlan : (Plan → Type 0) → Planned → Type 0
OfPlan P (Err r) = ⊤
OfPlan P (Ok p) = P p

pub of_plan : (P : Plan → Type 0) (r : Planned) (p : Plan) → r ≡ Ok p → OfPlan P r → P p
of_plan P (Err k) p e h = cc
of_plan P (Ok q) p e h = subst_plan (same q p e)
  where
    same : (a b : Plan) → ◌≡◌ {A = Planned} (Ok a) (Ok b) → a ≡ b
    same a b f = cc

    subst_plan : q ≡ p → P p
    subst_plan f = subst P f h

module _ (P : Plan → Type 0) where
  pub past_need : {A : Type 0} (o : Option A) (r : Refusal) (rest : A → Planned) → ((x : A) → o ≡ Some x → OfPlan P (rest x)) → OfPlan P (need o r rest)
  past_need None r rest f = tt
  past_need (Some x) r rest f = f x refl

  pub past_test : (b : Bool) (r : Refusal) (rest : Planned) → (b ≡ false → OfPlan P rest) → OfPlan P (refuse_if b r rest)
  past_test true r rest f = tt
  past_test false r rest f = f refl

  pub past_refusal : (o : Option Refusal) (rest : Planned) → (o ≡ None → OfPlan P rest) → OfPlan P (unless_refused o rest)
  past_refusal None rest f = f refl
  past_refusal (Some r) rest f = tt

  pub past_value : {A : Type 0} (v : Result A Refusal) (rest : A → Planned) → ((x : A) → OfPlan P (rest x)) → OfPlan P (and_then v rest)
  past_value (Ok x) rest f = f x
  past_value (Err r) rest f = tt

  pub past_number : (z : Option ℤ) (rest : Planned) → OfPlan P rest → OfPlan P (with_optional_number z rest)
  past_number None rest h = h
  past_number (Some z) rest h = past_test _ _ rest (λ e. h)

  pub past_relation : (a : Ask) (r : Relation) (rest : Planned) → OfPlan P rest → OfPlan P (with_relation a r rest)
  past_relation a relation.Alone rest h = h
  past_relation a (relation.Group g) rest h = h
  past_relation a (relation.Conversation handle) rest h = past_need (live a handle) _ (λ s. rest) (λ s e. h)

  pub past_filter : (a : Ask) (f : Filter) (rest : Planned) → OfPlan P rest → OfPlan P (with_filter a f rest)
  past_filter a filters.All rest h = h
  past_filter a (filters.Group g) rest h = h
  past_filter a (filters.Side handle) rest h = past_need (live a handle) _ (λ s. rest) (λ s e. h)
