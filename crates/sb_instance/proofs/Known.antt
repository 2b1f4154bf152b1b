-- What is known of sides stays right, as more of them are found out.
use Rattle.std.proofs.Common.{◌≡◌, Bool, true, false, cond, List, [], ◌∷◌, ◌++◌, sym, ap, subst, ◌∙◌}
use Rattle.std.specs.List.{All, Contains}
use Rattle.std.proofs.lemmas.List.Elements.{All-contains, All-push}
use Rattle.sb_log.specs.declared.entries.Entry.{Entry}
use Rattle.sb_log.specs.declared.identifiers.SideId.{SideId}
use Rattle.sb_log.specs.declared.requests.Filter.{Filter}
use Rattle.sb_model.specs.Sides.{Bytes}
use Rattle.sb_instance.specs.declared.facts.Facts.{Facts}
use Rattle.sb_instance.specs.Candidates.{facts_of}

-- each is what is so of its side
abbrev pub AreFacts : List Entry → Bytes → Filter → List Facts → Type 0
AreFacts log q f known = All (λ x. x ≡ facts_of log q f x.side) known

-- what is known of a side is what is so of it
pub known_of : (log : List Entry) (q : Bytes) (f : Filter) (known seen : List Facts) (x : Facts) (s : SideId) →
    AreFacts log q f known → seen ≡ known → Contains seen x → x.side ≡ s → x ≡ facts_of log q f s
known_of log q f known seen x s are sees is_in of_side =
    All-contains (λ y. y ≡ facts_of log q f y.side) known x are (subst (λ xs. Contains xs x) sees is_in) ∙ ap (facts_of log q f) of_side

-- a push, done or not, leaves facts
pub known_more : (log : List Entry) (q : Bytes) (f : Filter) (known after : List Facts) (x : Facts) (s : SideId) (is_done : Bool) →
    AreFacts log q f known → x ≡ facts_of log q f s → after ≡ cond is_done (known ++ x ∷ []) known → AreFacts log q f after
known_more log q f known after x s is_done are found pushed = subst (AreFacts log q f) (sym pushed) (by_push is_done)
  where
    by_push : (b : Bool) → AreFacts log q f (cond b (known ++ x ∷ []) known)
    by_push true = All-push (λ y. y ≡ facts_of log q f y.side) known x are (found ∙ ap (facts_of log q f) (sym (ap (λ y. y.side) found)))
    by_push false = are
