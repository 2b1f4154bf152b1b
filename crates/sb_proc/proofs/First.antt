-- The statement that comes next, and what is put before the others.
use Rattle.std.proofs.Common.{◌≡◌, ℕ, ℤ, Bool, true, false, cond, List, [], ◌∷◌, drop, Some, None, Result, Ok, refl, sym, ap, ◌∙◌, subst}
use Rattle.std.specs.List.{slice_get}
use Rattle.std.specs.Prelude.{codes}
use Rattle.sb_log.specs.declared.requests.Reply.{Reply}
use Rattle.sb_log.specs.declared.requests.Reply.TheVariants as reply
use Rattle.sb_grammar.specs.declared.tree.Statement.{Statement, out-Statement}
use Rattle.sb_value.specs.declared.fault.Fault.{Fault}
use Rattle.sb_value.specs.Faults.{and_then, GivesAfter}
use Rattle.sb_proc.specs.declared.variables.Variable.{Variable}
use Rattle.sb_proc.specs.Machines.{Standing, standing, past, told}
use Rattle.sb_proc.specs.Replies.{is_waiting, rows_after, scope_after, variables_after_at}
use Rattle.sb_proc.specs.Requests.{Place, asked}
use Rattle.sb_proc.specs.Scopes.{Scope, scope_with}
use Rattle.sb_proc.specs.Steps.{Stored, aside, computed, first_asked, first_computed, first_words, next_asked, next_computed, next_words}
use Rattle.sb_proc.specs.Words.{words_of}
use Rattle.sb_proc.proofs.Going.{aside_gives}

first_is : (rest : List Statement) (x : Statement) → Some x ≡ slice_get rest 0 → rest ≡ x ∷ drop 1 rest
first_is [] x e = absurd cc
first_is (y ∷ rest) x e = let is : y ≡ x = cc in ap (λ z. z ∷ rest) is

none_first : (rest : List Statement) → None ≡ slice_get rest 0 → rest ≡ []
none_first [] e = refl
none_first (y ∷ rest) e = absurd cc

-- ---- what it asks, is named and stores

pub asked_first : (m : Standing) (p q : Place) (s t : Scope) (rest : List Statement) (x : Statement) → standing p rest s ≡ m → q ≡ p → t ≡ s →
    Some x ≡ slice_get rest 0 → asked q t x ≡ next_asked m
asked_first m p q s t rest x view at seen first =
    ap (λ (r : Place). asked r t x) at ∙ ap (λ (u : Scope). asked p u x) seen
    ∙ ap (first_asked p s) (sym (first_is rest x first)) ∙ ap next_asked view

pub none_asked : (m : Standing) (p : Place) (s : Scope) (rest : List Statement) → standing p rest s ≡ m → None ≡ slice_get rest 0 → next_asked m ≡ Ok None
none_asked m p s rest view none = sym (ap next_asked view) ∙ ap (first_asked p s) (none_first rest none)

pub words_first : (m : Standing) (p : Place) (s : Scope) (rest : List Statement) (x : Statement) → standing p rest s ≡ m →
    Some x ≡ slice_get rest 0 → words_of x ≡ next_words m
words_first m p s rest x view first = ap first_words (sym (first_is rest x first)) ∙ ap next_words view

pub none_words : (m : Standing) (p : Place) (s : Scope) (rest : List Statement) → standing p rest s ≡ m → None ≡ slice_get rest 0 → codes "" ≡ next_words m
none_words m p s rest view none = ap first_words (sym (none_first rest none)) ∙ ap next_words view

pub stored_first : (m : Standing) (p : Place) (s t : Scope) (rest : List Statement) (x : Statement) (r : Result Bool Fault) → standing p rest s ≡ m →
    Some x ≡ slice_get rest 0 → GivesAfter {A = Scope} {B = Bool} (computed s x) r s t → GivesAfter {A = Standing} {B = Bool} (next_computed m) r m (standing p rest t)
stored_first m p s t rest x r view first h =
    let is : computed s x ≡ first_computed s rest = ap (first_computed s) (sym (first_is rest x first)) in
    subst (λ (n : Standing). GivesAfter {A = Standing} {B = Bool} (next_computed n) r n (standing p rest t)) view
    (aside_gives p rest (first_computed s rest) r s t (subst (λ (q : Stored). GivesAfter {A = Scope} {B = Bool} q r s t) is h))

pub none_stored : (m : Standing) (p : Place) (s : Scope) (rest : List Statement) → standing p rest s ≡ m → None ≡ slice_get rest 0 →
    next_computed m ≡ Ok (standing p rest s, false)
none_stored m p s rest view none =
    sym (ap next_computed view) ∙ ap (λ r. and_then (first_computed s r) (aside p rest)) (none_first rest none)

-- ---- replies

past_waits : (p : Place) (s : Scope) (rest : List Statement) (answer : Reply) → is_waiting answer ≡ true → standing p rest s ≡ past p s rest answer
past_waits p s [] answer e = refl
past_waits p s (x ∷ rest) answer e = sym (ap (λ w. cond w (standing p (x ∷ rest) s) (standing p rest (scope_after s x answer))) e)

pub told_waits : (m : Standing) (tx : ℕ) (answer : Reply) → answer ≡ reply.Waiting tx → m ≡ told m answer
told_waits m tx answer is = past_waits m.place m.scope m.rest answer (ap is_waiting is)

pub told_none : (m : Standing) (p : Place) (s : Scope) (rest : List Statement) (answer : Reply) → standing p rest s ≡ m → None ≡ slice_get rest 0 →
    standing p rest s ≡ told m answer
told_none m p s rest answer view none =
    let is = none_first rest none in
    ap (λ r. standing p r s) is ∙ ap (λ r. past p s r answer) (sym is) ∙ ap (λ (n : Standing). told n answer) view

not_waiting : (answer : Reply) → ((tx : ℕ) → answer ≡ reply.Waiting tx → ⊥) → is_waiting answer ≡ false
not_waiting (reply.Waiting tx) h = absurd (h tx refl)
not_waiting _ h = refl

pub told_next : (m : Standing) (p : Place) (s t : Scope) (rest after : List Statement) (x : Statement) (answer : Reply) → standing p rest s ≡ m →
    Some x ≡ slice_get rest 0 → ((tx : ℕ) → answer ≡ reply.Waiting tx → ⊥) → t ≡ scope_after s x answer → after ≡ drop 1 rest →
    standing p after t ≡ told m answer
told_next m p s t rest after x answer view first h takes drops =
    ap (λ (u : Scope). standing p after u) takes ∙ ap (λ r. standing p r (scope_after s x answer)) drops
    ∙ sym (ap (λ w. cond w (standing p (x ∷ drop 1 rest) s) (standing p (drop 1 rest) (scope_after s x answer))) (not_waiting answer h))
    ∙ ap (λ r. past p s r answer) (sym (first_is rest x first)) ∙ ap (λ (n : Standing). told n answer) view

abbrev scope_of_parts : List Variable → ℤ → Scope
scope_of_parts vs rows = record { variables = vs; rows = rows }

-- a reply's rows and values together
pub taken_scope : (old counted : Scope) (n rows : ℤ) (x : Statement) (answer : Reply) → counted.variables ≡ old.variables → counted.rows ≡ n →
    n ≡ rows_after rows answer → rows ≡ old.rows →
    scope_with counted (variables_after_at counted.variables (out-Statement x) answer) ≡ scope_after old x answer
taken_scope old counted n rows x answer same counts after were =
    ap (λ vs. scope_of_parts (variables_after_at vs (out-Statement x) answer) counted.rows) same
    ∙ ap (scope_of_parts (variables_after_at old.variables (out-Statement x) answer)) (counts ∙ after ∙ ap (λ r. rows_after r answer) were)
