-- The turns of a machine are those of its block.
use Rattle.std.proofs.Common.{◌≡◌, ◌≢◌, ◌⊎◌, inl, inr, ◌+◌, ◌<◌, Bool, false, List, [], ◌∷◌, ◌++◌, Option, Some, None, Result, Ok, Err, refl, sym, ap, ◌∙◌, subst, arith}
use Rattle.sb_log.specs.declared.requests.Request.{Request}
use Rattle.sb_model.specs.Sides.{Bytes}
use Rattle.sb_grammar.specs.declared.tree.Statement.{Statement, out-Statement}
use Rattle.sb_grammar.specs.declared.tree.Statement.TheOpen.{Statement-F}
use Rattle.sb_value.specs.declared.fault.Fault.{Fault}
use Rattle.sb_value.specs.declared.fault.Fault.TheVariants as fault
use Rattle.sb_value.specs.Faults.{and_then, Gives}
use Rattle.sb_proc.specs.declared.act.Act.TheVariants.{Run, End}
use Rattle.sb_proc.specs.declared.act.MachineFault.{MachineFault}
use Rattle.sb_proc.specs.declared.act.MachineFault.TheVariants as machine_fault
use Rattle.sb_proc.specs.Expressions.{holds}
use Rattle.sb_proc.specs.Machines as machines
use Rattle.sb_proc.specs.Machines.{Standing, standing, Reaches, gives, refused, refusal_of, act_by, fault_by, act_of, fault_of, IsShownAs, IsOfWords}
use Rattle.sb_proc.specs.Requests.{Place, asked_at}
use Rattle.sb_proc.specs.Scopes.{Scope}
use Rattle.sb_proc.specs.Steps.{Stored, computed_at, left_at, first_asked, next_asked, next_words, first_words, aside, passing, stepped, refused_by, step_refused}
use Rattle.sb_proc.specs.Turns.{Goes, Asks, Refuses, turn, turn_at, turned, asking, branch, after_declare, after_set}
use Rattle.sb_proc.specs.Words.{words_of}
use Rattle.sb_proc.proofs.Weights.{weights, left_weighs, layer_weight, out_weighs, weights_cons}

-- ---- what is asked

asks_layer : (p : Place) (s : Scope) (r : Request) (y : Statement-F Statement) → asked_at p s y ≡ Ok (Some r) → turn_at p s y ≡ Asks r
asks_layer p s r (Statement-F.Declare all) e = absurd cc
asks_layer p s r (Statement-F.Set name value) e = absurd cc
asks_layer p s r (Statement-F.SetNoCount on) e = absurd cc
asks_layer p s r (Statement-F.If condition taken passed) e = absurd cc
asks_layer p s r (Statement-F.Block all) e = absurd cc
asks_layer p s r Statement-F.Return e = absurd cc
asks_layer p s r y e = ap (asking s) e

refuses_layer : (p : Place) (s : Scope) (f : Fault) (y : Statement-F Statement) → asked_at p s y ≡ Err f → turn_at p s y ≡ Refuses f
refuses_layer p s f (Statement-F.Declare all) e = absurd cc
refuses_layer p s f (Statement-F.Set name value) e = absurd cc
refuses_layer p s f (Statement-F.SetNoCount on) e = absurd cc
refuses_layer p s f (Statement-F.If condition taken passed) e = absurd cc
refuses_layer p s f (Statement-F.Block all) e = absurd cc
refuses_layer p s f Statement-F.Return e = absurd cc
refuses_layer p s f y e = ap (asking s) e

asked_act : (p : Place) (s : Scope) (rest : List Statement) (r : Request) → first_asked p s rest ≡ Ok (Some r) → act_of p s rest ≡ Some (Run r)
asked_act p s [] r e = absurd cc
asked_act p s (x ∷ rest) r e = ap act_by (asks_layer p s r (out-Statement x) e)

-- what is asked is what the block asks
pub asked_gives : (m : Standing) (r : Request) → next_asked m ≡ Ok (Some r) → gives m ≡ Some (Run r)
asked_gives m r e = asked_act m.place m.scope m.rest r e

pub end_gives : (m : Standing) → m.rest ≡ [] → gives m ≡ Some End
end_gives m e = ap (act_of m.place m.scope) e

-- ---- what is refused

asked_fault : (p : Place) (s : Scope) (rest : List Statement) (f : Fault) → first_asked p s rest ≡ Err f →
    fault_of p s rest ≡ Some (machine_fault.Refused (first_words rest) (refusal_of f))
asked_fault p s [] f e = absurd cc
asked_fault p s (x ∷ rest) f e = ap (fault_by (words_of x)) (refuses_layer p s f (out-Statement x) e)

shown : (m : Standing) (f : Fault) (why : MachineFault) → next_asked m ≡ Err f →
    (why ≡ machine_fault.OutOfMemory) ⊎ (why ≡ machine_fault.Refused (next_words m) (refusal_of f)) →
    (why ≡ machine_fault.OutOfMemory) ⊎ (refused m ≡ Some why)
shown m f why e (inl memory) = inl memory
shown m f why e (inr is) = inr (asked_fault m.place m.scope m.rest f e ∙ ap Some (sym is))

-- a fault of what is asked is the refusal of the statement, unless memory is wanting
pub asked_refused : (m : Standing) (f : Fault) (why : MachineFault) → Gives (next_asked m) (Err f) → IsShownAs (next_words m) f why →
    (why ≡ machine_fault.OutOfMemory) ⊎ (refused m ≡ Some why)
asked_refused m (fault.NoVariable name) why e is = shown m (fault.NoVariable name) why e is
asked_refused m (fault.WrongKind kind) why e is = shown m (fault.WrongKind kind) why e is
asked_refused m (fault.Overflow left) why e is = shown m (fault.Overflow left) why e is
asked_refused m fault.OutOfMemory why e is = inl is

-- a refusal before anything is asked
pub of_words : (words : Bytes) (f : Fault) (why : MachineFault) → IsShownAs words f why → IsOfWords why
of_words words (fault.NoVariable name) why (inl is) = subst IsOfWords (sym is) tt
of_words words (fault.NoVariable name) why (inr is) = subst IsOfWords (sym is) refl
of_words words (fault.WrongKind kind) why (inl is) = subst IsOfWords (sym is) tt
of_words words (fault.WrongKind kind) why (inr is) = subst IsOfWords (sym is) refl
of_words words (fault.Overflow left) why (inl is) = subst IsOfWords (sym is) tt
of_words words (fault.Overflow left) why (inr is) = subst IsOfWords (sym is) refl
of_words words fault.OutOfMemory why is = subst IsOfWords (sym is) tt

-- ---- what is done

-- to where a step comes
reach_by : (p : Place) (s t : Scope) (x : Statement) (xs rest : List Statement) (n : Standing) → turn p s x ≡ Goes xs t →
    standing p (xs ++ rest) t ≡ n → Reaches (standing p (x ∷ rest) s) n
reach_by p s t x xs rest n turned is = subst (λ m. Reaches (standing p (x ∷ rest) s) m) is (machines.goes turned machines.stays)

abbrev untested : Scope → Stored
untested t = Ok (t, false)

abbrev tested : Scope → Bool → Stored
tested s b = Ok (s, b)

-- where a statement leads that was computed
abbrev leads : Place → (Bool → List Statement) → Scope × Bool → Result Standing Fault
leads p rest q = Ok (standing p (rest q.1) q.0)

abbrev done : Place → Scope → List Statement → Statement-F Statement → Result Standing Fault
done p s rest y = and_then (computed_at s y) (leads p (λ b. left_at b y rest))

stored_reach : (p : Place) (s : Scope) (x : Statement) (rest : List Statement) (n : Standing) (r : Result Scope Fault) → turn p s x ≡ turned r (Goes []) →
    and_then (and_then r untested) (leads p (λ _. rest)) ≡ Ok n → Reaches (standing p (x ∷ rest) s) n
stored_reach p s x rest n (Ok t) turns e = let is : standing p rest t ≡ n = cc in reach_by p s t x [] rest n turns is
stored_reach p s x rest n (Err f) turns e = absurd cc

tested_reach : (p : Place) (s : Scope) (x taken : Statement) (passed : Option Statement) (rest : List Statement) (n : Standing) (r : Result Bool Fault) →
    turn p s x ≡ turned r (λ b. Goes (branch taken passed b) s) →
    and_then (and_then r (tested s)) (leads p (λ b. branch taken passed b ++ rest)) ≡ Ok n → Reaches (standing p (x ∷ rest) s) n
tested_reach p s x taken passed rest n (Ok b) turns e =
    let is : standing p (branch taken passed b ++ rest) s ≡ n = cc in reach_by p s s x (branch taken passed b) rest n turns is
tested_reach p s x taken passed rest n (Err f) turns e = absurd cc

reach_layer : (p : Place) (s : Scope) (x : Statement) (rest : List Statement) (n : Standing) (y : Statement-F Statement) → out-Statement x ≡ y →
    asked_at p s y ≡ Ok None → done p s rest y ≡ Ok n → Reaches (standing p (x ∷ rest) s) n
reach_layer p s x rest n (Statement-F.Declare all) is none e = stored_reach p s x rest n (after_declare s all) (ap (turn_at p s) is) e
reach_layer p s x rest n (Statement-F.Set name value) is none e = stored_reach p s x rest n (after_set s name value) (ap (turn_at p s) is) e
reach_layer p s x rest n (Statement-F.If condition taken passed) is none e =
    tested_reach p s x taken passed rest n (holds s condition) (ap (turn_at p s) is) e
reach_layer p s x rest n (Statement-F.Block all) is none e =
    let to : standing p (all ++ rest) s ≡ n = cc in reach_by p s s x all rest n (ap (turn_at p s) is) to
reach_layer p s x rest n Statement-F.Return is none e =
    let to : standing p [] s ≡ n = cc in subst (λ m. Reaches (standing p (x ∷ rest) s) m) to (machines.returns (ap (turn_at p s) is) machines.stays)
reach_layer p s x rest n (Statement-F.SetNoCount on) is none e =
    let to : standing p rest s ≡ n = cc in reach_by p s s x [] rest n (ap (turn_at p s) is) to
reach_layer p s x rest n y is none e =
    let to : standing p rest s ≡ n = cc in reach_by p s s x [] rest n (ap (turn_at p s) is ∙ ap (asking s) none) to

-- a step is what is computed, with what it leaves
step_flat : (p : Place) (x : Statement) (rest : List Statement) (r : Stored) →
    and_then (and_then r (aside p (x ∷ rest))) passing ≡ and_then r (leads p (λ b. left_at b (out-Statement x) rest))
step_flat p x rest (Ok q) = refl
step_flat p x rest (Err f) = refl

step_is : (p : Place) (x : Statement) (rest : List Statement) (s : Scope) → stepped (standing p (x ∷ rest) s) ≡ done p s rest (out-Statement x)
step_is p x rest s = step_flat p x rest (computed_at s (out-Statement x))

step_reach : (p : Place) (rest : List Statement) (s : Scope) (n : Standing) → first_asked p s rest ≡ Ok None → stepped (standing p rest s) ≡ Ok n →
    Reaches (standing p rest s) n
step_reach p [] s n none e = let to : standing p [] s ≡ n = cc in subst (λ m. Reaches (standing p [] s) m) to machines.stays
step_reach p (x ∷ rest) s n none e = reach_layer p s x rest n (out-Statement x) refl none (sym (step_is p x rest s) ∙ e)

-- behind what was reached
reach_more : {m n k : Standing} → Reaches m n → Reaches n k → Reaches m k
reach_more machines.stays more = more
reach_more (machines.goes turned on) more = machines.goes turned (reach_more on more)
reach_more (machines.returns turned on) more = machines.returns turned (reach_more on more)

-- one more turn
pub reach_step : (m n k : Standing) → Reaches m n → next_asked n ≡ Ok None → stepped n ≡ Ok k → Reaches m k
reach_step m n k way none e = reach_more way (step_reach n.place n.rest n.scope k none e)

-- ---- and ends

done_weighs : (p : Place) (rest : List Statement) (y : Statement-F Statement) (n : Standing) (r : Stored) →
    and_then r (leads p (λ b. left_at b y rest)) ≡ Ok n → weights n.rest < layer_weight y + weights rest
done_weighs p rest y n (Ok q) e =
    let is : standing p (left_at q.1 y rest) q.0 ≡ n = cc in
    let left : left_at q.1 y rest ≡ n.rest = ap (λ m. m.rest) is in
    rw (← left) (left_weighs q.1 y rest)
done_weighs p rest y n (Err f) e = absurd cc

step_weighs : (p : Place) (rest : List Statement) (s : Scope) (n : Standing) → rest ≢ [] → stepped (standing p rest s) ≡ Ok n → weights n.rest < weights rest
step_weighs p [] s n some e = absurd (some refl)
step_weighs p (x ∷ rest) s n some e =
    let less = done_weighs p rest (out-Statement x) n (computed_at s (out-Statement x)) (sym (step_is p x rest s) ∙ e) in
    omega (arith, less, out_weighs x, weights_cons x rest)

-- a turn leaves fewer statements
pub turn_weighs : (m n : Standing) → m.rest ≢ [] → stepped m ≡ Ok n → weights n.rest < weights m.rest
turn_weighs m n some e = step_weighs m.place m.rest m.scope n some e

-- ---- a refusal on the way

stored_fault : (p : Place) (s : Scope) (x : Statement) (rest : List Statement) (why : MachineFault) (r : Result Scope Fault) → turn p s x ≡ turned r (Goes []) →
    refused_by (words_of x) (and_then (and_then r untested) (leads p (λ _. rest))) ≡ Some why → fault_by (words_of x) (turn p s x) ≡ Some why
stored_fault p s x rest why (Ok t) turns e = absurd cc
stored_fault p s x rest why (Err f) turns e = ap (fault_by (words_of x)) turns ∙ e

tested_fault : (p : Place) (s : Scope) (x taken : Statement) (passed : Option Statement) (rest : List Statement) (why : MachineFault) (r : Result Bool Fault) →
    turn p s x ≡ turned r (λ b. Goes (branch taken passed b) s) →
    refused_by (words_of x) (and_then (and_then r (tested s)) (leads p (λ b. branch taken passed b ++ rest))) ≡ Some why →
    fault_by (words_of x) (turn p s x) ≡ Some why
tested_fault p s x taken passed rest why (Ok b) turns e = absurd cc
tested_fault p s x taken passed rest why (Err f) turns e = ap (fault_by (words_of x)) turns ∙ e

fault_layer : (p : Place) (s : Scope) (x : Statement) (rest : List Statement) (why : MachineFault) (y : Statement-F Statement) → out-Statement x ≡ y →
    refused_by (words_of x) (done p s rest y) ≡ Some why → fault_by (words_of x) (turn p s x) ≡ Some why
fault_layer p s x rest why (Statement-F.Declare all) is e = stored_fault p s x rest why (after_declare s all) (ap (turn_at p s) is) e
fault_layer p s x rest why (Statement-F.Set name value) is e = stored_fault p s x rest why (after_set s name value) (ap (turn_at p s) is) e
fault_layer p s x rest why (Statement-F.If condition taken passed) is e =
    tested_fault p s x taken passed rest why (holds s condition) (ap (turn_at p s) is) e
fault_layer p s x rest why y is e = absurd cc

step_fault : (p : Place) (rest : List Statement) (s : Scope) (why : MachineFault) → step_refused (standing p rest s) ≡ Some why → fault_of p s rest ≡ Some why
step_fault p [] s why e = absurd cc
step_fault p (x ∷ rest) s why e =
    fault_layer p s x rest why (out-Statement x) refl (sym (ap (refused_by (words_of x)) (step_is p x rest s)) ∙ e)

-- a refusal of what a statement stores or tests is the statement's
pub step_refuses : (m : Standing) (why : MachineFault) → step_refused m ≡ Some why → refused m ≡ Some why
step_refuses m why e = step_fault m.place m.rest m.scope why e
