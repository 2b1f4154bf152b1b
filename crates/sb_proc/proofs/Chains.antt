-- The acts of a machine are what its block does.
use Rattle.std.proofs.Common.{◌≡◌, Bool, true, false, if◌then◌else◌, List, [], ◌∷◌, Some, refl}
use Rattle.sb_log.specs.declared.refusals.Refusal.{Refusal}
use Rattle.sb_log.specs.declared.requests.Reply.{Reply}
use Rattle.sb_log.specs.declared.requests.Request.{Request}
use Rattle.sb_model.specs.Sides.{Bytes}
use Rattle.sb_grammar.specs.declared.tree.Statement.{Statement}
use Rattle.sb_value.specs.declared.fault.Fault.{Fault}
use Rattle.sb_proc.specs.declared.act.Act.TheVariants.{Run, End}
use Rattle.sb_proc.specs.declared.act.MachineFault.TheVariants.{Refused}
use Rattle.sb_proc.specs.Does as does
use Rattle.sb_proc.specs.Does.{Deed, Does, Replied, Denied, Failed}
use Rattle.sb_proc.specs.Laws.{DoesFrom, ReachedDoes, EndDoesNothing, ToldDoes, DeniedEnds, FailedEnds}
use Rattle.sb_proc.specs.Machines as machines
use Rattle.sb_proc.specs.Machines.{Standing, standing, Reaches, act_by, act_of, fault_by, fault_of, past, refusal_of}
use Rattle.sb_proc.specs.Replies.{scope_after, is_waiting}
use Rattle.sb_proc.specs.Requests.{Place}
use Rattle.sb_proc.specs.Scopes.{Scope}
use Rattle.sb_proc.specs.Turns.{Turn, Goes, Returns, Asks, Refuses, turn}
use Rattle.sb_proc.specs.Words.{words_of}

walk : {b : Bool} {m n : Standing} {deeds : List Deed} {after : Scope} → Reaches m n → DoesFrom b n deeds after → DoesFrom b m deeds after
walk machines.stays d = d
walk (machines.goes turned more) d = does.goes turned (walk more d)
walk (machines.returns turned machines.stays) does.ends = does.returns turned

pub reached_does : ReachedDoes
reached_does b m n deeds after way d = walk way d

-- what asks gives its request, and nothing else does
asks_by : (t : Turn) (r : Request) → act_by t ≡ Some (Run r) → t ≡ Asks r
asks_by (Asks q) r e = cc
asks_by (Goes xs s) r e = cc
asks_by Returns r e = cc
asks_by (Refuses f) r e = cc

ends_not : (t : Turn) → act_by t ≡ Some End → ⊥
ends_not (Asks q) e = cc
ends_not (Goes xs s) e = cc
ends_not Returns e = cc
ends_not (Refuses f) e = cc

end_at : (b : Bool) (p : Place) (s : Scope) (rest : List Statement) → act_of p s rest ≡ Some End → Does p b rest s [] s
end_at b p s [] e = does.ends
end_at b p s (x ∷ rest) e = absurd (ends_not (turn p s x) e)

pub end_does_nothing : EndDoesNothing
end_does_nothing b m e = end_at b m.place m.scope m.rest e

told_by : (p : Place) (s : Scope) (x : Statement) (rest : List Statement) (r : Request) (answer : Reply) (deeds : List Deed) (after : Scope) (w : Bool) →
    turn p s x ≡ Asks r → is_waiting answer ≡ w → DoesFrom false (if w then standing p (x ∷ rest) s else standing p rest (scope_after s x answer)) deeds after →
    Does p false (x ∷ rest) s (Replied r answer ∷ deeds) after
told_by p s x rest r answer deeds after true asked waits d = does.waits asked waits d
told_by p s x rest r answer deeds after false asked waits d = does.replied asked waits refl d

told_at : (p : Place) (s : Scope) (rest : List Statement) (r : Request) (answer : Reply) (deeds : List Deed) (after : Scope) →
    act_of p s rest ≡ Some (Run r) → DoesFrom false (past p s rest answer) deeds after → Does p false rest s (Replied r answer ∷ deeds) after
told_at p s [] r answer deeds after e d = cc
told_at p s (x ∷ rest) r answer deeds after e d = told_by p s x rest r answer deeds after (is_waiting answer) (asks_by (turn p s x) r e) refl d

pub told_does : ToldDoes
told_does m r answer deeds after e d = told_at m.place m.scope m.rest r answer deeds after e d

denied_at : (b : Bool) (p : Place) (s : Scope) (rest : List Statement) (r : Request) (refusal : Refusal) →
    act_of p s rest ≡ Some (Run r) → Does p b rest s (Denied r refusal ∷ []) s
denied_at b p s [] r refusal e = cc
denied_at b p s (x ∷ rest) r refusal e = does.denied (asks_by (turn p s x) r e)

pub denied_ends : DeniedEnds
denied_ends b m r refusal e = denied_at b m.place m.scope m.rest r refusal e

refuses_by : (words says : Bytes) (t : Turn) (refusal : Refusal) → fault_by words t ≡ Some (Refused says refusal) →
    (f : Fault) × (t ≡ Refuses f) × (refusal ≡ refusal_of f) × (says ≡ words)
refuses_by words says (Refuses f) refusal e = (f, refl, cc, cc)
refuses_by words says (Asks q) refusal e = absurd cc
refuses_by words says (Goes xs s) refusal e = absurd cc
refuses_by words says Returns refusal e = absurd cc

failed_with : (b : Bool) (p : Place) (s : Scope) (x : Statement) (rest : List Statement) (words : Bytes) (refusal : Refusal) (f : Fault) →
    turn p s x ≡ Refuses f → refusal ≡ refusal_of f → words ≡ words_of x →
    (fault : Fault) × (refusal ≡ refusal_of fault) × Does p b (x ∷ rest) s (Failed words fault ∷ []) s
failed_with b p s x rest words refusal f turned is says = (f, is, rw says (does.refuses turned))

failed_at : (b : Bool) (p : Place) (s : Scope) (rest : List Statement) (words : Bytes) (refusal : Refusal) →
    fault_of p s rest ≡ Some (Refused words refusal) →
    (fault : Fault) × (refusal ≡ refusal_of fault) × Does p b rest s (Failed words fault ∷ []) s
failed_at b p s [] words refusal e = absurd cc
failed_at b p s (x ∷ rest) words refusal e =
    let found = refuses_by (words_of x) words (turn p s x) refusal e in
    failed_with b p s x rest words refusal found.0 found.1 found.2 found.3

pub failed_ends : FailedEnds
failed_ends b m words refusal e = failed_at b m.place m.scope m.rest words refusal e
