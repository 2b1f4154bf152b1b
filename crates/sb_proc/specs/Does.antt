-- What a block does, of a session (false) or of a procedure (true): its requests with their replies, and the refusal that ends it.
use Rattle.std.specs.Prelude.{◌≡◌, Bool, true, false, ◌&&◌, List, [], ◌∷◌, ◌++◌}
use Rattle.sb_log.specs.declared.refusals.Refusal.{Refusal}
use Rattle.sb_log.specs.declared.requests.Reply.{Reply}
use Rattle.sb_log.specs.declared.requests.Request.{Request}
use Rattle.sb_log.specs.declared.requests.Request.TheVariants as request
use Rattle.sb_model.specs.Sides.{Bytes}
use Rattle.sb_grammar.specs.declared.tree.Statement.{Statement}
use Rattle.sb_value.specs.declared.fault.Fault.{Fault}
use Rattle.sb_proc.specs.Requests.{Place}
use Rattle.sb_proc.specs.Replies.{scope_after, is_waiting}
use Rattle.sb_proc.specs.Scopes.{Scope}
use Rattle.sb_proc.specs.Turns.{Goes, Returns, Asks, Refuses, turn}
use Rattle.sb_proc.specs.Words.{words_of}

-- an act of a block: a request with its reply, a request that was refused, or a statement refused before it asked, by its words
pub data Deed : Type 0 where
  Replied : Request → Reply → Deed
  Denied : Request → Refusal → Deed
  Failed : Bytes → Fault → Deed

abbrev pub is_rollback : Request → Bool
is_rollback request.Rollback = true
is_rollback _ = false

-- From these variables the statements do these deeds, and leave those variables.
pub data Does : Place → Bool → List Statement → Scope → List Deed → Scope → Type 0 where
  -- the end of the block
  ends : {p : Place} {b : Bool} {s : Scope} → Does p b [] s [] s
  -- a statement that is done without its instance
  goes : {p : Place} {b : Bool} {x : Statement} {xs rest : List Statement} {s t u : Scope} {deeds : List Deed} →
      turn p s x ≡ Goes xs t → Does p b (xs ++ rest) t deeds u → Does p b (x ∷ rest) s deeds u
  -- RETURN
  returns : {p : Place} {b : Bool} {x : Statement} {rest : List Statement} {s : Scope} →
      turn p s x ≡ Returns → Does p b (x ∷ rest) s [] s
  -- a refusal ends the block, before the instance is asked or by the instance
  refuses : {p : Place} {b : Bool} {x : Statement} {rest : List Statement} {s : Scope} {fault : Fault} →
      turn p s x ≡ Refuses fault → Does p b (x ∷ rest) s (Failed (words_of x) fault ∷ []) s
  denied : {p : Place} {b : Bool} {x : Statement} {rest : List Statement} {s : Scope} {r : Request} {refusal : Refusal} →
      turn p s x ≡ Asks r → Does p b (x ∷ rest) s (Denied r refusal ∷ []) s
  -- a reply
  replied : {p : Place} {b : Bool} {x : Statement} {rest : List Statement} {s u : Scope} {r : Request} {answer : Reply} {deeds : List Deed} →
      turn p s x ≡ Asks r → is_waiting answer ≡ false → (b && is_rollback r) ≡ false →
      Does p b rest (scope_after s x answer) deeds u → Does p b (x ∷ rest) s (Replied r answer ∷ deeds) u
  -- waiting leaves the block where it was
  waits : {p : Place} {b : Bool} {x : Statement} {rest : List Statement} {s u : Scope} {r : Request} {answer : Reply} {deeds : List Deed} →
      turn p s x ≡ Asks r → is_waiting answer ≡ true → Does p b (x ∷ rest) s deeds u → Does p b (x ∷ rest) s (Replied r answer ∷ deeds) u
  -- ROLLBACK ends a procedure
  rolls_back : {p : Place} {x : Statement} {rest : List Statement} {s : Scope} {r : Request} {answer : Reply} →
      turn p s x ≡ Asks r → is_waiting answer ≡ false → is_rollback r ≡ true →
      Does p true (x ∷ rest) s (Replied r answer ∷ []) (scope_after s x answer)
