-- The fifth rollback in a row turns the queue off, and none else does.
use Rattle.std.proofs.Common.{◌≡◌, ℕ, Bool, true, false, List, [], ◌+◌, ◌^◌, ◌≤◌, Option, Some, None, refl, sym, ◌∙◌, ap, length, arith, cond}
use Rattle.std.specs.Prelude.{◌==◌, ◌&&◌, option_and_then, option_map, unwrap_or}
use Rattle.std.specs.Option.{option_eq, option_map_or}
use Rattle.std.specs.List.{list_any}
use Rattle.std.proofs.lemmas.Bool.Decides.{nat_tests}
use Rattle.sb_log.specs.declared.identifiers.Who.{Who}
use Rattle.sb_log.specs.declared.definitions.QueueDef.{QueueDef}
use Rattle.sb_log.specs.declared.entries.Entry.{Entry}
use Rattle.sb_log.specs.declared.steps.Step.{Step}
use Rattle.sb_model.specs.Sides.{Bytes, same_who, same_name}
use Rattle.sb_model.specs.Catalog.{find_queue, queue_is_on, queues, is_on}
use Rattle.sb_model.specs.Transactions.{OpenTransaction, find_open}
use Rattle.sb_model.specs.Instance.{Part}
use Rattle.sb_model.specs.Poison.{instance_of, rolled_back_by, received_from, added_to, turns_off_queue, has_poison_handling, rollbacks_in_a_row}
use Rattle.sb_model.specs.Rollbacks.{count_of, has_room, off_entries, disables}
use Rattle.sb_model.specs.Steps.{World, Stepped, part}
use Rattle.sb_model.specs.Histories.{Legal, Gives, outcome, after, first_world}
use Rattle.sb_laws.specs.Worlds.{StaysFresh}
use Rattle.sb_laws.specs.Starts.{StartsLinked}
use Rattle.sb_laws.specs.Fifth.{TurnsOffAtFive}
use Rattle.sb_laws.proofs.Sides.{both_left, both_right}
use Rattle.sb_laws.proofs.Delivered.{found_passes}
use Rattle.sb_laws.proofs.Parts.{PartOk, log_ok}
use Rattle.sb_laws.proofs.Steps.{open_is_up}
use Rattle.sb_laws.proofs.Worlds.{WorldOk}
use Rattle.sb_laws.proofs.Starts.{kept_along}
use Rattle.sb_laws.proofs.Acts.{who_self}
use Rattle.sb_laws.proofs.Counts.{names_same, queues_apart, turned_off}
use Rattle.sb_laws.proofs.CountWorlds.{rollbacks_along}
use Rattle.sb_laws.proofs.Histories.{same_is}
use Rattle.sb_laws.proofs.FifthSteps.{AddsOn, actor_adds, turnings_off}

clash : {P : Type 0} → true ≡ false → P
clash e = cc

-- the transaction that was rolled back received from the queue, and its instance is that of the actor
instance_is : (o : Option Who) (x : Who) → option_eq same_who o (Some x) ≡ true → o ≡ Some x
instance_is None x e = clash (sym e)
instance_is (Some y) x e = ap Some (same_is y x e)

-- a found transaction is one that is open
found_open : (p : Part) (t : Option ℕ) (o : OpenTransaction) → option_and_then (find_open p.open_txns) t ≡ Some o → (tx : ℕ) × (t ≡ Some tx) × (find_open p.open_txns tx ≡ Some o)
found_open p None o e = absurd (none e)
  where
    none : None ≡ Some o → ⊥
    none f = cc
found_open p (Some tx) o e = (tx, refl, e)

module _ (p : Part) (h : PartOk p) (o : OpenTransaction) (q : Bytes) (n : ℕ) (counted : count_of p.counts q ≡ n) (takes : received_from q o ≡ true) (poison : has_poison_handling p.log q ≡ true) where
  the_def : (r : Option QueueDef) → option_map_or (λ d. d.poison) r false ≡ true → (def : QueueDef) × (r ≡ Some def) × (def.poison ≡ true)
  the_def None e = clash (sym e)
  the_def (Some def) e = (def, refl, e)

  def : (d : QueueDef) × (find_queue p.log q ≡ Some d) × (d.poison ≡ true)
  def = the_def (find_queue p.log q) poison

  named : def.0.name ≡ q
  named = names_same def.0.name q (found_passes (λ d. same_name d.name q) (queues p.log) def.0 def.1)

  is_five : (k : ℕ) → (k == 4) ≡ (k + 1 == 5)
  is_five k = by_test (k == 4) refl
    where
      by_test : (c : Bool) → (k == 4) ≡ c → c ≡ (k + 1 == 5)
      by_test true i = grind (arith, nat_tests)
      by_test false i = grind (arith, nat_tests)

  -- the queue is disabled where this is its fifth and it is on
  disabled : disables p def.0 ≡ ((n + 1 == 5) && queue_is_on p.log q)
  disabled = ap (λ b. ((count_of p.counts def.0.name == 4) && b) && is_on p.log def.0) def.2 ∙ same (count_of p.counts def.0.name == 4) (is_on p.log def.0)
      ∙ ap (λ name. (count_of p.counts name == 4) && is_on p.log def.0) named ∙ ap (λ k. (k == 4) && is_on p.log def.0) counted ∙ ap (λ b. b && is_on p.log def.0) (is_five n)
      ∙ ap (λ r. (n + 1 == 5) && unwrap_or (option_map (is_on p.log) r) false) (sym def.1)
    where
      same : (a b : Bool) → ((a && true) && b) ≡ (a && b)
      same true b = refl
      same false b = refl

  offs_disable : list_any (turns_off_queue q) (turnings_off p o) ≡ (has_room p o && (n + 1 == 5) && queue_is_on p.log q)
  offs_disable = by_room (has_room p o)
    where
      apart_from : list_any (turns_off_queue q) (off_entries p o) ≡ ((n + 1 == 5) && queue_is_on p.log q)
      apart_from = turned_off p o q (queues_apart p.log (log_ok p h).formed) true def.0 takes def.1 ∙ disabled

      by_room : (r : Bool) → list_any (turns_off_queue q) (cond r (off_entries p o) []) ≡ (r && (n + 1 == 5) && queue_is_on p.log q)
      by_room true = apart_from
      by_room false = refl

turns_off : (w : World) (h : WorldOk w) (x : Who) (s : Step) (q : Bytes) (n : ℕ) → ((part w x).up ≡ true → count_of (part w x).counts q ≡ n) → Gives (outcome w s) s → TurnsOffAtFive w x s q n
turns_off w h x s q n counted given o rolled back poison = by_outcome (outcome w s) refl given
  where
    takes : received_from q o ≡ true
    takes = sym (ap (λ r. option_map_or (received_from q) r false) rolled) ∙ both_right (option_eq same_who (instance_of s.who) (Some x)) _ back

    actor_is : instance_of s.who ≡ Some x
    actor_is = instance_is (instance_of s.who) x (both_left (option_eq same_who (instance_of s.who) (Some x)) _ back)

    by_outcome : (z : Option Stepped) → outcome w s ≡ z → Gives z s → list_any (turns_off_queue q) (added_to x z) ≡ (has_room (part w x) o && (n + 1 == 5) && queue_is_on (part w x).log q)
    by_outcome None e g = absurd g
    by_outcome (Some r) e g =
        let f = found_open (part w x) (rolled_back_by s.answer) o rolled in
        let up : (part w x).up ≡ true = open_is_up (part w x) (h.each x) (λ z. z.tx == f.0) o f.2 in
        let a : AddsOn w x r = actor_adds w h s.who s.event s.answer r x actor_is e in
        let added : r.added ≡ turnings_off (part w x) o = a.adds f.0 o (ap rolled_back_by g ∙ f.1) f.2 in
        ap (λ y. list_any (turns_off_queue q) (cond (same_who y x) r.added [])) a.on ∙ ap (λ c. list_any (turns_off_queue q) (cond c r.added [])) (who_self x) ∙ ap (list_any (turns_off_queue q)) added
        ∙ offs_disable (part w x) (h.each x) o q n (counted up) takes poison

module _ (log_a log_b : List Entry) (end_a end_b : Option ℕ) (steps : List Step) (h : StartsLinked log_a log_b) (short : length steps ≤ 2 ^ 60) (legal : Legal (first_world log_a end_a log_b end_b) steps)
    (fresh : StaysFresh (first_world log_a end_a log_b end_b) steps) where
  pub fifth_along : (s : Step) → Gives (outcome (after (first_world log_a end_a log_b end_b) steps) s) s → (x : Who) (q : Bytes) →
      TurnsOffAtFive (after (first_world log_a end_a log_b end_b) steps) x s q (rollbacks_in_a_row q x (first_world log_a end_a log_b end_b) steps)
  fifth_along s given x q = turns_off (after (first_world log_a end_a log_b end_b) steps) (kept_along log_a log_b end_a end_b h steps short legal fresh) x s q
      (rollbacks_in_a_row q x (first_world log_a end_a log_b end_b) steps) (rollbacks_along log_a log_b end_a end_b steps h short legal fresh x q) given
