-- A plan's handles are drawn, or groups that the log has, or a related group that was spelled.
use Rattle.std.proofs.Common.{◌≡◌, ℕ, Bool, true, false, List, [], ◌∷◌, ◌+◌, ◌^◌, ◌%◌, ◌≤◌, ◌<◌, Option, Some, None, refl, ◌∙◌, ap, subst, arith, map}
use Rattle.std.specs.Prelude.{ℤ, not, IsTrue, ◌&&◌, ◌||◌, option_map, option_and_then, unwrap_or, nat_lt, nat_abs}
use Rattle.std.specs.Option.{option_eq}
use Rattle.std.specs.List.{list_any, AllByRecursion}
use Rattle.std.proofs.lemmas.Option.{same_Some}
use Rattle.std.proofs.lemmas.Nat.{mod-mul-add}
use Rattle.sb_log.specs.declared.identifiers.Handle.{Handle}
use Rattle.sb_log.specs.declared.identifiers.SideId.{SideId}
use Rattle.sb_log.specs.declared.identifiers.Who.{Who}
use Rattle.sb_log.specs.declared.entries.Final.{Final}
use Rattle.sb_log.specs.declared.entries.Final.TheVariants as final
use Rattle.sb_log.specs.declared.messages.Item.{Item}
use Rattle.sb_log.specs.declared.refusals.Refusal.TheVariants as refusal
use Rattle.sb_log.specs.declared.requests.Filter.TheVariants as filters
use Rattle.sb_log.specs.declared.requests.How.TheVariants as how
use Rattle.sb_log.specs.declared.requests.NumberChange.{NumberChange}
use Rattle.sb_log.specs.declared.requests.Relation.{Relation}
use Rattle.sb_log.specs.declared.requests.Relation.TheVariants as relation
use Rattle.sb_log.specs.declared.requests.Request.{Request}
use Rattle.sb_log.specs.declared.requests.Request.TheVariants as request
use Rattle.sb_log.specs.declared.requests.Row.{Row}
use Rattle.sb_log.specs.declared.steps.Event.TheVariants as event
use Rattle.sb_log.specs.Names.{is_name, character_count}
use Rattle.sb_model.specs.Sides.{Bytes, Making, same_id, sides, id, tag}
use Rattle.sb_model.specs.Acceptance.{instance_id, has_body}
use Rattle.sb_model.specs.Catalog.{is_on, find_queue, find_service, find_message_type, default_name, find_table, sender_of, may_be_sent_by, find_contract}
use Rattle.sb_model.specs.Groups.{group_of, group_exists, keeps_group}
use Rattle.sb_model.specs.Instance.{low_half}
use Rattle.sb_model.specs.Pick.{Pick, pick}
use Rattle.sb_model.specs.Rows.{rows_of}
use Rattle.sb_model.specs.States.{state_of, may_send, may_end}
use Rattle.sb_model.specs.Transactions.{holder, key_holder}
use Rattle.sb_model.specs.Refusals.{when}
use Rattle.sb_model.specs.Replies.{Ask, Plan, Planned, in_range, seen, live, own_group, drawn_handle, plan, related, begin_in, send_typed, received, grouped, with_row, insert_at, update_at, delete_at, read_at, changed, key, end_with, contract_of, body_length, took, with_open_queue}
use Rattle.sb_laws.specs.Fresh.{is_low, spells_low}
use Rattle.sb_laws.proofs.Sides.{ids_same, both_left}
use Rattle.sb_laws.proofs.Parts.{mod_least}
use Rattle.sb_laws.proofs.Low.{IsLow, OpLow, LogLow, low_group, less_is}
use Rattle.sb_laws.proofs.PlanForms.{OfPlan, past_need, past_test, past_refusal, past_value, past_number, past_relation, past_filter}

-- a drawn handle is below what the counter rises to
pub drawn_is_low : (x : Who) (n d top : ℕ) → n + d < top → IsLow top (id ((instance_id x).0 + (n + d) % 2 ^ 64))
drawn_is_low x n d top lt =
    let same : low_half ((instance_id x).0 + (n + d) % 2 ^ 64) ≡ (n + d) % 2 ^ 64 = mod-mul-add (tag x) (2 ^ 64) ((n + d) % 2 ^ 64) (mod_below (n + d)) in
    omega (arith, same, mod_least (n + d), lt)
  where
    mod_below : (k : ℕ) → k % 2 ^ 64 < 2 ^ 64
    mod_below k = omega arith

-- what a plan adds is below the bound, and it draws at most two handles
pub record PlanLow (top : ℕ) (p : Plan) : Type 0 where
  pub few : p.drawn ≤ 2
  pub ops : AllByRecursion (OpLow top) p.ops

module _ (low top : ℕ) (le : low + 4 ≤ top) (a : Ask) (seen_low : LogLow low (seen a)) (next : a.next ≤ low) where
  abbrev Fine : Planned → Type 0
  Fine r = OfPlan (PlanLow top) r

  higher : (g : Handle) → IsLow low g → IsLow top g
  higher g h = omega (arith, h, le)

  begin_low : (from to : Bytes) (instance : Option Handle) (contract : Bytes) (lifetime : Option ℤ) (o : Option Handle) → ((g : Handle) → o ≡ Some g → IsLow low g) → Fine (begin_in a from to instance contract lifetime o)
  begin_low from to instance contract lifetime (Some g) h =
      past_refusal (PlanLow top) (option_map refusal.GroupHeld (holder a.open_txns g a.tx)) _
      (λ e. record { few = omega arith; ops = ((drawn_is_low a.who a.next 0 top (omega (arith, next, le)), higher g (h g refl)), tt) })
  begin_low from to instance contract lifetime None h =
      past_refusal (PlanLow top) (option_map refusal.GroupHeld (holder a.open_txns (drawn_handle a 1) a.tx)) _
      (λ e. record { few = omega arith; ops = ((drawn_is_low a.who a.next 0 top (omega (arith, next, le)), drawn_is_low a.who a.next 1 top (omega (arith, next, le))), tt) })

  related_low : (r : Relation) → ((g : Handle) → r ≡ relation.Group g → IsLow low g) → (g : Handle) → related a r ≡ Some g → IsLow low g
  related_low relation.Alone spelled g e = cc
  related_low (relation.Group k) spelled g e = spelled g (ap relation.Group (same_Some k g e))
  related_low (relation.Conversation handle) spelled g e = by_live (live a handle) e
    where
      by_live : (o : Option SideId) → option_and_then (group_of (seen a)) o ≡ Some g → IsLow low g
      by_live None f = cc
      by_live (Some s) f = low_group low (seen a) s g seen_low f

  exists_low : (g : Handle) → group_exists (seen a) g ≡ true → IsLow low g
  exists_low g e = among (sides (seen a)) e
    where
      kept : (m : Making) (o : Option Handle) → group_of (seen a) m.side ≡ o → option_eq same_id o (Some g) ≡ true → IsLow low g
      kept m None f i = cc
      kept m (Some k) f i = low_group low (seen a) m.side g seen_low (f ∙ ap Some (ids_same k g i))

      among : (ms : List Making) → list_any (keeps_group (seen a) g) ms ≡ true → IsLow low g
      among [] f = cc
      among (m ∷ ms) f = by_test (keeps_group (seen a) g m) refl f (among ms)
        where
          by_test : (c : Bool) → keeps_group (seen a) g m ≡ c → (c || list_any (keeps_group (seen a) g) ms) ≡ true → (list_any (keeps_group (seen a) g) ms ≡ true → IsLow low g) → IsLow low g
          by_test true i k rest = kept m (group_of (seen a) m.side) refl (both_left (option_eq same_id (group_of (seen a) m.side) (Some g)) _ i)
          by_test false i k rest = rest k

  took_low : (q : Bytes) (ps : List Item) → AllByRecursion (OpLow top) (map (took q) ps)
  took_low q [] = tt
  took_low q (p ∷ ps) = (tt, took_low q ps)

  received_low : (q : Bytes) (o : Option Pick) → Fine (received a q o)
  received_low q None = record { few = omega arith; ops = tt }
  received_low q (Some p) = record { few = omega arith; ops = took_low q p.items }

  grouped_low : (o : Option Pick) → Fine (grouped o)
  grouped_low None = record { few = omega arith; ops = tt }
  grouped_low (Some p) = record { few = omega arith; ops = tt }

  end_low : (handle : Handle) (last : Final) → Fine (end_with a handle last)
  end_low handle last =
      past_need (PlanLow top) (live a handle) _ _ (λ s e.
      past_refusal (PlanLow top) (option_map refusal.GroupHeld (holder a.open_txns (own_group a s) a.tx)) _ (λ f.
      past_test (PlanLow top) (not (may_end (state_of (seen a) s))) _ _ (λ g. record { few = omega arith; ops = (tt, tt) })))

  row_low : (t : Bytes) (k : ℤ) (rest : Option Row → Planned) → ((o : Option Row) → Fine (rest o)) → Fine (with_row a t k rest)
  row_low t k rest f =
      past_need (PlanLow top) (find_table (seen a) t) _ _ (λ def e.
      past_refusal (PlanLow top) (option_map refusal.RowHeld (key_holder a.open_txns (key t k) a.tx)) _ (λ g. f (rows_of (seen a) t k)))

  insert_low : (t : Bytes) (k : ℤ) (n : Option ℤ) (body : Option Bytes) (o : Option Row) → Fine (insert_at t k n body o)
  insert_low t k n body None = record { few = omega arith; ops = (tt, tt) }
  insert_low t k n body (Some found) = tt

  update_low : (t : Bytes) (k : ℤ) (n : Option NumberChange) (body : Option (Option Bytes)) (o : Option Row) → Fine (update_at t k n body o)
  update_low t k n body None = record { few = omega arith; ops = tt }
  update_low t k n body (Some found) = past_value (PlanLow top) (changed found.n n) _ (λ v. record { few = omega arith; ops = (tt, tt) })

  delete_low : (t : Bytes) (k : ℤ) (o : Option Row) → Fine (delete_at t k o)
  delete_low t k None = record { few = omega arith; ops = tt }
  delete_low t k (Some found) = record { few = omega arith; ops = (tt, tt) }

  read_low : (t : Bytes) (k : ℤ) (o : Option Row) → Fine (read_at t k o)
  read_low t k None = record { few = omega arith; ops = tt }
  read_low t k (Some found) = record { few = omega arith; ops = tt }

  send_low : (s : SideId) (kind : Bytes) (empty : Bool) (body : Option Bytes) → Fine (send_typed a s kind empty body)
  send_low s kind empty body =
      past_need (PlanLow top) (option_and_then (λ def. sender_of def kind) (find_contract (seen a) (contract_of a s))) _ _ (λ by e.
      past_test (PlanLow top) (not (may_be_sent_by by s.initiator)) _ _ (λ f.
      past_test (PlanLow top) (empty && has_body body) _ _ (λ g.
      past_test (PlanLow top) (nat_lt 65536 (body_length body)) _ _ (λ h. record { few = omega arith; ops = (tt, tt) }))))

  open_low : (q : Bytes) (rest : Planned) → Fine rest → Fine (with_open_queue a q rest)
  open_low q rest h = past_refusal (PlanLow top) (option_and_then (λ def. when (not (is_on (seen a) def)) (refusal.QueueOff q)) (find_queue (seen a) q)) rest (λ e. h)

  pub plan_low : (req : Request) → IsTrue (spells_low low (event.Asked req)) → Fine (plan a req)
  plan_low (request.BeginDialog from to instance contract rel lifetime) spelled =
      past_need (PlanLow top) (find_service (seen a) from) _ _ (λ service e.
      past_need (PlanLow top) (find_contract (seen a) (unwrap_or contract default_name)) _ _ (λ def f.
      past_test (PlanLow top) (not (is_name to)) _ _ (λ g.
      past_number (PlanLow top) lifetime _ (past_relation (PlanLow top) a rel _ (begin_low from to instance def.name lifetime (related a rel) (related_low rel (spelled_group rel spelled)))))))
    where
      spelled_group : (r : Relation) → IsTrue (spells_low low (event.Asked (request.BeginDialog from to instance contract r lifetime))) → (g : Handle) → r ≡ relation.Group g → IsLow low g
      spelled_group (relation.Group k) h g e = less_is (low_half g.0) low (subst (λ z. is_low low z ≡ true) (same_group k g e) h)
        where
          same_group : (k g : Handle) → relation.Group k ≡ relation.Group g → k ≡ g
          same_group k g f = cc
      spelled_group relation.Alone h g e = cc
      spelled_group (relation.Conversation k) h g e = cc
  plan_low (request.Send handle kind body) spelled =
      past_need (PlanLow top) (find_message_type (seen a) (unwrap_or kind default_name)) _ _ (λ def e.
      past_need (PlanLow top) (live a handle) _ _ (λ s f.
      past_refusal (PlanLow top) (option_map refusal.GroupHeld (holder a.open_txns (own_group a s) a.tx)) _ (λ g.
      past_test (PlanLow top) (not (may_send (state_of (seen a) s))) _ _ (λ h. send_low s (unwrap_or kind default_name) def.empty body))))
  plan_low (request.Receive q n f) spelled =
      past_need (PlanLow top) (find_queue (seen a) q) _ _ (λ def e.
      past_number (PlanLow top) n _ (past_filter (PlanLow top) a f _ (open_low q _ (received_low q (pick a.log a.open_txns a.tx q (option_map nat_abs n) f)))))
  plan_low (request.GetGroup q) spelled =
      past_need (PlanLow top) (find_queue (seen a) q) _ _ (λ def e. open_low q _ (grouped_low (pick a.log a.open_txns a.tx q None filters.All)))
  plan_low (request.Move handle g) spelled =
      past_need (PlanLow top) (live a handle) _ _ (λ s e.
      past_test (PlanLow top) (not (group_exists (seen a) g)) _ _ (λ f.
      past_refusal (PlanLow top) (option_map refusal.GroupHeld (holder a.open_txns (own_group a s) a.tx)) _ (λ h.
      past_refusal (PlanLow top) (option_map refusal.GroupHeld (holder a.open_txns g a.tx)) _ (λ i.
      past_test (PlanLow top) (not (may_end (state_of (seen a) s))) _ _ (λ j. record { few = omega arith; ops = (higher g (exists_low g (not_not (group_exists (seen a) g) f)), tt) })))))
    where
      not_not : (b : Bool) → not b ≡ false → b ≡ true
      not_not true f = refl
      not_not false f = cc
  plan_low (request.End handle how.Plain) spelled = end_low handle final.EndDialog
  plan_low (request.End handle (how.Error code text)) spelled =
      past_test (PlanLow top) (not (in_range code 1 2147483647)) _ _ (λ e.
      past_test (PlanLow top) (nat_lt 3000 (character_count text)) _ _ (λ f. end_low handle (final.Error (nat_abs code) text)))
  plan_low (request.End handle how.Cleanup) spelled =
      past_need (PlanLow top) (live a handle) _ _ (λ s e.
      past_refusal (PlanLow top) (option_map refusal.GroupHeld (holder a.open_txns (own_group a s) a.tx)) _ (λ f. record { few = omega arith; ops = (tt, tt) }))
  plan_low (request.Timer handle seconds) spelled =
      past_test (PlanLow top) (not (in_range seconds 1 2147483647)) _ _ (λ d.
      past_need (PlanLow top) (live a handle) _ _ (λ s e.
      past_refusal (PlanLow top) (option_map refusal.GroupHeld (holder a.open_txns (own_group a s) a.tx)) _ (λ f.
      past_test (PlanLow top) (not (may_end (state_of (seen a) s))) _ _ (λ g. record { few = omega arith; ops = (tt, tt) }))))
  plan_low (request.Insert t k n body) spelled = row_low t k (insert_at t k n body) (insert_low t k n body)
  plan_low (request.Update t k n body) spelled = row_low t k (update_at t k n body) (update_low t k n body)
  plan_low (request.Delete t k) spelled = row_low t k (delete_at t k) (delete_low t k)
  plan_low (request.Read t k) spelled = row_low t k (read_at t k) (read_low t k)
  plan_low (request.Define ddl) spelled = record { few = omega arith; ops = tt }
  plan_low (request.AlterQueue q on) spelled = record { few = omega arith; ops = tt }
  plan_low request.Begin spelled = record { few = omega arith; ops = tt }
  plan_low request.Commit spelled = record { few = omega arith; ops = tt }
  plan_low request.Rollback spelled = record { few = omega arith; ops = tt }
