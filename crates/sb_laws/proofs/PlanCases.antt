-- Each row of the table of requests meets what a plan owes.
use Rattle.std.proofs.Common.{◌≡◌, ℕ, Bool, true, false, List, [], ◌∷◌, ◌+◌, ◌^◌, ◌≤◌, ◌<◌, Option, Some, None, Result, Ok, Err, refl, sym, ◌∙◌, ap, subst, length, arith, cond, inl, inr}
use Rattle.std.specs.Prelude.{ℤ, find, not, ◌&&◌, ◌||◌, option_map, option_and_then, is_none, is_some, unwrap_or, nat_lt, nat_abs}
use Rattle.std.specs.List.{list_any, AllByRecursion}
use Rattle.std.proofs.lemmas.Option.{same_Some}
use Rattle.sb_log.specs.declared.identifiers.Handle.{Handle}
use Rattle.sb_log.specs.declared.identifiers.SideId.{SideId}
use Rattle.sb_log.specs.declared.identifiers.State.{State}
use Rattle.sb_log.specs.declared.identifiers.State.TheVariants.{DO, CD}
use Rattle.sb_log.specs.declared.entries.Entry.{Entry}
use Rattle.sb_log.specs.declared.entries.Op.{Op}
use Rattle.sb_log.specs.declared.entries.Op.TheVariants.{Begin, Send, Took, End, Cleanup, Move, Timer, Put, Delete}
use Rattle.sb_log.specs.declared.entries.Final.{Final}
use Rattle.sb_log.specs.declared.entries.Final.TheVariants as final
use Rattle.sb_log.specs.declared.messages.Header.{Header}
use Rattle.sb_log.specs.declared.refusals.Refusal.{Refusal}
use Rattle.sb_log.specs.declared.refusals.Refusal.TheVariants as refusal
use Rattle.sb_log.specs.declared.requests.Request.{Request}
use Rattle.sb_log.specs.declared.requests.Request.TheVariants as request
use Rattle.sb_log.specs.declared.requests.Reply.{Reply}
use Rattle.sb_log.specs.declared.requests.Reply.TheVariants as reply
use Rattle.sb_log.specs.declared.requests.Relation.{Relation}
use Rattle.sb_log.specs.declared.requests.Relation.TheVariants as relation
use Rattle.sb_log.specs.declared.requests.NumberChange.{NumberChange}
use Rattle.sb_log.specs.declared.requests.Row.{Row}
use Rattle.sb_log.specs.declared.requests.How.TheVariants as how
use Rattle.sb_log.specs.declared.requests.Filter.{Filter}
use Rattle.sb_log.specs.declared.requests.Filter.TheVariants as filters
use Rattle.sb_log.specs.Names.{is_name, character_count}
use Rattle.sb_model.specs.Sides.{Bytes, same_id}
use Rattle.sb_model.specs.ErrorBody.{utf16}
use Rattle.sb_model.specs.Sides.{Making, sides, made, side_of, ops_of}
use Rattle.sb_model.specs.Messages.{is_ended, is_cleaned, ends_side, cleans}
use Rattle.sb_model.specs.Items.{items, taken_by}
use Rattle.sb_model.specs.Acceptance.{instance_id}
use Rattle.sb_model.specs.Groups.{group_of}
use Rattle.sb_model.specs.States.{state_of, may_send, is_done}
use Rattle.sb_model.specs.Transactions.{Key, is_free, holder, key_holder}
use Rattle.sb_model.specs.Pick.{Pick, pick}
use Rattle.sb_model.specs.Rows.{rows_of}
use Rattle.sb_model.specs.Refusals.{when, refuse_if, and_then}
use Rattle.sb_model.specs.Replies.{in_range, Ask, Plan, Planned, seen, live, own_group, drawn_handle, planned, plan, with_group, in_state, with_optional_number, with_relation, begun, begin_in, related, expires, received, grouped, with_filter, end_with, rows_planned, with_row, insert_at, update_at, delete_at, read_at, changed, key, send_typed, with_key, body_length, contract_of}
use Rattle.sb_model.specs.Acceptance.{has_body}
use Rattle.sb_model.specs.Catalog.{is_on, find_queue, find_service, find_message_type, default_name, find_table, sender_of, may_be_sent_by, find_contract}
use Rattle.sb_model.specs.Links.{sends_on, SilentAfter, EndsForGood}
use Rattle.sb_laws.proofs.Sides.{sides_same, id_self}
use Rattle.sb_laws.proofs.Grow.{shuts, or_true_left, or_false, or_false_left, or_false_right}
use Rattle.sb_laws.proofs.Linking.{sides_made}
use Rattle.sb_laws.proofs.Views.{touches, made_group}
use Rattle.sb_model.specs.Logs.{is_op_allowed}
use Rattle.sb_model.specs.Sides.{makings, has_side}
use Rattle.sb_laws.proofs.Allowed.{AllowedIn, has_handle, initiator_of, both_true}
use Rattle.sb_laws.proofs.Delivered.{made_has_side}
use Rattle.sb_laws.proofs.Opens.{LogOk, IsNewBegin, IsCounted, uncounted}
use Rattle.sb_laws.proofs.Plans.{PlanFacts, err_ok, ok_ok, need_ok, refuse_ok, unless_ok, map_none, map_some, plain_facts, side_facts, begin_facts, received_facts, group_facts, drawn_home, drawn_low, drawn_new, IsPlain}

clash : {P : Type 0} → true ≡ false → P
clash e = cc

and_then_some : {X Y : Type 0} (f : X → Option Y) (o : Option X) (y : Y) → option_and_then f o ≡ Some y → (x : X) × (o ≡ Some x) × (f x ≡ Some y)
and_then_some f None y e = cc
and_then_some f (Some x) y e = (x, refl, e)

pub all_found : {X : Type 0} (P : X → Type 0) (p : X → Bool) (xs : List X) (x : X) → AllByRecursion P xs → find p xs ≡ Some x → P x
all_found P p [] x h e = cc
all_found {X = X} P p (y ∷ ys) x h e = by_test (p y) e (all_found P p ys x h.1)
  where
    by_test : (b : Bool) → cond b (Some y) (find p ys) ≡ Some x → (find p ys ≡ Some x → P x) → P x
    by_test true f rest = subst P (same_Some y x f) h.0
    by_test false f rest = rest f

-- a side that is there
record IsLive (log : List Entry) (s : SideId) : Type 0 where
  making : Making
  from_log : made log s ≡ Some making
  not_cleaned : is_cleaned log s ≡ false

live_is : (a : Ask) (handle : Handle) (s : SideId) → live a handle ≡ Some s → IsLive (seen a) s
live_is a handle s e =
    let one = and_then_some (λ z. cond (is_cleaned (seen a) z) None (Some z)) (side_of (seen a) handle) s e in
    let two = map_some (λ m. m.side) (find (λ m. same_id m.handle handle) (sides (seen a))) one.0 one.1 in
    let is : made (seen a) two.0.side ≡ Some two.0 = all_found (λ m. made (seen a) m.side ≡ Some m) (λ m. same_id m.handle handle) (sides (seen a)) two.0 (sides_made (seen a)) two.1 in
    let clean : (is_cleaned (seen a) one.0 ≡ false) × (one.0 ≡ s) = by_test (is_cleaned (seen a) one.0) one.0 one.2 in
    record {
      making = two.0;
      from_log = subst (λ z. made (seen a) z ≡ Some two.0) (two.2 ∙ clean.1) is;
      not_cleaned = subst (λ z. is_cleaned (seen a) z ≡ false) clean.1 clean.0;
    }
  where
    by_test : (b : Bool) (z : SideId) → cond b None (Some z) ≡ Some s → (b ≡ false) × (z ≡ s)
    by_test true z f = absurd (none f)
      where
        none : None ≡ Some s → ⊥
        none g = cc
    by_test false z f = (refl, same_Some z s f)

grouped_by : (a : Ask) (s : SideId) → IsLive (seen a) s → group_of (seen a) s ≡ Some (own_group a s)
grouped_by a s h = let g = made_group (seen a) s h.making h.from_log in g.1 ∙ ap Some (sym (ap (λ o. unwrap_or o s.conversation) g.1))

with_group_ok : (a : Ask) (g : Handle) (rest : Planned) (p : Plan) → with_group a g rest ≡ Ok p → (is_free a.open_txns g a.tx ≡ true) × (rest ≡ Ok p)
with_group_ok a g rest p e =
    let r = unless_ok (option_map refusal.GroupHeld (holder a.open_txns g a.tx)) rest p e in
    (ap is_none (map_none refusal.GroupHeld (holder a.open_txns g a.tx) r.0), r.1)

number_ok : (z : Option ℤ) (rest : Planned) (p : Plan) → with_optional_number z rest ≡ Ok p → rest ≡ Ok p
number_ok None rest p e = e
number_ok (Some z) rest p e = (refuse_ok _ _ rest p e).1

-- a side that may send isn't ended or cleaned
open_state : (c e d : Bool) (rest : State) → may_send (cond (c || (e && d)) CD (cond e DO rest)) ≡ true → (c ≡ false) × (e ≡ false)
open_state true e d rest h = clash (sym h)
open_state false true true rest h = clash (sym h)
open_state false true false rest h = clash (sym h)
open_state false false d rest h = (refl, refl)

none_shut : (s : SideId) (ops : List Op) → list_any (ends_side s) ops ≡ false → list_any (cleans s) ops ≡ false → list_any (shuts s) ops ≡ false
none_shut s [] e f = refl
none_shut s (op ∷ ops) e f =
    or_false (shuts s op) (list_any (shuts s) ops)
    (one op (or_false_left (ends_side s op) (list_any (ends_side s) ops) e) (or_false_left (cleans s op) (list_any (cleans s) ops) f))
    (none_shut s ops (or_false_right (ends_side s op) (list_any (ends_side s) ops) e) (or_false_right (cleans s op) (list_any (cleans s) ops) f))
  where
    one : (o : Op) → ends_side s o ≡ false → cleans s o ≡ false → shuts s o ≡ false
    one (End side last) g h = g
    one (Cleanup side) g h = h
    one (Begin x y z) g h = refl
    one (Send x y z) g h = refl
    one (Took x y) g h = refl
    one (Move x y) g h = refl
    one (Timer x y) g h = refl
    one (Put x y z w) g h = refl
    one (Delete x y) g h = refl

may_send_open : (log : List Entry) (s : SideId) → may_send (state_of log s) ≡ true → list_any (shuts s) (ops_of log) ≡ false
may_send_open log s h =
    let r = open_state (is_cleaned log s) (is_ended log s) (is_done log s) _ h in
    none_shut s (ops_of log) r.1 r.0

abbrev pub IsFine : Ask → Plan → Type 0
IsFine a p = PlanFacts a.who (seen a) a.open_txns a.next (a.next + p.drawn) a.tx p.ops p.groups

module _ (a : Ask) (ok : LogOk a.who (seen a)) (counted : AllByRecursion (IsCounted a.who a.next) (makings (seen a))) (room : a.next + 2 < 2 ^ 64) where
  answer : (groups : List Handle) (keys : List Key) (ops : List Op) (drawn : ℕ) (r : Reply) (p : Plan) →
      ◌≡◌ {A = Planned} (Ok (record { groups = groups; keys = keys; ops = ops; drawn = drawn; reply = r })) (Ok p) →
      PlanFacts a.who (seen a) a.open_txns a.next (a.next + drawn) a.tx ops groups → IsFine a p
  answer groups keys ops drawn r p e facts = subst (IsFine a) (ok_ok (record { groups = groups; keys = keys; ops = ops; drawn = drawn; reply = r }) p e) facts

  abbrev Facts0 : List Op → List Handle → Type 0
  Facts0 ops groups = PlanFacts a.who (seen a) a.open_txns a.next (a.next + 0) a.tx ops groups

  -- an operation on a live side
  on_side : (op : Op) (s : SideId) (groups : List Handle) → is_op_allowed (seen a) op ≡ has_side (seen a) s → IsLive (seen a) s → ((t : SideId) → touches (items (seen a)) t op ≡ true → s ≡ t) → list_any (same_id (own_group a s)) groups ≡ true →
      AllByRecursion (λ k. is_free a.open_txns k a.tx ≡ true) groups → ((t : SideId) → sends_on t op ≡ true → list_any (shuts t) (ops_of (seen a)) ≡ false) → SilentAfter op [] → taken_by op ≡ [] → IsNewBegin a.who a.next (a.next + 0) op → Facts0 (op ∷ []) groups
  on_side op s groups allowed h only held free silent last none new =
      side_facts a.who (seen a) a.open_txns a.next (a.next + 0) a.tx ok (omega arith) op s (own_group a s) groups (allowed ∙ made_has_side (seen a) s h.making h.from_log) only (grouped_by a s h) held free silent last none new

  one_group : (g : Handle) → list_any (same_id g) (g ∷ []) ≡ true
  one_group g = or_true_left (same_id g g) false (id_self g)

  -- ---- BEGIN DIALOG

  new_begin : (d : ℕ) (g : Handle) (header : Header) → 1 ≤ d → IsNewBegin a.who a.next (a.next + d) (Begin (drawn_handle a 0) g header)
  new_begin d g header le = (
    drawn_home a.who a.next (omega (arith, room)),
    omega (arith, drawn_low a.who a.next (omega (arith, room))),
    omega (arith, drawn_low a.who a.next (omega (arith, room)), le),
  )

  abbrev new_header : Bytes → Bytes → Option Handle → Bytes → Option ℤ → Header
  new_header from to instance contract lifetime = record {
    from_service = from;
    to_service = to;
    contract = contract;
    from = instance_id a.who;
    to = instance;
    expires = expires a lifetime;
  }

  may_begin : (g : Handle) (header : Header) → is_some (find_service (seen a) header.from_service) ≡ true → is_op_allowed (seen a) (Begin (drawn_handle a 0) g header) ≡ true
  may_begin g header service = both_true (not (has_side (seen a) (initiator_of (drawn_handle a 0))) && not (list_any (has_handle (drawn_handle a 0)) (makings (seen a)))) (is_some (find_service (seen a) header.from_service))
      (both_true (not (has_side (seen a) (initiator_of (drawn_handle a 0)))) (not (list_any (has_handle (drawn_handle a 0)) (makings (seen a))))
      (ap not (uncounted a.who a.next (initiator_of (drawn_handle a 0)) (makings (seen a)) counted refl (omega (arith, drawn_low a.who a.next (omega (arith, room))))))
      (ap not (drawn_new a.who a.next (omega (arith, room)) (makings (seen a)) counted))) service

  begun_fine : (from to : Bytes) (instance : Option Handle) (contract : Bytes) (g : Handle) (d : ℕ) (lifetime : Option ℤ) (p : Plan) → is_some (find_service (seen a) from) ≡ true → 1 ≤ d → d ≤ 2 →
      with_group a g (begun a from to instance contract g d lifetime) ≡ Ok p → IsFine a p
  begun_fine from to instance contract g d lifetime p service le most e =
      let r = with_group_ok a g (begun a from to instance contract g d lifetime) p e in
      let header : Header = new_header from to instance contract lifetime in
      answer (g ∷ []) [] (Begin (drawn_handle a 0) g header ∷ []) d (reply.Dialog (drawn_handle a 0) g) p r.1 (begin_facts a.who (seen a) a.open_txns a.next (a.next + d) a.tx ok (omega (arith, most)) (drawn_handle a 0) g header (may_begin g header service) (new_begin d g header le) r.0)

  begin_in_fine : (from to : Bytes) (instance : Option Handle) (contract : Bytes) (lifetime : Option ℤ) (o : Option Handle) (p : Plan) → is_some (find_service (seen a) from) ≡ true →
      begin_in a from to instance contract lifetime o ≡ Ok p → IsFine a p
  begin_in_fine from to instance contract lifetime (Some g) p service e = begun_fine from to instance contract g 1 lifetime p service (omega arith) (omega arith) e
  begin_in_fine from to instance contract lifetime None p service e = begun_fine from to instance contract (drawn_handle a 1) 2 lifetime p service (omega arith) (omega arith) e

  relation_ok : (r : Relation) (rest : Planned) (p : Plan) → with_relation a r rest ≡ Ok p → rest ≡ Ok p
  relation_ok relation.Alone rest p e = e
  relation_ok (relation.Group g) rest p e = e
  relation_ok (relation.Conversation handle) rest p e = (need_ok (live a handle) _ (λ s. rest) p e).2

  -- ---- the rows of the table

  abbrev sized : SideId → Bytes → Bool → Option Bytes → Planned
  sized s kind empty body =
      refuse_if (empty && has_body body) (refusal.BodyNotEmpty (body_length body)) (
      refuse_if (nat_lt 65536 (body_length body)) (refusal.BodyTooLong (body_length body)) (
      planned (own_group a s ∷ []) (Send s kind body ∷ []) reply.Done))

  typed_ok : (s : SideId) (kind : Bytes) (empty : Bool) (body : Option Bytes) (p : Plan) → send_typed a s kind empty body ≡ Ok p →
      planned (own_group a s ∷ []) (Send s kind body ∷ []) reply.Done ≡ Ok p
  typed_ok s kind empty body p e =
      let r3 = need_ok (option_and_then (λ def. sender_of def kind) (find_contract (seen a) (contract_of a s))) (refusal.NotInContract kind)
      (λ by. refuse_if (not (may_be_sent_by by s.initiator)) (refusal.NotYours kind) (sized s kind empty body)) p e in
      let r4 = refuse_ok (not (may_be_sent_by r3.0 s.initiator)) (refusal.NotYours kind) (sized s kind empty body) p r3.2 in
      let r5 = refuse_ok (empty && has_body body) (refusal.BodyNotEmpty (body_length body)) _ p r4.1 in
      let r6 = refuse_ok (nat_lt 65536 (body_length body)) (refusal.BodyTooLong (body_length body)) _ p r5.1 in
      r6.1

  send_fine : (handle : Handle) (kind : Bytes) (empty : Bool) (body : Option Bytes) (s : SideId) (p : Plan) → live a handle ≡ Some s →
      with_group a (own_group a s) (in_state a s may_send (send_typed a s kind empty body)) ≡ Ok p → IsFine a p
  send_fine handle kind empty body s p l e =
      let r1 = with_group_ok a (own_group a s) _ p e in
      let r2 = refuse_ok (not (may_send (state_of (seen a) s))) _ _ p r1.1 in
      let r6 = typed_ok s kind empty body p r2.1 in
      answer (own_group a s ∷ []) [] (Send s kind body ∷ []) 0 reply.Done p r6
      (on_side (Send s kind body) s (own_group a s ∷ []) refl (live_is a handle s l) (λ t f. sides_same s t f) (one_group (own_group a s)) (r1.0, tt)
      (λ t f. subst (λ z. list_any (shuts z) (ops_of (seen a)) ≡ false) (sides_same s t f) (may_send_open (seen a) s (not_not (may_send (state_of (seen a) s)) r2.0))) tt refl tt)
    where
      not_not : (b : Bool) → not b ≡ false → b ≡ true
      not_not true f = refl
      not_not false f = cc

  end_fine : (handle : Handle) (last : Final) (p : Plan) → end_with a handle last ≡ Ok p → IsFine a p
  end_fine handle last p e =
      let r0 = need_ok (live a handle) _ _ p e in
      let s : SideId = r0.0 in
      let r1 = with_group_ok a (own_group a s) _ p r0.2 in
      let r2 = refuse_ok _ _ _ p r1.1 in
      answer (own_group a s ∷ []) [] _ 0 reply.Done p r2.1
      (on_side _ s (own_group a s ∷ []) refl (live_is a handle s r0.1) (λ t f. sides_same s t f) (one_group (own_group a s)) (r1.0, tt) (λ t f. clash (sym f)) refl refl tt)

  rows_fine : (keys : List Key) (ops : List Op) (r : Reply) (p : Plan) → AllowedIn (seen a) ops → AllByRecursion (IsPlain a.who (seen a) a.open_txns a.next (a.next + 0) a.tx ok (omega arith)) ops → EndsForGood ops →
      ◌≡◌ {A = Planned} (Ok (record { groups = []; keys = keys; ops = ops; drawn = 0; reply = r })) (Ok p) → IsFine a p
  rows_fine keys ops r p allowed plain ends e = answer [] keys ops 0 r p e (plain_facts a.who (seen a) a.open_txns a.next (a.next + 0) a.tx ok (omega arith) ops [] allowed plain ends tt)

  insert_fine : (t : Bytes) (k : ℤ) (n : Option ℤ) (body : Option Bytes) (o : Option Row) (p : Plan) → insert_at t k n body o ≡ Ok p → IsFine a p
  insert_fine t k n body None p e = rows_fine _ _ _ p (inl (_, refl, refl)) (((λ s. refl), (λ s. refl), refl, tt), tt) (tt, tt) e
  insert_fine t k n body (Some found) p e = err_ok _ p e

  value_fine : (t : Bytes) (k : ℤ) (body : Option Bytes) (v : Result (Option ℤ) Refusal) (p : Plan) → and_then v (λ value. rows_planned t k (Put t k value body ∷ []) 1 None) ≡ Ok p → IsFine a p
  value_fine t k body (Ok value) p e = rows_fine _ _ _ p (inl (_, refl, refl)) (((λ s. refl), (λ s. refl), refl, tt), tt) (tt, tt) e
  value_fine t k body (Err r) p e = err_ok r p e

  update_fine : (t : Bytes) (k : ℤ) (n : Option NumberChange) (body : Option (Option Bytes)) (o : Option Row) (p : Plan) → update_at t k n body o ≡ Ok p → IsFine a p
  update_fine t k n body None p e = rows_fine _ [] _ p (inr tt) tt tt e
  update_fine t k n body (Some found) p e = value_fine t k (unwrap_or body found.body) (changed found.n n) p e

  delete_fine : (t : Bytes) (k : ℤ) (o : Option Row) (p : Plan) → delete_at t k o ≡ Ok p → IsFine a p
  delete_fine t k None p e = rows_fine _ [] _ p (inr tt) tt tt e
  delete_fine t k (Some found) p e = rows_fine _ _ _ p (inl (_, refl, refl)) (((λ s. refl), (λ s. refl), refl, tt), tt) (tt, tt) e

  read_fine : (t : Bytes) (k : ℤ) (o : Option Row) (p : Plan) → read_at t k o ≡ Ok p → IsFine a p
  read_fine t k None p e = rows_fine _ [] _ p (inr tt) tt tt e
  read_fine t k (Some found) p e = rows_fine _ [] _ p (inr tt) tt tt e

  row_ok : (t : Bytes) (k : ℤ) (rest : Option Row → Planned) (p : Plan) → with_row a t k rest ≡ Ok p → ((o : Option Row) → rest o ≡ Ok p → IsFine a p) → IsFine a p
  row_ok t k rest p e f =
      let r0 = need_ok (find_table (seen a) t) (refusal.NoTable t) (λ def. with_key a (key t k) (rest (rows_of (seen a) t k))) p e in
      let r1 = unless_ok (option_map refusal.RowHeld (key_holder a.open_txns (key t k) a.tx)) (rest (rows_of (seen a) t k)) p r0.2 in
      f (rows_of (seen a) t k) r1.1

  received_fine : (q : Bytes) (n : Option ℕ) (f : Filter) (o : Option Pick) (p : Plan) → is_some (find_queue (seen a) q) ≡ true → pick a.log a.open_txns a.tx q n f ≡ o → received a q o ≡ Ok p → IsFine a p
  received_fine q n f None p named g e = rows_fine _ [] _ p (inr tt) tt tt e
  received_fine q n f (Some k) p named g e = answer (k.group ∷ []) [] _ 0 _ p e (received_facts a.who (seen a) a.open_txns a.next (a.next + 0) a.tx ok (omega arith) q n f k named g)

  grouped_fine : (q : Bytes) (o : Option Pick) (p : Plan) → pick a.log a.open_txns a.tx q None filters.All ≡ o → grouped o ≡ Ok p → IsFine a p
  grouped_fine q None p g e = rows_fine _ [] _ p (inr tt) tt tt e
  grouped_fine q (Some k) p g e = answer (k.group ∷ []) [] [] 0 _ p e (group_facts a.who (seen a) a.open_txns a.next (a.next + 0) a.tx ok (omega arith) q None filters.All k g)

  filter_ok : (f : Filter) (rest : Planned) (p : Plan) → with_filter a f rest ≡ Ok p → rest ≡ Ok p
  filter_ok filters.All rest p e = e
  filter_ok (filters.Group g) rest p e = e
  filter_ok (filters.Side handle) rest p e = (need_ok (live a handle) _ (λ s. rest) p e).2

  abbrev queue_refusal : Bytes → Option Refusal
  queue_refusal q = option_and_then (λ def. when (not (is_on (seen a) def)) (refusal.QueueOff q)) (find_queue (seen a) q)

  pub plan_fine : (req : Request) (p : Plan) → plan a req ≡ Ok p → IsFine a p
  plan_fine (request.BeginDialog from to instance contract rel lifetime) p e =
      let r1 = need_ok (find_service (seen a) from) _ _ p e in
      let r2 = need_ok (find_contract (seen a) (unwrap_or contract default_name)) _ _ p r1.2 in
      let r3 = refuse_ok (not (is_name to)) _ _ p r2.2 in
      let r4 = number_ok lifetime _ p r3.1 in
      let r5 = relation_ok rel _ p r4 in
      begin_in_fine from to instance r2.0.name lifetime (related a rel) p (ap is_some r1.1) r5
  plan_fine (request.Send handle kind body) p e =
      let r1 = need_ok (find_message_type (seen a) (unwrap_or kind default_name)) _ _ p e in
      let r2 = need_ok (live a handle) _ _ p r1.2 in
      send_fine handle (unwrap_or kind default_name) r1.0.empty body r2.0 p r2.1 r2.2
  plan_fine (request.Receive q top f) p e =
      let r1 = need_ok (find_queue (seen a) q) _ _ p e in
      let r2 = number_ok top _ p r1.2 in
      let r3 = filter_ok f _ p r2 in
      let n : Option ℕ = option_map nat_abs top in
      let r4 = unless_ok (queue_refusal q) (received a q (pick a.log a.open_txns a.tx q n f)) p r3 in
      received_fine q n f (pick a.log a.open_txns a.tx q n f) p (ap is_some r1.1) refl r4.1
  plan_fine (request.GetGroup q) p e =
      let r1 = need_ok (find_queue (seen a) q) _ _ p e in
      let r2 = unless_ok (queue_refusal q) (grouped (pick a.log a.open_txns a.tx q None filters.All)) p r1.2 in
      grouped_fine q (pick a.log a.open_txns a.tx q None filters.All) p refl r2.1
  plan_fine (request.Move handle g) p e =
      let r0 = need_ok (live a handle) _ _ p e in
      let s : SideId = r0.0 in
      let r1 = refuse_ok _ _ _ p r0.2 in
      let r2 = with_group_ok a (own_group a s) _ p r1.1 in
      let r3 = with_group_ok a g _ p r2.1 in
      let r4 = refuse_ok _ _ _ p r3.1 in
      answer (own_group a s ∷ g ∷ []) [] (Move s g ∷ []) 0 reply.Done p r4.1
      (on_side (Move s g) s (own_group a s ∷ g ∷ []) refl (live_is a handle s r0.1) (λ t f. sides_same s t f) (or_true_left (same_id (own_group a s) (own_group a s)) _ (id_self (own_group a s))) (r2.0, (r3.0, tt)) (λ t f. clash (sym f)) tt refl tt)
  plan_fine (request.End handle how.Plain) p e = end_fine handle final.EndDialog p e
  plan_fine (request.End handle (how.Error code text)) p e =
      let last : Final = final.Error (nat_abs code) text in
      let r1 = refuse_ok (not (in_range code 1 2147483647)) _ (refuse_if (nat_lt 3000 (character_count text)) (refusal.BodyTooLong (length (utf16 text))) (end_with a handle last)) p e in
      let r2 = refuse_ok (nat_lt 3000 (character_count text)) _ (end_with a handle last) p r1.1 in
      end_fine handle last p r2.1
  plan_fine (request.End handle how.Cleanup) p e =
      let r0 = need_ok (live a handle) _ _ p e in
      let s : SideId = r0.0 in
      let r1 = with_group_ok a (own_group a s) _ p r0.2 in
      answer (own_group a s ∷ []) [] (Cleanup s ∷ []) 0 reply.Done p r1.1
      (on_side (Cleanup s) s (own_group a s ∷ []) refl (live_is a handle s r0.1) (λ t f. sides_same s t f) (one_group (own_group a s)) (r1.0, tt) (λ t f. clash (sym f)) refl refl tt)
  plan_fine (request.Timer handle seconds) p e =
      let r1 = refuse_ok _ _ _ p e in
      let r0 = need_ok (live a handle) _ _ p r1.1 in
      let s : SideId = r0.0 in
      let r2 = with_group_ok a (own_group a s) _ p r0.2 in
      let r3 = refuse_ok _ _ _ p r2.1 in
      answer (own_group a s ∷ []) [] _ 0 reply.Done p r3.1
      (on_side _ s (own_group a s ∷ []) refl (live_is a handle s r0.1) (λ t f. sides_same s t f) (one_group (own_group a s)) (r2.0, tt) (λ t f. clash (sym f)) tt refl tt)
  plan_fine (request.Insert t k n body) p e = row_ok t k (insert_at t k n body) p e (λ o f. insert_fine t k n body o p f)
  plan_fine (request.Update t k n body) p e = row_ok t k (update_at t k n body) p e (λ o f. update_fine t k n body o p f)
  plan_fine (request.Delete t k) p e = row_ok t k (delete_at t k) p e (λ o f. delete_fine t k o p f)
  plan_fine (request.Read t k) p e = row_ok t k (read_at t k) p e (λ o f. read_fine t k o p f)
  plan_fine (request.Define ddl) p e = rows_fine _ [] _ p (inr tt) tt tt e
  plan_fine (request.AlterQueue q on) p e = rows_fine _ [] _ p (inr tt) tt tt e
  plan_fine request.Begin p e = rows_fine _ [] _ p (inr tt) tt tt e
  plan_fine request.Commit p e = rows_fine _ [] _ p (inr tt) tt tt e
  plan_fine request.Rollback p e = rows_fine _ [] _ p (inr tt) tt tt e
