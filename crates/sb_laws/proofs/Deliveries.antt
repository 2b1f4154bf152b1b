-- What deliveries and timers make of an instance, and what each adds to linked logs.
use Rattle.std.proofs.Common.{◌≡◌, ℕ, zero, suc, Bool, true, false, List, [], ◌∷◌, ◌++◌, ◌+◌, ◌^◌, ◌%◌, Option, Some, None, refl, sym, ◌∙◌, ◌<◌, ap, subst, arith, cond, append-nil, take}
use Rattle.std.specs.Prelude.{flat_map, not, ◌==◌, ◌&&◌, nat_le, is_some, is_none, option_and_then}
use Rattle.std.specs.Option.{option_eq}
use Rattle.std.specs.List.{AllByRecursion}
use Rattle.std.proofs.lemmas.Option.{same_Some}
use Rattle.sb_log.specs.declared.identifiers.Handle.{Handle}
use Rattle.sb_log.specs.declared.identifiers.SideId.{SideId}
use Rattle.sb_log.specs.declared.identifiers.Who.{Who}
use Rattle.sb_log.specs.declared.identifiers.Who.TheVariants.{A, B}
use Rattle.sb_log.specs.declared.entries.Entry.{Entry}
use Rattle.sb_log.specs.declared.entries.Entry.TheVariants.{Defined, Txn, Accepted, Acked, Fired, Expired, QueueSet}
use Rattle.sb_log.specs.declared.entries.Op.{Op}
use Rattle.sb_log.specs.declared.entries.Op.TheVariants.{Begin, Send, Took, End, Cleanup, Move, Timer, Put, Delete}
use Rattle.sb_log.specs.declared.messages.Data.{Data}
use Rattle.sb_log.specs.declared.messages.Ack.{Ack}
use Rattle.sb_log.specs.declared.messages.Frame.{Frame}
use Rattle.sb_log.specs.declared.messages.Frame.TheVariants as frame
use Rattle.sb_log.specs.declared.refusals.Refusal.TheVariants as refusal
use Rattle.sb_log.specs.declared.steps.Answer.TheVariants as answer
use Rattle.sb_log.specs.declared.steps.Verdict.{Verdict}
use Rattle.sb_log.specs.declared.steps.Verdict.TheVariants.{New, Next, Repeat, Early, Gone, NotHere, AckNew, AckOld}
use Rattle.sb_log.specs.declared.steps.DueKind.{DueKind}
use Rattle.sb_log.specs.declared.steps.DueKind.TheVariants as due_kind
use Rattle.sb_model.specs.Sides.{same_side}
use Rattle.sb_model.specs.Sides.{makings, made_by_op, ops_of, side_of}
use Rattle.sb_model.specs.Messages.{contents_accepted, acks}
use Rattle.sb_model.specs.Deadlines.{Due, due}
use Rattle.sb_model.specs.Acceptance.{verdict, ack_verdict, makes_side, receiver, accepted_entry}
use Rattle.sb_model.specs.Instance.{Part, Luck, Done, append, refused}
use Rattle.sb_model.specs.Statements.{draws}
use Rattle.sb_model.specs.Wire.{Wired}
use Rattle.sb_model.specs.Steps.{accept_data, deliver_data, owes, set_owed, deliver_ack, deliver_frame, arrive, data_entry, verdict_told, new_handle, fire, fired_entry, first_due, same_kind}
use Rattle.sb_model.specs.Survival.{IsPrefixOf}
use Rattle.sb_model.specs.Links.{Logs, Linked, EndsForGood, IsFrameOf, TargetIsBegun, both}
use Rattle.sb_laws.proofs.Grow.{Grown, all_append}
use Rattle.sb_laws.proofs.Linking.{Adds, adds_nothing, adds_own, linked_more}
use Rattle.sb_laws.proofs.Accepting.{IsAccepting, is_accepting, accepts, makes_target, adds_accepted, adds_acked}
use Rattle.sb_laws.proofs.Plans.{low_is}
use Rattle.std.specs.Bool.{beq}
use Rattle.std.specs.List.{list_any}
use Rattle.std.proofs.lemmas.Bool.{eq-eqb}
use Rattle.sb_log.specs.declared.entries.NewSide.{NewSide}
use Rattle.sb_model.specs.Sides.{Making, made, has_side, is_of, same_id, sides}
use Rattle.sb_model.specs.Groups.{own_service}
use Rattle.sb_model.specs.Catalog.{find_service}
use Rattle.sb_model.specs.Messages.{accepted}
use Rattle.sb_model.specs.Deadlines.{due_by, due_of, due_before, may_be_due, timer_of, expiry}
use Rattle.sb_model.specs.Instance.{low_half}
use Rattle.sb_model.specs.Logs.{is_allowed, is_made_allowed, are_allowed_after}
use Rattle.sb_laws.proofs.Sides.{ids_same}
use Rattle.sb_laws.proofs.Taking.{all_in_order}
use Rattle.sb_laws.proofs.Delivered.{made_has_side}
use Rattle.sb_laws.proofs.Linking.{all_flat_map, sides_made}
use Rattle.sb_laws.proofs.Grow.{all_weaker, or_false}
use Rattle.sb_laws.proofs.Allowed.{NewIn, initiator_of, has_handle, new_in_none, both_true}
use Rattle.sb_laws.proofs.Plans.{drawn_new, drawn_low}
use Rattle.sb_laws.proofs.Accepting.{next_makes_none, ack_there}
use Rattle.sb_laws.proofs.Parts.{Brings, brings_none}
use Rattle.sb_laws.proofs.Opens.{LogOk, LiveOk, IsOpenOk, IsCounted, BeginsBelow}
use Rattle.sb_laws.specs.Worlds.{HasRoom}
use Rattle.sb_laws.proofs.Parts.{Few, few_same, few_drawn, PartOk, Moved, SameLog, IsQuiet, moved_live, moved_quiet}
use Rattle.sb_laws.proofs.Steps.{Steps, IsOwn, stays, quiet_moved, live_later}

-- the logs of an instance and of the other one
abbrev pub pairing : Who → List Entry → List Entry → Logs
pairing A a b = both a b
pairing B a b = both b a

-- an instance's log grows by these entries, whatever the other's is
pub Fits : Who → List Wired → List Entry → List Entry → Type 0
Fits x wire log more = (b : List Entry) → Linked (pairing x log b) wire → LogOk x (log ++ more) → Linked (pairing x (log ++ more) b) wire

pub fits_is : (x : Who) (wire : List Wired) (log more : List Entry) → ((b : List Entry) → Linked (pairing x log b) wire → LogOk x (log ++ more) → Linked (pairing x (log ++ more) b) wire) → Fits x wire log more
unfolding Fits
fits_is x wire log more f = f

pub fits_to : (x : Who) (wire : List Wired) (log more : List Entry) → Fits x wire log more → (b : List Entry) → Linked (pairing x log b) wire → LogOk x (log ++ more) → Linked (pairing x (log ++ more) b) wire
unfolding Fits
fits_to x wire log more f = f

grown_pair : (x : Who) (wire : List Wired) (log more b : List Entry) → Linked (pairing x log b) wire → LogOk x (log ++ more) → Grown (pairing x log b) (pairing x (log ++ more) b)
grown_pair A wire log more b h ok = record {
  grows = λ y. grows y;
  ended = λ y. ended y;
}
  where
    grows : (y : Who) → IsPrefixOf (both log b y) (both (log ++ more) b y)
    grows A = (more, refl)
    grows B = ([], append-nil b)

    ended : (y : Who) → EndsForGood (ops_of (both (log ++ more) b y))
    ended A = ok.sound.ended
    ended B = (h.sound B).ended
grown_pair B wire log more b h ok = record {
  grows = λ y. grows y;
  ended = λ y. ended y;
}
  where
    grows : (y : Who) → IsPrefixOf (both b log y) (both b (log ++ more) y)
    grows A = ([], append-nil b)
    grows B = (more, refl)

    ended : (y : Who) → EndsForGood (ops_of (both b (log ++ more) y))
    ended A = (h.sound A).ended
    ended B = ok.sound.ended

pair_adds : (x : Who) (wire : List Wired) (log more b : List Entry) → Linked (pairing x log b) wire → Adds (pairing x log b) (pairing x (log ++ more) b) x →
    (y : Who) → Adds (pairing x log b) (pairing x (log ++ more) b) y
pair_adds A wire log more b h a A = a
pair_adds A wire log more b h a B = adds_nothing (both log b) (both (log ++ more) b) wire B h refl
pair_adds B wire log more b h a A = adds_nothing (both b log) (both b (log ++ more)) wire A h refl
pair_adds B wire log more b h a B = a

-- ---- entries of its own

pub own_accepts : (s : SideId) (es : List Entry) → AllByRecursion IsOwn es → contents_accepted es s ≡ []
own_accepts s [] h = refl
own_accepts s (Txn a b ∷ es) h = own_accepts s es h.1
own_accepts s (Defined a ∷ es) h = own_accepts s es h.1
own_accepts s (Fired a ∷ es) h = own_accepts s es h.1
own_accepts s (Expired a ∷ es) h = own_accepts s es h.1
own_accepts s (QueueSet a b ∷ es) h = own_accepts s es h.1
own_accepts s (Accepted a b c d ∷ es) h = absurd h.0
own_accepts s (Acked a b c ∷ es) h = absurd h.0

pub own_acks : (s : SideId) (es : List Entry) → AllByRecursion IsOwn es → acks es s ≡ []
own_acks s [] h = refl
own_acks s (Txn a b ∷ es) h = own_acks s es h.1
own_acks s (Defined a ∷ es) h = own_acks s es h.1
own_acks s (Fired a ∷ es) h = own_acks s es h.1
own_acks s (Expired a ∷ es) h = own_acks s es h.1
own_acks s (QueueSet a b ∷ es) h = own_acks s es h.1
own_acks s (Accepted a b c d ∷ es) h = absurd h.0
own_acks s (Acked a b c ∷ es) h = absurd h.0

op_begun : (logs : Logs) (x : Who) (op : Op) → AllByRecursion (TargetIsBegun logs x) (made_by_op op)
op_begun logs x (Begin a b c) = ((λ e. absurd (clash e)), tt)
  where
    clash : true ≡ false → ⊥
    clash e = cc
op_begun logs x (Send a b c) = tt
op_begun logs x (Took a b) = tt
op_begun logs x (End a b) = tt
op_begun logs x (Cleanup a) = tt
op_begun logs x (Move a b) = tt
op_begun logs x (Timer a b) = tt
op_begun logs x (Put a b c d) = tt
op_begun logs x (Delete a b) = tt

ops_begun : (logs : Logs) (x : Who) (ops : List Op) → AllByRecursion (TargetIsBegun logs x) (flat_map made_by_op ops)
ops_begun logs x [] = tt
ops_begun logs x (op ∷ ops) = all_append (TargetIsBegun logs x) (made_by_op op) (flat_map made_by_op ops) (op_begun logs x op) (ops_begun logs x ops)

pub own_begun : (logs : Logs) (x : Who) (es : List Entry) → AllByRecursion IsOwn es → AllByRecursion (TargetIsBegun logs x) (makings es)
own_begun logs x [] h = tt
own_begun logs x (Txn a b ∷ es) h = all_append (TargetIsBegun logs x) (flat_map made_by_op b) (makings es) (ops_begun logs x b) (own_begun logs x es h.1)
own_begun logs x (Defined a ∷ es) h = own_begun logs x es h.1
own_begun logs x (Fired a ∷ es) h = own_begun logs x es h.1
own_begun logs x (Expired a ∷ es) h = own_begun logs x es h.1
own_begun logs x (QueueSet a b ∷ es) h = own_begun logs x es h.1
own_begun logs x (Accepted a b c d ∷ es) h = absurd h.0
own_begun logs x (Acked a b c ∷ es) h = absurd h.0

own_adds : (x : Who) (wire : List Wired) (log more b : List Entry) → AllByRecursion IsOwn more → LogOk x (log ++ more) → Adds (pairing x log b) (pairing x (log ++ more) b) x
own_adds A wire log more b own ok = adds_own (both log b) (both (log ++ more) b) A more refl ok.sound ok.in_order (own_begun (both (log ++ more) b) A more own) (λ s. own_accepts s more own) (λ s. own_acks s more own)
own_adds B wire log more b own ok = adds_own (both b log) (both b (log ++ more)) B more refl ok.sound ok.in_order (own_begun (both b (log ++ more)) B more own) (λ s. own_accepts s more own) (λ s. own_acks s more own)

pub own_fits : (x : Who) (wire : List Wired) (log more : List Entry) → AllByRecursion IsOwn more → Fits x wire log more
own_fits x wire log more own = fits_is x wire log more (λ b h ok. linked_more (pairing x log b) (pairing x (log ++ more) b) wire h (pair_adds x wire log more b h (own_adds x wire log more b own ok)))

-- ---- an accepted frame

pub accepted_fits : (x from : Who) (wire : List Wired) (log : List Entry) (d : Data) (handle group : Handle) → IsAccepting x log d →
    ((b : List Entry) → Linked (pairing x log b) wire → IsFrameOf (pairing x log b) from (frame.Data d)) → Fits x wire log (accepted_entry log handle group d ∷ [])
accepted_fits A from wire log d handle group acc sent = fits_is A wire log _ (λ b h ok.
    linked_more (both log b) (both (log ++ accepted_entry log handle group d ∷ []) b) wire h (pair_adds A wire log (accepted_entry log handle group d ∷ []) b h
    (adds_accepted (both log b) (both (log ++ accepted_entry log handle group d ∷ []) b) (grown_pair A wire log (accepted_entry log handle group d ∷ []) b h ok) wire h A from d handle group (sent b h) acc refl ok.sound ok.in_order)))
accepted_fits B from wire log d handle group acc sent = fits_is B wire log _ (λ b h ok.
    linked_more (both b log) (both b (log ++ accepted_entry log handle group d ∷ [])) wire h (pair_adds B wire log (accepted_entry log handle group d ∷ []) b h
    (adds_accepted (both b log) (both b (log ++ accepted_entry log handle group d ∷ [])) (grown_pair B wire log (accepted_entry log handle group d ∷ []) b h ok) wire h B from d handle group (sent b h) acc refl ok.sound ok.in_order)))

pub acked_fits : (x from : Who) (wire : List Wired) (log : List Entry) (k : Ack) →
    ((b : List Entry) → Linked (pairing x log b) wire → IsFrameOf (pairing x log b) from (frame.Ack k)) → Fits x wire log (Acked k.side k.upto k.closed ∷ [])
acked_fits A from wire log k acked = fits_is A wire log _ (λ b h ok.
    linked_more (both log b) (both (log ++ Acked k.side k.upto k.closed ∷ []) b) wire h (pair_adds A wire log (Acked k.side k.upto k.closed ∷ []) b h
    (adds_acked (both log b) (both (log ++ Acked k.side k.upto k.closed ∷ []) b) (grown_pair A wire log (Acked k.side k.upto k.closed ∷ []) b h ok) wire h A from k (acked b h) refl ok.sound ok.in_order)))
acked_fits B from wire log k acked = fits_is B wire log _ (λ b h ok.
    linked_more (both b log) (both b (log ++ Acked k.side k.upto k.closed ∷ [])) wire h (pair_adds B wire log (Acked k.side k.upto k.closed ∷ []) b h
    (adds_acked (both b log) (both b (log ++ Acked k.side k.upto k.closed ∷ [])) (grown_pair B wire log (Acked k.side k.upto k.closed ∷ []) b h ok) wire h B from k (acked b h) refl ok.sound ok.in_order)))

-- ---- what a step adds

-- from one state of the instance to the next: what more it adds fits, at each length
pub record Goes (wire : List Wired) (p q : Part) : Type 0 where
  pub entries : List Entry
  pub moved : Moved p q entries
  pub fits : (j : ℕ) → Fits p.who wire p.log (take j entries)

all_taken : {X : Type 0} (P : X → Type 0) (j : ℕ) (xs : List X) → AllByRecursion P xs → AllByRecursion P (take j xs)
all_taken P zero xs h = tt
all_taken P (suc j) [] h = tt
all_taken P (suc j) (x ∷ xs) h = (h.0, all_taken P j xs h.1)

pub steps_go : (wire : List Wired) (p q : Part) → Steps p q → Goes wire p q
steps_go wire p q s = record { entries = s.entries; moved = s.moved; fits = λ j. own_fits p.who wire p.log (take j s.entries) (all_taken IsOwn j s.entries s.own) }

pub stays_go : (wire : List Wired) (p : Part) → PartOk p → Goes wire p p
stays_go wire p h = steps_go wire p p (stays p h)

-- one entry
one_fits : (x : Who) (wire : List Wired) (log : List Entry) (e : Entry) → Fits x wire log (e ∷ []) → (j : ℕ) → Fits x wire log (take j (e ∷ []))
one_fits x wire log e f zero = own_fits x wire log [] tt
one_fits x wire log e f (suc j) = subst (λ l. Fits x wire log (e ∷ l)) (sym (nothing j)) f
  where
    nothing : (k : ℕ) → take k (let l : List Entry = [] in l) ≡ []
    nothing zero = refl
    nothing (suc k) = refl

-- ---- an accepted frame is allowed, and what it makes is new

not_is : (b : Bool) → not b ≡ true → b ≡ false
not_is true e = cc
not_is false e = refl

not_not : (b : Bool) → not b ≡ false → b ≡ true
not_not true e = refl
not_not false e = cc

module _ (p : Part) (d : Data) (acc : IsAccepting p.who p.log d) (room : p.next_handle + 2 < 2 ^ 64) (live : LiveOk p.who p.log p.next_handle p.next_tx p.open_txns) where
  made_side : NewSide
  made_side = record { handle = new_handle p 0; group = new_handle p 1; header = d.header }

  is_target : makes_side p.log d ≡ true → (receiver d).initiator ≡ false
  is_target e = both_not (makes_side p.log d) (receiver d).initiator acc.not_initiator e
    where
      both_not : (a b : Bool) → (a && b) ≡ false → a ≡ true → b ≡ false
      both_not true b f g = f
      both_not false b f g = cc

  allowed_made : (b : Bool) → makes_side p.log d ≡ b → is_made_allowed p.log (receiver d) (cond b (Some (record { handle = new_handle p 0; group = new_handle p 1; header = d.header })) None) ≡ true
  allowed_made false e = not_not (has_side p.log (receiver d)) e
  allowed_made true e =
      both_true (not (has_side p.log (receiver d)) && not (list_any (has_handle (new_handle p 0)) (makings p.log))) (is_some (find_service p.log (own_service (receiver d) d.header)))
      (both_true (not (has_side p.log (receiver d))) (not (list_any (has_handle (new_handle p 0)) (makings p.log))) e (ap not (drawn_new p.who p.next_handle (omega (arith, room)) (makings p.log) live.counted)))
      (ap (λ b. is_some (find_service p.log (cond b d.header.from_service d.header.to_service))) (is_target e) ∙ there (find_service p.log d.header.to_service) (sym (ap (λ b. b && is_none (find_service p.log d.header.to_service)) e) ∙ acc.service))
    where
      there : {X : Type 0} (o : Option X) → is_none o ≡ false → is_some o ≡ true
      there None f = cc
      there (Some x) f = refl

  pub data_allowed : are_allowed_after p.log (data_entry p d ∷ []) ≡ true
  data_allowed = both_true (is_allowed p.log (data_entry p d)) true
      (both_true (is_made_allowed p.log (receiver d) (cond (makes_side p.log d) (Some (record { handle = new_handle p 0; group = new_handle p 1; header = d.header })) None)) (d.number == accepted p.log (receiver d) + 1)
      (allowed_made (makes_side p.log d) refl) (eq-eqb d.number (accepted p.log (receiver d) + 1) acc.number)) refl

  abbrev makes : Bool → List Making
  makes b = makings (Accepted (receiver d) d.number (cond b (Some (record { handle = new_handle p 0; group = new_handle p 1; header = d.header })) None) d.content ∷ [])

  -- no begin of an open transaction has the drawn handle
  begin_apart : (h : Handle) → low_half h.0 < p.next_handle → same_id (new_handle p 0) h ≡ false
  begin_apart h lt = by_test (same_id (new_handle p 0) h) refl
    where
      not_below : (j k : ℕ) → j ≡ k → j < k → ⊥
      not_below j k e less = absurd (omega (arith, e, less))

      by_test : (b : Bool) → same_id (new_handle p 0) h ≡ b → same_id (new_handle p 0) h ≡ false
      by_test false e = e
      by_test true e = absurd (not_below (low_half (new_handle p 0).0) p.next_handle (drawn_low p.who p.next_handle (omega (arith, room))) (subst (λ z. low_half z.0 < p.next_handle) (sym (ids_same (new_handle p 0) h e)) lt))

  new_by : (b : Bool) → makes_side p.log d ≡ b → (ops : List Op) → AllByRecursion (BeginsBelow p.next_handle) ops → AllByRecursion (NewIn (makes b)) ops
  new_by false e ops k = new_in_none ops
  new_by true e [] k = tt
  new_by true e (Begin h g hd ∷ ops) k = ((target_apart, or_false (same_id (new_handle p 0) h) false (begin_apart h k.0) refl), new_by true e ops k.1)
    where
      target_apart : list_any (is_of (initiator_of h)) (makes true) ≡ false
      target_apart = or_false (same_side (receiver d) (initiator_of h)) false (apart (same_id (receiver d).conversation h) (receiver d).initiator (is_target e)) refl
        where
          apart : (a b : Bool) → b ≡ false → (a && beq b true) ≡ false
          apart true true f = cc
          apart true false f = refl
          apart false b f = refl
  new_by true e (Send a b c ∷ ops) k = (tt, new_by true e ops k.1)
  new_by true e (Took a b ∷ ops) k = (tt, new_by true e ops k.1)
  new_by true e (End a b ∷ ops) k = (tt, new_by true e ops k.1)
  new_by true e (Cleanup a ∷ ops) k = (tt, new_by true e ops k.1)
  new_by true e (Move a b ∷ ops) k = (tt, new_by true e ops k.1)
  new_by true e (Timer a b ∷ ops) k = (tt, new_by true e ops k.1)
  new_by true e (Put a b c w ∷ ops) k = (tt, new_by true e ops k.1)
  new_by true e (Delete a b ∷ ops) k = (tt, new_by true e ops k.1)

  counted_by : (b : Bool) (top : ℕ) → makes_side p.log d ≡ b → (b ≡ true → p.next_handle < top) → AllByRecursion (IsCounted p.who top) (makes b)
  counted_by false top e f = tt
  counted_by true top e f = (
    ((λ i. absurd (clash (sym i ∙ is_target e))), (λ i. let low : low_half (new_handle p 0).0 ≡ p.next_handle = drawn_low p.who p.next_handle (omega (arith, room)) in let lt : p.next_handle < top = f refl in omega (arith, low, lt))),
    tt,
  )
    where
      clash : true ≡ false → ⊥
      clash g = cc

  pub data_brings : (top : ℕ) → (makes_side p.log d ≡ true → p.next_handle < top) → Brings p.who p.log (data_entry p d ∷ []) top p.open_txns
  data_brings top f = record {
    quiet = ((refl, makes_target (receiver d) d.number (makes_side p.log d) _ d.content acc.not_initiator), tt);
    allowed = data_allowed;
    new = all_weaker (IsOpenOk p.who p.log p.next_handle p.next_tx) (λ o. AllByRecursion (NewIn (makes (makes_side p.log d))) o.ops) (λ o k. new_by (makes_side p.log d) refl o.ops k.begins_below) p.open_txns live.each;
    counted = counted_by (makes_side p.log d) top refl f;
  }

module _ (wire : List Wired) (p : Part) (h : PartOk p) (room : HasRoom p) (up : p.up ≡ true) (from : Who) where
  live : LiveOk p.who p.log p.next_handle p.next_tx p.open_txns
  live = h.live up

  -- a message by its verdict, where `after` differs by what is owed alone
  module _ (after : Part) (opens : after.open_txns ≡ p.open_txns) (same : SameLog p after) (handles : after.next_handle ≡ p.next_handle) (txs : after.next_tx ≡ p.next_tx) where
    drawn_same : SameLog p (draws after 2)
    drawn_same = record {
      who = same.who;
      up = same.up;
      log = same.log;
      doubt = same.doubt;
      few = subst (λ k. Few 2 p.next_handle p.next_tx ((after.next_handle + 2) % 2 ^ 64) k) (sym txs)
          (subst (λ k. Few 2 p.next_handle p.next_tx ((k + 2) % 2 ^ 64) p.next_tx) (sym handles) (few_drawn p.next_handle p.next_tx 2 (omega arith)));
    }

    live_at : (k : ℕ) → LiveOk p.who p.log k p.next_tx p.open_txns → LiveOk p.who p.log k after.next_tx after.open_txns
    live_at k l = subst (λ m. LiveOk p.who p.log k m after.open_txns) (sym txs) (subst (LiveOk p.who p.log k p.next_tx) (sym opens) l)

    live_after : LiveOk p.who p.log after.next_handle after.next_tx after.open_txns
    live_after = subst (λ k. LiveOk p.who p.log k after.next_tx after.open_txns) (sym handles) (live_at p.next_handle live)

    live_drawn : LiveOk p.who p.log ((after.next_handle + 2) % 2 ^ 64) after.next_tx after.open_txns
    live_drawn = subst (λ k. LiveOk p.who p.log k after.next_tx after.open_txns) (ap (λ k. (k + 2) % 2 ^ 64) (sym handles))
        (live_at ((p.next_handle + 2) % 2 ^ 64) (subst (λ k. LiveOk p.who p.log k p.next_tx p.open_txns) (sym (low_is (p.next_handle + 2) room.handles)) (live_later p h room up (p.next_handle + 2) p.next_tx (omega arith) (omega arith))))

    stays_after : Goes wire p after
    stays_after = steps_go wire p after (record {
      entries = [];
      own = tt;
      moved = moved_live p after [] h up same
          (λ f. subst (λ y. LiveOk y after.log after.next_handle after.next_tx after.open_txns) (sym same.who) (subst (λ l. LiveOk p.who l after.next_handle after.next_tx after.open_txns) (sym same.log) live_after));
    })

    brings_after : (d : Data) → IsAccepting p.who p.log d → (top : ℕ) → (makes_side p.log d ≡ true → p.next_handle < top) → Brings p.who p.log (data_entry p d ∷ []) top after.open_txns
    brings_after d acc top f = subst (Brings p.who p.log (data_entry p d ∷ []) top) (sym opens) (data_brings p d acc room.handles live top f)

    drawn_above : p.next_handle < (after.next_handle + 2) % 2 ^ 64
    drawn_above = subst (λ k. p.next_handle < (k + 2) % 2 ^ 64) (sym handles) (let e : (p.next_handle + 2) % 2 ^ 64 ≡ p.next_handle + 2 = low_is (p.next_handle + 2) room.handles in omega (arith, e))

    pub accept_moved : (luck : Luck) (d : Data) (v : Verdict) → verdict p.who p.log d ≡ v → ((b : List Entry) → Linked (pairing p.who p.log b) wire → IsFrameOf (pairing p.who p.log b) from (frame.Data d)) →
        Goes wire p (accept_data luck p after d v).part
    accept_moved luck d New e sent =
        let acc : IsAccepting p.who p.log d = is_accepting p.who p.log d (ap accepts e) in
        record {
          entries = data_entry p d ∷ [];
          moved = moved_quiet luck p (draws after 2) (data_entry p d ∷ []) (verdict_told New) h up drawn_same (brings_after d acc ((after.next_handle + 2) % 2 ^ 64) (λ f. drawn_above)) live_drawn;
          fits = one_fits p.who wire p.log (data_entry p d) (accepted_fits p.who from wire p.log d (new_handle p 0) (new_handle p 1) acc sent);
        }
    accept_moved luck d Next e sent =
        let acc : IsAccepting p.who p.log d = is_accepting p.who p.log d (ap accepts e) in
        record {
          entries = data_entry p d ∷ [];
          moved = moved_quiet luck p after (data_entry p d ∷ []) (verdict_told Next) h up same (brings_after d acc after.next_handle (λ f. absurd (clash (sym f ∙ next_makes_none p.who p.log d e)))) live_after;
          fits = one_fits p.who wire p.log (data_entry p d) (accepted_fits p.who from wire p.log d (new_handle p 0) (new_handle p 1) acc sent);
        }
      where
        clash : true ≡ false → ⊥
        clash g = cc
    accept_moved luck d Repeat e sent = stays_after
    accept_moved luck d Gone e sent = stays_after
    accept_moved luck d Early e sent = stays_after
    accept_moved luck d (NotHere k) e sent = stays_after
    accept_moved luck d AckNew e sent = stays_after
    accept_moved luck d AckOld e sent = stays_after

  data_moved : (luck : Luck) (d : Data) (v : Verdict) → verdict p.who p.log d ≡ v → ((b : List Entry) → Linked (pairing p.who p.log b) wire → IsFrameOf (pairing p.who p.log b) from (frame.Data d)) →
      Goes wire p (deliver_data luck p d v).part
  data_moved luck d v e sent = by_owes (owes v) (λ after opens same handles txs. accept_moved after opens same handles txs luck d v e sent)
    where
      by_owes : (c : Bool) → ((after : Part) → after.open_txns ≡ p.open_txns → SameLog p after → after.next_handle ≡ p.next_handle → after.next_tx ≡ p.next_tx → Goes wire p (accept_data luck p after d v).part) →
          Goes wire p (accept_data luck p (cond c (record p { owed = set_owed p.owed (receiver d) d.header.from }) p) d v).part
      by_owes true f = f (record p { owed = set_owed p.owed (receiver d) d.header.from }) refl (record { who = refl; up = refl; log = refl; doubt = refl; few = few_same 2 p.next_handle p.next_tx }) refl refl
      by_owes false f = f p refl (record { who = refl; up = refl; log = refl; doubt = refl; few = few_same 2 p.next_handle p.next_tx }) refl refl

  -- a message of the log's own that is handed over
  pub handed_moved : (luck : Luck) (d : Data) → ((b : List Entry) → Linked (pairing p.who p.log b) wire → IsFrameOf (pairing p.who p.log b) from (frame.Data d)) →
      Goes wire p (accept_data luck p p d (verdict p.who p.log d)).part
  handed_moved luck d sent = accept_moved p refl (record { who = refl; up = refl; log = refl; doubt = refl; few = few_same 2 p.next_handle p.next_tx }) refl refl luck d (verdict p.who p.log d) refl sent

  ack_moved : (luck : Luck) (k : Ack) (v : Verdict) → ack_verdict p.who p.log k ≡ v → ((b : List Entry) → Linked (pairing p.who p.log b) wire → IsFrameOf (pairing p.who p.log b) from (frame.Ack k)) → Goes wire p (deliver_ack luck p k v).part
  ack_moved luck k AckNew e acked = record {
    entries = Acked k.side k.upto k.closed ∷ [];
    moved = moved_quiet luck p p (Acked k.side k.upto k.closed ∷ []) (verdict_told AckNew) h up (record { who = refl; up = refl; log = refl; doubt = refl; few = few_same 2 p.next_handle p.next_tx })
        (brings_none p.who p.log (Acked k.side k.upto k.closed ∷ []) p.next_handle p.open_txns ((refl, tt), tt) (both_true (has_side p.log k.side) true (ack_there p.who p.log k e) refl) refl) live;
    fits = one_fits p.who wire p.log (Acked k.side k.upto k.closed) (acked_fits p.who from wire p.log k acked);
  }
  ack_moved luck k AckOld e acked = stays_go wire p h
  ack_moved luck k New e acked = stays_go wire p h
  ack_moved luck k Next e acked = stays_go wire p h
  ack_moved luck k Repeat e acked = stays_go wire p h
  ack_moved luck k Gone e acked = stays_go wire p h
  ack_moved luck k Early e acked = stays_go wire p h
  ack_moved luck k (NotHere n) e acked = stays_go wire p h

  pub frame_moved : (luck : Luck) (f : Frame) → ((b : List Entry) → Linked (pairing p.who p.log b) wire → IsFrameOf (pairing p.who p.log b) from f) → Goes wire p (deliver_frame luck p f).part
  frame_moved luck (frame.Data d) sent = data_moved luck d (verdict p.who p.log d) refl sent
  frame_moved luck (frame.Ack k) sent = ack_moved luck k (ack_verdict p.who p.log k) refl sent

pub arrive_moved : (wire : List Wired) (p : Part) → PartOk p → HasRoom p → (from : Who) (luck : Luck) (f : Frame) →
    ((b : List Entry) → Linked (pairing p.who p.log b) wire → IsFrameOf (pairing p.who p.log b) from f) → Goes wire p (arrive luck p f).part
arrive_moved wire p h room from luck f sent = by_test p.up refl
  where
    by_test : (c : Bool) → p.up ≡ c → Goes wire p (let d : Done = cond c (deliver_frame luck p f) (refused p (refusal.Down p.who)) in d.part)
    by_test true e = frame_moved wire p h room e from luck f sent
    by_test false e = stays_go wire p h

-- ---- time

fired_quiet : (s : SideId) (k : DueKind) → AllByRecursion IsQuiet (fired_entry s k ∷ [])
fired_quiet s due_kind.Timer = ((refl, tt), tt)
fired_quiet s due_kind.Lifetime = ((refl, tt), tt)

fired_own : (s : SideId) (k : DueKind) → AllByRecursion IsOwn (fired_entry s k ∷ [])
fired_own s due_kind.Timer = (tt, tt)
fired_own s due_kind.Lifetime = (tt, tt)

fired_allowed : (log : List Entry) (s : SideId) (k : DueKind) → has_side log s ≡ true → are_allowed_after log (fired_entry s k ∷ []) ≡ true
fired_allowed log s due_kind.Timer e = both_true (has_side log s) true e refl
fired_allowed log s due_kind.Lifetime e = both_true (has_side log s) true e refl

fired_makes_none : (s : SideId) (k : DueKind) → makings (fired_entry s k ∷ []) ≡ []
fired_makes_none s due_kind.Timer = refl
fired_makes_none s due_kind.Lifetime = refl

abbrev IsThere : List Entry → Due → Type 0
IsThere log x = has_side log x.side ≡ true

-- what is due is of a side that is there
due_there : (log : List Entry) (moment : ℕ) → AllByRecursion (IsThere log) (due log moment)
due_there log moment = all_in_order (IsThere log) due_before (flat_map (due_of log moment) (sides log))
    (all_flat_map (λ m. made log m.side ≡ Some m) (IsThere log) (due_of log moment) one (sides log) (sides_made log))
  where
    by_time : (m : Making) (k : DueKind) (at : Option ℕ) → made log m.side ≡ Some m → AllByRecursion (IsThere log) (due_by moment m.side k at)
    by_time m k None e = tt
    by_time m k (Some at) e = by_test (nat_le at moment)
      where
        by_test : (c : Bool) → AllByRecursion (IsThere log) (cond c (record { at = at; side = m.side; kind = k } ∷ []) [])
        by_test true = (made_has_side log m.side m e, tt)
        by_test false = tt

    one : (m : Making) → made log m.side ≡ Some m → AllByRecursion (IsThere log) (due_of log moment m)
    one m e = by_test (may_be_due log m.side)
      where
        by_test : (c : Bool) → AllByRecursion (IsThere log) (cond c (due_by moment m.side due_kind.Timer (timer_of log m.side) ++ due_by moment m.side due_kind.Lifetime (expiry log m)) [])
        by_test true = all_append (IsThere log) (due_by moment m.side due_kind.Timer (timer_of log m.side)) (due_by moment m.side due_kind.Lifetime (expiry log m))
            (by_time m due_kind.Timer (timer_of log m.side) e) (by_time m due_kind.Lifetime (expiry log m) e)
        by_test false = tt

first_there : (P : Due → Type 0) (ds : List Due) (x : Due) → AllByRecursion P ds → first_due ds ≡ Some x → P x
first_there P [] x h e = cc
first_there P (d ∷ ds) x h e = subst P (same_Some d x e) h.0

pub fire_moved : (p : Part) → PartOk p → HasRoom p → (luck : Luck) (moment : ℕ) (handle : Handle) (kind : DueKind) (d : Done) → fire luck p moment handle kind ≡ Some d → Steps p d.part
fire_moved p h room luck moment handle kind d e = by_up p.up refl e
  where
    none : {P : Type 0} → None ≡ Some d → P
    none k = cc

    by_due : (r : Option Due) → ((x : Due) → r ≡ Some x → has_side p.log x.side ≡ true) → p.up ≡ true →
        option_and_then (λ x. cond (same_kind x.kind kind && option_eq same_side (side_of p.log handle) (Some x.side)) (Some (append luck p (fired_entry x.side x.kind ∷ []) answer.Fired p)) None) r ≡ Some d → Steps p d.part
    by_due None there up f = none f
    by_due (Some x) there up f = by_test (same_kind x.kind kind && option_eq same_side (side_of p.log handle) (Some x.side)) f
      where
        by_test : (c : Bool) → cond c (Some (append luck p (fired_entry x.side x.kind ∷ []) answer.Fired p)) None ≡ Some d → Steps p d.part
        by_test true k = subst (λ z. Steps p z.part) (same_Some _ d k) (quiet_moved p h room up luck (fired_entry x.side x.kind ∷ []) answer.Fired (fired_quiet x.side x.kind) (fired_allowed p.log x.side x.kind (there x refl)) (fired_makes_none x.side x.kind) (fired_own x.side x.kind))
        by_test false k = none k

    by_up : (c : Bool) → p.up ≡ c →
        option_and_then (λ x. cond (same_kind x.kind kind && option_eq same_side (side_of p.log handle) (Some x.side)) (Some (append luck p (fired_entry x.side x.kind ∷ []) answer.Fired p)) None) (cond c (first_due (due p.log moment)) None) ≡ Some d → Steps p d.part
    by_up true up f = by_due (first_due (due p.log moment)) (λ x k. first_there (λ z. has_side p.log z.side ≡ true) (due p.log moment) x (due_there p.log moment) k) up f
    by_up false up f = none f
