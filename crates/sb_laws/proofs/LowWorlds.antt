-- Each step of the world keeps handles and numbers below a bound that rises by four, so a history of few steps stays fresh.
use Rattle.std.proofs.Common.{◌≡◌, ℕ, zero, suc, Bool, true, false, List, [], ◌∷◌, ◌++◌, ◌+◌, ◌*◌, ◌^◌, ◌≤◌, ◌<◌, Option, Some, None, Result, Ok, Err, refl, subst, length, arith, cond, map, take}
use Rattle.std.specs.Prelude.{flat_map, find, IsTrue, ◌&&◌, option_map, option_and_then, nat_lt, nat_le, slice_get}
use Rattle.std.specs.Option.{option_eq, option_map_or}
use Rattle.std.specs.List.{list_all, AllByRecursion}
use Rattle.std.proofs.lemmas.Option.{same_Some}
use Rattle.sb_log.specs.declared.identifiers.Handle.{Handle}
use Rattle.sb_log.specs.declared.identifiers.Session.{Session}
use Rattle.sb_log.specs.declared.identifiers.SideId.{SideId}
use Rattle.sb_log.specs.declared.identifiers.Who.{Who}
use Rattle.sb_log.specs.declared.identifiers.Who.TheVariants.{A, B}
use Rattle.sb_log.specs.declared.identifiers.Actor.{Actor}
use Rattle.sb_log.specs.declared.identifiers.Actor.TheVariants as actor
use Rattle.sb_log.specs.declared.definitions.QueueDef.{QueueDef}
use Rattle.sb_log.specs.declared.entries.Entry.{Entry}
use Rattle.sb_log.specs.declared.messages.Content.{Content}
use Rattle.sb_log.specs.declared.messages.Data.{Data}
use Rattle.sb_log.specs.declared.messages.Frame.{Frame}
use Rattle.sb_log.specs.declared.refusals.Refusal.{Refusal}
use Rattle.sb_log.specs.declared.refusals.Refusal.TheVariants as refusal
use Rattle.sb_log.specs.declared.requests.Request.{Request}
use Rattle.sb_log.specs.declared.requests.Request.TheVariants as request
use Rattle.sb_log.specs.declared.steps.Answer.{Answer}
use Rattle.sb_log.specs.declared.steps.Answer.TheVariants as answer
use Rattle.sb_log.specs.declared.steps.Arrived.TheVariants as arrived
use Rattle.sb_log.specs.declared.steps.Barred.TheVariants as barred
use Rattle.sb_log.specs.declared.steps.DueKind.{DueKind}
use Rattle.sb_log.specs.declared.steps.DueKind.TheVariants as due_kind
use Rattle.sb_log.specs.declared.steps.Event.{Event}
use Rattle.sb_log.specs.declared.steps.Event.TheVariants as event
use Rattle.sb_log.specs.declared.steps.Step.{Step}
use Rattle.sb_model.specs.Sides.{Bytes, Making, made, sides, same_side, same_id, same_name, same_who, side_of}
use Rattle.sb_model.specs.Messages.{numbered, acked, outgoing}
use Rattle.sb_model.specs.Deadlines.{Due, due}
use Rattle.sb_model.specs.Acceptance.{verdict}
use Rattle.sb_model.specs.Frames.{Sent, Owed, frames_due, data_frames, data_from, ack_frame, ack_of, by_level, no_later, destination}
use Rattle.sb_model.specs.Spelling.{frame_bytes}
use Rattle.sb_model.specs.FrameReading.{decode_frame}
use Rattle.sb_model.specs.Dump.{dump}
use Rattle.sb_model.specs.Transactions.{OpenTransaction}
use Rattle.sb_model.specs.Instance.{Part, Luck, Done, append, opened, down_with, end_of, refused}
use Rattle.sb_model.specs.Statements.{session_step, refused_reader, reader_request, reader_step, runnable, start_pick, started_on, start_step, start_queue}
use Rattle.sb_model.specs.Wire.{Wired, wired, no_longer_waits, spelled_on, put, lines_from, wire_size, sent_size}
use Rattle.sb_model.specs.Steps.{World, Stepped, part, with_part, on_part, told, deliver_wired, arrive, accept_data, lose_wired, inject, inject_other, pump, pumped, fire, fired_entry, first_due, same_kind, open_with, open_step, serve, sessions_open, is_settled, luck_of, failed, reader_words, words_told, is_of_words, is_not_yet, is_of_reader_words, hand_over, to_hand_over, handed, step}
use Rattle.sb_model.specs.Histories.{outcome, world_of, next, first_world}
use Rattle.sb_laws.specs.Worlds.{StaysFresh, IsFreshWorld, survivor}
use Rattle.sb_laws.specs.Fresh.{is_under, spells_low, SpellsLow}
use Rattle.sb_laws.proofs.Sides.{both_left, both_right}
use Rattle.sb_laws.proofs.Grow.{all_weaker, all_append}
use Rattle.sb_laws.proofs.Taking.{all_take}
use Rattle.sb_laws.proofs.Linking.{all_flat_map, all_stable}
use Rattle.sb_laws.proofs.PlanCases.{all_found}
use Rattle.sb_laws.proofs.Low.{IsLow, MakingLow, EntryLow, LogLow, OpenLow, FrameLow, WiredLow, entry_later, wired_later, low_made, low_sides, low_fresh, low_counters, under_is_low}
use Rattle.sb_log.specs.declared.requests.Relation.TheVariants as relation
use Rattle.sb_model.specs.Instance.{low_half}
use Rattle.sb_laws.proofs.Low.{less_is, is_less}
use Rattle.sb_laws.proofs.Steps.{runnable_open}
use Rattle.sb_laws.proofs.Delivery.{told_is}
use Rattle.sb_laws.proofs.LowSteps.{PartLow, part_later, session_step_low, reader_low, refused_low, started_low, arrive_low, handed_low, fired_low}

pub record WorldLow (top : ℕ) (w : World) : Type 0 where
  pub each : (x : Who) → PartLow top (part w x)
  pub wire : AllByRecursion (WiredLow top) w.wire

world_later : (low top : ℕ) → low ≤ top → (w : World) → WorldLow low w → WorldLow top w
world_later low top le w h = record {
  each = λ x. part_later low top le (part w x) (h.each x);
  wire = all_weaker (WiredLow low) (WiredLow top) (wired_later low top le) w.wire h.wire;
}

-- one instance moves
moved_low : (top : ℕ) (w : World) (x : Who) (q : Part) → WorldLow top w → PartLow top q → WorldLow top (with_part w x q)
moved_low top w A q h k = record { each = each; wire = h.wire }
  where
    each : (y : Who) → PartLow top (part (record w { a = q }) y)
    each A = k
    each B = h.each B
moved_low top w B q h k = record { each = each; wire = h.wire }
  where
    each : (y : Who) → PartLow top (part (record w { b = q }) y)
    each A = h.each A
    each B = k

-- ---- the frames of a pump

module _ (top : ℕ) (x : Who) (log : List Entry) (h : LogLow top log) where
  abbrev SentLow : Sent → Type 0
  SentLow s = FrameLow top s.frame

  data_low : (m : Making) (n : ℕ) (cs : List Content) → MakingLow top m → AllByRecursion SentLow (data_from x log m n cs)
  data_low m n [] k = tt
  data_low m n (c ∷ cs) k = (k.0, data_low m (n + 1) cs k)

  acks_low : (owed : List Owed) (m : Making) → MakingLow top m → AllByRecursion SentLow (ack_frame x log owed m)
  acks_low owed m k = one (find (λ o. same_side o.side m.side) owed)
    where
      one : (o : Option Owed) → AllByRecursion SentLow (option_map_or (λ z. ack_of x log m z ∷ []) o [])
      one None = tt
      one (Some o) = (tt, tt)

  frames_low : (owed : List Owed) → AllByRecursion SentLow (frames_due x log owed)
  frames_low owed = all_append SentLow (flat_map (data_frames x log) (by_level log)) (flat_map (ack_frame x log owed) (sides log))
      (all_flat_map (MakingLow top) SentLow (data_frames x log) (λ m k. data_low m (acked log m.side + 1) (take 64 (outgoing log m.side)) k) (by_level log)
      (all_stable (MakingLow top) (no_later log) (sides log) (low_sides top log h)))
      (all_flat_map (MakingLow top) SentLow (ack_frame x log owed) (acks_low owed) (sides log) (low_sides top log h))

  put_low : (fs : List Sent) → AllByRecursion SentLow fs → AllByRecursion (WiredLow top) (map (put x) fs)
  put_low [] k = tt
  put_low (f ∷ fs) k = (k.0, put_low fs k.1)

-- ---- one step

module _ (low top : ℕ) (le : low + 4 ≤ top) (some : 1 ≤ low) (w : World) (h : WorldLow low w) where
  later : WorldLow top w
  later = world_later low top (omega (arith, le)) w h

  none_low : {P : Type 0} (r : Stepped) → None ≡ Some r → P
  none_low r e = cc

  some_low : (x r : Stepped) → Some x ≡ Some r → WorldLow top x.world → WorldLow top r.world
  some_low x r e k = subst (λ s. WorldLow top s.world) (same_Some x r e) k

  if_low : (c : Bool) (x r : Stepped) → cond c (Some x) None ≡ Some r → WorldLow top x.world → WorldLow top r.world
  if_low true x r e k = some_low x r e k
  if_low false x r e k = none_low r e

  on_low : (x : Who) (d : Done) → PartLow top d.part → WorldLow top (on_part w x d).world
  on_low x d k = moved_low top w x d.part later k

  same_low : (x : Who) → WorldLow top (with_part w x (part w x))
  same_low x = moved_low top w x (part w x) later (later.each x)

  reader_step_low : (x : Who) (n now : ℕ) (luck : Luck) (req : Request) (r : Stepped) → IsTrue (spells_low low (event.Asked req)) → option_map (on_part w x) (reader_step luck (part w x) n now req) ≡ Some r → WorldLow top r.world
  reader_step_low x n now luck req r spelled e = by_open (runnable (part w x) n) refl e
    where
      by_open : (o : Option OpenTransaction) → runnable (part w x) n ≡ o → option_map (on_part w x) (option_map (λ z. reader_request luck (part w x) z now req) o) ≡ Some r → WorldLow top r.world
      by_open None f g = none_low r g
      by_open (Some o) f g = some_low _ r g (on_low x (reader_request luck (part w x) o now req)
          (reader_low low top le (part w x) (h.each x) o (all_found (OpenLow top) _ (part w x).open_txns o (later.each x).opens (runnable_open (part w x) n o f)) luck now req spelled))

  reader_words_low : (luck : Luck) (x : Who) (n : ℕ) (k : Refusal) (r : Stepped) → reader_words luck w x n k ≡ Some r → WorldLow top r.world
  reader_words_low luck x n k r e = by_words (is_of_reader_words k) e
    where
      by_told : (o : OpenTransaction) (d : Option Done) → runnable (part w x) n ≡ Some o → words_told k (refused_reader luck (part w x) o k) ≡ d → option_map (on_part w x) d ≡ Some r → WorldLow top r.world
      by_told o None f i g = none_low r g
      by_told o (Some d) f i g = some_low _ r g (on_low x d (subst (λ z. PartLow top z.part) (told_is k (refused_reader luck (part w x) o k) d i)
          (refused_low low top le (part w x) (h.each x) o (all_found (OpenLow top) _ (part w x).open_txns o (later.each x).opens (runnable_open (part w x) n o f)) luck k)))

      by_open : (o : Option OpenTransaction) → runnable (part w x) n ≡ o → option_map (on_part w x) (option_and_then (λ z. words_told k (refused_reader luck (part w x) z k)) o) ≡ Some r → WorldLow top r.world
      by_open None f g = none_low r g
      by_open (Some o) f g = by_told o (words_told k (refused_reader luck (part w x) o k)) f refl g

      by_words : (c : Bool) → cond c (option_map (on_part w x) (option_and_then (λ z. words_told k (refused_reader luck (part w x) z k)) (runnable (part w x) n))) None ≡ Some r → WorldLow top r.world
      by_words true f = by_open (runnable (part w x) n) refl f
      by_words false f = none_low r f

  start_low : (x : Who) (q : Bytes) (g : Handle) (r : Stepped) → option_map (on_part w x) (start_step (part w x) q g) ≡ Some r → WorldLow top r.world
  start_low x q g r e = by_queue (start_queue (part w x)) e
    where
      by_test : (c : Bool) → option_map (on_part w x) (cond c (Some (started_on (part w x) q g)) None) ≡ Some r → WorldLow top r.world
      by_test true f = some_low _ r f (on_low x (started_on (part w x) q g) (started_low low top le (part w x) (h.each x) q g))
      by_test false f = none_low r f

      by_queue : (o : Option QueueDef) → option_map (on_part w x) (option_and_then (λ def. cond (same_name def.name q && option_eq same_id (option_map (λ k. k.group) (start_pick (part w x) def)) (Some g)) (Some (started_on (part w x) q g)) None) o) ≡ Some r → WorldLow top r.world
      by_queue None f = none_low r f
      by_queue (Some def) f = by_test (same_name def.name q && option_eq same_id (option_map (λ k. k.group) (start_pick (part w x) def)) (Some g)) f

  pump_low : (x : Who) → WorldLow top (pump w x).world
  pump_low x = by_up (part w x).up
    where
      sent : List Sent
      sent = frames_due x (part w x).log (part w x).owed

      put_on : WorldLow top (record (with_part w x (record (part w x) { owed = [] })) { wire = w.wire ++ map (put x) (frames_due x (part w x).log (part w x).owed) })
      put_on =
          let m : WorldLow top (with_part w x (record (part w x) { owed = [] })) = moved_low top w x (record (part w x) { owed = [] }) later
          (record { log = (later.each x).log; doubt = (later.each x).doubt; opens = (later.each x).opens; handles = (later.each x).handles; txs = (later.each x).txs }) in
          record {
            each = λ y. same_part x y (m.each y);
            wire = all_append (WiredLow top) w.wire (map (put x) (frames_due x (part w x).log (part w x).owed)) later.wire
                (put_low top x (part w x).log (later.each x).log (frames_due x (part w x).log (part w x).owed) (frames_low top x (part w x).log (later.each x).log (part w x).owed));
          }
        where
          same_part : (z y : Who) → PartLow top (part (with_part w z (record (part w z) { owed = [] })) y) → PartLow top (part (record (with_part w z (record (part w z) { owed = [] })) { wire = w.wire ++ map (put x) (frames_due x (part w x).log (part w x).owed) }) y)
          same_part A A k = k
          same_part A B k = k
          same_part B A k = k
          same_part B B k = k

      by_room : (c : Bool) → WorldLow top (let s : Stepped = cond c (told w (answer.Barred (barred.WireFull (wire_size w.wire + sent_size (frames_due x (part w x).log (part w x).owed)))))
          (record {
            answer = answer.Pumped (lines_from (length w.wire + 1) (frames_due x (part w x).log (part w x).owed));
            on = x;
            added = [];
            world = record (with_part w x (record (part w x) { owed = [] })) { wire = w.wire ++ map (put x) (frames_due x (part w x).log (part w x).owed) };
          }) in s.world)
      by_room true = later
      by_room false = put_on

      by_up : (c : Bool) → WorldLow top (let s : Stepped = cond c (pumped w x (frames_due x (part w x).log (part w x).owed)) (on_part w x (refused (part w x) (refusal.Down x))) in s.world)
      by_up true = by_room (nat_lt 268435456 (wire_size w.wire + sent_size (frames_due x (part w x).log (part w x).owed)))
      by_up false = same_low x

  waits_low : (k : ℕ) (wire : List Wired) → AllByRecursion (WiredLow top) wire → AllByRecursion (WiredLow top) (no_longer_waits k wire)
  waits_low zero wire f = f
  waits_low (suc k) [] f = tt
  waits_low (suc zero) (g ∷ wire) f = (f.0, f.1)
  waits_low (suc (suc k)) (g ∷ wire) f = (f.0, waits_low (suc k) wire f.1)

  with_wire : (wire : List Wired) → AllByRecursion (WiredLow top) wire → WorldLow top (record w { wire = wire })
  with_wire wire f = record { each = each; wire = f }
    where
      each : (y : Who) → PartLow top (part (record w { wire = wire }) y)
      each A = later.each A
      each B = later.each B

  with_moment : (m : ℕ) → WorldLow top (record w { moment = m })
  with_moment m = record { each = each; wire = later.wire }
    where
      each : (y : Who) → PartLow top (part (record w { moment = m }) y)
      each A = later.each A
      each B = later.each B

  at_low : (wire : List Wired) (k : ℕ) (f : Wired) → AllByRecursion (WiredLow low) wire → slice_get wire k ≡ Some f → WiredLow low f
  at_low [] k f a e = cc
  at_low (g ∷ wire) zero f a e = subst (WiredLow low) (same_Some g f e) a.0
  at_low (g ∷ wire) (suc k) f a e = at_low wire k f a.1 e

  deliver_world_low : (luck : Luck) (k : ℕ) (o : Option Wired) → wired w.wire k ≡ o → WorldLow top (deliver_wired luck w k o).world
  deliver_world_low luck k None e = later
  deliver_world_low luck zero (Some f) e = cc
  deliver_world_low luck (suc k) (Some f) e =
      by_to f.to (arrive_low low top le (part w f.to) (h.each f.to) luck f.frame (at_low w.wire k f h.wire e))
    where
      by_to : (x : Who) → PartLow top (arrive luck (part w x) f.frame).part → WorldLow top (on_part (record w { wire = no_longer_waits (suc k) w.wire }) x (arrive luck (part (record w { wire = no_longer_waits (suc k) w.wire }) x) f.frame)).world
      by_to A g = moved_low top (record w { wire = no_longer_waits (suc k) w.wire }) A (arrive luck w.a f.frame).part (with_wire (no_longer_waits (suc k) w.wire) (waits_low (suc k) w.wire later.wire)) g
      by_to B g = moved_low top (record w { wire = no_longer_waits (suc k) w.wire }) B (arrive luck w.b f.frame).part (with_wire (no_longer_waits (suc k) w.wire) (waits_low (suc k) w.wire later.wire)) g

  lose_low : (k : ℕ) (o : Option Wired) → WorldLow top (lose_wired w k o).world
  lose_low k None = later
  lose_low k (Some f) = with_wire (no_longer_waits k w.wire) (waits_low k w.wire later.wire)

  inject_other_low : (x : Who) (r : Result Frame ℕ) → WorldLow top (inject_other w x r).world
  inject_other_low x (Ok f) = later
  inject_other_low x (Err at) = by_up (part w x).up
    where
      by_up : (c : Bool) → WorldLow top (let s : Stepped = cond c (told w (answer.Arrived (arrived.BadFrame at))) (on_part w x (refused (part w x) (refusal.Down x))) in s.world)
      by_up true = later
      by_up false = same_low x

  inject_low : (luck : Luck) (x : Who) (bytes : Bytes) (o : Option Wired) → spelled_on w.wire bytes ≡ o → WorldLow top (inject luck w x bytes o).world
  inject_low luck x bytes None e = inject_other_low x (decode_frame bytes)
  inject_low luck x bytes (Some g) e = on_low x (arrive luck (part w x) g.frame)
      (arrive_low low top le (part w x) (h.each x) luck g.frame (all_found (WiredLow low) (λ f. same_name (frame_bytes f.frame) bytes) w.wire g h.wire e))

  hand_over_low : (luck : Luck) (s : SideId) (n : ℕ) (r : Stepped) → hand_over luck w s n ≡ Some r → WorldLow top r.world
  hand_over_low luck s n r e = by_up w.a.up e
    where
      to_low : (m : ℕ) (d : Data) → to_hand_over w.a s m ≡ Some d → IsLow low d.side.conversation
      to_low zero d f = absurd (none f)
        where
          none : None ≡ Some d → ⊥
          none g = cc
      to_low (suc k) d f = by_made (made w.a.log s) refl f
        where
          none : {P : Type 0} → None ≡ Some d → P
          none g = cc

          by_place : (m : Making) (o : Option Content) → MakingLow low m → option_map (handed w.a m (suc k)) o ≡ Some d → IsLow low d.side.conversation
          by_place m None g i = none i
          by_place m (Some c) g i = subst (λ z. IsLow low z.side.conversation) (same_Some (handed w.a m (suc k) c) d i) g.0

          by_here : (m : Making) (c : Bool) → MakingLow low m → cond c (option_map (handed w.a m (suc k)) (slice_get (numbered w.a.log s) k)) None ≡ Some d → IsLow low d.side.conversation
          by_here m true g i = by_place m (slice_get (numbered w.a.log s) k) g i
          by_here m false g i = none i

          by_made : (o : Option Making) → made w.a.log s ≡ o → option_and_then (λ m. cond (same_who (destination w.a.who w.a.log m) w.a.who) (option_map (handed w.a m (suc k)) (slice_get (numbered w.a.log s) k)) None) o ≡ Some d →
              IsLow low d.side.conversation
          by_made None g i = none i
          by_made (Some m) g i = by_here m (same_who (destination w.a.who w.a.log m) w.a.who) (low_made low w.a.log s m (h.each A).log g) i

      by_data : (o : Option Data) → to_hand_over w.a s n ≡ o → option_map (λ d. on_part w A (accept_data luck w.a w.a d (verdict A w.a.log d))) o ≡ Some r → WorldLow top r.world
      by_data None f g = none_low r g
      by_data (Some d) f g = some_low _ r g (on_low A (accept_data luck w.a w.a d (verdict A w.a.log d)) (handed_low low top le w.a (h.each A) luck d (verdict A w.a.log d) (to_low n d f)))

      by_up : (c : Bool) → cond c (option_map (λ d. on_part w A (accept_data luck w.a w.a d (verdict A w.a.log d))) (to_hand_over w.a s n)) None ≡ Some r → WorldLow top r.world
      by_up true f = by_data (to_hand_over w.a s n) refl f
      by_up false f = none_low r f

  fire_low : (x : Who) (luck : Luck) (moment : ℕ) (handle : Handle) (kind : DueKind) (r : Stepped) → option_map (on_part w x) (fire luck (part w x) moment handle kind) ≡ Some r → WorldLow top r.world
  fire_low x luck moment handle kind r e = by_due (cond (part w x).up (first_due (due (part w x).log moment)) None) e
    where
      by_test : (d : Due) (c : Bool) → option_map (on_part w x) (cond c (Some (append luck (part w x) (fired_entry d.side d.kind ∷ []) answer.Fired (part w x))) None) ≡ Some r → WorldLow top r.world
      by_test d true f = some_low _ r f (on_low x (append luck (part w x) (fired_entry d.side d.kind ∷ []) answer.Fired (part w x)) (fired_low low top le (part w x) (h.each x) luck d.side d.kind))
      by_test d false f = none_low r f

      by_due : (o : Option Due) → option_map (on_part w x) (option_and_then (λ d. cond (same_kind d.kind kind && option_eq same_side (side_of (part w x).log handle) (Some d.side))
          (Some (append luck (part w x) (fired_entry d.side d.kind ∷ []) answer.Fired (part w x))) None) o) ≡ Some r → WorldLow top r.world
      by_due None f = none_low r f
      by_due (Some d) f = by_test d (same_kind d.kind kind && option_eq same_side (side_of (part w x).log handle) (Some d.side)) f

  crash_low : (x : Who) → WorldLow top (with_part w x (down_with (part w x) (part w x).doubt))
  crash_low x = moved_low top w x (down_with (part w x) (part w x).doubt) later
      (record { log = (later.each x).log; doubt = (later.each x).doubt; opens = tt; handles = (later.each x).handles; txs = (later.each x).txs })

  open_with_low : (x : Who) (n : ℕ) (r : Stepped) → open_with w x n ≡ Some r → WorldLow top r.world
  open_with_low x n r e = if_low (nat_le (length (part w x).log) n && nat_le n (length ((part w x).log ++ (part w x).doubt))) _ r e (opened_low (take n ((part w x).log ++ (part w x).doubt))
      (all_take (EntryLow low) n ((part w x).log ++ (part w x).doubt) (all_append (EntryLow low) (part w x).log (part w x).doubt (h.each x).log (h.each x).doubt)))
    where
      opened_low : (log : List Entry) → LogLow low log → WorldLow top (with_part w x (opened x log (Some (end_of log))))
      opened_low log k =
          let c = low_counters low x log some k in
          moved_low top w x (opened x log (Some (end_of log))) later
          (record { log = all_weaker (EntryLow low) (EntryLow top) (entry_later low top (omega (arith, le))) log k; doubt = tt; opens = tt; handles = omega (arith, c.0, le); txs = omega (arith, c.1, le) })

  open_step_low : (x : Who) (given : Answer) (r : Stepped) → open_step w x given ≡ Some r → WorldLow top r.world
  open_step_low x (answer.Entries n) r e = by_up (part w x).up e
    where
      by_up : (c : Bool) → cond c None (open_with w x n) ≡ Some r → WorldLow top r.world
      by_up true f = none_low r f
      by_up false f = open_with_low x n r f
  open_step_low x answer.OpenFailed r e = by_up (part w x).up e
    where
      by_up : (c : Bool) → cond c None (Some (told w answer.OpenFailed)) ≡ Some r → WorldLow top r.world
      by_up true f = none_low r f
      by_up false f = some_low (told w answer.OpenFailed) r f later
  open_step_low x (answer.OpenRefused at) r e = by_up (part w x).up e
    where
      by_up : (c : Bool) → cond c None (Some (told w (answer.OpenRefused at))) ≡ Some r → WorldLow top r.world
      by_up true f = none_low r f
      by_up false f = some_low (told w (answer.OpenRefused at)) r f later
  open_step_low x given r e = by_up (part w x).up e
    where
      by_up : (c : Bool) → cond c (Some (told w (answer.Barred (barred.Up x)))) None ≡ Some r → WorldLow top r.world
      by_up c f = if_low c (told w (answer.Barred (barred.Up x))) r f later

  serve_low : (ss : List Session) (r : Stepped) → serve w ss ≡ Some r → WorldLow top r.world
  serve_low [] r e = if_low (is_settled w) (told w answer.Settled) r e later
  serve_low (s ∷ ss) r e = some_low (told w (answer.Barred (barred.OpenSessions s))) r e later

  either_low : (c : Bool) (x y r : Stepped) → WorldLow top x.world → WorldLow top y.world → Some (cond c x y) ≡ Some r → WorldLow top r.world
  either_low true x y r a b e = some_low x r e a
  either_low false x y r a b e = some_low y r e b

  clock_low : (m : ℕ) (c : Bool) (r : Stepped) → cond c (Some (told w (answer.Barred (barred.ClockBack w.moment)))) (Some (told (record w { moment = m }) (answer.Moment m))) ≡ Some r → WorldLow top r.world
  clock_low m true r e = some_low (told w (answer.Barred (barred.ClockBack w.moment))) r e later
  clock_low m false r e = some_low (told (record w { moment = m }) (answer.Moment m)) r e (with_moment m)

  pub step_low : (who : Actor) (e : Event) (given : Answer) (r : Stepped) → IsTrue (spells_low low e) → step w who e given ≡ Some r → WorldLow top r.world
  step_low (actor.Session s) (event.Asked req) given r spelled f =
      some_low _ r f (on_low s.instance (session_step (luck_of given) (part w s.instance) s.number w.moment req) (session_step_low low top le (part w s.instance) (h.each s.instance) (luck_of given) s.number w.moment req spelled))
  step_low (actor.Reader x n) (event.Asked req) given r spelled f = reader_step_low x n w.moment (luck_of given) req r spelled f
  step_low (actor.Session s) (event.Words words) (answer.Refused k back) r spelled f = if_low (is_of_words k) (on_part w s.instance (refused (part w s.instance) k)) r f (same_low s.instance)
  step_low (actor.Reader x n) (event.Words words) (answer.Refused k back) r spelled f = reader_words_low (failed k) x n k r f
  step_low (actor.Reader x n) (event.Start q g) given r spelled f = start_low x q g r f
  step_low actor.World (event.Words words) (answer.Refused k back) r spelled f = if_low (is_not_yet k) (told w (answer.Refused k None)) r f later
  step_low actor.World (event.Pump x) given r spelled f = some_low (pump w x) r f (pump_low x)
  step_low actor.World (event.Deliver k to) given r spelled f =
      if_low (option_eq same_who to (option_map (λ z. z.to) (wired w.wire k))) (deliver_wired (luck_of given) w k (wired w.wire k)) r f (deliver_world_low (luck_of given) k (wired w.wire k) refl)
  step_low actor.World (event.HandOver s n) given r spelled f = hand_over_low (luck_of given) s n r f
  step_low actor.World (event.Lose k) given r spelled f = some_low (lose_wired w k (wired w.wire k)) r f (lose_low k (wired w.wire k))
  step_low actor.World (event.Tick n) given r spelled f = some_low (told (record w { moment = w.moment + n }) (answer.Moment (w.moment + n))) r f (with_moment (w.moment + n))
  step_low actor.World (event.Clock m) given r spelled f = clock_low m (nat_lt m w.moment) r f
  step_low actor.World (event.Timer x handle) given r spelled f = fire_low x (luck_of given) w.moment handle due_kind.Timer r f
  step_low actor.World (event.Lifetime x handle) given r spelled f = fire_low x (luck_of given) w.moment handle due_kind.Lifetime r f
  step_low actor.World (event.Fuse x calls) given r spelled f = some_low (told w answer.Done) r f later
  step_low actor.World (event.Crash x pick) given r spelled f = some_low (told (with_part w x (down_with (part w x) (part w x).doubt)) answer.Done) r f (crash_low x)
  step_low actor.World (event.Open x) given r spelled f = open_step_low x given r f
  step_low actor.World event.Serve given r spelled f = serve_low (sessions_open A w.a ++ sessions_open B w.b) r f
  step_low actor.World (event.Inject x bytes) given r spelled f = some_low (inject (luck_of given) w x bytes (spelled_on w.wire bytes)) r f (inject_low (luck_of given) x bytes (spelled_on w.wire bytes) refl)
  step_low actor.World (event.Dump x) given r spelled f =
      either_low (part w x).up (told w (answer.Dumped (dump (part w x).log))) (on_part w x (refused (part w x) (refusal.Down x))) r later (same_low x) f
  step_low who e given r spelled f = none_low r f

  next_low : (s : Step) (o : Option Stepped) → IsTrue (spells_low low s.event) → outcome w s ≡ o → WorldLow top (world_of w o)
  next_low s None spelled e = later
  next_low s (Some r) spelled e = step_low s.who s.event s.answer r spelled e

-- ---- histories

low_world_fresh : (top : ℕ) (w : World) → top ≤ 2 ^ 62 → WorldLow top w → IsFreshWorld w
low_world_fresh top w le h x k = low_fresh top (survivor (part w x) k) le
    (all_append (EntryLow top) (part w x).log (take k (part w x).doubt) (h.each x).log (all_take (EntryLow top) k (part w x).doubt (h.each x).doubt))

-- what is spelled is below the first bound, so it is below each later one
spelled_later : (low top : ℕ) → low ≤ top → (e : Event) → IsTrue (spells_low low e) → IsTrue (spells_low top e)
spelled_later low top le (event.Asked (request.BeginDialog a b c d (relation.Group g) f)) h = is_less (low_half g.0) top (let k : low_half g.0 < low = less_is (low_half g.0) low h in omega (arith, k, le))
spelled_later low top le e h = refl

pub stays_fresh : (bound top : ℕ) (w : World) (steps : List Step) → 1 ≤ top → bound ≤ top → top + 4 * length steps ≤ 2 ^ 62 → WorldLow top w → SpellsLow bound steps → StaysFresh w steps
stays_fresh bound top w [] some le short h spelled = tt
stays_fresh bound top w (s ∷ steps) some le short h spelled =
    let first : IsTrue (spells_low top s.event) = spelled_later bound top le s.event (both_left (spells_low bound s.event) (list_all (λ z. spells_low bound z.event) steps) spelled) in (
      low_world_fresh top w (omega (arith, short)) h,
      stays_fresh bound (top + 4) (next w s) steps (omega (arith, some)) (omega (arith, le)) (omega (arith, short)) (next_low top (top + 4) (omega arith) some w h s (outcome w s) first refl)
          (both_right (spells_low bound s.event) (list_all (λ z. spells_low bound z.event) steps) spelled),
    )

-- a first state whose ids are below the bound
pub first_low : (top : ℕ) (log_a log_b : List Entry) (end_a end_b : Option ℕ) → 1 ≤ top → LogLow top log_a → LogLow top log_b → WorldLow top (first_world log_a end_a log_b end_b)
first_low top log_a log_b end_a end_b some a b = record { each = each; wire = tt }
  where
    each : (x : Who) → PartLow top (part (first_world log_a end_a log_b end_b) x)
    each A = let c = low_counters top A log_a some a in record { log = a; doubt = tt; opens = tt; handles = c.0; txs = c.1 }
    each B = let c = low_counters top B log_b some b in record { log = b; doubt = tt; opens = tt; handles = c.0; txs = c.1 }

pub drawn_stay_fresh : (log_a log_b : List Entry) (end_a end_b : Option ℕ) (steps : List Step) → IsTrue (is_under (2 ^ 61) log_a) → IsTrue (is_under (2 ^ 61) log_b) → length steps ≤ 2 ^ 58 →
    SpellsLow (2 ^ 61) steps → StaysFresh (first_world log_a end_a log_b end_b) steps
drawn_stay_fresh log_a log_b end_a end_b steps a b short spelled =
    stays_fresh (2 ^ 61) (2 ^ 61) (first_world log_a end_a log_b end_b) steps (omega arith) (omega arith) (omega (arith, short))
    (first_low (2 ^ 61) log_a log_b end_a end_b (omega arith) (under_is_low (2 ^ 61) log_a a) (under_is_low (2 ^ 61) log_b b)) spelled
