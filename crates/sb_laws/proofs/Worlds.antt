-- Both instances and the wire: linked logs stay linked along every legal history.
use Rattle.std.proofs.Common.{◌≡◌, ℕ, zero, suc, Bool, true, false, List, [], ◌∷◌, ◌++◌, ◌+◌, ◌-◌, ◌^◌, ◌%◌, ◌≤◌, ◌<◌, Option, Some, None, Result, Ok, Err, refl, sym, ◌∙◌, ap, subst, length, arith, cond, inl, inr, append-nil, map, take, drop, max}
use Rattle.std.specs.Prelude.{flat_map, ◌⊎◌, IsTrue, ◌==◌, ◌&&◌, slice_get, fold, nat_lt, nat_le}
use Rattle.std.specs.List.{list_all, AllByRecursion}
use Rattle.std.proofs.lemmas.Option.{same_Some}
use Rattle.std.proofs.lemmas.Bool.Decides.{nat_tests}
use Rattle.sb_log.specs.declared.identifiers.Handle.{Handle}
use Rattle.sb_log.specs.declared.identifiers.Who.{Who}
use Rattle.sb_log.specs.declared.identifiers.Who.TheVariants.{A, B}
use Rattle.sb_log.specs.declared.entries.Entry.{Entry}
use Rattle.sb_log.specs.declared.messages.Frame.{Frame}
use Rattle.sb_log.specs.declared.refusals.Refusal.TheVariants as refusal
use Rattle.sb_log.specs.declared.steps.Answer.TheVariants as answer
use Rattle.sb_log.specs.declared.steps.Arrived.TheVariants as arrived
use Rattle.sb_log.specs.declared.steps.Barred.TheVariants as barred
use Rattle.sb_model.specs.Sides.{Bytes, same_name, other, is_home, tag_of, tag}
use Rattle.sb_model.specs.Sides.{Making, makings}
use Rattle.sb_model.specs.Frames.{Sent, frames_due}
use Rattle.sb_model.specs.Spelling.{frame_bytes}
use Rattle.sb_model.specs.FrameReading.{decode_frame}
use Rattle.sb_model.specs.Instance.{Part, Luck, opened, down_with, end_of, refused, ids, low_half, own_low, next_handle_of, next_tx_of, tx_of}
use Rattle.sb_model.specs.Logs.{is_fresh}
use Rattle.sb_model.specs.Wire.{lines_from, Wired, wired, no_longer_waits, spelled_on, put, wire_size, sent_size}
use Rattle.sb_model.specs.Steps.{World, Stepped, part, with_part, on_part, told, deliver_wired, inject, inject_other, pump, pumped, open_with, arrive}
use Rattle.sb_model.specs.Links.{Logs, Linked, IsWired, both}
use Rattle.sb_laws.specs.Worlds.{HasRoom, IsRoomy, survivor}
use Rattle.sb_laws.proofs.Linking.{linked_pump}
use Rattle.sb_laws.proofs.Delivered.{all_home, IsHomeMaking}
use Rattle.sb_laws.proofs.Plans.{low_is}
use Rattle.sb_laws.proofs.PlanCases.{all_found}
use Rattle.sb_laws.proofs.Opens.{LogOk, IsCounted}
use Rattle.sb_laws.proofs.Parts.{few_same, PartOk}
use Rattle.sb_laws.proofs.Steps.{Steps, stays}
use Rattle.sb_laws.proofs.Deliveries.{pairing, Fits, fits_to, Goes, steps_go, arrive_moved}

clash : {P : Type 0} → true ≡ false → P
clash e = cc

-- the invariant: each instance is right, and whatever survives of both is linked
pub record WorldOk (w : World) : Type 0 where
  pub each : (x : Who) → PartOk (part w x)
  pub who : (x : Who) → (part w x).who ≡ x
  pub linked : (j k : ℕ) → Linked (both (survivor w.a j) (survivor w.b k)) w.wire

linked_at : (w : World) → WorldOk w → (x : Who) (j k : ℕ) → Linked (pairing x (survivor (part w x) j) (survivor (part w (other x)) k)) w.wire
linked_at w h A j k = h.linked j k
linked_at w h B j k = h.linked k j

linked_from : (w : World) (x : Who) → ((j k : ℕ) → Linked (pairing x (survivor (part w x) j) (survivor (part w (other x)) k)) w.wire) → (j k : ℕ) → Linked (both (survivor w.a j) (survivor w.b k)) w.wire
linked_from w A f j k = f j k
linked_from w B f j k = f k j

-- the counters of both are at most this
abbrev pub AreBelow : ℕ → World → Type 0
AreBelow top w = (x : Who) → ((part w x).next_handle ≤ top) × ((part w x).next_tx ≤ top)

-- a step keeps the invariant and raises the counters by few
pub record Keeps (w v : World) : Type 0 where
  pub ok : WorldOk v
  pub rise : (top : ℕ) → 2 ^ 62 ≤ top → AreBelow top w → AreBelow (top + 4) v

pub keeps_same : (w : World) → WorldOk w → Keeps w w
keeps_same w h = record { ok = h; rise = λ top a b x. let r = b x in (omega (arith, r.0), omega (arith, r.1)) }

pub keeps_parts : (w v : World) → WorldOk v → ((x : Who) → part v x ≡ part w x) → Keeps w v
keeps_parts w v h same = record {
  ok = h;
  rise = λ top a b x. let r = b x in subst (λ p. (p.next_handle ≤ top + 4) × (p.next_tx ≤ top + 4)) (sym (same x)) (omega (arith, r.0), omega (arith, r.1));
}

-- ---- one instance moves

-- of the moved instance
pairs_kept : (x : Who) (wire : List Wired) (p q : Part) (s : Part) → p.who ≡ x → PartOk p → Goes wire p q →
    ((j k : ℕ) → Linked (pairing x (survivor p j) (survivor s k)) wire) → (j k : ℕ) → Linked (pairing x (survivor q j) (survivor s k)) wire
pairs_kept x wire p q s is h g old j k = from (g.moved.reach j)
  where
    from : ((i : ℕ) × (p.log ++ take i p.doubt ≡ q.log ++ take j q.doubt)) ⊎ ((i : ℕ) × (p.log ++ take i g.entries ≡ q.log ++ take j q.doubt)) → Linked (pairing x (survivor q j) (survivor s k)) wire
    from (inl r) = subst (λ l. Linked (pairing x l (survivor s k)) wire) r.1 (old r.0 k)
    from (inr r) =
        let first : Linked (pairing x p.log (survivor s k)) wire = subst (λ l. Linked (pairing x l (survivor s k)) wire) (append-nil p.log) (old zero k) in
        let ok : LogOk x (p.log ++ take r.0 g.entries) = subst (λ y. LogOk y (p.log ++ take r.0 g.entries)) (g.moved.who ∙ is) (subst (LogOk q.who) (sym r.1) (g.moved.ok.logs j)) in
        subst (λ l. Linked (pairing x l (survivor s k)) wire) r.1
        (fits_to x wire p.log (take r.0 g.entries) (subst (λ y. Fits y wire p.log (take r.0 g.entries)) is (g.fits r.0)) (survivor s k) first ok)

pub moved_world : (w : World) (x : Who) (q : Part) → WorldOk w → Goes w.wire (part w x) q → Keeps w (with_part w x q)
moved_world w A q h g = record {
  ok = record {
    each = each;
    who = who;
    linked = pairs_kept A w.wire w.a q w.b (h.who A) (h.each A) g h.linked;
  };
  rise = rise;
}
  where
    rise : (top : ℕ) → 2 ^ 62 ≤ top → AreBelow top w → AreBelow (top + 4) (record w { a = q })
    rise top a b A = let r = b A in g.moved.few top a r.0 r.1
    rise top a b B = let r = b B in (omega (arith, r.0), omega (arith, r.1))

    each : (x : Who) → PartOk (part (record w { a = q }) x)
    each A = g.moved.ok
    each B = h.each B

    who : (x : Who) → (part (record w { a = q }) x).who ≡ x
    who A = g.moved.who ∙ h.who A
    who B = h.who B
moved_world w B q h g = record {
  ok = record {
    each = each;
    who = who;
    linked = λ j k. pairs_kept B w.wire w.b q w.a (h.who B) (h.each B) g (λ i l. h.linked l i) k j;
  };
  rise = rise;
}
  where
    rise : (top : ℕ) → 2 ^ 62 ≤ top → AreBelow top w → AreBelow (top + 4) (record w { b = q })
    rise top a b B = let r = b B in g.moved.few top a r.0 r.1
    rise top a b A = let r = b A in (omega (arith, r.0), omega (arith, r.1))

    each : (x : Who) → PartOk (part (record w { b = q }) x)
    each A = h.each A
    each B = g.moved.ok

    who : (x : Who) → (part (record w { b = q }) x).who ≡ x
    who A = h.who A
    who B = g.moved.who ∙ h.who B

pub steps_world : (w : World) (x : Who) (q : Part) → WorldOk w → Steps (part w x) q → Keeps w (with_part w x q)
steps_world w x q h s = moved_world w x q h (steps_go w.wire (part w x) q s)

pub same_world : (w : World) (x : Who) → WorldOk w → Keeps w (with_part w x (part w x))
same_world w x h = steps_world w x (part w x) h (stays (part w x) (h.each x))

-- ---- the wire and the moment

pub parts_of : (w : World) (wire : List Wired) (x : Who) → part (record w { wire = wire }) x ≡ part w x
parts_of w wire A = refl
parts_of w wire B = refl

wire_world : (w : World) (wire : List Wired) → WorldOk w → ((j k : ℕ) → Linked (both (survivor w.a j) (survivor w.b k)) wire) → WorldOk (record w { wire = wire })
wire_world w wire h l = record {
  each = λ x. subst PartOk (sym (parts_of w wire x)) (h.each x);
  who = λ x. subst (λ p. p.who ≡ x) (sym (parts_of w wire x)) (h.who x);
  linked = l;
}

pub moment_of : (w : World) (m : ℕ) (x : Who) → part (record w { moment = m }) x ≡ part w x
moment_of w m A = refl
moment_of w m B = refl

pub moment_world : (w : World) (m : ℕ) → WorldOk w → WorldOk (record w { moment = m })
moment_world w m h = record {
  each = λ x. subst PartOk (sym (moment_of w m x)) (h.each x);
  who = λ x. subst (λ p. p.who ≡ x) (sym (moment_of w m x)) (h.who x);
  linked = h.linked;
}

waits_wired : (logs : Logs) (k : ℕ) (wire : List Wired) → AllByRecursion (IsWired logs) wire → AllByRecursion (IsWired logs) (no_longer_waits k wire)
waits_wired logs zero wire h = h
waits_wired logs (suc k) [] h = tt
waits_wired logs (suc zero) (f ∷ wire) h = (h.0, h.1)
waits_wired logs (suc (suc k)) (f ∷ wire) h = (h.0, waits_wired logs (suc k) wire h.1)

linked_wire : (logs : Logs) (wire new : List Wired) → Linked logs wire → AllByRecursion (IsWired logs) new → Linked logs new
linked_wire logs wire new h f = record {
  sound = h.sound;
  begun = h.begun;
  frames = f;
  accepted_from = h.accepted_from;
  acked_from = h.acked_from;
  taken_in_order = h.taken_in_order;
}

pub no_wait_world : (w : World) (k : ℕ) → WorldOk w → WorldOk (record w { wire = no_longer_waits k w.wire })
no_wait_world w k h = wire_world w (no_longer_waits k w.wire) h
    (λ i j. linked_wire (both (survivor w.a i) (survivor w.b j)) w.wire (no_longer_waits k w.wire) (h.linked i j) (waits_wired (both (survivor w.a i) (survivor w.b j)) k w.wire (h.linked i j).frames))

-- ---- deliveries

all_at : {X : Type 0} (P : X → Type 0) (xs : List X) (k : ℕ) (x : X) → AllByRecursion P xs → slice_get xs k ≡ Some x → P x
all_at P [] k x h e = cc
all_at P (y ∷ ys) zero x h e = subst P (same_Some y x e) h.0
all_at P (y ∷ ys) (suc k) x h e = all_at P ys k x h.1 e

-- a frame that is on the wire arrives
arrived_world : (w : World) (y : Who) (luck : Luck) (f : Wired) → WorldOk w → HasRoom (part w y) → ((logs : Logs) → Linked logs w.wire → IsWired logs f) →
    Keeps w (with_part w y (arrive luck (part w y) f.frame).part)
arrived_world w y luck f h room is = moved_world w y (arrive luck (part w y) f.frame).part h
    (arrive_moved w.wire (part w y) (h.each y) room f.from luck f.frame (λ b l. is (pairing (part w y).who (part w y).log b) l))

some_stepped : (x r : Stepped) → Some x ≡ Some r → x ≡ r
some_stepped x r e = same_Some x r e

pub deliver_world : (w : World) (luck : Luck) (k : ℕ) (o : Option Wired) → WorldOk w → ((x : Who) → HasRoom (part w x)) → wired w.wire k ≡ o → Keeps w (deliver_wired luck w k o).world
deliver_world w luck k None h room e = keeps_same w h
deliver_world w luck zero (Some f) h room e = cc
deliver_world w luck (suc k) (Some f) h room e =
    let v : World = record w { wire = no_longer_waits (suc k) w.wire } in
    let same : part v f.to ≡ part w f.to = parts_of w (no_longer_waits (suc k) w.wire) f.to in
    let wait : World = record w { wire = no_longer_waits (suc k) w.wire } in
    subst (λ p. Keeps w (with_part (record w { wire = no_longer_waits (suc k) w.wire }) f.to (arrive luck p f.frame).part)) same
    (from_parts (arrived_world (record w { wire = no_longer_waits (suc k) w.wire }) f.to luck f (no_wait_world w (suc k) h) (subst HasRoom (sym same) (room f.to))
    (λ logs l. still logs k w.wire l.frames e)))
  where
    from_parts : {u : World} → Keeps (record w { wire = no_longer_waits (suc k) w.wire }) u → Keeps w u
    from_parts s = record {
      ok = s.ok;
      rise = λ top a b. s.rise top a (λ x. subst (λ p. (p.next_handle ≤ top) × (p.next_tx ≤ top)) (sym (parts_of w (no_longer_waits (suc k) w.wire) x)) (b x));
    }

    still : (logs : Logs) (n : ℕ) (wire : List Wired) → AllByRecursion (IsWired logs) (no_longer_waits (suc n) wire) → slice_get wire n ≡ Some f → IsWired logs f
    still logs n [] all g = cc
    still logs zero (g ∷ wire) all i = subst (IsWired logs) (same_Some g f i) all.0
    still logs (suc n) (g ∷ wire) all i = still logs n wire all.1 i

inject_other_world : (w : World) (x : Who) (r : Result Frame ℕ) → WorldOk w → Keeps w (inject_other w x r).world
inject_other_world w x (Ok f) h = keeps_same w h
inject_other_world w x (Err at) h = by_test (part w x).up
  where
    by_test : (c : Bool) → Keeps w (let s : Stepped = cond c (told w (answer.Arrived (arrived.BadFrame at))) (on_part w x (refused (part w x) (refusal.Down x))) in s.world)
    by_test true = keeps_same w h
    by_test false = same_world w x h

pub inject_world : (w : World) (luck : Luck) (x : Who) (bytes : Bytes) (o : Option Wired) → WorldOk w → ((x : Who) → HasRoom (part w x)) → spelled_on w.wire bytes ≡ o → Keeps w (inject luck w x bytes o).world
inject_world w luck x bytes None h room e = inject_other_world w x (decode_frame bytes) h
inject_world w luck x bytes (Some g) h room e = arrived_world w x luck g h (room x) (λ logs l. all_found (IsWired logs) (λ f. same_name (frame_bytes f.frame) bytes) w.wire g l.frames e)

-- ---- a pump

-- while an instance is up only its log survives
up_survivor : (p : Part) → PartOk p → p.up ≡ true → (k : ℕ) → survivor p k ≡ p.log
up_survivor p h up k = ap (λ d. p.log ++ take k d) (h.quiet up) ∙ ap (λ l. p.log ++ l) (nothing k) ∙ append-nil p.log
  where
    nothing : (j : ℕ) → take j (let l : List Entry = [] in l) ≡ []
    nothing zero = refl
    nothing (suc j) = refl

pair_own : (x : Who) (a b : List Entry) → pairing x a b x ≡ a
pair_own A a b = refl
pair_own B a b = refl

pump_linked : (w : World) (x : Who) → WorldOk w → (part w x).up ≡ true → (j k : ℕ) →
    Linked (pairing x (survivor (part w x) j) (survivor (part w (other x)) k)) (w.wire ++ map (put x) (frames_due x (part w x).log (part w x).owed))
pump_linked w x h up j k =
    let logs : Logs = pairing x (survivor (part w x) j) (survivor (part w (other x)) k) in
    let own : pairing x (survivor (part w x) j) (survivor (part w (other x)) k) x ≡ (part w x).log = pair_own x (survivor (part w x) j) (survivor (part w (other x)) k) ∙ up_survivor (part w x) (h.each x) up j in
    subst (λ l. Linked (pairing x (survivor (part w x) j) (survivor (part w (other x)) k)) (w.wire ++ map (put x) (frames_due x l (part w x).owed))) own
    (linked_pump (pairing x (survivor (part w x) j) (survivor (part w (other x)) k)) x w.wire (part w x).owed (linked_at w h x j k))

pumped_part : (p : Part) → PartOk p → PartOk (record p { owed = [] })
pumped_part p h = record { quiet = h.quiet; down = h.down; logs = h.logs; live = h.live }

pub pump_world : (w : World) (x : Who) → WorldOk w → Keeps w (pump w x).world
pump_world w x h = by_up (part w x).up refl
  where
    sent : List Sent
    sent = frames_due x (part w x).log (part w x).owed

    with_owed : (y : Who) → ((j k : ℕ) → Linked (pairing y (survivor (part w y) j) (survivor (part w (other y)) k)) (w.wire ++ map (put x) (frames_due x (part w x).log (part w x).owed))) →
        Keeps w (record (with_part w y (record (part w y) { owed = [] })) { wire = w.wire ++ map (put x) (frames_due x (part w x).log (part w x).owed) })
    with_owed A l = record { ok = record { each = each; who = who; linked = l }; rise = rise }
      where
        rise : (top : ℕ) → 2 ^ 62 ≤ top → AreBelow top w → AreBelow (top + 4) (record w { a = record w.a { owed = [] }; wire = w.wire ++ map (put x) (frames_due x (part w x).log (part w x).owed) })
        rise top a b A = let r = b A in (omega (arith, r.0), omega (arith, r.1))
        rise top a b B = let r = b B in (omega (arith, r.0), omega (arith, r.1))

        each : (z : Who) → PartOk (part (record w { a = record w.a { owed = [] }; wire = w.wire ++ map (put x) (frames_due x (part w x).log (part w x).owed) }) z)
        each A = pumped_part w.a (h.each A)
        each B = h.each B

        who : (z : Who) → (part (record w { a = record w.a { owed = [] }; wire = w.wire ++ map (put x) (frames_due x (part w x).log (part w x).owed) }) z).who ≡ z
        who A = h.who A
        who B = h.who B
    with_owed B l = record { ok = record { each = each; who = who; linked = λ j k. l k j }; rise = rise }
      where
        rise : (top : ℕ) → 2 ^ 62 ≤ top → AreBelow top w → AreBelow (top + 4) (record w { b = record w.b { owed = [] }; wire = w.wire ++ map (put x) (frames_due x (part w x).log (part w x).owed) })
        rise top a b A = let r = b A in (omega (arith, r.0), omega (arith, r.1))
        rise top a b B = let r = b B in (omega (arith, r.0), omega (arith, r.1))

        each : (z : Who) → PartOk (part (record w { b = record w.b { owed = [] }; wire = w.wire ++ map (put x) (frames_due x (part w x).log (part w x).owed) }) z)
        each A = h.each A
        each B = pumped_part w.b (h.each B)

        who : (z : Who) → (part (record w { b = record w.b { owed = [] }; wire = w.wire ++ map (put x) (frames_due x (part w x).log (part w x).owed) }) z).who ≡ z
        who A = h.who A
        who B = h.who B

    by_room : (c : Bool) → (part w x).up ≡ true → Keeps w (let s : Stepped = cond c (told w (answer.Barred (barred.WireFull (wire_size w.wire + sent_size (frames_due x (part w x).log (part w x).owed)))))
        (record {
          answer = answer.Pumped (lines_from (length w.wire + 1) (frames_due x (part w x).log (part w x).owed));
          on = x;
          added = [];
          world = record (with_part w x (record (part w x) { owed = [] })) { wire = w.wire ++ map (put x) (frames_due x (part w x).log (part w x).owed) };
        }) in s.world)
    by_room true up = keeps_same w h
    by_room false up = with_owed x (pump_linked w x h up)

    by_up : (c : Bool) → (part w x).up ≡ c → Keeps w (let s : Stepped = cond c (pumped w x (frames_due x (part w x).log (part w x).owed)) (on_part w x (refused (part w x) (refusal.Down x))) in s.world)
    by_up true up = by_room (nat_lt 268435456 (wire_size w.wire + sent_size (frames_due x (part w x).log (part w x).owed))) up
    by_up false up = same_world w x h

-- ---- crash and opening

pub crash_steps : (p : Part) → PartOk p → Steps p (down_with p p.doubt)
crash_steps p h = record {
  entries = [];
  own = tt;
  moved = record {
    who = refl;
    ok = record { quiet = λ e. clash (sym e); down = λ e. refl; logs = h.logs; live = λ e. clash (sym e) };
    few = few_same 4 p.next_handle p.next_tx;
    reach = λ k. inl (k, refl);
  };
}

max_left : (a b : ℕ) → a ≤ max a b
max_left a b = omega arith

fold_above : (a : ℕ) (ns : List ℕ) → a ≤ fold max a ns
fold_above a [] = omega arith
fold_above a (n ∷ ns) = let r : max a n ≤ fold max (max a n) ns = fold_above (max a n) ns in omega (arith, r)

pub fold_below : (top a : ℕ) (ns : List ℕ) → a < top → AllByRecursion (λ n. n < top) ns → fold max a ns < top
fold_below top a [] lt h = lt
fold_below top a (n ∷ ns) lt h = fold_below top (max a n) ns (let q = h.0 in omega (arith, lt, q)) h.1

module _ (x : Who) (log : List Entry) (ok : LogOk x log) (fresh : IsTrue (is_fresh log)) where
  and_left : (a b : Bool) → (a && b) ≡ true → a ≡ true
  and_left true b e = refl
  and_left false b e = e

  and_right : (a b : Bool) → (a && b) ≡ true → b ≡ true
  and_right true b e = e
  and_right false b e = cc

  low_below : (hs : List Handle) → list_all (λ i. nat_lt (low_half i.0) (2 ^ 62)) hs ≡ true → AllByRecursion (λ n. n < 2 ^ 62) (map (own_low x) hs)
  low_below [] e = tt
  low_below (g ∷ hs) e = (
    by_test (tag_of g == tag x) (below (low_half g.0) (and_left (nat_lt (low_half g.0) (2 ^ 62)) (list_all (λ i. nat_lt (low_half i.0) (2 ^ 62)) hs) e)),
    low_below hs (and_right (nat_lt (low_half g.0) (2 ^ 62)) (list_all (λ i. nat_lt (low_half i.0) (2 ^ 62)) hs) e),
  )
    where
      below : (n : ℕ) → nat_lt n (2 ^ 62) ≡ true → n < 2 ^ 62
      below n f = grind (arith, nat_tests)

      by_test : (c : Bool) → low_half g.0 < 2 ^ 62 → cond c (low_half g.0) 0 < 2 ^ 62
      by_test true lt = lt
      by_test false lt = omega arith

  greatest : ℕ
  greatest = fold max 0 (map (own_low x) (ids log))

  -- each element is at most the greatest
  all_most : (a : ℕ) (ns : List ℕ) → AllByRecursion (λ n. n ≤ fold max a ns) ns
  all_most a [] = tt
  all_most a (n ∷ ns) = (let r : max a n ≤ fold max (max a n) ns = fold_above (max a n) ns in omega (arith, r), all_most (max a n) ns)

  making_low : (ms : List Making) (more : List Handle) (top : ℕ) → AllByRecursion (λ n. n ≤ top) (map (own_low x) (flat_map (λ m. m.side.conversation ∷ m.handle ∷ m.group ∷ []) ms ++ more)) →
      AllByRecursion (IsHomeMaking x) ms → AllByRecursion (IsCounted x (top + 1)) ms
  making_low [] more top h home = tt
  making_low (m ∷ ms) more top h home = (
    ((λ e. count m.side.conversation (home.0 e) h.0), (λ e. count m.handle e h.1.0)),
    making_low ms more top h.1.1.1 home.1,
  )
    where
      count : (g : Handle) → IsTrue (is_home x g) → own_low x g ≤ top → low_half g.0 < top + 1
      count g e le = let q : low_half g.0 ≤ top = rw e at le in omega (arith, q)

  greatest_below : fold max 0 (map (own_low x) (ids log)) < 2 ^ 62
  greatest_below = fold_below (2 ^ 62) 0 (map (own_low x) (ids log)) (omega arith) (low_below (ids log) (and_left (list_all (λ i. nat_lt (low_half i.0) (2 ^ 62)) (ids log)) _ fresh))

  txs_below : (ns : List ℕ) → list_all (λ tx. nat_lt tx (2 ^ 62)) ns ≡ true → AllByRecursion (λ n. n < 2 ^ 62) ns
  txs_below [] e = tt
  txs_below (k ∷ ns) e = (below k (and_left (nat_lt k (2 ^ 62)) (list_all (λ tx. nat_lt tx (2 ^ 62)) ns) e), txs_below ns (and_right (nat_lt k (2 ^ 62)) (list_all (λ tx. nat_lt tx (2 ^ 62)) ns) e))
    where
      below : (n : ℕ) → nat_lt n (2 ^ 62) ≡ true → n < 2 ^ 62
      below n f = grind (arith, nat_tests)

  pub opened_low : (next_handle_of x log ≤ 2 ^ 62) × (next_tx_of log ≤ 2 ^ 62)
  opened_low =
      let low : fold max 0 (flat_map tx_of log) < 2 ^ 62 =
      fold_below (2 ^ 62) 0 (flat_map tx_of log) (omega arith) (txs_below (flat_map tx_of log) (and_right (list_all (λ i. nat_lt (low_half i.0) (2 ^ 62)) (ids log)) (list_all (λ tx. nat_lt tx (2 ^ 62)) (flat_map tx_of log)) fresh)) in
      (least (fold max 0 (map (own_low x) (ids log))) greatest_below, least (fold max 0 (flat_map tx_of log)) low)
    where
      least : (k : ℕ) → k < 2 ^ 62 → (k + 1) % 2 ^ 64 ≤ 2 ^ 62
      least k lt = let e : (k + 1) % 2 ^ 64 ≡ k + 1 = low_is (k + 1) (omega (arith, lt)) in omega (arith, e, lt)

  opened_counted : AllByRecursion (IsCounted x (next_handle_of x log)) (makings log)
  opened_counted =
      let below : fold max 0 (map (own_low x) (ids log)) < 2 ^ 62 =
      fold_below (2 ^ 62) 0 (map (own_low x) (ids log)) (omega arith) (low_below (ids log) (and_left (list_all (λ i. nat_lt (low_half i.0) (2 ^ 62)) (ids log)) _ fresh)) in
      let next : next_handle_of x log ≡ fold max 0 (map (own_low x) (ids log)) + 1 = low_is (fold max 0 (map (own_low x) (ids log)) + 1) (omega (arith, below)) in
      subst (λ n. AllByRecursion (IsCounted x n) (makings log)) (sym next)
      (making_low (makings log) _ (fold max 0 (map (own_low x) (ids log))) (all_most 0 (map (own_low x) (ids log))) (all_home x log ok.sound.own_tags ok.sound.targets))

  pub opened_ok : (end : Option ℕ) → PartOk (opened x log end)
  opened_ok end = record {
    quiet = λ e. refl;
    down = λ e. refl;
    logs = λ k. subst (LogOk x) (sym (append-nil log) ∙ ap (λ l. log ++ l) (sym (nothing k))) ok;
    live = λ e. record { each = tt; pairs = tt; counted = opened_counted };
  }
    where
      nothing : (j : ℕ) → take j (let l : List Entry = [] in l) ≡ []
      nothing zero = refl
      nothing (suc j) = refl

-- the first entries of a log and its doubt, where all of the log is among them
take_within : {X : Type 0} (xs ys : List X) (n : ℕ) → length xs ≤ n → take n (xs ++ ys) ≡ xs ++ take (n - length xs) ys
take_within [] ys n le = ap (λ k. take k ys) (same n)
  where
    same : (k : ℕ) → k ≡ k - 0
    same k = omega arith
take_within (x ∷ xs) ys zero le = absurd (omega (arith, le))
take_within (x ∷ xs) ys (suc n) le = ap (λ l. x ∷ l) (take_within xs ys n (omega (arith, le)) ∙ ap (λ k. xs ++ take k ys) (same n (length xs)))
  where
    same : (j k : ℕ) → j - k ≡ suc j - suc k
    same j k = omega arith

open_steps : (p : Part) (x : Who) (n : ℕ) → PartOk p → p.who ≡ x → ((k : ℕ) → IsTrue (is_fresh (survivor p k))) → length p.log ≤ n →
    Steps p (opened x (take n (p.log ++ p.doubt)) (Some (end_of (take n (p.log ++ p.doubt)))))
open_steps p x n h is fresh le =
    let k : ℕ = n - length p.log in
    let same : take n (p.log ++ p.doubt) ≡ survivor p (n - length p.log) = take_within p.log p.doubt n le in
    let opened_log : LogOk x (take n (p.log ++ p.doubt)) = subst (LogOk x) (sym same) (subst (λ y. LogOk y (survivor p (n - length p.log))) is (h.logs (n - length p.log))) in
    let opened_fresh : IsTrue (is_fresh (take n (p.log ++ p.doubt))) = subst (λ l. IsTrue (is_fresh l)) (sym same) (fresh (n - length p.log)) in
    record {
      entries = [];
      own = tt;
      moved = record {
        who = sym is;
        few = λ top a b c. let r = opened_low x (take n (p.log ++ p.doubt)) (opened_log) (opened_fresh) in (omega (arith, r.0, a), omega (arith, r.1, a));
        ok = opened_ok x (take n (p.log ++ p.doubt)) (subst (LogOk x) (sym same) (subst (λ y. LogOk y (survivor p (n - length p.log))) is (h.logs (n - length p.log))))
            (subst (λ l. IsTrue (is_fresh l)) (sym same) (fresh (n - length p.log))) (Some (end_of (take n (p.log ++ p.doubt))));
        reach = λ j. inl (n - length p.log, sym same ∙ sym (append-nil (take n (p.log ++ p.doubt))) ∙ ap (λ l. take n (p.log ++ p.doubt) ++ l) (sym (nothing j)));
      };
    }
  where
    nothing : (j : ℕ) → take j (let l : List Entry = [] in l) ≡ []
    nothing zero = refl
    nothing (suc j) = refl

none_is : {P : Type 0} (r : Stepped) → None ≡ Some r → P
none_is r e = cc

pub open_world : (w : World) (x : Who) (n : ℕ) (r : Stepped) → WorldOk w → IsRoomy w → open_with w x n ≡ Some r → Keeps w r.world
open_world w x n r h roomy e = by_test (nat_le (length (part w x).log) n) refl e
  where
    le : nat_le (length (part w x).log) n ≡ true → length (part w x).log ≤ n
    le f = grind (arith, nat_tests)

    made : length (part w x).log ≤ n → Keeps w (with_part w x (opened x (take n ((part w x).log ++ (part w x).doubt)) (Some (end_of (take n ((part w x).log ++ (part w x).doubt))))))
    made l = steps_world w x _ h (open_steps (part w x) x n (h.each x) (h.who x) (roomy.fresh x) l)

    by_other : (d : Bool) → length (part w x).log ≤ n → cond d (Some (record {
      answer = answer.Entries n;
      on = x;
      added = drop (length (part w x).log) (take n ((part w x).log ++ (part w x).doubt));
      world = with_part w x (opened x (take n ((part w x).log ++ (part w x).doubt)) (Some (end_of (take n ((part w x).log ++ (part w x).doubt)))));
    })) None ≡ Some r → Keeps w r.world
    by_other true l f = subst (λ s. Keeps w s.world) (some_stepped _ r f) (made l)
    by_other false l f = none_is r f

    by_test : (c : Bool) → nat_le (length (part w x).log) n ≡ c → cond (c && nat_le n (length ((part w x).log ++ (part w x).doubt))) (Some (record {
      answer = answer.Entries n;
      on = x;
      added = drop (length (part w x).log) (take n ((part w x).log ++ (part w x).doubt));
      world = with_part w x (opened x (take n ((part w x).log ++ (part w x).doubt)) (Some (end_of (take n ((part w x).log ++ (part w x).doubt)))));
    })) None ≡ Some r → Keeps w r.world
    by_test true g f = by_other (nat_le n (length ((part w x).log ++ (part w x).doubt))) (le g) f
    by_test false g f = none_is r f
