-- A hand-over is a step, and leaves what the side still has to hand over as it was.
use Rattle.std.proofs.Common.{◌≡◌, ℕ, suc, zero, ◌+◌, ◌-◌, ◌<◌, ◌≤◌, Bool, true, false, List, [], ◌∷◌, ◌++◌, length, Option, Some, None, refl, sym, ap, subst, ◌∙◌, append-nil, add-one, arith, drop, get_or, inl, inr, ◌⊎◌}
use Rattle.std.specs.Prelude.{IsSome, slice_get, option_map, option_and_then, flat_map, filter, find, unwrap_or, if◌then◌else◌}
use Rattle.std.specs.List.{AllByRecursion}
use Rattle.std.specs.Option.{option_or}
use Rattle.std.proofs.lemmas.Grind.{flat_map-append}
use Rattle.std.proofs.lemmas.Option.{slice_get_cases}
use Rattle.sb_instance.specs.Handing.{HandsOver, pending_by}
use Rattle.sb_instance.specs.declared.handing.Pending.{Pending}
use Rattle.sb_laws.proofs.Grow.{all_weaker}
use Rattle.sb_laws.proofs.Linking.{all_flat_map, sides_made}
use Rattle.sb_log.specs.declared.entries.Entry.{Entry}
use Rattle.sb_log.specs.declared.entries.Entry.TheVariants.{Accepted}
use Rattle.sb_log.specs.declared.entries.NewSide.{NewSide}
use Rattle.sb_log.specs.declared.entries.Op.{Op}
use Rattle.sb_log.specs.declared.refusals.Refusal.{Refusal}
use Rattle.sb_log.specs.declared.steps.Answer.{Answer}
use Rattle.sb_log.specs.declared.identifiers.SideId.{SideId}
use Rattle.sb_log.specs.declared.identifiers.Who.{Who}
use Rattle.sb_log.specs.declared.identifiers.Who.TheVariants.{A}
use Rattle.sb_log.specs.declared.messages.Content.{Content}
use Rattle.sb_log.specs.declared.messages.Data.{Data}
use Rattle.sb_log.specs.declared.steps.Step.{Step}
use Rattle.sb_log.specs.declared.steps.Verdict.{Verdict}
use Rattle.sb_log.specs.declared.steps.Verdict.TheVariants as verdicts
use Rattle.sb_model.specs.Acceptance.{makes_side, receiver, verdict}
use Rattle.sb_model.specs.Catalog.{ddl_of, definitions}
use Rattle.sb_log.specs.declared.definitions.Ddl.{Ddl}
use Rattle.sb_model.specs.Catalog.{auto_route, route_def}
use Rattle.sb_model.specs.Frames.{destination, far_instance}
use Rattle.sb_model.specs.Groups.{far_service}
use Rattle.sb_model.specs.Matches.{best_by}
use Rattle.sb_model.specs.Routes.{route_fit, route_fits}
use Rattle.sb_model.specs.Histories.{Gives, world_of as world_after}
use Rattle.sb_model.specs.Instance.{Luck, Works, Fails, Part, append_to, written, luck_at, no_room, grown}
use Rattle.sb_model.specs.Messages.{accepted, content_of_send, end_of_op, final_content, first_of, numbered}
use Rattle.sb_model.specs.Sides.{Making, made_by, is_of, ops_of, ops_of_entry, partner, same_who, sides}
use Rattle.sb_model.specs.Statements.{draws}
use Rattle.sb_model.specs.Sides.{made}
use Rattle.sb_model.specs.Steps.{accept_data, data_entry, hand_over, handed, new_handle, on_part, to_hand_over, verdict_told}
use Rattle.sb_top.specs.Following.{handed_over}
use Rattle.sb_top.specs.Runs.{IsPending, IsPlain, IsStep, Keeps, world_of}
use Rattle.sb_top.proofs.Asking.{append_plain}

-- ---- what can be handed over

some_within : {X : Type 0} (xs : List X) (k : ℕ) → k < length xs → IsSome (slice_get xs k)
some_within xs k h = by_place (slice_get_cases xs k).1
  where
    by_place : ((x : _) × (k < length xs) × (slice_get xs k ≡ Some x) × (get_or xs k x ≡ x)) ⊎ ((length xs ≤ k) × (slice_get xs k ≡ None)) → IsSome (slice_get xs k)
    by_place (inl (x, inside, e, same)) = subst IsSome (sym e) refl
    by_place (inr (past, e)) = absurd (omega arith)

some_map : {X Y : Type 0} (f : X → Y) (o : Option X) → IsSome o → IsSome (option_map f o)
some_map f (Some x) h = refl
some_map f None h = cc

-- the message of this place can be handed over
pub can_hand : (p : Part) (s : SideId) (k : ℕ) (m : Making) → made p.log s ≡ Some m → same_who (destination p.who p.log m) p.who ≡ true
    → k < length (numbered p.log s) → IsSome (to_hand_over p s (suc k))
can_hand p s k m from here within =
    subst (λ o. IsSome (option_and_then (λ x. if same_who (destination p.who p.log x) p.who then option_map (handed p x (suc k)) (slice_get (numbered p.log s) k) else None) o)) (sym from)
    (subst (λ b. IsSome (if b then option_map (handed p m (suc k)) (slice_get (numbered p.log s) k) else None)) (sym here)
    (some_map (handed p m (suc k)) (slice_get (numbered p.log s) k) (some_within (numbered p.log s) k within)))

-- where a side's messages go, by the definitions of the log
abbrev route_by : List Ddl → Who → Making → Who
route_by ds who m =
    unwrap_or (option_and_then (λ r. r.to) (best_by route_fit (filter (route_fits (far_service m.side m.header) (far_instance m)) (auto_route ∷ flat_map route_def ds)))) who

-- a message of a pending side can be handed over
pub can_hand_pending : (p : Part) (x : Pending) (place : ℕ) → IsPending p x → place < x.numbered → IsSome (to_hand_over p x.side (place + 1))
can_hand_pending p x place is within =
    subst (λ n. IsSome (to_hand_over p x.side n)) (sym (add-one place))
    (can_hand p x.side place is.making is.from is.here (subst (λ n. place < n) is.numbered_is within))

-- what is pending at the start of a `:clean`
pub are_pending : (p : Part) → AllByRecursion (IsPending p) (flat_map (pending_by p) (sides p.log))
are_pending p = all_flat_map (λ m. made p.log m.side ≡ Some m) (IsPending p) (pending_by p) one (sides p.log) (sides_made p.log)
  where
    by_here : (m : Making) (b : Bool) → made p.log m.side ≡ Some m → same_who (destination p.who p.log m) p.who ≡ b
        → AllByRecursion (IsPending p) (if b then record { side = m.side; numbered = length (numbered p.log m.side); accepted = accepted p.log (partner m.side) } ∷ [] else [])
    by_here m true from here = (record { making = m; from = from; here = here; numbered_is = refl }, tt)
    by_here m false from here = tt

    one : (m : Making) → made p.log m.side ≡ Some m → AllByRecursion (IsPending p) (pending_by p m)
    one m from = by_here m (same_who (destination p.who p.log m) p.who) from refl

-- what is pending stays so
pub pending_kept : (p q : Part) (x : Pending) → Keeps p q → IsPending p x → IsPending q x
pending_kept p q x keeps is = record {
  making = is.making;
  from = keeps.made_is x.side is.making is.from;
  here = ap (λ w. same_who (destination w q.log is.making) w) keeps.who ∙ ap (λ ds. same_who (route_by ds p.who is.making) p.who) keeps.defined ∙ is.here;
  numbered_is = is.numbered_is ∙ sym (ap length (keeps.contents x.side));
}

-- ---- what stays

pub keeps_same : (p : Part) → Keeps p p
keeps_same p = record { who = refl; contents = λ s. refl; defined = refl; made_is = λ s m e. e }

pub keeps_both : (p q r : Part) → Keeps p q → Keeps q r → Keeps p r
keeps_both p q r first second = record {
  who = second.who ∙ first.who;
  contents = λ s. second.contents s ∙ first.contents s;
  defined = second.defined ∙ first.defined;
  made_is = λ s m e. second.made_is s m (first.made_is s m e);
}

ops-accepted : (log : List Entry) (t : SideId) (n : ℕ) (new_side : Option NewSide) (c : Content) → ops_of (log ++ Accepted t n new_side c ∷ []) ≡ ops_of log
ops-accepted log t n new_side c = flat_map-append ops_of_entry log (Accepted t n new_side c ∷ []) ∙ append-nil (ops_of log)

definitions-accepted : (log : List Entry) (t : SideId) (n : ℕ) (new_side : Option NewSide) (c : Content) → definitions (log ++ Accepted t n new_side c ∷ []) ≡ definitions log
definitions-accepted log t n new_side c = flat_map-append ddl_of log (Accepted t n new_side c ∷ []) ∙ append-nil (definitions log)

-- what a side numbered, by the operations of its log
abbrev numbered_in : List Op → SideId → List Content
numbered_in ops s = flat_map (content_of_send s) ops ++ first_of (flat_map final_content (flat_map (end_of_op s) ops))

first_kept : (o rest later : Option Making) (m : Making) → (rest ≡ Some m → later ≡ Some m) → option_or o rest ≡ Some m → option_or o later ≡ Some m
first_kept None rest later m kept e = kept e
first_kept (Some y) rest later m kept e = e

made_append : (log more : List Entry) (s : SideId) (m : Making) → made log s ≡ Some m → made (log ++ more) s ≡ Some m
made_append [] more s m e = cc
made_append (x ∷ log) more s m e = first_kept (find (is_of s) (made_by x)) (made log s) (made (log ++ more) s) m (made_append log more s m) e

keeps_accepted : (p q : Part) (t : SideId) (n : ℕ) (new_side : Option NewSide) (c : Content) → q.who ≡ p.who
    → q.log ≡ p.log ++ Accepted t n new_side c ∷ [] → Keeps p q
keeps_accepted p q t n new_side c who is = record {
  who = who;
  contents = λ s. ap (λ log. numbered log s) is ∙ ap (λ ops. numbered_in ops s) (ops-accepted p.log t n new_side c);
  defined = ap definitions is ∙ definitions-accepted p.log t n new_side c;
  made_is = λ s m e. ap (λ log. made log s) is ∙ made_append p.log (Accepted t n new_side c ∷ []) s m e;
}

-- ---- a hand-over

written_keeps : (luck : Luck) (p after : Part) (t : SideId) (n : ℕ) (new_side : Option NewSide) (c : Content) (told : Answer) → after.who ≡ p.who → after.log ≡ p.log
    → Keeps p (written luck p (Accepted t n new_side c ∷ []) told after).part
written_keeps Works p after t n new_side c told who log =
    keeps_accepted p (grown after (Accepted t n new_side c ∷ [])) t n new_side c who (ap (λ l. l ++ Accepted t n new_side c ∷ []) log)
written_keeps Fails p after t n new_side c told who log = record { who = refl; contents = λ s. refl; defined = refl; made_is = λ s m e. e }

append_keeps : (p after : Part) (t : SideId) (n : ℕ) (new_side : Option NewSide) (c : Content) (told : Answer) (room : Option Refusal) → after.who ≡ p.who → after.log ≡ p.log
    → Keeps p (append_to Works p (Accepted t n new_side c ∷ []) told after room).part
append_keeps p after t n new_side c told None who log = written_keeps (luck_at p.end Works) p after t n new_side c told who log
append_keeps p after t n new_side c told (Some r) who log = keeps_same p

made_entry : Part → Data → Option NewSide
made_entry p d = if makes_side p.log d then Some (record { handle = new_handle p 0; group = new_handle p 1; header = d.header }) else None

accept_keeps : (p : Part) (d : Data) (v : Verdict) → Keeps p (accept_data Works p p d v).part
unfolding made_entry
accept_keeps p d verdicts.New = append_keeps p (draws p 2) (receiver d) d.number (made_entry p d) d.content (verdict_told verdicts.New) (no_room p (data_entry p d ∷ [])) refl refl
accept_keeps p d verdicts.Next = append_keeps p p (receiver d) d.number (made_entry p d) d.content (verdict_told verdicts.Next) (no_room p (data_entry p d ∷ [])) refl refl
accept_keeps p d _ = keeps_same p

accept_plain : (p : Part) (d : Data) (v : Verdict) → IsPlain p → IsPlain (accept_data Works p p d v).part
accept_plain p d verdicts.New plain = append_plain p (data_entry p d ∷ []) _ _ plain (record { who = plain.who; up = plain.up; end = plain.end; closed = plain.closed })
accept_plain p d verdicts.Next plain = append_plain p (data_entry p d ∷ []) _ _ plain plain
accept_plain p d _ plain = plain

-- the hand-over is a step, and sides have as much to hand over as before
pub record IsHanded (p : Part) (s : SideId) (step : Step) (new : Part) : Type 0 where
  pub step_is : IsStep p step new
  pub keeps : Keeps p new

hand_by_data : (p : Part) (s : SideId) (n : ℕ) (v : Verdict) (new : Part) (o : Option Data) → to_hand_over p s n ≡ o → IsPlain p → HandsOver p o v new
    → IsHanded p s (handed_over s n (verdict_told v)) new
hand_by_data p s n v new None is plain h = absurd h
hand_by_data p s n v new (Some d) is plain h =
    let by_a : verdict A p.log d ≡ v = ap (λ x. verdict x p.log d) (sym plain.who) ∙ sym h.0 in
    let given : (accept_data Works p p d (verdict A p.log d)).answer ≡ verdict_told v = ap (λ x. (accept_data Works p p d x).answer) by_a ∙ h.1.answered in
    let left : new ≡ (accept_data Works p p d (verdict A p.log d)).part = sym (ap (λ x. (accept_data Works p p d x).part) by_a ∙ h.1.left) in
    let outcome_is : hand_over Works (world_of p) s n ≡ Some (on_part (world_of p) A (accept_data Works p p d (verdict A p.log d))) =
    ap (λ b. if b then option_map (λ x. on_part (world_of p) A (accept_data Works p p x (verdict A p.log x))) (to_hand_over p s n) else None) plain.up
    ∙ ap (λ x. option_map (λ y. on_part (world_of p) A (accept_data Works p p y (verdict A p.log y))) x) is in
    record {
      step_is = record {
        gives = subst (λ x. Gives x (handed_over s n (verdict_told v))) (sym outcome_is) given;
        state = ap world_of left ∙ ap (λ x. world_after (world_of p) x) (sym outcome_is);
        plain = subst IsPlain (sym left) (accept_plain p d (verdict A p.log d) plain);
        low = refl;
      };
      keeps = subst (Keeps p) (sym left) (accept_keeps p d (verdict A p.log d));
    }

pub handed_step : (p : Part) (s : SideId) (n : ℕ) (v : Verdict) (new : Part) → IsPlain p → HandsOver p (to_hand_over p s n) v new
    → IsHanded p s (handed_over s n (verdict_told v)) new
handed_step p s n v new plain h = hand_by_data p s n v new (to_hand_over p s n) refl plain h

-- what stands behind the next one
all_tail : {X : Type 0} (P : X → Type 0) (xs : List X) (i : ℕ) → AllByRecursion P (drop i xs) → AllByRecursion P (drop (suc i) xs)
all_tail P [] zero h = tt
all_tail P [] (suc i) h = tt
all_tail P (x ∷ xs) zero h = h.1
all_tail P (x ∷ xs) (suc i) h = all_tail P xs i h

-- so it stays for all behind the next one
pub pending_behind : (p q : Part) (xs : List Pending) (i : ℕ) → Keeps p q → AllByRecursion (IsPending p) (drop i xs) → AllByRecursion (IsPending q) (drop (i + 1) xs)
pending_behind p q xs i keeps h =
    subst (λ n. AllByRecursion (IsPending q) (drop n xs)) (sym (add-one i))
    (all_weaker (IsPending p) (IsPending q) (λ x. pending_kept p q x keeps) (drop (suc i) xs) (all_tail (IsPending p) xs i h))
