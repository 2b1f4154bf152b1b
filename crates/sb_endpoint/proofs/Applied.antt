-- Changes that are taken up one after the other.
use Rattle.std.proofs.Common.{◌≡◌, ◌≤◌, Bool, true, false, refl, ap, sym, ◌∙◌, List, [], ◌∷◌, ◌++◌, length, arith, length-append}
use Rattle.std.specs.Prelude.{not, ◌||◌, if◌then◌else◌, is_some, Option, Some, None, flat_map, fold}
use Rattle.std.specs.List.{list_any}
use Rattle.std.specs.Option.{option_or}
use Rattle.std.proofs.lemmas.Grind.{fold-append}
use Rattle.std.proofs.lemmas.List.Folds.{list_any-append}
use Rattle.sb_log.specs.declared.identifiers.SideId.{SideId}
use Rattle.sb_log.specs.declared.entries.Entry.{Entry}
use Rattle.sb_log.specs.declared.entries.Entry.TheVariants.{Defined, Txn, Accepted, Acked, Fired, Expired, QueueSet}
use Rattle.sb_log.specs.declared.entries.Op.{Op}
use Rattle.sb_log.specs.declared.entries.Op.TheVariants.{Begin, Send, Took, End, Cleanup, Move, Timer, Put, Delete}
use Rattle.sb_model.specs.Sides.{Making, has_side, is_of, made_by, made_by_op, same_side, side_of}
use Rattle.sb_model.specs.Messages.{final_content}
use Rattle.sb_model.specs.States.{is_empty}
use Rattle.sb_endpoint.specs.declared.change.Change.TheVariants as change
use Rattle.sb_endpoint.specs.declared.endpoint.Endpoint.{Endpoint}
use Rattle.sb_endpoint.specs.declared.endpoint.Made.{Made}
use Rattle.sb_endpoint.specs.Changes.{Told, begun, changed, changes_of, changes_of_op, endpoint_after, endpoint_told, told_of_content}
use Rattle.sb_endpoint.specs.Endpoints.{endpoint_of}
use Rattle.sb_endpoint.specs.Handles.{side_after}
use Rattle.sb_endpoint.specs.Headers.{header_after}
use Rattle.sb_endpoint.specs.Seen.{Applies, AreOf, IsReady, SidesAndHandles, Takes, endpoint_in, header_in, is_made_in, side_in}
use Rattle.sb_endpoint.specs.States.{is_made}
use Rattle.sb_endpoint.proofs.Growth.{endpoint-more}
use Rattle.sb_endpoint.proofs.Headed.{header-more, header_taken}
use Rattle.sb_endpoint.proofs.Judged.{made_by_facts}
use Rattle.sb_endpoint.proofs.Naming.{or_turned, side-more, side_after-append, side_after-same}
use Rattle.sb_endpoint.proofs.Saying.{entry_said}

-- these changes make the sides that these makings do
abbrev pub MakeAlike : List Told → List Making → Type 0
MakeAlike cs ms = (s : SideId) (e : Endpoint) → is_made (fold (endpoint_told s) e cs) ≡ (list_any (is_of s) ms || is_made e)

made_once : (b : Bool) (made : Made) (e : Endpoint) → is_made (if b then record e { made = option_or e.made (Some made) } else e) ≡ ((b || false) || is_made e)
made_once false made e = refl
made_once true made e = by e.made
  where
    by : (o : Option Made) → is_some (option_or o (Some made)) ≡ true
    by None = refl
    by (Some m) = refl

unmade : (b : Bool) (f e : Endpoint) → is_made f ≡ is_made e → is_made (if b then f else e) ≡ is_made e
unmade true f e h = h
unmade false f e h = refl

pub op_makes_alike : (op : Op) → MakeAlike (changes_of_op op) (made_by_op op)
op_makes_alike (Begin handle group header) s e = made_once (same_side (begun handle) s) (record { handle = handle; group = group }) e
op_makes_alike (Send side kind body) s e = unmade (same_side side s) (changed change.Sent e) e refl
op_makes_alike (Took queue item) s e = refl
op_makes_alike (End side last) s e = unmade (same_side side s) (changed (change.Ended (not (is_empty (final_content last)))) e) e refl
op_makes_alike (Cleanup side) s e = unmade (same_side side s) (changed change.Cleaned e) e refl
op_makes_alike (Move side group) s e = unmade (same_side side s) (changed (change.Moved group) e) e refl
op_makes_alike (Timer side at) s e = refl
op_makes_alike (Put table key n body) s e = refl
op_makes_alike (Delete table key) s e = refl

ops_make_alike : (ops : List Op) → MakeAlike (flat_map changes_of_op ops) (flat_map made_by_op ops)
ops_make_alike [] s e = refl
ops_make_alike (op ∷ ops) s e =
    ap is_made (fold-append (endpoint_told s) e (changes_of_op op) (flat_map changes_of_op ops))
    ∙ ops_make_alike ops s (fold (endpoint_told s) e (changes_of_op op))
    ∙ ap (λ b. list_any (is_of s) (flat_map made_by_op ops) || b) (op_makes_alike op s e)
    ∙ or_turned (list_any (is_of s) (made_by_op op)) (list_any (is_of s) (flat_map made_by_op ops)) (is_made e)
    ∙ ap (λ b. b || is_made e) (sym (list_any-append (is_of s) (made_by_op op) (flat_map made_by_op ops)))

pub entry_makes_alike : (e : Entry) → MakeAlike (changes_of e) (made_by e)
entry_makes_alike (Defined ddl) s e = refl
entry_makes_alike (Txn tx ops) s e = ops_make_alike ops s e
entry_makes_alike (Accepted side number None content) s e = unmade (same_side side s) (changed (told_of_content side content).change e) e refl
entry_makes_alike (Accepted side number (Some new) content) s e =
    let made : Made = record { handle = new.handle; group = new.group } in
    let f : Endpoint = if same_side side s then record e { made = option_or e.made (Some made) } else e in
    unmade (same_side side s) (changed (told_of_content side content).change f) f refl ∙ made_once (same_side side s) made e
entry_makes_alike (Acked side upto closed) s e = unmade (same_side side s) (changed (change.Acked upto closed) e) e refl
entry_makes_alike (Fired side) s e = refl
entry_makes_alike (Expired side) s e = unmade (same_side side s) (changed change.Expired e) e refl
entry_makes_alike (QueueSet queue on) s e = refl

-- the headers after an entry, by what it makes of the sides
pub header_applied : (old new : SidesAndHandles) (e : Entry) → IsReady old e → new.headers ≡ old.headers → ((s : SideId) → endpoint_in new.endpoints s ≡ endpoint_after s e (endpoint_in old.endpoints s))
    → (s : SideId) → header_in new s ≡ header_after (is_made_in old.endpoints s) (made_by e) s (header_in old s)
header_applied old new e ready same after =
    header_taken old new e ready same (λ s. ap is_made (after s) ∙ entry_makes_alike e s (endpoint_in old.endpoints s))

pub applies_none : (x : SidesAndHandles) → Applies x [] [] x
applies_none x = record { endpoints = λ s. refl; handles = λ h. refl; headers = refl; spare = omega arith }

pub then_applies : (old mid new : SidesAndHandles) (cs ds : List Told) (ms ns : List Making) → MakeAlike cs ms → Applies old cs ms mid → Applies mid ds ns new → Applies old (cs ++ ds) (ms ++ ns) new
then_applies old mid new cs ds ms ns alike first second = record {
  endpoints = λ s.
      second.endpoints s
      ∙ ap (λ e. fold (endpoint_told s) e ds) (first.endpoints s)
      ∙ sym (fold-append (endpoint_told s) (endpoint_in old.endpoints s) cs ds);
  handles = λ h.
      second.handles h
      ∙ ap (side_after (is_made_in mid.endpoints) ns h) (first.handles h)
      ∙ side_after-same (is_made_in mid.endpoints) (λ s. list_any (is_of s) ms || is_made_in old.endpoints s) (λ s. ap is_made (first.endpoints s) ∙ alike s (endpoint_in old.endpoints s)) ns h (side_after (is_made_in old.endpoints) ms h (side_in old.handles h))
      ∙ sym (side_after-append ms ns (is_made_in old.endpoints) h (side_in old.handles h));
  headers = second.headers ∙ first.headers;
  spare = omega (arith, first.spare, second.spare, length-append cs ds);
}

-- whatever takes up what is left of the operations takes up all of them
pub record Rest (whole now : SidesAndHandles) (ops left : List Op) : Type 0 where
  pub room : length (flat_map changes_of_op left) ≤ now.spare
  pub goes : (after : SidesAndHandles) → Applies now (flat_map changes_of_op left) (flat_map made_by_op left) after → Applies whole (flat_map changes_of_op ops) (flat_map made_by_op ops) after

pub rest_goes : (whole now mid : SidesAndHandles) (ops left : List Op) (op : Op) → Rest whole now ops (op ∷ left) → Applies now (changes_of_op op) (made_by_op op) mid → Rest whole mid ops left
rest_goes whole now mid ops left op rest applied = record {
  room = omega (arith, rest.room, applied.spare, length-append (changes_of_op op) (flat_map changes_of_op left));
  goes = λ after behind. rest.goes after (then_applies now mid after (changes_of_op op) (flat_map changes_of_op left) (made_by_op op) (flat_map made_by_op left) (op_makes_alike op) applied behind);
}

pub rest_ends : (whole now : SidesAndHandles) (ops : List Op) → Rest whole now ops [] → Applies whole (flat_map changes_of_op ops) (flat_map made_by_op ops) now
rest_ends whole now ops rest = rest.goes now (applies_none now)

pub few_told : (ops : List Op) → length (flat_map changes_of_op ops) ≤ length ops
few_told [] = omega arith
few_told (op ∷ ops) = omega (arith, length-append (changes_of_op op) (flat_map changes_of_op ops), one op, few_told ops)
  where
    one : (op : Op) → length (changes_of_op op) ≤ 1
    one (Begin handle group header) = omega arith
    one (Send side kind body) = omega arith
    one (Took queue item) = omega arith
    one (End side last) = omega arith
    one (Cleanup side) = omega arith
    one (Move side group) = omega arith
    one (Timer side at) = omega arith
    one (Put table key n body) = omega arith
    one (Delete table key) = omega arith

pub entry_of : (log : List Entry) (e : Entry) (old new : SidesAndHandles) → AreOf log old → Takes old e new → AreOf (log ++ e ∷ []) new
entry_of log e old new are takes = record {
  endpoints = λ s.
      takes.endpoints s
      ∙ ap (endpoint_after s e) (are.endpoints s)
      ∙ sym (endpoint-more log e s ∙ entry_said s e (endpoint_of log s));
  handles = λ h.
      takes.handles h
      ∙ ap (side_after (is_made_in old.endpoints) (made_by e) h) (are.handles h)
      ∙ side_after-same (is_made_in old.endpoints) (has_side log) (λ s. ap is_made (are.endpoints s) ∙ sym (made_by_facts log s)) (made_by e) h (side_of log h)
      ∙ sym (side-more log e h);
  headers = λ s.
      takes.headers s
      ∙ ap (λ b. header_after b (made_by e) s (header_in old s)) (ap is_made (are.endpoints s) ∙ sym (made_by_facts log s))
      ∙ ap (header_after (has_side log s) (made_by e) s) (are.headers s)
      ∙ sym (header-more log e s);
}
