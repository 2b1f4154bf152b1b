-- What an entry says, by the changes that it brings and by the words of the log.
use Rattle.std.proofs.Common.{◌≡◌, ℕ, Bool, true, false, refl, sym, ap, ◌∙◌, List, [], ◌∷◌, ◌++◌, length, add-zero, arith}
use Rattle.std.specs.Prelude.{not, ◌||◌, ◌+◌, if◌then◌else◌, Option, Some, None, find, flat_map, fold, max, option_map}
use Rattle.std.specs.List.{list_any, last_or}
use Rattle.std.specs.Option.{option_or}
use Rattle.std.proofs.Math.Bool.{or-false, or_assoc}
use Rattle.std.proofs.lemmas.Grind.{fold-append}
use Rattle.sb_log.specs.declared.identifiers.SideId.{SideId}
use Rattle.sb_log.specs.declared.identifiers.Handle.{Handle}
use Rattle.sb_log.specs.declared.entries.Entry.{Entry}
use Rattle.sb_log.specs.declared.entries.Entry.TheVariants.{Defined, Txn, Accepted, Acked, Fired, Expired, QueueSet}
use Rattle.sb_log.specs.declared.entries.Op.{Op}
use Rattle.sb_log.specs.declared.entries.Op.TheVariants.{Begin, Send, Took, End, Cleanup, Move, Timer, Put, Delete}
use Rattle.sb_log.specs.declared.entries.NewSide.{NewSide}
use Rattle.sb_log.specs.declared.messages.Content.{Content}
use Rattle.sb_log.specs.declared.messages.Content.TheVariants as content
use Rattle.sb_log.specs.declared.messages.Header.{Header}
use Rattle.sb_model.specs.Sides.{Making, is_of, made_by_op, making, same_side}
use Rattle.sb_model.specs.Messages.{cleans, content_of_send, end_of_op, ends_side, final_content}
use Rattle.sb_model.specs.States.{is_empty, is_end_dialog, is_error}
use Rattle.sb_model.specs.Groups.{group_moved}
use Rattle.sb_endpoint.specs.declared.change.Change.TheVariants as change
use Rattle.sb_endpoint.specs.declared.endpoint.Endpoint.{Endpoint}
use Rattle.sb_endpoint.specs.Changes.{begun, changed, changes_of_op, endpoint_after, endpoint_told}
use Rattle.sb_endpoint.specs.Endpoints.{made_as}
use Rattle.sb_endpoint.proofs.Growth.{option_or-none, option_or_assoc, same_facts, some-append, with_entry}

or_true : (b : Bool) → (b || true) ≡ true
or_true true = refl
or_true false = refl

one_more : (n : ℕ) {A : Type 0} (x : A) (xs : List A) → (n + 1) + length xs ≡ n + length (x ∷ xs)
one_more n x xs = omega arith

abbrev begun_as : Handle → Handle → Header → Making
begun_as handle group header = record { side = begun handle; handle = handle; group = group; header = header }

-- an entry that says nothing of the side
pub says_nothing : (s : SideId) (tx : ℕ) (f : Endpoint) → with_entry s f (Txn tx []) ≡ f
says_nothing s tx f = same_facts (with_entry s f (Txn tx [])) f
    (option_or-none f.made) refl (add-zero f.sends) (or-false f.ended) (or-false f.cleaned) (or-false f.expired)
    (or-false f.has_final) (add-zero f.accepted) (or-false f.got_end) (or-false f.got_error) refl (or-false f.closed)

module _ (s : SideId) (tx : ℕ) where
  -- an operation before others
  op_first : (op : Op) (ops : List Op) (f : Endpoint) → with_entry s (fold (endpoint_told s) f (changes_of_op op)) (Txn tx ops) ≡ with_entry s f (Txn tx (op ∷ ops))
  op_first (Begin handle group header) ops f = by (same_side (begun handle) s)
    where
      by : (b : Bool) → with_entry s (if b then changed (change.Made (record { handle = handle; group = group })) f else f) (Txn tx ops)
          ≡ record (with_entry s f (Txn tx ops)) { made = option_or f.made (option_map made_as (if b then Some (begun_as handle group header) else find (is_of s) (flat_map made_by_op ops))) }
      by true = λ i. record (with_entry s f (Txn tx ops)) { made = option_or_assoc f.made (Some (record { handle = handle; group = group })) (option_map made_as (find (is_of s) (flat_map made_by_op ops))) i }
      by false = refl
  op_first (Send side kind body) ops f = by (same_side side s)
    where
      by : (b : Bool) → with_entry s (if b then changed change.Sent f else f) (Txn tx ops)
          ≡ record (with_entry s f (Txn tx ops)) { sends = f.sends + length ((if b then content.App kind body ∷ [] else []) ++ flat_map (content_of_send s) ops) }
      by true = λ i. record (with_entry s f (Txn tx ops)) { sends = one_more f.sends (content.App kind body) (flat_map (content_of_send s) ops) i }
      by false = refl
  op_first (Took queue item) ops f = refl
  op_first (End side last) ops f = by (same_side side s)
    where
      by : (b : Bool) → with_entry s (if b then changed (change.Ended (not (is_empty (final_content last)))) f else f) (Txn tx ops)
          ≡ record (with_entry s f (Txn tx ops)) {
            ended = f.ended || (b || list_any (ends_side s) ops);
            has_final = f.has_final || not (is_empty (flat_map final_content ((if b then last ∷ [] else []) ++ flat_map (end_of_op s) ops)));
          }
      by true = λ i. record (with_entry s f (Txn tx ops)) {
        ended = sym (or_true f.ended) i;
        has_final = (or_assoc f.has_final (not (is_empty (final_content last))) (not (is_empty (flat_map final_content (flat_map (end_of_op s) ops))))
            ∙ ap (λ b. f.has_final || b) (sym (some-append (final_content last) (flat_map final_content (flat_map (end_of_op s) ops))))) i;
      }
      by false = refl
  op_first (Cleanup side) ops f = by (same_side side s)
    where
      by : (b : Bool) → with_entry s (if b then changed change.Cleaned f else f) (Txn tx ops)
          ≡ record (with_entry s f (Txn tx ops)) { cleaned = f.cleaned || (b || list_any (cleans s) ops) }
      by true = λ i. record (with_entry s f (Txn tx ops)) { cleaned = sym (or_true f.cleaned) i }
      by false = refl
  op_first (Move side group) ops f = by (same_side side s)
    where
      by : (b : Bool) → with_entry s (if b then changed (change.Moved group) f else f) (Txn tx ops)
          ≡ record (with_entry s f (Txn tx ops)) { moved = last_or f.moved ((if b then group ∷ [] else []) ++ flat_map (group_moved s) ops) }
      by true = refl
      by false = refl
  op_first (Timer side at) ops f = refl
  op_first (Put table key n body) ops f = refl
  op_first (Delete table key) ops f = refl

  pub ops_said : (ops : List Op) (f : Endpoint) → fold (endpoint_told s) f (flat_map changes_of_op ops) ≡ with_entry s f (Txn tx ops)
  ops_said [] f = sym (says_nothing s tx f)
  ops_said (op ∷ ops) f =
      fold-append (endpoint_told s) f (changes_of_op op) (flat_map changes_of_op ops)
      ∙ ops_said ops (fold (endpoint_told s) f (changes_of_op op))
      ∙ op_first op ops f

accepted_said : (s side : SideId) (number : ℕ) (new : Option NewSide) (content : Content) (f : Endpoint) → with_entry s f (Accepted side number new content) ≡ endpoint_after s (Accepted side number new content) f
accepted_said s side number None content f = by (same_side side s)
  where
    by : (b : Bool) → record {
      made = option_or f.made None;
      moved = f.moved;
      sends = f.sends + 0;
      ended = f.ended || false;
      cleaned = f.cleaned || false;
      expired = f.expired || false;
      has_final = f.has_final || false;
      accepted = f.accepted + length (if b then content ∷ [] else []);
      got_end = f.got_end || list_any is_end_dialog (if b then content ∷ [] else []);
      got_error = f.got_error || list_any is_error (if b then content ∷ [] else []);
      acked = f.acked;
      closed = f.closed || false;
    } ≡ (if b then changed (change.Accepted (is_end_dialog content) (is_error content)) f else f)
    by true = same_facts _ (changed (change.Accepted (is_end_dialog content) (is_error content)) f)
        (option_or-none f.made) refl (add-zero f.sends) (or-false f.ended) (or-false f.cleaned) (or-false f.expired)
        (or-false f.has_final) refl (ap (λ b. f.got_end || b) (or-false (is_end_dialog content))) (ap (λ b. f.got_error || b) (or-false (is_error content))) refl (or-false f.closed)
    by false = says_nothing s 0 f
accepted_said s side number (Some new) content f = by (same_side side s)
  where
    by : (b : Bool) → record {
      made = option_or f.made (option_map made_as (if b then Some (making side new) else None));
      moved = f.moved;
      sends = f.sends + 0;
      ended = f.ended || false;
      cleaned = f.cleaned || false;
      expired = f.expired || false;
      has_final = f.has_final || false;
      accepted = f.accepted + length (if b then content ∷ [] else []);
      got_end = f.got_end || list_any is_end_dialog (if b then content ∷ [] else []);
      got_error = f.got_error || list_any is_error (if b then content ∷ [] else []);
      acked = f.acked;
      closed = f.closed || false;
    } ≡ (let g : Endpoint = if b then changed (change.Made (record { handle = new.handle; group = new.group })) f else f in if b then changed (change.Accepted (is_end_dialog content) (is_error content)) g else g)
    by true = same_facts _ (changed (change.Accepted (is_end_dialog content) (is_error content)) (changed (change.Made (record { handle = new.handle; group = new.group })) f))
        refl refl (add-zero f.sends) (or-false f.ended) (or-false f.cleaned) (or-false f.expired)
        (or-false f.has_final) refl (ap (λ b. f.got_end || b) (or-false (is_end_dialog content))) (ap (λ b. f.got_error || b) (or-false (is_error content))) refl (or-false f.closed)
    by false = says_nothing s 0 f

acked_said : (s side : SideId) (upto : ℕ) (closed : Bool) (f : Endpoint) → with_entry s f (Acked side upto closed) ≡ endpoint_after s (Acked side upto closed) f
acked_said s side upto closed f = by (same_side side s)
  where
    by : (b : Bool) → record {
      made = option_or f.made None;
      moved = f.moved;
      sends = f.sends + 0;
      ended = f.ended || false;
      cleaned = f.cleaned || false;
      expired = f.expired || false;
      has_final = f.has_final || false;
      accepted = f.accepted + 0;
      got_end = f.got_end || false;
      got_error = f.got_error || false;
      acked = fold (λ (most : ℕ) (ack : ℕ × Bool). max most ack.0) f.acked (if b then (upto, closed) ∷ [] else []);
      closed = f.closed || list_any (λ (ack : ℕ × Bool). ack.1) (if b then (upto, closed) ∷ [] else []);
    } ≡ (if b then changed (change.Acked upto closed) f else f)
    by true = same_facts _ (changed (change.Acked upto closed) f)
        (option_or-none f.made) refl (add-zero f.sends) (or-false f.ended) (or-false f.cleaned) (or-false f.expired)
        (or-false f.has_final) (add-zero f.accepted) (or-false f.got_end) (or-false f.got_error) refl (ap (λ b. f.closed || b) (or-false closed))
    by false = says_nothing s 0 f

expired_said : (s side : SideId) (f : Endpoint) → with_entry s f (Expired side) ≡ endpoint_after s (Expired side) f
expired_said s side f = by (same_side side s)
  where
    by : (b : Bool) → record (with_entry s f (Txn 0 [])) { expired = f.expired || b } ≡ (if b then changed change.Expired f else f)
    by true = same_facts _ (changed change.Expired f)
        (option_or-none f.made) refl (add-zero f.sends) (or-false f.ended) (or-false f.cleaned) (or_true f.expired)
        (or-false f.has_final) (add-zero f.accepted) (or-false f.got_end) (or-false f.got_error) refl (or-false f.closed)
    by false = says_nothing s 0 f

-- an entry says of a side what its changes do
pub entry_said : (s : SideId) (e : Entry) (f : Endpoint) → with_entry s f e ≡ endpoint_after s e f
entry_said s (Defined ddl) f = says_nothing s 0 f
entry_said s (Txn tx ops) f = sym (ops_said s tx ops f)
entry_said s (Accepted side number new content) f = accepted_said s side number new content f
entry_said s (Acked side upto closed) f = acked_said s side upto closed f
entry_said s (Fired side) f = says_nothing s 0 f
entry_said s (Expired side) f = expired_said s side f
entry_said s (QueueSet queue on) f = says_nothing s 0 f
