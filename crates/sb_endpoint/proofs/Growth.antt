-- The facts of a side when one more entry stands at the end of the log.
use Rattle.std.proofs.Common.{◌≡◌, refl, sym, ap, ◌∙◌, List, [], ◌∷◌, ◌++◌, length, length-append}
use Rattle.std.specs.Prelude.{not, ◌||◌, ◌+◌, Option, Some, None, find, flat_map, fold, max, option_map}
use Rattle.std.specs.List.{list_any, last_or}
use Rattle.std.specs.Option.{option_or}
use Rattle.std.proofs.Math.Bool.{or-false}
use Rattle.std.proofs.lemmas.Grind.{flat_map-append, fold-append}
use Rattle.std.proofs.lemmas.List.Folds.{list_any-append}
use Rattle.sb_log.specs.declared.identifiers.SideId.{SideId}
use Rattle.sb_log.specs.declared.entries.Entry.{Entry}
use Rattle.sb_log.specs.declared.messages.Content.{Content}
use Rattle.sb_model.specs.Sides.{is_of, made, made_by, ops_of, ops_of_entry}
use Rattle.sb_model.specs.Messages.{ack_of, accepted_content, acks, cleans, content_of_send, contents_accepted, end_of_op, ends, ends_side, expires_side, final_content, final_sent, first_of, sends}
use Rattle.sb_model.specs.States.{is_empty, is_end_dialog, is_error}
use Rattle.sb_model.specs.Groups.{group_moved}
use Rattle.sb_endpoint.specs.declared.endpoint.Endpoint.{Endpoint}
use Rattle.sb_endpoint.specs.Endpoints.{endpoint_of, made_as}

pub append_nil : {A : Type 0} (xs : List A) → xs ++ [] ≡ xs
append_nil [] = refl
append_nil (x ∷ xs) = ap (λ ys. x ∷ ys) (append_nil xs)

pub option_or-none : {A : Type 0} (o : Option A) → option_or o None ≡ o
option_or-none None = refl
option_or-none (Some x) = refl

pub option_or_assoc : {A : Type 0} (a b c : Option A) → option_or (option_or a b) c ≡ option_or a (option_or b c)
option_or_assoc None b c = refl
option_or_assoc (Some x) b c = refl

pub option_map-or : {A B : Type 0} (f : A → B) (a b : Option A) → option_map f (option_or a b) ≡ option_or (option_map f a) (option_map f b)
option_map-or f None b = refl
option_map-or f (Some x) b = refl

last_or-append : {A : Type 0} (o : Option A) (xs ys : List A) → last_or o (xs ++ ys) ≡ last_or (last_or o xs) ys
last_or-append o [] ys = refl
last_or-append o (x ∷ xs) ys = last_or-append (Some x) xs ys

is_empty-first_of : (xs : List Content) → is_empty (first_of xs) ≡ is_empty xs
is_empty-first_of [] = refl
is_empty-first_of (x ∷ xs) = refl

pub some-append : {A : Type 0} (xs ys : List A) → not (is_empty (xs ++ ys)) ≡ (not (is_empty xs) || not (is_empty ys))
some-append [] ys = refl
some-append (x ∷ xs) ys = refl

pub made-append : (xs ys : List Entry) (s : SideId) → made (xs ++ ys) s ≡ option_or (made xs s) (made ys s)
made-append [] ys s = refl
made-append (x ∷ xs) ys s = ap (λ o. option_or (find (is_of s) (made_by x)) o) (made-append xs ys s)
    ∙ sym (option_or_assoc (find (is_of s) (made_by x)) (made xs s) (made ys s))

-- facts that are alike one by one are alike
pub same_facts : (e f : Endpoint) → e.made ≡ f.made → e.moved ≡ f.moved → e.sends ≡ f.sends → e.ended ≡ f.ended → e.cleaned ≡ f.cleaned → e.expired ≡ f.expired
    → e.has_final ≡ f.has_final → e.accepted ≡ f.accepted → e.got_end ≡ f.got_end → e.got_error ≡ f.got_error → e.acked ≡ f.acked → e.closed ≡ f.closed → e ≡ f
same_facts e f made moved sends ended cleaned expired has_final accepted got_end got_error acked closed = λ i. record {
  made = made i;
  moved = moved i;
  sends = sends i;
  ended = ended i;
  cleaned = cleaned i;
  expired = expired i;
  has_final = has_final i;
  accepted = accepted i;
  got_end = got_end i;
  got_error = got_error i;
  acked = acked i;
  closed = closed i;
}

-- the facts with those of one more entry, by the words of the log
abbrev pub with_entry : SideId → Endpoint → Entry → Endpoint
with_entry s f e = record {
  made = option_or f.made (option_map made_as (find (is_of s) (made_by e)));
  moved = last_or f.moved (flat_map (group_moved s) (ops_of_entry e));
  sends = f.sends + length (flat_map (content_of_send s) (ops_of_entry e));
  ended = f.ended || list_any (ends_side s) (ops_of_entry e);
  cleaned = f.cleaned || list_any (cleans s) (ops_of_entry e);
  expired = f.expired || expires_side s e;
  has_final = f.has_final || not (is_empty (flat_map final_content (flat_map (end_of_op s) (ops_of_entry e))));
  accepted = f.accepted + length (accepted_content s e);
  got_end = f.got_end || list_any is_end_dialog (accepted_content s e);
  got_error = f.got_error || list_any is_error (accepted_content s e);
  acked = fold (λ most ack. max most ack.0) f.acked (ack_of s e);
  closed = f.closed || list_any (λ ack. ack.1) (ack_of s e);
}

module _ (log : List Entry) (e : Entry) (s : SideId) where
  ops-more : ops_of (log ++ e ∷ []) ≡ ops_of log ++ ops_of_entry e
  ops-more = flat_map-append ops_of_entry log (e ∷ []) ∙ ap (λ ops. ops_of log ++ ops) (append_nil (ops_of_entry e))

  contents-more : contents_accepted (log ++ e ∷ []) s ≡ contents_accepted log s ++ accepted_content s e
  contents-more = flat_map-append (accepted_content s) log (e ∷ []) ∙ ap (λ xs. contents_accepted log s ++ xs) (append_nil (accepted_content s e))

  acks-more : acks (log ++ e ∷ []) s ≡ acks log s ++ ack_of s e
  acks-more = flat_map-append (ack_of s) log (e ∷ []) ∙ ap (λ xs. acks log s ++ xs) (append_nil (ack_of s e))

  ends-more : ends (log ++ e ∷ []) s ≡ ends log s ++ flat_map (end_of_op s) (ops_of_entry e)
  ends-more = ap (flat_map (end_of_op s)) ops-more ∙ flat_map-append (end_of_op s) (ops_of log) (ops_of_entry e)

  made-more : option_map made_as (made (log ++ e ∷ []) s) ≡ option_or (option_map made_as (made log s)) (option_map made_as (find (is_of s) (made_by e)))
  made-more =
      ap (option_map made_as) (made-append log (e ∷ []) s ∙ ap (option_or (made log s)) (option_or-none (find (is_of s) (made_by e))))
      ∙ option_map-or made_as (made log s) (find (is_of s) (made_by e))

  final-more : not (is_empty (final_sent (log ++ e ∷ []) s)) ≡ (not (is_empty (final_sent log s)) || not (is_empty (flat_map final_content (flat_map (end_of_op s) (ops_of_entry e)))))
  final-more =
      let more : List Content = flat_map final_content (flat_map (end_of_op s) (ops_of_entry e)) in
      ap not (is_empty-first_of (flat_map final_content (ends (log ++ e ∷ []) s)))
      ∙ ap (λ xs. not (is_empty xs)) (ap (flat_map final_content) ends-more ∙ flat_map-append final_content (ends log s) (flat_map (end_of_op s) (ops_of_entry e)))
      ∙ some-append (flat_map final_content (ends log s)) more
      ∙ ap (λ b. not b || not (is_empty more)) (sym (is_empty-first_of (flat_map final_content (ends log s))))

  -- the facts by the longer log
  pub endpoint-more : endpoint_of (log ++ e ∷ []) s ≡ with_entry s (endpoint_of log s) e
  endpoint-more = same_facts (endpoint_of (log ++ e ∷ []) s) (with_entry s (endpoint_of log s) e)
      made-more
      (ap (λ ops. last_or None (flat_map (group_moved s) ops)) ops-more
      ∙ ap (last_or None) (flat_map-append (group_moved s) (ops_of log) (ops_of_entry e))
      ∙ last_or-append None (flat_map (group_moved s) (ops_of log)) (flat_map (group_moved s) (ops_of_entry e)))
      (ap (λ ops. length (flat_map (content_of_send s) ops)) ops-more
      ∙ ap length (flat_map-append (content_of_send s) (ops_of log) (ops_of_entry e))
      ∙ length-append (sends log s) (flat_map (content_of_send s) (ops_of_entry e)))
      (ap (list_any (ends_side s)) ops-more ∙ list_any-append (ends_side s) (ops_of log) (ops_of_entry e))
      (ap (list_any (cleans s)) ops-more ∙ list_any-append (cleans s) (ops_of log) (ops_of_entry e))
      (list_any-append (expires_side s) log (e ∷ []) ∙ ap (λ b. list_any (expires_side s) log || b) (or-false (expires_side s e)))
      final-more
      (ap length contents-more ∙ length-append (contents_accepted log s) (accepted_content s e))
      (ap (list_any is_end_dialog) contents-more ∙ list_any-append is_end_dialog (contents_accepted log s) (accepted_content s e))
      (ap (list_any is_error) contents-more ∙ list_any-append is_error (contents_accepted log s) (accepted_content s e))
      (ap (fold (λ most ack. max most ack.0) 0) acks-more ∙ fold-append (λ most ack. max most ack.0) 0 (acks log s) (ack_of s e))
      (ap (list_any (λ ack. ack.1)) acks-more ∙ list_any-append (λ ack. ack.1) (acks log s) (ack_of s e))
