-- What is asked of a side, by the log and by its facts.
use Rattle.std.proofs.Common.{◌≡◌, ℕ, zero, suc, Bool, true, false, refl, sym, ap, ◌∙◌, List, [], ◌∷◌, ◌++◌, length, drop, arith, length-append, add-zero}
use Rattle.std.specs.Prelude.{not, is_some, nat_lt, ◌==◌, ◌&&◌, ◌||◌, ◌+◌, if◌then◌else◌, Option, Some, None, find, flat_map, option_map, unwrap_or}
use Rattle.std.specs.List.{list_any}
use Rattle.std.specs.Option.{option_or}
use Rattle.std.proofs.lemmas.Bool.Decides.{nat_tests}
use Rattle.std.proofs.Math.Bool.{or_assoc}
use Rattle.std.proofs.lemmas.List.Folds.{find-append}
use Rattle.sb_log.specs.declared.identifiers.SideId.{SideId}
use Rattle.sb_log.specs.declared.identifiers.State.{State}
use Rattle.sb_log.specs.declared.identifiers.State.TheVariants.{SO, CO, DI, DO, ER, CD}
use Rattle.sb_log.specs.declared.entries.Entry.{Entry}
use Rattle.sb_log.specs.declared.messages.Content.{Content}
use Rattle.sb_log.specs.declared.messages.Content.TheVariants as content
use Rattle.sb_model.specs.Sides.{Making, has_side, is_of, made, made_by, makings}
use Rattle.sb_model.specs.Messages.{acked, contents_accepted, ends, final_content, final_sent, first_of, is_cleaned, is_closed_by_ack, is_ended, is_expired, numbered, sends}
use Rattle.sb_model.specs.States.{is_done, is_empty, is_end_dialog, is_error, is_final, state_of}
use Rattle.sb_model.specs.Groups.{group_of}
use Rattle.sb_endpoint.specs.Endpoints.{endpoint_of, made_as}
use Rattle.sb_endpoint.specs.States.{group_by, is_done_by, is_made, numbered_by, state_by}

some_mapped : {A B : Type 0} (f : A → B) (o : Option A) → is_some (option_map f o) ≡ is_some o
some_mapped f None = refl
some_mapped f (Some x) = refl

pub any_found : {A : Type 0} (p : A → Bool) (xs : List A) → list_any p xs ≡ is_some (find p xs)
any_found p [] = refl
any_found p (x ∷ xs) = by (p x) (any_found p xs)
  where
    by : (b : Bool) → list_any p xs ≡ is_some (find p xs) → (b || list_any p xs) ≡ is_some (if b then Some x else find p xs)
    by true h = refl
    by false h = h

pub made_found : (log : List Entry) (s : SideId) → made log s ≡ find (is_of s) (makings log)
made_found [] s = refl
made_found (e ∷ log) s = ap (option_or (find (is_of s) (made_by e))) (made_found log s) ∙ sym (find-append (is_of s) (made_by e) (makings log))

pub made_by_facts : (log : List Entry) (s : SideId) → has_side log s ≡ is_made (endpoint_of log s)
made_by_facts log s = any_found (is_of s) (makings log) ∙ ap is_some (sym (made_found log s)) ∙ sym (some_mapped made_as (made log s))

pub group_by_facts : (log : List Entry) (s : SideId) → group_of log s ≡ group_by (endpoint_of log s)
group_by_facts log s = by (made log s)
  where
    by : (o : Option Making) → option_map (λ m. unwrap_or (endpoint_of log s).moved m.group) o ≡ option_map (λ m. unwrap_or (endpoint_of log s).moved m.group) (option_map made_as o)
    by None = refl
    by (Some m) = refl

-- with a final message one more is numbered
numbered_length : (xs ys : List Content) → length (xs ++ first_of ys) ≡ (if not (is_empty (first_of ys)) then length xs + 1 else length xs)
numbered_length xs [] = length-append xs [] ∙ add-zero (length xs)
numbered_length xs (y ∷ ys) = length-append xs (y ∷ [])

pub numbered_by_facts : (log : List Entry) (s : SideId) → length (numbered log s) ≡ numbered_by (endpoint_of log s)
numbered_by_facts log s = numbered_length (sends log s) (flat_map final_content (ends log s))

none_left : (n : ℕ) → is_empty {A = Content} (drop n []) ≡ true
none_left zero = refl
none_left (suc n) = refl

none_before : (n : ℕ) → nat_lt n 0 ≡ false
none_before n = grind (arith, nat_tests)

past_next : (m n : ℕ) → nat_lt (suc m) (suc n) ≡ nat_lt m n
past_next m n = grind (arith, nat_tests)

past_none : (n : ℕ) → nat_lt 0 (suc n) ≡ true
past_none n = grind (arith, nat_tests)

-- the final message is acknowledged where all that is numbered is
past_final : (xs : List Content) (y : Content) (n : ℕ) → is_empty (drop n (xs ++ y ∷ [])) ≡ nat_lt (length xs) n
past_final [] y zero = refl
past_final [] y (suc n) = none_left n ∙ sym (past_none n)
past_final (x ∷ xs) y zero = sym (none_before (length (x ∷ xs)))
past_final (x ∷ xs) y (suc n) = past_final xs y n ∙ sym (past_next (length xs) n)

final_done : (xs ys : List Content) (n : ℕ) → (is_empty (first_of ys) || is_empty (drop n (xs ++ first_of ys))) ≡ (not (not (is_empty (first_of ys))) || nat_lt (length xs) n)
final_done xs [] n = refl
final_done xs (y ∷ ys) n = past_final xs y n

final_kinds : (xs : List Content) → list_any is_final xs ≡ (list_any is_end_dialog xs || list_any is_error xs)
final_kinds [] = refl
final_kinds (content.App kind body ∷ xs) = final_kinds xs
final_kinds (content.EndDialog ∷ xs) = refl
final_kinds (content.Error code text ∷ xs) = sym (or_true (list_any is_end_dialog xs))
  where
    or_true : (b : Bool) → (b || true) ≡ true
    or_true true = refl
    or_true false = refl

not_none : (n : ℕ) → (suc n == 0) ≡ false
not_none n = grind (arith, nat_tests)

none_counted : {A : Type 0} (xs : List A) → is_empty xs ≡ (length xs == 0)
none_counted [] = refl
none_counted (x ∷ xs) = sym (not_none (length xs))

-- the table of states, over what its rows ask
abbrev row : Bool → Bool → Bool → Bool → Bool → Bool → State
row cleaned ended done failed got_end fresh =
    if cleaned || (ended && done) then CD
    else (if ended then DO
    else (if failed then ER
    else (if got_end then DI
    else (if fresh then SO
    else CO))))

module _ (log : List Entry) (s : SideId) where
  abbrev contents : List Content
  contents = contents_accepted log s

  abbrev is_sent : Bool
  is_sent = not (not (is_empty (final_sent log s))) || nat_lt (length (sends log s)) (acked log s) || is_closed_by_ack log s

  done_by_facts : is_done log s ≡ is_done_by (endpoint_of log s)
  done_by_facts =
      ap (λ b. b || is_closed_by_ack log s || list_any is_final contents || is_expired log s) (final_done (sends log s) (flat_map final_content (ends log s)) (acked log s))
      ∙ ap (λ b. is_sent || b || is_expired log s) (final_kinds contents)
      ∙ ap (λ b. b || is_expired log s) (sym (or_assoc is_sent (list_any is_end_dialog contents) (list_any is_error contents)))

  fresh_by_facts : (s.initiator && is_empty (sends log s) && is_empty contents) ≡ (s.initiator && length (sends log s) == 0 && length contents == 0)
  fresh_by_facts =
      ap (λ b. s.initiator && b && is_empty contents) (none_counted (sends log s))
      ∙ ap (λ b. s.initiator && (length (sends log s) == 0) && b) (none_counted contents)

  abbrev by_rows : Bool → Bool → State
  by_rows done fresh = row (is_cleaned log s) (is_ended log s) done (list_any is_error contents || is_expired log s) (list_any is_end_dialog contents) fresh

  pub state_by_facts : state_of log s ≡ state_by s (endpoint_of log s)
  state_by_facts =
      ap (λ b. by_rows b (s.initiator && is_empty (sends log s) && is_empty contents)) done_by_facts
      ∙ ap (by_rows (is_done_by (endpoint_of log s))) fresh_by_facts
