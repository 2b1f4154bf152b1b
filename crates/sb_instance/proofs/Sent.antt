-- A side that may send may go on to, when statements that make, end, clean and move no side are done.
use Rattle.std.proofs.Common.{◌≡◌, ℕ, Bool, true, false, cond, List, [], ◌∷◌, ◌++◌, refl, sym, ap, subst, ◌∙◌, append-nil, map, inl, inr, ◌⊎◌}
use Rattle.std.specs.Prelude.{Result, Ok, Err, IfOk, ◌&&◌, ◌||◌, if◌then◌else◌, Option, Some, None, find, flat_map, option_map, option_and_then}
use Rattle.std.specs.List.{Contains, list_any}
use Rattle.std.proofs.lemmas.Grind.{flat_map-append}
use Rattle.std.proofs.lemmas.List.Elements.{All-contains, All-push, All-weaker}
use Rattle.std.proofs.lemmas.List.Folds.{list_any-append}
use Rattle.sb_log.specs.declared.entries.Entry.{Entry}
use Rattle.sb_log.specs.declared.entries.Op.{Op}
use Rattle.sb_log.specs.declared.entries.Op.TheVariants.{Send}
use Rattle.sb_log.specs.declared.identifiers.Handle.{Handle}
use Rattle.sb_log.specs.declared.identifiers.SideId.{SideId}
use Rattle.sb_log.specs.declared.identifiers.State.TheVariants.{SO, CO, DI, DO, ER, CD}
use Rattle.sb_log.specs.declared.messages.ReceivedItem.{ReceivedItem}
use Rattle.sb_model.specs.Messages.{accepted_content, cleans, contents_accepted, ends_side, expires_side, is_cleaned, is_ended, is_expired, sends}
use Rattle.sb_model.specs.Replies.{live}
use Rattle.sb_model.specs.Sides.{Bytes, Making, firsts_after, made_by, made_by_op, makings, ops_of, ops_of_entry, same_id, side_of}
use Rattle.sb_model.specs.States.{is_done, is_empty, is_end_dialog, is_error, may_send, state_of}
use Rattle.sb_model.specs.Statements.{txn_entries}
use Rattle.sb_instance.specs.Asked.{ask_of}
use Rattle.sb_instance.specs.Candidates.{takes}
use Rattle.sb_instance.specs.Sending.{AreSending, IsQuiet, MaySend}
use Rattle.sb_instance.specs.declared.sending.Sending.{Sending}

pub quiet_send : (s : SideId) (kind : Bytes) (body : Option Bytes) → IsQuiet (Send s kind body ∷ [])
quiet_send s kind body = record { makes = refl; ends = λ t. refl; clean = λ t. refl; moves = λ t. refl }

pub quiet_takes : (q : Bytes) (items : List ReceivedItem) → IsQuiet (map (takes q) items)
quiet_takes q [] = record { makes = refl; ends = λ t. refl; clean = λ t. refl; moves = λ t. refl }
quiet_takes q (x ∷ items) =
    let rest : IsQuiet (map (takes q) items) = quiet_takes q items in
    record { makes = rest.makes; ends = rest.ends; clean = rest.clean; moves = rest.moves }

or_false : (a b : Bool) → b ≡ false → (a || b) ≡ a
or_false true b e = refl
or_false false b e = e

left_false : (a b : Bool) → (a || b) ≡ false → a ≡ false
left_false true b e = e
left_false false b e = refl

same_then : {A B : Type 0} (f g : A → Option B) (o : Option A) → ((x : A) → f x ≡ g x) → option_and_then f o ≡ option_and_then g o
same_then f g None h = refl
same_then f g (Some x) h = h x

-- ---- a log with one more transaction of such operations

ops_of_txn : (tx : ℕ) (ops : List Op) → ops_of (txn_entries tx ops) ≡ ops
ops_of_txn tx [] = refl
ops_of_txn tx (op ∷ ops) = append-nil (op ∷ ops)

made_by_txn : (tx : ℕ) (ops : List Op) → flat_map made_by_op ops ≡ [] → makings (txn_entries tx ops) ≡ []
made_by_txn tx [] e = refl
made_by_txn tx (op ∷ ops) e = ap (λ ms. ms ++ []) e

accepted_by_txn : (tx : ℕ) (ops : List Op) (s : SideId) → contents_accepted (txn_entries tx ops) s ≡ []
accepted_by_txn tx [] s = refl
accepted_by_txn tx (op ∷ ops) s = refl

expired_by_txn : (tx : ℕ) (ops : List Op) (s : SideId) → is_expired (txn_entries tx ops) s ≡ false
expired_by_txn tx [] s = refl
expired_by_txn tx (op ∷ ops) s = refl

pub ops_more : (log : List Entry) (tx : ℕ) (ops : List Op) → ops_of (log ++ txn_entries tx ops) ≡ ops_of log ++ ops
ops_more log tx ops = flat_map-append ops_of_entry log (txn_entries tx ops) ∙ ap (λ x. ops_of log ++ x) (ops_of_txn tx ops)

pub any_more : (p : Op → Bool) (log : List Entry) (tx : ℕ) (ops : List Op) → list_any p ops ≡ false → list_any p (ops_of (log ++ txn_entries tx ops)) ≡ list_any p (ops_of log)
any_more p log tx ops e =
    ap (list_any p) (ops_more log tx ops) ∙ list_any-append p (ops_of log) ops ∙ or_false (list_any p (ops_of log)) (list_any p ops) e

makings_more : (log : List Entry) (tx : ℕ) (ops : List Op) → IsQuiet ops → makings (log ++ txn_entries tx ops) ≡ makings log
makings_more log tx ops q =
    flat_map-append made_by log (txn_entries tx ops) ∙ ap (λ x. makings log ++ x) (made_by_txn tx ops q.makes) ∙ append-nil (makings log)

accepted_more : (log : List Entry) (tx : ℕ) (ops : List Op) (s : SideId) → contents_accepted (log ++ txn_entries tx ops) s ≡ contents_accepted log s
accepted_more log tx ops s =
    flat_map-append (accepted_content s) log (txn_entries tx ops) ∙ ap (λ x. contents_accepted log s ++ x) (accepted_by_txn tx ops s) ∙ append-nil (contents_accepted log s)

expired_more : (log : List Entry) (tx : ℕ) (ops : List Op) (s : SideId) → is_expired (log ++ txn_entries tx ops) s ≡ is_expired log s
expired_more log tx ops s =
    list_any-append (expires_side s) log (txn_entries tx ops) ∙ or_false (is_expired log s) (is_expired (txn_entries tx ops) s) (expired_by_txn tx ops s)

-- ---- the side goes on

-- the first side with a handle, by what was made
abbrev side_by : List Making → Handle → Option SideId
side_by ms handle = option_map (λ m. m.side) (find (λ m. same_id m.handle handle) (firsts_after [] ms))

abbrev uncleaned : List Entry → SideId → Option SideId
uncleaned log s = if is_cleaned log s then None else Some s

live_more : (log : List Entry) (tx : ℕ) (ops : List Op) (handle : Handle) → IsQuiet ops → live (ask_of (log ++ txn_entries tx ops)) handle ≡ live (ask_of log) handle
live_more log tx ops handle q =
    ap (λ ms. option_and_then (uncleaned (log ++ txn_entries tx ops)) (side_by ms handle)) (makings_more log tx ops q)
    ∙ same_then (uncleaned (log ++ txn_entries tx ops)) (uncleaned log) (side_of log handle) (λ s. ap (λ b. if b then None else Some s) (any_more (cleans s) log tx ops (q.clean s)))

-- the first rows of a state that allows a SEND
record ArePassed (a b c d : Bool) : Type 0 where
  first : a ≡ false
  second : b ≡ false
  third : c ≡ false
  fourth : d ≡ false

passed : (a b c d e : Bool) → may_send (cond a CD (cond b DO (cond c ER (cond d DI (cond e SO CO))))) ≡ true → ArePassed a b c d
passed true b c d e h = cc
passed false true c d e h = cc
passed false false true d e h = cc
passed false false false true e h = cc
passed false false false false e h = record { first = refl; second = refl; third = refl; fourth = refl }

allowed_last : (e : Bool) → may_send (cond e SO CO) ≡ true
allowed_last true = refl
allowed_last false = refl

allowed_by : (a b c d e : Bool) → ArePassed a b c d → may_send (cond a CD (cond b DO (cond c ER (cond d DI (cond e SO CO))))) ≡ true
allowed_by a b c d e p =
    let pa : a ≡ false = p.first in
    let pb : b ≡ false = p.second in
    let pc : c ≡ false = p.third in
    let pd : d ≡ false = p.fourth in
    rw (pa, pb, pc, pd) (allowed_last e)

state_more : (log : List Entry) (tx : ℕ) (ops : List Op) (s : SideId) → IsQuiet ops → may_send (state_of log s) ≡ true → may_send (state_of (log ++ txn_entries tx ops) s) ≡ true
state_more log tx ops s q h =
    let later : List Entry = log ++ txn_entries tx ops in
    let rows : ArePassed (is_cleaned log s || (is_ended log s && is_done log s)) (is_ended log s) (list_any is_error (contents_accepted log s) || is_expired log s) (list_any is_end_dialog (contents_accepted log s)) =
    passed (is_cleaned log s || (is_ended log s && is_done log s)) (is_ended log s) (list_any is_error (contents_accepted log s) || is_expired log s) (list_any is_end_dialog (contents_accepted log s))
    (s.initiator && is_empty (sends log s) && is_empty (contents_accepted log s)) h in
    let ended : is_ended later s ≡ false = any_more (ends_side s) log tx ops (q.ends s) ∙ rows.second in
    let cleaned : is_cleaned later s ≡ false = any_more (cleans s) log tx ops (q.clean s) ∙ left_false (is_cleaned log s) (is_ended log s && is_done log s) rows.first in
    allowed_by (is_cleaned later s || (is_ended later s && is_done later s)) (is_ended later s) (list_any is_error (contents_accepted later s) || is_expired later s) (list_any is_end_dialog (contents_accepted later s))
    (s.initiator && is_empty (sends later s) && is_empty (contents_accepted later s))
    (record {
      first = ap (λ b. is_cleaned later s || (b && is_done later s)) ended ∙ ap (λ b. b || false) cleaned;
      second = ended;
      third = ap (λ cs. list_any is_error cs || is_expired later s) (accepted_more log tx ops s) ∙ ap (λ b. list_any is_error (contents_accepted log s) || b) (expired_more log tx ops s) ∙ rows.third;
      fourth = ap (list_any is_end_dialog) (accepted_more log tx ops s) ∙ rows.fourth;
    })

may_send_more : (log : List Entry) (tx : ℕ) (ops : List Op) → IsQuiet ops → (handle : Handle) (s : SideId) → MaySend log handle s → MaySend (log ++ txn_entries tx ops) handle s
may_send_more log tx ops q handle s may = record {
  found = live_more log tx ops handle q ∙ may.found;
  allowed = state_more log tx ops s q may.allowed;
}

-- all that may send go on to
pub sending_more : (log : List Entry) (tx : ℕ) (ops : List Op) (known : List Sending) → IsQuiet ops → AreSending log known → AreSending (log ++ txn_entries tx ops) known
sending_more log tx ops known q are =
    All-weaker (λ x. MaySend log x.handle x.side) (λ x. MaySend (log ++ txn_entries tx ops) x.handle x.side) (λ x may. may_send_more log tx ops q x.handle x.side may) known are

-- with one more that may send
pub sending_noted : (log : List Entry) (known after : List Sending) (x : Sending) → AreSending log known → MaySend log x.handle x.side
    → (after ≡ known) ⊎ (after ≡ known ++ x ∷ []) → AreSending log after
sending_noted log known after x are may (inl same) = subst (AreSending log) (sym same) are
sending_noted log known after x are may (inr more) = subst (AreSending log) (sym more) (All-push (λ y. MaySend log y.handle y.side) known x are may)

-- one that is known may send
pub known_may : (log : List Entry) (known : List Sending) (x : Sending) (handle : Handle) → AreSending log known → Contains known x → x.handle ≡ handle → MaySend log handle x.side
known_may log known x handle are is_in of_handle =
    subst (λ h. MaySend log h x.side) of_handle (All-contains (λ y. MaySend log y.handle y.side) known x are is_in)

-- a check that goes on from a side, of which these are so
pub may_found : {E : Type 0} (log : List Entry) (handle : Handle) (s : SideId) (result : Result SideId E) → Some s ≡ live (ask_of log) handle → IfOk result (λ from. from ≡ s)
    → IfOk result (λ from. may_send (state_of log s) ≡ true) → IfOk result (MaySend log handle)
may_found log handle s (Ok from) found same allowed =
    record { found = sym found ∙ ap Some (sym same); allowed = subst (λ x. may_send (state_of log x) ≡ true) (sym same) allowed }
may_found log handle s (Err e) found same allowed = tt

pub may_known : {E : Type 0} (log : List Entry) (handle : Handle) (s : SideId) (result : Result SideId E) → MaySend log handle s → IfOk result (λ from. from ≡ s) → IfOk result (MaySend log handle)
may_known log handle s (Ok from) may same = subst (MaySend log handle) (sym same) may
may_known log handle s (Err e) may same = tt
