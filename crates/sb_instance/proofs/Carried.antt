-- What is noted of a side stays so when its next message is taken in.
use Rattle.std.proofs.Common.{◌≡◌, ℕ, zero, suc, ◌+◌, ◌<◌, Bool, true, false, cond, List, [], ◌∷◌, ◌++◌, length, drop, refl, sym, ap, subst, ◌∙◌, append-nil, add-one, arith, length-append, eqb, append_assoc, get_or, map, ◌≤◌}
use Rattle.std.specs.Prelude.{not, ◌&&◌, ◌||◌, nat_le, nat_lt, if◌then◌else◌, Option, Some, None, IfSome, is_none, find, flat_map, filter, option_map, option_and_then, unwrap_or, slice_get}
use Rattle.std.specs.Bool.{beq}
use Rattle.std.specs.Option.{option_map_or, option_or}
use Rattle.std.specs.List.{list_any, last_or}
use Rattle.std.proofs.lemmas.Bool.{eqb-true, eq-eqb}
use Rattle.std.proofs.lemmas.Bool.Decides.{nat_tests}
use Rattle.std.proofs.lemmas.Grind.{flat_map-append}
use Rattle.std.proofs.lemmas.List.{at_drop_more, drop_all}
use Rattle.std.proofs.lemmas.List.Folds.{list_any-append}
use Rattle.sb_log.specs.declared.definitions.Ddl.{Ddl}
use Rattle.sb_log.specs.declared.entries.Entry.{Entry}
use Rattle.sb_log.specs.declared.entries.Entry.TheVariants.{Accepted}
use Rattle.sb_log.specs.declared.entries.Op.{Op}
use Rattle.sb_log.specs.declared.identifiers.SideId.{SideId}
use Rattle.sb_log.specs.declared.identifiers.Who.{Who}
use Rattle.sb_log.specs.declared.messages.Content.{Content}
use Rattle.sb_log.specs.declared.messages.Data.{Data}
use Rattle.sb_log.specs.declared.messages.Header.{Header}
use Rattle.sb_log.specs.declared.steps.Verdict.{Verdict}
use Rattle.sb_log.specs.declared.steps.Verdict.TheVariants.{New, Next, Repeat, Early, Gone, NotHere}
use Rattle.sb_model.specs.Acceptance.{is_for_other, is_type_refused, makes_side, offers, receiver, receiving_queue, verdict}
use Rattle.sb_model.specs.Catalog.{auto_route, contract_def, ddl_of, default_contract, definitions, find_contract, find_queue, find_service, is_on, queue_def, queue_is_on, route_def, service_def, setting}
use Rattle.sb_model.specs.Frames.{destination, far_instance, sent_header}
use Rattle.sb_model.specs.Groups.{far_service}
use Rattle.sb_model.specs.Instance.{Part}
use Rattle.sb_model.specs.Items.{own_end}
use Rattle.sb_model.specs.Matches.{best_by}
use Rattle.sb_model.specs.Messages.{accepted, accepted_content, cleans, content_of_send, end_of_op, ends_side, expires_side, final_content, first_of, is_cleaned, is_closed, is_ended, is_expired, numbered}
use Rattle.sb_model.specs.Routes.{route_fit, route_fits}
use Rattle.sb_model.specs.Sides.{Bytes, Making, has_side, is_of, made, made_by, makings, ops_of, ops_of_entry, partner, same_name, same_side, same_who}
use Rattle.sb_model.specs.Steps.{data_entry, new_handle, to_hand_over}
use Rattle.sb_scan.specs.Seen.{content_seen}
use Rattle.sb_scan.specs.declared.sent.SeenContent.{SeenContent}
use Rattle.sb_instance.specs.Carrying.{IsBehind, IsCarried, next_message, next_unless}
use Rattle.sb_instance.specs.Handing.{HandsOver, carried, carried_for, taken_in}
use Rattle.sb_instance.specs.Running.{running}
use Rattle.sb_instance.specs.declared.carrying.Carrying.{Carrying}
use Rattle.sb_instance.proofs.Handed.{hands_over}

-- ---- tests and options

or_false : (b : Bool) → (b || false) ≡ b
or_false true = refl
or_false false = refl

left_false : (a b : Bool) → (a || b) ≡ false → a ≡ false
left_false true b e = e
left_false false b e = refl

not_false : (b : Bool) → not b ≡ false → b ≡ true
not_false true e = refl
not_false false e = sym e

pub same_map : {A B : Type 0} (f g : A → B) (o : Option A) → ((x : A) → f x ≡ g x) → option_map f o ≡ option_map g o
same_map f g None h = refl
same_map f g (Some x) h = ap Some (h x)

same_map_or : {A : Type 0} (f g : A → Bool) (o : Option A) → ((x : A) → f x ≡ g x) → option_map_or f o false ≡ option_map_or g o false
same_map_or f g None h = refl
same_map_or f g (Some x) h = h x

-- the first of what is left of a list
left_first : {A : Type 0} (k : ℕ) (xs : List A) (x : A) (ys : List A) → drop k xs ≡ x ∷ ys → (slice_get xs k ≡ Some x) × (drop (suc k) xs ≡ ys)
left_first zero [] x ys e = cc
left_first zero (z ∷ xs) x ys e = (cc, cc)
left_first (suc k) [] x ys e = cc
left_first (suc k) (z ∷ xs) x ys e = left_first k xs x ys e

-- ---- sides

both_left : (a b : Bool) → (a && b) ≡ true → a ≡ true
both_left true b e = refl
both_left false b e = e

both_right : (a b : Bool) → (a && b) ≡ true → b ≡ true
both_right true b e = e
both_right false b e = cc

beq_same : (a b : Bool) → beq a b ≡ true → a ≡ b
beq_same true true e = refl
beq_same true false e = cc
beq_same false true e = cc
beq_same false false e = refl

beq_self : (a : Bool) → beq a a ≡ true
beq_self true = refl
beq_self false = refl

sides_same : (a b : SideId) → same_side a b ≡ true → a ≡ b
sides_same a b e =
    let c : a.conversation.0 ≡ b.conversation.0 = eqb-true a.conversation.0 b.conversation.0 (both_left (eqb a.conversation.0 b.conversation.0) (beq a.initiator b.initiator) e) in
    let i : a.initiator ≡ b.initiator = beq_same a.initiator b.initiator (both_right (eqb a.conversation.0 b.conversation.0) (beq a.initiator b.initiator) e) in
    let make : ℕ → Bool → SideId = λ n x. record { conversation = record { 0 = n }; initiator = x } in
    ap (λ n. make n a.initiator) c ∙ ap (make b.conversation.0) i

side_self : (s : SideId) → same_side s s ≡ true
side_self s =
    ap (λ b. b && beq s.initiator s.initiator) (eq-eqb s.conversation.0 s.conversation.0 refl) ∙ beq_self s.initiator

found_by : (b : Bool) (s : SideId) (x m : Making) (behind rest : Option Making) → same_side x.side s ≡ b → (option_or behind rest ≡ Some m → m.side ≡ s)
    → option_or (cond b (Some x) behind) rest ≡ Some m → m.side ≡ s
found_by true s x m behind rest f later e = let same : x ≡ m = cc in ap (λ y. y.side) (sym same) ∙ sides_same x.side s f
found_by false s x m behind rest f later e = later e

found_side : (s : SideId) (ms : List Making) (m : Making) (rest : Option Making) → (rest ≡ Some m → m.side ≡ s) → option_or (find (is_of s) ms) rest ≡ Some m → m.side ≡ s
found_side s [] m rest later e = later e
found_side s (x ∷ ms) m rest later e = found_by (same_side x.side s) s x m (find (is_of s) ms) rest refl (found_side s ms m rest later) e

-- a side is made under its own name
made_side : (log : List Entry) (s : SideId) (m : Making) → made log s ≡ Some m → m.side ≡ s
made_side [] s m e = cc
made_side (x ∷ log) s m e = found_side s (made_by x) m (made log s) (made_side log s m) e

-- ---- a log with one more message, which made no side

abbrev pub longer : List Entry → SideId → ℕ → Content → List Entry
longer log r n c = log ++ Accepted r n None c ∷ []

ops_longer : (log : List Entry) (r : SideId) (n : ℕ) (c : Content) → ops_of (longer log r n c) ≡ ops_of log
ops_longer log r n c = flat_map-append ops_of_entry log (Accepted r n None c ∷ []) ∙ append-nil (ops_of log)

definitions_longer : (log : List Entry) (r : SideId) (n : ℕ) (c : Content) → definitions (longer log r n c) ≡ definitions log
definitions_longer log r n c = flat_map-append ddl_of log (Accepted r n None c ∷ []) ∙ append-nil (definitions log)

makings_longer : (log : List Entry) (r : SideId) (n : ℕ) (c : Content) → makings (longer log r n c) ≡ makings log
makings_longer log r n c = flat_map-append made_by log (Accepted r n None c ∷ []) ∙ append-nil (makings log)

settings_longer : (log : List Entry) (r : SideId) (n : ℕ) (c : Content) (q : Bytes) → flat_map (setting q) (longer log r n c) ≡ flat_map (setting q) log
settings_longer log r n c q = flat_map-append (setting q) log (Accepted r n None c ∷ []) ∙ append-nil (flat_map (setting q) log)

accepted_longer : (log : List Entry) (r : SideId) (n : ℕ) (c : Content) → accepted (longer log r n c) r ≡ accepted log r + 1
accepted_longer log r n c =
    ap length (flat_map-append (accepted_content r) log (Accepted r n None c ∷ []))
    ∙ length-append (flat_map (accepted_content r) log) (accepted_content r (Accepted r n None c) ++ [])
    ∙ ap (λ b. accepted log r + length (cond b (c ∷ []) [] ++ [])) (side_self r)

closed_longer : (log : List Entry) (r : SideId) (n : ℕ) (c : Content) (s : SideId) → is_closed (longer log r n c) s ≡ is_closed log s
closed_longer log r n c s =
    ap (λ ops. (list_any (ends_side s) ops || list_any (cleans s) ops) || is_expired (longer log r n c) s) (ops_longer log r n c)
    ∙ ap (λ b. (is_ended log s || is_cleaned log s) || b) (list_any-append (expires_side s) log (Accepted r n None c ∷ []) ∙ or_false (is_expired log s))

has_longer : (log : List Entry) (r : SideId) (n : ℕ) (c : Content) (s : SideId) → has_side (longer log r n c) s ≡ has_side log s
has_longer log r n c s = ap (list_any (is_of s)) (makings_longer log r n c)

made_longer : (log : List Entry) (r : SideId) (n : ℕ) (c : Content) (s : SideId) → made (longer log r n c) s ≡ made log s
made_longer [] r n c s = refl
made_longer (x ∷ log) r n c s = ap (λ o. option_or (find (is_of s) (made_by x)) o) (made_longer log r n c s)

queue_on_longer : (log : List Entry) (r : SideId) (n : ℕ) (c : Content) (q : Bytes) → queue_is_on (longer log r n c) q ≡ queue_is_on log q
queue_on_longer log r n c q =
    ap (λ ds. unwrap_or (option_map (is_on (longer log r n c)) (find (λ def. same_name def.name q) (flat_map queue_def ds))) false) (definitions_longer log r n c)
    ∙ ap (λ o. unwrap_or o false) (same_map (is_on (longer log r n c)) (is_on log) (find_queue log q) (λ def. ap (λ xs. unwrap_or (last_or None xs) def.on) (settings_longer log r n c def.name)))

-- the queue of a service, by the definitions
abbrev queue_by : List Ddl → Bytes → Option Bytes
queue_by ds name = option_map (λ def. def.queue) (find (λ def. same_name def.name name) (flat_map service_def ds))

-- the queue of the receiving side, by the definitions and by how the side was made
abbrev receiving_by : List Ddl → Bool → Option Making → Data → Option Bytes
receiving_by ds makes m d =
    if makes then queue_by ds d.header.to_service else option_and_then (λ header. queue_by ds (own_end (receiver d) header)) (option_map (λ x. x.header) m)

receiving_longer : (log : List Entry) (r : SideId) (n : ℕ) (c : Content) (d : Data) → receiving_queue (longer log r n c) d ≡ receiving_queue log d
receiving_longer log r n c d =
    ap (λ ds. receiving_by ds (makes_side (longer log r n c) d) (made (longer log r n c) (receiver d)) d) (definitions_longer log r n c)
    ∙ ap (λ b. receiving_by (definitions log) (not b) (made (longer log r n c) (receiver d)) d) (has_longer log r n c (receiver d))
    ∙ ap (λ m. receiving_by (definitions log) (makes_side log d) m d) (made_longer log r n c (receiver d))

contract_longer : (log : List Entry) (r : SideId) (n : ℕ) (c : Content) (name : Bytes) → find_contract (longer log r n c) name ≡ find_contract log name
contract_longer log r n c name = ap (λ ds. find (λ def. same_name def.name name) (default_contract ∷ flat_map contract_def ds)) (definitions_longer log r n c)

-- what a side numbered, by the operations of its log
abbrev numbered_in : List Op → SideId → List Content
numbered_in ops s = flat_map (content_of_send s) ops ++ first_of (flat_map final_content (flat_map (end_of_op s) ops))

numbered_longer : (log : List Entry) (r : SideId) (n : ℕ) (c : Content) (s : SideId) → numbered (longer log r n c) s ≡ numbered log s
numbered_longer log r n c s = ap (λ ops. numbered_in ops s) (ops_longer log r n c)

-- where a side's messages go, by the definitions of the log
abbrev route_by : List Ddl → Who → Making → Who
route_by ds who m =
    unwrap_or (option_and_then (λ r. r.to) (best_by route_fit (filter (route_fits (far_service m.side m.header) (far_instance m)) (auto_route ∷ flat_map route_def ds)))) who

destination_longer : (log : List Entry) (r : SideId) (n : ℕ) (c : Content) (who : Who) (m : Making) → destination who (longer log r n c) m ≡ destination who log m
destination_longer log r n c who m = ap (λ ds. route_by ds who m) (definitions_longer log r n c)

-- ---- the table of acceptance

is_next : Verdict → Bool
is_next Next = true
is_next _ = false

peel : (b : Bool) (v w : Verdict) → is_next v ≡ false → cond b v w ≡ Next → (b ≡ false) × (w ≡ Next)
unfolding is_next
peel true v w e h = absurd (clash (sym e ∙ ap is_next h))
  where
    clash : false ≡ true → ⊥
    clash g = cc
peel false v w e h = (refl, h)

-- what Next says of a message
record IsNext (who : Who) (log : List Entry) (d : Data) : Type 0 where
  for_here : is_for_other who d ≡ false
  makes : makes_side log d ≡ false
  closed : is_closed log (receiver d) ≡ false
  number : d.number ≡ accepted log (receiver d) + 1
  queue : option_map_or (queue_is_on log) (receiving_queue log d) false ≡ true
  contract : is_none (find_contract log d.header.contract) ≡ false

number_next : (n m : ℕ) → nat_le n m ≡ false → nat_lt (m + 1) n ≡ false → n ≡ m + 1
number_next n m e f = grind (arith, nat_tests)

last_row : (b : Bool) → cond b New Next ≡ Next → b ≡ false
last_row true e = cc
last_row false e = refl

rows_of_next : (who : Who) (log : List Entry) (d : Data) → verdict who log d ≡ Next → IsNext who log d
unfolding is_next
rows_of_next who log d h =
    let p1 = peel (is_for_other who d) (NotHere 1) _ refl h in
    let p2 = peel (makes_side log d && (receiver d).initiator) (NotHere 2) _ refl p1.1 in
    let p3 = peel (is_closed log (receiver d)) Gone _ refl p2.1 in
    let p4 = peel (nat_le d.number (accepted log (receiver d))) Repeat _ refl p3.1 in
    let p5 = peel (nat_lt (accepted log (receiver d) + 1) d.number) Early _ refl p4.1 in
    let p6 = peel (makes_side log d && is_none (find_service log d.header.to_service)) (NotHere 3) _ refl p5.1 in
    let p7 = peel (not (option_map_or (queue_is_on log) (receiving_queue log d) false)) (NotHere 4) _ refl p6.1 in
    let p8 = peel (is_none (find_contract log d.header.contract) || (makes_side log d && not (offers log d))) (NotHere 5) _ refl p7.1 in
    let p9 = peel (is_type_refused log d.side d.header.contract d.content) (NotHere 6) _ refl p8.1 in
    record {
      for_here = p1.0;
      makes = last_row (makes_side log d) p9.1;
      closed = p3.0;
      number = number_next d.number (accepted log (receiver d)) p4.0 p5.0;
      queue = not_false (option_map_or (queue_is_on log) (receiving_queue log d) false) p7.0;
      contract = left_false (is_none (find_contract log d.header.contract)) (makes_side log d && not (offers log d)) p8.0;
    }

-- the table where all rows but that of the type are passed
row_next : (a m i c l e s q k o t : Bool) → a ≡ false → m ≡ false → c ≡ false → l ≡ false → e ≡ false → q ≡ true → k ≡ false →
    cond a (NotHere 1) (cond (m && i) (NotHere 2) (cond c Gone (cond l Repeat (cond e Early (cond (m && s) (NotHere 3)
    (cond (not q) (NotHere 4) (cond (k || (m && not o)) (NotHere 5) (cond t (NotHere 6) (cond m New Next))))))))) ≡ next_unless t
row_next a m i c l e s q k o t ea em ec el ee eq ek = rw (ea, em, ec, el, ee, eq, ek) refl

not_le : (n m : ℕ) → m ≡ n → nat_le (suc n) m ≡ false
not_le n m e = grind (arith, nat_tests)

not_lt : (n m : ℕ) → m ≡ n → nat_lt (m + 1) (suc n) ≡ false
not_lt n m e = grind (arith, nat_tests)

-- behind a message that was Next, the next one is Next too, unless its type is refused
next_again : (who : Who) (log : List Entry) (d : Data) (content : Content) → verdict who log d ≡ Next →
    verdict who (longer log (receiver d) d.number d.content) (record { side = d.side; number = suc d.number; header = d.header; content = content })
    ≡ next_unless (is_type_refused (longer log (receiver d) d.number d.content) d.side d.header.contract content)
next_again who log d content h =
    let rows : IsNext who log d = rows_of_next who log d h in
    let r : SideId = receiver d in
    let later : List Entry = longer log r d.number d.content in
    let count : accepted later r ≡ d.number = accepted_longer log r d.number d.content ∙ sym rows.number in
    row_next (is_for_other who d) (makes_side later d) r.initiator (is_closed later r) (nat_le (suc d.number) (accepted later r)) (nat_lt (accepted later r + 1) (suc d.number))
    (is_none (find_service later d.header.to_service)) (option_map_or (queue_is_on later) (receiving_queue later d) false) (is_none (find_contract later d.header.contract)) (offers later d)
    (is_type_refused later d.side d.header.contract content)
    rows.for_here
    (ap not (has_longer log r d.number d.content r) ∙ rows.makes)
    (closed_longer log r d.number d.content r ∙ rows.closed)
    (not_le d.number (accepted later r) count)
    (not_lt d.number (accepted later r) count)
    (ap (λ o. option_map_or (queue_is_on later) o false) (receiving_longer log r d.number d.content d)
    ∙ same_map_or (queue_is_on later) (queue_is_on log) (receiving_queue log d) (queue_on_longer log r d.number d.content) ∙ rows.queue)
    (ap is_none (contract_longer log r d.number d.content d.header.contract) ∙ rows.contract)

-- ---- what is noted

abbrev message_of : SideId → ℕ → Header → Content → Data
message_of s n h c = record { side = s; number = n; header = h; content = c }

-- the message is the side's own
record IsFrom (who : Who) (log : List Entry) (s : SideId) (d : Data) : Type 0 where
  making : Making
  made_is : made log s ≡ Some making
  here : same_who (destination who log making) who ≡ true
  side : d.side ≡ s
  header : d.header ≡ sent_header who making

-- what was noted behind a message is so once that message is taken in
noted_behind : (who : Who) (log : List Entry) (d : Data) (c : Carrying) → IsFrom who log d.side d → verdict who log d ≡ Next → IsBehind log d c
    → IsCarried who (longer log (receiver d) d.number d.content) c
noted_behind who log d c own h b =
    let later : List Entry = longer log (receiver d) d.number d.content in
    let rows : IsNext who log d = rows_of_next who log d h in
    record {
      making = own.making;
      from = ap (made later) b.side ∙ made_longer log (receiver d) d.number d.content d.side ∙ own.made_is;
      here = ap (λ x. same_who x who) (destination_longer log (receiver d) d.number d.content who own.making) ∙ own.here;
      contract = b.contract ∙ ap (λ x. x.contract) own.header;
      rest = b.rest ∙ ap (λ n. drop n (numbered log d.side)) (sym b.number) ∙ ap (λ s. drop c.number (numbered log s)) (sym b.side) ∙ ap (drop c.number) (sym (numbered_longer log (receiver d) d.number d.content c.side));
      there = ap (λ s. has_side later (partner s)) b.side ∙ has_longer log (receiver d) d.number d.content (receiver d) ∙ not_false (has_side log (receiver d)) rows.makes;
      next = λ content. judged content;
    }
  where
    judged : (content : Content) → verdict who (longer log (receiver d) d.number d.content) (next_message who own.making c content)
        ≡ next_unless (is_type_refused (longer log (receiver d) d.number d.content) c.side c.contract content)
    judged content =
        ap (λ s. verdict who (longer log (receiver d) d.number d.content) (message_of s (suc c.number) (sent_header who own.making) content)) b.side
        ∙ ap (λ n. verdict who (longer log (receiver d) d.number d.content) (message_of d.side (suc n) (sent_header who own.making) content)) b.number
        ∙ ap (λ x. verdict who (longer log (receiver d) d.number d.content) (message_of d.side (suc d.number) x content)) (sym own.header)
        ∙ next_again who log d content h
        ∙ ap (λ k. next_unless (is_type_refused (longer log (receiver d) d.number d.content) d.side k content)) (sym b.contract)
        ∙ ap (λ s. next_unless (is_type_refused (longer log (receiver d) d.number d.content) s c.contract content)) (sym b.side)

from_found : (who : Who) (log : List Entry) (s : SideId) (k : ℕ) (o : Option Making) (d : Data) → made log s ≡ o → Some d ≡ option_and_then (carried_for who log s k) o → IsFrom who log s d
from_found who log s k None d is e = cc
from_found who log s k (Some m) d is e = by_here (same_who (destination who log m) who) refl e
  where
    by_place : (o : Option Content) → same_who (destination who log m) who ≡ true → Some d ≡ option_map (message_of m.side (suc k) (sent_header who m)) o → IsFrom who log s d
    by_place None h f = cc
    by_place (Some c) h f =
        let same : d ≡ message_of m.side (suc k) (sent_header who m) c = cc in
        record { making = m; made_is = is; here = h; side = ap (λ x. x.side) same ∙ made_side log s m is; header = ap (λ x. x.header) same }

    by_here : (b : Bool) → same_who (destination who log m) who ≡ b → Some d ≡ cond b (option_map (message_of m.side (suc k) (sent_header who m)) (slice_get (numbered log s) k)) None → IsFrom who log s d
    by_here true h f = by_place (slice_get (numbered log s) k) h f
    by_here false h f = cc

found_from : (who : Who) (log : List Entry) (s : SideId) (n : ℕ) (d : Data) → Some d ≡ carried who log s n → IsFrom who log s d
found_from who log s zero d e = cc
found_from who log s (suc k) d e = from_found who log s k (made log s) d refl e

own_of : (who : Who) (log : List Entry) (s : SideId) (d : Data) → IsFrom who log s d → IsFrom who log d.side d
own_of who log s d own = record { making = own.making; made_is = ap (made log) own.side ∙ own.made_is; here = own.here; side = refl; header = own.header }

entry_is : (p : Part) (d : Data) → makes_side p.log d ≡ false → data_entry p d ≡ Accepted (receiver d) d.number None d.content
entry_is p d e = ap (λ b. Accepted (receiver d) d.number (cond b (Some (record { handle = new_handle p 0; group = new_handle p 1; header = d.header })) None) d.content) e

-- what was noted of the side of a message that was found in the log
noted_found : (before middle : Part) (who : Who) (log : List Entry) (next tx : ℕ) (who2 : Who) (log2 : List Entry) (next2 tx2 : ℕ) (s : SideId) (n : ℕ) (d : Data) (v : Verdict) (noted : Option Carrying) →
    running who log next tx ≡ before → Some d ≡ carried who log s n → v ≡ verdict who log d → middle ≡ taken_in before d v → running who2 log2 next2 tx2 ≡ middle →
    IfSome noted (λ c. v ≡ Next) → IfSome noted (IsBehind log d) → IfSome noted (IsCarried who2 log2)
noted_found before middle who log next tx who2 log2 next2 tx2 s n d v None is found judged taken again given behind = tt
noted_found before middle who log next tx who2 log2 next2 tx2 s n d v (Some c) is found judged taken again given behind =
    let own : IsFrom who log d.side d = own_of who log s d (found_from who log s n d found) in
    let next_is : verdict who log d ≡ Next = sym judged ∙ given in
    let rows : IsNext who log d = rows_of_next who log d next_is in
    let left : running who2 log2 next2 tx2 ≡ taken_in (running who log next tx) d Next = again ∙ taken ∙ ap (λ p. taken_in p d v) (sym is) ∙ ap (taken_in (running who log next tx) d) given in
    let log_is : log2 ≡ longer log (receiver d) d.number d.content = ap (λ p. p.log) left ∙ ap (λ e. log ++ e ∷ []) (entry_is (running who log next tx) d rows.makes) in
    let who_is : who2 ≡ who = ap (λ p. p.who) left in
    subst (λ w. IsCarried w log2 c) (sym who_is) (subst (λ l. IsCarried who l c) (sym log_is) (noted_behind who log d c own next_is behind))

pub noted_first : (before middle : Part) (who : Who) (log seen : List Entry) (next tx : ℕ) (who2 : Who) (log2 : List Entry) (next2 tx2 : ℕ) (s : SideId) (n : ℕ) (d : Data) (v : Verdict) (noted : Option Carrying) →
    running who log next tx ≡ before → seen ≡ log → Some d ≡ carried who seen s n → v ≡ verdict who seen d → middle ≡ taken_in before d v → running who2 log2 next2 tx2 ≡ middle →
    IfSome noted (λ c. v ≡ Next) → IfSome noted (IsBehind seen d) → IfSome noted (IsCarried who2 log2)
noted_first before middle who log seen next tx who2 log2 next2 tx2 s n d v noted is sees found judged taken again given behind =
    noted_found before middle who log next tx who2 log2 next2 tx2 s n d v noted is
    (subst (λ l. Some d ≡ carried who l s n) sees found) (subst (λ l. v ≡ verdict who l d) sees judged) taken again given
    (subst (λ l. IfSome noted (IsBehind l d)) sees behind)

-- ---- the next message of a side that was noted

next_found : (who : Who) (log : List Entry) (c : Carrying) (n : ℕ) (content : Content) (more : List Content) (k : IsCarried who log c) → n ≡ c.number + 1 → c.rest.items ≡ content ∷ more →
    Some (next_message who k.making c content) ≡ carried who log c.side n
next_found who log c n content more k is rest =
    let place = left_first c.number (numbered log c.side) content more (sym k.rest ∙ rest) in
    let number : n ≡ suc c.number = is ∙ add-one c.number in
    sym (ap (carried who log c.side) number
    ∙ ap (option_and_then (carried_for who log c.side c.number)) k.from
    ∙ ap (λ b. cond b (option_map (message_of k.making.side (suc c.number) (sent_header who k.making)) (slice_get (numbered log c.side) c.number)) None) k.here
    ∙ ap (option_map (message_of k.making.side (suc c.number) (sent_header who k.making))) place.0
    ∙ ap (λ s. Some (message_of s (suc c.number) (sent_header who k.making) content)) (made_side log c.side k.making k.from))

of_inside : (before : Part) (who : Who) (log : List Entry) (next tx : ℕ) (c : Carrying) → running who log next tx ≡ before → IsCarried before.who before.log c → IsCarried who log c
of_inside before who log next tx c is k = subst (λ (p : Part). IsCarried p.who p.log c) (sym is) k

pub hands_next : (before after : Part) (who : Who) (log seen : List Entry) (next tx : ℕ) (c : Carrying) (n : ℕ) (content : Content) (more : List Content) →
    running who log next tx ≡ before → seen ≡ log → IsCarried before.who before.log c → n ≡ c.number + 1 → c.rest.items ≡ content ∷ more →
    is_type_refused seen c.side c.contract content ≡ false → after ≡ running who (longer log (partner c.side) n content) next tx → HandsOver before (to_hand_over before c.side n) Next after
hands_next before after who log seen next tx c n content more is sees known number rest passes left =
    let k : IsCarried who log c = of_inside before who log next tx c is known in
    let d : Data = next_message who k.making c content in
    let n_is : n ≡ suc c.number = number ∙ add-one c.number in
    let none : makes_side log d ≡ false = ap not k.there in
    hands_over before who log log next tx c.side n d Next after is refl (next_found who log c n content more k number rest)
    (sym (k.next content ∙ ap (λ l. next_unless (is_type_refused l c.side c.contract content)) (sym sees) ∙ ap next_unless passes))
    (left ∙ ap (λ m. running who (longer log (partner c.side) m content) next tx) n_is
    ∙ ap (λ e. running who (log ++ e ∷ []) next tx) (sym (entry_is (running who log next tx) d none))
    ∙ ap (λ p. taken_in p d Next) is)

pub refuses_next : (before after : Part) (who : Who) (log seen : List Entry) (next tx : ℕ) (c : Carrying) (n : ℕ) (content : Content) (more : List Content) →
    running who log next tx ≡ before → seen ≡ log → IsCarried before.who before.log c → n ≡ c.number + 1 → c.rest.items ≡ content ∷ more →
    is_type_refused seen c.side c.contract content ≡ true → after ≡ before → HandsOver before (to_hand_over before c.side n) (NotHere 6) after
refuses_next before after who log seen next tx c n content more is sees known number rest refused left =
    let k : IsCarried who log c = of_inside before who log next tx c is known in
    let d : Data = next_message who k.making c content in
    hands_over before who log log next tx c.side n d (NotHere 6) after is refl (next_found who log c n content more k number rest)
    (sym (k.next content ∙ ap (λ l. next_unless (is_type_refused l c.side c.contract content)) (sym sees) ∙ ap next_unless refused)) left

-- what was noted goes on being so behind it
pub noted_next : (before : Part) (who : Who) (log seen log2 : List Entry) (next tx : ℕ) (c c2 : Carrying) (n : ℕ) (content : Content) (more : List Content) →
    running who log next tx ≡ before → seen ≡ log → IsCarried before.who before.log c → n ≡ c.number + 1 → c.rest.items ≡ content ∷ more →
    is_type_refused seen c.side c.contract content ≡ false → log2 ≡ longer log (partner c.side) n content →
    c2.side ≡ c.side → c2.number ≡ n → c2.contract ≡ c.contract → c2.rest.items ≡ more → IsCarried who log2 c2
noted_next before who log seen log2 next tx c c2 n content more is sees known number rest passes left side_is number_is contract_is rest_is =
    let k : IsCarried who log c = of_inside before who log next tx c is known in
    let d : Data = next_message who k.making c content in
    let n_is : n ≡ suc c.number = number ∙ add-one c.number in
    let place = left_first c.number (numbered log c.side) content more (sym k.rest ∙ rest) in
    let own : IsFrom who log d.side d = record { making = k.making; made_is = k.from; here = k.here; side = refl; header = refl } in
    let next_is : verdict who log d ≡ Next = k.next content ∙ ap (λ l. next_unless (is_type_refused l c.side c.contract content)) (sym sees) ∙ ap next_unless passes in
    let behind : IsBehind log d c2 = record { side = side_is; number = number_is ∙ n_is; contract = contract_is ∙ k.contract; rest = rest_is ∙ sym place.1 } in
    subst (λ l. IsCarried who l c2) (sym (left ∙ ap (λ m. longer log (partner c.side) m content) n_is)) (noted_behind who log d c2 own next_is behind)

-- ---- the messages behind so many

pub behind_step : (all : List SeenContent) (i : ℕ) (m : SeenContent) (rest more : List Content) → i < length all → m ≡ get_or all i m → more ≡ rest ++ content_seen m ∷ []
    → more ++ map content_seen (drop (i + 1) all) ≡ rest ++ map content_seen (drop i all)
behind_step all i m rest more h at pushed =
    ap (λ xs. xs ++ map content_seen (drop (i + 1) all)) pushed
    ∙ append_assoc rest (content_seen m ∷ []) (map content_seen (drop (i + 1) all))
    ∙ ap (λ x. rest ++ content_seen x ∷ map content_seen (drop (i + 1) all)) at
    ∙ ap (λ xs. rest ++ xs) (sym (at_drop_more (λ ms. map content_seen ms) all i m h))

map_drop : {A B : Type 0} (f : A → B) (k : ℕ) (xs : List A) → map f (drop k xs) ≡ drop k (map f xs)
map_drop f zero [] = refl
map_drop f zero (x ∷ xs) = refl
map_drop f (suc k) [] = refl
map_drop f (suc k) (x ∷ xs) = map_drop f k xs

pub behind_all : (messages all : List SeenContent) (numbered_by : List Content) (i count : ℕ) (rest : List Content) → all ≡ messages → map content_seen messages ≡ numbered_by → length all ≤ i
    → rest ++ map content_seen (drop i all) ≡ map content_seen (drop count all) → rest ≡ drop count numbered_by
behind_all messages all numbered_by i count rest sees is past so_far =
    sym (append-nil rest) ∙ ap (λ xs. rest ++ map content_seen xs) (sym (drop_all i all past)) ∙ so_far ∙ map_drop content_seen count all
    ∙ ap (λ xs. drop count (map content_seen xs)) sees ∙ ap (drop count) is
