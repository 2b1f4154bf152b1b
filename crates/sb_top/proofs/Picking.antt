-- Each RECEIVE of a legal history gives what is picked.
use Rattle.std.proofs.Common.{◌≡◌, ℕ, zero, suc, cond, eq-eqb, ◌+◌, Bool, true, false, List, [], ◌∷◌, ◌++◌, Option, Some, None, Ok, Err, refl, sym, ap, ◌∙◌, append-nil}
use Rattle.std.specs.Prelude.{ℤ, pos, negsuc, nat_abs, filter, find, map, if◌then◌else◌, not, option_and_then, option_map}
use Rattle.sb_log.specs.declared.entries.Entry.{Entry}
use Rattle.sb_log.specs.declared.identifiers.Who.{Who}
use Rattle.sb_log.specs.declared.identifiers.Who.TheVariants.{A}
use Rattle.sb_log.specs.declared.identifiers.Actor.{Actor}
use Rattle.sb_log.specs.declared.identifiers.Actor.TheVariants as actor
use Rattle.std.specs.Option.{option_eq}
use Rattle.sb_log.specs.declared.identifiers.Handle.{Handle}
use Rattle.sb_log.specs.declared.messages.Item.{Item}
use Rattle.sb_log.specs.declared.refusals.Refusal.{Refusal}
use Rattle.sb_log.specs.declared.refusals.Refusal.TheVariants as refusal
use Rattle.sb_log.specs.declared.requests.Filter.{Filter}
use Rattle.sb_log.specs.declared.requests.Filter.TheVariants as filters
use Rattle.sb_log.specs.declared.requests.Reply.{Reply}
use Rattle.sb_log.specs.declared.requests.Reply.TheVariants as reply
use Rattle.sb_log.specs.declared.requests.Request.TheVariants as request
use Rattle.sb_log.specs.declared.steps.Answer.{Answer}
use Rattle.sb_log.specs.declared.steps.Answer.TheVariants as answer
use Rattle.sb_log.specs.declared.steps.Event.{Event}
use Rattle.sb_log.specs.declared.steps.Event.TheVariants as event
use Rattle.sb_log.specs.declared.steps.Step.{Step}
use Rattle.sb_model.specs.Histories.{Gives, Legal, next, world_of as world_after}
use Rattle.sb_model.specs.Instance.{Luck, Works, Fails, Part, Done, append, append_to, written, luck_at, no_room, refused}
use Rattle.sb_model.specs.Groups.{group_of}
use Rattle.sb_model.specs.Pick.{Pick, first_items, pick_first}
use Rattle.sb_model.specs.Catalog.{find_queue, is_on}
use Rattle.sb_model.specs.Refusals.{need, refuse_if, unless_refused, when}
use Rattle.sb_model.specs.Replies.{Ask, Plan, Planned, given_item, plan, planned, receive, received, seen, with_filter, with_open_queue, with_optional_number}
use Rattle.sb_model.specs.Sides.{Bytes, same_id}
use Rattle.sb_model.specs.Statements.{at_once, ask, commit_counts, draws, drew_tx, is_session, planned_step, session_open, session_step, txn_entries}
use Rattle.sb_model.specs.Steps.{World, step}
use Rattle.sb_model.specs.Transactions.{OpenTransaction, view}
use Rattle.sb_top.specs.Laws.{GivesPick, GivesPickAt, GivesPickBy, PicksThroughout, picked}
use Rattle.sb_top.specs.Runs.{IsPlain, IsQuiet}

-- a plan that isn't refused is that of the rest
record Through (x y : Planned) : Type 0 where
  pub through : (k : Plan) → x ≡ Ok k → y ≡ Ok k

need_through : {X : Type 0} (o : Option X) (r : Refusal) (rest : X → Planned) (y : Planned) → ((x : X) → Through (rest x) y) → Through (need o r rest) y
need_through None r rest y h = record { through = λ k e. cc }
need_through (Some x) r rest y h = h x

refuse_through : (b : Bool) (r : Refusal) (rest y : Planned) → Through rest y → Through (refuse_if b r rest) y
refuse_through true r rest y h = record { through = λ k e. cc }
refuse_through false r rest y h = h

unless_through : (o : Option Refusal) (rest y : Planned) → Through rest y → Through (unless_refused o rest) y
unless_through None rest y h = h
unless_through (Some r) rest y h = record { through = λ k e. cc }

number_through : (top : Option ℤ) (rest y : Planned) → Through rest y → Through (with_optional_number top rest) y
number_through None rest y h = h
number_through (Some z) rest y h = refuse_through _ _ rest y h

-- TOP is at least 1 where it stands
abbrev IsRoom : Option ℕ → Type 0
IsRoom n = n ≡ Some 0 → ⊥

-- TOP that isn't refused is at least 1
top_there : (top : Option ℤ) (rest : Planned) (k : Plan) → with_optional_number top rest ≡ Ok k → IsRoom (option_map nat_abs top)
top_there None rest k is e = cc
top_there (Some (pos zero)) rest k is e = cc
top_there (Some (pos (suc n))) rest k is e = cc
top_there (Some (negsuc n)) rest k is e = cc

filter_through : (a : Ask) (filter_by : Filter) (rest y : Planned) → Through rest y → Through (with_filter a filter_by rest) y
filter_through a (filters.Side handle) rest y h = need_through _ _ (λ s. rest) y (λ s. h)
filter_through a _ rest y h = h

receive_through : (p : Part) (now : ℕ) (queue : Bytes) (top : Option ℤ) (filter_by : Filter)
    → Through (receive (ask p p.next_tx now) queue top filter_by) (received (ask p p.next_tx now) queue (picked p queue top filter_by))
receive_through p now queue top filter_by =
    let a = ask p p.next_tx now in
    let found = received a queue (picked p queue top filter_by) in
    need_through (find_queue (seen a) queue) (refusal.NoQueue queue) (λ def. with_optional_number top (with_filter a filter_by (with_open_queue a queue found))) found
    (λ def. number_through top (with_filter a filter_by (with_open_queue a queue found)) found (filter_through a filter_by (with_open_queue a queue found) found
    (unless_through (option_and_then (λ d. when (not (is_on (seen a) d)) (refusal.QueueOff queue)) (find_queue (seen a) queue)) found found (record { through = λ k e. e }))))

-- RECEIVE's plan comes behind the test of TOP
receive_tests : (p : Part) (now : ℕ) (queue : Bytes) (top : Option ℤ) (filter_by : Filter) (k : Plan) → receive (ask p p.next_tx now) queue top filter_by ≡ Ok k → IsRoom (option_map nat_abs top)
receive_tests p now queue top filter_by k is =
    let a = ask p p.next_tx now in
    let rest = with_optional_number top (with_filter a filter_by (with_open_queue a queue (received a queue (picked p queue top filter_by)))) in
    let tested = need_through (find_queue (seen a) queue) (refusal.NoQueue queue) (λ def. rest) rest (λ def. record { through = λ l e. e }) in
    top_there top (with_filter a filter_by (with_open_queue a queue (received a queue (picked p queue top filter_by)))) k (tested.through k is)

-- ---- a pick has an item

first_there : (n : Option ℕ) (x : Item) (xs : List Item) → IsRoom n → first_items n (x ∷ xs) ≡ [] → ⊥
first_there None x xs room e = cc
first_there (Some zero) x xs room e = room refl
first_there (Some (suc n)) x xs room e = cc

kept_there : (n : Option ℕ) (b : Bool) (x : Item) (xs : List Item) → b ≡ true → IsRoom n → first_items n (cond b (x ∷ xs) xs) ≡ [] → ⊥
kept_there n true x xs is room e = first_there n x xs room e
kept_there n false x xs is room e = cc

same_id_true : (g : Handle) → same_id g g ≡ true
same_id_true g = eq-eqb g.0 g.0 refl

abbrev items_in : Option Pick → List Item
items_in None = []
items_in (Some k) = k.items

picked_items : (j k : Pick) → Some j ≡ Some k → j.items ≡ k.items
picked_items j k e = ap (λ o. items_in o) e

pick_there : (log : List Entry) (n : Option ℕ) (xs : List Item) (k : Pick) → IsRoom n → pick_first log n xs ≡ Some k → k.items ≡ [] → ⊥
pick_there log n [] k room is e = cc
pick_there log n (x ∷ xs) k room is e = by_group (group_of log x.side) refl is
  where
    by_group : (o : Option Handle) → group_of log x.side ≡ o
        → option_map (λ g. record { group = g; items = first_items n (filter (λ item. option_eq same_id (group_of log item.side) (Some g)) (x ∷ xs)) }) o ≡ Some k → ⊥
    by_group None found f = cc
    by_group (Some g) found f =
        let one : Some (record { group = g; items = first_items n (filter (λ item. option_eq same_id (group_of log item.side) (Some g)) (x ∷ xs)) }) ≡ Some k = f in
        let items : first_items n (filter (λ item. option_eq same_id (group_of log item.side) (Some g)) (x ∷ xs)) ≡ [] = picked_items _ k one ∙ e in
        kept_there n (option_eq same_id (group_of log x.side) (Some g)) x (filter (λ item. option_eq same_id (group_of log item.side) (Some g)) xs)
        (ap (λ o. option_eq same_id o (Some g)) found ∙ same_id_true g) room items

-- ---- what is written of it

written_told : (luck : Luck) (p : Part) (es : List Entry) (told : Answer) (after : Part) (given : Reply) → luck ≡ Works → (written luck p es told after).answer ≡ answer.Replied given
    → (told ≡ answer.Replied given) × ((written luck p es told after).part.log ≡ after.log ++ es)
written_told Works p es told after given is e = (e, refl)
written_told Fails p es told after given is e = cc

luck_works : (end : Option ℕ) → luck_at end Works ≡ Works
luck_works None = refl
luck_works (Some n) = refl

room_told : (p : Part) (es : List Entry) (told : Answer) (after : Part) (room : Option Refusal) (given : Reply) → (append_to Works p es told after room).answer ≡ answer.Replied given
    → (told ≡ answer.Replied given) × ((append_to Works p es told after room).part.log ≡ after.log ++ es)
room_told p es told after None given e = written_told (luck_at p.end Works) p es told after given (luck_works p.end) e
room_told p es told after (Some r) given e = cc

append_told : (p : Part) (es : List Entry) (told : Answer) (after : Part) (given : Reply) → (append Works p es told after).answer ≡ answer.Replied given
    → (told ≡ answer.Replied given) × ((append Works p es told after).part.log ≡ after.log ++ es)
append_told p [] told after given e = (e, sym (append-nil after.log))
append_told p (x ∷ xs) told after given e = room_told p (x ∷ xs) told after (no_room p (x ∷ xs)) given e

-- the reply and the entry of a plan
at_once_told : (p : Part) (tx : ℕ) (planned : Planned) (given : Reply) → (at_once Works p tx planned).answer ≡ answer.Replied given
    → (k : Plan) × (planned ≡ Ok k) × (k.reply ≡ given) × ((at_once Works p tx planned).part.log ≡ p.log ++ txn_entries tx k.ops)
at_once_told p tx (Err r) given e = cc
at_once_told p tx (Ok k) given e =
    let told = append_told p (txn_entries tx k.ops) (answer.Replied k.reply) (draws (commit_counts p k.ops) k.drawn) given e in
    let same : k.reply ≡ given = cc told.0 in
    (k, refl, same, told.1)

items_given : (a : Ask) (items : List Item) → map (λ r. r.item) (map (given_item a) items) ≡ items
items_given a [] = refl
items_given a (x ∷ xs) = ap (λ ys. x ∷ ys) (items_given a xs)

-- what the plan of a pick tells and writes
record Tells (p : Part) (queue : Bytes) (o : Option Pick) (k : Plan) : Type 0 where
  pub tells : (given : Reply) (later : List Entry) → ((l : Pick) → o ≡ Some l → l.items ≡ [] → ⊥) → k.reply ≡ given → later ≡ p.log ++ txn_entries p.next_tx k.ops → GivesPick p later queue o given

received_tells : (p : Part) (now : ℕ) (queue : Bytes) (o : Option Pick) → (k : Plan) × (received (ask p p.next_tx now) queue o ≡ Ok k) × Tells p queue o k
received_tells p now queue None = (_, refl, record { tells = λ given later never same is. (sym same, is ∙ append-nil p.log) })
received_tells p now queue (Some found) =
    (_, refl, record { tells = λ given later never same is. (map (given_item (ask p p.next_tx now)) found.items, sym same, (λ none. never found refl (sym (items_given (ask p p.next_tx now) found.items) ∙ ap (λ rs. map (λ r. r.item) rs) none)), items_given (ask p p.next_tx now) found.items, is) })

same_plan : (k l : Plan) (x : Planned) → x ≡ Ok k → x ≡ Ok l → k ≡ l
same_plan k l x e f = cc

received_gives : (p : Part) (now : ℕ) (queue : Bytes) (o : Option Pick) (k : Plan) (given : Reply) (later : List Entry) → ((l : Pick) → o ≡ Some l → l.items ≡ [] → ⊥) → received (ask p p.next_tx now) queue o ≡ Ok k
    → k.reply ≡ given → later ≡ p.log ++ txn_entries p.next_tx k.ops → GivesPick p later queue o given
received_gives p now queue o k given later never e same is =
    let found = received_tells p now queue o in
    let one : found.0 ≡ k = same_plan found.0 k (received (ask p p.next_tx now) queue o) found.1 e in
    found.2.tells given later never (ap (λ x. x.reply) one ∙ same) (is ∙ ap (λ x. p.log ++ txn_entries p.next_tx x.ops) (sym one))

-- ---- at a step

planned_gives : (p : Part) (now : ℕ) (queue : Bytes) (top : Option ℤ) (filter_by : Filter) (o : Option OpenTransaction) (given : Reply) → o ≡ None
    → (planned_step Works p now (request.Receive queue top filter_by) o).answer ≡ answer.Replied given
    → GivesPick p (planned_step Works p now (request.Receive queue top filter_by) o).part.log queue (picked p queue top filter_by) given
planned_gives p now queue top filter_by (Some x) given is e = cc
planned_gives p now queue top filter_by None given is e =
    let told = at_once_told (drew_tx p) p.next_tx (plan (ask p p.next_tx now) (request.Receive queue top filter_by)) given e in
    received_gives p now queue (picked p queue top filter_by) told.0 given _ (λ l. pick_there (view p.log p.open_txns p.next_tx) (option_map nat_abs top) _ l (receive_tests p now queue top filter_by told.0 told.1)) ((receive_through p now queue top filter_by).through told.0 told.1) told.2 told.3

up_gives : (b : Bool) (p : Part) (d : Done) (queue : Bytes) (o : Option Pick) (given : Reply) → b ≡ true → (d.answer ≡ answer.Replied given → GivesPick p d.part.log queue o given)
    → (if b then d else refused p (refusal.Down p.who)).answer ≡ answer.Replied given
    → GivesPick p (if b then d else refused p (refusal.Down p.who)).part.log queue o given
up_gives true p d queue o given is gives e = gives e
up_gives false p d queue o given is gives e = cc

none_open : (p : Part) (n : ℕ) → IsPlain p → session_open p n ≡ None
none_open p n plain = ap (λ u. find (is_session n) u) plain.closed

receive_gives : (p : Part) (n now : ℕ) (queue : Bytes) (top : Option ℤ) (filter_by : Filter) (given : Reply) → IsPlain p
    → (session_step Works p n now (request.Receive queue top filter_by)).answer ≡ answer.Replied given
    → GivesPick p (session_step Works p n now (request.Receive queue top filter_by)).part.log queue (picked p queue top filter_by) given
receive_gives p n now queue top filter_by given plain e =
    up_gives p.up p (planned_step Works p now (request.Receive queue top filter_by) (session_open p n)) queue (picked p queue top filter_by) given plain.up
    (planned_gives p now queue top filter_by (session_open p n) given (none_open p n plain)) e

gives_case : (w : World) (x : Who) (n : ℕ) (ev : Event) (given : Answer) → IsPlain w.a
    → Gives (step w (actor.Session (record { instance = x; number = n })) ev given) (record { who = actor.Session (record { instance = x; number = n }); event = ev; answer = given })
    → GivesPickAt w (world_after w (step w (actor.Session (record { instance = x; number = n })) ev given)) x ev given
gives_case w A n (event.Asked (request.Receive queue top filter_by)) (answer.Replied given) plain g = receive_gives w.a n w.moment queue top filter_by given plain g
gives_case w _ n _ _ plain g = tt

gives_by : (w : World) (who : Actor) (ev : Event) (given : Answer) → IsPlain w.a → Gives (step w who ev given) (record { who = who; event = ev; answer = given })
    → GivesPickBy w (world_after w (step w who ev given)) who ev given
gives_by w (actor.Session s) ev given plain g = gives_case w s.instance s.number ev given plain g
gives_by w _ ev given plain g = tt

pub picks_throughout : (w : World) (steps : List Step) → IsPlain w.a → Legal w steps → IsQuiet w steps → PicksThroughout w steps
picks_throughout w [] plain legal quiet = tt
picks_throughout w (s ∷ steps) plain legal quiet =
    (gives_by w s.who s.event s.answer plain legal.0, picks_throughout (next w s) steps quiet.2 legal.1 quiet.3)
