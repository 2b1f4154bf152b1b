-- Application messages: what a side numbered, what it accepted and what its items give.
use Rattle.std.proofs.Common.{◌≡◌, ℕ, Bool, true, false, List, [], ◌∷◌, ◌++◌, ◌+◌, Option, Some, None, refl, sym, ◌∙◌, ap, arith, cond, ◌≤◌}
use Rattle.std.specs.Prelude.{flat_map, filter, filter_map, find, map, not, ◌==◌, ⊤, ◌||◌}
use Rattle.std.proofs.lemmas.Bool.{ne_eqb, eq-eqb}
use Rattle.std.specs.List.{cons_option, AllByRecursion, list_any}
use Rattle.std.proofs.lemmas.Grind.{flat_map-append}
use Rattle.std.proofs.lemmas.List.Elements.{filter-append, filter_map-append}
use Rattle.sb_model.specs.Links.{ReceivesInOrder}
use Rattle.sb_laws.proofs.Growth.{prefix_trans}
use Rattle.sb_log.specs.declared.identifiers.SideId.{SideId}
use Rattle.sb_log.specs.declared.entries.Entry.{Entry}
use Rattle.sb_log.specs.declared.entries.Entry.TheVariants.{Defined, Txn, Accepted, Acked, Fired, Expired, QueueSet}
use Rattle.sb_log.specs.declared.entries.Op.{Op}
use Rattle.sb_log.specs.declared.entries.Op.TheVariants.{Begin, Send, Took, End, Cleanup, Move, Timer, Put, Delete}
use Rattle.sb_log.specs.declared.entries.Final.{Final}
use Rattle.sb_log.specs.declared.entries.Final.TheVariants as final
use Rattle.sb_log.specs.declared.messages.Content.{Content}
use Rattle.sb_log.specs.declared.messages.Content.TheVariants as content
use Rattle.sb_log.specs.declared.messages.Item.{Item}
use Rattle.sb_model.specs.Sides.{Bytes, same_side, partner}
use Rattle.sb_model.specs.Sides.{ops_of}
use Rattle.sb_model.specs.Messages.{sends, ends, content_of_send, accepted_content, contents_accepted}
use Rattle.sb_model.specs.Items.{items_from, item_of, next_number, items, received_content}
use Rattle.sb_model.specs.Messages.{numbered, final_sent, final_content, first_of}
use Rattle.sb_model.specs.States.{is_final}
use Rattle.sb_model.specs.Survival.{IsPrefixOf}
use Rattle.sb_model.specs.Links.{numbers_of, is_item_of, TakenInOrder}
use Rattle.sb_model.specs.Items.{taken, receives}

abbrev pub is_app : Content → Bool
is_app c = not (is_final c)

app_if : (b : Bool) (k : Bytes) (body : Option Bytes) →
    filter is_app (cond b (content.App k body ∷ []) []) ≡ cond b (content.App k body ∷ []) []
app_if true k body = refl
app_if false k body = refl

send_is_app : (s : SideId) (op : Op) → filter is_app (content_of_send s op) ≡ content_of_send s op
send_is_app s (Send side k body) = app_if (same_side side s) k body
send_is_app s (Begin a b c) = refl
send_is_app s (Took a b) = refl
send_is_app s (End a b) = refl
send_is_app s (Cleanup a) = refl
send_is_app s (Move a b) = refl
send_is_app s (Timer a b) = refl
send_is_app s (Put a b c d) = refl
send_is_app s (Delete a b) = refl

filter-sends_of : (s : SideId) (ops : List Op) → filter is_app (flat_map (content_of_send s) ops) ≡ flat_map (content_of_send s) ops
filter-sends_of s [] = refl
filter-sends_of s (op ∷ ops) =
    filter-append is_app (content_of_send s op) (flat_map (content_of_send s) ops)
    ∙ ap (λ l. l ++ filter is_app (flat_map (content_of_send s) ops)) (send_is_app s op)
    ∙ ap (λ l. content_of_send s op ++ l) (filter-sends_of s ops)

filter-final : (ends : List Final) → filter is_app (first_of (flat_map final_content ends)) ≡ []
filter-final [] = refl
filter-final (final.Silent ∷ ends) = filter-final ends
filter-final (final.EndDialog ∷ ends) = refl
filter-final (final.Error code text ∷ ends) = refl

append-nil : {A : Type 0} (xs : List A) → xs ++ [] ≡ xs
append-nil [] = refl
append-nil (x ∷ xs) = ap (λ l. x ∷ l) (append-nil xs)

-- the application messages among the numbered ones are the sends
pub filter-numbered : (log : List Entry) (s : SideId) → filter is_app (numbered log s) ≡ sends log s
filter-numbered log s =
    filter-append is_app (sends log s) (final_sent log s)
    ∙ ap (λ l. l ++ filter is_app (final_sent log s)) (filter-sends_of s (ops_of log))
    ∙ ap (λ l. sends log s ++ l) (filter-final (ends log s))
    ∙ append-nil (sends log s)

pub prefix-filter : {A : Type 0} (p : A → Bool) (xs ys : List A) → IsPrefixOf xs ys → IsPrefixOf (filter p xs) (filter p ys)
prefix-filter p xs ys h = (filter p h.0, sym (filter-append p xs h.0) ∙ ap (filter p) h.1)

-- what was accepted begins what was numbered, so its application messages begin the sends
pub accepted_apps : (lx ly : List Entry) (s : SideId) →
    IsPrefixOf (contents_accepted ly (partner s)) (numbered lx s) → IsPrefixOf (filter is_app (contents_accepted ly (partner s))) (sends lx s)
accepted_apps lx ly s h = rw filter-numbered at (prefix-filter is_app (contents_accepted ly (partner s)) (numbered lx s) h)

-- ---- the items of a side give the application messages that it accepted

abbrev item_apps : SideId → Option Item → List Content
item_apps s None = []
item_apps s (Some item) = received_content s item

flat_map-cons_option : (s : SideId) (o : Option Item) (xs : List Item) →
    flat_map (received_content s) (cons_option o xs) ≡ item_apps s o ++ flat_map (received_content s) xs
flat_map-cons_option s None xs = refl
flat_map-cons_option s (Some x) xs = refl

both_nothing : (b : Bool) → (let x : List Content = cond b [] [] in x) ≡ []
both_nothing true = refl
both_nothing false = refl

accepted_app : (b : Bool) (s side : SideId) (n : ℕ) (c : Content) →
    same_side side s ≡ b → item_apps s (item_of n (Accepted side n None c)) ≡ filter is_app (cond b (c ∷ []) [])
accepted_app true s side n (content.App k body) e = rw e refl
accepted_app true s side n content.EndDialog e = rw e refl
accepted_app true s side n (content.Error code text) e = rw e refl
accepted_app false s side n c e = rw e refl

entry_apps : (s : SideId) (n : ℕ) (e : Entry) → item_apps s (item_of n e) ≡ filter is_app (accepted_content s e)
entry_apps s n (Accepted side number made c) = accepted_app (same_side side s) s side n c refl
entry_apps s n (Fired side) = both_nothing (same_side side s)
entry_apps s n (Expired side) = both_nothing (same_side side s)
entry_apps s n (Defined a) = refl
entry_apps s n (Txn a b) = refl
entry_apps s n (Acked a b c) = refl
entry_apps s n (QueueSet a b) = refl

pub items_from_apps : (s : SideId) (n : ℕ) (log : List Entry) →
    flat_map (received_content s) (items_from n log) ≡ filter is_app (contents_accepted log s)
items_from_apps s n [] = refl
items_from_apps s n (e ∷ log) =
    flat_map-cons_option s (item_of n e) (items_from (next_number n (item_of n e)) log)
    ∙ ap (λ l. l ++ flat_map (received_content s) (items_from (next_number n (item_of n e)) log)) (entry_apps s n e)
    ∙ ap (λ l. filter is_app (accepted_content s e) ++ l) (items_from_apps s (next_number n (item_of n e)) log)
    ∙ sym (filter-append is_app (accepted_content s e) (contents_accepted log s))

-- the items of a side, all received, are the application messages that it accepted
pub items_apps : (s : SideId) (log : List Entry) → flat_map (received_content s) (items log) ≡ filter is_app (contents_accepted log s)
items_apps s log = items_from_apps s 1 log

-- ---- an item's number leads back to it

-- each item's number is at least n
abbrev AtLeast : ℕ → List Item → Type 0
AtLeast n xs = AllByRecursion (λ item. n ≤ item.number) xs

at_least_weaker : (m n : ℕ) (xs : List Item) → m ≤ n → AtLeast n xs → AtLeast m xs
at_least_weaker m n [] le h = tt
at_least_weaker m n (x ∷ xs) le h = (omega (arith, h.0), at_least_weaker m n xs le h.1)

items_at_least : (n : ℕ) (log : List Entry) → AtLeast n (items_from n log)
items_at_least n [] = tt
items_at_least n (Accepted side number made c ∷ log) = (omega arith, at_least_weaker n (n + 1) _ (omega arith) (items_at_least (n + 1) log))
items_at_least n (Fired side ∷ log) = (omega arith, at_least_weaker n (n + 1) _ (omega arith) (items_at_least (n + 1) log))
items_at_least n (Expired side ∷ log) = (omega arith, at_least_weaker n (n + 1) _ (omega arith) (items_at_least (n + 1) log))
items_at_least n (Defined a ∷ log) = items_at_least n log
items_at_least n (Txn a b ∷ log) = items_at_least n log
items_at_least n (Acked a b c ∷ log) = items_at_least n log
items_at_least n (QueueSet a b ∷ log) = items_at_least n log

-- each later item has a greater number
abbrev Increasing : List Item → Type 0
Increasing [] = ⊤
Increasing (x ∷ xs) = AtLeast (x.number + 1) xs × Increasing xs

items_increasing : (n : ℕ) (log : List Entry) → Increasing (items_from n log)
items_increasing n [] = tt
items_increasing n (Accepted side number made c ∷ log) = (items_at_least (n + 1) log, items_increasing (n + 1) log)
items_increasing n (Fired side ∷ log) = (items_at_least (n + 1) log, items_increasing (n + 1) log)
items_increasing n (Expired side ∷ log) = (items_at_least (n + 1) log, items_increasing (n + 1) log)
items_increasing n (Defined a ∷ log) = items_increasing n log
items_increasing n (Txn a b ∷ log) = items_increasing n log
items_increasing n (Acked a b c ∷ log) = items_increasing n log
items_increasing n (QueueSet a b ∷ log) = items_increasing n log

abbrev pub found : List Item → ℕ → Option Item
found xs n = find (λ item. item.number == n) xs

-- an item of these is found by its number in the others
abbrev pub AreFound : List Item → List Item → Type 0
AreFound xs zs = AllByRecursion (λ x. found xs x.number ≡ Some x) zs

found_behind : (y : Item) (ys zs : List Item) → AtLeast (y.number + 1) zs → AreFound ys zs → AreFound (y ∷ ys) zs
found_behind y ys [] low h = tt
found_behind y ys (z ∷ zs) low h =
    let above : y.number ≡ z.number → ⊥ = λ e. absurd (omega (arith, low.0, e)) in
    ((rw (ne_eqb y.number z.number above) h.0), found_behind y ys zs low.1 h.1)

all_found : (xs : List Item) → Increasing xs → AreFound xs xs
all_found [] h = tt
all_found (x ∷ xs) h = ((rw (eq-eqb x.number x.number refl) refl), found_behind x xs xs h.0 (all_found xs h.1))

-- an item of the log is found by its number
pub items_found : (log : List Entry) → AreFound (items log) (items log)
items_found log = all_found (items log) (items_increasing 1 log)

found_number : (b : Bool) (xs : List Item) (z : Item) (zs : List Item) (s : SideId) → found xs z.number ≡ Some z →
    filter_map (found xs) (numbers_of s zs) ≡ filter (λ item. same_side item.side s) zs →
    filter_map (found xs) (map (λ item. item.number) (cond b (z ∷ filter (λ item. same_side item.side s) zs) (filter (λ item. same_side item.side s) zs)))
    ≡ cond b (z ∷ filter (λ item. same_side item.side s) zs) (filter (λ item. same_side item.side s) zs)
found_number true xs z zs s one rest = rw one (ap (λ l. z ∷ l) rest)
found_number false xs z zs s one rest = rest

-- the numbers of some of the items lead back to these items
pub found_numbers : (xs zs : List Item) (s : SideId) → AreFound xs zs → filter_map (found xs) (numbers_of s zs) ≡ filter (λ item. same_side item.side s) zs
found_numbers xs [] s h = refl
found_numbers xs (z ∷ zs) s h = found_number (same_side z.side s) xs z zs s h.0 (found_numbers xs zs s h.1)

-- ---- taken numbers of other sides give nothing

some_same : {x y : Item} → Some y ≡ Some x → y ≡ x
some_same e = cc

or_true : (b : Bool) {c : Bool} → c ≡ true → (b || c) ≡ true
or_true true h = refl
or_true false h = h

among_more : (b : Bool) (n : ℕ) (y : Item) (ys : List Item) →
    list_any (λ m. m == n) (map (λ item. item.number) ys) ≡ true → list_any (λ m. m == n) (map (λ item. item.number) (cond b (y ∷ ys) ys)) ≡ true
among_more true n y ys h = or_true (y.number == n) h
among_more false n y ys h = h

-- the head is the one that is found, or the rest has it
number_step : (b : Bool) (s : SideId) (n : ℕ) (x y : Item) (ys : List Item) → (y.number == n) ≡ b →
    cond b (Some y) (found ys n) ≡ Some x → same_side x.side s ≡ true →
    (found ys n ≡ Some x → list_any (λ m. m == n) (numbers_of s ys) ≡ true) → list_any (λ m. m == n) (numbers_of s (y ∷ ys)) ≡ true
number_step true s n x y ys e f h rest =
    let same : same_side y.side s ≡ true = ap (λ item. same_side item.side s) (some_same f) ∙ h in
    rw same (rw e refl)
number_step false s n x y ys e f h rest = among_more (same_side y.side s) n y (filter (λ item. same_side item.side s) ys) (rest f)

pub number_among : (s : SideId) (n : ℕ) (x : Item) (xs : List Item) →
    found xs n ≡ Some x → same_side x.side s ≡ true → list_any (λ m. m == n) (numbers_of s xs) ≡ true
number_among s n x [] f h = cc
number_among s n x (y ∷ ys) f h = number_step (y.number == n) s n x y ys refl f h (λ g. number_among s n x ys g h)

received_other : (b : Bool) (s : SideId) (x : Item) → same_side x.side s ≡ b → (b ≡ true → ⊥) → received_content s x ≡ []
received_other true s x e never = absurd (never refl)
received_other false s x e never = rw e refl

other_gives_nothing : (s : SideId) (n : ℕ) (xs : List Item) (o : Option Item) → found xs n ≡ o →
    list_any (λ m. m == n) (numbers_of s xs) ≡ false → item_apps s o ≡ []
other_gives_nothing s n xs None f never = refl
other_gives_nothing s n xs (Some x) f never =
    received_other (same_side x.side s) s x refl (λ h. let yes : list_any (λ m. m == n) (numbers_of s xs) ≡ true = number_among s n x xs f h in cc)

abbrev pub mine : List Item → SideId → ℕ → Bool
mine xs s n = list_any (λ m. m == n) (numbers_of s xs)

abbrev got : List Item → SideId → List ℕ → List Content
got xs s ns = flat_map (received_content s) (filter_map (found xs) ns)

got-cons : (xs : List Item) (s : SideId) (n : ℕ) (ns : List ℕ) → got xs s (n ∷ ns) ≡ item_apps s (found xs n) ++ got xs s ns
got-cons xs s n ns = flat_map-cons_option s (found xs n) (filter_map (found xs) ns)

got_kept : (b : Bool) (xs : List Item) (s : SideId) (n : ℕ) (ns ms : List ℕ) → mine xs s n ≡ b → got xs s ns ≡ got xs s ms →
    got xs s (n ∷ ns) ≡ got xs s (cond b (n ∷ ms) ms)
got_kept true xs s n ns ms e h = got-cons xs s n ns ∙ ap (λ l. item_apps s (found xs n) ++ l) h ∙ sym (got-cons xs s n ms)
got_kept false xs s n ns ms e h = got-cons xs s n ns ∙ ap (λ l. l ++ got xs s ns) (other_gives_nothing s n xs (found xs n) refl e) ∙ h

got-filter : (xs : List Item) (s : SideId) (ns : List ℕ) → got xs s ns ≡ got xs s (filter (mine xs s) ns)
got-filter xs s [] = refl
got-filter xs s (n ∷ ns) = got_kept (mine xs s n) xs s n ns (filter (mine xs s) ns) refl (got-filter xs s ns)

got-append : (xs : List Item) (s : SideId) (ns ms : List ℕ) → got xs s (ns ++ ms) ≡ got xs s ns ++ got xs s ms
got-append xs s ns ms = simp (filter_map-append, flat_map-append)

received_if : (b : Bool) (s : SideId) (x : Item) (xs : List Item) → same_side x.side s ≡ b →
    flat_map (received_content s) (cond b (x ∷ xs) xs) ≡ received_content s x ++ flat_map (received_content s) xs
received_if true s x xs e = refl
received_if false s x xs e = rw e refl

received-filter : (s : SideId) (xs : List Item) →
    flat_map (received_content s) (filter (λ item. same_side item.side s) xs) ≡ flat_map (received_content s) xs
received-filter s [] = refl
received-filter s (x ∷ xs) =
    received_if (same_side x.side s) s x (filter (λ item. same_side item.side s) xs) refl ∙ ap (λ l. received_content s x ++ l) (received-filter s xs)

-- what is received begins the application messages that were accepted
pub receives_begin : (log : List Entry) (s : SideId) → TakenInOrder log → IsPrefixOf (receives log s) (filter is_app (contents_accepted log s))
receives_begin log s order =
    let h = order s in (
      got (items log) s h.0,
      ap (λ l. l ++ got (items log) s h.0) (got-filter (items log) s (taken log))
          ∙ sym (got-append (items log) s (filter (is_item_of log s) (taken log)) h.0)
          ∙ ap (got (items log) s) h.1
          ∙ ap (flat_map (received_content s)) (found_numbers (items log) (items log) s (items_found log))
          ∙ received-filter s (items log)
          ∙ items_apps s log,
    )

-- delivery from two parts of Linked
pub once : (lx ly : List Entry) (s : SideId) → TakenInOrder ly →
    IsPrefixOf (contents_accepted ly (partner s)) (numbered lx s) → ReceivesInOrder lx ly s
once lx ly s order from =
    prefix_trans _ _ _ (receives_begin ly (partner s) order) (accepted_apps lx ly s from)
