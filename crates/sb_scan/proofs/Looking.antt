-- Whether a side is made, and the n-th of lists that follow each other.
use Rattle.std.proofs.Common.{◌≡◌, ℕ, ◌<◌, ◌-◌, ◌+◌, length, get_or, map, List, [], ◌∷◌, ◌++◌, Bool, true, false, refl, ap, sym, ◌∙◌, arith}
use Rattle.std.specs.Prelude.{zero, suc, ◌||◌, cond, find, flat_map, filter_map, slice_get, drop, Option, Some, None, is_some, is_none, option_map, option_to_list, Result, Ok, Err}
use Rattle.std.specs.Option.{option_or}
use Rattle.std.specs.List.{list_any, last_or}
use Rattle.std.proofs.lemmas.Grind.{flat_map-append, fold-append}
use Rattle.std.proofs.lemmas.List.{at_drop_more}
use Rattle.std.proofs.lemmas.List.Elements.{filter-append, filter_map-append}
use Rattle.std.proofs.lemmas.List.Folds.{list_any-append, find-append}
use Rattle.sb_log.specs.declared.identifiers.SideId.{SideId}
use Rattle.sb_log.specs.declared.entries.Entry.{Entry}
use Rattle.sb_log.specs.declared.messages.Content.{Content}
use Rattle.sb_log.specs.declared.messages.Item.{Item}
use Rattle.sb_model.specs.Items.{taken, taken_by}
use Rattle.sb_model.specs.Sides.{is_of, made, made_by, makings, has_side, ops_of, ops_of_entry}
use Rattle.sb_log.specs.declared.identifiers.Handle.{Handle}
use Rattle.sb_model.specs.Groups.{group_moved}
use Rattle.sb_model.specs.States.{is_empty}
use Rattle.sb_model.specs.Messages.{content_of_send, first_of, sends}
use Rattle.sb_scan.specs.Seen.{nth_or_left}

found_or : {A : Type 0} (b : Bool) (x : A) (o : Option A) → is_some (cond b (Some x) o) ≡ (b || is_some o)
found_or true x o = refl
found_or false x o = refl

pub is_some-find : {A : Type 0} (p : A → Bool) (xs : List A) → is_some (find p xs) ≡ list_any p xs
is_some-find p [] = refl
is_some-find p (x ∷ xs) = found_or (p x) x (find p xs) ∙ ap (λ b. p x || b) (is_some-find p xs)

pub is_some-map : {A B : Type 0} (f : A → B) (o : Option A) → is_some (option_map f o) ≡ is_some o
is_some-map f None = refl
is_some-map f (Some x) = refl

pub is_some-or : {A : Type 0} (o p : Option A) → is_some (option_or o p) ≡ (is_some o || is_some p)
is_some-or None p = refl
is_some-or (Some x) p = refl

-- a side is there where it is made
pub made_is_there : (log : List Entry) (s : SideId) → is_some (made log s) ≡ has_side log s
made_is_there [] s = refl
made_is_there (e ∷ log) s =
    is_some-or (find (is_of s) (made_by e)) (made log s)
    ∙ ap (λ b. b || is_some (made log s)) (is_some-find (is_of s) (made_by e))
    ∙ ap (λ b. list_any (is_of s) (made_by e) || b) (made_is_there log s)
    ∙ sym (list_any-append (is_of s) (made_by e) (makings log))

-- one passed by
pub nth_next : {A : Type 0} (x : A) (xs : List A) (n : ℕ) → 0 < n → nth_or_left (x ∷ xs) n ≡ nth_or_left xs (n - 1)
nth_next x xs zero h = absurd (omega arith)
nth_next x xs (suc n) h = ap (nth_or_left xs) (omega arith)

-- what comes of the list behind
abbrev pub nth_then : {A : Type 0} → Result A ℕ → List A → Result A ℕ
nth_then (Ok x) ys = Ok x
nth_then (Err left) ys = nth_or_left ys left

pub nth-append : {A : Type 0} (xs ys : List A) (n : ℕ) → nth_or_left (xs ++ ys) n ≡ nth_then (nth_or_left xs n) ys
nth-append [] ys n = refl
nth-append (x ∷ xs) ys zero = refl
nth-append (x ∷ xs) ys (suc n) = nth-append xs ys n

abbrev pub get_then : {A : Type 0} → Result A ℕ → List A → Option A
get_then (Ok x) ys = Some x
get_then (Err left) ys = slice_get ys left

pub slice_get-append : {A : Type 0} (xs ys : List A) (n : ℕ) → slice_get (xs ++ ys) n ≡ get_then (nth_or_left xs n) ys
slice_get-append [] ys n = refl
slice_get-append (x ∷ xs) ys zero = refl
slice_get-append (x ∷ xs) ys (suc n) = slice_get-append xs ys n

pub get_first : {A : Type 0} (o : Option A) → slice_get (option_to_list o) 0 ≡ o
get_first None = refl
get_first (Some x) = refl

pub first_past : (xs : List Content) (n : ℕ) → 0 < n → None ≡ slice_get (first_of xs) n
first_past [] n h = refl
first_past (x ∷ xs) zero h = absurd (omega arith)
first_past (x ∷ xs) (suc n) h = refl

-- there is no such element
abbrev pub is_past : {A : Type 0} → Result A ℕ → Bool
is_past (Ok x) = false
is_past (Err left) = true

pub first_is_past : {A : Type 0} (xs : List A) → is_past (nth_or_left xs 0) ≡ is_empty xs
first_is_past [] = refl
first_is_past (x ∷ xs) = refl

pub none_behind : {A : Type 0} (xs : List A) (n : ℕ) → is_none (slice_get xs n) ≡ is_empty (drop n xs)
none_behind [] zero = refl
none_behind [] (suc n) = refl
none_behind (x ∷ xs) zero = refl
none_behind (x ∷ xs) (suc n) = none_behind xs n

pub last_or-append : {A : Type 0} (o : Option A) (xs ys : List A) → last_or o (xs ++ ys) ≡ last_or (last_or o xs) ys
last_or-append o [] ys = refl
last_or-append o (x ∷ xs) ys = last_or-append (Some x) xs ys

pub sent_step : (s : SideId) (log : List Entry) (i n : ℕ) (e : Entry) → i < length log → e ≡ get_or log i e → nth_or_left (sends (drop i log) s) n ≡ nth_then (nth_or_left (flat_map (content_of_send s) (ops_of_entry e)) n) (sends (drop (i + 1) log) s)
sent_step s log i n e h at =
    at_drop_more (λ ys. nth_or_left (sends ys s) n) log i e h
    ∙ ap (λ ys. nth_or_left ys n) (flat_map-append (content_of_send s) (ops_of_entry (get_or log i e)) (ops_of (drop (i + 1) log)))
    ∙ nth-append (flat_map (content_of_send s) (ops_of_entry (get_or log i e))) (sends (drop (i + 1) log) s) n
    ∙ ap (λ x. nth_then (nth_or_left (flat_map (content_of_send s) (ops_of_entry x)) n) (sends (drop (i + 1) log) s)) (sym at)

pub moved_step : (s : SideId) (log : List Entry) (i : ℕ) (o : Option Handle) (e : Entry) → i < length log → e ≡ get_or log i e → last_or o (flat_map (group_moved s) (ops_of (drop i log))) ≡ last_or (last_or o (flat_map (group_moved s) (ops_of_entry e))) (flat_map (group_moved s) (ops_of (drop (i + 1) log)))
moved_step s log i o e h at =
    at_drop_more (λ ys. last_or o (flat_map (group_moved s) (ops_of ys))) log i e h
    ∙ ap (last_or o) (flat_map-append (group_moved s) (ops_of_entry (get_or log i e)) (ops_of (drop (i + 1) log)))
    ∙ last_or-append o (flat_map (group_moved s) (ops_of_entry (get_or log i e))) (flat_map (group_moved s) (ops_of (drop (i + 1) log)))
    ∙ ap (λ x. last_or (last_or o (flat_map (group_moved s) (ops_of_entry x))) (flat_map (group_moved s) (ops_of (drop (i + 1) log)))) (sym at)

-- a test of the elements from a place on, seen through a view
pub any_step : {A B : Type 0} (p : B → Bool) (f : A → B) (xs : List A) (i : ℕ) (x : A) → i < length xs → x ≡ get_or xs i x → (p (f x) || list_any p (map f (drop (i + 1) xs))) ≡ list_any p (map f (drop i xs))
any_step p f xs i x h at =
    ap (λ y. p (f y) || list_any p (map f (drop (i + 1) xs))) at ∙ sym (at_drop_more (λ ys. list_any p (map f ys)) xs i x h)

-- what is made of the elements from a place on, seen through a view
pub made_step : {A B C : Type 0} (g : B → List C) (f : A → B) (xs : List A) (i : ℕ) (x : A) → i < length xs → x ≡ get_or xs i x → flat_map g (map f (drop i xs)) ≡ g (f x) ++ flat_map g (map f (drop (i + 1) xs))
made_step g f xs i x h at =
    at_drop_more (λ ys. flat_map g (map f ys)) xs i x h ∙ ap (λ y. g (f y) ++ flat_map g (map f (drop (i + 1) xs))) (sym at)

-- what is made of the items that one more entry takes
pub taken_step : {A : Type 0} (f : Item → List A) (g : ℕ → Option Item) (log : List Entry) (i : ℕ) (e : Entry) → i < length log → e ≡ get_or log i e → flat_map f (filter_map g (taken (drop i log))) ≡ flat_map f (filter_map g (flat_map taken_by (ops_of_entry e))) ++ flat_map f (filter_map g (taken (drop (i + 1) log)))
taken_step f g log i e h at =
    at_drop_more (λ ys. flat_map f (filter_map g (taken ys))) log i e h
    ∙ ap (λ ns. flat_map f (filter_map g ns)) (flat_map-append taken_by (ops_of_entry (get_or log i e)) (ops_of (drop (i + 1) log)))
    ∙ ap (flat_map f) (filter_map-append g (flat_map taken_by (ops_of_entry (get_or log i e))) (taken (drop (i + 1) log)))
    ∙ flat_map-append f (filter_map g (flat_map taken_by (ops_of_entry (get_or log i e)))) (filter_map g (taken (drop (i + 1) log)))
    ∙ ap (λ x. flat_map f (filter_map g (flat_map taken_by (ops_of_entry x))) ++ flat_map f (filter_map g (taken (drop (i + 1) log)))) (sym at)

pub ruleset nth = (nth_next, nth-append)

pub ruleset finding = (find-append, flat_map-append)

pub ruleset folding = (fold-append, filter-append, flat_map-append)

pub ruleset lasts = (last_or-append, flat_map-append)
