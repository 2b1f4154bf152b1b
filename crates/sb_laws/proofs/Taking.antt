-- Items of a side are taken in their order, each once: over plain lists of items and numbers.
use Rattle.std.proofs.Common.{◌≡◌, ℕ, zero, suc, Bool, true, false, List, [], ◌∷◌, ◌++◌, ◌+◌, ◌≤◌, ◌<◌, Option, Some, None, refl, sym, ◌∙◌, ap, subst, arith, cond, inl, inr, append-nil, append_assoc, map, take, eq-eqb}
use Rattle.std.specs.Prelude.{filter, ◌⊎◌, not, ⊤, ◌==◌, ◌&&◌, ◌||◌}
use Rattle.std.specs.List.{list_any, AllByRecursion}
use Rattle.std.proofs.lemmas.List.{map-append}
use Rattle.std.proofs.lemmas.List.Elements.{filter-append}
use Rattle.std.proofs.lemmas.List.Folds.{list_any-append}
use Rattle.std.proofs.lemmas.Bool.{eqb-true}
use Rattle.std.proofs.lemmas.Bool.Decides.{nat_tests}
use Rattle.sb_log.specs.declared.identifiers.SideId.{SideId}
use Rattle.sb_log.specs.declared.messages.Item.{Item}
use Rattle.sb_model.specs.Sides.{same_side}
use Rattle.sb_model.specs.Sorting.{inserted, in_order}
use Rattle.sb_model.specs.Pick.{first_items}
use Rattle.sb_model.specs.Survival.{IsPrefixOf}
use Rattle.sb_model.specs.Links.{numbers_of}
use Rattle.sb_laws.proofs.Growth.{prefix_trans}
use Rattle.sb_laws.proofs.OnceLemmas.{prefix-filter}
use Rattle.sb_laws.proofs.Grow.{all_weaker, or_false}

abbrev pub has : List ℕ → ℕ → Bool
has ns n = list_any (λ m. m == n) ns

abbrev pub of : SideId → Item → Bool
of t item = same_side item.side t

abbrev pub numbers : List Item → List ℕ
numbers its = map (λ item. item.number) its

-- the number is that of an item of the side
abbrev pub is_mine : List Item → SideId → ℕ → Bool
is_mine its t n = has (numbers_of t its) n

-- these numbers were taken, in this order
abbrev pub InOrder : List Item → List ℕ → Type 0
InOrder its ns = (t : SideId) → IsPrefixOf (filter (is_mine its t) ns) (numbers_of t its)

-- the items that nobody took yet
abbrev pub untaken : SideId → List ℕ → Item → Bool
untaken t ns item = of t item && not (has ns item.number)

abbrev pub Rising : ℕ → List Item → Type 0
Rising low [] = ⊤
Rising low (x ∷ xs) = (low ≤ x.number) × Rising (x.number + 1) xs

abbrev RisingNumbers : ℕ → List ℕ → Type 0
RisingNumbers low [] = ⊤
RisingNumbers low (n ∷ ns) = (low ≤ n) × RisingNumbers (n + 1) ns

clash : {P : Type 0} → true ≡ false → P
clash e = cc

-- ---- filters

pub filter_ext : {X : Type 0} (f g : X → Bool) → ((x : X) → f x ≡ g x) → (xs : List X) → filter f xs ≡ filter g xs
filter_ext f g e [] = refl
filter_ext f g e (x ∷ xs) = ap (λ b. cond b (x ∷ filter f xs) (filter f xs)) (e x) ∙ ap (λ w. cond (g x) (x ∷ w) w) (filter_ext f g e xs)

pub filter_within : {X : Type 0} (f g : X → Bool) (xs : List X) → AllByRecursion (λ x. f x ≡ g x) xs → filter f xs ≡ filter g xs
filter_within f g [] e = refl
filter_within f g (x ∷ xs) e = ap (λ b. cond b (x ∷ filter f xs) (filter f xs)) e.0 ∙ ap (λ w. cond (g x) (x ∷ w) w) (filter_within f g xs e.1)

pub filter_twice : {X : Type 0} (g w : X → Bool) (xs : List X) → filter g (filter w xs) ≡ filter (λ x. w x && g x) xs
filter_twice g w [] = refl
filter_twice {X = X} g w (x ∷ xs) = by_test (w x) (filter w xs) ∙ ap (λ r. cond (w x && g x) (x ∷ r) r) (filter_twice g w xs)
  where
    by_test : (b : Bool) (ys : List X) → filter g (cond b (x ∷ ys) ys) ≡ cond (b && g x) (x ∷ filter g ys) (filter g ys)
    by_test true ys = refl
    by_test false ys = refl

pub filter_none : {X : Type 0} (f : X → Bool) (xs : List X) → AllByRecursion (λ x. f x ≡ false) xs → filter f xs ≡ []
filter_none f [] h = refl
filter_none f (x ∷ xs) h = rw h.0 (filter_none f xs h.1)

pub filter_every : {X : Type 0} (f : X → Bool) (xs : List X) → AllByRecursion (λ x. f x ≡ true) xs → filter f xs ≡ xs
filter_every f [] h = refl
filter_every f (x ∷ xs) h = rw h.0 (ap (λ w. x ∷ w) (filter_every f xs h.1))

pub all_filter : {X : Type 0} (P : X → Type 0) (f : X → Bool) (xs : List X) → AllByRecursion P xs → AllByRecursion P (filter f xs)
all_filter P f [] p = tt
all_filter {X = X} P f (x ∷ xs) p = by_test (f x) (all_filter P f xs p.1)
  where
    by_test : (b : Bool) → AllByRecursion P (filter f xs) → AllByRecursion P (cond b (x ∷ filter f xs) (filter f xs))
    by_test true q = (p.0, q)
    by_test false q = q

pub all_take : {X : Type 0} (P : X → Type 0) (n : ℕ) (xs : List X) → AllByRecursion P xs → AllByRecursion P (take n xs)
all_take P zero xs p = tt
all_take P (suc n) [] p = tt
all_take P (suc n) (x ∷ xs) p = (p.0, all_take P n xs p.1)

pub all_first_items : (P : Item → Type 0) (n : Option ℕ) (xs : List Item) → AllByRecursion P xs → AllByRecursion P (first_items n xs)
all_first_items P None xs p = p
all_first_items P (Some n) xs p = all_take P n xs p

take_begins : {X : Type 0} (n : ℕ) (xs : List X) → IsPrefixOf (take n xs) xs
take_begins zero xs = (xs, refl)
take_begins (suc n) [] = ([], refl)
take_begins (suc n) (x ∷ xs) = let r = take_begins n xs in (r.0, ap (λ w. x ∷ w) r.1)

first_begins : (n : Option ℕ) (xs : List Item) → IsPrefixOf (first_items n xs) xs
first_begins None xs = ([], append-nil xs)
first_begins (Some n) xs = take_begins n xs

pub prefix_append : {X : Type 0} (ws xs ys : List X) → IsPrefixOf xs ys → IsPrefixOf (ws ++ xs) (ws ++ ys)
prefix_append ws xs ys p = (p.0, append_assoc ws xs p.0 ∙ ap (λ w. ws ++ w) p.1)

prefix_map : {X Y : Type 0} (f : X → Y) (xs ys : List X) → IsPrefixOf xs ys → IsPrefixOf (map f xs) (map f ys)
prefix_map f xs ys p = (map f p.0, sym (map-append f xs p.0) ∙ ap (map f) p.1)

-- ---- numbers that are had

pub apart : (m n : ℕ) → m < n → (m == n) ≡ false
apart m n h = grind (arith, nat_tests)

pub apart_up : (m n : ℕ) → n < m → (m == n) ≡ false
apart_up m n h = grind (arith, nat_tests)

has_one : (n : ℕ) (ns : List ℕ) → has (n ∷ ns) n ≡ true
has_one n ns = ap (λ b. b || has ns n) (eq-eqb n n refl)

or_true_right : (a b : Bool) → b ≡ true → (a || b) ≡ true
or_true_right true b e = refl
or_true_right false b e = e

all_has : (ns : List ℕ) → AllByRecursion (λ n. has ns n ≡ true) ns
all_has [] = tt
all_has (n ∷ ns) = (has_one n ns, all_weaker (λ m. has ns m ≡ true) (λ m. has (n ∷ ns) m ≡ true) (λ m e. or_true_right (n == m) (has ns m) e) ns (all_has ns))

-- each number above
abbrev Above : ℕ → List ℕ → Type 0
Above low ns = AllByRecursion (λ n. low ≤ n) ns

rising_above : (low : ℕ) (ns : List ℕ) → RisingNumbers low ns → Above low ns
rising_above low [] r = tt
rising_above low (n ∷ ns) r = (r.0, all_weaker (λ m. n + 1 ≤ m) (λ m. low ≤ m) (λ m h. omega (arith, h, r.0)) ns (rising_above (n + 1) ns r.1))

above_right : (low : ℕ) (xs ys : List ℕ) → Above low (xs ++ ys) → Above low ys
above_right low [] ys h = h
above_right low (x ∷ xs) ys h = above_right low xs ys h.1

none_had : (low : ℕ) (xs ys : List ℕ) → RisingNumbers low (xs ++ ys) → AllByRecursion (λ n. has xs n ≡ false) ys
none_had low [] ys r = all_weaker (λ n. low ≤ n) (λ n. has [] n ≡ false) (λ n h. refl) ys (rising_above low ys r)
none_had low (x ∷ xs) ys r = both ys (above_right (x + 1) xs ys (rising_above (x + 1) (xs ++ ys) r.1)) (none_had (x + 1) xs ys r.1)
  where
    both : (zs : List ℕ) → Above (x + 1) zs → AllByRecursion (λ n. has xs n ≡ false) zs → AllByRecursion (λ n. has (x ∷ xs) n ≡ false) zs
    both [] a b = tt
    both (z ∷ zs) a b = (or_false (x == z) (has xs z) (apart x z (omega (arith, a.0))) b.0, both zs a.1 b.1)

-- what is left of rising numbers behind the first ones
rest_is_left : (low : ℕ) (xs rest : List ℕ) → RisingNumbers low (xs ++ rest) → filter (λ n. not (has xs n)) (xs ++ rest) ≡ rest
rest_is_left low xs rest r =
    filter-append (λ n. not (has xs n)) xs rest
    ∙ ap (λ w. w ++ filter (λ n. not (has xs n)) rest) (filter_none (λ n. not (has xs n)) xs (all_weaker (λ n. has xs n ≡ true) (λ n. not (has xs n) ≡ false) (λ n e. ap not e) xs (all_has xs)))
    ∙ filter_every (λ n. not (has xs n)) rest (all_weaker (λ n. has xs n ≡ false) (λ n. not (has xs n) ≡ true) (λ n e. ap not e) rest (none_had low xs rest r))

has_filter : (p : ℕ → Bool) (ns : List ℕ) (n : ℕ) → p n ≡ true → has (filter p ns) n ≡ has ns n
has_filter p [] n e = refl
has_filter p (m ∷ ms) n e = by_test (p m) refl (m == n) refl (has_filter p ms n e)
  where
    by_test : (b : Bool) → p m ≡ b → (c : Bool) → (m == n) ≡ c → has (filter p ms) n ≡ has ms n → has (cond (p m) (m ∷ filter p ms) (filter p ms)) n ≡ has (m ∷ ms) n
    by_test true f c g rest = rw f (ap (λ b. (m == n) || b) rest)
    by_test false f false g rest = rw f (rest ∙ ap (λ b. b || has ms n) (sym g))
    by_test false f true g rest = clash (sym (ap p (eqb-true m n g) ∙ e) ∙ f)

-- ---- items

numbers_rising : (low : ℕ) (t : SideId) (xs : List Item) → Rising low xs → RisingNumbers low (numbers_of t xs)
numbers_rising low t [] r = tt
numbers_rising low t (x ∷ xs) r = by_test (of t x) (numbers_rising (x.number + 1) t xs r.1)
  where
    lower : (m n : ℕ) (ns : List ℕ) → m ≤ n → RisingNumbers n ns → RisingNumbers m ns
    lower m n [] h q = tt
    lower m n (k ∷ ks) h q = (omega (arith, h, q.0), q.1)

    by_test : (b : Bool) → RisingNumbers (x.number + 1) (numbers_of t xs) → RisingNumbers low (numbers (cond b (x ∷ filter (of t) xs) (filter (of t) xs)))
    by_test true q = (r.0, q)
    by_test false q = lower low (x.number + 1) (numbers_of t xs) (omega (arith, r.0)) q

-- the numbers of untaken items are those of the side that aren't had
untaken_numbers : (t : SideId) (ns : List ℕ) (xs : List Item) → numbers (filter (untaken t ns) xs) ≡ filter (λ n. not (has ns n)) (numbers_of t xs)
untaken_numbers t ns [] = refl
untaken_numbers t ns (x ∷ xs) = by_test (of t x) (has ns x.number) refl (untaken_numbers t ns xs)
  where
    by_test : (b c : Bool) → has ns x.number ≡ c → numbers (filter (untaken t ns) xs) ≡ filter (λ n. not (has ns n)) (numbers_of t xs) →
        numbers (cond (b && not (has ns x.number)) (x ∷ filter (untaken t ns) xs) (filter (untaken t ns) xs))
        ≡ filter (λ n. not (has ns n)) (numbers (cond b (x ∷ filter (of t) xs) (filter (of t) xs)))
    by_test false c e rest = rest
    by_test true true e rest = rw e rest
    by_test true false e rest = rw e (ap (λ w. x.number ∷ w) rest)

-- an item's number is one of its side and of no other
abbrev pub IsOwn : List Item → Item → Type 0
IsOwn its p = (t : SideId) → is_mine its t p.number ≡ of t p

pub own_numbers : (low : ℕ) (xs : List Item) → Rising low xs → AllByRecursion (IsOwn xs) xs
own_numbers low [] r = tt
own_numbers low (x ∷ xs) r = (
  (λ t. first t (of t x) refl),
  later xs (own_numbers (x.number + 1) xs r.1) (items_above (x.number + 1) xs r.1),
)
  where
    items_above : (m : ℕ) (ys : List Item) → Rising m ys → AllByRecursion (λ y. m ≤ y.number) ys
    items_above m [] q = tt
    items_above m (y ∷ ys) q = (q.0, all_weaker (λ z. y.number + 1 ≤ z.number) (λ z. m ≤ z.number) (λ z h. omega (arith, h, q.0)) ys (items_above (y.number + 1) ys q.1))

    none : (m n : ℕ) (ns : List ℕ) → n < m → Above m ns → has ns n ≡ false
    none m n [] h a = refl
    none m n (k ∷ ks) h a = or_false (k == n) (has ks n) (apart_up k n (omega (arith, h, a.0))) (none m n ks h a.1)

    first : (t : SideId) (b : Bool) → of t x ≡ b → has (numbers (cond (of t x) (x ∷ filter (of t) xs) (filter (of t) xs))) x.number ≡ of t x
    first t true e = rw e (has_one x.number (numbers_of t xs))
    first t false e = rw e (none (x.number + 1) x.number (numbers_of t xs) (omega arith) (rising_above (x.number + 1) (numbers_of t xs) (numbers_rising (x.number + 1) t xs r.1)))

    one : (y : Item) → IsOwn xs y → x.number + 1 ≤ y.number → (t : SideId) (b : Bool) → has (numbers (cond b (x ∷ filter (of t) xs) (filter (of t) xs))) y.number ≡ of t y
    one y own h t true = ap (λ b. b || has (numbers_of t xs) y.number) (apart x.number y.number (omega (arith, h))) ∙ own t
    one y own h t false = own t

    later : (ys : List Item) → AllByRecursion (IsOwn xs) ys → AllByRecursion (λ y. x.number + 1 ≤ y.number) ys → AllByRecursion (IsOwn (x ∷ xs)) ys
    later [] a b = tt
    later (y ∷ ys) a b = ((λ t. one y a.0 b.0 t (of t x)), later ys a.1 b.1)

picked_numbers : (its : List Item) (t : SideId) (ps : List Item) → AllByRecursion (IsOwn its) ps → filter (is_mine its t) (numbers ps) ≡ numbers_of t ps
picked_numbers its t [] own = refl
picked_numbers its t (p ∷ ps) own =
    ap (λ b. cond b (p.number ∷ filter (is_mine its t) (numbers ps)) (filter (is_mine its t) (numbers ps))) (own.0 t)
    ∙ ap (λ w. cond (of t p) (p.number ∷ w) w) (picked_numbers its t ps own.1)
    ∙ by_test (of t p) (filter (of t) ps)
  where
    by_test : (b : Bool) (qs : List Item) → cond b (p.number ∷ numbers qs) (numbers qs) ≡ numbers (cond b (p ∷ qs) qs)
    by_test true qs = refl
    by_test false qs = refl

-- what is left of a side is its untaken items
left_is_untaken : (low : ℕ) (its : List Item) (ns : List ℕ) (t : SideId) → Rising low its → (p : IsPrefixOf (filter (is_mine its t) ns) (numbers_of t its)) → p.0 ≡ numbers (filter (untaken t ns) its)
left_is_untaken low its ns t r p =
    sym (rest_is_left low (filter (is_mine its t) ns) p.0 (subst (RisingNumbers low) (sym p.1) (numbers_rising low t its r)))
    ∙ ap (filter (λ n. not (has (filter (is_mine its t) ns) n))) p.1
    ∙ filter_within (λ n. not (has (filter (is_mine its t) ns) n)) (λ n. not (has ns n)) (numbers_of t its)
    (all_weaker (λ n. has (numbers_of t its) n ≡ true) (λ n. not (has (filter (is_mine its t) ns) n) ≡ not (has ns n)) (λ n e. ap not (has_filter (is_mine its t) ns n e)) (numbers_of t its) (all_has (numbers_of t its)))
    ∙ sym (untaken_numbers t ns its)

-- a pick takes of each side nothing or its first untaken items
abbrev pub Picks : List Item → List ℕ → List Item → Type 0
Picks its ns ps = (t : SideId) → IsPrefixOf (filter (of t) ps) (filter (untaken t ns) its)

pub in_order_picked : (low : ℕ) (its : List Item) (ns : List ℕ) (ps : List Item) → Rising low its → AllByRecursion (IsOwn its) ps → Picks its ns ps → InOrder its ns → InOrder its (ns ++ numbers ps)
in_order_picked low its ns ps r own picks old t =
    let p = old t in
    let front : filter (is_mine its t) (ns ++ numbers ps) ≡ filter (is_mine its t) ns ++ numbers_of t ps =
    filter-append (is_mine its t) ns (numbers ps) ∙ ap (λ w. filter (is_mine its t) ns ++ w) (picked_numbers its t ps own) in
    let rest : IsPrefixOf (numbers_of t ps) p.0 =
    subst (IsPrefixOf (numbers_of t ps)) (sym (left_is_untaken low its ns t r p)) (prefix_map (λ item. item.number) (filter (of t) ps) (filter (untaken t ns) its) (picks t)) in
    subst (λ w. IsPrefixOf w (numbers_of t its)) (sym front)
    (subst (IsPrefixOf (filter (is_mine its t) ns ++ numbers_of t ps)) p.1 (prefix_append (filter (is_mine its t) ns) (numbers_of t ps) p.0 rest))

-- ---- a new item

pub new_mine : (its : List Item) (x : Item) (t : SideId) (n : ℕ) → (x.number == n) ≡ false → is_mine (its ++ x ∷ []) t n ≡ is_mine its t n
new_mine its x t n e =
    ap (λ l. has (numbers l) n) (filter-append (of t) its (x ∷ []))
    ∙ ap (λ l. has l n) (map-append (λ item. item.number) (filter (of t) its) (filter (of t) (x ∷ [])))
    ∙ list_any-append (λ m. m == n) (numbers_of t its) (numbers (filter (of t) (x ∷ [])))
    ∙ by_test (of t x) (has (numbers_of t its) n)
  where
    by_test : (b c : Bool) → (c || has (numbers (cond b (x ∷ []) [])) n) ≡ c
    by_test b true = refl
    by_test true false = ap (λ d. d || false) e
    by_test false false = refl

pub in_order_arrived : (its : List Item) (ns : List ℕ) (x : Item) → AllByRecursion (λ n. (x.number == n) ≡ false) ns → InOrder its ns → InOrder (its ++ x ∷ []) ns
in_order_arrived its ns x new old t =
    subst (λ w. IsPrefixOf w (numbers_of t (its ++ x ∷ []))) (sym (filter_within (is_mine (its ++ x ∷ []) t) (is_mine its t) ns (all_weaker (λ n. (x.number == n) ≡ false) (λ n. is_mine (its ++ x ∷ []) t n ≡ is_mine its t n) (λ n e. new_mine its x t n e) ns new)))
    (prefix_trans (filter (is_mine its t) ns) (numbers_of t its) (numbers_of t (its ++ x ∷ [])) (old t)
    (numbers (filter (of t) (x ∷ [])), sym (map-append (λ item. item.number) (filter (of t) its) (filter (of t) (x ∷ []))) ∙ ap numbers (sym (filter-append (of t) its (x ∷ [])))))

-- ---- two transactions that take of different sides

pub in_order_merged : (its : List Item) (ns ms ks : List ℕ) → InOrder its (ns ++ ms) → InOrder its (ns ++ ks) →
    ((t : SideId) → (filter (is_mine its t) ms ≡ []) ⊎ (filter (is_mine its t) ks ≡ [])) → InOrder its ((ns ++ ms) ++ ks)
in_order_merged its ns ms ks one two apart_sides t = by_side (apart_sides t)
  where
    by_side : (filter (is_mine its t) ms ≡ []) ⊎ (filter (is_mine its t) ks ≡ []) → IsPrefixOf (filter (is_mine its t) ((ns ++ ms) ++ ks)) (numbers_of t its)
    by_side (inr e) =
        let same : filter (is_mine its t) ((ns ++ ms) ++ ks) ≡ filter (is_mine its t) (ns ++ ms) =
        filter-append (is_mine its t) (ns ++ ms) ks ∙ ap (λ w. filter (is_mine its t) (ns ++ ms) ++ w) e ∙ append-nil (filter (is_mine its t) (ns ++ ms)) in
        subst (λ w. IsPrefixOf w (numbers_of t its)) (sym same) (one t)
    by_side (inl e) =
        let same : filter (is_mine its t) ((ns ++ ms) ++ ks) ≡ filter (is_mine its t) (ns ++ ks) =
        filter-append (is_mine its t) (ns ++ ms) ks ∙ ap (λ w. w ++ filter (is_mine its t) ks) (filter-append (is_mine its t) ns ms ∙ ap (λ w. filter (is_mine its t) ns ++ w) e ∙ append-nil (filter (is_mine its t) ns))
        ∙ sym (filter-append (is_mine its t) ns ks) in
        subst (λ w. IsPrefixOf w (numbers_of t its)) (sym same) (two t)

-- ---- sorting keeps the order of one side

all_inserted : {X : Type 0} (P : X → Type 0) (before : X → X → Bool) (x : X) (xs : List X) → P x → AllByRecursion P xs → AllByRecursion P (inserted before x xs)
all_inserted P before x [] p h = (p, tt)
all_inserted P before x (y ∷ ys) p h = by_test (before y x) (all_inserted P before x ys p h.1)
  where
    by_test : (b : Bool) → AllByRecursion P (inserted before x ys) → AllByRecursion P (cond b (y ∷ inserted before x ys) (x ∷ y ∷ ys))
    by_test true rest = (h.0, rest)
    by_test false rest = (p, h)

pub all_in_order : {X : Type 0} (P : X → Type 0) (before : X → X → Bool) (xs : List X) → AllByRecursion P xs → AllByRecursion P (in_order before xs)
all_in_order P before [] h = tt
all_in_order P before (x ∷ xs) h = all_inserted P before x (in_order before xs) h.0 (all_in_order P before xs h.1)

inserted_other : (o : Item → Bool) (before : Item → Item → Bool) (x : Item) (ys : List Item) → o x ≡ false → filter o (inserted before x ys) ≡ filter o ys
inserted_other o before x [] e = rw e refl
inserted_other o before x (y ∷ ys) e = by_test (before y x) (inserted_other o before x ys e)
  where
    by_test : (b : Bool) → filter o (inserted before x ys) ≡ filter o ys → filter o (cond b (y ∷ inserted before x ys) (x ∷ y ∷ ys)) ≡ filter o (y ∷ ys)
    by_test true rest = ap (λ w. cond (o y) (y ∷ w) w) rest
    by_test false rest = rw e refl

inserted_own : (o : Item → Bool) (before : Item → Item → Bool) (x : Item) (ys : List Item) → o x ≡ true → AllByRecursion (λ y. o y ≡ true → before y x ≡ false) ys →
    filter o (inserted before x ys) ≡ x ∷ filter o ys
inserted_own o before x [] e h = rw e refl
inserted_own o before x (y ∷ ys) e h = by_test (before y x) refl (o y) refl (inserted_own o before x ys e h.1)
  where
    by_test : (b : Bool) → before y x ≡ b → (c : Bool) → o y ≡ c → filter o (inserted before x ys) ≡ x ∷ filter o ys →
        filter o (cond (before y x) (y ∷ inserted before x ys) (x ∷ y ∷ ys)) ≡ x ∷ filter o (y ∷ ys)
    by_test false f c g rest = rw f (rw e refl)
    by_test true f true g rest = clash (sym f ∙ h.0 g)
    by_test true f false g rest = rw f (rw g rest)

-- a test under which items keep the order of their numbers
abbrev pub KeepsOrder : (Item → Bool) → (Item → Item → Bool) → Type 0
KeepsOrder o before = (x y : Item) → o x ≡ true → o y ≡ true → x.number < y.number → before y x ≡ false

items_behind : (low : ℕ) (xs : List Item) → Rising low xs → AllByRecursion (λ y. low ≤ y.number) xs
items_behind m [] q = tt
items_behind m (y ∷ ys) q = (q.0, all_weaker (λ z. y.number + 1 ≤ z.number) (λ z. m ≤ z.number) (λ z h. omega (arith, h, q.0)) ys (items_behind (y.number + 1) ys q.1))

pub sorted_side : (o : Item → Bool) (before : Item → Item → Bool) → KeepsOrder o before → (low : ℕ) (xs : List Item) → Rising low xs → filter o (in_order before xs) ≡ filter o xs
sorted_side o before keeps low [] r = refl
sorted_side o before keeps low (x ∷ xs) r = by_test (o x) refl (sorted_side o before keeps (x.number + 1) xs r.1)
  where
    by_test : (b : Bool) → o x ≡ b → filter o (in_order before xs) ≡ filter o xs → filter o (inserted before x (in_order before xs)) ≡ filter o (x ∷ xs)
    by_test false e rest = inserted_other o before x (in_order before xs) e ∙ rest ∙ rw e refl
    by_test true e rest =
        inserted_own o before x (in_order before xs) e
        (all_in_order (λ y. o y ≡ true → before y x ≡ false) before xs
        (all_weaker (λ y. x.number + 1 ≤ y.number) (λ y. o y ≡ true → before y x ≡ false) (λ y h g. keeps x y e g (omega (arith, h))) xs (items_behind (x.number + 1) xs r.1)))
        ∙ ap (λ w. x ∷ w) rest ∙ rw e refl

-- ---- what a pick takes of a side

-- filters keep numbers rising
pub rising_filter : (low : ℕ) (f : Item → Bool) (xs : List Item) → Rising low xs → Rising low (filter f xs)
rising_filter low f [] r = tt
rising_filter low f (x ∷ xs) r = by_test (f x) (rising_filter (x.number + 1) f xs r.1)
  where
    lower : (m n : ℕ) (ys : List Item) → m ≤ n → Rising n ys → Rising m ys
    lower m n [] h q = tt
    lower m n (y ∷ ys) h q = (omega (arith, h, q.0), q.1)

    by_test : (b : Bool) → Rising (x.number + 1) (filter f xs) → Rising low (cond b (x ∷ filter f xs) (filter f xs))
    by_test true q = (r.0, q)
    by_test false q = lower low (x.number + 1) (filter f xs) (omega (arith, r.0)) q

-- the test that lets an item of the side through depends on the side, and on whether it was taken
abbrev pub IsBySide : SideId → List ℕ → (Item → Bool) → Bool → Type 0
IsBySide t ns test e = (i : Item) → of t i ≡ true → test i ≡ (e && not (has ns i.number))

pub picks_side : (low : ℕ) (its : List Item) (ns : List ℕ) (t : SideId) (before : Item → Item → Bool) (w c h : Item → Bool) (e : Bool) (n : Option ℕ) →
    Rising low its → KeepsOrder (of t) before → IsBySide t ns (λ i. w i && (c i && h i)) e →
    IsPrefixOf (filter (of t) (first_items n (filter h (in_order before (filter c (filter w its)))))) (filter (untaken t ns) its)
picks_side low its ns t before w c h e n r keeps by =
    prefix_trans (filter (of t) (first_items n zs)) (filter (of t) zs) (filter (untaken t ns) its)
    (prefix-filter (of t) (first_items n zs) zs (first_begins n zs))
    (subst (λ l. IsPrefixOf l (filter (untaken t ns) its)) (sym all_of) (by_test e))
  where
    zs : List Item
    zs = filter h (in_order before (filter c (filter w its)))

    and_swap : (a b : Bool) → (a && b) ≡ (b && a)
    and_swap true true = refl
    and_swap true false = refl
    and_swap false true = refl
    and_swap false false = refl

    whole : (i : Item) (b : Bool) → of t i ≡ b → ((w i && c i) && (of t i && h i)) ≡ (e && untaken t ns i)
    whole i true f = rw f (regroup (w i) (c i) (h i) ∙ by i f)
      where
        regroup : (a b d : Bool) → ((a && b) && d) ≡ (a && (b && d))
        regroup true b d = refl
        regroup false b d = refl
    whole i false f = rw f (none (w i && c i) ∙ sym (none e))
      where
        none : (a : Bool) → (a && false) ≡ false
        none true = refl
        none false = refl

    all_of : filter (of t) zs ≡ filter (λ i. e && untaken t ns i) its
    all_of =
        filter_twice (of t) h (in_order before (filter c (filter w its)))
        ∙ filter_ext (λ i. h i && of t i) (λ i. of t i && h i) (λ i. and_swap (h i) (of t i)) (in_order before (filter c (filter w its)))
        ∙ sym (filter_twice h (of t) (in_order before (filter c (filter w its))))
        ∙ ap (filter h) (sorted_side (of t) before keeps low (filter c (filter w its)) (rising_filter low c (filter w its) (rising_filter low w its r)))
        ∙ filter_twice h (of t) (filter c (filter w its))
        ∙ ap (filter (λ i. of t i && h i)) (filter_twice c w its)
        ∙ filter_twice (λ i. of t i && h i) (λ i. w i && c i) its
        ∙ filter_ext (λ i. (w i && c i) && (of t i && h i)) (λ i. e && untaken t ns i) (λ i. whole i (of t i) refl) its

    by_test : (b : Bool) → IsPrefixOf (filter (λ i. b && untaken t ns i) its) (filter (untaken t ns) its)
    by_test true = ([], append-nil (filter (untaken t ns) its))
    by_test false = (filter (untaken t ns) its, ap (λ l. l ++ filter (untaken t ns) its) (filter_none (λ i. false) its (every its)))
      where
        every : (xs : List Item) → AllByRecursion (λ i. false ≡ false) xs
        every [] = tt
        every (x ∷ xs) = (refl, every xs)
