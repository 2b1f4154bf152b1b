-- What is stored, as it is seen.
use Rattle.std.proofs.Common.{◌≡◌, ℕ, ◌<◌, Bool, true, false, cond, List, [], ◌∷◌, ◌++◌, get_or, length, map, refl, ap, ◌∙◌}
use Rattle.std.specs.List.{AllByRecursion}
use Rattle.std.proofs.lemmas.List.{map-append}
use Rattle.std.proofs.lemmas.List.Elements.{All-map, All-weaker, at_read, recursion_from_All}
use Rattle.sb_log.specs.declared.identifiers.Handle.{Handle}
use Rattle.sb_log.specs.declared.identifiers.SideId.{SideId}
use Rattle.sb_model.specs.Sides.{Bytes, same_side}
use Rattle.sb_pick.specs.Inside.{ArePlaced, KeepsPlaces, name_at, seen, seen_in}
use Rattle.sb_pick.specs.Stored.{with_group, with_group_of}
use Rattle.sb_pick.specs.Waiting.{Waiting, in_group, regrouped}
use Rattle.sb_pick.specs.declared.stored.Stored.{Stored}

-- ---- more names

seen_same : (old new : List Bytes) → KeepsPlaces old new → (xs : List Stored) → AllByRecursion (λ s. s.place < length old) xs → map (seen new) xs ≡ map (seen old) xs
seen_same old new keeps [] h = refl
seen_same old new keeps (x ∷ xs) h =
    ap (λ q. seen_in q x ∷ map (seen new) xs) (keeps x.place h.0).1
    ∙ ap (λ ws. seen old x ∷ ws) (seen_same old new keeps xs h.1)

pub seen_kept : (old new : List Bytes) (xs : List Stored) → KeepsPlaces old new → ArePlaced old xs → map (seen new) xs ≡ map (seen old) xs
seen_kept old new xs keeps h = seen_same old new keeps xs (recursion_from_All _ xs h)

pub placed_kept : (old new : List Bytes) (xs : List Stored) → KeepsPlaces old new → ArePlaced old xs → ArePlaced new xs
placed_kept old new xs keeps h = All-weaker (λ s. s.place < length old) (λ s. s.place < length new) (λ s p. (keeps s.place p).0) xs h

-- ---- one more

pub seen_pushed : (names : List Bytes) (q : Bytes) (xs ys : List Stored) (x : Stored) → name_at names x.place ≡ q → ys ≡ xs ++ x ∷ [] → map (seen names) ys ≡ map (seen names) xs ++ seen_in q x ∷ []
seen_pushed names q xs ys x at e =
    ap (map (seen names)) e
    ∙ map-append (seen names) xs (x ∷ [])
    ∙ ap (λ n. map (seen names) xs ++ seen_in n x ∷ []) at

-- ---- another group

regroups_one : (names : List Bytes) (side : SideId) (g : Handle) (x : Stored) (t : Bool) → seen names (cond t (with_group g x) x) ≡ cond t (in_group g (seen names x)) (seen names x)
regroups_one names side g x true = refl
regroups_one names side g x false = refl

pub seen_regrouped : (names : List Bytes) (side : SideId) (g : Handle) (xs : List Stored) → map (seen names) (map (with_group_of side g) xs) ≡ regrouped side g (map (seen names) xs)
seen_regrouped names side g [] = refl
seen_regrouped names side g (x ∷ xs) =
    ap (λ w. w ∷ map (seen names) (map (with_group_of side g) xs)) (regroups_one names side g x (same_side x.item.side side))
    ∙ ap (λ ws. cond (same_side x.item.side side) (in_group g (seen names x)) (seen names x) ∷ ws) (seen_regrouped names side g xs)

placed_one : (n : ℕ) (g : Handle) (x : Stored) (t : Bool) → x.place < n → (cond t (with_group g x) x).place < n
placed_one n g x true h = h
placed_one n g x false h = h

pub placed_regrouped : (names : List Bytes) (side : SideId) (g : Handle) (xs : List Stored) → ArePlaced names xs → ArePlaced names (map (with_group_of side g) xs)
placed_regrouped names side g xs h =
    All-map (λ s. s.place < length names) (with_group_of side g) xs
    (All-weaker (λ s. s.place < length names) (λ s. (with_group_of side g s).place < length names) (λ s p. placed_one (length names) g s (same_side s.item.side side) p) xs h)

-- the name at the place of a stored message
pub own_name : (names : List Bytes) (place : ℕ) (own : Bytes) → place < length names → own ≡ get_or names place own → name_at names place ≡ own
own_name names place own within at = at_read names (λ name. name ≡ own) place own within at refl []

-- what is lent of the fields is seen as they are
pub seen_lent : (names lent_names : List Bytes) (xs lent : List Stored) (ws : List Waiting) → lent_names ≡ names → lent ≡ xs → map (seen names) xs ≡ ws → map (seen lent_names) lent ≡ ws
seen_lent names lent_names xs lent ws same_names same e =
    ap (λ n. map (seen n) lent) same_names ∙ ap (map (seen names)) same ∙ e
