-- What waits after several operations is what waits after one and then the others.
use Rattle.std.proofs.Common.{◌≡◌, ℕ, Bool, true, false, cond, not, ◌&&◌, ◌||◌, ◌==◌, List, [], ◌∷◌, ◌++◌, map, refl, ap, sym, ◌∙◌, append-nil}
use Rattle.std.specs.Prelude.{None, filter, flat_map, unwrap_or}
use Rattle.std.specs.List.{last_or, list_any}
use Rattle.std.proofs.lemmas.Cmp.{nat_eq_equiv}
use Rattle.std.proofs.lemmas.Simd.{map-map}
use Rattle.sb_log.specs.declared.entries.Final.{Final}
use Rattle.sb_log.specs.declared.entries.Op.{Op}
use Rattle.sb_log.specs.declared.entries.Op.TheVariants.{Took, End, Cleanup, Move}
use Rattle.sb_log.specs.declared.identifiers.Handle.{Handle}
use Rattle.sb_log.specs.declared.identifiers.SideId.{SideId}
use Rattle.sb_model.specs.Groups.{group_moved}
use Rattle.sb_model.specs.Sides.{Bytes, same_side}
use Rattle.sb_pick.specs.Picked.{after, is_left, moved, withdraws}
use Rattle.sb_pick.specs.Waiting.{Waiting, in_group, regrouped, without_item, without_side}
use Rattle.sb_pick.proofs.Each.{filter_both, filter_same}
use Rattle.sb_pick.proofs.Handles.{side_like}
use Rattle.sb_pick.proofs.Lists.{filter-map}
use Rattle.sb_pick.proofs.Views.{last_behind, last_or-append}

map_same : {A B : Type 0} (f g : A → B) (xs : List A) → ((x : A) → f x ≡ g x) → map f xs ≡ map g xs
map_same f g [] h = refl
map_same f g (x ∷ xs) h = ap (λ y. y ∷ map f xs) (h x) ∙ ap (λ ys. g x ∷ ys) (map_same f g xs h)

map_self : {A : Type 0} (f : A → A) (xs : List A) → ((x : A) → f x ≡ x) → map f xs ≡ xs
map_self f [] h = refl
map_self f (x ∷ xs) h = ap (λ y. y ∷ map f xs) (h x) ∙ ap (λ ys. x ∷ ys) (map_self f xs h)

filter_all : {A : Type 0} (p : A → Bool) (xs : List A) → ((x : A) → p x ≡ true) → filter p xs ≡ xs
filter_all p [] h = refl
filter_all p (x ∷ xs) h = ap (λ t. cond t (x ∷ filter p xs) (filter p xs)) (h x) ∙ ap (λ ys. x ∷ ys) (filter_all p xs h)

not_either : (a b : Bool) → not (a || b) ≡ (not a && not b)
not_either true b = refl
not_either false b = refl

no_more : (a : Bool) → (a || false) ≡ a
no_more true = refl
no_more false = refl

module _ (op : Op) (ops : List Op) where
  moved_twice : (w : Waiting) → moved (op ∷ ops) w ≡ moved ops (moved (op ∷ []) w)
  moved_twice w =
      let first : List Handle = group_moved w.item.side op in
      let rest : List Handle = flat_map (group_moved w.item.side) ops in
      ap (λ o. in_group (unwrap_or o w.group) w) (last_or-append None first rest)
      ∙ ap (λ g. in_group g w) (last_behind (last_or None first) rest w.group)
      ∙ ap (λ gs. in_group (unwrap_or (last_or None rest) (unwrap_or (last_or None gs) w.group)) w) (sym (append-nil first))

  left_of_both : (w : Waiting) → is_left (op ∷ ops) w ≡ (is_left (op ∷ []) w && is_left ops w)
  left_of_both w =
      not_either (withdraws w.item op) (list_any (withdraws w.item) ops)
      ∙ ap (λ t. not t && is_left ops w) (sym (no_more (withdraws w.item op)))

  pub after_one : (ws : List Waiting) → after (op ∷ ops) ws ≡ after ops (after (op ∷ []) ws)
  after_one ws =
      let left : List Waiting = filter (is_left (op ∷ [])) ws in
      map_same (moved (op ∷ ops)) (λ w. moved ops (moved (op ∷ []) w)) (filter (is_left (op ∷ ops)) ws) moved_twice
      ∙ ap (map (λ w. moved ops (moved (op ∷ []) w)))
      (filter_same (is_left (op ∷ ops)) (λ w. is_left (op ∷ []) w && is_left ops w) ws left_of_both ∙ sym (filter_both (is_left ops) (is_left (op ∷ [])) ws))
      ∙ sym (map-map (moved ops) (moved (op ∷ [])) (filter (is_left ops) left))
      ∙ ap (map (moved ops)) (sym (filter-map (moved (op ∷ [])) (is_left ops) left))

-- ---- one operation

module _ (op : Op) (stays : (s : SideId) → group_moved s op ≡ []) where
  unmoved : (w : Waiting) → moved (op ∷ []) w ≡ w
  unmoved w = ap (λ gs. in_group (unwrap_or (last_or None (gs ++ [])) w.group) w) (stays w.item.side)

  withdrawn : (keeps : Waiting → Bool) → ((w : Waiting) → withdraws w.item op ≡ not (keeps w)) → (ws : List Waiting) → after (op ∷ []) ws ≡ filter keeps ws
  withdrawn keeps says ws =
      map_self (moved (op ∷ [])) (filter (is_left (op ∷ [])) ws) unmoved
      ∙ filter_same (is_left (op ∷ [])) keeps ws (λ w. ap not (no_more (withdraws w.item op) ∙ says w) ∙ not_twice (keeps w))
    where
      not_twice : (b : Bool) → not (not b) ≡ b
      not_twice true = refl
      not_twice false = refl

self_not : (b : Bool) → b ≡ not (not b)
self_not true = refl
self_not false = refl

pub after_took : (q : Bytes) (number : ℕ) (ws : List Waiting) → after (Took q number ∷ []) ws ≡ without_item number ws
after_took q number ws =
    withdrawn (Took q number) (λ s. refl) (λ w. not (w.item.number == number)) (λ w. nat_eq_equiv.symm number w.item.number ∙ self_not (w.item.number == number)) ws

pub after_end : (side : SideId) (last : Final) (ws : List Waiting) → after (End side last ∷ []) ws ≡ without_side side ws
after_end side last ws =
    withdrawn (End side last) (λ s. refl) (λ w. not (same_side w.item.side side)) (λ w. side_like side w.item.side ∙ self_not (same_side w.item.side side)) ws

pub after_cleanup : (side : SideId) (ws : List Waiting) → after (Cleanup side ∷ []) ws ≡ without_side side ws
after_cleanup side ws =
    withdrawn (Cleanup side) (λ s. refl) (λ w. not (same_side w.item.side side)) (λ w. side_like side w.item.side ∙ self_not (same_side w.item.side side)) ws

moved_one : (side : SideId) (g : Handle) (w : Waiting) → moved (Move side g ∷ []) w ≡ cond (same_side w.item.side side) (in_group g w) w
moved_one side g w = ap (λ t. in_group (unwrap_or (last_or None (cond t (g ∷ []) [] ++ [])) w.group) w) (side_like side w.item.side) ∙ by (same_side w.item.side side)
  where
    by : (t : Bool) → in_group (unwrap_or (last_or None (cond t (g ∷ []) [] ++ [])) w.group) w ≡ cond t (in_group g w) w
    by true = refl
    by false = refl

pub after_move : (side : SideId) (g : Handle) (ws : List Waiting) → after (Move side g ∷ []) ws ≡ regrouped side g ws
after_move side g ws =
    ap (map (moved (Move side g ∷ []))) (filter_all (is_left (Move side g ∷ [])) ws (λ w. refl))
    ∙ map_same (moved (Move side g ∷ [])) (λ w. cond (same_side w.item.side side) (in_group g w) w) ws (moved_one side g)

-- any other operation leaves what waits
pub after_other : (op : Op) (ws : List Waiting) → ((w : Waiting) → withdraws w.item op ≡ false) → ((s : SideId) → group_moved s op ≡ []) → after (op ∷ []) ws ≡ ws
after_other op ws none stays =
    withdrawn op stays (λ w. true) (λ w. none w) ws ∙ filter_all (λ w. true) ws (λ w. refl)
