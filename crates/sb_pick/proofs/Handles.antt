-- Where sides differ in their handles, each is found by its own.
use Rattle.std.proofs.Common.{◌≡◌, ℕ, Bool, true, false, cond, ◌&&◌, ◌||◌, List, [], ◌∷◌, eqb, refl, ap, sym, subst, ◌∙◌}
use Rattle.std.specs.Prelude.{Option, None, Some, IsSome, find, is_some, option_map}
use Rattle.std.specs.Bool.{beq}
use Rattle.std.specs.List.{AllByRecursion, list_any}
use Rattle.std.specs.Option.{option_eq, option_or}
use Rattle.std.proofs.lemmas.Bool.{eqb-true, eq-eqb}
use Rattle.std.proofs.lemmas.List.Folds.{find-append}
use Rattle.sb_log.specs.declared.entries.Entry.{Entry}
use Rattle.sb_log.specs.declared.identifiers.Handle.{Handle}
use Rattle.sb_log.specs.declared.identifiers.SideId.{SideId}
use Rattle.sb_model.specs.Sides.{Making, firsts_after, is_of, made, made_by, makings, same_id, same_side, side_of, sides}
use Rattle.sb_pick.specs.Of.{HandlesDiffer}

both_left : (a b : Bool) → (a && b) ≡ true → a ≡ true
both_left true b e = refl
both_left false b e = e

both_right : (a b : Bool) → (a && b) ≡ true → b ≡ true
both_right true b e = e
both_right false b e = cc

neither : (a b : Bool) → a ≡ false → b ≡ false → (a || b) ≡ false
neither true b e f = e
neither false b e f = f

neither_left : (a b : Bool) → (a || b) ≡ false → a ≡ false
neither_left true b e = e
neither_left false b e = refl

neither_right : (a b : Bool) → (a || b) ≡ false → b ≡ false
neither_right true b e = cc
neither_right false b e = e

clash : true ≡ false → ⊥
clash e = cc

beq_same : (a b : Bool) → beq a b ≡ true → a ≡ b
beq_same true true e = refl
beq_same true false e = cc
beq_same false true e = cc
beq_same false false e = refl

beq_self : (a : Bool) → beq a a ≡ true
beq_self true = refl
beq_self false = refl

sides_same : (a b : SideId) → same_side a b ≡ true → a ≡ b
sides_same a b e =
    let c : a.conversation.0 ≡ b.conversation.0 = eqb-true a.conversation.0 b.conversation.0 (both_left (eqb a.conversation.0 b.conversation.0) (beq a.initiator b.initiator) e) in
    let i : a.initiator ≡ b.initiator = beq_same a.initiator b.initiator (both_right (eqb a.conversation.0 b.conversation.0) (beq a.initiator b.initiator) e) in
    let make : ℕ → Bool → SideId = λ n x. record { conversation = record { 0 = n }; initiator = x } in
    ap (λ n. make n a.initiator) c ∙ ap (make b.conversation.0) i

side_self : (s : SideId) → same_side s s ≡ true
side_self s =
    ap (λ b. b && beq s.initiator s.initiator) (eq-eqb s.conversation.0 s.conversation.0 refl) ∙ beq_self s.initiator

ids_same : (a b : Handle) → same_id a b ≡ true → a ≡ b
ids_same a b e =
    let make : ℕ → Handle = λ n. record { 0 = n } in
    ap make (eqb-true a.0 b.0 e)

id_self : (a : Handle) → same_id a a ≡ true
id_self a = eq-eqb a.0 a.0 refl

-- what holds of b, which is like a, and not of a, isn't so
apart_by : (test : SideId → Bool) (a b : SideId) → test a ≡ true → test b ≡ false → same_side a b ≡ false
apart_by test a b of_a not_b = by (same_side a b) refl
  where
    by : (t : Bool) → same_side a b ≡ t → same_side a b ≡ false
    by false e = e
    by true e = absurd (clash (sym (subst (λ s. test s ≡ true) (sides_same a b e) of_a) ∙ not_b))

other_way : (a b : SideId) → same_side a b ≡ false → same_side b a ≡ false
other_way a b e = apart_by (λ s. same_side s b) b a (side_self b) e

pub side_like : (a b : SideId) → same_side a b ≡ same_side b a
side_like a b = by (same_side a b) refl
  where
    by : (t : Bool) → same_side a b ≡ t → t ≡ same_side b a
    by true e = sym (subst (λ s. same_side s a ≡ true) (sides_same a b e) (side_self a))
    by false e = sym (other_way a b e)

-- ---- the first making of a side

made_is_found : (log : List Entry) (s : SideId) → made log s ≡ find (is_of s) (makings log)
made_is_found [] s = refl
made_is_found (e ∷ log) s = ap (option_or (find (is_of s) (made_by e))) (made_is_found log s) ∙ sym (find-append (is_of s) (made_by e) (makings log))

abbrev IsFirst : List SideId → List Making → Making → Type 0
IsFirst seen ms m = (find (is_of m.side) ms ≡ Some m) × (list_any (same_side m.side) seen ≡ false)

all_weaker : {A : Type 0} (P Q : A → Type 0) → ((x : A) → P x → Q x) → (xs : List A) → AllByRecursion P xs → AllByRecursion Q xs
all_weaker P Q so [] h = tt
all_weaker P Q so (x ∷ xs) h = (so x h.0, all_weaker P Q so xs h.1)

module _ (seen : List SideId) (m : Making) (ms : List Making) where
  behind : (n : Making) → same_side m.side n.side ≡ false → find (is_of n.side) ms ≡ Some n → find (is_of n.side) (m ∷ ms) ≡ Some n
  behind n e f = ap (λ t. cond t (Some m) (find (is_of n.side) ms)) e ∙ f

  behind_seen : list_any (same_side m.side) seen ≡ true → (n : Making) → IsFirst seen ms n → IsFirst seen (m ∷ ms) n
  behind_seen e n k = (behind n (apart_by (λ s. list_any (same_side s) seen) m.side n.side e k.1) k.0, k.1)

  behind_new : (n : Making) → IsFirst (m.side ∷ seen) ms n → IsFirst seen (m ∷ ms) n
  behind_new n k = (
    behind n (other_way n.side m.side (neither_left (same_side n.side m.side) (list_any (same_side n.side) seen) k.1)) k.0,
    neither_right (same_side n.side m.side) (list_any (same_side n.side) seen) k.1,
  )

firsts_found : (seen : List SideId) (ms : List Making) → AllByRecursion (IsFirst seen ms) (firsts_after seen ms)
firsts_found seen [] = tt
firsts_found seen (m ∷ ms) = by (list_any (same_side m.side) seen) refl (firsts_found seen ms) (firsts_found (m.side ∷ seen) ms)
  where
    by : (t : Bool) → list_any (same_side m.side) seen ≡ t → AllByRecursion (IsFirst seen ms) (firsts_after seen ms) → AllByRecursion (IsFirst (m.side ∷ seen) ms) (firsts_after (m.side ∷ seen) ms) →
        AllByRecursion (IsFirst seen (m ∷ ms)) (cond t (firsts_after seen ms) (m ∷ firsts_after (m.side ∷ seen) ms))
    by true e old new = all_weaker (IsFirst seen ms) (IsFirst seen (m ∷ ms)) (behind_seen seen m ms e) (firsts_after seen ms) old
    by false e old new = (
      (ap (λ t. cond t (Some m) (find (is_of m.side) ms)) (side_self m.side), e),
      all_weaker (IsFirst (m.side ∷ seen) ms) (IsFirst seen (m ∷ ms)) (behind_new seen m ms) (firsts_after (m.side ∷ seen) ms) new,
    )

found_passes : {A : Type 0} (P : A → Type 0) (p : A → Bool) (xs : List A) (x : A) → AllByRecursion P xs → find p xs ≡ Some x → (p x ≡ true) × P x
found_passes P p [] x all e = cc
found_passes {A} P p (y ∷ ys) x all e = by (p y) refl (found_passes P p ys x all.1) e
  where
    by : (t : Bool) → p y ≡ t → (find p ys ≡ Some x → (p x ≡ true) × P x) → cond t (Some y) (find p ys) ≡ Some x → (p x ≡ true) × P x
    by true is rest f = let same : y ≡ x = cc in (subst (λ z. p z ≡ true) same is, subst P same all.0)
    by false is rest f = rest f

all_same : {A : Type 0} (xs : List A) → AllByRecursion (λ x. x ≡ x) xs
all_same [] = tt
all_same (x ∷ xs) = (refl, all_same xs)

-- the making of a side is that of its own side
pub made_self : (log : List Entry) (s : SideId) (m : Making) → made log s ≡ Some m → made log m.side ≡ Some m
made_self log s m is =
    let of_side : (is_of s m ≡ true) × (m ≡ m) = found_passes (λ x. x ≡ x) (is_of s) (makings log) m (all_same (makings log)) (sym (made_is_found log s) ∙ is) in
    subst (λ z. made log z ≡ Some m) (sym (sides_same m.side s of_side.0)) is

-- where a first making passes, one is found
module _ (p : Making → Bool) (s : SideId) (m : Making) (passes : p m ≡ true) where
  one_is_found : (seen : List SideId) (ms : List Making) → find (is_of s) ms ≡ Some m → list_any (same_side s) seen ≡ false → IsSome (find p (firsts_after seen ms))
  one_is_found seen [] first unseen = cc
  one_is_found seen (x ∷ ms) first unseen =
      by (list_any (same_side x.side) seen) refl (same_side x.side s) refl first (λ h. one_is_found seen ms h unseen) (one_is_found (x.side ∷ seen) ms)
    where
      here : (t : Bool) → p x ≡ t → IsSome (find p (firsts_after (x.side ∷ seen) ms)) → IsSome (cond t (Some x) (find p (firsts_after (x.side ∷ seen) ms)))
      here true e more = refl
      here false e more = more

      by : (t : Bool) → list_any (same_side x.side) seen ≡ t → (b : Bool) → same_side x.side s ≡ b → cond b (Some x) (find (is_of s) ms) ≡ Some m →
          (find (is_of s) ms ≡ Some m → IsSome (find p (firsts_after seen ms))) →
          (find (is_of s) ms ≡ Some m → list_any (same_side s) (x.side ∷ seen) ≡ false → IsSome (find p (firsts_after (x.side ∷ seen) ms))) →
          IsSome (find p (cond t (firsts_after seen ms) (x ∷ firsts_after (x.side ∷ seen) ms)))
      by true e true same h old new = absurd (clash (sym (subst (λ z. list_any (same_side z) seen ≡ true) (sides_same x.side s same) e) ∙ unseen))
      by true e false apart h old new = old h
      by false e true same h old new =
          let is : m ≡ x = cc in
          ap (λ t. is_some (cond t (Some x) (find p (firsts_after (x.side ∷ seen) ms)))) (subst (λ z. p z ≡ true) is passes)
      by false e false apart h old new = here (p x) refl (new h (neither (same_side s x.side) (list_any (same_side s) seen) (other_way x.side s apart) unseen))

abbrev IsMade : List Entry → Making → Type 0
IsMade log m = made log m.side ≡ Some m

sides_made : (log : List Entry) → AllByRecursion (IsMade log) (sides log)
sides_made log = all_weaker (IsFirst [] (makings log)) (IsMade log) (λ m k. made_is_found log m.side ∙ k.0) (sides log) (firsts_found [] (makings log))

-- a side is found by its own handle alone
module _ (log : List Entry) (differ : HandlesDiffer log) (s : SideId) (m : Making) (handle : Handle) (is : made log s ≡ Some m) where
  abbrev has_handle : Making → Bool
  has_handle n = same_id n.handle handle

  not_found : (t : Bool) → has_handle m ≡ t → find has_handle (sides log) ≡ None → false ≡ t
  not_found false e none = refl
  not_found true e none =
      let found : IsSome (find has_handle (sides log)) = one_is_found has_handle s m e [] (makings log) (sym (made_is_found log s) ∙ is) refl in
      subst IsSome none found

  found : (n : Making) → has_handle n ≡ true → made log n.side ≡ Some n → (t : Bool) → has_handle m ≡ t → (b : Bool) → same_side n.side s ≡ b → b ≡ t
  found n e made_n true f b g =
      let to_other : n.handle ≡ m.handle = ids_same n.handle handle e ∙ sym (ids_same m.handle handle f) in
      sym g ∙ differ n.side s n m made_n is (subst (λ h. same_id n.handle h ≡ true) to_other (id_self n.handle))
  found n e made_n false f true g =
      let same : Some n ≡ Some m = sym made_n ∙ ap (made log) (sides_same n.side s g) ∙ is in
      let one : n ≡ m = cc in
      absurd (clash (sym (subst (λ z. has_handle z ≡ true) one e) ∙ f))
  found n e made_n false f false g = refl

  pub found_by_handle : option_eq same_side (side_of log handle) (Some s) ≡ same_id m.handle handle
  found_by_handle = by (find has_handle (sides log)) refl
    where
      by : (o : Option Making) → find has_handle (sides log) ≡ o → option_eq same_side (option_map (λ n. n.side) o) (Some s) ≡ same_id m.handle handle
      by None e = not_found (has_handle m) refl e
      by (Some n) e =
          let k : (has_handle n ≡ true) × IsMade log n = found_passes (IsMade log) has_handle (sides log) n (sides_made log) e in
          found n k.0 k.1 (has_handle m) refl (same_side n.side s) refl
