-- Delivery from linked logs: what each side received begins what its partner sent.
use Rattle.std.proofs.Common.{◌≡◌, ℕ, zero, suc, Bool, true, false, List, [], ◌∷◌, ◌++◌, Some, None, refl, sym, ◌∙◌, ap, subst, arith, cond}
use Rattle.std.specs.Prelude.{flat_map, find, slice_get, not, IsTrue, MatchBool, ◌||◌}
use Rattle.std.specs.List.{list_any, AllByRecursion}
use Rattle.std.specs.Option.{option_or}
use Rattle.std.proofs.lemmas.List.Folds.{find-append}
use Rattle.std.proofs.lemmas.Bool.{eqb-true}
use Rattle.std.proofs.lemmas.Option.{same_Some}
use Rattle.sb_log.specs.declared.identifiers.Handle.{Handle}
use Rattle.sb_log.specs.declared.identifiers.SideId.{SideId}
use Rattle.sb_log.specs.declared.identifiers.Who.{Who}
use Rattle.sb_log.specs.declared.identifiers.Who.TheVariants.{A, B}
use Rattle.sb_log.specs.declared.entries.Entry.{Entry}
use Rattle.sb_log.specs.declared.entries.Entry.TheVariants.{Defined, Txn, Accepted, Acked, Fired, Expired, QueueSet}
use Rattle.sb_log.specs.declared.entries.Op.{Op}
use Rattle.sb_log.specs.declared.entries.Op.TheVariants.{Begin, Send, Took, End, Cleanup, Move, Timer, Put, Delete}
use Rattle.sb_model.specs.Sides.{same_side, partner, is_home, other, tag, tag_of}
use Rattle.sb_model.specs.Sides.{Making, makings, made, made_by, made_by_op, has_side, is_of, ops_of, ops_of_entry}
use Rattle.sb_model.specs.Messages.{contents_accepted}
use Rattle.sb_model.specs.Messages.{numbered}
use Rattle.sb_model.specs.Wire.{Wired}
use Rattle.sb_model.specs.Survival.{IsPrefixOf}
use Rattle.sb_model.specs.Links.{Logs, Linked, HasSide, IsFar, BeginsHere, MakesTarget, AcceptedFrom}
use Rattle.sb_laws.proofs.OnceLemmas.{once}
use Rattle.sb_laws.proofs.Sides.{sides_same, partner_twice}
use Rattle.sb_laws.proofs.Grow.{all_left, all_right}
use Rattle.sb_model.specs.Links.{DeliversInOrder}

-- ---- the first making

pub made_is_find : (log : List Entry) (s : SideId) → made log s ≡ find (is_of s) (makings log)
made_is_find [] s = refl
made_is_find (e ∷ log) s = ap (option_or (find (is_of s) (made_by e))) (made_is_find log s) ∙ sym (find-append (is_of s) (made_by e) (makings log))

-- what is found passes, and is there
pub found_passes : {X : Type 0} (p : X → Bool) (xs : List X) (x : X) → find p xs ≡ Some x → p x ≡ true
found_passes p [] x e = cc
found_passes {X} p (y ∷ ys) x e = by_test (p y) refl e (found_passes p ys x)
  where
    by_test : (b : Bool) → p y ≡ b → cond b (Some y) (find p ys) ≡ Some x → (find p ys ≡ Some x → p x ≡ true) → p x ≡ true
    by_test true f g rest = subst (λ z. p z ≡ true) (same_Some y x g) f
    by_test false f g rest = rest g

pub found_any : {X : Type 0} (p : X → Bool) (xs : List X) (x : X) → find p xs ≡ Some x → list_any p xs ≡ true
found_any p [] x e = cc
found_any {X} p (y ∷ ys) x e = by_test (p y) refl e (found_any p ys x)
  where
    by_test : (b : Bool) → p y ≡ b → cond b (Some y) (find p ys) ≡ Some x → (find p ys ≡ Some x → list_any p ys ≡ true) → list_any p (y ∷ ys) ≡ true
    by_test true f g rest = rw f refl
    by_test false f g rest = rw f (rest g)

pub made_side : (log : List Entry) (s : SideId) (m : Making) → made log s ≡ Some m → m.side ≡ s
made_side log s m e = sides_same m.side s (found_passes (is_of s) (makings log) m (sym (made_is_find log s) ∙ e))

pub made_has_side : (log : List Entry) (s : SideId) (m : Making) → made log s ≡ Some m → IsTrue (has_side log s)
made_has_side log s m e = found_any (is_of s) (makings log) m (sym (made_is_find log s) ∙ e)

-- ---- an initiator is at home

module _ (x : Who) where
  abbrev pub IsHomeMaking : Making → Type 0
  IsHomeMaking m = m.side.initiator ≡ true → IsTrue (is_home x m.side.conversation)

  op_home : (op : Op) → BeginsHere x op → AllByRecursion IsHomeMaking (made_by_op op)
  op_home (Begin handle group header) h = (λ e. h, tt)
  op_home (Send a b c) h = tt
  op_home (Took a b) h = tt
  op_home (End a b) h = tt
  op_home (Cleanup a) h = tt
  op_home (Move a b) h = tt
  op_home (Timer a b) h = tt
  op_home (Put a b c d) h = tt
  op_home (Delete a b) h = tt

  all_both : {X : Type 0} (P : X → Type 0) (xs ys : List X) → AllByRecursion P xs → AllByRecursion P ys → AllByRecursion P (xs ++ ys)
  all_both P [] ys h k = k
  all_both P (z ∷ zs) ys h k = (h.0, all_both P zs ys h.1 k)

  ops_home : (ops : List Op) → AllByRecursion (BeginsHere x) ops → AllByRecursion IsHomeMaking (flat_map made_by_op ops)
  ops_home [] h = tt
  ops_home (op ∷ ops) h = all_both IsHomeMaking (made_by_op op) (flat_map made_by_op ops) (op_home op h.0) (ops_home ops h.1)

  entry_home : (e : Entry) → AllByRecursion (BeginsHere x) (ops_of_entry e) → MakesTarget e → AllByRecursion IsHomeMaking (made_by e)
  entry_home (Txn tx ops) h t = ops_home ops h
  entry_home (Accepted side number (Some m) content) h t = (λ e. absurd (true_false (sym e ∙ t)), tt)
    where
      true_false : true ≡ false → ⊥
      true_false e = cc
  entry_home (Accepted side number None content) h t = tt
  entry_home (Defined a) h t = tt
  entry_home (Acked a b c) h t = tt
  entry_home (Fired a) h t = tt
  entry_home (Expired a) h t = tt
  entry_home (QueueSet a b) h t = tt

  pub all_home : (log : List Entry) → AllByRecursion (BeginsHere x) (ops_of log) → AllByRecursion MakesTarget log → AllByRecursion IsHomeMaking (makings log)
  all_home [] h t = tt
  all_home (e ∷ log) h t = all_both IsHomeMaking (made_by e) (makings log)
      (entry_home e (all_left (BeginsHere x) (ops_of_entry e) (ops_of log) h) t.0) (all_home log (all_right (BeginsHere x) (ops_of_entry e) (ops_of log) h) t.1)

  -- an instance that has an initiator is at home with the conversation
  pub initiator_home : (log : List Entry) (s : SideId) → AllByRecursion (BeginsHere x) (ops_of log) → AllByRecursion MakesTarget log →
      s.initiator ≡ true → IsTrue (has_side log s) → IsTrue (is_home x s.conversation)
  initiator_home log s h t e has = among (makings log) (all_home log h t) has
    where
      among : (ms : List Making) → AllByRecursion IsHomeMaking ms → list_any (is_of s) ms ≡ true → IsTrue (is_home x s.conversation)
      among [] all any = cc
      among (m ∷ ms) all any = by_test (same_side m.side s) refl any (among ms all.1)
        where
          by_test : (b : Bool) → same_side m.side s ≡ b → (b || list_any (is_of s) ms) ≡ true → (list_any (is_of s) ms ≡ true → IsTrue (is_home x s.conversation)) → IsTrue (is_home x s.conversation)
          by_test true f g rest = subst (λ z. z.initiator ≡ true → IsTrue (is_home x z.conversation)) (sides_same m.side s f) all.0 e
          by_test false f g rest = rest g

-- a conversation has one home
pub one_home : (x y : Who) (c : Handle) → IsTrue (is_home x c) → IsTrue (is_home y c) → x ≡ y
one_home A A c h k = refl
one_home B B c h k = refl
one_home A B c h k = absurd (omega (arith, eqb-true (tag_of c) (tag A) h, eqb-true (tag_of c) (tag B) k))
one_home B A c h k = absurd (omega (arith, eqb-true (tag_of c) (tag B) h, eqb-true (tag_of c) (tag A) k))

-- ---- the prefix form

pub prefix_from_places : {A : Type 0} (xs ys : List A) → ((k : ℕ) (c : A) → slice_get xs k ≡ Some c → slice_get ys k ≡ Some c) → IsPrefixOf xs ys
prefix_from_places [] ys f = (ys, refl)
prefix_from_places (x ∷ xs) [] f = absurd (none (f zero x refl))
  where
    none : {A : Type 0} {z : A} → None ≡ Some z → ⊥
    none e = cc
prefix_from_places (x ∷ xs) (y ∷ ys) f =
    let rest = prefix_from_places xs ys (λ k c e. f (suc k) c e) in
    (rest.0, ap (λ l. x ∷ l) rest.1 ∙ ap (λ z. z ∷ ys) (sym (same_Some y x (f zero x refl))))

matched : (b : Bool) (P Q : Type 0) → b ≡ true → MatchBool b P Q → P
matched true P Q e h = h
matched false P Q e h = cc

unmatched : (b : Bool) (P Q : Type 0) → b ≡ false → MatchBool b P Q → Q
unmatched true P Q e h = cc
unmatched false P Q e h = h

-- the messages that a side accepted begin those that the far side numbered, where each came from that instance
prefix_of_far : (logs : Logs) (x y : Who) (t : SideId) → AcceptedFrom logs y → ((far : Who) → IsFar logs far t → far ≡ x) →
    IsPrefixOf (contents_accepted (logs y) t) (numbered (logs x) (partner t))
prefix_of_far logs x y t from one = prefix_from_places (contents_accepted (logs y) t) (numbered (logs x) (partner t))
    (λ k c e. let came = from t k c e in subst (λ z. slice_get (numbered (logs z) (partner t)) k ≡ Some c) (one came.far came.is_far) came.place)

the_other : (x y : Who) → (y ≡ other x → ⊥) → y ≡ x
the_other A A f = refl
the_other B B f = refl
the_other A B f = absurd (f refl)
the_other B A f = absurd (f refl)

pub receives_in_order : (logs : Logs) (wire : List Wired) → Linked logs wire → DeliversInOrder logs
receives_in_order logs wire h x y s has whole =
    once (logs x) (logs y) s (h.taken_in_order y)
    (subst (λ z. IsPrefixOf (contents_accepted (logs y) (partner s)) (numbered (logs x) z)) (partner_twice s)
    (prefix_of_far logs x y (partner s) (h.accepted_from y) (by_end s.initiator refl)))
  where
    by_end : (b : Bool) → s.initiator ≡ b → (far : Who) → IsFar logs far (partner s) → far ≡ x
    by_end true e far k =
        one_home far x s.conversation
        (unmatched (not s.initiator) (HasSide logs far (partner (partner s))) (IsTrue (is_home far s.conversation)) (ap not e) k)
        (initiator_home x (logs x) s (h.sound x).own_tags (h.sound x).targets e has)
    by_end false e far k =
        let there : HasSide logs far (partner (partner s)) = matched (not s.initiator) (HasSide logs far (partner (partner s))) (IsTrue (is_home far s.conversation)) (ap not e) k in
        let here : HasSide logs far s = subst (HasSide logs far) (partner_twice s) there in
        the_other x far (λ f. whole e (subst (λ z. HasSide logs z s) f here))
