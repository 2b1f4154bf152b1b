-- What a log says once more entries stand behind it.
use Rattle.std.proofs.Common.{◌≡◌, ℕ, List, [], ◌∷◌, ◌++◌, ◌+◌, Option, Some, None, refl, sym, ◌∙◌, ap, length, append_assoc, arith, length-append, add-zero}
use Rattle.std.specs.Prelude.{find}
use Rattle.std.specs.List.{cons_option}
use Rattle.std.specs.Option.{option_or}
use Rattle.std.proofs.lemmas.Grind.{flat_map-append, common_steps}
use Rattle.sb_log.specs.declared.identifiers.SideId.{SideId}
use Rattle.sb_log.specs.declared.entries.Entry.{Entry}
use Rattle.sb_log.specs.declared.messages.Item.{Item}
use Rattle.sb_model.specs.Sides.{Making, ops_of, ops_of_entry, made, makings, made_by, is_of}
use Rattle.sb_model.specs.Messages.{sends, accepted, contents_accepted}
use Rattle.sb_model.specs.Items.{items_from, item_of, next_number, taken}
use Rattle.sb_model.specs.Survival.{IsPrefixOf}

pub ops_of-append : (xs ys : List Entry) → ops_of (xs ++ ys) ≡ ops_of xs ++ ops_of ys
ops_of-append xs ys = flat_map-append ops_of_entry xs ys

pub sends-append : (xs ys : List Entry) (s : SideId) → sends (xs ++ ys) s ≡ sends xs s ++ sends ys s
sends-append xs ys s = simp flat_map-append

pub taken-append : (xs ys : List Entry) → taken (xs ++ ys) ≡ taken xs ++ taken ys
taken-append xs ys = simp flat_map-append

pub contents_accepted-append : (xs ys : List Entry) (s : SideId) → contents_accepted (xs ++ ys) s ≡ contents_accepted xs s ++ contents_accepted ys s
contents_accepted-append xs ys s = simp flat_map-append

pub accepted-append : (xs ys : List Entry) (s : SideId) → accepted (xs ++ ys) s ≡ accepted xs s + accepted ys s
accepted-append xs ys s = simp (flat_map-append, length-append)

pub makings-append : (xs ys : List Entry) → makings (xs ++ ys) ≡ makings xs ++ makings ys
makings-append xs ys = simp flat_map-append

option_or_assoc : {A : Type 0} (a b c : Option A) → option_or (option_or a b) c ≡ option_or a (option_or b c)
option_or_assoc None b c = refl
option_or_assoc (Some x) b c = refl

pub made-append : (xs ys : List Entry) (s : SideId) → made (xs ++ ys) s ≡ option_or (made xs s) (made ys s)
made-append [] ys s = refl
made-append (x ∷ xs) ys s = ap (λ o. option_or (find (is_of s) (made_by x)) o) (made-append xs ys s)
    ∙ sym (option_or_assoc (find (is_of s) (made_by x)) (made xs s) (made ys s))

-- a making that counts goes on counting
pub made_kept : (xs ys : List Entry) (s : SideId) (m : Making) → made xs s ≡ Some m → made (xs ++ ys) s ≡ Some m
made_kept xs ys s m h = simp (made-append, h)

cons_option-append : (o : Option Item) (xs ys : List Item) → cons_option o (xs ++ ys) ≡ cons_option o xs ++ ys
cons_option-append None xs ys = refl
cons_option-append (Some x) xs ys = refl

next_number-length : (n : ℕ) (o : Option Item) (xs : List Item) → next_number n o + length xs ≡ n + length (cons_option o xs)
next_number-length n None xs = refl
next_number-length n (Some x) xs = omega arith

-- items keep their numbers
pub items_from-append : (n : ℕ) (xs ys : List Entry) →
    items_from n (xs ++ ys) ≡ items_from n xs ++ items_from (n + length (items_from n xs)) ys
items_from-append n [] ys = ap (λ k. items_from k ys) (sym (add-zero n))
items_from-append n (x ∷ xs) ys =
    let o : Option Item = item_of n x in
    let m : ℕ = next_number n o in
    ap (cons_option o) (items_from-append m xs ys) ∙ cons_option-append o (items_from m xs) (items_from (m + length (items_from m xs)) ys)
    ∙ ap (λ k. cons_option o (items_from m xs) ++ items_from k ys) (next_number-length n o (items_from m xs))

pub prefix_refl : {A : Type 0} (xs : List A) → IsPrefixOf xs xs
prefix_refl xs = ([], grind (arith, common_steps))

pub prefix_trans : {A : Type 0} (xs ys zs : List A) → IsPrefixOf xs ys → IsPrefixOf ys zs → IsPrefixOf xs zs
prefix_trans xs ys zs p q = (p.0 ++ q.0, sym (append_assoc xs p.0 q.0) ∙ ap (λ l. l ++ q.0) p.1 ∙ q.1)

pub sends-grow : (xs ys : List Entry) (s : SideId) → IsPrefixOf xs ys → IsPrefixOf (sends xs s) (sends ys s)
sends-grow xs ys s p = (sends p.0 s, sym (sends-append xs p.0 s) ∙ ap (λ l. sends l s) p.1)
