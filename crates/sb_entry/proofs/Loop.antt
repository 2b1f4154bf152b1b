-- Reading values one after the other, as a loop does.
use Rattle.std.proofs.Common.{◌≡◌, ℕ, suc, ◌-◌, ◌+◌, ◌≤◌, ◌<◌, List, [], ◌∷◌, ◌++◌, Result, Ok, Err, refl, sym, ap, ◌∙◌, append_assoc, arith}
use Rattle.std.proofs.lemmas.List.{append-nil}
use Rattle.sb_entry.specs.declared.unread.Unread.{Unread}
use Rattle.sb_entry.specs.declared.unread.Unread.TheVariants as unread
use Rattle.sb_fields.specs.Spelling.{Bytes}
use Rattle.sb_fields.specs.Reading.{Read, Reading, go_on, read_then, give, list_at}
use Rattle.sb_entry.specs.Gives.{Meets}

-- what was read before, and what is still read
abbrev pub with_front : {A : Type 0} → List A → Read (List A) → Read (List A)
with_front front (Ok got) = Ok (front ++ got.0, got.1)
with_front front (Err left) = Err left

regroup : {A : Type 0} (front : List A) (x : A) (got : Read (List A)) → with_front front (go_on got (λ xs. give (x ∷ xs))) ≡ with_front (front ++ x ∷ []) got
unfolding give
regroup front x (Ok got) = ap (λ xs. Ok (xs, got.1)) (simp append_assoc)
regroup front x (Err left) = refl

pub goes_on : {A : Type 0} (read : Reading A) (front : List A) (count i : ℕ) (bytes : Bytes) (x : A) (after : Bytes) (total : Read (List A)) → i < count → read bytes ≡ Ok (x, after)
    → with_front front (list_at read (count - i) bytes) ≡ total → with_front (front ++ x ∷ []) (list_at read (count - (i + 1)) after) ≡ total
unfolding list_at read_then
goes_on read front count i bytes x after total lt h so_far =
    let k : count - i ≡ suc (count - (i + 1)) = omega arith in
    let one : with_front front (list_at read (count - i) bytes) ≡ with_front (front ++ x ∷ []) (list_at read (count - (i + 1)) after) = rw (k, h) (regroup front x (list_at read (count - (i + 1)) after)) in
    sym one ∙ so_far

pub ends : {A : Type 0} (read : Reading A) (e : Unread) (front : List A) (count i : ℕ) (bytes : Bytes) (total : Read (List A)) → i < count → Meets e (read bytes)
    → with_front front (list_at read (count - i) bytes) ≡ total → Meets e total
unfolding list_at read_then
ends read unread.OutOfMemory front count i bytes total lt h so_far = tt
ends read (unread.Field left) front count i bytes total lt h so_far =
    let k : count - i ≡ suc (count - (i + 1)) = omega arith in
    let one : with_front front (list_at read (count - i) bytes) ≡ Err left = rw (k, h) refl in
    sym so_far ∙ one

pub is_done : {A : Type 0} (read : Reading A) (front : List A) (count i : ℕ) (bytes : Bytes) (total : Read (List A)) → count ≤ i → with_front front (list_at read (count - i) bytes) ≡ total → total ≡ Ok (front, bytes)
unfolding list_at give
is_done read front count i bytes total le so_far =
    let k : count - i ≡ 0 = omega arith in
    let one : with_front front (list_at read (count - i) bytes) ≡ Ok (front, bytes) = rw k (ap (λ xs. Ok (xs, bytes)) (append-nil front)) in
    sym so_far ∙ one
