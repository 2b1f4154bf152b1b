-- What a function returned, against what reading gives.
use Rattle.std.specs.Prelude.{◌≡◌, ℕ, Result, Ok, Err}
use Rattle.sb_entry.specs.declared.unread.Unread.{Unread}
use Rattle.sb_entry.specs.declared.unread.Unread.TheVariants as unread
use Rattle.sb_fields.specs.Reading.{Read}

-- a fault is the one that reading meets; want of memory may come at any time
abbrev pub Meets : {A : Type 0} → Unread → Result A ℕ → Type 0
Meets unread.OutOfMemory read = Unit {0}
Meets (unread.Field left) read = read ≡ Err left

-- a value, seen by view, is what reading gives, unless memory ran out
abbrev pub Gives : {X A : Type 0} → (X → A) → Result X Unread → Result A ℕ → Type 0
Gives view (Ok x) read = read ≡ Ok (view x)
Gives view (Err e) read = Meets e read
