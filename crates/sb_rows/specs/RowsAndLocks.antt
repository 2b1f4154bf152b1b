-- What contracts see of the tables: their rows, and which transaction holds which key.
use Rattle.std.specs.Prelude.{◌≡◌, ℕ, ℤ, ◌==◌, ◌&&◌, false, if◌then◌else◌, List, [], ◌∷◌, Option, Some, None, find, option_map}
use Rattle.sb_log.specs.declared.entries.Entry.{Entry}
use Rattle.sb_log.specs.declared.entries.Op.{Op}
use Rattle.sb_log.specs.declared.entries.Op.TheVariants.{Put}
use Rattle.sb_log.specs.declared.requests.Row.{Row}
use Rattle.sb_model.specs.Rows.{same_int, row_after, rows_of}
use Rattle.sb_model.specs.Sides.{Bytes, same_name}

-- a row of a table
pub record TableRow : Type 0 where
  pub table : Bytes
  pub key : ℤ
  pub row : Row

-- a key of a table, and the transaction that holds it
pub record KeyLock : Type 0 where
  pub table : Bytes
  pub key : ℤ
  pub tx : ℕ

-- rows and locks in no order that matters, and how many more of each fit without memory
pub record RowsAndLocks : Type 0 where
  pub rows : List TableRow
  pub locks : List KeyLock
  pub spare : ℕ

abbrev pub nothing : RowsAndLocks
nothing = record { rows = []; locks = []; spare = 0 }

-- the row of a table with this key
abbrev pub row_in : List TableRow → Bytes → ℤ → Option Row
row_in rows t k = option_map (λ r. r.row) (find (λ r. same_name r.table t && same_int r.key k) rows)

-- the transaction that holds this key of a table
abbrev pub lock_in : List KeyLock → Bytes → ℤ → Option ℕ
lock_in locks t k = option_map (λ l. l.tx) (find (λ l. same_name l.table t && same_int l.key k) locks)

-- the holder, if it is another transaction
abbrev pub other_holder : ℕ → Option ℕ → Option ℕ
other_holder tx None = None
other_holder tx (Some by) = if by == tx then None else Some by

-- every other key is held as before
abbrev pub KeepsOtherKeys : Bytes → ℤ → List KeyLock → List KeyLock → Type 0
KeepsOtherKeys table key old new = (t : Bytes) (k : ℤ) → (same_name table t && same_int key k) ≡ false → lock_in new t k ≡ lock_in old t k

-- how much room an operation takes: a put may make a row
abbrev pub room_for : Op → ℕ
room_for (Put table key n body) = 1
room_for _ = 0

-- each row is what the operation makes of it
abbrev pub Applies : List TableRow → Op → List TableRow → Type 0
Applies old op new = (t : Bytes) (k : ℤ) → row_in new t k ≡ row_after t k (row_in old t k) op

-- one operation after the other is applied
abbrev pub AppliesAll : List TableRow → List Op → List TableRow → Type 0
AppliesAll old [] new = (t : Bytes) (k : ℤ) → row_in new t k ≡ row_in old t k
AppliesAll old (op ∷ ops) new = (between : List TableRow) × Applies old op between × AppliesAll between ops new

-- the rows are those of the log
abbrev pub AreRowsOf : List Entry → List TableRow → Type 0
AreRowsOf log rows = (t : Bytes) (k : ℤ) → row_in rows t k ≡ rows_of log t k
