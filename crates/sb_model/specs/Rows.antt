-- Rows of tables.
use Rattle.std.specs.Prelude.{ℤ, Bool, ◌&&◌, if◌then◌else◌, List, Option, Some, None, fold, int_le}
use Rattle.sb_log.specs.declared.entries.Entry.{Entry}
use Rattle.sb_log.specs.declared.entries.Op.{Op}
use Rattle.sb_log.specs.declared.entries.Op.TheVariants.{Put, Delete}
use Rattle.sb_log.specs.declared.requests.Row.{Row}
use Rattle.sb_model.specs.Sides.{Bytes, same_name, ops_of}

abbrev pub same_int : ℤ → ℤ → Bool
same_int a b = int_le a b && int_le b a

-- the row after an operation, of one key
abbrev pub row_after : Bytes → ℤ → Option Row → Op → Option Row
row_after t k row (Put table key n body) =
    if same_name table t && same_int key k then Some (record { n = n; body = body }) else row
row_after t k row (Delete table key) = if same_name table t && same_int key k then None else row
row_after t k row _ = row

-- the row of a key: that of the last put, unless a delete stands after it
abbrev pub rows_of : List Entry → Bytes → ℤ → Option Row
rows_of log t k = fold (row_after t k) None (ops_of log)
