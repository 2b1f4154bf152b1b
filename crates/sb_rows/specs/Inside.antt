-- What the tables hold, and how it stands to what contracts see.
use Rattle.std.specs.Prelude.{ℕ, ◌≤◌, map}
use Rattle.sb_log.specs.declared.requests.Row.{Row}
use Rattle.sb_model.specs.Transactions.{Key}
use Rattle.sb_rows.specs.declared.tables.Tables.TheInside.{Inside}
use Rattle.sb_rows.specs.RowsAndLocks.{TableRow, KeyLock, RowsAndLocks}

abbrev pub table_row : Key × Row → TableRow
table_row e = record { table = e.0.table; key = e.0.key; row = e.1 }

abbrev pub key_lock : Key × ℕ → KeyLock
key_lock e = record { table = e.0.table; key = e.0.key; tx = e.1 }

abbrev pub rows_and_locks : Inside → RowsAndLocks
rows_and_locks t = record {
  rows = map table_row t.rows.entries;
  locks = map key_lock t.locks.entries;
  spare = t.spare;
}

-- there is room for what is spare, among the rows and among the locks
pub record HasRoom (t : Inside) : Type 0 where
  pub rows : t.spare ≤ t.rows.room
  pub locks : t.spare ≤ t.locks.room
