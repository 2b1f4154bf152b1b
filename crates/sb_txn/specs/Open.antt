-- An open transaction.
use Rattle.std.specs.Prelude.{◌≡◌, ℕ, List}
use Rattle.sb_log.specs.declared.entries.Op.{Op}
use Rattle.sb_groups.specs.Holds.{Hold}

-- its number, its operations and its guards in order, and how many more of each fit without memory
pub record Open : Type 0 where
  pub number : ℕ
  pub ops : List Op
  pub guards : List Hold
  pub spare : ℕ

-- all but the room is as before
pub record IsSameButRoom (old new : Open) : Type 0 where
  pub number : new.number ≡ old.number
  pub ops : new.ops ≡ old.ops
  pub guards : new.guards ≡ old.guards
