-- What a crash may leave of a log.
use Rattle.std.specs.Prelude.{◌≡◌, List, ◌++◌}
use Rattle.sb_log.specs.declared.entries.Entry.{Entry}

-- a list that begins another
abbrev pub IsPrefixOf : {A : Type 0} → List A → List A → Type 0
IsPrefixOf {A} xs ys = (rest : List A) × (xs ++ rest ≡ ys)

-- what survives a crash: all of K, and no more than L
pub record Survives (log kept after : List Entry) : Type 0 where
  pub keeps : IsPrefixOf kept after
  pub within : IsPrefixOf after log
