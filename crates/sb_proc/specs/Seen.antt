-- The variables as an expression sees them.
use Rattle.std.specs.Prelude.{◌++◌}
use Rattle.sb_proc.specs.Scopes.{Scope}
use Rattle.sb_proc.specs.declared.seen.Seen.{Seen}

-- those that the same DECLARE has declared hide the others
abbrev pub scope_of : Seen → Scope
scope_of s = record { variables = s.added.now ++ s.known.now; rows = s.rows }
