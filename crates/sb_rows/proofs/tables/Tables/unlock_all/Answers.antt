use Rattle.std.proofs.Common.{ap, sym, ◌∙◌}
use Rattle.sb_rows.specs.RowsAndLocks.{lock_in, other_holder}
use Rattle.sb_rows.proofs.Shown.{lock_in-map}
use Rattle.sb_rows.proofs.tables.Tables.unlock_all.Goals as goal

pub returns-clause-locks : goal.returns-clause-locks
returns-clause-locks c = λ t k.
    lock_in-map c.let_go.new.self.entries t k
    ∙ c.let_go.ensures.values t k
    ∙ ap (other_holder c.args.tx) (sym (lock_in-map c.self.inside.locks.entries t k) ∙ ap (λ s. lock_in s.locks t k) c.self.view_is)
