use Rattle.sb_top.specs.Following.{Cleans}
use Rattle.sb_top.specs.Runs.{world_of}
use Rattle.sb_top.specs.declared.history.Stopped.TheVariants as stopped
use Rattle.sb_top.proofs.Follows.{full_where, made_passing, made_same}
use Rattle.sb_top.proofs.Histories.{goes_on_so}
use Rattle.sb_top.proofs.perform.perform.Goals as goal

pub returns-in-Clean-clause-goes : goal.returns-in-Clean-clause-goes
returns-in-Clean-clause-goes c =
    rw (c.left.ensures, c.in-Clean.is) (goes_on_so _ _ _ _ _ _ c.clean.ensures.goes
    (λ xs made. made_same c.clean.result (Cleans (world_of c.args.instance.now)) c.args.variables xs made))

pub returns-in_default : goal.returns-in_default
returns-in_default c = record {
  goes = rw c.left-in_default.ensures (goes_on_so _ _ _ _ _ _ c.pass.ensures.goes
      (λ xs made. made_passing (world_of c.args.instance.now) c.args.variables c.args.command c.pass.result xs c.in_default.not-Batch c.in_default.not-Clean made));
  full = λ e. c.pass.ensures.full (full_where c.pass.result c.args.variables stopped.HistoryFull (rw c.left-in_default.ensures at e));
}
