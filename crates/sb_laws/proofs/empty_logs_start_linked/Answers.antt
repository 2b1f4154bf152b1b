use Rattle.sb_laws.proofs.Starts.{ready_starts, nothing_ready}
use Rattle.sb_log.specs.declared.identifiers.Who.TheVariants.{A, B}
use Rattle.std.specs.Prelude.{[]}
use Rattle.sb_laws.proofs.empty_logs_start_linked.Goals as goal

pub returns : goal.returns
returns c = ready_starts [] [] (nothing_ready A) (nothing_ready B)
