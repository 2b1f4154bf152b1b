use Rattle.sb_laws.proofs.Starts.{ready_starts, nothing_ready, example_ready}
use Rattle.sb_log.specs.declared.identifiers.Who.TheVariants.{B}
use Rattle.std.specs.Prelude.{[]}
use Rattle.sb_laws.specs.Ready.{ready_log}
use Rattle.sb_laws.proofs.example_starts_linked.Goals as goal

pub returns : goal.returns
returns c = ready_starts ready_log [] example_ready (nothing_ready B)
