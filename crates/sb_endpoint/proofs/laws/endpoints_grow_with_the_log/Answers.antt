use Rattle.std.proofs.Common.{◌∙◌}
use Rattle.sb_endpoint.specs.Endpoints.{endpoint_of}
use Rattle.sb_endpoint.proofs.Growth.{endpoint-more}
use Rattle.sb_endpoint.proofs.Headed.{header-more}
use Rattle.sb_endpoint.proofs.Naming.{side-more}
use Rattle.sb_endpoint.proofs.Saying.{entry_said}
use Rattle.sb_endpoint.proofs.laws.endpoints_grow_with_the_log.Goals as goal

pub returns-clause-endpoint : goal.returns-clause-endpoint
returns-clause-endpoint c = λ log e s. endpoint-more log e s ∙ entry_said s e (endpoint_of log s)

pub returns-clause-header : goal.returns-clause-header
returns-clause-header c = header-more

pub returns-clause-side : goal.returns-clause-side
returns-clause-side c = side-more
