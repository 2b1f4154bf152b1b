use Rattle.sb_laws.proofs.Legality.{IsLegal-push}
use Rattle.sb_laws.proofs.legal_history_grows.Goals as goal

pub returns : goal.returns
returns c = IsLegal-push
