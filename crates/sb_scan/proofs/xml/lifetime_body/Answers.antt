use Rattle.std.specs.Str.{chars}
use Rattle.sb_scan.proofs.xml.lifetime_body.Goals as goal

pub returns : goal.returns
unfolding chars
returns c = c.error.ensures
