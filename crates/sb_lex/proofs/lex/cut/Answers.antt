use Rattle.std.proofs.Common.{length}
use Rattle.sb_lex.specs.Cuts.{IsCut, IsOnlyCut, InOrder}
use Rattle.sb_lex.proofs.Scanned.{cut_of, only_of, order_of, if_scanned}
use Rattle.sb_lex.proofs.lex.cut.Goals as goal

pub returns-clause-cut : goal.returns-clause-cut
returns-clause-cut c = let z = c.args.text.now in if_scanned z c.scan.result (IsCut z) (cut_of z) c.scan.ensures

pub returns-clause-only : goal.returns-clause-only
returns-clause-only c = let z = c.args.text.now in if_scanned z c.scan.result (IsOnlyCut z) (only_of z) c.scan.ensures

pub returns-clause-in_order : goal.returns-clause-in_order
returns-clause-in_order c = let z = c.args.text.now in if_scanned z c.scan.result (λ ts _. InOrder 0 ts (length z)) (order_of z) c.scan.ensures
