use Rattle.std.proofs.Common.{◌≤◌, length, sym, subst, arith}
use Rattle.sb_endpoint.specs.Changes.{changes_of}
use Rattle.sb_endpoint.proofs.Applied.{few_told}
use Rattle.sb_endpoint.proofs.change.most_changes.Goals as goal

pub returns-in-Txn : goal.returns-in-Txn
returns-in-Txn c = subst (λ e. length (changes_of e) ≤ c.len.result) (sym c.in-Txn.is) (omega (arith, few_told c.in-Txn.ops, c.len.ensures))
