use Rattle.std.proofs.Common.{◌≡◌, drop, map}
use Rattle.sb_model.specs.Transactions.{holder}
use Rattle.sb_scan.specs.Opened.{open_seen}
use Rattle.sb_scan.proofs.opened.holder.Given as goal

abbrev pub invariant-loop-known : goal.invariant-loop-known
invariant-loop-known l = holder (map open_seen (drop l.known-index l.opened)) l.group l.tx ≡ holder (map open_seen l.opened) l.group l.tx
