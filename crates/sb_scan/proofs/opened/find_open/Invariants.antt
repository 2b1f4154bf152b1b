use Rattle.std.proofs.Common.{◌≡◌, drop, map}
use Rattle.sb_model.specs.Transactions.{find_open}
use Rattle.sb_scan.specs.Opened.{open_seen}
use Rattle.sb_scan.proofs.opened.find_open.Given as goal

abbrev pub invariant-loop-known : goal.invariant-loop-known
invariant-loop-known l = find_open (map open_seen (drop l.known-index l.opened)) l.tx ≡ find_open (map open_seen l.opened) l.tx
