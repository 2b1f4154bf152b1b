use Rattle.std.proofs.Common.{◌≡◌, ◌++◌, drop, map}
use Rattle.sb_scan.specs.Seen.{content_seen}
use Rattle.sb_instance.proofs.carrying.messages_behind.Given as goal

abbrev pub invariant-loop-place : goal.invariant-loop-place
invariant-loop-place l = l.rest.items ++ map content_seen (drop l.place l.all) ≡ map content_seen (drop l.count l.all)
