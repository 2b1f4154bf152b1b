use Rattle.std.proofs.Common.{◌≡◌, ◌++◌, drop, map, take, vec_len}
use Rattle.std.specs.Prelude.{vec_capacity}
use Rattle.sb_pick.specs.Stored.{with_group_of}
use Rattle.sb_pick.proofs.stored.regroup.Given as goal

abbrev pub invariant-loop-i : goal.invariant-loop-i
invariant-loop-i l = record {
  done : take l.i l.waiting.items ++ map (with_group_of l.side l.group) (drop l.i l.waiting.items) ≡ map (with_group_of l.side l.group) l.fn.waiting.items;
  len : vec_len l.waiting ≡ vec_len l.fn.waiting;
  capacity : vec_capacity l.waiting ≡ vec_capacity l.fn.waiting;
}
