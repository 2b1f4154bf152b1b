use Rattle.std.proofs.Common.{◌+◌, ◌++◌, List, map, drop, sym, ◌∙◌, ap, append_assoc, arith}
use Rattle.std.specs.Prelude.{flat_map}
use Rattle.sb_scan.specs.Seen.{making_of}
use Rattle.sb_instance.specs.Handing.{pending_in}
use Rattle.sb_instance.specs.declared.handing.Pending.{Pending}
use Rattle.sb_instance.proofs.Handed.{pending_step}
use Rattle.sb_instance.proofs.handing.all_pending.Goals as goal

pub loop-made-preserved : goal.loop-made-preserved
loop-made-preserved c =
    ap (λ (b : List Pending). b ++ flat_map (pending_in c.args.who c.args.log.now) (map making_of (drop (c.loop-made.made-index + 1) c.as_slice-known.result.now))) c.in_ok-push_pending.ensures
    ∙ append_assoc c.loop-made.found.items (pending_in c.args.who c.args.log.now (making_of c.made-item.result))
    (flat_map (pending_in c.args.who c.args.log.now) (map making_of (drop (c.loop-made.made-index + 1) c.as_slice-known.result.now)))
    ∙ ap (λ (u : List Pending). c.loop-made.found.items ++ u)
    (sym (pending_step c.args.who c.args.log.now c.as_slice-known.result.now c.loop-made.made-index c.made-item.result (omega arith) c.made-item.is))
    ∙ c.loop-made.invariant
