use Rattle.std.proofs.Common.{◌≡◌, ◌<◌, length, ap, sym, subst, ◌∙◌, arith}
use Rattle.sb_pick.specs.Inside.{seen, seen_in}
use Rattle.sb_pick.specs.Offered.{offered}
use Rattle.sb_pick.proofs.Lists.{brings_none, brings_one}
use Rattle.sb_pick.proofs.Seen.{own_name}
use Rattle.sb_pick.proofs.candidates.candidates.Goals as goal
use Rattle.sb_pick.proofs.candidates.candidates.Goals.{in-Some+in_ok-push, in_default}

pub loop-stored-preserved : goal.loop-stored-preserved
loop-stored-preserved c =
    let names = c.args.names.now in
    let waiting = c.args.waiting.now in
    let i = c.loop-stored.stored-index in
    let stored = c.stored-item.result in
    let brings = offered c.args.queue.now c.args.filter.now c.args.taken.now in
    let within : i < length waiting = omega arith in
    let placed = subst (λ s. s.place < length names) (sym c.stored-item.is) (c.requires i stored within) in
    let own = own_name names stored.place c.index-names-stored.result placed c.index-names-stored.is in
    let brought : brings (seen names stored) ≡ c.offered.result = ap (λ name. brings (seen_in name stored)) own ∙ sym c.offered.ensures in
    elim c.match-offered.branch [
      | in-Some+in_ok-push w ↦
          brings_one brings (seen names) waiting i stored within c.stored-item.is c.loop-stored.found.items c.match-offered.found.items _ w.in-Some.candidate
          (brought ∙ w.in-Some.is) (ap (λ v. v.items) w.found-is ∙ w.in_ok-push.ensures.items) c.loop-stored.invariant
      | in_default w ↦
          brings_none brings (seen names) waiting i stored within c.stored-item.is c.loop-stored.found.items c.match-offered.found.items _
          (brought ∙ w.in_default.is) (ap (λ v. v.items) w.found-is) c.loop-stored.invariant
    ]
