use Rattle.std.proofs.Common.{map, ap, ◌∙◌}
use Rattle.sb_instance.specs.Candidates.{given, placed_seen}
use Rattle.sb_instance.proofs.Waited.{line_found}
use Rattle.sb_instance.proofs.waiting.all_waiting.Goals as goal

pub returns-clause-rest : goal.returns-clause-rest
returns-clause-rest c =
    c.in_ok-rest.ensures ∙ ap (λ xs. map given (map placed_seen xs)) c.as_slice.ensures.value
    ∙ line_found c.args.log.now c.args.queue.now (map placed_seen c.in_ok-found.found.items) (map placed_seen c.in_ok-sorted.sorted.items) c.in_ok-found.ensures c.in_ok-sorted.ensures
