use Rattle.std.proofs.Common.{◌≡◌, ◌∙◌, [], map}
use Rattle.std.specs.Prelude.{filter, nat_abs, option_map}
use Rattle.std.proofs.lemmas.Result.{IfOk-weaker}
use Rattle.sb_model.specs.Pick.{pick}
use Rattle.sb_instance.specs.Candidates.{given, given_by, placed_seen}
use Rattle.sb_instance.specs.Giving.{is_of_group, up_to}
use Rattle.sb_instance.proofs.Picking.{given_grouped, given_none, given_ungrouped, picks}
use Rattle.sb_instance.proofs.receiving.picked.Goals as goal

pub returns-in_default : goal.returns-in_default
returns-in_default c =
    c.new.ensures.items
    ∙ given_none (option_map nat_abs c.args.top) c.in_ok-sorted.sorted.items c.deref.result.now c.first.result c.deref.ensures.value c.in_default.not-Some c.first.ensures.value
    ∙ picks c.args.log.now c.args.queue.now (option_map nat_abs c.args.top) c.args.filter (map placed_seen c.in_ok-found.found.items) (map placed_seen c.in_ok-sorted.sorted.items) c.in_ok-found.ensures c.in_ok-sorted.ensures

pub returns-in_default-group : goal.returns-in_default-group
returns-in_default-group c =
    c.new-in_default-group.ensures.items
    ∙ given_ungrouped (option_map nat_abs c.args.top) c.in_ok-sorted.sorted.items c.deref.result.now c.in-Some.first.now c.deref.ensures.value c.in-Some.ensures.value c.in_default-group.not-Some
    ∙ picks c.args.log.now c.args.queue.now (option_map nat_abs c.args.top) c.args.filter (map placed_seen c.in_ok-found.found.items) (map placed_seen c.in_ok-sorted.sorted.items) c.in_ok-found.ensures c.in_ok-sorted.ensures

pub returns : goal.returns
returns c =
    IfOk-weaker c.of_group.result
    (λ items. items.items ≡ map given (up_to c.limit_of.result (filter (is_of_group c.in-Some-group.group) (map placed_seen c.as_slice.result.now))))
    (λ items. items.items ≡ given_by c.args.log.now (pick c.args.log.now [] 0 c.args.queue.now (option_map nat_abs c.args.top) c.args.filter))
    (λ items are_given.
    are_given
    ∙ given_grouped (option_map nat_abs c.args.top) c.limit_of.result c.in_ok-sorted.sorted.items c.deref.result.now c.as_slice.result.now c.in-Some.first.now c.in-Some-group.group
    c.deref.ensures.value c.as_slice.ensures.value c.limit_of.ensures c.in-Some.ensures.value c.in-Some-group.is
    ∙ picks c.args.log.now c.args.queue.now (option_map nat_abs c.args.top) c.args.filter (map placed_seen c.in_ok-found.found.items) (map placed_seen c.in_ok-sorted.sorted.items) c.in_ok-found.ensures c.in_ok-sorted.ensures)
    c.of_group.ensures
