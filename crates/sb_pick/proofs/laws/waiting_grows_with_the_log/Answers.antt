use Rattle.sb_pick.proofs.Arrivals.{brings_item, brings_nothing, brings_unseen}
use Rattle.sb_pick.proofs.Learned.{known_grows}
use Rattle.sb_pick.proofs.Views.{nothing_waits, view_is}
use Rattle.sb_pick.proofs.laws.waiting_grows_with_the_log.Goals as goal

pub returns : goal.returns
returns c = record {
  empty = nothing_waits;
  known = known_grows;
  operations = view_is;
  arrived = brings_item;
  unseen = brings_unseen;
  others = brings_nothing;
}
