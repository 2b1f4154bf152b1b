use Rattle.std.proofs.Common.{ap, ◌∙◌}
use Rattle.sb_model.specs.Catalog.{find_queue}
use Rattle.sb_catalog.specs.Known.{log_of}
use Rattle.sb_catalog.proofs.Finding.{queue_found}
use Rattle.sb_catalog.proofs.catalog.Catalog.queue.Goals as goal

pub returns : goal.returns
returns c = c.get.ensures ∙ queue_found c.self.inside c.args.name.now ∙ ap (λ k. find_queue (log_of k) c.args.name.now) c.self.view_is
