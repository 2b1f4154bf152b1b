use Rattle.std.proofs.Common.{◌≡◌, ◌^◌, ◌<◌, ◌++◌, Some, Ok, map, sym, ap, ◌∙◌}
use Rattle.std.specs.Prelude.{pos}
use Rattle.sb_log.specs.declared.requests.Filter.TheVariants as filters
use Rattle.sb_model.specs.Instance.{Part}
use Rattle.sb_model.specs.Sides.{Bytes}
use Rattle.sb_model.specs.Statements.{txn_entries}
use Rattle.sb_instance.specs.Candidates.{takes}
use Rattle.sb_instance.specs.Running.{committed, running}
use Rattle.sb_instance.proofs.Noted.{sound_waiting}
use Rattle.sb_instance.proofs.Taking.{receive_commits_at}
use Rattle.sb_instance.proofs.Waited.{first_given, first_passes_checks, rest_waiting}
use Rattle.sb_instance.proofs.instance.Instance.take_first.Goals as goal

pub invariant_of-self : goal.invariant_of-self
invariant_of-self c =
    let written : c.self-in-Ok.inside.log.items ≡ c.args.self.now.log ++ txn_entries c.args.self.now.next_tx (map (takes c.args.waiting.queue) c.in-Ok.items.items) =
    ap (λ (p : Part). p.log) (c.self-in-Ok.view_is ∙ c.in-Ok-take.ensures.1)
    ∙ ap (λ (q : Bytes). c.args.self.now.log ++ txn_entries c.args.self.now.next_tx (map (takes q) c.in-Ok.items.items)) c.take_first.ensures.queue in
    record {
      noted = sound_waiting c.self-in-Ok.inside.who c.self-in-Ok.inside.log.items c.self-in-Ok.inside.next_handle c.self-in-Ok.inside.carrying c.self-in-Ok.inside.sending.items
          c.self-in-Ok.inside.waiting (Some _) c.self-in-Ok.invariant.noted
          (rest_waiting c.args.self.now c.take.new.self c.self-in-Ok.inside.who c.self-in-Ok.inside.log.items c.self-in-Ok.inside.next_handle c.self-in-Ok.inside.next_tx
          c.args.waiting _ c.in-Ok.items.items c.self-in-Ok.view_is written c.requires c.in-Ok.ensures.first c.take_first.ensures.queue c.in-Ok.ensures.rest);
      catalog_so = c.self-in-Ok.invariant.catalog_so;
    }

pub returns-in-Ok-take : goal.returns-in-Ok-take
returns-in-Ok-take c session now =
    let fits : c.self.inside.next_handle < 2 ^ 64 = c.self.invariant.noted.small in
    let left : running c.self-in-Ok.inside.who c.self-in-Ok.inside.log.items c.self-in-Ok.inside.next_handle c.self-in-Ok.inside.next_tx
    ≡ committed c.args.self.now (map (takes c.args.waiting.queue) c.in-Ok.items.items) =
    c.self-in-Ok.view_is ∙ c.in-Ok-take.ensures.1
    ∙ ap (λ (q : Bytes). committed c.args.self.now (map (takes q) c.in-Ok.items.items)) c.take_first.ensures.queue in
    receive_commits_at c.args.self.now c.self.inside.who c.self.inside.log.items c.args.self.now.log c.self.inside.next_handle c.self.inside.next_tx
    session now c.args.waiting.queue (Some (pos 1)) filters.All c.in-Ok.items.items (Ok c.in-Ok-take.reply) _
    c.self.view_is (ap (λ (p : Part). p.log) (sym c.self.view_is)) fits (first_passes_checks c.args.self.now.log c.args.waiting c.requires)
    (first_given c.args.self.now.log c.args.waiting c.in-Ok.items.items c.requires c.in-Ok.ensures.first) (c.in-Ok-take.ensures.0, left)
