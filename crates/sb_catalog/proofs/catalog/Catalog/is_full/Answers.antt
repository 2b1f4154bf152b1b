use Rattle.std.proofs.Common.{ℕ, length, lit≤}
use Rattle.sb_catalog.proofs.Counting.{pair, both, full_by_count}
use Rattle.sb_catalog.proofs.catalog.Catalog.is_full.Goals as goal

pub returns : goal.returns
returns c =
    let most : ℕ = 18446744073709551615 in
    let i = c.self.inside in
    let dialogs = pair most (length i.message_types.defs) (length i.contracts.defs) c.len.result c.len-2.result c.saturating_add-dialogs.result c.len.ensures c.len-2.ensures c.saturating_add-dialogs.ensures in
    let ends = pair most (length i.queues.defs) (length i.services.defs) c.len-3.result c.len-4.result c.saturating_add-ends.result c.len-3.ensures c.len-4.ensures c.saturating_add-ends.ensures in
    let ways = pair most (length i.routes.defs) (length i.priorities.defs) c.len-5.result c.len-6.result c.saturating_add-ways.result c.len-5.ensures c.len-6.ensures c.saturating_add-ways.ensures in
    let others = pair most (length i.tables.defs) (length i.procedures.defs) c.len-7.result c.len-8.result c.saturating_add-others.result c.len-7.ensures c.len-8.ensures c.saturating_add-others.ensures in
    let two = both most _ _ c.saturating_add-dialogs.result c.saturating_add-ends.result c.saturating_add.result dialogs ends c.saturating_add.ensures in
    let three = both most _ _ c.saturating_add.result c.saturating_add-ways.result c.saturating_add-2.result two ways c.saturating_add-2.ensures in
    let all = both most _ _ c.saturating_add-2.result c.saturating_add-others.result c.saturating_add-count.result three others c.saturating_add-count.ensures in
    full_by_count most i c.args.self.now c.saturating_add-count.result c.self.invariant c.self.view_is (lit≤ tt) all
