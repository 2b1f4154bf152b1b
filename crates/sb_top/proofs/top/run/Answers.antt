use Rattle.sb_top.proofs.Delivery.{commits_whole, delivered_throughout}
use Rattle.sb_top.proofs.Completing.{complete}
use Rattle.std.proofs.Common.{refl}
use Rattle.sb_top.specs.Following.{first}
use Rattle.sb_top.proofs.Picking.{picks_throughout}
use Rattle.sb_top.proofs.top.run.Goals as goal

pub returns-clause-complete : goal.returns-clause-complete
returns-clause-complete g c = λ bytes word tells good no_read no_write.
    let s = c.session.ensures in
    complete bytes c.session.result.why c.session.result.status (g.S.Source.left c.args.source.now) (g.S.Source.left c.session.new.source) _ _ _
    s.status s.usage s.script s.read_fault s.write_fault word tells good no_read no_write

pub returns-clause-delivery : goal.returns-clause-delivery
returns-clause-delivery g c = delivered_throughout c.session.result.history.items c.session.ensures.sound.legal c.session.ensures.sound.quiet c.session.ensures.sound.roomy

pub returns-clause-picks : goal.returns-clause-picks
returns-clause-picks g c =
    picks_throughout first c.session.result.history.items (record { who = refl; up = refl; end = refl; closed = refl }) c.session.ensures.sound.legal c.session.ensures.sound.quiet

pub returns-clause-whole : goal.returns-clause-whole
returns-clause-whole g c = commits_whole c.session.result.history.items c.session.ensures.sound.legal c.session.ensures.sound.quiet c.session.ensures.sound.roomy
