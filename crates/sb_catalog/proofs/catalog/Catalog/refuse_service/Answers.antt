use Rattle.std.proofs.Common.{Some, None, sym, ap, ◌∙◌}
use Rattle.sb_log.specs.declared.refusals.Refusal.TheVariants as refusal
use Rattle.sb_catalog.specs.declared.listed.Fault.{Fault}
use Rattle.sb_catalog.specs.Known.{log_of}
use Rattle.sb_catalog.specs.Seen.{fault_seen}
use Rattle.sb_catalog.proofs.Judging.{service_judged}
use Rattle.sb_catalog.proofs.catalog.Catalog.refuse_service.Goals as goal

pub returns-in-Some-Twice : goal.returns-in-Some-Twice
returns-in-Some-Twice c =
    service_judged (log_of c.args.self.now) c.args.def.now c.as_slice.result.now (Some (refusal.NameTaken c.in-Some-Twice.name.now)) c.as_slice.ensures
    (sym c.has_service.ensures ∙ c.if-has_service.false) (sym c.has_queue.ensures ∙ c.if-not-has_queue.false)
    (ap (λ (f : Fault). Some (fault_seen refusal.NoContract f)) (sym c.in-Some-Twice.field-0-is) ∙ c.in-Some-Twice.ensures refusal.NoContract)

pub returns-in-Some-Missing : goal.returns-in-Some-Missing
returns-in-Some-Missing c =
    service_judged (log_of c.args.self.now) c.args.def.now c.as_slice.result.now (Some (refusal.NoContract c.in-Some-Missing.name.now)) c.as_slice.ensures
    (sym c.has_service.ensures ∙ c.if-has_service.false) (sym c.has_queue.ensures ∙ c.if-not-has_queue.false)
    (ap (λ (f : Fault). Some (fault_seen refusal.NoContract f)) (sym c.in-Some-Missing.field-0-is) ∙ c.in-Some-Missing.ensures refusal.NoContract)

pub returns-in-None : goal.returns-in-None
returns-in-None c =
    service_judged (log_of c.args.self.now) c.args.def.now c.as_slice.result.now None c.as_slice.ensures
    (sym c.has_service.ensures ∙ c.if-has_service.false) (sym c.has_queue.ensures ∙ c.if-not-has_queue.false)
    (c.in-None.ensures refusal.NoContract)
