use Rattle.std.proofs.Common.{true, false, Some, sym, ap, ◌∙◌}
use Rattle.sb_log.specs.declared.refusals.Refusal.TheVariants as refusal
use Rattle.sb_catalog.specs.declared.listed.Fault.{Fault}
use Rattle.sb_catalog.specs.Known.{log_of}
use Rattle.sb_catalog.specs.Seen.{fault_seen}
use Rattle.sb_catalog.proofs.Judging.{contract_listed, contract_sides}
use Rattle.sb_catalog.proofs.catalog.Catalog.refuse_contract.Goals as goal

pub returns-in-Some-Twice : goal.returns-in-Some-Twice
returns-in-Some-Twice c =
    contract_listed (log_of c.args.self.now) c.args.def.now c.as_slice.result.now (refusal.NameTaken c.in-Some-Twice.name.now) c.as_slice.ensures (sym c.has_contract.ensures ∙ c.if-has_contract.false)
    (ap (λ (f : Fault). Some (fault_seen refusal.NoMessageType f)) (sym c.in-Some-Twice.field-0-is) ∙ c.in-Some-Twice.ensures refusal.NoMessageType)

pub returns-in-Some-Missing : goal.returns-in-Some-Missing
returns-in-Some-Missing c =
    contract_listed (log_of c.args.self.now) c.args.def.now c.as_slice.result.now (refusal.NoMessageType c.in-Some-Missing.name.now) c.as_slice.ensures (sym c.has_contract.ensures ∙ c.if-has_contract.false)
    (ap (λ (f : Fault). Some (fault_seen refusal.NoMessageType f)) (sym c.in-Some-Missing.field-0-is) ∙ c.in-Some-Missing.ensures refusal.NoMessageType)

pub returns-then-from_initiator : goal.returns-then-from_initiator
returns-then-from_initiator c =
    contract_sides (log_of c.args.self.now) c.args.def.now c.as_slice.result.now true c.as_slice.ensures (sym c.has_contract.ensures ∙ c.if-has_contract.false)
    (c.in-None.ensures refusal.NoMessageType) (sym c.if-from_initiator.true ∙ c.from_initiator.ensures)

pub returns-else-from_initiator : goal.returns-else-from_initiator
returns-else-from_initiator c =
    contract_sides (log_of c.args.self.now) c.args.def.now c.as_slice.result.now false c.as_slice.ensures (sym c.has_contract.ensures ∙ c.if-has_contract.false)
    (c.in-None.ensures refusal.NoMessageType) (sym c.if-from_initiator.false ∙ c.from_initiator.ensures)
