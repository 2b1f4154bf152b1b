-- The refusals that this crate's borrowed ones stand for.
use Rattle.sb_log.specs.declared.refusals.Refusal.{Refusal}
use Rattle.sb_log.specs.declared.refusals.Refusal.TheVariants as refusal
use Rattle.sb_model.specs.Sides.{Bytes}
use Rattle.sb_catalog.specs.declared.refused.Refused.{Refused}
use Rattle.sb_catalog.specs.declared.refused.Refused.TheVariants as refused
use Rattle.sb_catalog.specs.declared.listed.Fault.{Fault}
use Rattle.sb_catalog.specs.declared.listed.Fault.TheVariants as fault

abbrev pub refusal_seen : Refused → Refusal
refusal_seen (refused.NameTaken name) = refusal.NameTaken name.now
refusal_seen (refused.NoMessageType name) = refusal.NoMessageType name.now
refusal_seen (refused.NoContract name) = refusal.NoContract name.now
refusal_seen (refused.NoQueue name) = refusal.NoQueue name.now
refusal_seen (refused.NoProcedure name) = refusal.NoProcedure name.now
refusal_seen (refused.NoService name) = refusal.NoService name.now
refusal_seen (refused.NothingFromInitiator name) = refusal.NothingFromInitiator name.now
refusal_seen refused.TooMany = refusal.TooMany
refusal_seen (refused.BadNumber number) = refusal.BadNumber number

-- the fault of a list, where a name that isn't there is refused so
abbrev pub fault_seen : (Bytes → Refusal) → Fault → Refusal
fault_seen refuse (fault.Twice name) = refusal.NameTaken name.now
fault_seen refuse (fault.Missing name) = refuse name.now
