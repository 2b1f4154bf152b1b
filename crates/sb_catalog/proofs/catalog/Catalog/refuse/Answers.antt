use Rattle.std.proofs.Common.{ap, sym, ◌∙◌, length}
use Rattle.std.specs.Prelude.{nat_le, option_map}
use Rattle.sb_log.specs.declared.refusals.Refusal.TheVariants as refusal
use Rattle.sb_model.specs.Catalog.{definitions}
use Rattle.sb_model.specs.Definitions.{own_refusal}
use Rattle.sb_model.specs.Refusals.{or_else, when}
use Rattle.sb_catalog.specs.Known.{log_of}
use Rattle.sb_catalog.specs.Seen.{refusal_seen}
use Rattle.sb_catalog.proofs.Chains.{first-append}
use Rattle.sb_catalog.proofs.catalog.Catalog.refuse.Goals as goal

pub returns-in-Some : goal.returns-in-Some
returns-in-Some c =
    let log = log_of c.args.self.now in
    let full = when (nat_le 4096 (length (definitions log))) refusal.TooMany in
    ap (λ o. or_else o full) (sym (ap (option_map refusal_seen) c.in-Some.is) ∙ c.refuse_own.ensures)
    ∙ sym (first-append (own_refusal log c.args.ddl.now) full)

pub returns-then-is_full : goal.returns-then-is_full
returns-then-is_full c =
    let log = log_of c.args.self.now in
    let full = when (nat_le 4096 (length (definitions log))) refusal.TooMany in
    ap (λ b. when b refusal.TooMany) (sym c.if-is_full.true ∙ c.is_full.ensures)
    ∙ ap (λ o. or_else o full) (sym (ap (option_map refusal_seen) c.in-None.is) ∙ c.refuse_own.ensures)
    ∙ sym (first-append (own_refusal log c.args.ddl.now) full)
