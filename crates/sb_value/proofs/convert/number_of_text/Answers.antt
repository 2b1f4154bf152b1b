use Rattle.std.proofs.Common.{◌∙◌, sym, ap}
use Rattle.sb_model.specs.Sides.{same_name}
use Rattle.sb_value.proofs.Decimals.{its_text, other_spelling, unread}
use Rattle.sb_value.proofs.convert.number_of_text.Goals as goal

pub returns-in_err-number : goal.returns-in_err-number
returns-in_err-number c = c.from_residual.ensures ∙ unread c.args.text.now c.parse.result c.parse.ensures.value.0 c.in_err-number.ensures.value

pub returns-then-eq : goal.returns-then-eq
returns-then-eq c = its_text c.args.text.now c.parse.result c.in_ok-number.number c.parse.ensures.value.0 c.in_ok-number.ensures.value
    (sym c.if-eq.true ∙ c.eq.ensures ∙ ap (λ t. same_name t c.args.text.now) c.format.ensures.text)

pub returns-else-eq : goal.returns-else-eq
returns-else-eq c = other_spelling c.args.text.now c.parse.result c.in_ok-number.number c.parse.ensures.value.0 c.in_ok-number.ensures.value
    (sym c.if-eq.false ∙ c.eq.ensures ∙ ap (λ t. same_name t c.args.text.now) c.format.ensures.text)
