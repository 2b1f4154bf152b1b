use Rattle.std.proofs.Common.{arith, length, length-drop, sym}
use Rattle.std.proofs.lemmas.List.{take_rest}
use Rattle.std.proofs.lemmas.Result.{err_from_is_err_and}
use Rattle.sb_grammar.specs.Rules.{most}
use Rattle.sb_grammar.specs.Batches.{AtEnd, procedure_bars, procedure_first, procedure_turn}
use Rattle.sb_parse.proofs.Members.{under_most}
use Rattle.sb_parse.proofs.Series.{goes_start, cut_go, cut_fail, cut_bar, cut_over, cut_end}
use Rattle.sb_parse.proofs.batch.procedure_more.Goals as goal

pub turns-init : goal.turns-init
turns-init c = (goes_start procedure_bars (procedure_first 64) (procedure_turn 64) AtEnd most c.args.first c.args.tokens.now (under_most (length c.args.tokens.now) (omega arith)), omega arith)

pub returns-in-Some-clause-value : goal.returns-in-Some-clause-value
returns-in-Some-clause-value c = cut_bar procedure_bars (procedure_first 64) (procedure_turn 64) AtEnd c.turns.rest.now c.t-item.result c.turns.progress c.in-Some.word _ c.turns.invariant.0 c.in-len1-up.len_at_least c.t-item.is (sym c.in-Some.ensures)

pub returns-in_default-procedure_take-clause-value : goal.returns-in_default-procedure_take-clause-value
returns-in_default-procedure_take-clause-value c = cut_over procedure_bars (procedure_first 64) (procedure_turn 64) AtEnd c.turns.rest.now c.t-item.result c.turns.progress _ c.turns.invariant.0 c.in-len1-up.len_at_least c.t-item.is (sym c.in_default-turn_bars.ensures) (sym c.in_default-procedure_take.ensures)

pub returns-in_err-next-clause-value : goal.returns-in_err-next-clause-value
returns-in_err-next-clause-value c =
    let p = err_from_is_err_and c.from_residual.result c.from_residual.ensures.1 in
    rw (p.1, p.2) (cut_fail procedure_bars (procedure_first 64) (procedure_turn 64) AtEnd c.in_err-next.field-0.0 c.turns.rest.now c.t-item.result c.turns.progress c.in-Some-procedure_take.first _ c.turns.invariant.0 c.in-len1-up.len_at_least c.t-item.is (sym c.in_default-turn_bars.ensures) (sym c.in-Some-procedure_take.ensures) (rw (take_rest c.turns.rest.now 1) at c.in_err-next.ensures.value))

pub turns-preserved : goal.turns-preserved
turns-preserved c =
    let short = rw (take_rest c.turns.rest.now 1) at c.in_ok-next.ensures.shorter in (
      cut_go procedure_bars (procedure_first 64) (procedure_turn 64) AtEnd c.turns.rest.now c.in_ok-next.after.now c.t-item.result c.turns.progress c.in_ok-next.next c.in-Some-procedure_take.first _ c.turns.invariant.0 c.in-len1-up.len_at_least c.t-item.is (sym c.in_default-turn_bars.ensures) (sym c.in-Some-procedure_take.ensures) (rw (take_rest c.turns.rest.now 1) at c.in_ok-next.ensures.value) short,
      omega (arith, short, length-drop 1 c.turns.rest.now),
    )

pub returns-clause-value : goal.returns-clause-value
returns-clause-value c = cut_end procedure_bars (procedure_first 64) (procedure_turn 64) AtEnd c.turns.rest.now c.turns.progress _ c.turns.invariant.0 (omega arith)
