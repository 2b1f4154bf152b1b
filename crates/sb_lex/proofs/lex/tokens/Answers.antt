use Rattle.std.proofs.Common.{Some, None, sym, ◌∙◌}
use Rattle.sb_lex.proofs.Scanned.{cut_as, only_of, order_of}
use Rattle.sb_lex.proofs.lex.tokens.Goals as goal

pub returns-in-None-clause-only : goal.returns-in-None-clause-only
returns-in-None-clause-only c ts u C =
    let l = c.in_ok-tokens.field-0 in
    let same = only_of c.args.text.now l.tokens.items l.unlexed c.in_ok-tokens.ensures ts u C in
    (sym same.0, same.1 ∙ cc)

pub returns-in-None-clause-in_order : goal.returns-in-None-clause-in_order
returns-in-None-clause-in_order c = let l = c.in_ok-tokens.field-0 in order_of c.args.text.now l.tokens.items l.unlexed c.in_ok-tokens.ensures

pub returns-in-Some-clause-only : goal.returns-in-Some-clause-only
returns-in-Some-clause-only c ts u C =
    let l = c.in_ok-tokens.field-0 in
    let same = only_of c.args.text.now l.tokens.items l.unlexed c.in_ok-tokens.ensures ts u C in
    same.1 ∙ cc

pub returns-in-None-clause-cut : goal.returns-in-None-clause-cut
returns-in-None-clause-cut c = let l = c.in_ok-tokens.field-0 in cut_as c.args.text.now l.tokens.items l.unlexed None c.in_ok-tokens.ensures cc

pub returns-in-Some-clause-unlexed : goal.returns-in-Some-clause-unlexed
returns-in-Some-clause-unlexed c = let l = c.in_ok-tokens.field-0 in (l.tokens.items, cut_as c.args.text.now l.tokens.items l.unlexed (Some c.in-Some.at) c.in_ok-tokens.ensures cc)
