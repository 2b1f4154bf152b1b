use Rattle.std.proofs.Common.{◌≡◌, ◌+◌, ◌≤◌, [], ◌∷◌, length, drop, ap, ◌∙◌, arith}
use Rattle.std.specs.Str.Lines.{lines}
use Rattle.std.proofs.Math.ListN.{drop_of_length-le}
use Rattle.std.proofs.lemmas.Iterator.Consumers.{YieldsList-turn, YieldsList-end}
use Rattle.std.proofs.lemmas.Iterator.Splits.{YieldsList-from_lines}
use Rattle.std.proofs.lemmas.List.{length_push}
use Rattle.sb_script.specs.Script.{pieces_of}
use Rattle.sb_script.specs.Reading.{left}
use Rattle.sb_script.proofs.Goes.{goes_behind, stops_behind, after_ends, after_stops, line_more}
use Rattle.sb_script.proofs.reading.read.Goals as goal

pub returns-in-Err-clause-stops : goal.returns-in-Err-clause-stops
returns-in-Err-clause-stops c =
    let t = YieldsList-turn (YieldsList-from_lines c.args.text.now cc) c.loop-line.yielded _ c.loop-line.yielded_by _ _ c.in-Some.line c.in-Some.is c.next.ensures.steps in
    let more : drop (length c.loop-line.yielded) (lines c.args.text.now) ≡ c.in-Some.line.now ∷ drop (length c.loop-line.yielded + 1) (lines c.args.text.now) = line_more (lines c.args.text.now) (length c.loop-line.yielded) c.in-Some.line.now t.0 t.1 in
    stops_behind (rw more at c.loop-line.invariant.goes_on) (c.in-Err.ensures.stops (drop (length c.loop-line.yielded + 1) (lines c.args.text.now)))

pub loop-line-preserved : goal.loop-line-preserved
loop-line-preserved c =
    let t = YieldsList-turn (YieldsList-from_lines c.args.text.now cc) c.loop-line.yielded _ c.loop-line.yielded_by _ _ c.in-Some.line c.in-Some.is c.next.ensures.steps in
    let more : drop (length c.loop-line.yielded) (lines c.args.text.now) ≡ c.in-Some.line.now ∷ drop (length c.loop-line.yielded + 1) (lines c.args.text.now) = line_more (lines c.args.text.now) (length c.loop-line.yielded) c.in-Some.line.now t.0 t.1 in
    record {
      goes_on = rw (length_push c.loop-line.yielded c.in-Some.line) (goes_behind (rw more at c.loop-line.invariant.goes_on) (c.in-Ok.ensures.goes_on (drop (length c.loop-line.yielded + 1) (lines c.args.text.now))));
      number = rw (length_push c.loop-line.yielded c.in-Some.line) (c.in-Ok.ensures.number ∙ ap (λ n. n + 1) c.loop-line.invariant.number);
      first = c.in-Ok.ensures.first;
    }

pub returns-clause-goes_on : goal.returns-clause-goes_on
returns-clause-goes_on c =
    let t = YieldsList-end (YieldsList-from_lines c.args.text.now cc) c.loop-line.yielded _ c.loop-line.yielded_by _ _ c.in-None.is c.next.ensures.steps in
    let le : length (lines c.args.text.now) ≤ length c.loop-line.yielded = omega (arith, t.1) in
    let none : drop (length c.loop-line.yielded) (lines c.args.text.now) ≡ [] = drop_of_length-le (lines c.args.text.now) le in
    after_ends c.finish.result (λ v. v.items) (pieces_of c.args.text.now) (left c.loop-line.reading []) [] c.loop-line.reading.commands.items (rw none at c.loop-line.invariant.goes_on) c.finish.ensures.goes_on

pub returns-clause-stops : goal.returns-clause-stops
returns-clause-stops c =
    let t = YieldsList-end (YieldsList-from_lines c.args.text.now cc) c.loop-line.yielded _ c.loop-line.yielded_by _ _ c.in-None.is c.next.ensures.steps in
    let le : length (lines c.args.text.now) ≤ length c.loop-line.yielded = omega (arith, t.1) in
    let none : drop (length c.loop-line.yielded) (lines c.args.text.now) ≡ [] = drop_of_length-le (lines c.args.text.now) le in
    after_stops c.finish.result (pieces_of c.args.text.now) (left c.loop-line.reading []) [] c.loop-line.reading.commands.items (rw none at c.loop-line.invariant.goes_on) c.finish.ensures.stops
