use Rattle.std.proofs.Common.{◌≤◌, ◌∙◌, length, arith, sym}
use Rattle.std.proofs.lemmas.List.{length-take-le}
use Rattle.sb_script.proofs.Texts.{read_says, read_refuses, read_only, no_text_refuses, says_no_text}
use Rattle.sb_script.proofs.reading.script.Goals as goal

pub slice_bounds-line_behind-end : goal.slice_bounds-line_behind-end
slice_bounds-line_behind-end c =
    let longer : 8388608 ≤ length c.args.bytes.now = omega arith in sym (length-take-le 8388608 c.args.bytes.now longer)

pub returns-in-Ok-clause-commands : goal.returns-in-Ok-clause-commands
returns-in-Ok-clause-commands c =
    let le : length c.args.bytes.now ≤ 8388608 = omega arith in
    read_says c.read.result (λ v. v.items) c.args.bytes.now le c.in-Ok.ensures.cases.1 (rw c.in-Ok.ensures.cases.0 at c.read.ensures.goes_on)

pub returns-in-Ok-clause-refused : goal.returns-in-Ok-clause-refused
returns-in-Ok-clause-refused c =
    let le : length c.args.bytes.now ≤ 8388608 = omega arith in
    read_refuses c.read.result c.args.bytes.now le c.in-Ok.ensures.cases.1 (rw c.in-Ok.ensures.cases.0 at c.read.ensures.stops)

pub returns-in-Ok-clause-only : goal.returns-in-Ok-clause-only
returns-in-Ok-clause-only c =
    let le : length c.args.bytes.now ≤ 8388608 = omega arith in
    read_only c.read.result (λ v. v.items) c.args.bytes.now le c.in-Ok.ensures.cases.1 (rw c.in-Ok.ensures.cases.0 at c.read.ensures.goes_on) (rw c.in-Ok.ensures.cases.0 at c.read.ensures.stops)

pub returns-in-Err-clause-refused : goal.returns-in-Err-clause-refused
returns-in-Err-clause-refused c =
    let le : length c.args.bytes.now ≤ 8388608 = omega arith in
    no_text_refuses c.args.bytes.now c.front-valid.result.now c.valid_up_to.result c.line_behind-in-Err.result c.refusal-in-Err.result le c.in-Err.ensures.cases.0 c.refusal-in-Err.ensures c.line_behind-in-Err.ensures c.front-valid.ensures (c.valid_up_to.ensures ∙ c.in-Err.ensures.valid_len)

pub returns-in-Err-clause-only : goal.returns-in-Err-clause-only
returns-in-Err-clause-only c =
    let le : length c.args.bytes.now ≤ 8388608 = omega arith in
    λ cs h. absurd (says_no_text c.args.bytes.now cs le c.in-Err.ensures.cases.0 h)
