use Rattle.std.proofs.Common.{◌≡◌, ◌∷◌, ◌+◌, [], drop, length, ap, ◌∙◌, arith}
use Rattle.std.proofs.lemmas.Iterator.Adapters.{YieldsList-from_vec}
use Rattle.std.proofs.lemmas.Iterator.Consumers.{YieldsList-turn, YieldsList-end}
use Rattle.std.proofs.lemmas.List.{length_push}
use Rattle.std.specs.Prelude.{Err}
use Rattle.std.proofs.lemmas.List.{drop_all}
use Rattle.sb_top.specs.Runs.{world_of}
use Rattle.sb_top.proofs.Driving.{filled_stopped, filled_unwritten, never_faults, next_of, ran_stopped, ran_unwritten, sound_of, turn_begun, turn_done, turn_stopped, turns_done, unwritten_rose, wrote_stopped, wrote_unwritten}
use Rattle.sb_top.proofs.Histories.{so_all}
use Rattle.sb_top.proofs.Writing.{turn_part, turn_whole}
use Rattle.sb_top.proofs.drive.drive.Goals as goal

pub returns-in-Err-clause-sound : goal.returns-in-Err-clause-sound
returns-in-Err-clause-sound g c =
    let t = YieldsList-turn (YieldsList-from_vec {s = c.into_iter-command-iterator.result} c.args.commands.items c.into_iter-command-iterator.ensures.into_iter_gives.0 (c.into_iter-command-iterator.ensures.into_iter_gives.1 ∙ c.args.commands.ok.0)) c.loop-command.yielded c.loop-command.command-iterator c.loop-command.yielded_by c.next.result c.next.new.self c.in-Some.command c.in-Some.is c.next.ensures.steps in
    let next : drop (length c.loop-command.yielded) c.args.commands.items ≡ c.in-Some.command ∷ drop (length c.loop-command.yielded + 1) c.args.commands.items =
    next_of c.args.commands.items (length c.loop-command.yielded) c.in-Some.command t.0 t.1 in
    rw (c.end.ensures.history, c.into_steps.ensures) (sound_of c.args.instance _ _ _ (ap world_of c.requires)
    (turn_begun _ _ _ _ c.args.commands.items _ _ c.in-Some.command _ _ _ next c.loop-command.invariant.goes c.perform-done.ensures.goes))

pub returns-in-Err-clause-ran : goal.returns-in-Err-clause-ran
returns-in-Err-clause-ran g c =
    let t = YieldsList-turn (YieldsList-from_vec {s = c.into_iter-command-iterator.result} c.args.commands.items c.into_iter-command-iterator.ensures.into_iter_gives.0 (c.into_iter-command-iterator.ensures.into_iter_gives.1 ∙ c.args.commands.ok.0)) c.loop-command.yielded c.loop-command.command-iterator c.loop-command.yielded_by c.next.result c.next.new.self c.in-Some.command c.in-Some.is c.next.ensures.steps in
    let next : drop (length c.loop-command.yielded) c.args.commands.items ≡ c.in-Some.command ∷ drop (length c.loop-command.yielded + 1) c.args.commands.items =
    next_of c.args.commands.items (length c.loop-command.yielded) c.in-Some.command t.0 t.1 in
    rw (c.end.ensures.why, c.end.ensures.history, c.why.ensures, c.into_steps.ensures) (ran_unwritten _ _ _ (so_all _ _ _ _
    (turn_begun _ _ _ _ c.args.commands.items _ _ c.in-Some.command _ _ _ next c.loop-command.invariant.goes c.perform-done.ensures.goes)))

pub returns-in-Err-clause-text : goal.returns-in-Err-clause-text
returns-in-Err-clause-text g c =
    rw (c.end.ensures.why, c.end.ensures.history, c.end.ensures.written, c.why.ensures, c.into_steps.ensures) (wrote_unwritten _ _ _ _ _
    (turn_part _ (g.K.Sink.written c.loop-command.sink) _ _ _ _ _ c.steps_from.result.now c.len-written.result c.in-Err.unwritten.whole _ c.perform-done.ensures.goes c.loop-command.invariant.so_far
    c.len-written.ensures (c.steps_from.ensures ∙ ap (drop c.len-written.result) c.steps.ensures) c.in-Err.ensures.err))

pub returns-in-Err-clause-fault : goal.returns-in-Err-clause-fault
returns-in-Err-clause-fault g c =
    rw (c.end.ensures.why, c.why.ensures) (unwritten_rose c.in-Err.unwritten.fault _ _ _ c.loop-command.invariant.later c.in-Err.ensures.fault)

pub returns-in-Err-clause-filled : goal.returns-in-Err-clause-filled
returns-in-Err-clause-filled g c = rw (c.end.ensures.why, c.why.ensures) (filled_unwritten _ _)

pub returns-clause-sound : goal.returns-clause-sound
returns-clause-sound g c = rw c.stop-2.ensures.history (sound_of c.args.instance _ _ _ (ap world_of c.requires) c.loop-command.invariant.goes)

pub returns-clause-ran : goal.returns-clause-ran
returns-clause-ran g c =
    let t = YieldsList-end (YieldsList-from_vec {s = c.into_iter-command-iterator.result} c.args.commands.items c.into_iter-command-iterator.ensures.into_iter_gives.0 (c.into_iter-command-iterator.ensures.into_iter_gives.1 ∙ c.args.commands.ok.0)) c.loop-command.yielded c.loop-command.command-iterator c.loop-command.yielded_by c.next.result c.next.new.self c.in-None.is c.next.ensures.steps in
    let none : drop (length c.loop-command.yielded) c.args.commands.items ≡ [] = drop_all (length c.loop-command.yielded) c.args.commands.items (omega (arith, t.1)) in
    rw (c.stop-2.ensures.why, c.stop-2.ensures.history) (turns_done c.args.instance _ _ c.args.commands.items _ _ none c.loop-command.invariant.goes)

pub returns-in-Err-done-clause-sound : goal.returns-in-Err-done-clause-sound
returns-in-Err-done-clause-sound g c =
    let t = YieldsList-turn (YieldsList-from_vec {s = c.into_iter-command-iterator.result} c.args.commands.items c.into_iter-command-iterator.ensures.into_iter_gives.0 (c.into_iter-command-iterator.ensures.into_iter_gives.1 ∙ c.args.commands.ok.0)) c.loop-command.yielded c.loop-command.command-iterator c.loop-command.yielded_by c.next.result c.next.new.self c.in-Some.command c.in-Some.is c.next.ensures.steps in
    let next : drop (length c.loop-command.yielded) c.args.commands.items ≡ c.in-Some.command ∷ drop (length c.loop-command.yielded + 1) c.args.commands.items =
    next_of c.args.commands.items (length c.loop-command.yielded) c.in-Some.command t.0 t.1 in
    rw c.stop.ensures.history (sound_of c.args.instance _ _ _ (ap world_of c.requires) (turn_begun _ _ _ _ c.args.commands.items _ _ c.in-Some.command _ _ _ next c.loop-command.invariant.goes c.perform-done.ensures.goes))

pub returns-in-Err-done-clause-ran : goal.returns-in-Err-done-clause-ran
returns-in-Err-done-clause-ran g c =
    let t = YieldsList-turn (YieldsList-from_vec {s = c.into_iter-command-iterator.result} c.args.commands.items c.into_iter-command-iterator.ensures.into_iter_gives.0 (c.into_iter-command-iterator.ensures.into_iter_gives.1 ∙ c.args.commands.ok.0)) c.loop-command.yielded c.loop-command.command-iterator c.loop-command.yielded_by c.next.result c.next.new.self c.in-Some.command c.in-Some.is c.next.ensures.steps in
    let next : drop (length c.loop-command.yielded) c.args.commands.items ≡ c.in-Some.command ∷ drop (length c.loop-command.yielded + 1) c.args.commands.items =
    next_of c.args.commands.items (length c.loop-command.yielded) c.in-Some.command t.0 t.1 in
    rw (c.stop.ensures.why, c.stop.ensures.history) (ran_stopped c.in-Err-done.stopped _ _ _ c.why_stopped.ensures (so_all _ _ _ _
    (turn_stopped c.in-Err-done.stopped _ _ _ _ c.args.commands.items _ _ c.in-Some.command _ _ next c.loop-command.invariant.goes (rw c.in-Err-done.is at c.perform-done.ensures.goes))))

pub returns-in-Err-done-clause-text : goal.returns-in-Err-done-clause-text
returns-in-Err-done-clause-text g c =
    rw (c.stop.ensures.why, c.stop.ensures.history) (wrote_stopped c.in-Err-done.stopped _ _ _ _ _ c.why_stopped.ensures
    (turn_whole _ (g.K.Sink.written c.loop-command.sink) _ _ _ _ _ c.steps_from.result.now c.len-written.result _ c.perform-done.ensures.goes c.loop-command.invariant.so_far
    c.len-written.ensures (c.steps_from.ensures ∙ ap (drop c.len-written.result) c.steps.ensures) c.in-Ok.ensures.ok) c.stop.ensures.written)

pub returns-in-Err-done-clause-filled : goal.returns-in-Err-done-clause-filled
returns-in-Err-done-clause-filled g c =
    rw (c.stop.ensures.why, c.stop.ensures.history) (filled_stopped c.in-Err-done.stopped _ _ c.why_stopped.ensures (λ e. c.perform-done.ensures.full (c.in-Err-done.is ∙ ap Err e)))

pub returns-in-Err-done-clause-fault : goal.returns-in-Err-done-clause-fault
returns-in-Err-done-clause-fault g c = rw c.stop.ensures.why (never_faults c.in-Err-done.stopped _ _ _ c.why_stopped.ensures)

pub loop-command-preserved : goal.loop-command-preserved
loop-command-preserved g c =
    let t = YieldsList-turn (YieldsList-from_vec {s = c.into_iter-command-iterator.result} c.args.commands.items c.into_iter-command-iterator.ensures.into_iter_gives.0 (c.into_iter-command-iterator.ensures.into_iter_gives.1 ∙ c.args.commands.ok.0)) c.loop-command.yielded c.loop-command.command-iterator c.loop-command.yielded_by c.next.result c.next.new.self c.in-Some.command c.in-Some.is c.next.ensures.steps in
    let next : drop (length c.loop-command.yielded) c.args.commands.items ≡ c.in-Some.command ∷ drop (length c.loop-command.yielded + 1) c.args.commands.items =
    next_of c.args.commands.items (length c.loop-command.yielded) c.in-Some.command t.0 t.1 in
    record {
      goes = rw (length_push c.loop-command.yielded c.in-Some.command) (turn_done _ _ _ _ _ c.args.commands.items _ _ c.in-Some.command _ _ next c.loop-command.invariant.goes (rw c.in-Ok-done.is at c.perform-done.ensures.goes));
      so_far = turn_whole _ (g.K.Sink.written c.loop-command.sink) _ _ _ _ _ c.steps_from.result.now c.len-written.result _ c.perform-done.ensures.goes c.loop-command.invariant.so_far c.len-written.ensures (c.steps_from.ensures ∙ ap (drop c.len-written.result) c.steps.ensures) c.in-Ok.ensures.ok;
      later = omega (arith, c.in-Ok.ensures.later);
    }
