-- `fetches::replay_fetches` meets its contract: no room, a trace that is refused, or all rows
-- answered. Assumes nothing.
use Rattle.std.proofs.Common.{rules}
use Rattle.fetches.proofs.Fills.{no_room, trace-refused, trace-answered}
use Rattle.fetches.proofs.replay_fetches.Goals as goal

pub returns-then-answers-rows-clause-value : goal.returns-then-answers-rows-clause-value
returns-then-answers-rows-clause-value c =
    let a = c.args in (no_room a.rows.now a.start a.file a.trace.now a.answers.now c.if-answers-rows.true).0

pub returns-then-answers-rows-clause-answers_after : goal.returns-then-answers-rows-clause-answers_after
returns-then-answers-rows-clause-answers_after c =
    let a = c.args in (no_room a.rows.now a.start a.file a.trace.now a.answers.now c.if-answers-rows.true).1

pub returns-in_err-check_trace-clause-value : goal.returns-in_err-check_trace-clause-value
returns-in_err-check_trace-clause-value c =
    let a = c.args in
    let told = (trace-refused a.rows.now a.start a.file a.trace.now a.answers.now c.if-answers-rows.false _ _ c.in_err-check_trace.ensures).0 in
    search rules

pub returns-in_err-check_trace-clause-answers_after : goal.returns-in_err-check_trace-clause-answers_after
returns-in_err-check_trace-clause-answers_after c =
    let a = c.args in (trace-refused a.rows.now a.start a.file a.trace.now a.answers.now c.if-answers-rows.false _ _ c.in_err-check_trace.ensures).1

pub returns-clause-value : goal.returns-clause-value
returns-clause-value c =
    let a = c.args in (trace-answered a.rows.now a.start a.file a.trace.now a.answers.now c.if-answers-rows.false c.in_ok-check_trace.ensures).1
