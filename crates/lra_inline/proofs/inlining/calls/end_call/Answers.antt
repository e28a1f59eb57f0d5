-- Goals of `end_call`: the point of the callee's end, and the whole call.
use Rattle.std.proofs.Common.{◌∷◌, [], ◌≡◌}
use Rattle.lra_program.specs.{ProgramViews.element_view, ProgramViews.call_view, ProgramViews.function_view, Sites.plain_site, Step.push, Step.push_for}
use Rattle.lra_operations.specs.TreeViews.{node_view}
use Rattle.lra_inline_steps.specs.{Inlining.points_in, Inlining.program_around, Inlining.StopsBehind, Limits.add_points, Limits.stopped}
use Rattle.lra_inline_steps.proofs.Stopping.{err_stopped, made_ok, made_limit}
use Rattle.lra_inline.proofs.{Calling.end_stopped, Calling.end_written, Programs.called_fits, Programs.called_few}
use Rattle.lra_inline.proofs.inlining.calls.end_call.Goals as goal

pub returns-in_err-end-clause-limit : goal.returns-in_err-end-clause-limit
returns-in_err-end-clause-limit c =
    let here = c.args.around.now in
    let call = call_view c.args.call.now in
    err_stopped c.from_residual.result _ (λ l. add_points (points_in c.args.sites.now) (plain_site c.args.path.now c.callee-function.result.now.end c.args.body.1 ∷ []) ≡ stopped l)
    (StopsBehind here c.args.sites.now c.args.caller.receiver call c.args.body.0 c.args.body.1) c.from_residual.ensures.1
    (λ l h S w. end_stopped (program_around here) here.path.now here.frame c.args.caller.receiver call S (points_in c.args.sites.now) (node_view c.args.body.0) c.args.body.1 w
    (function_view c.callee-function.result.now) c.callee-function.ensures c.args.path.now c.requires.within l h)
    c.in_err-end.ensures.limit

pub enclose_call-requires : goal.enclose_call-requires
enclose_call-requires c = rw c.deref.ensures.value (called_few c.args.around.now.program.now c.args.around.now.frame c.args.call.now c.requires.stands c.callee-function.result.now
    c.callee-function.ensures c.args.around.now.frame.live c.requires.few)

pub enclose_call_for-whole-requires : goal.enclose_call_for-whole-requires
enclose_call_for-whole-requires c = rw c.deref-in-Some.ensures.value (called_few c.args.around.now.program.now c.args.around.now.frame c.args.call.now
    c.requires.stands c.callee-function.result.now c.callee-function.ensures c.args.around.now.frame.live c.requires.few)

pub returns-in-None-clause-written : goal.returns-in-None-clause-written
returns-in-None-clause-written c =
    let here = c.args.around.now in
    let call = call_view c.args.call.now in
    let fn = c.callee-function.result.now in
    rw c.in-None.is (made_ok c.finish.result c.enclose_call.result _ _ c.finish.ensures.tree c.enclose_call.ensures
    (λ g a S w. end_written (program_around here) here.path.now here.frame c.args.caller.receiver call S (points_in c.args.sites.now) (node_view c.args.body.0)
    c.args.body.1 w (function_view fn) c.callee-function.ensures c.args.path.now c.requires.within
    (points_in c.add_point.new.sites) c.args.caller.point c.in_ok-end.end
    (push here.frame.base) (node_view g)
    (called_fits here.program.now here.frame c.args.call.now c.requires.stands fn c.callee-function.ensures)
    c.in_ok-end.ensures.number c.in_ok-end.ensures.walked (rw (c.deref.ensures.value, c.deref-in-None.ensures.value, c.result_receiver.ensures) at a)))

pub returns-in-None-clause-limit : goal.returns-in-None-clause-limit
returns-in-None-clause-limit c = made_limit c.finish.result _ c.finish.ensures.memory

pub returns-in-Some-clause-written : goal.returns-in-Some-clause-written
returns-in-Some-clause-written c =
    let here = c.args.around.now in
    let call = call_view c.args.call.now in
    let fn = c.callee-function.result.now in
    rw c.in-Some.is (made_ok c.finish-in-Some.result c.enclose_call_for-whole.result _ _ c.finish-in-Some.ensures.tree c.enclose_call_for-whole.ensures
    (λ g a S w. end_written (program_around here) here.path.now here.frame c.args.caller.receiver call S (points_in c.args.sites.now) (node_view c.args.body.0)
    c.args.body.1 w (function_view fn) c.callee-function.ensures c.args.path.now c.requires.within
    (points_in c.add_point.new.sites) c.args.caller.point c.in_ok-end.end
    (push_for here.frame.base (element_view c.in-Some.element.now)) (node_view g)
    (called_fits here.program.now here.frame c.args.call.now c.requires.stands fn c.callee-function.ensures)
    c.in_ok-end.ensures.number c.in_ok-end.ensures.walked
    (rw (c.deref-in-Some.ensures.value, c.deref-in-Some-2.ensures.value, c.result_receiver.ensures) at a)))

pub returns-in-Some-clause-limit : goal.returns-in-Some-clause-limit
returns-in-Some-clause-limit c = made_limit c.finish-in-Some.result _ c.finish-in-Some.ensures.memory
