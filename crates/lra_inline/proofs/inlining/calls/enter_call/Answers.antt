-- Goals of `enter_call`: a limit on calls, or the path and the frame of the callee's body.
use Rattle.std.proofs.{Common.◌∙◌, Common.ap, Common.sym, Common.arith, lemmas.List.length-map}
use Rattle.lra_program.specs.ProgramViews.{expr_view, call_view}
use Rattle.lra_inline_steps.specs.{Building.callee_frame, Inlining.program_around}
use Rattle.lra_inline.proofs.{Calling.no_call_more, Programs.arguments_fit}
use Rattle.lra_inline.proofs.inlining.calls.enter_call.Goals as goal

pub returns-then-frame-eq0-clause-limit : goal.returns-then-frame-eq0-clause-limit
returns-then-frame-eq0-clause-limit c =
    let here = c.args.around.now in
    λ S. no_call_more (program_around here) here.path.now here.frame.calls_left here.frame.live S (call_view c.args.call.now) c.if-frame-eq0.true

pub overflow_add-inner : goal.overflow_add-inner
overflow_add-inner c = record { fits = arguments_fit c.args.around.now.frame.live c.len.result c.args.call.now c.len.ensures c.requires }

pub overflow_sub-inner : goal.overflow_sub-inner
overflow_sub-inner c = let h = c.if-frame-eq0.false in omega (arith, h)

pub returns-clause-frame : goal.returns-clause-frame
returns-clause-frame c =
    let d = c.args.call.now.arguments in
    ap (λ k. callee_frame c.args.around.now.frame c.args.receiver k) (c.len.ensures ∙ d.ok.0 ∙ sym (length-map d.items expr_view))
