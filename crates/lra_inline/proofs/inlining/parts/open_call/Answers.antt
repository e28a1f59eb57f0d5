-- Goals of `open_call`: the body of the function that a call names.
use Rattle.std.proofs.Common.{map, ◌∙◌}
use Rattle.lra_program.specs.ProgramViews.{call_view, item_view, items_of, program_view}
use Rattle.lra_inline.proofs.{Calling.callee_falls, Calling.body_opens, Programs.callee_is}
use Rattle.lra_inline.proofs.inlining.parts.open_call.Goals as goal

pub callee-function-requires : goal.callee-function-requires
callee-function-requires c = (c.args.frame, c.requires.stands)

pub returns-clause-leads : goal.returns-clause-leads
returns-clause-leads c =
    let items = items_of (map item_view c.deref.result.now) in
    let is = callee_is c.args.source.program.now c.args.frame c.args.call.now c.requires.stands c.callee-function.result.now c.callee-function.ensures c.args.path.now c.args.caller.receiver
    c.result_receiver-receiver.result c.replace-callers.new.dest c.in_ok-inside.within c.deref.result.now c.in_ok-inside.ensures.some_left
    (c.replace-callers.ensures.after ∙ c.in_ok-inside.ensures.path)
    c.result_receiver-receiver.ensures c.in_ok-inside.ensures.frame c.deref.ensures.value in
    λ S. body_opens (program_view c.args.source.program.now) c.args.path.now c.args.frame S c.replace-callers.new.dest c.in_ok-inside.within items
    (record { path = c.replace-callers.result; caller = c.args.caller; call = c.args.call }) is c.replace-callers.ensures.value c.requires.well c.requires.stands c.requires.few

pub returns-clause-falls : goal.returns-clause-falls
returns-clause-falls c =
    let items = items_of (map item_view c.deref.result.now) in
    let is = callee_is c.args.source.program.now c.args.frame c.args.call.now c.requires.stands c.callee-function.result.now c.callee-function.ensures c.args.path.now c.args.caller.receiver
    c.result_receiver-receiver.result c.replace-callers.new.dest c.in_ok-inside.within c.deref.result.now c.in_ok-inside.ensures.some_left
    (c.replace-callers.ensures.after ∙ c.in_ok-inside.ensures.path)
    c.result_receiver-receiver.ensures c.in_ok-inside.ensures.frame c.deref.ensures.value in
    callee_falls (program_view c.args.source.program.now) c.args.path.now c.args.frame c.args.caller.receiver (call_view c.args.call.now) c.replace-callers.new.dest c.in_ok-inside.within items is
