-- Goals of `go_on`: whichever place it is.
use Rattle.std.proofs.Common.{◌∙◌}
use Rattle.lra_program.specs.{ProgramViews.program_view, Step.truncate_to}
use Rattle.lra_operations.specs.{Tree.point, Tree.act, Tree.seq, TreeViews.node_view}
use Rattle.lra_inline_steps.specs.{Building.call_left, Inlining.points_in, declared.frame.Frame.Frame}
use Rattle.lra_inline_steps.proofs.OpenFrames.{opened, rounds_next, closed, closed_ok}
use Rattle.lra_inline.proofs.inlining.going_on.go_on.Goals as goal

pub returns-in-Items-clause-leads : goal.returns-in-Items-clause-leads
returns-in-Items-clause-leads c = λ whole under b.
    let P = program_view c.args.source.program.now in
    let f = c.args.place.frame in
    let k = opened P whole under f _ _ c.in-Items.is b.0 in
    c.go_on_items.ensures.leads P whole under c.args.path.now (points_in c.args.sites.now) (k, b.1, b.2)

pub returns-in-Cases-clause-leads : goal.returns-in-Cases-clause-leads
returns-in-Cases-clause-leads c = λ whole under b.
    let P = program_view c.args.source.program.now in
    let f = c.args.place.frame in
    let k = opened P whole under f _ _ c.in-Cases.is b.0 in
    c.go_on_cases.ensures.leads P whole under c.args.path.now (points_in c.args.sites.now) (k, b.1, b.2)

pub returns-in-Forked-clause-leads : goal.returns-in-Forked-clause-leads
returns-in-Forked-clause-leads c = λ whole under b.
    let P = program_view c.args.source.program.now in
    let f = c.args.place.frame in
    let k = opened P whole under f _ _ c.in-Forked.is b.0 in
    c.go_on_forked.ensures.leads P whole under c.args.path.now (points_in c.args.sites.now) (k, b.1, b.2)

pub returns-in-Block-clause-leads : goal.returns-in-Block-clause-leads
returns-in-Block-clause-leads c = λ whole under b.
    let P = program_view c.args.source.program.now in
    let f = c.args.place.frame in
    let k = opened P whole under f _ _ c.in-Block.is b.0 in
    c.end_block.ensures.leads P whole under (k, b.1, b.2)

pub returns-in-Block-clause-limit : goal.returns-in-Block-clause-limit
returns-in-Block-clause-limit c = λ whole under b.
    let P = program_view c.args.source.program.now in
    let f = c.args.place.frame in
    let k = opened P whole under f _ _ c.in-Block.is b.0 in
    c.end_block.ensures.limit P whole under (k, b.1, b.2)

pub end_callee-requires : goal.end_callee-requires
end_callee-requires c =
    (c.requires.0, c.requires.1, (opened (program_view c.args.source.program.now) c.requires.0 c.requires.1 c.args.place.frame _ _ c.in-Callee.is c.requires.2.0, c.requires.2.1, c.requires.2.2))

pub returns-in-Callee-clause-leads : goal.returns-in-Callee-clause-leads
returns-in-Callee-clause-leads c = λ whole under b.
    let P = program_view c.args.source.program.now in
    let f = c.args.place.frame in
    let k = opened P whole under f _ _ c.in-Callee.is b.0 in
    c.end_callee.ensures.leads whole under (k, b.1, b.2)

pub returns-in-Callee-clause-limit : goal.returns-in-Callee-clause-limit
returns-in-Callee-clause-limit c = λ whole under b.
    let P = program_view c.args.source.program.now in
    let f = c.args.place.frame in
    let k = opened P whole under f _ _ c.in-Callee.is b.0 in
    c.end_callee.ensures.limit whole under (k, b.1, b.2)

pub returns-in-Init-clause-leads : goal.returns-in-Init-clause-leads
returns-in-Init-clause-leads c = λ whole under b.
    let P = program_view c.args.source.program.now in
    let f = c.args.place.frame in
    let k = opened P whole under f _ _ c.in-Init.is b.0 in
    rounds_next P whole under f c.args.path.now c.args.part.live (points_in c.args.sites.now) c.in-Init.point c.in-Init.repeated c.args.part.node k b.1 b.2

pub returns-in-Around-clause-leads : goal.returns-in-Around-clause-leads
returns-in-Around-clause-leads c = λ whole under b.
    let P = program_view c.args.source.program.now in
    let f = c.args.place.frame in
    let k = opened P whole under f _ _ c.in-Around.is b.0 in
    closed_ok P c.close.result _ _ c.enclose_for-all.result f.live c.close.ensures.written c.enclose_for-all.ensures
    (λ g a. closed P whole under f c.args.path.now c.args.part.live (points_in c.args.sites.now)
    (λ (r : Frame) h. seq (node_view c.in-Around.init) (seq h (act c.in-Around.point (truncate_to r.live))))
    (λ (r : Frame). r.live) (node_view c.args.part.node) g k.frame k.path b.2 k.continues b.1 a)

pub returns-in-Given-clause-leads : goal.returns-in-Given-clause-leads
returns-in-Given-clause-leads c = λ whole under b.
    let P = program_view c.args.source.program.now in
    let f = c.args.place.frame in
    let k = opened P whole under f _ _ c.in-Given.is b.0 in
    closed_ok P c.close-in-Given.result _ _ c.put_point.result f.live c.close-in-Given.ensures.written c.put_point.ensures (λ g a. closed P whole under f c.args.path.now c.args.part.live (points_in
    c.args.sites.now) (λ (r : Frame) h. seq (point c.in-Given.point) h)
    (λ (r : Frame). r.live) (node_view c.args.part.node) g k.frame k.path b.2 k.continues b.1 a)

pub returns-in-Declared-clause-leads : goal.returns-in-Declared-clause-leads
returns-in-Declared-clause-leads c = λ whole under b.
    let P = program_view c.args.source.program.now in
    let f = c.args.place.frame in
    let k = opened P whole under f _ _ c.in-Declared.is b.0 in
    closed_ok P c.close-in-Declared.result _ _ c.declare.result c.args.part.live c.close-in-Declared.ensures.written c.declare.ensures (λ g a. (
      rw a (k.continues (node_view
          c.args.part.node) c.args.part.live (points_in c.args.sites.now) b.1),
      b.2 ∙ k.path,
    ))

pub returns-in-Returned-clause-leads : goal.returns-in-Returned-clause-leads
returns-in-Returned-clause-leads c = λ whole under b.
    let P = program_view c.args.source.program.now in
    let f = c.args.place.frame in
    let k = opened P whole under f _ _ c.in-Returned.is b.0 in
    closed_ok P c.close-in-Returned.result _ _ c.leave_call.result f.live c.close-in-Returned.ensures.written c.leave_call.ensures (λ g a. closed P whole under f c.args.path.now
    c.args.part.live (points_in c.args.sites.now) (λ (r : Frame) h. seq (point c.in-Returned.point) (call_left r.back c.in-Returned.point h r.live))
    (λ (r : Frame). r.live) (node_view c.args.part.node) g k.frame k.path b.2 k.continues b.1 a)

pub returns-in-Items-clause-falls : goal.returns-in-Items-clause-falls
returns-in-Items-clause-falls c = λ P. rw c.in-Items.is (c.go_on_items.ensures.falls P)

pub returns-in-Cases-clause-falls : goal.returns-in-Cases-clause-falls
returns-in-Cases-clause-falls c = λ P. rw c.in-Cases.is (c.go_on_cases.ensures.falls P)

pub returns-in-Callee-clause-falls : goal.returns-in-Callee-clause-falls
returns-in-Callee-clause-falls c = λ P. rw c.in-Callee.is (c.end_callee.ensures.falls P)
