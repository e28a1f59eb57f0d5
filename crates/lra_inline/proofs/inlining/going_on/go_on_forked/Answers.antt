-- Goals of `go_on_forked`: after a part of a choice or a loop.
use Rattle.lra_program.specs.ProgramViews.{cond_view}
use Rattle.lra_operations.specs.{Inlined.loop_node, Tree.point, Tree.seq, Tree.choose, TreeViews.node_view}
use Rattle.lra_inline_steps.specs.declared.frame.Frame.{Frame}
use Rattle.lra_inline_steps.proofs.OpenFrames.{forked_seen, false_next, body_next, closed, closed_ok}
use Rattle.lra_inline.proofs.inlining.going_on.go_on_forked.Goals as goal

pub returns-in-OnTrue-clause-leads : goal.returns-in-OnTrue-clause-leads
returns-in-OnTrue-clause-leads c = λ P whole under path V b.
    let f = c.args.frame in
    let k = forked_seen P whole under f _ _ c.in-OnTrue.is b.0 in
    false_next P whole under f path c.args.part.live V c.in-OnTrue.branches c.args.part.node k b.1 b.2

pub returns-in-Step-clause-leads : goal.returns-in-Step-clause-leads
returns-in-Step-clause-leads c = λ P whole under path V b.
    let f = c.args.frame in
    let k = forked_seen P whole under f _ _ c.in-Step.is b.0 in
    rw c.deref.ensures (body_next P whole under f path c.args.part.live V c.in-Step.point c.in-Step.repeated c.args.part.node k b.1 b.2)

pub returns-in-OnFalse-clause-leads : goal.returns-in-OnFalse-clause-leads
returns-in-OnFalse-clause-leads c = λ P whole under path V b.
    let f = c.args.frame in
    let k = forked_seen P whole under f _ _ c.in-OnFalse.is b.0 in
    closed_ok P c.close.result _ _ c.choice-all.result f.live c.close.ensures.written c.choice-all.ensures
    (λ g a. closed P whole under f path c.args.part.live V (λ (r : Frame) h. seq (point c.in-OnFalse.point)
    (choose c.in-OnFalse.point r.base (cond_view c.in-OnFalse.cond.now) (node_view c.in-OnFalse.on_true) h))
    (λ (r : Frame). r.live) (node_view c.args.part.node) g k.frame k.path b.2 k.continues b.1 a)

pub returns-in-Body-clause-leads : goal.returns-in-Body-clause-leads
returns-in-Body-clause-leads c = λ P whole under path V b.
    let f = c.args.frame in
    let k = forked_seen P whole under f _ _ c.in-Body.is b.0 in
    closed_ok P c.close-in-Body.result _ _ c.rounds-all.result f.live c.close-in-Body.ensures.written c.rounds-all.ensures
    (λ g a. closed P whole under f path c.args.part.live V (λ (r : Frame) h. loop_node c.in-Body.point r.base (cond_view c.in-Body.cond.now) h
    (node_view c.in-Body.step))
    (λ (r : Frame). r.live) (node_view c.args.part.node) g k.frame k.path b.2 k.continues b.1 a)
