-- Goals of `trace`: what is found by going back from the point over these paths.
use Rattle.std.proofs.Common.{◌≡◌, ℕ, List, Option, Some, ap, length, map, slice_get, subst, sym, ◌∙◌}
use Rattle.std.proofs.lemmas.Result.{IfOk-weaker}
use Rattle.lra_operations.specs.TreeViews.{site_view}
use Rattle.lra_back.specs.Crates.lra_path_segments.TreeSegmentViews.{seen}
use Rattle.lra_back.specs.{BackwardAnalysis.AreWide, BackwardAnalysis.BackwardAnalysis, BackwardCalls.IsBackwardSolution, BackwardCalls.task_view, Operations.lossy_back_operations}
use Rattle.lra_back.proofs.{BackSteps.all_backs, WideSteps.wide_values}
use Rattle.lra_back.proofs.analysis.trace.Goals as goal

pub returns-clause-traced : goal.returns-clause-traced
returns-clause-traced g c tree needs =
    let m = g.D.Domain.abstraction in
    let b = g.D.Backward.backward_abstraction in
    let globals = c.args.paths.now.globals.now in
    let sites = map site_view c.args.paths.now.sites.now in
    let forward = c.args.forward.now in
    let r = c.in_ok-task.field-0 in
    let of = c.in_ok-task.ensures.of in
    let met = c.in_ok-met.met in
    let gone = subst (λ (f : Option ℕ). IsBackwardSolution (lossy_back_operations m b) (task_view r.task) f met.values.items met.flag) c.note.ensures
    c.in_ok-met.ensures.gone in
    let backs = all_backs m b globals sites (seen c.args.paths.now.segments.items) c.args.point tree r.task forward of.0 of.1 r.exactness c.args.flagged
    met.flag
    met.values.items gone needs (c.in_ok-task.ensures.prepared tree needs) in
    IfOk-weaker c.finish.result _ _ (λ found same.
    subst (λ (vs : List g.row.D.Denot). BackwardAnalysis (lossy_back_operations m b) globals sites tree forward c.args.flagged c.args.point vs found.flagged)
    (sym same.0)
    (subst (λ (f : Option ℕ). BackwardAnalysis (lossy_back_operations m b) globals sites tree forward c.args.flagged c.args.point met.values.items f)
    (sym same.1) backs))
    c.finish.ensures.same

pub returns-clause-wide : goal.returns-clause-wide
returns-clause-wide g c =
    let m = g.D.Domain.abstraction in
    let sites = map site_view c.args.paths.now.sites.now in
    let of = c.in_ok-task.ensures.of in
    let met = c.in_ok-met.ensures in
    let wide = wide_values m sites c.args.forward.now c.in_ok-met.met.values.items c.requires.1.wide (met.count ∙ ap length of.0)
    (λ p x v there at. met.dims p x v (subst (λ (xs : List g.row.D.Denot). slice_get xs p ≡ Some x) (sym of.0) there) at) in
    IfOk-weaker c.finish.result _ _ (λ found same. subst (λ (vs : List g.row.D.Denot). AreWide m sites vs) (sym same.0) wide) c.finish.ensures.same
