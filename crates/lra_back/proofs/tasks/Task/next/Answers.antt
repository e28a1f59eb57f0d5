-- Goals of `next`: the next value of the point.
use Rattle.std.proofs.{Common.◌<◌, Common.◌≤◌, Common.◌^◌, Common.None, Common.Option, Common.arith, Common.get_or, Common.length, Common.subst, Common.sym, Common.◌∙◌, lemmas.Option.slice_get-get_or}
use Rattle.lra_back.specs.Crates.lra_analysis_spec.Pass.{RunsFrom}
use Rattle.lra_paths.specs.declared.sources.Source.{Source}
use Rattle.lra_back.specs.{BackwardCalls.IfThereHas, BackwardCalls.paths_at, BackwardCalls.task_view, Operations.lossy_back_operations, Preconditions.PreOfAllPoints, Rounds.seed_at}
use Rattle.lra_back.proofs.{BackSteps.heads_fit, BackSteps.seed_has, JoinSteps.next_value, PathSteps.read_at}
use Rattle.lra_back.proofs.tasks.Task.next.Goals as goal

pub pre_of_all_points-requires-clause-writable : goal.pre_of_all_points-requires-clause-writable
pre_of_all_points-requires-clause-writable g c =
    let t = c.args.self.now in
    let p = c.args.point in
    let count = c.requires.task.count in
    let inside : p < length t.sources.items = omega (arith, count, c.requires.point) in
    c.requires.task.writable p c.index.result.now (read_at t.sources.items p c.index.result.now inside c.index.ensures)

pub pre_of_all_points-requires-clause-fit : goal.pre_of_all_points-requires-clause-fit
pre_of_all_points-requires-clause-fit g c =
    let t = c.args.self.now in
    let p = c.args.point in
    let x = get_or t.forward.now p c.index-self-point.result in
    let count = c.requires.task.count in
    let inside : p < length t.sources.items = omega (arith, count, c.requires.point) in
    heads_fit g.D.Domain.abstraction t p c.index.result.now x c.args.heads.now c.requires.task c.requires.heads
    (read_at t.sources.items p c.index.result.now inside c.index.ensures) (slice_get-get_or t.forward.now p c.index-self-point.result c.requires.point)

pub join_seed-requires : goal.join_seed-requires
join_seed-requires g c here =
    let m = g.D.Domain.abstraction in
    let t = c.args.self.now in
    let p = c.args.point in
    let x = get_or t.forward.now p c.index-self-point.result in
    let at = slice_get-get_or t.forward.now p c.index-self-point.result c.requires.point in
    subst (λ n. IfThereHas m n c.in_ok-joined.joined.value) (sym (seed_has m t p x c.requires.task at here)) c.in_ok-joined.ensures.dims

pub or_empty-requires-clause-few : goal.or_empty-requires-clause-few
or_empty-requires-clause-few g c =
    let t = c.args.self.now in
    let p = c.args.point in
    let x = get_or t.forward.now p c.index-self-point.result in
    subst (λ n. n ≤ 2 ^ 30) (sym c.dims.ensures)
    (c.requires.task.few p x (slice_get-get_or t.forward.now p c.index-self-point.result c.requires.point))

pub or_empty-requires-clause-has : goal.or_empty-requires-clause-has
or_empty-requires-clause-has g c =
    let m = g.D.Domain.abstraction in
    let t = c.args.self.now in
    let p = c.args.point in
    let x = get_or t.forward.now p c.index-self-point.result in
    let at = slice_get-get_or t.forward.now p c.index-self-point.result c.requires.point in
    subst (λ n. IfThereHas m n c.in_ok-value.field-0.value) (sym c.dims.ensures)
    (c.in_ok-value.ensures.dims (m.dims x) c.in_ok-joined.ensures.dims (λ here. seed_has m t p x c.requires.task at here))

pub returns-clause-next : goal.returns-clause-next
returns-clause-next g c =
    let ops = lossy_back_operations g.D.Domain.abstraction g.D.Backward.backward_abstraction in
    let t = c.args.self.now in
    let p = c.args.point in
    let heads = c.args.heads.now in
    let x = get_or t.forward.now p c.index-self-point.result in
    let at = slice_get-get_or t.forward.now p c.index-self-point.result c.requires.point in
    let count = c.requires.task.count in
    let inside : p < length t.sources.items = omega (arith, count, c.requires.point) in
    let source = read_at t.sources.items p c.index.result.now inside c.index.ensures in
    let joined = c.in_ok-joined.joined in
    let all = c.in_ok-value.field-0 in
    let come = subst (λ (o : Option Source). PreOfAllPoints ops (λ q. paths_at o q) x 0 heads None joined.exactness joined.value) (sym source)
    c.in_ok-joined.ensures.comes in
    let runs = subst (λ n. RunsFrom ops.forward n 1 all.value c.in_ok-value-2.value) c.dims.ensures c.in_ok-value-2.ensures.runs in (
      x,
      at,
      next_value ops x ((task_view t).paths p) (seed_at (task_view t) p) heads joined.value all.value joined.exactness all.exactness
          c.in_ok-value-2.value come c.in_ok-value.ensures.joins runs,
    )

pub returns-clause-dims : goal.returns-clause-dims
returns-clause-dims g c h there =
    let t = c.args.self.now in
    let p = c.args.point in
    let x = get_or t.forward.now p c.index-self-point.result in
    let at = slice_get-get_or t.forward.now p c.index-self-point.result c.requires.point in
    c.in_ok-value-2.ensures.dims ∙ c.dims.ensures ∙ sym (c.requires.heads.dims p h x there at)
