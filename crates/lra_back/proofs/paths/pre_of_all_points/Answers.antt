-- Goals of `pre_of_all_points`: what a source's paths bring back from the heads of all points.
use Rattle.std.proofs.Common.{◌+◌, List, add-one, subst, sym}
use Rattle.lra_domain.specs.Actions.{Action}
use Rattle.lra_back.specs.{BackwardCalls.AllFit, BackwardCalls.paths_from, Operations.lossy_back_operations, Preconditions.PreOfPaths}
use Rattle.lra_back.proofs.{JoinSteps.first_from, JoinSteps.last_from, JoinSteps.next_from, PathSteps.read_at}
use Rattle.lra_back.proofs.paths.pre_of_all_points.Goals as goal

pub targets-init : goal.targets-init
targets-init g c = record {
  still = first_from (lossy_back_operations g.D.Domain.abstraction g.D.Backward.backward_abstraction) c.args.forward.now (paths_from c.args.source.now)
      c.args.heads.now;
  has = tt;
}

pub paths_to-requires : goal.paths_to-requires
paths_to-requires g c = record { table = c.requires.writable.table; few = c.requires.writable.few c.targets.point }

pub join_paths-requires-clause-fit : goal.join_paths-requires-clause-fit
join_paths-requires-clause-fit g c =
    let m = g.D.Domain.abstraction in
    let i = c.targets.point in
    let at = read_at c.args.heads.now i c.index-heads-point.result c.targets-test.true c.index-heads-point.is in
    rw c.as_slice.ensures.value (subst (λ (xs : List (List Action)). AllFit xs (m.dims c.args.forward.now) (m.head_dims c.index-heads-point.result))
    (sym c.in_ok-paths.ensures) (c.requires.fit i c.index-heads-point.result at))

pub targets-preserved : goal.targets-preserved
targets-preserved g c =
    let ops = lossy_back_operations g.D.Domain.abstraction g.D.Backward.backward_abstraction in
    let i = c.targets.point in
    let at = read_at c.args.heads.now i c.index-heads-point.result c.targets-test.true c.index-heads-point.is in
    let by = rw c.as_slice.ensures.value at c.in_ok-joined.ensures.joins in
    let joined = c.in_ok-joined.joined in
    record {
      still = next_from ops c.args.forward.now (paths_from c.args.source.now) c.args.heads.now i (i + 1) c.index-heads-point.result c.targets.joined.value
          c.targets.joined.exactness joined.exactness joined.value (add-one i) at c.targets.invariant.still (
            by.0,
            subst (λ (xs : List (List Action)). PreOfPaths ops c.args.forward.now c.index-heads-point.result xs c.targets.joined.value by.0 joined.value)
                c.in_ok-paths.ensures by.1,
            by.2,
          );
      has = c.in_ok-joined.ensures.dims;
    }

pub returns-clause-comes : goal.returns-clause-comes
returns-clause-comes g c =
    last_from (lossy_back_operations g.D.Domain.abstraction g.D.Backward.backward_abstraction) c.args.forward.now (paths_from c.args.source.now)
    c.args.heads.now c.targets.point
    c.targets.joined.value c.targets.joined.exactness c.targets-test.false c.targets.invariant.still
