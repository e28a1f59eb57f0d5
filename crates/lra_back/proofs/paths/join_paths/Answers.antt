-- Goals of `join_paths`: what the paths bring back comes to what is joined so far, one after the other.
use Rattle.std.proofs.Common.{◌+◌, add-one}
use Rattle.lra_back.specs.Crates.lra_path_disjuncts.TableDisjuncts.{all_done, lists_done}
use Rattle.lra_back.specs.Operations.{lossy_back_operations}
use Rattle.lra_back.proofs.Crates.lra_linear_spec.ListPlaces.{contains_at}
use Rattle.lra_back.proofs.{JoinSteps.first_comes, JoinSteps.last_comes, JoinSteps.next_comes, PathSteps.mapped_past, PathSteps.read_mapped}
use Rattle.lra_back.proofs.paths.join_paths.Goals as goal

pub paths-init : goal.paths-init
paths-init g c = record {
  still = first_comes (lossy_back_operations g.D.Domain.abstraction g.D.Backward.backward_abstraction) c.args.forward.now c.args.target.now
      (lists_done c.args.paths.now)
      c.args.so_far.value c.args.so_far.exactness;
  has = c.requires.so_far;
}

pub join_path-requires-clause-fits : goal.join_path-requires-clause-fits
join_path-requires-clause-fits g c =
    let paths = c.args.paths.now in
    let i = c.paths.path-index in
    let at = read_mapped (λ v. all_done v.items) paths i c.path-item.result c.paths-test.true c.path-item.is in
    rw c.as_slice.ensures.value (c.requires.fit (all_done c.path-item.result.items) (contains_at (lists_done paths) i (all_done c.path-item.result.items) at))

pub paths-preserved : goal.paths-preserved
paths-preserved g c =
    let paths = c.args.paths.now in
    let i = c.paths.path-index in
    let at = read_mapped (λ v. all_done v.items) paths i c.path-item.result c.paths-test.true c.path-item.is in
    let joined = c.in_ok-joined.joined in
    record {
      still = next_comes (lossy_back_operations g.D.Domain.abstraction g.D.Backward.backward_abstraction) c.args.forward.now c.args.target.now
          (lists_done paths)
          c.args.so_far.value c.args.so_far.exactness i (i + 1) (all_done c.path-item.result.items)
          c.paths.joined.value c.paths.joined.exactness joined.exactness
          joined.value (add-one i) at c.paths.invariant.still (rw c.as_slice.ensures.value at c.in_ok-joined.ensures.joins);
      has = c.in_ok-joined.ensures.dims;
    }

pub returns-clause-joins : goal.returns-clause-joins
returns-clause-joins g c =
    let paths = lists_done c.args.paths.now in
    last_comes (lossy_back_operations g.D.Domain.abstraction g.D.Backward.backward_abstraction) c.args.forward.now c.args.target.now paths c.args.so_far.value
    c.args.so_far.exactness
    c.paths.path-index c.paths.joined.value c.paths.joined.exactness
    (mapped_past (λ v. all_done v.items) c.args.paths.now c.paths.path-index c.paths-test.false) c.paths.invariant.still
