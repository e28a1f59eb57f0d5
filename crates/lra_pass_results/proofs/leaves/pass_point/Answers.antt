-- Goals of `pass_point`: the value is found after what was found before it.
use Rattle.std.proofs.Common.{[], ◌∷◌, ap, refl}
use Rattle.lra_pass_results.specs.Crates.{lra_analysis_spec.Pass.value, lra_domain.Interference.no_interference}
use Rattle.lra_operations.specs.Tree.{point}
use Rattle.lra_pass_results.proofs.LeafSteps.{entry_more, goes_further}
use Rattle.lra_pass_results.proofs.leaves.pass_point.Goals as goal

pub returns : goal.returns
returns g c plan =
    let so_far = c.args.so_far.now in
    let at = c.args.point in
    goes_further no_interference g.D.Domain.abstraction plan so_far (point at) c.push.new.self (value at so_far.normal ∷ []) so_far.normal
    so_far.flag (entry_more so_far.found.entries.items c.push.new.self.items _ _ c.in_ok-push.ensures.items
    (ap (value at) c.in_ok-value.ensures)) refl refl
