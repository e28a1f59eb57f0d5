-- Goals of `pass_leaf`: nothing is found before it.
use Rattle.lra_pass_results.specs.Crates.lra_domain.Interference.{no_interference}
use Rattle.lra_pass_results.specs.TreeForms.{leaf_view}
use Rattle.lra_pass_results.proofs.LeafSteps.{passed_alone}
use Rattle.lra_pass_results.proofs.leaves.pass_leaf.Goals as goal

pub returns : goal.returns
returns g c =
    let begun = c.nothing_yet-outcome.ensures in
    passed_alone no_interference g.D.Domain.abstraction c.args.plan.now c.nothing_yet-outcome.result (leaf_view c.args.leaf.now) c.pass_on.new.so_far
    c.args.flag c.args.value begun.found begun.normal begun.flag c.in_ok-pass_on.ensures
