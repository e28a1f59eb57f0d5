-- Goals of `push_number`: the comparison of what is seen with the number.
use Rattle.std.proofs.Common.{refl}
use Rattle.lra_transfer.proofs.ChangeSteps.{number_fits}
use Rattle.lra_path_disjuncts.proofs.LabelSteps.{number_has}
use Rattle.lra_path_disjuncts.specs.Crates.lra_base.OperatorViews.{comparison_view}
use Rattle.lra_path_disjuncts.proofs.selections.push_number.Goals as goal

pub push_comparison-requires-clause-width : goal.push_comparison-requires-clause-width
push_comparison-requires-clause-width c = number_fits c.args.live c.args.live c.args.seen.now c.in_ok-difference.difference c.args.number.now
    refl c.requires.width c.in_ok-difference.ensures

pub returns-clause-has : goal.returns-clause-has
returns-clause-has c = number_has c.push_comparison.result c.push_comparison.new.entries.items c.args.live c.args.wanted c.args.seen.now
    c.in_ok-difference.difference c.args.number.now (comparison_view c.comparison_where-op.result) c.comparison_where-op.ensures
    c.in_ok-difference.ensures c.push_comparison.ensures.has
