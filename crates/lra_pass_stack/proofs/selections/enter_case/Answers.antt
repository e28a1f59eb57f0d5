-- Goals of `enter_case`: what is left of a copy of the value if what is seen has this number.
use Rattle.std.proofs.Common.{◌≤◌, ◌∙◌, sym, subst, ap, true}
use Rattle.lra_pass_stack.specs.Crates.{lra_analysis_spec.Linearization.LinearizedFits, lra_analysis_spec.LiveLimit.most_live, lra_analysis_spec.MovesOf.number_moves, lra_transfer.Changes.Does}
use Rattle.lra_pass_stack.proofs.selections.enter_case.Goals as goal

pub filter_number-requires-clause-few : goal.filter_number-requires-clause-few
filter_number-requires-clause-few g c = subst (λ v. g.D.Domain.abstraction.dims v ≤ most_live) (sym c.in_ok-value.ensures) c.requires.few

pub filter_number-requires-clause-width : goal.filter_number-requires-clause-width
filter_number-requires-clause-width g c =
    subst (λ v. LinearizedFits c.args.seen.now (g.D.Domain.abstraction.dims v)) (sym c.in_ok-value.ensures) c.requires.width

pub returns-clause-leaves : goal.returns-clause-leaves
returns-clause-leaves g c =
    let m = g.D.Domain.abstraction in
    subst (λ v. Does m (number_moves (m.dims v) true c.args.seen.now c.args.number.now) v c.in_ok-exactness.exactness c.filter_number.new.value)
    c.in_ok-value.ensures
    c.in_ok-exactness.ensures.leaves

pub returns-clause-dims : goal.returns-clause-dims
returns-clause-dims g c = c.in_ok-exactness.ensures.dims ∙ ap g.D.Domain.abstraction.dims c.in_ok-value.ensures
