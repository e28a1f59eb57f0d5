-- Goals of `match_none`: what is left of a copy of the value if no label names what is seen.
use Rattle.std.proofs.Common.{◌≤◌, ◌∙◌, ap, map, subst, sym}
use Rattle.lra_operations.specs.{Tree.entries_of, TreeViews.arm_view, TreeViews.arms_of}
use Rattle.lra_pass_stack.specs.Crates.lra_analysis_spec.Linearization.{LinearizedFits, linearized}
use Rattle.lra_pass_stack.specs.Crates.{lra_analysis_spec.LiveLimit.most_live, lra_analysis_spec.Operations.lossy_operations, lra_analysis_spec.Pass.MatchesNone}
use Rattle.lra_pass_stack.proofs.selections.match_none.Goals as goal

pub leave_all-requires-clause-few : goal.leave_all-requires-clause-few
leave_all-requires-clause-few g c = subst (λ v. g.D.Domain.abstraction.dims v ≤ most_live) (sym c.in_ok-value.ensures) c.requires.few

pub leave_all-requires-clause-width : goal.leave_all-requires-clause-width
leave_all-requires-clause-width g c = subst (λ v. LinearizedFits c.args.seen.now (g.D.Domain.abstraction.dims v)) (sym c.in_ok-value.ensures) c.requires.width

pub returns-clause-leaves : goal.returns-clause-leaves
returns-clause-leaves g c base e same =
    let m = g.D.Domain.abstraction in
    subst (λ v. MatchesNone (lossy_operations m) base e (entries_of (arms_of (map arm_view c.args.arms.now))) v c.in_ok-exactness.exactness
    c.leave_all.new.value)
    c.in_ok-value.ensures
    (c.in_ok-exactness.ensures.leaves base e (same ∙ ap (λ v. linearized (m.dims v) base e) (sym c.in_ok-value.ensures)))

pub returns-clause-dims : goal.returns-clause-dims
returns-clause-dims g c = c.in_ok-exactness.ensures.dims ∙ ap g.D.Domain.abstraction.dims c.in_ok-value.ensures
