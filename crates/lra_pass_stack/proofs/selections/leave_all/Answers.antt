-- Goals of `leave_all`: what is left of the value if no label names what is seen.
use Rattle.std.proofs.{Common.rules, Common.◌≡◌, Common.◌∷◌, Common.◌≤◌, Common.ℕ, Common.sym, Common.subst, lemmas.List.nil_from_length}
use Rattle.lra_pass_stack.specs.Crates.{lra_analysis_spec.Linearization.LinearizedFits, lra_analysis_spec.LiveLimit.most_live}
use Rattle.lra_pass_stack.proofs.SelectFrames.{none_starts, none_next, none_ends}
use Rattle.lra_pass_stack.proofs.selections.leave_all.Goals as goal

pub arms-init : goal.arms-init
arms-init g c = none_starts g.D.Domain.abstraction c.args.seen.now c.args.arms.now c.args.value.now

pub leave_arm-requires-clause-few : goal.leave_arm-requires-clause-few
leave_arm-requires-clause-few g c = subst (λ (n : ℕ). n ≤ most_live) (sym c.arms.invariant.dims) c.requires.few

pub leave_arm-requires-clause-width : goal.leave_arm-requires-clause-width
leave_arm-requires-clause-width g c = subst (λ (n : ℕ). LinearizedFits c.args.seen.now n) (sym c.arms.invariant.dims) c.requires.width

pub arms-preserved : goal.arms-preserved
arms-preserved g c =
    let first : c.arms.left.now ≡ c.in-Some.arm.now ∷ c.in-Some.behind.now = search rules in
    let one = c.in_ok-exactness.ensures in
    none_next g.D.Domain.abstraction c.args.seen.now c.args.arms.now c.args.value.now c.arms.left.now c.in-Some.behind.now c.in-Some.arm.now c.arms.value
    c.leave_arm.new.value c.arms.exactness c.in_ok-exactness.exactness first c.arms.invariant (λ base e h last all same. one.leaves base e h last all same)
    one.dims

pub returns-clause-leaves : goal.returns-clause-leaves
returns-clause-leaves g c base e same =
    let none = nil_from_length c.arms.left.now c.in_default.ensures.cases in
    none_ends g.D.Domain.abstraction c.args.seen.now c.args.arms.now c.args.value.now c.arms.left.now c.arms.value c.arms.exactness none c.arms.invariant base e
    same

pub returns-clause-dims : goal.returns-clause-dims
returns-clause-dims g c = c.arms.invariant.dims
