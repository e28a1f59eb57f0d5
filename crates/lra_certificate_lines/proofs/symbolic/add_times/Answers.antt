-- Goals of `add_times`: the sum with so many times the row.
use Rattle.std.proofs.Common.{ℕ, ap, rules, to_z, ◌≡◌, ◌∙◌, sym, subst, refl, length, ℤ, pos, List, FitsSigned, Result, Ok}
use Rattle.std.proofs.{lemmas.Int.to_z-of_z, lemmas.Result.IfOk-weaker, lemmas.Result.IfErr-weaker}
use Rattle.std.specs.Int.{w128}
use Rattle.lra_certificate_lines.specs.Crates.{lra_linear_spec.CheckedArithmetic.checked_added, lra_linear_spec.declared.Excess.Excess}
use Rattle.lra_certificate_lines.proofs.Crates.lra_linear_spec.CheckedArithmetic.{checked_blend_in_range}
use Rattle.lra_row.specs.Rows.{IsExcessOf}
use Rattle.lra_row.proofs.Combination.{blend_added}
use Rattle.lra_certificate_spec.proofs.WalkedRows.{added_value}
use Rattle.lra_certificate_lines.proofs.WalkSteps.{added_nothing}
use Rattle.lra_certificate_lines.proofs.symbolic.add_times.Goals as goal

pub returns-then-factor-eq0-clause-made : goal.returns-then-factor-eq0-clause-made
returns-then-factor-eq0-clause-made c =
    let ff : FitsSigned w128 c.args.factor = search rules in
    let zero : c.args.factor ≡ pos 0 = sym (to_z-of_z w128 c.args.factor ff) ∙ ap (λ (n : ℕ). to_z w128 n) c.if-factor-eq0.true in
    subst (λ (f : ℤ). checked_added f c.args.sum c.args.row.now ≡ Ok c.args.sum) (sym zero)
    (added_nothing c.args.sum c.args.row.now c.requires.in_range c.requires.width)

pub returns-clause-made : goal.returns-clause-made
returns-clause-made c =
    let ff : FitsSigned w128 c.args.factor = search rules in
    IfOk-weaker c.blend.result _ _ (λ out e. sym (blend_added c.args.factor c.args.sum c.args.row.now c.requires.in_range) ∙
    e) (simp to_z-of_z at c.blend.ensures.made)

pub returns-clause-width : goal.returns-clause-width
returns-clause-width c =
    let ff : FitsSigned w128 c.args.factor = search rules in
    IfOk-weaker c.blend.result _ _ (λ out e. (added_value c.args.factor c.args.sum c.args.row.now out (length c.args.row.now) c.requires.width refl
    (sym (blend_added c.args.factor c.args.sum c.args.row.now c.requires.in_range) ∙ e)).0) (simp to_z-of_z at c.blend.ensures.made)

pub returns-clause-in_range : goal.returns-clause-in_range
returns-clause-in_range c =
    let ff : FitsSigned w128 c.args.factor = search rules in
    IfOk-weaker c.blend.result _ _ (λ out e. checked_blend_in_range (pos 1) c.args.factor c.args.sum c.args.row.now out e) (simp to_z-of_z at
    c.blend.ensures.made)

pub returns-clause-excess : goal.returns-clause-excess
returns-clause-excess c =
    let ff : FitsSigned w128 c.args.factor = search rules in
    IfErr-weaker c.blend.result _ _
    (λ e h. subst (λ (z : Result (List ℤ) Excess). IsExcessOf z e) (blend_added c.args.factor c.args.sum c.args.row.now c.requires.in_range) h)
    (simp to_z-of_z at c.blend.ensures.excess)
