-- Goals of `Row::substitute`: the row with the entry of column `x` times the form in place of `x`.
use Rattle.std.proofs.Common.{arith, ◌≡◌, ◌∙◌, ap, List, ℤ, sym, rules, FitsSigned, subst, Result}
use Rattle.std.proofs.{lemmas.Int.to_z-of_z, lemmas.Result.IfOk-weaker, lemmas.Result.IfErr-weaker}
use Rattle.std.specs.Int.{w128}
use Rattle.lra_linear_spec.specs.{CheckedArithmetic.checked_substitution, Vectors.entry, Vectors.product, Vectors.cleared, declared.Excess.Excess}
use Rattle.lra_row.specs.Rows.{substitution_operations, IsExcessOf}
use Rattle.lra_row.proofs.{Combination.substitution_read, Combination.substitution_checked, FirstPassing.names_added, FirstPassing.names_result}
use Rattle.lra_linear_spec.proofs.SetOperations.{substituted_product}
use Rattle.lra_row.proofs.row.Row.substitute.Goals as goal

pub returns-clause-assigns : goal.returns-clause-assigns
returns-clause-assigns c =
    let x = c.args.x in
    let row = c.args.self.now in
    let form = c.args.form.now in
    let fe : FitsSigned w128 c.get.result = search rules in
    let r : c.clear.new.self ≡ cleared x row = c.clear.ensures.cleared ∙ ap (cleared x) c.in_ok-rest.ensures in
    let v = simp to_z-of_z at c.blend.ensures.value in
    IfOk-weaker c.blend.result _ _ (λ out e u k. ap (λ (z : List ℤ). product z u) (e ∙ substitution_read x form row c.clear.new.self c.get.result c.get.ensures.entry r) ∙
    substituted_product x form row u (sym c.requires.width) (omega (arith, k, c.requires.column))) v

pub returns-clause-excess : goal.returns-clause-excess
returns-clause-excess c =
    let x = c.args.x in
    let row = c.args.self.now in
    let form = c.args.form.now in
    let fe : FitsSigned w128 c.get.result = search rules in
    let r : c.clear.new.self ≡ cleared x row = c.clear.ensures.cleared ∙ ap (cleared x) c.in_ok-rest.ensures in
    let q = substitution_checked x form row c.clear.new.self c.get.result c.get.ensures.entry r c.clear.ensures.in_range in
    IfErr-weaker c.blend.result _ _ (λ e h. subst (λ (z : Result (List ℤ) Excess). IsExcessOf z e) q h) (simp to_z-of_z at c.blend.ensures.excess)

pub returns-clause-first : goal.returns-clause-first
returns-clause-first c =
    let x = c.args.x in
    let row = c.args.self.now in
    let form = c.args.form.now in
    let fe : FitsSigned w128 c.get.result = search rules in
    let r : c.clear.new.self ≡ cleared x row = c.clear.ensures.cleared ∙ ap (cleared x) c.in_ok-rest.ensures in
    let q = substitution_checked x form row c.clear.new.self c.get.result c.get.ensures.entry r c.clear.ensures.in_range in
    names_result (substitution_operations x form row) (checked_substitution x form row) c.blend.result (names_added (entry row x) (cleared x row) form)
    (IfOk-weaker c.blend.result _ _ (λ out h. sym q ∙ h) (simp to_z-of_z at c.blend.ensures.made))
    (IfErr-weaker c.blend.result _ _ (λ e h. subst (λ (z : Result (List ℤ) Excess). IsExcessOf z e) q h) (simp to_z-of_z at c.blend.ensures.excess))
