-- Goals of `compose`: the row over the symbols of a row over variables.
use Rattle.std.proofs.Common.{rules, arith, suc, ◌+◌, ◌<◌, inl, inr, sym, ◌∙◌, ap, ◌-◌, List, ℤ, length, subst, FitsSigned}
use Rattle.std.proofs.lemmas.Int.{to_z-of_z}
use Rattle.std.specs.{Int.w128, List.All, Prelude.slice_set}
use Rattle.lra_certificate_lines.specs.Crates.{lra_linear_spec.Range.InRange, lra_linear_spec.Vectors.zeros}
use Rattle.lra_certificate_lines.proofs.WalkSteps.{begun, first_in, goes_on, passes_on, ends}
use Rattle.lra_certificate_lines.proofs.symbolic.compose.Goals.{then-columns-test+else-place-width, else-columns-test}
use Rattle.lra_certificate_lines.proofs.symbolic.compose.Goals as goal

pub columns-init : goal.columns-init
columns-init c =
    let fk : FitsSigned w128 c.get.result = search rules in
    let is = c.in_ok-sum.ensures ∙ ap (λ (z : ℤ). slice_set (zeros (suc (c.args.width - 1))) 0 z) (to_z-of_z w128 c.get.result fk) in
    let b = begun c.args.width c.args.row.now c.args.forms.now c.in_ok-sum.sum c.get.result c.requires.some c.requires.row c.get.ensures.entry is in
    record {
      so_far = b.0;
      width = b.1;
      in_range = subst (λ (xs : List ℤ). All InRange xs) (sym is) (first_in (c.args.width - 1) c.get.result c.get.ensures.in_range);
    }

pub columns-preserved : goal.columns-preserved
columns-preserved c =
    let fk : FitsSigned w128 c.get-in-columns.result = search rules in
    let w = c.width.ensures in
    let i = c.if-place-width.true in
    let inside : c.columns.place + 1 < length c.args.row.now = omega (arith, w, i) in
    let made = simp to_z-of_z at c.in-Ok.ensures.made in
    record {
      so_far = goes_on c.args.width c.args.row.now c.args.forms.now c.columns.place c.columns.sum c.columns.invariant.so_far c.get-in-columns.result
          c.index-forms-place.result c.columns-test.true inside c.get-in-columns.ensures.entry c.index-forms-place.is c.in-Ok.next made;
      width = c.in-Ok.ensures.width ∙ ap (λ (x : List ℤ). length x) c.index-forms-place.is ∙
          c.requires.forms c.columns.place c.index-forms-place.result c.columns-test.true;
      in_range = c.in-Ok.ensures.in_range;
    }

pub returns-in-Err-clause-excess : goal.returns-in-Err-clause-excess
returns-in-Err-clause-excess c =
    let fk : FitsSigned w128 c.get-in-columns.result = search rules in
    let w = c.width.ensures in
    let i = c.if-place-width.true in
    let inside : c.columns.place + 1 < length c.args.row.now = omega (arith, w, i) in
    let past = simp to_z-of_z at c.in-Err.ensures.excess in
    passes_on c.args.width c.args.row.now c.args.forms.now c.columns.place c.columns.sum c.columns.invariant.so_far c.get-in-columns.result
    c.index-forms-place.result c.columns-test.true inside c.get-in-columns.ensures.entry c.index-forms-place.is c.in-Err.error past

pub returns-clause-made : goal.returns-clause-made
returns-clause-made c = elim c.columns-test.branch [
  | then-columns-test+else-place-width w ↦
      ends c.args.width c.args.row.now c.args.forms.now c.columns.place c.columns.sum c.columns.invariant.so_far
      (inr (let h = w.if-place-width.false in let k = w.width.ensures in omega (arith, h, k)))
  | else-columns-test w ↦
      ends c.args.width c.args.row.now c.args.forms.now c.columns.place c.columns.sum c.columns.invariant.so_far
      (inl (let h = w.columns-test.false in omega (arith, h)))
]
