use Rattle.std.proofs.Common.{◌≡◌, ◌+◌, length}
use Rattle.std.specs.List.{All}
use Rattle.lra_linear_spec.specs.Range.{InRange}
use Rattle.lra_octagon.specs.Forms.{terms_from}
use Rattle.lra_octagon.proofs.FormLemmas.{ShapeRead}
use Rattle.lra_octagon.proofs.form_bounds.shape_of_form.Given as goal

abbrev pub invariant-loop-coefficient : goal.invariant-loop-coefficient
invariant-loop-coefficient l = record {
  places : l.k + length l.left ≡ length l.coefficients;
  read : ShapeRead l.shape (terms_from 0 l.coefficients) (terms_from l.k l.left);
  range : All InRange l.left → All InRange l.coefficients;
}

abbrev pub decreases-loop-coefficient : goal.decreases-loop-coefficient
decreases-loop-coefficient l = length l.left
