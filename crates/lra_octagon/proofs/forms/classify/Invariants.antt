use Rattle.std.proofs.Common.{◌≡◌, ◌+◌, length}
use Rattle.lra_octagon.specs.Forms.{terms_from}
use Rattle.lra_octagon.proofs.FormLemmas.{ShapeRead}
use Rattle.lra_octagon.proofs.forms.classify.Given as goal

abbrev pub invariant-loop-factor : goal.invariant-loop-factor
invariant-loop-factor l = record {
  places : l.k + length l.left ≡ length l.factors;
  read : ShapeRead l.shape (terms_from 0 l.factors) (terms_from l.k l.left);
}

abbrev pub decreases-loop-factor : goal.decreases-loop-factor
decreases-loop-factor l = length l.left
