-- Goals of `classify`: the shape of the form with these coefficients.
use Rattle.std.proofs.{Common.rules, Common.arith, Common.◌≡◌, Common.◌∷◌, Common.FitsSigned, lemmas.Int.to_z-of_z}
use Rattle.std.specs.Int.{w128}
use Rattle.lra_octagon.specs.Forms.{terms_from}
use Rattle.lra_octagon.proofs.FormLemmas.{read_more}
use Rattle.lra_octagon.proofs.forms.classify.Goals as goal

pub loop-factor-preserved : goal.loop-factor-preserved
loop-factor-preserved c =
    let left : c.loop-factor.left.now ≡ c.in-Some.factor.now ∷ c.in-Some.later.now = search rules in
    let places = rw left at c.loop-factor.invariant.places in
    let fit : FitsSigned w128 c.in-Some.factor.now = search rules in
    record {
      places = omega arith;
      read = read_more c.loop-factor.shape c.with_coefficient-shape.result (terms_from 0 c.args.factors.now) c.loop-factor.k c.in-Some.factor.now c.in-Some.later.now
          (rw (to_z-of_z w128 c.in-Some.factor.now fit) at c.with_coefficient-shape.ensures) (rw left at c.loop-factor.invariant.read);
    }
