-- Goals of `shape_of_form`: the shape of the form with these coefficients.
use Rattle.std.proofs.Common.{rules, arith, ◌≡◌, [], ◌∷◌, to_z, of_z}
use Rattle.std.proofs.{lemmas.List.nil_from_length, lemmas.List.Elements.All-cons, lemmas.List.Elements.All-nil}
use Rattle.std.specs.Int.{w64, w128}
use Rattle.lra_linear_spec.specs.Range.{InRange}
use Rattle.lra_octagon.specs.Forms.{terms_from}
use Rattle.lra_octagon.proofs.FormLemmas.{read_all, read_more, shape_fits}
use Rattle.lra_octagon.proofs.form_bounds.shape_of_form.Goals as goal

-- as in `classify`, with coefficients that are made wide
pub loop-coefficient-preserved : goal.loop-coefficient-preserved
loop-coefficient-preserved c =
    let left : c.loop-coefficient.left.now ≡ c.in-Some.coefficient.now ∷ c.in-Some.later.now = search rules in
    let places = rw left at c.loop-coefficient.invariant.places in
    let wide : to_z w128 (of_z w128 (to_z w64 (of_z w64 c.in-Some.coefficient.now))) ≡ c.in-Some.coefficient.now = search rules in
    let own : InRange c.in-Some.coefficient.now = search rules in
    let range = rw left at c.loop-coefficient.invariant.range in
    record {
      places = omega arith;
      read = read_more c.loop-coefficient.shape c.with_coefficient-shape.result (terms_from 0 c.args.coefficients.now) c.loop-coefficient.k
          c.in-Some.coefficient.now c.in-Some.later.now (rw wide at c.with_coefficient-shape.ensures) (rw left at c.loop-coefficient.invariant.read);
      range = λ later. range (All-cons InRange c.in-Some.coefficient.now c.in-Some.later.now own later);
    }

pub returns-clause-fits : goal.returns-clause-fits
returns-clause-fits c =
    let nil : c.loop-coefficient.left.now ≡ [] = nil_from_length _ c.in_default.ensures.cases in
    let read = rw nil at c.loop-coefficient.invariant.read in
    let range = rw nil at c.loop-coefficient.invariant.range in
    shape_fits c.args.coefficients.now c.loop-coefficient.shape (read_all c.loop-coefficient.shape (terms_from 0 c.args.coefficients.now) read)
    (range (All-nil InRange))
