-- Goals of `without_coordinate`: the set with any value of the coordinate of this number, from 1.
use Rattle.std.proofs.Common.{arith, ◌≡◌, ◌-◌, ℕ, suc, subst}
use Rattle.lra_calc.specs.Crates.{lra_linear_spec.Descriptions.Con as points_of, lra_linear_spec.OperationStrain.ForgetStrains, lra_poly.Outcomes.Becomes}
use Rattle.lra_calc.specs.Crates.lra_linear_spec.SetOperations as sets
use Rattle.lra_calc.proofs.MakingLemmas.{made_as_told}
use Rattle.lra_calc.proofs.making.without_coordinate.Goals as goal

pub returns-clause-made : goal.returns-clause-made
returns-clause-made c =
    let p = c.args.from.now in
    let k = c.args.coordinate in
    let new = c.forget.new.p in
    let o = c.in_ok-outcome.outcome in
    let column : suc (k - 1) ≡ k = omega (arith, c.requires.least) in
    let becomes = subst (λ (j : ℕ). Becomes p.dims (sets.Forget p.dims j (points_of p.rows)) (ForgetStrains j p) new o) column
    (rw c.in_ok-set.ensures at c.in_ok-outcome.ensures.becomes) in
    made_as_told p.dims (sets.Forget p.dims k (points_of p.rows)) (ForgetStrains k p) new c.make_with.result.polyhedron o c.make_with.result.is_flagged
    c.make_with.ensures.polyhedron c.make_with.ensures.flagged c.make_with.ensures.formed becomes
