-- Goals of `map_set`: the set mapped by the form, its constant first, in place of the coordinate of this number,
-- from 1.
use Rattle.std.proofs.Common.{arith, ◌≡◌, ◌-◌, ℕ, suc, subst}
use Rattle.lra_calc.specs.Crates.{lra_linear_forms.Form.form_row, lra_poly.Outcomes.Becomes}
use Rattle.lra_calc.specs.MadeSets.{mapped_set, MappingStrains}
use Rattle.lra_calc.proofs.MakingLemmas.{made_as_told}
use Rattle.lra_calc.proofs.making.map_set.Goals as goal

pub returns-clause-made : goal.returns-clause-made
returns-clause-made c =
    let p = c.args.from.now in
    let how = c.args.how in
    let k = c.args.coordinate in
    let row = form_row c.args.form.now in
    let new = c.map_into.new.set in
    let o = c.in_ok-outcome.outcome in
    let column : suc (k - 1) ≡ k = omega (arith, c.requires.least) in
    let becomes = subst (λ (j : ℕ). Becomes p.dims (mapped_set how p.dims j row p) (MappingStrains how j row p) new o) column
    (rw c.in_ok-set.ensures at c.in_ok-outcome.ensures) in
    made_as_told p.dims (mapped_set how p.dims k row p) (MappingStrains how k row p) new c.make_with.result.polyhedron o c.make_with.result.is_flagged
    c.make_with.ensures.polyhedron c.make_with.ensures.flagged c.make_with.ensures.formed becomes
