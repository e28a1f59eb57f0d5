-- Goals of `combine`: what is made of two sets.
use Rattle.lra_calc.specs.MadeSets.{combined_sets, CombiningStrains}
use Rattle.lra_calc.proofs.MakingLemmas.{made_as_told}
use Rattle.lra_calc.proofs.making.combine.Goals as goal

pub returns-clause-made : goal.returns-clause-made
returns-clause-made c =
    let p = c.args.first.now in
    let q = c.args.second.now in
    let becomes = rw c.in_ok-set.ensures at c.in_ok-outcome.ensures in
    made_as_told p.dims (combined_sets c.args.how p.dims p q) (CombiningStrains c.args.how p q) c.combine_into.new.set c.make_with.result.polyhedron c.in_ok-outcome.outcome
    c.make_with.result.is_flagged
    c.make_with.ensures.polyhedron c.make_with.ensures.flagged c.make_with.ensures.formed becomes
