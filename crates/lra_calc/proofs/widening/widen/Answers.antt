-- Goals of `widen`: the first set widened by the second.
use Rattle.lra_calc.specs.Crates.{lra_linear_spec.OperationStrain.StandardStrains, lra_linear_spec.Widening.StandardWidening}
use Rattle.lra_calc.specs.MadeSets.{IsWidened}
use Rattle.lra_calc.proofs.WidenLemmas.{made_widens, outside_widens, refusal_placed}
use Rattle.lra_calc.proofs.widening.widen.Goals as goal

pub returns-in-Ok-clause-gives : goal.returns-in-Ok-clause-gives
returns-in-Ok-clause-gives c =
    let p = c.args.first.now in
    let q = c.args.second.now in
    made_widens p q c.in-Ok.polyhedron c.make_with.result.polyhedron (StandardWidening p q) (StandardStrains p q) c.in-Ok.outcome c.make_with.result.is_flagged c.make_with.ensures.polyhedron
    c.make_with.ensures.flagged c.make_with.ensures.formed c.in-Ok.ensures.becomes c.in-Ok.ensures.known

pub tell_outside-requires-clause-placed : goal.tell_outside-requires-clause-placed
tell_outside-requires-clause-placed c = refusal_placed c.args.first.now c.args.second.now c.in-Err.error c.in-Err.ensures.refused

pub returns-in-Err-clause-gives : goal.returns-in-Err-clause-gives
returns-in-Err-clause-gives c =
    let p = c.args.first.now in
    let q = c.args.second.now in
    outside_widens p q (IsWidened p.dims p q) c.in-Err.error c.tell_outside.result c.in-Err.ensures.refused c.tell_outside.ensures
