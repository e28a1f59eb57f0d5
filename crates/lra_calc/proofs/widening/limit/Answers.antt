-- Goals of `limit`: the first set widened by the second, with those of the given constraints that are valid on
-- both.
use Rattle.std.proofs.Common.{List, map, subst, Ok}
use Rattle.lra_calc.specs.Crates.lra_linear_spec.Widening.{LimitedWidening}
use Rattle.lra_calc.specs.Crates.{lra_linear_spec.Descriptions.LinearRow, lra_linear_spec.OperationStrain.LimitedStrains, lra_systems.LinearSystems.constraints}
use Rattle.lra_script.specs.Views.{constraint_of}
use Rattle.lra_calc.specs.{MadeSets.IsLimited, Script.Widens, Views.made_of}
use Rattle.lra_calc.proofs.WidenLemmas.{made_widens, outside_widens, refusal_placed}
use Rattle.lra_calc.proofs.widening.limit.Goals as goal

pub returns-in-Ok-clause-gives : goal.returns-in-Ok-clause-gives
returns-in-Ok-clause-gives c =
    let p = c.args.first.now in
    let q = c.args.second.now in
    let given = constraints c.in_ok-given.given in
    subst (λ (gs : List LinearRow). Widens p.dims p q (IsLimited p.dims gs p q) (Ok (made_of c.make_with.result))) c.in_ok-given.ensures.made
    (made_widens p q c.in-Ok.polyhedron c.make_with.result.polyhedron (LimitedWidening p q given) (LimitedStrains p q given) c.in-Ok.outcome c.make_with.result.is_flagged
    c.make_with.ensures.polyhedron
    c.make_with.ensures.flagged c.make_with.ensures.formed c.in-Ok.ensures.becomes c.in-Ok.ensures.known)

pub tell_outside-requires-clause-placed : goal.tell_outside-requires-clause-placed
tell_outside-requires-clause-placed c = refusal_placed c.args.first.now c.args.second.now c.in-Err.error c.in-Err.ensures.refused

pub returns-clause-gives : goal.returns-clause-gives
returns-clause-gives c =
    let p = c.args.first.now in
    let q = c.args.second.now in
    outside_widens p q (IsLimited p.dims (map constraint_of c.args.given.now) p q) c.in-Err.error c.tell_outside.result c.in-Err.ensures.refused c.tell_outside.ensures
