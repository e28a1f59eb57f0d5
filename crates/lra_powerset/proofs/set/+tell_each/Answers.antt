-- Goals of the functions that call each other around `tell_each`: `returns`.
use Rattle.std.proofs.{Common.◌≡◌, Common.◌∷◌, Common.arith, lemmas.Grind.common_steps}
use Rattle.lra_powerset.proofs.SetLemmas.{more_tell}
use Rattle.lra_powerset.proofs.set.+tell_each.Goals as goal

pub returns : goal.returns
returns g t c =
    let cut : c.args.parts.now ≡ c.in-Some.first.now ∷ c.in-Some.later.now = grind (arith, common_steps) in
    more_tell g.D.Domain.abstraction c.args.parts.now c.in-Some.first.now c.in-Some.later.now cut c.parts_are_exact.ensures c.tell_each.ensures
