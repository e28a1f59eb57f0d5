-- Goals of the functions that call each other around `push_all_of`: `returns`.
use Rattle.std.proofs.Common.{rules, ◌≡◌, ◌∷◌, refl}
use Rattle.lra_transfer.proofs.changes.+push_all_of.Goals as goal

pub returns-clause-pushes : goal.returns-clause-pushes
returns-clause-pushes g t c =
    let rest : c.args.arguments.now ≡ c.in-Some.first.now ∷ c.in-Some.later.now = search rules in
    let others = rw c.in_ok-one.ensures.dims at c.in_ok-others.ensures.pushes in
    rw (rest, c.worse.ensures.is) (c.push_one.new.value, c.in_ok-one.one, c.in_ok-others.others, c.in_ok-one.ensures.pushes, others, refl)
