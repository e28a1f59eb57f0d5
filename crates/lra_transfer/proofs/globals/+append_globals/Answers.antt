-- Goals of the functions that call each other around `append_globals`: `returns`.
use Rattle.std.proofs.Common.{rules, ◌≡◌, ◌∷◌}
use Rattle.lra_transfer.proofs.GlobalSteps.{appended_all}
use Rattle.lra_transfer.proofs.globals.+append_globals.Goals as goal

pub returns-clause-appends : goal.returns-clause-appends
returns-clause-appends g t c =
    let rest : c.args.globals.now ≡ c.in-Some.first.now ∷ c.in-Some.later.now = search rules in
    rw (rest, c.worse.ensures.is) (appended_all g.D.Domain.abstraction c.in-Some.first.now c.in-Some.later.now c.args.value.now c.append_global.new.value c.append_globals.new.value c.in_ok-one.one
    c.in_ok-others.others
    c.in_ok-one.ensures.appends c.in_ok-one.ensures.dims c.in_ok-others.ensures.appends)
