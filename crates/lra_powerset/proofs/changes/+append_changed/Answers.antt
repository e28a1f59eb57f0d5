-- Goals of the functions that call each other around `append_changed`: `returns`.
use Rattle.std.proofs.{Common.◌≡◌, Common.◌∷◌, Common.arith, lemmas.Grind.common_steps}
use Rattle.lra_powerset.specs.Changes.{borrowed_action}
use Rattle.lra_powerset.proofs.ChangeLemmas.{append_more}
use Rattle.lra_powerset.proofs.changes.+append_changed.Goals as goal

pub returns : goal.returns
returns g t c =
    let cut : c.args.parts.now ≡ c.in-Some.first.now ∷ c.in-Some.later.now = grind (arith, common_steps) in
    rw c.worse.ensures.is (append_more g.D.Domain.abstraction g.met.D.Domain.laws g.met.D.BaseDomain.base_laws (borrowed_action c.args.change.now)
    c.args.all.now.items c.args.parts.now c.in-Some.first.now c.in-Some.later.now c.in_ok-one.one
    c.append_one.new.all.items c.in_ok-others.others c.append_changed.new.all.items cut c.in_ok-one.ensures
    c.in_ok-others.ensures)
