-- Goals of the functions that call each other around `change_all`: `returns`.
use Rattle.std.proofs.{Common.◌≡◌, Common.◌∷◌, Common.arith, lemmas.Grind.common_steps}
use Rattle.lra_domain.proofs.ChangeLists.{all_kept, all_meet}
use Rattle.lra_domain.proofs.changes.+change_all.Goals as goal

pub returns-clause-stores : goal.returns-clause-stores
returns-clause-stores g t c =
    let cut : c.args.changes.now ≡ c.in-Some.first.now ∷ c.in-Some.later.now = grind (arith, common_steps) in
    all_kept g.D.Domain.abstraction g.met.D.Domain.laws c.args.changes.now c.in-Some.first.now c.in-Some.later.now c.args.value.now c.change.new.self c.change_all.new.value c.in_ok-one.one cut
    c.in_ok-one.ensures.meets c.in_ok-others.ensures.stores

pub returns-clause-meets : goal.returns-clause-meets
returns-clause-meets g t c =
    let cut : c.args.changes.now ≡ c.in-Some.first.now ∷ c.in-Some.later.now = grind (arith, common_steps) in
    all_meet g.D.Domain.abstraction c.args.changes.now c.in-Some.first.now c.in-Some.later.now c.args.value.now c.change.new.self c.change_all.new.value c.in_ok-one.one c.in_ok-others.others
    c.worse.result cut c.in_ok-one.ensures.meets c.in_ok-others.ensures.meets c.worse.ensures.is
