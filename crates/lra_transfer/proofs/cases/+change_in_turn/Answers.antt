-- Goals of the functions that call each other around `change_in_turn`: `returns`.
use Rattle.std.proofs.{Common.◌≡◌, Common.◌∷◌, Common.ap, Common.arith, lemmas.Grind.common_steps}
use Rattle.lra_transfer.specs.Crates.lra_domain.Changes.{action_of, actions_of}
use Rattle.lra_transfer.proofs.ChangeSteps.{done_one, turn_more}
use Rattle.lra_transfer.proofs.cases.+change_in_turn.Goals as goal

pub returns-clause-changes : goal.returns-clause-changes
returns-clause-changes g t c =
    let m = g.D.Domain.abstraction in
    let v = c.args.value.now in
    let step = action_of c.in-Some.first.now in
    let cut : c.args.changes.now ≡ c.in-Some.first.now ∷ c.in-Some.later.now = grind (arith, common_steps) in
    let one = done_one m step v c.in_ok-one.one c.change.new.self c.in_ok-one.ensures.meets c.in_ok-one.ensures.dims c.in_ok-one.ensures.capped in
    rw c.worse.ensures.is (turn_more m step (actions_of c.in-Some.later.now) (actions_of c.args.changes.now) v c.change.new.self c.change_in_turn.new.value
    c.in_ok-one.one c.in_ok-others.others (ap actions_of cut) one c.in_ok-others.ensures.changes)
