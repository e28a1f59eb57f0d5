-- Goals of `change_in_case`: it begins so, then comes the change, then the two variables go.
use Rattle.std.proofs.Common.{◌≡◌, ◌+◌, ℕ, sym, ap, subst, ◌∙◌, arith}
use Rattle.lra_transfer.specs.Crates.{lra_domain.Actions.remove_last, lra_domain.Actions.dims_after, lra_domain.Changes.CanBeMade, lra_domain.Changes.action_of, lra_domain.Changes.actions_of}
use Rattle.lra_transfer.proofs.ChangeSteps.{done_one, case_made}
use Rattle.lra_transfer.proofs.cases.change_in_case.Goals as goal

pub change-requires : goal.change-requires
change-requires g c = subst (λ (k : ℕ). CanBeMade (action_of c.args.step.now) k) (sym (c.in_ok-one.ensures.dims ∙ c.requires.two)) c.requires.stays.0

pub remove_last-requires : goal.remove_last-requires
remove_last-requires g c =
    let m = g.D.Domain.abstraction in
    let wide : m.dims c.change.new.self ≡ m.dims c.args.value.now + 2 =
    c.in_ok-two.ensures.dims ∙ ap (dims_after (action_of c.args.step.now)) (c.in_ok-one.ensures.dims ∙ c.requires.two) ∙ c.requires.stays.1 in
    omega (arith, wide)

pub returns-clause-changes : goal.returns-clause-changes
returns-clause-changes g c =
    let m = g.D.Domain.abstraction in
    let step = action_of c.args.step.now in
    let two = done_one m step c.change_in_turn.new.value c.in_ok-two.two c.change.new.self c.in_ok-two.ensures.meets c.in_ok-two.ensures.dims
    c.in_ok-two.ensures.capped in
    let three = done_one m (remove_last 2) c.change.new.self c.in_ok-three.three c.remove_last.new.self c.in_ok-three.ensures.meets c.in_ok-three.ensures.dims
    c.in_ok-three.ensures.capped in
    rw (c.worse-2.ensures.is, c.worse.ensures.is) (case_made m (actions_of c.args.begun.now) step c.args.value.now
    c.change_in_turn.new.value c.change.new.self c.remove_last.new.self c.in_ok-one.one c.in_ok-two.two c.in_ok-three.three
    c.in_ok-one.ensures.changes two three)

pub returns-clause-dims : goal.returns-clause-dims
returns-clause-dims g c =
    let m = g.D.Domain.abstraction in
    let wide : m.dims c.change.new.self ≡ m.dims c.args.value.now + 2 =
    c.in_ok-two.ensures.dims ∙ ap (dims_after (action_of c.args.step.now)) (c.in_ok-one.ensures.dims ∙ c.requires.two) ∙ c.requires.stays.1 in
    let gone = c.in_ok-three.ensures.dims in
    omega (arith, wide, gone)
