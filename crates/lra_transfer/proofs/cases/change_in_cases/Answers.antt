-- Goals of `change_in_cases`: the change in both cases, joined in order.
use Rattle.std.proofs.Common.{sym, ◌∙◌}
use Rattle.lra_transfer.specs.Crates.lra_domain.Changes.{action_of}
use Rattle.lra_transfer.proofs.ChangeSteps.{cases_made}
use Rattle.lra_transfer.proofs.cases.change_in_cases.Goals as goal

pub change_in_second_case-requires-clause-few : goal.change_in_second_case-requires-clause-few
change_in_second_case-requires-clause-few g c = rw c.in_ok-other.ensures c.requires.few

pub change_in_second_case-requires-clause-divides : goal.change_in_second_case-requires-clause-divides
change_in_second_case-requires-clause-divides g c = rw c.in_ok-other.ensures c.requires.divides

pub change_in_second_case-requires-clause-stays : goal.change_in_second_case-requires-clause-stays
change_in_second_case-requires-clause-stays g c = rw c.in_ok-other.ensures c.requires.stays

pub join-requires : goal.join-requires
join-requires g c =
    let same = rw c.in_ok-other.ensures at c.in_ok-two.ensures.dims in
    c.in_ok-one.ensures.dims ∙ sym same

pub returns-clause-changes : goal.returns-clause-changes
returns-clause-changes g c =
    let m = g.D.Domain.abstraction in
    let v = c.args.value.now in
    let two = rw c.in_ok-other.ensures at c.in_ok-two.ensures.changes in
    let same = rw c.in_ok-other.ensures at c.in_ok-two.ensures.dims in
    rw (c.worse-2.ensures.is, c.worse.ensures.is) (cases_made m (m.dims v) c.args.division.now (action_of c.args.step.now) v c.change_in_first_case.new.value
    c.change_in_second_case.new.value c.join.new.self c.in_ok-one.one c.in_ok-two.two c.in_ok-joined.joined c.in_ok-one.ensures.changes two
    (c.in_ok-joined.ensures.joins, same ∙ sym c.in_ok-one.ensures.dims, c.in_ok-joined.ensures.dims, c.in_ok-joined.ensures.capped))
