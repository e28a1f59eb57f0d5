-- Goals of `change_in_second_case`: the second case is begun of as many variables as the value has.
use Rattle.std.proofs.Common.{refl}
use Rattle.lra_transfer.proofs.ChangeSteps.{second_made}
use Rattle.lra_transfer.proofs.cases.change_in_second_case.Goals as goal

pub change_in_case-requires-clause-begins : goal.change_in_case-requires-clause-begins
change_in_case-requires-clause-begins g c =
    rw (c.as_slice.ensures.value, c.in_ok-begun.ensures, c.dims.ensures)
    (second_made c.args.division.now (g.D.Domain.abstraction.dims c.args.value.now) c.requires.divides c.requires.few)

pub change_in_case-requires-clause-two : goal.change_in_case-requires-clause-two
change_in_case-requires-clause-two g c = rw (c.as_slice.ensures.value, c.in_ok-begun.ensures) refl

pub returns-clause-changes : goal.returns-clause-changes
returns-clause-changes g c = rw (c.as_slice.ensures.value, c.in_ok-begun.ensures, c.dims.ensures) at c.change_in_case.ensures.changes
