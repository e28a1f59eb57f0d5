-- Goals of `assign_in_cases`: the variable gets the form's value in both cases.
use Rattle.lra_transfer.proofs.ChangeSteps.{assign_stays}
use Rattle.lra_transfer.proofs.cases.assign_in_cases.Goals as goal

pub change_in_cases-requires-clause-stays : goal.change_in_cases-requires-clause-stays
change_in_cases-requires-clause-stays g c =
    rw c.in_ok-copy.ensures (assign_stays c.args.place c.args.form.now (g.D.Domain.abstraction.dims c.args.value.now) c.requires.place c.requires.width)

pub returns-clause-changes : goal.returns-clause-changes
returns-clause-changes g c = rw c.in_ok-copy.ensures at c.change_in_cases.ensures.changes
