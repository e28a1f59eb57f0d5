-- Goals of `go_on_choice`: after the first branch, the second is next.
use Rattle.lra_pass_stack.proofs.OpenFrames.{branch_leads}
use Rattle.lra_pass_stack.proofs.choices.go_on_choice.Goals as goal

pub returns-clause-leads : goal.returns-clause-leads
returns-clause-leads g c others set whole part memory may owed made =
    branch_leads (g.F.Interfere.interference others) g.D.Domain.abstraction set c.args.place c.args.first c.in_ok-place.place
    c.note.result whole part memory c.in_ok-place.ensures.ok may owed made c.note.ensures
