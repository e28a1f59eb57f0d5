-- Goals of `open_choice`: the branch where the condition is true is next.
use Rattle.lra_pass_stack.proofs.OpenFrames.{choice_opens}
use Rattle.lra_pass_stack.proofs.choices.open_choice.Goals as goal

pub returns-clause-leads : goal.returns-clause-leads
returns-clause-leads g c others set whole plan is first flagged may =
    choice_opens (g.F.Interfere.interference others) g.D.Domain.abstraction set c.args.choice c.in_ok-sides.sides c.args.value
    c.args.flag c.note.result whole c.in_ok-sides.ensures c.note.ensures plan is first flagged may
