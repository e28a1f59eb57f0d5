-- Places are open, and what comes next leads to what the innermost has under way; each step leaves fewer to be taken.
use Rattle.lra_inline_steps.specs.{Inlining.points_in, Inlining.program_of, Stack.InlineTask, Stack.InlineStepLeads, Stack.InliningIsUnderWay, Steps.all_left}
use Rattle.lra_inline.proofs.inlining.write_out.Given as goal

abbrev pub invariant-places : goal.invariant-places
invariant-places l = (whole : InlineTask) → InlineStepLeads (program_of l.source) whole l.fn.first l.fn.path (points_in l.fn.sites)
    → InliningIsUnderWay (program_of l.source) whole l.places.items l.next l.path (points_in l.sites)

abbrev pub decreases-places : goal.decreases-places
decreases-places l = all_left (program_of l.source) l.places.items l.next
