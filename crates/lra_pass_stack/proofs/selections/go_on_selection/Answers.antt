-- Goals of `go_on_selection`: what the tree of an arm gave comes after what was found before it, and runs on.
use Rattle.std.proofs.Common.{◌≤◌, map, sym, subst}
use Rattle.lra_operations.specs.TreeViews.{arm_view, arms_of}
use Rattle.lra_pass_stack.specs.Crates.lra_analysis_spec.Plan.{Plan}
use Rattle.lra_pass_stack.proofs.SelectFrames.{arms_way, followed_on}
use Rattle.lra_pass_stack.proofs.selections.go_on_selection.Goals as goal

pub next_of_arms-requires-clause-parts : goal.next_of_arms-requires-clause-parts
next_of_arms-requires-clause-parts g c =
    let way = c.requires in
    subst (λ (s : Plan). 1 ≤ s.parts) (sym way.7.here.plan) way.5

pub next_of_arms-requires-clause-way : goal.next_of_arms-requires-clause-way
next_of_arms-requires-clause-way g c =
    let way = c.requires in
    let taken = c.in_ok-so_far.ensures in
    arms_way g.F.Interfere.interference way.0 g.D.Domain.abstraction way.1 c.args.place.selecting (arms_of (map arm_view c.args.place.behind.now))
    c.after.result way.2
    way.4 way.7.here.plan way.6 way.7.here
    (followed_on (g.F.Interfere.interference way.0) g.D.Domain.abstraction way.1 c.args.place way.2 way.3 way.4 c.args.outcome c.in_ok-so_far.so_far
    c.after.result way.7
    way.8 taken.0 taken.1 taken.2 c.after.ensures)

pub returns-clause-leads : goal.returns-clause-leads
returns-clause-leads g c others set whole part memory may owed made =
    let taken = c.in_ok-so_far.ensures in
    c.next_of_arms.ensures.leads others set whole memory owed.here.plan may owed.here
    (followed_on (g.F.Interfere.interference others) g.D.Domain.abstraction set c.args.place whole part memory c.args.outcome c.in_ok-so_far.so_far
    c.after.result owed
    made taken.0 taken.1 taken.2 c.after.ensures)
