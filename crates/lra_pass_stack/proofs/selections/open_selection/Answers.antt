-- Goals of `open_selection`: first comes the value of no match, then the labels before the first tree.
use Rattle.std.proofs.Common.{◌≤◌, map, refl, sym, subst}
use Rattle.lra_operations.specs.TreeViews.{arm_view, arms_of}
use Rattle.lra_pass_stack.specs.Crates.{lra_analysis_spec.LiveLimit.most_live, lra_analysis_spec.Plan.Plan}
use Rattle.lra_pass_stack.proofs.SelectFrames.{arms_way}
use Rattle.lra_pass_stack.proofs.selections.open_selection.Goals as goal

pub begin_selection-requires : goal.begin_selection-requires
begin_selection-requires g c =
    let way = c.requires.way in
    subst (λ v. g.D.Domain.abstraction.dims v ≤ most_live) way.4 way.2.few

pub next_of_arms-requires-clause-parts : goal.next_of_arms-requires-clause-parts
next_of_arms-requires-clause-parts g c =
    let way = c.requires.way in
    let begun = c.in_ok-selecting.ensures way.0 c.args.selection.plan.now way.1 refl way.3 way.4 way.5 way.2 in
    subst (λ (s : Plan). 1 ≤ s.parts) (sym begun.0.plan) c.requires.parts

pub next_of_arms-requires-clause-way : goal.next_of_arms-requires-clause-way
next_of_arms-requires-clause-way g c =
    let way = c.requires.way in
    let begun = c.in_ok-selecting.ensures way.0 c.args.selection.plan.now way.1 refl way.3 way.4 way.5 way.2 in
    arms_way g.F.Interfere.interference way.0 g.D.Domain.abstraction c.args.selection.plan.now c.in_ok-selecting.selecting
    (arms_of (map arm_view c.args.selection.arms.now)) c.in_ok-selecting.so_far way.1 way.1.memory begun.0.plan way.2 begun.0 begun.1

pub returns-clause-leads : goal.returns-clause-leads
returns-clause-leads g c others set whole plan is first flagged may =
    let begun = c.in_ok-selecting.ensures others set whole plan is first flagged may in
    c.next_of_arms.ensures.leads others set whole whole.memory begun.0.plan may begun.0 begun.1
