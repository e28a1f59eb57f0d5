-- Goals of `open_arm`: the tree before the arms that are left is next.
use Rattle.std.proofs.Common.{◌+◌, ℕ, ap, subst, sym}
use Rattle.lra_pass_stack.specs.Crates.{lra_analysis_spec.Operations.lossy_operations, lra_analysis_spec.Pass.RunsFrom, lra_analysis_spec.Plan.Plan}
use Rattle.lra_pass_stack.specs.{Stack.RunHas, StepsLeft.most_rounds, StepsLeft.tree_steps, declared.stack.SelectFrame.SelectFrame}
use Rattle.lra_pass_results.specs.Steps.{arms_steps}
use Rattle.lra_pass_stack.proofs.SelectFrames.{arm_leads}
use Rattle.lra_pass_stack.proofs.selections.open_arm.Goals as goal

pub returns-clause-leads : goal.returns-clause-leads
returns-clause-leads g c others set whole memory plan may here loop =
    let m = g.D.Domain.abstraction in
    let s = c.args.selecting in
    let from = subst (λ (p : Plan). RunsFrom (lossy_operations m) (m.dims s.from) p.parts c.args.so_far.normal c.in_ok-value.value) plan
    c.in_ok-value.ensures.from in
    let runs = subst (λ (n : ℕ). RunHas m n c.args.so_far.normal) (ap m.dims (sym here.from)) loop.running_dims in
    arm_leads (g.F.Interfere.interference others) m set s c.args.node.now c.in_ok-value.value c.in_ok-place.place c.args.behind c.args.so_far.found
    c.args.so_far.normal c.args.so_far.flag whole memory c.in_ok-place.ensures.ok may here loop from (c.in_ok-value.ensures.dims runs)

pub returns-clause-steps : goal.returns-clause-steps
returns-clause-steps g c b set =
    let m = g.D.Domain.abstraction in
    ap (λ (p : SelectFrame _). (1 + arms_steps (most_rounds b set) p.behind.now) + tree_steps m b set c.args.node.now) c.in_ok-place.ensures.ok
