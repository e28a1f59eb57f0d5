-- Goals of `analyse`: without interference a derivation is one of a program that runs alone.
use Rattle.std.proofs.Common.{List, map, sym, subst}
use Rattle.lra_fixpoint.specs.Crates.lra_analysis_spec.Pass.{nothing_absorbed}
use Rattle.lra_fixpoint.specs.Crates.{lra_analysis_spec.Operations.lossy_operations, lra_program.WellFormed.AreGoodGlobals, lra_program.declared.program.GlobalVariable.GlobalVariable}
use Rattle.lra_operations.specs.TreeViews.{node_view, site_view}
use Rattle.lra_fixpoint.proofs.Crates.lra_analysis_spec.Unflagged.{derived_among_nobody}
use Rattle.lra_fixpoint.proofs.{Counting.pass_counted, Covering.begun_covers, Covering.covered_holds, Solving.solved}
use Rattle.lra_fixpoint.proofs.solution.analyse.Goals as goal

pub returns-clause-solved : goal.returns-clause-solved
returns-clause-solved g c P same =
    let m = g.D.Domain.abstraction in
    let tree = node_view c.args.graph.now.tree in
    let solution = c.in_ok-found.found.solution in
    let one = c.in_ok-found.ensures.solved P same in
    solved m g.met.D.Domain.laws c.args.plan.now P tree one.result solution.values.items solution.verdicts.items solution.flagged
    (derived_among_nobody m c.args.plan.now P tree one.result one.derived) one.solves

pub returns-clause-sound : goal.returns-clause-sound
returns-clause-sound g c P same =
    let m = g.D.Domain.abstraction in
    let laws = g.met.D.Domain.laws in
    let plan = c.args.plan.now in
    let tree = node_view c.args.graph.now.tree in
    let sites = map site_view c.args.graph.now.sites.items in
    let solution = c.in_ok-found.found.solution in
    let one = c.in_ok-found.ensures.solved P same in
    let (whole, first, e, universal, begun, pass) = derived_among_nobody m plan P tree one.result one.derived in
    let good = subst (λ (zs : List GlobalVariable). AreGoodGlobals zs) (sym same) c.requires.globals in
    covered_holds m laws P tree one.result sites solution.values.items solution.verdicts.items solution.flagged
    (begun_covers m laws plan P good tree whole first e one.result universal begun pass)
    (pass_counted (lossy_operations m) nothing_absorbed sites plan tree _ first one.result c.requires.numbered pass) one.solves
