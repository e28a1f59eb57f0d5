-- Goals of `analyse_with`: the iteration over a program's tree of operations among others, from its global variables
-- at their first values.
use Rattle.std.proofs.{Common.List, Common.None, Common.length, Common.map, Common.sym, Common.subst, lemmas.List.Elements.All-nil}
use Rattle.std.specs.List.{All}
use Rattle.lra_fixpoint.specs.Crates.{lra_analysis_spec.Operations.lossy_operations, lra_analysis_spec.Pass.noted, lra_analysis_spec.Pass.PassUnder, lra_analysis_spec.UnderInterference.absorbed}
use Rattle.lra_fixpoint.specs.Crates.{lra_program.WellFormed.AreGoodGlobals, lra_program.declared.program.GlobalVariable.GlobalVariable}
use Rattle.lra_operations.specs.{Tree.Node, TreeViews.node_view, TreeViews.site_view}
use Rattle.lra_pass_results.specs.{LoopCache.IsRecalled, Outcome.outcome_view}
use Rattle.lra_fixpoint.specs.Tables.{note_view}
use Rattle.lra_fixpoint.proofs.CoveringUnder.{begun_covers_among, covered_among}
use Rattle.lra_fixpoint.proofs.{Counting.pass_counted, LoopNumbers.numbered_loops, Noting.all_noted, Solving.solved_among, Solving.derived_from, Widths.found_wide, Widths.notes_wide}
use Rattle.lra_fixpoint.proofs.solution.analyse_with.Goals as goal

pub pass-requires-clause-remembers : goal.pass-requires-clause-remembers
pass-requires-clause-remembers g c =
    let loops = numbered_loops (map site_view c.args.graph.now.sites.items) (node_view c.args.graph.now.tree) c.requires.numbered in (
      loops.0,
      loops.1,
      subst (λ xs. All (IsRecalled (g.F.Interfere.interference c.args.others.now) g.D.Domain.abstraction c.args.plan.now loops.0
          c.in_ok-value.flag) xs) (sym c.nothing-memory.ensures) (All-nil _),
    )

pub solution_of-requires : goal.solution_of-requires
solution_of-requires g c =
    let m = g.D.Domain.abstraction in
    let graph = c.args.graph.now in
    rw c.deref.ensures.value (pass_counted (lossy_operations m) (absorbed (g.F.Interfere.interference c.args.others.now) m)
    (map site_view graph.sites.items) c.args.plan.now (node_view graph.tree) c.in_ok-value.flag c.in_ok-value.value
    (outcome_view c.in_ok-outcome.outcome) c.requires.numbered c.in_ok-outcome.ensures.passed.pass)

pub returns-clause-solved : goal.returns-clause-solved
returns-clause-solved g c P same =
    let o = g.F.Interfere.interference c.args.others.now in
    let m = g.D.Domain.abstraction in
    let tree = node_view c.args.graph.now.tree in
    let result = outcome_view c.in_ok-outcome.outcome in
    let found = c.in_ok-solution.solution in
    let notes = map note_view found.notes.items in
    let begun = c.in_ok-value.ensures.begins in
    let pass = rw begun.4 at c.in_ok-outcome.ensures.passed.pass in
    let derived = derived_from o m c.args.plan.now P tree c.args.globals.now begun.0 c.in_ok-value.value begun.1 result same
    begun.2 begun.3 pass in
    solved_among o m g.met.D.Domain.laws c.args.plan.now P tree result found.solution.values.items notes
    found.solution.verdicts.items found.solution.flagged derived c.in_ok-solution.ensures.solves
    (all_noted result.entries notes c.in_ok-solution.ensures.noted)

pub returns-clause-wide : goal.returns-clause-wide
returns-clause-wide g c lives =
    let o = g.F.Interfere.interference c.args.others.now in
    let m = g.D.Domain.abstraction in
    let graph = c.args.graph.now in
    let solution = c.in_ok-solution.solution.solution in
    found_wide o m g.met.D.Domain.laws (map site_view graph.sites.items) c.args.plan.now (node_view graph.tree)
    c.in_ok-value.flag c.in_ok-value.value (outcome_view c.in_ok-outcome.outcome) (length c.args.globals.now)
    c.in_ok-outcome.ensures.passed.pass c.in_ok-value.ensures.dims lives solution.values.items solution.verdicts.items
    solution.flagged c.in_ok-solution.ensures.solves

pub returns-clause-notes : goal.returns-clause-notes
returns-clause-notes g c lives =
    let o = g.F.Interfere.interference c.args.others.now in
    let m = g.D.Domain.abstraction in
    let graph = c.args.graph.now in
    let result = outcome_view c.in_ok-outcome.outcome in
    let notes = map note_view c.in_ok-solution.solution.notes.items in
    notes_wide o m g.met.D.Domain.laws (map site_view graph.sites.items) c.args.plan.now (node_view graph.tree)
    c.in_ok-value.flag c.in_ok-value.value result (length c.args.globals.now)
    c.in_ok-outcome.ensures.passed.pass c.in_ok-value.ensures.dims lives notes
    (all_noted result.entries notes c.in_ok-solution.ensures.noted)

pub returns-clause-sound : goal.returns-clause-sound
returns-clause-sound g c P own same opens =
    let o = g.F.Interfere.interference c.args.others.now in
    let m = g.D.Domain.abstraction in
    let laws = g.met.D.Domain.laws in
    let plan = c.args.plan.now in
    let sites = map site_view c.args.graph.now.sites.items in
    let tree = node_view c.args.graph.now.tree in
    let result = outcome_view c.in_ok-outcome.outcome in
    let found = c.in_ok-solution.solution in
    let notes = map note_view found.notes.items in
    let passed = c.in_ok-outcome.ensures.passed.pass in
    let begun = c.in_ok-value.ensures.begins in
    let derived = derived_from o m plan P tree c.args.globals.now begun.0 c.in_ok-value.value begun.1 result same
    begun.2 begun.3 (rw begun.4 at passed) in
    let good = subst (λ (zs : List GlobalVariable). AreGoodGlobals zs) (sym same) c.requires.globals in
    let pass = subst (λ (x : Node). PassUnder _ _ (lossy_operations m) (absorbed o m) plan x (noted 0 derived.2 None) derived.1 result) opens derived.5 in
    covered_among o m laws P own result sites found.solution.values.items notes found.solution.verdicts.items found.solution.flagged
    (begun_covers_among o m laws plan P good own derived.0 derived.1 derived.2 result derived.3 derived.4 pass)
    (pass_counted (lossy_operations m) (absorbed o m) sites plan tree c.in_ok-value.flag c.in_ok-value.value result c.requires.numbered passed)
    c.in_ok-solution.ensures.solves (all_noted result.entries notes c.in_ok-solution.ensures.noted)
