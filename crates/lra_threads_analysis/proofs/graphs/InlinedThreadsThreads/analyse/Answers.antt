-- Goals of `analyse`: the graph is ready, and so is what the iteration leaves; what both find is found of the thread.
use Rattle.std.proofs.{Common.get_or, Common.None, lemmas.Option.slice_get-get_or}
use Rattle.lra_threads_analysis.specs.Crates.{lra_operations.CheckedOperations.accessing_ops, lra_operations.TreeViews.node_view}
use Rattle.lra_threads_analysis.proofs.ReadyValues.{all_below, few_dims}
use Rattle.lra_threads_analysis.proofs.graphs.InlinedThreadsThreads.analyse.Goals as goal

pub analyse_with-requires-clause-numbered : goal.analyse_with-requires-clause-numbered
analyse_with-requires-clause-numbered c =
    let graphs = c.args.self.now.graphs.now in
    let there = slice_get-get_or graphs c.args.k c.index-self-k.result c.requires.thread in
    (c.requires.ready.each c.args.k (get_or graphs c.args.k c.index-self-k.result) there).numbered

pub judge_accesses-requires-clause-few : goal.judge_accesses-requires-clause-few
judge_accesses-requires-clause-few c =
    let graphs = c.args.self.now.graphs.now in
    let graph = get_or graphs c.args.k c.index-self-k.result in
    let ready = c.requires.ready.each c.args.k graph (slice_get-get_or graphs c.args.k c.index-self-k.result c.requires.thread) in
    let found = c.in_ok-noted.ensures in
    rw c.deref.ensures.value (few_dims graph c.in_ok-noted.noted.solution.values.items found.points (found.wide ready.points) ready.few)

pub judge_accesses-requires-clause-below : goal.judge_accesses-requires-clause-below
judge_accesses-requires-clause-below c =
    let graphs = c.args.self.now.graphs.now in
    let graph = get_or graphs c.args.k c.index-self-k.result in
    let ready = c.requires.ready.each c.args.k graph (slice_get-get_or graphs c.args.k c.index-self-k.result c.requires.thread) in
    rw c.deref.ensures.value (all_below graph c.in_ok-noted.noted.solution.values.items c.in_ok-noted.ensures.points
    (accessing_ops None (node_view graph.tree)) ready.below)

pub returns : goal.returns
returns c =
    let graphs = c.args.self.now.graphs.now in
    let graph = get_or graphs c.args.k c.index-self-k.result in
    let there = slice_get-get_or graphs c.args.k c.index-self-k.result c.requires.thread in
    let ready = c.requires.ready.each c.args.k graph there in
    let found = c.in_ok-noted.ensures in (
      graph,
      there,
      record {
        solved = found.solved;
        sound = found.sound;
        wide = found.wide ready.points;
        notes = found.notes ready.points;
        points = found.points;
        assertions = found.assertions;
        accessed = rw c.deref.ensures.value at c.in_ok-inside.ensures;
      },
    )
