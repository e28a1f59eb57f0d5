-- Goals of `inline_threads`: a tree of operations for each thread, or the refusal for the first recursive call, or for the
-- first limit that the threads pass together.
use Rattle.std.proofs.Common.{◌≡◌, ◌+◌, [], ◌++◌, length, map, drop, get_or, None, refl, ap, sym, ◌∙◌, subst}
use Rattle.std.proofs.lemmas.List.{at_drop_all, take_all, get_or_default}
use Rattle.std.specs.List.{AllZip}
use Rattle.lra_front_end.specs.Crates.{lra_inline_steps.Inlining.points_in, lra_operations.TreeViews.site_view, lra_program.Program.Program, lra_program.Sites.events_of, lra_program.Sites.sites_of}
use Rattle.lra_front_end.specs.Crates.{lra_program.WellFormed.IsWellFormed, lra_resolution_spec.LabelTable.LabelLists, lra_resolution_spec.Refuse.limit_fault}
use Rattle.lra_front_end.specs.Crates.{lra_resolution_spec.EntryPoint.at_threads, lra_resolution_spec.Threads.thread_program, lra_syntax.Labels.labels_of, lra_syntax.Views.tree_view}
use Rattle.lra_front_end.specs.ThreadsStages.{IsInlinedOf, IsThreadInlined}
use Rattle.lra_front_end.proofs.StageSteps.{exit_recursive}
use Rattle.lra_front_end.proofs.ThreadSteps.{placed, stays_placed, events_at, events_behind, exit_limit, each_at, next_at, more_points, zip_more}
use Rattle.lra_front_end.proofs.threads.inline_threads.Goals as goal

pub check_calls-requires-clause-functions : goal.check_calls-requires-clause-functions
check_calls-requires-clause-functions c = ap (λ (P : Program). P.functions) c.requires.program

pub returns-in_err-check_calls-clause-refused : goal.returns-in_err-check_calls-clause-refused
returns-in_err-check_calls-clause-refused c =
    exit_recursive at_threads (tree_view c.args.tree.now) c.from_residual.result _ c.requires.clean c.from_residual.ensures.1 c.in_err-check_calls.ensures.refused

pub threads-init : goal.threads-init
threads-init c =
    let t = tree_view c.args.tree.now in
    record {
      program = c.requires.program;
      labels = refl;
      within = ap (λ places. limit_fault (labels_of t) 0 (events_at t places)) (sym c.requires.threads)
          ∙ ap (λ z. limit_fault (labels_of t) (length (map site_view z)) (events_at t c.args.threads.now)) (sym c.new-before.ensures.items);
      graphs = subst (λ gs. AllZip (IsThreadInlined t) [] gs) (sym c.new-graphs.ensures.items) tt;
    }

pub graph_of-requires : goal.graph_of-requires
graph_of-requires c =
    let t = tree_view c.args.tree.now in
    let i = c.threads.thread-index in
    let xs = c.args.threads.now in
    let place = get_or xs i 0 in
    subst IsWellFormed (sym (placed t c.threads.resolution.program place c.threads.invariant.program))
    (each_at (λ k. IsWellFormed (thread_program t k)) xs i place c.requires.well c.threads-test.true (get_or_default xs i 0 place c.threads-test.true))

pub threads-preserved : goal.threads-preserved
threads-preserved c =
    let t = tree_view c.args.tree.now in
    let i = c.threads.thread-index in
    let xs = c.args.threads.now in
    let place = get_or xs i 0 in
    let old = c.threads.resolution.program in
    let n = length (points_in c.threads.before) in
    let m = length (points_in c.graph_of.new.before) in
    let here = placed t old place c.threads.invariant.program in
    record {
      program = stays_placed t old c.graph_of.new.program place c.in_ok-graph.ensures.placed here;
      labels = c.threads.invariant.labels;
      within = c.threads.invariant.within
          ∙ next_at (λ places. limit_fault (labels_of t) n (events_at t places)) xs i place c.threads-test.true (get_or_default xs i 0 place c.threads-test.true)
          ∙ events_behind t n m place (drop (i + 1) xs)
          (subst (λ (P : Program). limit_fault (labels_of t) n (events_of P) ≡ None) here (c.in_ok-graph.ensures.within (labels_of t)))
          (more_points site_view c.threads.before.items (sites_of (thread_program t place)) (points_in c.graph_of.new.before)
          (subst (λ (P : Program). points_in c.graph_of.new.before ≡ points_in c.threads.before ++ sites_of P) here c.in_ok-graph.ensures.behind));
      graphs = zip_more (IsThreadInlined t) xs c.threads.graphs.items _ i place c.in_ok-graph.graph c.threads.invariant.graphs c.threads-test.true
          (get_or_default xs i 0 place c.threads-test.true)
          c.in_ok-push.ensures.items (subst (λ (P : Program). IsInlinedOf P c.in_ok-graph.graph) here c.in_ok-graph.ensures.graph);
    }

pub returns-in_err-graph-clause-refused : goal.returns-in_err-graph-clause-refused
returns-in_err-graph-clause-refused c =
    let t = tree_view c.args.tree.now in
    let i = c.threads.thread-index in
    let xs = c.args.threads.now in
    let place = get_or xs i 0 in
    let n = length (points_in c.threads.before) in
    exit_limit t n n place (drop (i + 1) xs) c.threads.resolution.labels.labels _ c.from_residual-in_err-graph.result _ c.requires.clean
    c.in_ok-check_calls.ensures.straight
    (c.threads.invariant.within ∙ next_at (λ places. limit_fault (labels_of t) n (events_at t places)) xs i place c.threads-test.true
    (get_or_default xs i 0 place c.threads-test.true))
    (ap (λ (l : LabelLists). l.labels) c.threads.invariant.labels ∙ c.requires.labels) (placed t c.threads.resolution.program place c.threads.invariant.program)
    c.from_residual-in_err-graph.ensures.1 c.in_err-graph.ensures.refused

pub returns-clause-threads : goal.returns-clause-threads
returns-clause-threads c =
    let t = tree_view c.args.tree.now in
    let n = length (points_in c.threads.before) in
    record {
      names = c.requires.clean;
      straight = c.in_ok-check_calls.ensures.straight;
      within = c.threads.invariant.within
          ∙ at_drop_all (λ places. limit_fault (labels_of t) n (events_at t places)) c.args.threads.now c.threads.thread-index c.threads-test.false;
    }

pub returns-clause-graphs : goal.returns-clause-graphs
returns-clause-graphs c =
    subst (λ places. AllZip (IsThreadInlined (tree_view c.args.tree.now)) places c.threads.graphs.items)
    (take_all c.threads.thread-index c.args.threads.now c.threads-test.false) c.threads.invariant.graphs
