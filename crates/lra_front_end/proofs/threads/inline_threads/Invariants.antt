-- The threads so far have their trees, and passed no limit; those that are left count after their points.
use Rattle.std.proofs.Common.{◌≡◌, length, drop, take}
use Rattle.std.specs.List.{AllZip}
use Rattle.lra_front_end.specs.Crates.{lra_inline_steps.Inlining.points_in, lra_program.ProgramViews.program_view, lra_resolution_spec.Refuse.limit_fault, lra_resolution_spec.Threads.thread_program}
use Rattle.lra_front_end.specs.Crates.{lra_resolution_spec.EntryPoint.at_threads, lra_resolution_spec.EntryPoint.points_of, lra_syntax.Labels.labels_of, lra_syntax.Views.tree_view}
use Rattle.lra_front_end.specs.ThreadsStages.{IsThreadInlined}
use Rattle.lra_front_end.proofs.ThreadSteps.{events_at}
use Rattle.lra_front_end.proofs.threads.inline_threads.Given as goal

abbrev pub invariant-threads : goal.invariant-threads
invariant-threads l = record {
  program : program_view l.resolution.program ≡ thread_program (tree_view l.tree) l.resolution.program.main;
  labels : l.resolution.labels ≡ l.fn.resolution.labels;
  within : limit_fault (labels_of (tree_view l.tree)) 0 (points_of at_threads (tree_view l.tree))
      ≡ limit_fault (labels_of (tree_view l.tree)) (length (points_in l.before)) (events_at (tree_view l.tree) (drop l.thread-index l.threads));
  graphs : AllZip (IsThreadInlined (tree_view l.tree)) (take l.thread-index l.threads) l.graphs.items;
}
