-- Goals of `threads_of`: the program and the threads of a source without faults of names, or the first such fault.
use Rattle.lra_front_end.specs.Crates.{lra_resolution_spec.EntryPoint.at_threads, lra_syntax.Views.tree_view}
use Rattle.lra_front_end.proofs.StageSteps.{exit_named}
use Rattle.lra_front_end.proofs.threads.threads_of.Goals as goal

pub returns-in_err-threads-clause-refused : goal.returns-in_err-threads-clause-refused
returns-in_err-threads-clause-refused c = exit_named at_threads (tree_view c.args.tree.now) c.from_residual.result _ c.from_residual.ensures.1
    c.in_err-threads.ensures.told
