-- Goals of `program_of`: the program of a source without faults of names, and the table of its labels; or the first
-- such fault.
use Rattle.lra_front_end.specs.Crates.{lra_resolution_spec.EntryPoint.at_main, lra_syntax.Views.tree_view}
use Rattle.lra_front_end.proofs.StageSteps.{exit_named}
use Rattle.lra_front_end.proofs.program.program_of.Goals as goal

pub returns-in_err-resolution-clause-refused : goal.returns-in_err-resolution-clause-refused
returns-in_err-resolution-clause-refused c = exit_named at_main (tree_view c.args.tree.now) c.from_residual.result _ c.from_residual.ensures.1 c.in_err-resolution.ensures.told
