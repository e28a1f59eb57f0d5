-- Goals of `program_of`: the program of such a tree, and the table of its labels.
use Rattle.lra_tests_operations.specs.Crates.{lra_program.ProgramViews.program_view, lra_syntax.Views.tree_view}
use Rattle.lra_tests_operations.proofs.Reading.{resolved_well}
use Rattle.lra_tests_operations.proofs.sources.program_of.Goals as goal

pub returns-clause-well : goal.returns-clause-well
returns-clause-well c =
    resolved_well (tree_view c.args.tree.now) (program_view c.in_ok-resolution.resolution.program) c.requires c.in_ok-resolution.ensures.told c.in_ok-resolution.ensures.found
