-- Goals of `check_calls`: that no function reaches itself by calls, or the refusal of the first call by which one does.
use Rattle.lra_front_end.specs.Crates.{lra_program.ProgramViews.program_view, lra_syntax.Views.tree_view}
use Rattle.lra_front_end.proofs.StageSteps.{none_recursive}
use Rattle.lra_front_end.proofs.program.check_calls.Goals as goal

pub returns-in-None-clause-straight : goal.returns-in-None-clause-straight
returns-in-None-clause-straight c =
    none_recursive (tree_view c.args.tree.now) (program_view c.args.resolution.now.program).functions c.args.resolution.now.labels.labels
    c.in_ok-first_recursive.field-0
    c.requires.functions c.requires.labels c.in_ok-first_recursive.ensures c.in-None.is
