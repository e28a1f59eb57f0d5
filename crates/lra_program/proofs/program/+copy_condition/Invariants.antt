-- So far the copies of the first conditions are there.
use Rattle.std.proofs.Common.{◌≡◌, map, take}
use Rattle.lra_program.specs.ProgramViews.{cond_view}
use Rattle.lra_program.proofs.program.+copy_condition.Given as goal

abbrev pub invariant-copy_conditions-conditions : goal.invariant-copy_conditions-conditions
invariant-copy_conditions-conditions l = map cond_view l.copies.items ≡ map cond_view (take l.condition-index l.conditions)
