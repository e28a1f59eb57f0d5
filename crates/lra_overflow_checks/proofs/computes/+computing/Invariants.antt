use Rattle.std.proofs.Common.{◌≡◌, map, drop}
use Rattle.lra_program.specs.ProgramViews.{cond_view}
use Rattle.lra_overflow_checks.specs.Judged.{some_computes}
use Rattle.lra_overflow_checks.proofs.computes.+computing.Given as goal

abbrev pub invariant-some_computes-conditions : goal.invariant-some_computes-conditions
invariant-some_computes-conditions l =
    some_computes (map cond_view (drop l.condition-index l.conditions)) ≡ some_computes (map cond_view l.fn.conditions)
