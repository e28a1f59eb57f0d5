use Rattle.std.proofs.Common.{◌≡◌, true, take}
use Rattle.std.specs.List.{list_all}
use Rattle.lra_overflow_checks.proofs.operations.all_fit.Given as goal

abbrev pub invariant-answers : goal.invariant-answers
invariant-answers l = list_all (λ x. x) (take l.answer-index l.answers) ≡ true
