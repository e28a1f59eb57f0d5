use Rattle.std.proofs.Common.{◌≡◌, ◌++◌, map, take, drop, int_div}
use Rattle.lra_row.proofs.entries.divide.Given as goal

abbrev pub invariant-loop-x : goal.invariant-loop-x
invariant-loop-x l = l.xs ≡ map (λ x. int_div x l.divisor) (take l.x-index l.initial.xs) ++ drop l.x-index l.initial.xs
