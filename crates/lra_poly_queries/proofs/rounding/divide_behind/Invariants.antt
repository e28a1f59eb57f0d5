use Rattle.std.proofs.Common.{◌≡◌, ◌∷◌, ◌++◌, length, map, int_div}
use Rattle.lra_poly_queries.proofs.rounding.divide_behind.Given as goal

abbrev pub invariant-loop-number : goal.invariant-loop-number
invariant-loop-number l =
    l.numbers.items ++ map (λ z. int_div z l.divisor) l.left ≡ l.first ∷ map (λ z. int_div z l.divisor) l.others

abbrev pub decreases-loop-number : goal.decreases-loop-number
decreases-loop-number l = length l.left
