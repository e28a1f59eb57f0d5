use Rattle.std.proofs.Common.{◌≡◌, map}
use Rattle.lra_double_description.specs.declared.pairs.Pair.{Pair}
use Rattle.lra_double_description.proofs.ray_step.rows_of_pairs.Given as goal

abbrev pub invariant-each : goal.invariant-each
invariant-each l = l.more ≡ record { width = l.fn.width; rows = map (λ (p : Pair). p.tight) l.yielded }
