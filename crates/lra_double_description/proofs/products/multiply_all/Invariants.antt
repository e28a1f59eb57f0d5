use Rattle.std.proofs.Common.{◌≡◌, map, take}
use Rattle.std.specs.List.{All}
use Rattle.lra_double_description.specs.Crates.{lra_linear_spec.Range.InRange, lra_linear_spec.Vectors.product}
use Rattle.lra_double_description.proofs.products.multiply_all.Given as goal

abbrev pub invariant-loop-place : goal.invariant-loop-place
invariant-loop-place l = (l.products.items ≡ map (product l.c) (take l.place l.rows)) × All InRange l.products.items
