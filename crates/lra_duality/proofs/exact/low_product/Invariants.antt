use Rattle.std.proofs.Common.{take, pos, ◌^◌}
use Rattle.lra_duality.specs.Crates.lra_linear_spec.Vectors.{product}
use Rattle.lra_duality.specs.Residues.{IsResidue}
use Rattle.lra_duality.proofs.exact.low_product.Given as goal

abbrev pub invariant-loop-place : goal.invariant-loop-place
invariant-loop-place l = IsResidue (pos (2 ^ 64)) (product (take l.place l.xs) (take l.place l.ys)) (pos l.sum)
