-- Goals of `divides`: whether the modulus divides the product of two rows.
use Rattle.std.proofs.{Common.rules, Common.FitsSigned, lemmas.Int.to_z-of_z}
use Rattle.std.specs.Int.{w128}
use Rattle.lra_duality.specs.Crates.lra_linear_spec.Vectors.{product}
use Rattle.lra_duality.proofs.ResidueLemmas.{residue_decides, zero_bits}
use Rattle.lra_duality.proofs.exact.divides.Goals as goal

pub returns : goal.returns
returns c =
    let fr : FitsSigned w128 c.residue.result = search rules in
    let fm = c.ranges.modulus in
    let i = simp to_z-of_z at c.residue.ensures in
    residue_decides c.args.modulus (product c.args.xs.now c.args.ys.now) c.residue.result _ i (zero_bits c.residue.result fr)
