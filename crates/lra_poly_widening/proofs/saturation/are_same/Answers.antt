-- Goals of `are_same`: whether the two lists, of one width, are the same.
use Rattle.std.proofs.Common.{refl}
use Rattle.lra_poly_widening.proofs.TruthLists.{first_decides, second_decides}
use Rattle.lra_poly_widening.proofs.saturation.are_same.Goals as goal

pub returns-then-subset : goal.returns-then-subset
returns-then-subset c = second_decides c.args.bits.now c.args.other.now c.subset-then-subset.result c.requires (c.if-subset.ensures.0 refl) c.subset-then-subset.ensures

pub returns-else-subset : goal.returns-else-subset
returns-else-subset c = first_decides c.args.bits.now c.args.other.now c.subset.result c.requires c.if-subset.false c.subset.ensures
