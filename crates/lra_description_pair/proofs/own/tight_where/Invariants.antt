use Rattle.lra_description_pair.specs.Crates.lra_double_description.Steps.{IsFilled}
use Rattle.lra_description_pair.specs.OwnLists.{tight_value}
use Rattle.lra_description_pair.proofs.own.tight_where.Given as goal

abbrev pub invariant-loop-ray : goal.invariant-loop-ray
invariant-loop-ray l = IsFilled (tight_value l.saturation.rows l.place) l.fn.width l.ray l.bits
