-- Goals of `is_covered`: whether some row covers the row at `place`.
use Rattle.lra_canonical.proofs.Covers.{covered_by_none}
use Rattle.lra_canonical.proofs.redundancy.is_covered.Goals as goal

pub returns : goal.returns
returns c = covered_by_none c.args.saturation.now c.args.gone.now c.args.place c.find_within_by.result c.in-None.is c.find_within_by.ensures
