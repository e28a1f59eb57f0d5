-- Goals of `find_third`: a third ray that is tight wherever both are, if there is one.
use Rattle.lra_double_description.proofs.Thirds.{within_told}
use Rattle.lra_double_description.proofs.pairs.find_third.Goals as goal

pub returns : goal.returns
returns c = within_told c.args.saturation.now c.args.up c.args.down c.find_within_by.result c.find_within_by.ensures
