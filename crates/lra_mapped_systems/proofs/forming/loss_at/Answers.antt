-- Goals of `loss_at`: what is reported about the row at the place, with those before it taken, if a number passes as
-- it is formed.
use Rattle.lra_mapped_systems.proofs.LossLemmas.{loss_told}
use Rattle.lra_mapped_systems.proofs.forming.loss_at.Goals as goal

pub returns : goal.returns
returns c =
    loss_told c.args.list.now c.in_ok-chosen.chosen c.rows-rows.result.now c.kinds-kinds.result.now c.args.place
    c.index-rows-place.result c.args.excess c.in_ok-loss.loss c.in_ok-chosen.ensures c.rows-rows.ensures.rows
    c.kinds-kinds.ensures.kinds c.kinds-kinds.ensures.len c.requires c.index-rows-place.is c.in_ok-loss.ensures
