-- Goals of `generator_loss`: the same of a generator.
use Rattle.lra_mapped_systems.proofs.LossLemmas.{dual_loss}
use Rattle.lra_mapped_systems.proofs.forming.generator_loss.Goals as goal

pub returns : goal.returns
returns c =
    dual_loss c.in_ok-rows.rows c.args.list.now c.args.place c.args.excess c.in_ok-loss.loss c.in_ok-rows.ensures.rows
    c.in_ok-rows.ensures.kinds c.in_ok-loss.ensures
