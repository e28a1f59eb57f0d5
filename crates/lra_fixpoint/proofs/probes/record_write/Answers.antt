-- Goals of `record_write`: what the pass has is noted.
use Rattle.lra_fixpoint.proofs.ProbeSteps.{gift_seen}
use Rattle.lra_fixpoint.proofs.probes.record_write.Goals as goal

pub returns : goal.returns
returns g c =
    let begun = c.nothing_yet-outcome in
    gift_seen begun.result c.args.value c.args.flag begun.ensures.found begun.ensures.normal begun.ensures.flag c.args.point
    c.args.variable c.in_ok-noted.noted c.push.new.self c.in_ok-noted.ensures c.in_ok-push.ensures.items
