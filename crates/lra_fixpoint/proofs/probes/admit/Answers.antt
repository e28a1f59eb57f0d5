-- Goals of `admit`: the value takes in what others may do.
use Rattle.std.proofs.Common.{◌≡◌, ◌∙◌}
use Rattle.lra_fixpoint.specs.Crates.lra_analysis_spec.Pass.{noted}
use Rattle.lra_pass_results.specs.Outcome.{outcome_view}
use Rattle.lra_fixpoint.proofs.ProbeSteps.{begun_seen, entering_passed}
use Rattle.lra_fixpoint.proofs.probes.admit.Goals as goal

pub returns : goal.returns
returns g c plan =
    let new = c.apply.new.value in
    let e = c.in_ok-exactness.exactness in
    let begun = c.nothing_yet in
    let flag : begun.result.flag ≡ noted c.args.point e c.args.flag =
    ◌∙◌ {c = noted c.args.point e c.args.flag} begun.ensures.flag c.note-flag.ensures in
    entering_passed (g.F.Interfere.interference c.args.others.now) g.D.Domain.abstraction plan c.args.point c.args.flag c.args.value
    new e (outcome_view begun.result)
    (c.in_ok-exactness.ensures.admits, c.apply.ensures.dims, c.apply.ensures.capped)
    (begun_seen begun.result new (noted c.args.point e c.args.flag) begun.ensures.found begun.ensures.normal flag)
