-- Goals of `push_body`: all lines after the source.
use Rattle.std.proofs.Common.{string_bytes}
use Rattle.lra_certify.specs.WrittenPaths.{IfStopped, BodyStops}
use Rattle.lra_certify.proofs.{CertifiedSteps.body_added, CertifiedSteps.sources_stop, CertifiedSteps.listing_stops, PathSteps.exit_with}
use Rattle.lra_certify.proofs.certifying.push_body.Goals as goal

pub returns-in_err-push_sources-clause-failure : goal.returns-in_err-push_sources-clause-failure
returns-in_err-push_sources-clause-failure c =
    exit_with (IfStopped (BodyStops c.args.ways.now c.args.proved.now)) c.from_residual-in_err-push_sources.result _
    c.from_residual-in_err-push_sources.ensures.1 (sources_stop c.args.ways.now c.args.proved.now _ c.in_err-push_sources.ensures.failure)

pub returns-in_err-push_listed-clause-failure : goal.returns-in_err-push_listed-clause-failure
returns-in_err-push_listed-clause-failure c =
    exit_with (IfStopped (BodyStops c.args.ways.now c.args.proved.now)) c.from_residual-in_err-push_listed.result _
    c.from_residual-in_err-push_listed.ensures.1
    (listing_stops c.args.ways.now c.args.proved.now (string_bytes c.push_states.new.text) (string_bytes c.push_sources.new.text) _
    c.in_ok-push_sources.ensures.adds c.in_err-push_listed.ensures.failure)

pub returns-clause-adds : goal.returns-clause-adds
returns-clause-adds c =
    body_added c.args.ways.now c.args.proved.now (string_bytes c.args.text.now) (string_bytes c.push_states.new.text)
    (string_bytes c.push_sources.new.text) (string_bytes c.push_listed.new.text) (string_bytes c.push_end.new.text) c.requires.ways
    c.in_ok-push_states.ensures.fit c.in_ok-push_states.ensures.text c.in_ok-push_sources.ensures.adds c.in_ok-push_listed.ensures.adds
    c.in_ok-push_end.ensures
