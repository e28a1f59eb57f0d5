-- Goals of `certify`: the lines after the source of a certificate.
use Rattle.std.proofs.Common.{Err, map, ap, sym, string_bytes}
use Rattle.lra_certify.specs.Crates.{lra_operations.TreeViews.node_view, lra_operations.TreeViews.site_view, lra_program.ProgramViews.program_view, lra_program.Sites.sites_of}
use Rattle.lra_verify.specs.PointViews.{state_view}
use Rattle.lra_verify.proofs.VerifySteps.{few_ready, many_ready}
use Rattle.lra_certify.specs.Certified.{IsFailure}
use Rattle.lra_certify.proofs.CertifiedSteps.{certified, body_fails, all_stay, all_denied, listable_below}
use Rattle.lra_certify.proofs.{PathSteps.exit_with, ReadySegments.are_ready, ReadySegments.many_points}
use Rattle.lra_certify.proofs.certifying.certify.Goals as goal

pub push_body-requires-clause-ways : goal.push_body-requires-clause-ways
push_body-requires-clause-ways c =
    let graph = c.args.graph.now in
    let found = c.in-Ok in
    let led = c.in_ok-sources-in-Ok in
    let of = found.ensures.of in
    let ready = are_ready (program_view c.args.program.now) (node_view graph.tree)
    (record {
      sites = c.as_slice-in-Ok.result;
      states = c.args.states;
      start = record { ref_ptr = _; now = c.new-start.result };
      sources = c.as_slice-in-Ok-2.result;
    })
    found.paths.globals.now c.as_slice.result.now found.paths.sites.now graph.sites.items led.sources.items of.0 c.as_slice.ensures.value of.1
    c.as_slice-in-Ok.ensures.value c.requires.sites found.ensures.few c.as_slice-in-Ok-2.ensures.value led.ensures.count led.ensures.tables
    (led.ensures.leads (node_view graph.tree) of.2) c.new-start.ensures.rows c.new-start.ensures.dims c.requires.states c.requires.dims c.requires.many
    c.requires.live in
    ready.ways

pub push_body-requires-clause-points : goal.push_body-requires-clause-points
push_body-requires-clause-points c =
    let graph = c.args.graph.now in
    let found = c.in-Ok in
    let led = c.in_ok-sources-in-Ok in
    let of = found.ensures.of in
    let ready = are_ready (program_view c.args.program.now) (node_view graph.tree)
    (record {
      sites = c.as_slice-in-Ok.result;
      states = c.args.states;
      start = record { ref_ptr = (0, 0); now = c.new-start.result };
      sources = c.as_slice-in-Ok-2.result;
    })
    found.paths.globals.now c.as_slice.result.now found.paths.sites.now graph.sites.items led.sources.items of.0 c.as_slice.ensures.value of.1
    c.as_slice-in-Ok.ensures.value c.requires.sites found.ensures.few c.as_slice-in-Ok-2.ensures.value led.ensures.count led.ensures.tables
    (led.ensures.leads (node_view graph.tree) of.2) c.new-start.ensures.rows c.new-start.ensures.dims c.requires.states c.requires.dims c.requires.many
    c.requires.live in
    listable_below (sites_of (program_view c.args.program.now)) _ c.args.proved.now
    (many_points (program_view c.args.program.now) (node_view graph.tree) _ ready) c.requires.proved

pub push_body-requires-clause-stay : goal.push_body-requires-clause-stay
push_body-requires-clause-stay c =
    let graph = c.args.graph.now in
    let found = c.in-Ok in
    let led = c.in_ok-sources-in-Ok in
    let of = found.ensures.of in
    let ready = are_ready (program_view c.args.program.now) (node_view graph.tree)
    (record {
      sites = c.as_slice-in-Ok.result;
      states = c.args.states;
      start = record { ref_ptr = (0, 0); now = c.new-start.result };
      sources = c.as_slice-in-Ok-2.result;
    })
    found.paths.globals.now c.as_slice.result.now found.paths.sites.now graph.sites.items led.sources.items of.0 c.as_slice.ensures.value of.1
    c.as_slice-in-Ok.ensures.value c.requires.sites found.ensures.few c.as_slice-in-Ok-2.ensures.value led.ensures.count led.ensures.tables
    (led.ensures.leads (node_view graph.tree) of.2) c.new-start.ensures.rows c.new-start.ensures.dims c.requires.states c.requires.dims c.requires.many
    c.requires.live in
    all_stay (program_view c.args.program.now) (node_view graph.tree) _ ready.ways ready.sites ready.lead c.args.proved.now c.requires.stay

pub push_body-requires-clause-denied : goal.push_body-requires-clause-denied
push_body-requires-clause-denied c =
    let graph = c.args.graph.now in
    let found = c.in-Ok in
    let led = c.in_ok-sources-in-Ok in
    let of = found.ensures.of in
    let ready = are_ready (program_view c.args.program.now) (node_view graph.tree)
    (record {
      sites = c.as_slice-in-Ok.result;
      states = c.args.states;
      start = record { ref_ptr = (0, 0); now = c.new-start.result };
      sources = c.as_slice-in-Ok-2.result;
    })
    found.paths.globals.now c.as_slice.result.now found.paths.sites.now graph.sites.items led.sources.items of.0 c.as_slice.ensures.value of.1
    c.as_slice-in-Ok.ensures.value c.requires.sites found.ensures.few c.as_slice-in-Ok-2.ensures.value led.ensures.count led.ensures.tables
    (led.ensures.leads (node_view graph.tree) of.2) c.new-start.ensures.rows c.new-start.ensures.dims c.requires.states c.requires.dims c.requires.many
    c.requires.live in
    all_denied (program_view c.args.program.now) (node_view graph.tree) _ ready.ways ready.sites ready.lead c.args.proved.now c.requires.stay

pub returns-in_err-push_body-in-Ok-clause-failure : goal.returns-in_err-push_body-in-Ok-clause-failure
returns-in_err-push_body-in-Ok-clause-failure c =
    let graph = c.args.graph.now in
    let found = c.in-Ok in
    let led = c.in_ok-sources-in-Ok in
    let of = found.ensures.of in
    let ready = are_ready (program_view c.args.program.now) (node_view graph.tree)
    (record {
      sites = c.as_slice-in-Ok.result;
      states = c.args.states;
      start = record { ref_ptr = _; now = c.new-start.result };
      sources = c.as_slice-in-Ok-2.result;
    })
    found.paths.globals.now c.as_slice.result.now found.paths.sites.now graph.sites.items led.sources.items of.0 c.as_slice.ensures.value of.1
    c.as_slice-in-Ok.ensures.value c.requires.sites found.ensures.few c.as_slice-in-Ok-2.ensures.value led.ensures.count led.ensures.tables
    (led.ensures.leads (node_view graph.tree) of.2) c.new-start.ensures.rows c.new-start.ensures.dims c.requires.states c.requires.dims c.requires.many
    c.requires.live in
    exit_with (IsFailure (program_view c.args.program.now) (node_view graph.tree) (map state_view c.args.states.now) c.args.proved.now)
    c.from_residual-in_err-push_body-in-Ok.result _ c.from_residual-in_err-push_body-in-Ok.ensures.1
    (body_fails (program_view c.args.program.now) (node_view graph.tree) _ ready.ways ready.sites ready.lead
    (few_ready (program_view c.args.program.now) (node_view graph.tree) c.as_slice.result.now (map site_view graph.sites.items) c.as_slice.ensures.value
    c.requires.sites found.ensures.few) c.args.proved.now _
    c.in_err-push_body-in-Ok.ensures.failure)

pub returns-in_ok-push_body-in-Ok-clause-certified : goal.returns-in_ok-push_body-in-Ok-clause-certified
returns-in_ok-push_body-in-Ok-clause-certified c =
    let graph = c.args.graph.now in
    let found = c.in-Ok in
    let led = c.in_ok-sources-in-Ok in
    let of = found.ensures.of in
    let ready = are_ready (program_view c.args.program.now) (node_view graph.tree)
    (record {
      sites = c.as_slice-in-Ok.result;
      states = c.args.states;
      start = record { ref_ptr = _; now = c.new-start.result };
      sources = c.as_slice-in-Ok-2.result;
    })
    found.paths.globals.now c.as_slice.result.now found.paths.sites.now graph.sites.items led.sources.items of.0 c.as_slice.ensures.value of.1
    c.as_slice-in-Ok.ensures.value c.requires.sites found.ensures.few c.as_slice-in-Ok-2.ensures.value led.ensures.count led.ensures.tables
    (led.ensures.leads (node_view graph.tree) of.2) c.new-start.ensures.rows c.new-start.ensures.dims c.requires.states c.requires.dims c.requires.many
    c.requires.live in
    certified (program_view c.args.program.now) (node_view graph.tree) _ ready.ways ready.sites ready.lead c.args.proved.now
    (string_bytes c.new-text.result) (string_bytes c.push_body.new.text) c.new-text.ensures.bytes c.requires.proved
    c.in_ok-push_body-in-Ok.ensures.adds

pub returns-in_ok-push_body-in-Ok-clause-few : goal.returns-in_ok-push_body-in-Ok-clause-few
returns-in_ok-push_body-in-Ok-clause-few c =
    let graph = c.args.graph.now in
    few_ready (program_view c.args.program.now) (node_view graph.tree) c.as_slice.result.now (map site_view graph.sites.items) c.as_slice.ensures.value
    c.requires.sites c.in-Ok.ensures.few

pub returns-in-Err-TooMany-clause-failure : goal.returns-in-Err-TooMany-clause-failure
returns-in-Err-TooMany-clause-failure c =
    let graph = c.args.graph.now in
    let far = c.in-Err-TooMany in
    many_ready (program_view c.args.program.now) (node_view graph.tree) c.as_slice.result.now (map site_view graph.sites.items) c.as_slice.ensures.value
    c.requires.sites far.source _ (sym far.source-is) (far.ensures.many far.source (ap Err far.field-0-is))
