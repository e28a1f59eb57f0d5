-- Goals of `judge`: the paths of a program, and the lines after its source.
use Rattle.std.proofs.Common.{List, Err, map, ap, sym, ◌∙◌}
use Rattle.lra_verify.specs.Crates.lra_program.ProgramViews.{program_view}
use Rattle.lra_operations.specs.{TreeViews.node_view, TreeViews.site_view, declared.tree.Site.Site}
use Rattle.lra_verify.proofs.{RequiredAnswers.lines_answer, VerifySteps.sources_ready, VerifySteps.lead_ready, VerifySteps.few_ready, VerifySteps.many_ready}
use Rattle.lra_verify.proofs.verifying.judge.Goals as goal

pub take_lines-requires-clause-sources : goal.take_lines-requires-clause-sources
take_lines-requires-clause-sources c =
    let graph = c.args.graph.now in
    let g = node_view graph.tree in
    let found = c.in-Ok in
    let led = c.in_ok-sources-in-Ok in
    let of = found.ensures.of in
    sources_ready g found.paths.globals.now found.paths.sites.now led.sources.items c.as_slice-in-Ok-2.result.now c.as_slice-in-Ok-2.ensures.value
    led.ensures.count (led.ensures.leads g of.2) c.as_slice.result.now graph.sites.items c.as_slice-in-Ok.result.now of.0 of.1
    c.as_slice-in-Ok.ensures.value led.ensures.tables found.ensures.few

pub returns-in_ok-sources-in-Ok : goal.returns-in_ok-sources-in-Ok
returns-in_ok-sources-in-Ok c =
    let graph = c.args.graph.now in
    let P = program_view c.args.program.now in
    let g = node_view graph.tree in
    let found = c.in-Ok in
    let led = c.in_ok-sources-in-Ok in
    let of = found.ensures.of in
    let given = c.as_slice.ensures.value in
    let sites = c.requires.sites in
    let lead = lead_ready g found.paths.globals.now found.paths.sites.now led.sources.items c.as_slice-in-Ok-2.result.now c.as_slice-in-Ok-2.ensures.value
    led.ensures.count (led.ensures.leads g of.2) P (of.0 ∙ given) (ap (λ (xs : List Site). map site_view xs) of.1 ∙ sites) in
    lines_answer P g c.args.rest.now c.take_lines.result
    (few_ready P g c.as_slice.result.now (map site_view graph.sites.items) given sites found.ensures.few)
    (c.take_lines.ensures.told P g (ap (λ (xs : List Site). map site_view xs) c.as_slice-in-Ok.ensures.value ∙ sites) lead)

pub returns-in-Err-TooMany : goal.returns-in-Err-TooMany
returns-in-Err-TooMany c =
    let graph = c.args.graph.now in
    let far = c.in-Err-TooMany in
    many_ready (program_view c.args.program.now) (node_view graph.tree) c.as_slice.result.now (map site_view graph.sites.items) c.as_slice.ensures.value
    c.requires.sites far.source _ (sym far.source-is) (far.ensures.many far.source (ap Err far.field-0-is))
