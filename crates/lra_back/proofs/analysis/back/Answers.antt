-- Goals of `back`: going back from the assertion at the point.
use Rattle.std.proofs.Common.{Err, List, ap, map, refl, subst, sym, ◌∙◌}
use Rattle.lra_operations.specs.TreeViews.{node_view, site_view}
use Rattle.lra_program.specs.Sites.{Site}
use Rattle.lra_back.specs.Crates.lra_path_segments.TreeSegmentViews.{seen}
use Rattle.lra_back.specs.BackwardAnalysis.{AreWide}
use Rattle.lra_back.proofs.{BackSteps.asserts_is, BackSteps.backs_over, BackSteps.left_over, BackSteps.needs_over, BackSteps.too_many, Transfer.traced}
use Rattle.lra_back.proofs.analysis.back.Goals as goal

pub returns-in_err-paths-clause-many : goal.returns-in_err-paths-clause-many
returns-in_err-paths-clause-many g c q is =
    let sites = map site_view c.args.graph.now.sites.items in
    let asks = rw c.as_slice.ensures.value at c.is_assertion.ensures in (
      asserts_is sites c.args.point (sym asks ∙ c.if-not-is_assertion.false),
      c.find_paths.ensures.many q (c.in_err-paths.was
          ∙ ap (λ f. Err f) (too_many c.from_residual.result c.in_err-paths.field-0.0 q c.from_residual.ensures.1 is)),
    )

pub trace-requires : goal.trace-requires
trace-requires g c =
    let m = g.D.Domain.abstraction in
    let graph = c.args.graph.now in
    let sites = map site_view graph.sites.items in
    let paths = c.in_ok-paths.paths in
    let of = c.in_ok-paths.ensures.of in
    let asks = rw c.as_slice.ensures.value at c.is_assertion.ensures in (
      node_view graph.tree,
      needs_over m c.args.globals.now paths.globals.now sites (map site_view paths.sites.now) (node_view graph.tree) of.0
          (ap (map site_view) of.1) (seen paths.segments.items) c.args.forward.now c.args.point (record {
            is_tree = of.2;
            few = c.in_ok-paths.ensures.few;
            wide = c.requires.wide;
            fit = c.requires.fit;
            asserts = asserts_is sites c.args.point (sym asks ∙ c.if-not-is_assertion.false);
            asserted = c.requires.asserted;
          }),
    )

pub returns-clause-traced : goal.returns-clause-traced
returns-clause-traced g c =
    let m = g.D.Domain.abstraction in
    let b = g.D.Backward.backward_abstraction in
    let globals = c.args.globals.now in
    let graph = c.args.graph.now in
    let sites = map site_view graph.sites.items in
    let paths = c.in_ok-paths.paths in
    let of = c.in_ok-paths.ensures.of in
    let asks = rw c.as_slice.ensures.value at c.is_assertion.ensures in
    let points = map site_view paths.sites.now in
    let same = ap (map site_view) of.1 in
    let found = c.in_ok-found.found in
    let needs = needs_over m globals paths.globals.now sites points (node_view graph.tree) of.0 same (seen paths.segments.items) c.args.forward.now c.args.point
    (record {
      is_tree = of.2;
      few = c.in_ok-paths.ensures.few;
      wide = c.requires.wide;
      fit = c.requires.fit;
      asserts = asserts_is sites c.args.point (sym asks ∙ c.if-not-is_assertion.false);
      asserted = c.requires.asserted;
    }) in
    traced m b g.met.D.Domain.laws globals sites (node_view graph.tree) c.args.forward.now c.args.flagged c.args.point found.values.items found.flagged
    (backs_over m globals paths.globals.now sites points (node_view graph.tree) b of.0 same c.args.forward.now c.args.flagged c.args.point found.values.items
    found.flagged (c.in_ok-found.ensures.traced (node_view graph.tree) needs))

pub returns-clause-proved : goal.returns-clause-proved
returns-clause-proved g c =
    let graph = c.args.graph.now in
    let paths = c.in_ok-paths.paths in
    let of = c.in_ok-paths.ensures.of in
    left_over g.D.Domain.abstraction c.args.globals.now paths.globals.now (map site_view graph.sites.items) (map site_view paths.sites.now)
    (node_view graph.tree)
    of.0 (ap (map site_view) of.1) c.in_ok-found.found.values.items c.in_ok-found.found.values.items refl c.in_ok-found.found.is_proved
    (c.in_ok-found.ensures.proved (node_view graph.tree) of.2)

pub returns-clause-wide : goal.returns-clause-wide
returns-clause-wide g c =
    subst (λ (s : List Site). AreWide g.D.Domain.abstraction s c.in_ok-found.found.values.items) (ap (map site_view) c.in_ok-paths.ensures.of.1)
    c.in_ok-found.ensures.wide
