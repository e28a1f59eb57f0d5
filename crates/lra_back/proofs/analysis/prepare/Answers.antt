-- Goals of `prepare`: what is gone back over from the point.
use Rattle.std.proofs.{Common.List, Common.ap, Common.arith, Common.map, Common.subst, Common.sym, Common.◌∙◌, lemmas.Option.none-some}
use Rattle.lra_operations.specs.TreeViews.{site_view}
use Rattle.lra_program.specs.ProgramViews.{cond_view}
use Rattle.lra_back.specs.Crates.{lra_path_segments.TreeSegmentViews.seen, lra_path_segments.TreeSegments.AreSegmentsOf, lra_path_segments.declared.segments.TreeSegment.TreeSegment}
use Rattle.lra_back.specs.BackwardCalls.{condition_seen}
use Rattle.lra_back.proofs.{BackSteps.asserted_found, BackSteps.is_task, PathSteps.read_at, PathSteps.same_there, WideSteps.assertion_inside, WideSteps.wide_at}
use Rattle.lra_back.proofs.analysis.prepare.Goals as goal

pub unreachable-requires : goal.unreachable-requires
unreachable-requires g c =
    let needs = c.requires.1 in
    let asks = needs.asserted c.args.point needs.asserts in
    let tree = subst (λ (xs : List TreeSegment). AreSegmentsOf (seen xs) c.requires.0) (sym c.as_slice.ensures.value) needs.is_tree in
    none-some (asks.0, asks.1) (sym (ap condition_seen c.in_default.is) ∙ c.find_asserted.ensures c.requires.0 asks.0 asks.1 tree asks.2)

pub offset_bounds-forward-point : goal.offset_bounds-forward-point
offset_bounds-forward-point g c =
    let needs = c.requires.1 in
    let inside = assertion_inside g.D.Domain.abstraction (map site_view c.args.paths.now.sites.now) c.args.forward.now needs.wide c.args.point needs.asserts in
    omega (arith, inside)

pub bounds-forward-point : goal.bounds-forward-point
bounds-forward-point g c =
    let needs = c.requires.1 in
    assertion_inside g.D.Domain.abstraction (map site_view c.args.paths.now.sites.now) c.args.forward.now needs.wide c.args.point needs.asserts

pub restrict_to_violation-requires : goal.restrict_to_violation-requires
restrict_to_violation-requires g c =
    let m = g.D.Domain.abstraction in
    let sites = map site_view c.args.paths.now.sites.now in
    let forward = c.args.forward.now in
    let p = c.args.point in
    let needs = c.requires.1 in
    let inside = assertion_inside m sites forward needs.wide p needs.asserts in
    wide_at m sites forward needs.wide p c.index-forward-point.result (read_at forward p c.index-forward-point.result inside c.index-forward-point.is)

pub returns-clause-task : goal.returns-clause-task
returns-clause-task g c =
    let m = g.D.Domain.abstraction in
    let paths = c.args.paths.now in
    let sites = map site_view paths.sites.now in
    let forward = c.args.forward.now in
    let p = c.args.point in
    let needs = c.requires.1 in
    let x = c.index-forward-point.result in
    let inside = assertion_inside m sites forward needs.wide p needs.asserts in
    let at = read_at forward p x inside c.index-forward-point.is in
    is_task m paths.globals.now sites (seen paths.segments.items) p c.requires.0 (record {
      alloc = c.args.alloc;
      sources = c.in_ok-sources_of.field-0;
      forward = c.args.forward;
      assertion = p;
      seed = c.in_ok-seed.seed.value;
    }) needs (c.in_ok-sources_of.ensures c.requires.0 needs.is_tree needs.few)
    (λ y here. c.in_ok-seed.ensures.dims ∙ same_there forward p x y at here m.dims)

pub returns-clause-prepared : goal.returns-clause-prepared
returns-clause-prepared g c tree needs =
    let m = g.D.Domain.abstraction in
    let sites = map site_view c.args.paths.now.sites.now in
    let forward = c.args.forward.now in
    let p = c.args.point in
    let x = c.index-forward-point.result in
    let inside = assertion_inside m sites forward needs.wide p needs.asserts in
    let asserted = c.in-Some.asserted in
    let is_tree = subst (λ (xs : List TreeSegment). AreSegmentsOf (seen xs) tree) (sym c.as_slice.ensures.value) needs.is_tree in
    record {
      base = asserted.base;
      condition = cond_view asserted.condition.now;
      asserted = asserted_found tree p sites needs.asserted needs.asserts (asserted.base, cond_view asserted.condition.now)
          (λ base condition asks. sym (ap condition_seen c.in-Some.is) ∙ c.find_asserted.ensures tree base condition is_tree asks);
      at_assertion = x;
      is_there = read_at forward p x inside c.index-forward-point.is;
      violated = c.in_ok-seed.ensures.leaves;
      sources = c.in_ok-sources_of.ensures tree needs.is_tree needs.few;
    }
