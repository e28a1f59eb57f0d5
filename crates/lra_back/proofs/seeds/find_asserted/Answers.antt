-- Goals of `find_asserted`: the condition that is asserted at the point.
use Rattle.std.proofs.Common.{ap, map, sym, ◌∙◌}
use Rattle.lra_back.specs.Crates.lra_path_segments.TreeSegmentViews.{move_view}
use Rattle.lra_back.proofs.{PathSteps.read_at, SeedSteps.first_found}
use Rattle.lra_back.proofs.seeds.find_asserted.Goals as goal

pub returns-then-is_violation : goal.returns-then-is_violation
returns-then-is_violation c g base condition is asserted =
    let ways = c.args.ways.now in
    let i = c.ways.stretch-index in
    let x = c.stretch-item.result in
    c.first_tested.ensures base condition (ap (map move_view) c.as_slice.ensures.value
    ∙ first_found c.args.point ways i x g base condition (read_at ways i x c.ways-test.true c.stretch-item.is) c.ways.invariant
    (sym c.is_violation.ensures ∙ c.if-is_violation.true) is asserted)
