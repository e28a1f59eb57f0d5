-- Goals of `generator_list`: the points, rays and lines, each in order, of a cone of n + 1 columns with these lines
-- and rays; none if no ray is above 0 in column 0.
use Rattle.std.proofs.{Common.arith, Common.rules, Common.◌≡◌, Common.◌≢◌, Common.length, Common.[], Common.inl, Common.suc, lemmas.Grind.common_steps}
use Rattle.lra_descriptions.specs.ShownLists.{points_of}
use Rattle.lra_descriptions.proofs.Parted.{points_widths, directions_widths, put_together, none_before}
use Rattle.lra_descriptions.proofs.shown.generator_list.Goals as goal

pub listed_generators-requires-clause-points : goal.listed_generators-requires-clause-points
listed_generators-requires-clause-points c =
    points_widths (suc c.args.n) c.args.rays.now c.in_ok-points.points.items c.requires.rays c.in_ok-points.ensures.same

pub listed_generators-requires-clause-directions : goal.listed_generators-requires-clause-directions
listed_generators-requires-clause-directions c =
    directions_widths (suc c.args.n) c.args.rays.now c.in_ok-directions.directions.items c.requires.rays c.in_ok-directions.ensures.same

pub returns-then-is_empty-clause-shown : goal.returns-then-is_empty-clause-shown
returns-then-is_empty-clause-shown c =
    let points = c.in_ok-points.points.items in
    let none : length points ≡ 0 = grind (arith, common_steps) in
    inl (c.new.ensures.rows, c.new.ensures.kinds, none_before (points_of c.args.rays.now) points c.in_ok-points.ensures.same none)

pub returns-clause-shown : goal.returns-clause-shown
returns-clause-shown c =
    let some : c.in_ok-points.points.items ≢ [] = search rules in
    put_together c.args.lines.now c.args.rays.now c.in_ok-points.points.items c.in_ok-directions.directions.items c.listed_generators.result
    c.in_ok-points.ensures.same c.in_ok-directions.ensures.same c.in_ok-points.ensures.sorted c.in_ok-directions.ensures.sorted some
    c.listed_generators.ensures.rows c.listed_generators.ensures.kinds
