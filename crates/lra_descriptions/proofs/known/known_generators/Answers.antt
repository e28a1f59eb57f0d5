-- Goals of `known_generators`: the points, rays and lines, with the rows of the matrix in the same order.
use Rattle.std.proofs.{Common.arith, Common.rules, Common.◌≡◌, Common.◌≢◌, Common.◌∙◌, Common.ap, Common.length, Common.[], Common.inl, Common.suc, Common.sym, lemmas.Grind.common_steps}
use Rattle.lra_descriptions.specs.ShownLists.{directions_of, points_of}
use Rattle.lra_descriptions.proofs.KnownLists.{generators_go, generators_shown, none_go, none_in, some_columns, sorted_bits, sorted_rows}
use Rattle.lra_descriptions.proofs.Parted.{all_directions, all_points}
use Rattle.lra_descriptions.proofs.known.known_generators.Goals as goal

pub part_rays-requires : goal.part_rays-requires
part_rays-requires c = some_columns (suc c.args.n) c.args.rays.now c.in_ok-marked.marked.items (omega arith) c.requires.rays c.in_ok-marked.ensures.rows

pub list_parts-requires-clause-points : goal.list_parts-requires-clause-points
list_parts-requires-clause-points c = sorted_rows (suc c.args.n) (points_of c.args.rays.now) c.in_ok-points.field-0.points.items c.order_marked.new.marked.items
    (all_points (suc c.args.n) c.args.rays.now c.requires.rays) (c.in_ok-points.ensures.points ∙ ap points_of c.in_ok-marked.ensures.rows)
    c.in_ok-order_marked.ensures.same

pub list_parts-requires-clause-directions : goal.list_parts-requires-clause-directions
list_parts-requires-clause-directions c = sorted_rows (suc c.args.n) (directions_of c.args.rays.now) c.in_ok-points.field-0.directions.items
    c.order_marked-2.new.marked.items
    (all_directions (suc c.args.n) c.args.rays.now c.requires.rays) (c.in_ok-points.ensures.directions ∙ ap directions_of c.in_ok-marked.ensures.rows)
    c.in_ok-order_marked-2.ensures.same

pub list_parts-requires-clause-point_bits : goal.list_parts-requires-clause-point_bits
list_parts-requires-clause-point_bits c = sorted_bits c.width-width.result c.args.matrix.width c.in_ok-points.field-0.points.items
    c.order_marked.new.marked.items
    (sym c.width-width.ensures.width) (c.in_ok-points.ensures.widths c.args.matrix.width c.in_ok-marked.ensures.widths).0 c.in_ok-order_marked.ensures.same

pub list_parts-requires-clause-direction_bits : goal.list_parts-requires-clause-direction_bits
list_parts-requires-clause-direction_bits c = sorted_bits c.width-width.result c.args.matrix.width c.in_ok-points.field-0.directions.items
    c.order_marked-2.new.marked.items
    (sym c.width-width.ensures.width) (c.in_ok-points.ensures.widths c.args.matrix.width c.in_ok-marked.ensures.widths).1 c.in_ok-order_marked-2.ensures.same

pub returns-then-is_empty-clause-shown : goal.returns-then-is_empty-clause-shown
returns-then-is_empty-clause-shown c =
    let points = c.in_ok-points.field-0.points.items in
    let none : length points ≡ 0 = grind (arith, common_steps) in
    inl (
      c.new.ensures.rows,
      c.new.ensures.kinds,
      none_in (points_of c.args.rays.now) points
          (c.in_ok-points.ensures.points ∙ ap points_of c.in_ok-marked.ensures.rows) none,
    )

pub returns-then-is_empty-clause-matrix : goal.returns-then-is_empty-clause-matrix
returns-then-is_empty-clause-matrix c =
    none_go c.args.lines.now c.args.rays.now c.args.matrix c.new.result.rows c.new-then-is_empty.result c.width-width.result c.width-width.ensures.width c.new.ensures.rows
    c.new-then-is_empty.ensures

pub returns-clause-shown : goal.returns-clause-shown
returns-clause-shown c =
    let some : c.in_ok-points.field-0.points.items ≢ [] = search rules in
    generators_shown c.args.lines.now c.args.rays.now c.in_ok-points.field-0.points.items c.order_marked.new.marked.items
    c.in_ok-points.field-0.directions.items
    c.order_marked-2.new.marked.items c.list_parts.result (c.in_ok-points.ensures.points ∙ ap points_of c.in_ok-marked.ensures.rows)
    (c.in_ok-points.ensures.directions ∙ ap directions_of c.in_ok-marked.ensures.rows)
    c.in_ok-order_marked.ensures.same
    c.in_ok-order_marked-2.ensures.same c.in_ok-order_marked.ensures.sorted c.in_ok-order_marked-2.ensures.sorted some c.list_parts.ensures.rows
    c.list_parts.ensures.kinds

pub returns-clause-matrix : goal.returns-clause-matrix
returns-clause-matrix c =
    generators_go c.args.lines.now c.args.rays.now c.args.matrix c.in_ok-points.field-0.points.items c.order_marked.new.marked.items
    c.in_ok-points.field-0.directions.items
    c.order_marked-2.new.marked.items c.width-width.result c.list_parts.result c.width-width.ensures.width c.in_ok-order_marked.ensures.same
    c.in_ok-order_marked-2.ensures.same
    (λ told t. c.in_ok-points.ensures.told told (c.in_ok-marked.ensures.told told t)) c.list_parts.ensures.rows c.list_parts.ensures.matrix
