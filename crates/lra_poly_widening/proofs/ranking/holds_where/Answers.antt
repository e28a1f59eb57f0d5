-- Goals of `holds_where`: whether the constraint holds in the range, and saturates the generators where the bits say so.
use Rattle.std.proofs.Common.{ap, map, ◌∙◌, List}
use Rattle.lra_poly_widening.specs.Crates.{lra_linear_spec.Descriptions.LinearRow, lra_linear_spec.Kinds.is_equality}
use Rattle.lra_poly_widening.specs.Saturated.{same_values, vanishes}
use Rattle.lra_poly_widening.proofs.AlikeLemmas.{holds_elsewhere, holds_there}
use Rattle.lra_poly_widening.proofs.ranking.holds_where.Goals as goal

pub returns-then-vanishes_where : goal.returns-then-vanishes_where
returns-then-vanishes_where c =
    let r : LinearRow = record { row = c.args.row.now; equal = is_equality c.args.kind } in
    holds_there c.args.p.now r c.args.bits.now c.vanishes_where.result c.holds_in_range.result c.if-vanishes_where.true
    (c.vanishes_where.ensures ∙ ap (λ (l : List LinearRow). same_values c.args.bits.now (map (λ (g : LinearRow). vanishes c.args.row.now g.row) l)) c.generators.ensures.generators)
    c.holds_in_range.ensures

pub returns-else-vanishes_where : goal.returns-else-vanishes_where
returns-else-vanishes_where c =
    let r : LinearRow = record { row = c.args.row.now; equal = is_equality c.args.kind } in
    c.if-vanishes_where.false ∙ holds_elsewhere c.args.p.now r c.args.bits.now c.vanishes_where.result c.if-vanishes_where.false
    (c.vanishes_where.ensures ∙ ap (λ (l : List LinearRow). same_values c.args.bits.now (map (λ (g : LinearRow). vanishes c.args.row.now g.row) l)) c.generators.ensures.generators)
