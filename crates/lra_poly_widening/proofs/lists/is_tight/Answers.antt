-- Goals of `is_tight`: whether the row is tight on the polyhedron, whose constraints saturate these generators.
use Rattle.std.proofs.Common.{ap, ◌∙◌}
use Rattle.lra_poly_widening.specs.Crates.lra_duality.Saturations.{saturated}
use Rattle.lra_poly_widening.proofs.TightLists.{bits_widths, class_widths, tight_by_values}
use Rattle.lra_poly_widening.proofs.lists.is_tight.Goals as goal

pub is_full_or_among-stays-requires : goal.is_full_or_among-stays-requires
is_full_or_among-stays-requires c =
    bits_widths c.args.p.now.generators c.args.row.now c.in_ok-bits.bits c.args.classes.now (c.in_ok-bits.ensures ∙ ap (λ l. saturated l c.args.row.now) c.generators.ensures.generators)
    (class_widths c.args.p.now.generators c.args.p.now.rows c.args.classes.now c.requires.classes)

pub returns : goal.returns
returns c = λ equal. c.is_full_or_among-stays.ensures ∙
    tight_by_values c.args.p.now (record { row = c.args.row.now; equal = equal }) c.in_ok-bits.bits c.args.classes.now
    (c.in_ok-bits.ensures ∙ ap (λ l. saturated l c.args.row.now) c.generators.ensures.generators)
    c.requires.classes
