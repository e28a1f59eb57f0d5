-- Goals of `holds_in_range`: whether it holds with each of the generators, and each product stays in the range.
use Rattle.lra_poly_widening.specs.Crates.{lra_linear_spec.Descriptions.LinearRow, lra_linear_spec.Kinds.is_equality}
use Rattle.lra_poly_widening.specs.declared.validity.Validity.TheVariants.{Fails, Holds, Wide}
use Rattle.lra_poly_widening.proofs.Validities.{fails_said, holds_said, seen_validity, wide_said}
use Rattle.lra_poly_widening.proofs.validity.holds_in_range.Goals as goal

pub returns-in-Holds : goal.returns-in-Holds
returns-in-Holds c =
    let r : LinearRow = record { row = c.args.row.now; equal = is_equality c.args.kind } in
    holds_said c.args.p.now r (seen_validity _ c.args.p.now.generators r Holds c.generators.ensures.generators c.in-Holds.ensures)

pub returns-in-Fails : goal.returns-in-Fails
returns-in-Fails c =
    let r : LinearRow = record { row = c.args.row.now; equal = is_equality c.args.kind } in
    fails_said c.args.p.now r (seen_validity _ c.args.p.now.generators r Fails c.generators.ensures.generators c.in-Fails.ensures)

pub returns-in-Wide : goal.returns-in-Wide
returns-in-Wide c =
    let r : LinearRow = record { row = c.args.row.now; equal = is_equality c.args.kind } in
    wide_said c.args.p.now r c.in-Wide.field-0
    (seen_validity _ c.args.p.now.generators r (Wide c.in-Wide.field-0) c.generators.ensures.generators c.in-Wide.ensures)
