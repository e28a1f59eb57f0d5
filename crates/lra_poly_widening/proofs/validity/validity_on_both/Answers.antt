-- Goals of `validity_on_both`: whether it holds with each generator of the first, then of the second.
use Rattle.lra_poly_widening.specs.Crates.{lra_linear_spec.Descriptions.LinearRow, lra_linear_spec.Kinds.is_equality}
use Rattle.lra_poly_widening.specs.declared.validity.Validity.TheVariants.{Fails, Holds, Wide}
use Rattle.lra_poly_widening.proofs.Validities.{both_hold, first_fails, first_wide, seen_validity}
use Rattle.lra_poly_widening.proofs.validity.validity_on_both.Goals as goal

pub returns-in-Holds : goal.returns-in-Holds
returns-in-Holds c =
    let r : LinearRow = record { row = c.args.row.now; equal = is_equality c.args.kind } in
    both_hold c.args.p.now.generators c.args.q.now.generators r c.validity_of-in-Holds.result (seen_validity _ c.args.p.now.generators r Holds c.generators.ensures.generators c.in-Holds.ensures)
    (seen_validity _ c.args.q.now.generators r c.validity_of-in-Holds.result c.generators-in-Holds.ensures.generators c.validity_of-in-Holds.ensures)

pub returns-in-Fails : goal.returns-in-Fails
returns-in-Fails c =
    let r : LinearRow = record { row = c.args.row.now; equal = is_equality c.args.kind } in
    first_fails c.args.p.now.generators c.args.q.now.generators r (seen_validity _ c.args.p.now.generators r Fails c.generators.ensures.generators c.in-Fails.ensures)

pub returns-in-Wide : goal.returns-in-Wide
returns-in-Wide c =
    let r : LinearRow = record { row = c.args.row.now; equal = is_equality c.args.kind } in
    first_wide c.args.p.now.generators c.args.q.now.generators r c.in-Wide.excess
    (seen_validity _ c.args.p.now.generators r (Wide c.in-Wide.excess) c.generators.ensures.generators c.in-Wide.ensures)
