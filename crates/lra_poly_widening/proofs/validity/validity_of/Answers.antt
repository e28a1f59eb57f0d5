-- Goals of `validity_of`: whether the constraint holds with each of the generators.
use Rattle.std.proofs.{Common.rules, Common.arith, Common.refl, Common.FitsSigned, Common.◌≡◌, Common.◌∙◌, Common.ap, Common.sym, Common.length, Common.List, Common.Err, lemmas.Int.to_z-of_z}
use Rattle.std.specs.{Int.w128, List.All, List.Contains}
use Rattle.lra_poly_widening.specs.Crates.{lra_duality.Inclusions.Satisfies, lra_duality.Inclusions.Violates, lra_linear_spec.CheckedArithmetic.checked_product, lra_linear_spec.Descriptions.LinearRow}
use Rattle.lra_poly_widening.specs.Crates.{lra_linear_spec.Kinds.is_equality, lra_linear_spec.Kinds.is_line, lra_linear_spec.declared.GenKind.TheVariants.Point}
use Rattle.lra_systems.proofs.FirstMembers.{member, first_at, one_more, all_gone_through, ok_of}
use Rattle.lra_poly_widening.proofs.Crates.lra_duality.InclusionLemmas.{has_member, seen_generators}
use Rattle.lra_poly_widening.proofs.validity.validity_of.Goals as goal

pub returns-then-not-accepts : goal.returns-then-not-accepts
returns-then-not-accepts c =
    let fp : FitsSigned w128 c.in-Ok.product = search rules in
    let r : LinearRow = record { row = c.args.row.now; equal = is_equality c.args.kind } in
    let said = simp to_z-of_z at c.if-not-accepts.ensures in
    let many : length c.kinds-kinds.result.now ≡ length c.rows-rows.result.now = c.kinds-kinds.ensures.len ∙ ap length (sym c.rows-rows.ensures.rows) in
    let f = first_at (λ g. Satisfies g r) (λ g. Violates g r) is_line c.rows-rows.result.now c.kinds-kinds.result.now c.loop-place.place c.index-rows-place.result Point many c.loop-place-test.true
    c.index-rows-place.is c.loop-place.invariant (
      ok_of c.in-Ok.product _ c.in-Ok.ensures.exact,
      said r (member is_line c.kinds-kinds.result.now c.loop-place.place c.index-rows-place.result Point) refl (sym c.goes_both_ways.ensures) c.in-Ok.ensures.value,
    ) in
    seen_generators (λ (l : List LinearRow). (g : LinearRow) × Contains l g × Violates g r) c.args.list.now c.rows-rows.result.now c.kinds-kinds.result.now c.rows-rows.ensures.rows
    c.kinds-kinds.ensures.kinds
    (f.member, has_member _ _ _ c.loop-place.place f, f.here)

pub returns-in-Err : goal.returns-in-Err
returns-in-Err c =
    let r : LinearRow = record { row = c.args.row.now; equal = is_equality c.args.kind } in
    let many : length c.kinds-kinds.result.now ≡ length c.rows-rows.result.now = c.kinds-kinds.ensures.len ∙ ap length (sym c.rows-rows.ensures.rows) in
    let f = first_at (λ g. Satisfies g r) (λ g. checked_product r.row g.row ≡ Err c.in-Err.excess) is_line c.rows-rows.result.now c.kinds-kinds.result.now c.loop-place.place c.index-rows-place.result
    Point
    many c.loop-place-test.true c.index-rows-place.is c.loop-place.invariant (sym c.in-Err.ensures.exact) in
    seen_generators (λ (l : List LinearRow). (g : LinearRow) × Contains l g × (checked_product r.row g.row ≡ Err c.in-Err.excess)) c.args.list.now c.rows-rows.result.now c.kinds-kinds.result.now
    c.rows-rows.ensures.rows c.kinds-kinds.ensures.kinds (f.member, has_member _ _ _ c.loop-place.place f, f.here)

pub loop-place-preserved : goal.loop-place-preserved
loop-place-preserved c =
    let fp : FitsSigned w128 c.in-Ok.product = search rules in
    let r : LinearRow = record { row = c.args.row.now; equal = is_equality c.args.kind } in
    let said = simp to_z-of_z at c.if-not-accepts.ensures in
    let many : length c.kinds-kinds.result.now ≡ length c.rows-rows.result.now = c.kinds-kinds.ensures.len ∙ ap length (sym c.rows-rows.ensures.rows) in
    one_more (λ g. Satisfies g r) is_line c.rows-rows.result.now c.kinds-kinds.result.now c.loop-place.place c.index-rows-place.result Point many c.loop-place-test.true c.index-rows-place.is
    c.loop-place.invariant (
      ok_of c.in-Ok.product _ c.in-Ok.ensures.exact,
      said r (member is_line c.kinds-kinds.result.now c.loop-place.place c.index-rows-place.result Point) refl (sym c.goes_both_ways.ensures) c.in-Ok.ensures.value,
    )

pub returns : goal.returns
returns c =
    let r : LinearRow = record { row = c.args.row.now; equal = is_equality c.args.kind } in
    let many : length c.kinds-kinds.result.now ≡ length c.rows-rows.result.now = c.kinds-kinds.ensures.len ∙ ap length (sym c.rows-rows.ensures.rows) in
    seen_generators (All (λ g. Satisfies g r)) c.args.list.now c.rows-rows.result.now c.kinds-kinds.result.now c.rows-rows.ensures.rows
    c.kinds-kinds.ensures.kinds
    (all_gone_through (λ g. Satisfies g r) is_line c.rows-rows.result.now c.kinds-kinds.result.now c.loop-place.place many (omega arith) c.loop-place.invariant)
