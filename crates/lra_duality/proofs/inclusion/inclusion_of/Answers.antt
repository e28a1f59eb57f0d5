-- Goals of `inclusion_of`: whether each of the generators meets each of the constraints.
use Rattle.std.proofs.Common.{arith, ap, sym, ◌∙◌, ◌≡◌, length, List}
use Rattle.std.specs.List.{All}
use Rattle.lra_duality.specs.Crates.lra_systems.LinearSystems.{constraints}
use Rattle.lra_duality.specs.Crates.{lra_linear_spec.Descriptions.LinearRow, lra_linear_spec.Kinds.is_line, lra_linear_spec.declared.GenKind.TheVariants.Point, lra_systems.FirstPlaces.FirstAt}
use Rattle.lra_duality.specs.Crates.lra_systems.declared.membership.MembershipAnswer.TheVariants as holds
use Rattle.lra_duality.specs.Inclusions.{Satisfies, SatisfiesAll, Passes, ViolatesFirst}
use Rattle.lra_duality.proofs.Crates.lra_systems.FirstMembers.{first_at, one_more, all_gone_through}
use Rattle.lra_duality.proofs.InclusionLemmas.{reply_seen, seen_generators}
use Rattle.lra_duality.proofs.inclusion.inclusion_of.Goals as goal

pub returns-in-No : goal.returns-in-No
returns-in-No c =
    let rows = constraints c.args.list.now in
    let many : length c.kinds-kinds.result.now ≡ length c.rows-rows.result.now = c.kinds-kinds.ensures.len ∙ ap length (sym c.rows-rows.ensures.rows) in
    seen_generators (λ (l : List LinearRow). FirstAt (SatisfiesAll rows) (ViolatesFirst rows) l c.loop-place.place) c.args.by_generators.now c.rows-rows.result.now c.kinds-kinds.result.now
    c.rows-rows.ensures.rows c.kinds-kinds.ensures.kinds
    (first_at (SatisfiesAll rows) (ViolatesFirst rows) is_line c.rows-rows.result.now c.kinds-kinds.result.now c.loop-place.place c.index-rows-place.result Point many c.loop-place-test.true
    c.index-rows-place.is c.loop-place.invariant (record {
      place = c.in-No.field-0;
      first = reply_seen c.args.list.now c.rows.result.now c.kinds.result.now c.index-rows-place.result c.goes_both_ways-line.result _ (holds.No c.in-No.field-0) c.rows.ensures.rows
          c.kinds.ensures.kinds c.goes_both_ways-line.ensures c.in-No.ensures;
    }))

pub returns-in-Wide : goal.returns-in-Wide
returns-in-Wide c =
    let rows = constraints c.args.list.now in
    let many : length c.kinds-kinds.result.now ≡ length c.rows-rows.result.now = c.kinds-kinds.ensures.len ∙ ap length (sym c.rows-rows.ensures.rows) in
    seen_generators (λ (l : List LinearRow). FirstAt (SatisfiesAll rows) (λ g. FirstAt (Satisfies g) (Passes g) rows c.in-Wide.row) l c.loop-place.place) c.args.by_generators.now
    c.rows-rows.result.now
    c.kinds-kinds.result.now c.rows-rows.ensures.rows c.kinds-kinds.ensures.kinds
    (first_at (SatisfiesAll rows) (λ g. FirstAt (Satisfies g) (Passes g) rows c.in-Wide.row) is_line c.rows-rows.result.now c.kinds-kinds.result.now c.loop-place.place c.index-rows-place.result Point
    many
    c.loop-place-test.true c.index-rows-place.is c.loop-place.invariant
    (reply_seen c.args.list.now c.rows.result.now c.kinds.result.now c.index-rows-place.result c.goes_both_ways-line.result _ (holds.Wide c.in-Wide.row) c.rows.ensures.rows
    c.kinds.ensures.kinds c.goes_both_ways-line.ensures c.in-Wide.ensures))

pub loop-place-preserved : goal.loop-place-preserved
loop-place-preserved c =
    let rows = constraints c.args.list.now in
    let many : length c.kinds-kinds.result.now ≡ length c.rows-rows.result.now = c.kinds-kinds.ensures.len ∙ ap length (sym c.rows-rows.ensures.rows) in
    one_more (SatisfiesAll rows) is_line c.rows-rows.result.now c.kinds-kinds.result.now c.loop-place.place c.index-rows-place.result Point many c.loop-place-test.true c.index-rows-place.is
    c.loop-place.invariant
    (reply_seen c.args.list.now c.rows.result.now c.kinds.result.now c.index-rows-place.result c.goes_both_ways-line.result _ holds.Yes c.rows.ensures.rows c.kinds.ensures.kinds
    c.goes_both_ways-line.ensures c.in-Yes.ensures)

pub returns : goal.returns
returns c =
    let rows = constraints c.args.list.now in
    let many : length c.kinds-kinds.result.now ≡ length c.rows-rows.result.now = c.kinds-kinds.ensures.len ∙ ap length (sym c.rows-rows.ensures.rows) in
    seen_generators (All (SatisfiesAll rows)) c.args.by_generators.now c.rows-rows.result.now c.kinds-kinds.result.now c.rows-rows.ensures.rows c.kinds-kinds.ensures.kinds
    (all_gone_through (SatisfiesAll rows) is_line c.rows-rows.result.now c.kinds-kinds.result.now c.loop-place.place many (omega arith) c.loop-place.invariant)
