-- Goals of `one_holds_where`: whether one of the given constraints holds and saturates what the bits say.
use Rattle.std.proofs.Common.{ap, sym, ◌∙◌, ◌≡◌, ◌+◌, length}
use Rattle.std.specs.Prelude.{◌&&◌}
use Rattle.lra_poly_widening.specs.Crates.{lra_duality.Saturations.saturated, lra_linear_spec.Kinds.is_equality, lra_linear_spec.declared.ConKind.TheVariants.Ge}
use Rattle.lra_systems.proofs.FirstMembers.{front, member}
use Rattle.lra_systems.specs.LinearSystems.{constraints}
use Rattle.lra_poly_widening.specs.{Rank.holds_in_range, Saturated.same_values}
use Rattle.lra_poly_widening.proofs.{AlikeLemmas.none_more, Counting.any_from, Loops.front_step, Places.row_among}
use Rattle.lra_poly_widening.proofs.ranking.one_holds_where.Goals as goal

pub returns-then-holds_where : goal.returns-then-holds_where
returns-then-holds_where c =
    let i = c.loop-place.place in
    let r = c.index-rows-place.result in
    sym (any_from (λ g. holds_in_range c.args.p.now g && same_values c.args.bits.now (saturated c.args.p.now.generators g.row)) (constraints c.args.given.now)
    (member is_equality c.kinds-kinds.result.now i r Ge)
    (row_among is_equality c.args.given.now c.rows-rows.result.now c.kinds-kinds.result.now i r Ge c.rows-rows.ensures.rows c.kinds-kinds.ensures.kinds c.kinds-kinds.ensures.len c.loop-place-test.true
    c.index-rows-place.is) (sym c.holds_where.ensures ∙ c.if-holds_where.true))

pub loop-place-preserved : goal.loop-place-preserved
loop-place-preserved c =
    let rows = c.rows-rows.result.now in
    let kinds = c.kinds-kinds.result.now in
    let i = c.loop-place.place in
    let r = c.index-rows-place.result in
    let many : length kinds ≡ length rows = c.kinds-kinds.ensures.len ∙ ap length (sym c.rows-rows.ensures.rows) in
    none_more (λ g. holds_in_range c.args.p.now g && same_values c.args.bits.now (saturated c.args.p.now.generators g.row)) (front is_equality rows kinds i) (front is_equality rows kinds (i + 1))
    (member is_equality kinds i r Ge) c.holds_where.result (front_step is_equality rows kinds i r Ge many c.loop-place-test.true c.index-rows-place.is) c.holds_where.ensures c.if-holds_where.false
    c.loop-place.invariant
