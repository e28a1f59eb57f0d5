-- Goals of `count_held`: how many of the given constraints hold on it with each product in the range.
use Rattle.std.proofs.Common.{ap, sym, ◌∙◌, ◌≡◌, ◌+◌, length}
use Rattle.lra_poly_widening.specs.Crates.{lra_linear_spec.Kinds.is_equality, lra_linear_spec.declared.ConKind.TheVariants.Ge}
use Rattle.lra_systems.proofs.FirstMembers.{front, member}
use Rattle.lra_poly_widening.specs.Rank.{holds_in_range}
use Rattle.lra_poly_widening.proofs.Loops.{count_few, count_step, front_step}
use Rattle.lra_poly_widening.proofs.ranking.count_held.Goals as goal

pub loop-place-preserved : goal.loop-place-preserved
loop-place-preserved c =
    let rows = c.rows-rows.result.now in
    let kinds = c.kinds-kinds.result.now in
    let i = c.loop-place.place in
    let r = c.index-rows-place.result in
    let many : length kinds ≡ length rows = c.kinds-kinds.ensures.len ∙ ap length (sym c.rows-rows.ensures.rows) in
    record {
      few = count_few c.loop-place.count c.one_if-count.result i c.holds_in_range.result c.loop-place.invariant.few c.one_if-count.ensures;
      counted = count_step (holds_in_range c.args.p.now) c.loop-place.count c.one_if-count.result (front is_equality rows kinds i) (front is_equality rows kinds (i + 1))
          (member is_equality kinds i r Ge) c.holds_in_range.result (front_step is_equality rows kinds i r Ge many c.loop-place-test.true c.index-rows-place.is) c.holds_in_range.ensures
          c.loop-place.invariant.counted c.one_if-count.ensures;
    }
