-- Goals of `add_held`: puts the given constraints that hold in the range on both after the others.
use Rattle.std.proofs.Common.{arith, ap, sym, ◌∙◌, ◌≡◌, ◌+◌, ◌++◌, length}
use Rattle.std.specs.Prelude.{◌&&◌}
use Rattle.lra_poly_widening.specs.Crates.{lra_linear_spec.Kinds.is_equality, lra_linear_spec.declared.ConKind.TheVariants.Ge}
use Rattle.lra_systems.proofs.FirstMembers.{front, member}
use Rattle.lra_systems.specs.LinearSystems.{constraints}
use Rattle.lra_poly_widening.specs.Rank.{holds_in_range, kept_thresholds}
use Rattle.lra_poly_widening.proofs.Loops.{front_seen, front_step, kept_step}
use Rattle.lra_poly_widening.proofs.lists.add_held.Goals as goal

pub loop-place-preserved : goal.loop-place-preserved
loop-place-preserved c =
    let rows = c.rows-rows.result.now in
    let kinds = c.kinds-kinds.result.now in
    let i = c.loop-place.place in
    let many : length kinds ≡ length rows = c.kinds-kinds.ensures.len ∙ ap length (sym c.rows-rows.ensures.rows) in
    record {
      dims = c.in_ok-push_if.ensures.dims ∙ c.loop-place.invariant.dims;
      rows = kept_step (λ x. holds_in_range c.args.p.now x && holds_in_range c.args.q.now x) (constraints c.args.list.now) (constraints c.loop-place.list) (constraints c.push_if.new.list)
          (front is_equality rows kinds i) (front is_equality rows kinds (i + 1))
          (member is_equality kinds i c.index-rows-place.result Ge) c.holds_on_both-wanted.result
          (front_step is_equality rows kinds i c.index-rows-place.result Ge many c.loop-place-test.true c.index-rows-place.is)
          c.holds_on_both-wanted.ensures c.loop-place.invariant.rows c.in_ok-push_if.ensures.rows;
    }

pub returns-clause-rows : goal.returns-clause-rows
returns-clause-rows c =
    c.loop-place.invariant.rows ∙ ap (λ l. constraints c.args.list.now ++ kept_thresholds c.args.p.now c.args.q.now l)
    (front_seen is_equality c.args.given.now c.rows-rows.result.now c.kinds-kinds.result.now c.loop-place.place c.rows-rows.ensures.rows c.kinds-kinds.ensures.kinds
    c.kinds-kinds.ensures.len (omega (arith, c.loop-place-test.false)))
