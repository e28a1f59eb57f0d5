-- Goals of `tightest`: of the constraints those than which none of the others is tighter.
use Rattle.std.proofs.Common.{arith, ap, sym, not, ◌∙◌, ◌≡◌, ◌+◌, [], length, suc}
use Rattle.std.specs.List.{filter}
use Rattle.lra_poly_widening.specs.Crates.{lra_linear_spec.Kinds.is_equality, lra_linear_spec.declared.ConKind.TheVariants.Ge}
use Rattle.lra_systems.proofs.FirstMembers.{front, member}
use Rattle.lra_systems.specs.LinearSystems.{constraints}
use Rattle.lra_poly_widening.specs.Tightest.{is_loose}
use Rattle.lra_poly_widening.proofs.Loops.{front_seen, front_step, kept_step}
use Rattle.lra_poly_widening.proofs.tightest.tightest.Goals as goal

pub push_if-requires : goal.push_if-requires
push_if-requires c =
    ap length c.index-rows-place.is ∙ c.rows-rows.ensures.widths c.loop-place.place c.index-rows-place.result c.loop-place-test.true ∙
    ap suc (sym c.loop-place.invariant.dims)

pub loop-place-preserved : goal.loop-place-preserved
loop-place-preserved c =
    let rows = c.rows-rows.result.now in
    let kinds = c.kinds-kinds.result.now in
    let i = c.loop-place.place in
    let many : length kinds ≡ length rows = c.kinds-kinds.ensures.len ∙ ap length (sym c.rows-rows.ensures.rows) in
    record {
      dims = c.in_ok-push_if.ensures.dims ∙ c.loop-place.invariant.dims;
      rows = kept_step (λ r. not (is_loose (constraints c.args.list.now) r)) [] (constraints c.loop-place.few) (constraints c.push_if.new.list) (front is_equality rows kinds i)
          (front is_equality rows kinds (i + 1)) (member is_equality kinds i c.index-rows-place.result Ge) (not c.is_loose-wanted.result)
          (front_step is_equality rows kinds i c.index-rows-place.result Ge many c.loop-place-test.true c.index-rows-place.is)
          (ap not c.is_loose-wanted.ensures) c.loop-place.invariant.rows c.in_ok-push_if.ensures.rows;
    }

pub returns-clause-rows : goal.returns-clause-rows
returns-clause-rows c =
    c.loop-place.invariant.rows ∙ ap (filter (λ r. not (is_loose (constraints c.args.list.now) r)))
    (front_seen is_equality c.args.list.now c.rows-rows.result.now c.kinds-kinds.result.now c.loop-place.place c.rows-rows.ensures.rows c.kinds-kinds.ensures.kinds
    c.kinds-kinds.ensures.len (omega (arith, c.loop-place-test.false)))
