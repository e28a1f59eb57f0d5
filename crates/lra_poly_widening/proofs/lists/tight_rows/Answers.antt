-- Goals of `tight_rows`: the constraints of the second that are tight on the first.
use Rattle.std.proofs.Common.{arith, ap, sym, ◌∙◌, ◌≡◌, ◌+◌, [], length, map, suc, List}
use Rattle.std.specs.List.{filter}
use Rattle.lra_poly_widening.specs.Crates.{lra_duality.Saturations.saturated, lra_linear_spec.Descriptions.LinearRow, lra_linear_spec.Kinds.is_equality, lra_linear_spec.Widening.is_tight}
use Rattle.lra_poly_widening.specs.Crates.{lra_linear_spec.declared.ConKind.TheVariants.Ge}
use Rattle.lra_systems.proofs.FirstMembers.{front, member}
use Rattle.lra_systems.specs.LinearSystems.{constraints}
use Rattle.lra_poly_widening.proofs.Loops.{front_seen, front_step, kept_step}
use Rattle.lra_poly_widening.proofs.lists.tight_rows.Goals as goal

pub is_tight-requires-clause-width : goal.is_tight-requires-clause-width
is_tight-requires-clause-width c =
    ap length c.index-rows-place.is ∙ c.rows-rows.ensures.widths c.loop-place.place c.index-rows-place.result c.loop-place-test.true ∙
    ap suc (c.rows-list.ensures.dims ∙ c.requires)

pub is_tight-requires-clause-classes : goal.is_tight-requires-clause-classes
is_tight-requires-clause-classes c =
    c.deref.ensures.value ∙ c.in_ok-classes.ensures ∙
    ap (λ (l : List LinearRow). map (λ (s : LinearRow). saturated l s.row) (constraints c.rows-own.result.now)) c.generators-generators.ensures.generators ∙
    ap (map (λ (s : LinearRow). saturated c.args.p.now.generators s.row)) c.rows-own.ensures.rows

pub push_if-requires : goal.push_if-requires
push_if-requires c =
    ap length c.index-rows-place.is ∙ c.rows-rows.ensures.widths c.loop-place.place c.index-rows-place.result c.loop-place-test.true ∙
    ap suc (c.rows-list.ensures.dims ∙ c.requires ∙ sym c.loop-place.invariant.dims)

pub loop-place-preserved : goal.loop-place-preserved
loop-place-preserved c =
    let rows = c.rows-rows.result.now in
    let kinds = c.kinds-kinds.result.now in
    let i = c.loop-place.place in
    let many : length kinds ≡ length rows = c.kinds-kinds.ensures.len ∙ ap length (sym c.rows-rows.ensures.rows) in
    record {
      dims = c.in_ok-push_if.ensures.dims ∙ c.loop-place.invariant.dims;
      rows = kept_step (is_tight c.args.p.now) [] (constraints c.loop-place.tight) (constraints c.push_if.new.list) (front is_equality rows kinds i) (front is_equality rows kinds (i + 1))
          (member is_equality kinds i c.index-rows-place.result Ge) c.in_ok-wanted.wanted (front_step is_equality rows kinds i c.index-rows-place.result Ge many c.loop-place-test.true
          c.index-rows-place.is)
          (c.in_ok-wanted.ensures (member is_equality kinds i c.index-rows-place.result Ge).equal) c.loop-place.invariant.rows c.in_ok-push_if.ensures.rows;
    }

pub returns-clause-rows : goal.returns-clause-rows
returns-clause-rows c =
    c.loop-place.invariant.rows ∙ ap (filter (is_tight c.args.p.now)) (front_seen is_equality c.rows-list.result.now c.rows-rows.result.now c.kinds-kinds.result.now c.loop-place.place
    c.rows-rows.ensures.rows c.kinds-kinds.ensures.kinds
    c.kinds-kinds.ensures.len (omega (arith, c.loop-place-test.false)) ∙ c.rows-list.ensures.rows)
