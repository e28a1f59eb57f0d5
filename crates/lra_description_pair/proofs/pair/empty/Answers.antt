-- Goals of `empty`: the polyhedron without a point.
use Rattle.lra_description_pair.specs.Crates.{lra_linear_spec.OperationStrain.unit_row, lra_linear_spec.Vectors.negated, lra_linear_spec.declared.ConKind.TheVariants.Ge}
use Rattle.lra_description_pair.proofs.{ConstraintLists.nothing_is, KnownPairs.nothing_known, PairLists.empty_lists}
use Rattle.lra_description_pair.proofs.pair.empty.Goals as goal

pub invariant_of-result : goal.invariant_of-result
invariant_of-result c =
    let rows = c.in_ok-rows.rows in
    let list = c.new-by_generators.result in
    let u = empty_lists c.args.n rows list c.in_ok-rows.ensures.dims c.in_ok-rows.ensures.rows c.in_ok-rows.ensures.kinds c.new-by_generators.ensures.dims
    c.new-by_generators.ensures.rows in (
      u.0,
      u.1,
      u.2,
      u.3,
      nothing_known rows list (negated (unit_row c.args.n 0)) Ge c.in_ok-bits.bits c.new-saturation.result c.add_row.new.self c.in_ok-rows.ensures.rows
          c.in_ok-rows.ensures.kinds
          c.new-by_generators.ensures.rows c.new-by_generators.ensures.kinds c.in_ok-bits.ensures c.new-saturation.ensures c.in_ok-add_row.ensures.added,
    )

pub returns-clause-rows : goal.returns-clause-rows
returns-clause-rows c = nothing_is c.args.n c.in_ok-rows.rows c.in_ok-rows.ensures.rows c.in_ok-rows.ensures.kinds
