-- Goals of `dimension`: the dimensions of the space less the equalities.
use Rattle.std.proofs.Common.{◌≡◌, ◌≤◌, ◌-◌, ◌∙◌, false, true, sym, ap, subst}
use Rattle.lra_poly_queries.specs.Crates.{lra_linear_spec.Descriptions.Con, lra_linear_spec.Points.IsEmptySet}
use Rattle.lra_poly_queries.proofs.DimensionLemmas.{at_most_dims, dimension_told}
use Rattle.lra_poly_queries.proofs.shape.dimension.Goals as goal

pub overflow_sub-result : goal.overflow_sub-result
overflow_sub-result c =
    let some : ¬ (IsEmptySet c.args.p.now.dims (Con c.args.p.now.rows)) =
    λ e. let z : false ≡ true = sym c.if-is_empty.false ∙ c.is_empty.ensures.1 e in cc in
    subst (λ n. c.equalities_before.result ≤ n) (sym c.dims.ensures)
    (at_most_dims c.args.p.now c.rows-list.result.now c.kinds.result.now c.equalities_before.result
    c.rows-list.ensures.canonical some c.rows-list.ensures.rows c.kinds.ensures.kinds c.kinds.ensures.len
    c.equalities_before.ensures)

pub returns-clause-some : goal.returns-clause-some
returns-clause-some c =
    let some : ¬ (IsEmptySet c.args.p.now.dims (Con c.args.p.now.rows)) =
    λ e. let z : false ≡ true = sym c.if-is_empty.false ∙ c.is_empty.ensures.1 e in cc in
    dimension_told c.args.p.now c.rows-list.result.now c.kinds.result.now c.equalities_before.result
    (c.dims.result - c.equalities_before.result) c.rows-list.ensures.canonical some c.rows-list.ensures.rows
    c.kinds.ensures.kinds c.kinds.ensures.len c.equalities_before.ensures
    (ap (λ n. n - c.equalities_before.result) c.dims.ensures)
