-- Goals of `Poly::empty`: no point, in n dimensions.
use Rattle.lra_description_pair.proofs.{ConstraintLists.nothing_is, PairLists.empty_lists}
use Rattle.lra_poly.specs.Crates.lra_systems.LinearSystems.{constraints}
use Rattle.lra_duality.proofs.PolyhedronLemmas.{falsity_is_empty}
use Rattle.lra_poly.proofs.poly.Poly.empty.Goals as goal

pub invariant_of-result : goal.invariant_of-result
invariant_of-result c =
    let lists = empty_lists c.args.n c.in_ok-rows.rows c.new-by_generators.result c.in_ok-rows.ensures.dims c.in_ok-rows.ensures.rows c.in_ok-rows.ensures.kinds
    c.new-by_generators.ensures.dims c.new-by_generators.ensures.rows in
    (lists.0, lists.1, lists.2, c.in_ok-saturation.ensures, lists.3)

pub returns-clause-none : goal.returns-clause-none
returns-clause-none c = falsity_is_empty c.args.n (constraints c.in_ok-rows.rows) (nothing_is c.args.n c.in_ok-rows.rows c.in_ok-rows.ensures.rows c.in_ok-rows.ensures.kinds)

pub returns-clause-canonical : goal.returns-clause-canonical
returns-clause-canonical c = (empty_lists c.args.n c.in_ok-rows.rows c.new-by_generators.result c.in_ok-rows.ensures.dims c.in_ok-rows.ensures.rows c.in_ok-rows.ensures.kinds
    c.new-by_generators.ensures.dims c.new-by_generators.ensures.rows).0
