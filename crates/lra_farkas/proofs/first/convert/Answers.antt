-- Goals of `convert`: the polyhedron of the rows, which has a point.
use Rattle.lra_systems.specs.LinearSystems.{constraints}
use Rattle.lra_poly.proofs.MetRows.{never}
use Rattle.lra_farkas.proofs.FirstPoints.{convert_none, convert_exact, convert_strained}
use Rattle.lra_farkas.proofs.first.convert.Goals as goal

pub returns-then-is_empty-clause-failure : goal.returns-then-is_empty-clause-failure
returns-then-is_empty-clause-failure c =
    convert_none c.args.rows.now.dims (constraints c.args.rows.now) c.in_ok-made.made c.in_ok-made.outcome c.in_ok-made.ensures.becomes
    (c.is_empty.ensures.0 c.if-is_empty.true)

pub returns-then-not-is_exact-clause-failure : goal.returns-then-not-is_exact-clause-failure
returns-then-not-is_exact-clause-failure c =
    convert_strained c.args.rows.now.dims (constraints c.args.rows.now) c.in_ok-made.made c.in_ok-made.outcome c.in_ok-made.ensures.becomes
    (λ e. never c.is_exact.result c.if-not-is_exact.true (c.is_exact.ensures.1 e))

pub returns-clause-is : goal.returns-clause-is
returns-clause-is c =
    convert_exact c.args.rows.now.dims (constraints c.args.rows.now) c.in_ok-made.made c.in_ok-made.outcome c.in_ok-made.ensures.becomes
    (c.is_exact.ensures.0 c.if-not-is_exact.false)

pub returns-clause-some : goal.returns-clause-some
returns-clause-some c = λ e. never c.is_empty.result c.if-is_empty.false (c.is_empty.ensures.1 e)
