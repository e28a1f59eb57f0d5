-- Goals of `test_eq`: tests by `e = 0`.
use Rattle.std.proofs.Common.{rules}
use Rattle.lra_octagon.specs.{Content.matrix_view, Tables.minus_form}
use Rattle.lra_octagon.proofs.TestLemmas.{meets_eq, tested_as}
use Rattle.lra_octagon.proofs.testing.test_eq.Goals as goal

pub returns-clause-meets : goal.returns-clause-meets
returns-clause-meets c =
    let one = tested_as c.args.n c.args.t.now.expr _ _ (matrix_view c.args.bounds.now) (matrix_view c.in_ok-between.between) c.in_ok-between.one (search rules) (search rules)
    c.in_ok-between.ensures.tested in
    let two = tested_as c.args.n (minus_form c.args.t.now.expr) _ _ (matrix_view c.in_ok-between.between) (matrix_view c.in_ok-tested.tested) c.in_ok-tested.two (search rules) (search rules)
    c.in_ok-tested.ensures.tested in
    meets_eq c.args.n c.args.t.now.expr (matrix_view c.args.bounds.now) (matrix_view c.in_ok-between.between) (matrix_view c.in_ok-tested.tested) c.in_ok-between.one c.in_ok-tested.two c.worse.result
    c.requires.fit one two c.worse.ensures.exact c.worse.ensures.flagged
