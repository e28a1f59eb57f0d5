-- Goals of `test_in`: the octagon's stores that pass the test.
use Rattle.std.proofs.Common.{rules}
use Rattle.lra_octagon.specs.Content.{matrix_view}
use Rattle.lra_octagon.proofs.TestLemmas.{meets_ge, tested_as}
use Rattle.lra_octagon.proofs.testing.test_in.Goals as goal

pub returns-in_ok-tested-in-Ge-clause-meets : goal.returns-in_ok-tested-in-Ge-clause-meets
returns-in_ok-tested-in-Ge-clause-meets c =
    let tested = tested_as c.args.n c.args.t.now.expr _ _ (matrix_view c.args.bounds.now) (matrix_view c.in_ok-tested-in-Ge.tested.0) c.in_ok-tested-in-Ge.tested.1 (search rules) (search rules)
    c.in_ok-tested-in-Ge.ensures.tested in
    rw c.in-Ge.is (meets_ge c.args.n c.args.t.now.expr (matrix_view c.args.bounds.now) (matrix_view c.in_ok-tested-in-Ge.tested.0) c.in_ok-tested-in-Ge.tested.1 c.requires.fit tested)
