-- Goals of `OctagonDomain::test`.
use Rattle.lra_octagon.specs.Content.{matrix_view}
use Rattle.lra_octagon.proofs.MarkLemmas.{meets_unchanged, tested_mark}
use Rattle.lra_octagon.proofs.octagon.OctagonDomain.test.Goals as goal

pub returns-then-passes_all-clause-meets : goal.returns-then-passes_all-clause-meets
returns-then-passes_all-clause-meets c =
    rw (← c.self.view_is) (meets_unchanged c.self.inside.dims c.args.t.now.kind c.args.t.now.expr (matrix_view c.self.inside.matrix)
    c.self.invariant.2 (c.passes_all.ensures c.if-passes_all.true))

pub invariant_of-self : goal.invariant_of-self
invariant_of-self c = (
  c.self.invariant.0,
  c.in_ok-tested.ensures.dims,
  c.in_ok-tested.ensures.fit,
  tested_mark c.self.inside.dims c.args.t.now.kind c.args.t.now.expr (matrix_view c.self.inside.matrix) (matrix_view c.in_ok-tested.tested)
      c.in_ok-tested.exactness
      c.self.inside.is_tight c.test_closes.result c.makes_tight-self-inside.result c.in_ok-tested.ensures.meets c.makes_tight-self-inside.ensures
      c.self.invariant.3 c.test_closes.ensures,
)
