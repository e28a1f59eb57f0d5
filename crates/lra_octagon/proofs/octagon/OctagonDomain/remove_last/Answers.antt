-- Goals of `OctagonDomain::remove_last`.
use Rattle.std.proofs.Common.{◌-◌, arith}
use Rattle.lra_octagon.specs.Content.{matrix_view}
use Rattle.lra_octagon.proofs.{TightLemmas.first_tight, TransferLemmas.meets_remove}
use Rattle.lra_octagon.proofs.octagon.OctagonDomain.remove_last.Goals as goal

pub returns-clause-meets : goal.returns-clause-meets
returns-clause-meets c =
    rw (← c.self.view_is) (meets_remove c.self.inside.dims c.args.k (matrix_view c.self.inside.matrix) (matrix_view c.remove_in.new.bounds)
    (rw (← c.self.view_is) at c.requires) c.remove_in.ensures.fit c.remove_in.ensures.becomes)

pub invariant_of-self : goal.invariant_of-self
invariant_of-self c = (
  omega (arith, c.self.invariant.0),
  c.remove_in.ensures.dims,
  c.remove_in.ensures.fit,
  λ is. first_tight c.self.inside.dims (c.self.inside.dims - c.args.k) (matrix_view c.self.inside.matrix) (matrix_view c.remove_in.new.bounds) (omega arith)
      c.remove_in.ensures.becomes (c.self.invariant.3 is),
)
