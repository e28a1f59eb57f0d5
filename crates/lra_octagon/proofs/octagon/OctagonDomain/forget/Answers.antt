-- Goals of `OctagonDomain::forget`.
use Rattle.lra_octagon.specs.Content.{matrix_view}
use Rattle.lra_octagon.proofs.{TightLemmas.forgotten_tight, TransferLemmas.meets_forget}
use Rattle.lra_octagon.proofs.octagon.OctagonDomain.forget.Goals as goal

pub returns-clause-meets : goal.returns-clause-meets
returns-clause-meets c =
    rw (← c.self.view_is) (meets_forget c.self.inside.dims c.args.x (matrix_view c.self.inside.matrix) (matrix_view c.forget_in.new.bounds) c.forget_in.ensures.fit c.forget_in.ensures.becomes)

pub invariant_of-self : goal.invariant_of-self
invariant_of-self c = (
  c.self.invariant.0,
  c.forget_in.ensures.dims,
  c.forget_in.ensures.fit,
  λ is. forgotten_tight c.self.inside.dims c.args.x (matrix_view c.self.inside.matrix) (matrix_view c.forget_in.new.bounds)
      (rw (← c.self.view_is) at c.requires)
      c.self.invariant.2 c.forget_in.ensures.becomes (c.self.invariant.3 is),
)
