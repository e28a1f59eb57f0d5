-- Goals of `OctagonDomain::assign`.
use Rattle.lra_octagon.specs.Content.{matrix_view}
use Rattle.lra_octagon.proofs.MarkLemmas.{assigned_mark}
use Rattle.lra_octagon.proofs.octagon.OctagonDomain.assign.Goals as goal

pub invariant_of-self : goal.invariant_of-self
invariant_of-self c = (
  c.self.invariant.0,
  c.in_ok-assigned.ensures.dims,
  c.in_ok-assigned.ensures.fit,
  assigned_mark c.self.inside.dims c.args.x c.args.e.now (matrix_view c.self.inside.matrix) (matrix_view c.in_ok-assigned.assigned) c.in_ok-assigned.exactness
      c.self.inside.is_tight c.assignment_closes.result c.makes_tight-self-inside.result (rw (← c.self.view_is) at c.requires.place)
      c.in_ok-assigned.ensures.meets c.makes_tight-self-inside.ensures c.self.invariant.3 c.assignment_closes.ensures,
)
