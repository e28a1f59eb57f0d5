-- Goals of `Boxes::bound`.
use Rattle.lra_box.specs.Content.{bounds_view}
use Rattle.lra_box.proofs.AdmitLemmas.{bound_empty, bound_has}
use Rattle.lra_box.proofs.boxes.Boxes.bound.Goals as goal

pub returns-clause-empty : goal.returns-clause-empty
returns-clause-empty c = rw (c.find_bound.ensures, ← c.self.view_is) (bound_empty c.args.x
    (record { dims = c.self.inside.dims; bounds = bounds_view c.self.inside.bounds }) (c.self.invariant.1, c.self.invariant.2))

pub returns-clause-holds : goal.returns-clause-holds
returns-clause-holds c = rw (c.find_bound.ensures, ← c.self.view_is)
    (λ i s z e h g. bound_has c.args.x (bounds_view c.self.inside.bounds) i s z e h.1 g)
