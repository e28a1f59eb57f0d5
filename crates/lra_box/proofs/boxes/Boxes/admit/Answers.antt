-- Goals of `Boxes::admit`.
use Rattle.lra_box.specs.Content.{BoxContent, bounds_view}
use Rattle.lra_box.proofs.AdmitLemmas.{admitted_formed, admitted_stays, admitted_comes}
use Rattle.lra_box.proofs.boxes.Boxes.admit.Goals as goal

pub invariant_of-self : goal.invariant_of-self
invariant_of-self c =
    let before : BoxContent = record { dims = c.self.inside.dims; bounds = bounds_view c.self.inside.bounds } in
    let formed = admitted_formed c.args.x c.args.interval.now before c.requires.range (c.self.invariant.1, c.self.invariant.2) in
    (c.self.invariant.0, rw c.admit_in.ensures formed.0, rw c.admit_in.ensures formed.1)

pub returns-clause-stores : goal.returns-clause-stores
returns-clause-stores c = rw (c.admit_in.ensures, ← c.self.view_is)
    (λ s h. admitted_stays c.args.x c.args.interval.now (record { dims = c.self.inside.dims; bounds = bounds_view c.self.inside.bounds }) s h)

pub returns-clause-values : goal.returns-clause-values
returns-clause-values c = rw (c.admit_in.ensures, ← c.self.view_is)
    (λ s z h k. admitted_comes c.args.x c.args.interval.now (record { dims = c.self.inside.dims; bounds = bounds_view c.self.inside.bounds }) s z h k)
