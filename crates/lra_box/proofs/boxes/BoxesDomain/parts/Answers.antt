-- Goals of `BoxesDomain::parts`.
use Rattle.std.proofs.Common.{rules, ◌≡◌}
use Rattle.lra_box.specs.{Content.bounds_view, Parts.box_parts}
use Rattle.lra_box.proofs.{PartLemmas.parts_mean, boxes.BoxesDomain.parts.Goals.in-Some+in_ok-system_of+in_ok-push, boxes.BoxesDomain.parts.Goals.in_default}
use Rattle.lra_box.proofs.boxes.BoxesDomain.parts.Goals as goal

pub returns-clause-hold : goal.returns-clause-hold
returns-clause-hold c =
    let is : c.match-self.parts.items ≡ box_parts c.self.inside.dims (bounds_view c.self.inside.bounds) =
    elim c.match-self.branch [ in-Some+in_ok-system_of+in_ok-push w ↦ search rules | in_default w ↦ search rules ] in
    rw (← c.self.view_is, is) (λ s h. (parts_mean c.self.inside.dims (bounds_view c.self.inside.bounds) s c.self.invariant.1 h.0).0 h.1)
