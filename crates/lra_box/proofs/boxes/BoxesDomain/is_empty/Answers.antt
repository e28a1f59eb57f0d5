-- Goals of `BoxesDomain::is_empty`: yes exactly if there is no part, and exactly if there is no store.
use Rattle.lra_box.specs.Content.{bounds_view}
use Rattle.lra_box.proofs.{SoundLemmas.none_stores, StepLemmas.has_length}
use Rattle.lra_box.proofs.boxes.BoxesDomain.is_empty.Goals as goal

pub returns-clause-stores : goal.returns-clause-stores
returns-clause-stores c =
    let none = none_stores c.self.inside.bounds c.is_none.result c.is_none.ensures c.self.invariant.2 in
    rw (← c.self.view_is) (
      λ t s h. none.0 t s h.1,
      λ empty. none.1 (λ s h. empty s (has_length c.self.inside.dims (bounds_view c.self.inside.bounds) s c.self.invariant.1 h, h)),
    )
