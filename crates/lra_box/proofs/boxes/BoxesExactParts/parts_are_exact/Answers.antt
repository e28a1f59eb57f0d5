-- Goals of `BoxesExactParts::parts_are_exact`: what its rows report is all of a box.
use Rattle.lra_box.specs.Content.{bounds_view}
use Rattle.lra_box.proofs.PartLemmas.{parts_mean}
use Rattle.lra_box.proofs.boxes.BoxesExactParts.parts_are_exact.Goals as goal

pub returns : goal.returns
returns c = rw (← c.self.view_is) (λ s long h. (long, (parts_mean c.self.inside.dims (bounds_view c.self.inside.bounds) s c.self.invariant.1 long).1 h))
