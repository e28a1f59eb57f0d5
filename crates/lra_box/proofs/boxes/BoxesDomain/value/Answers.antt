-- Goals of `BoxesDomain::value`.
use Rattle.std.proofs.Common.{refl}
use Rattle.lra_box.specs.Laws.{same_within}
use Rattle.lra_box.proofs.boxes.BoxesDomain.value.Goals as goal

pub returns-clause-values : goal.returns-clause-values
returns-clause-values c = rw (c.in_ok-copy_bounds.ensures, ← c.head.view_is) (record {
  formed = (c.head.invariant.1, c.head.invariant.2);
  stores = λ s h. h;
  covers = λ v d. same_within v _ d;
  exact = λ e. refl;
  flagged = λ e. cc;
})
