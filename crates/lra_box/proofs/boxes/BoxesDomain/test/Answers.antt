-- Goals of `BoxesDomain::test`.
use Rattle.std.proofs.Common.{refl}
use Rattle.lra_box.proofs.boxes.BoxesDomain.test.Goals as goal

pub invariant_of-self-2 : goal.invariant_of-self-2
invariant_of-self-2 c = (
  c.self.invariant.0,
  c.in_ok-exactness.ensures.tested.fit c.self.inside.dims c.self.invariant.1,
  c.in_ok-exactness.ensures.tested.sound,
)

pub returns-clause-meets : goal.returns-clause-meets
returns-clause-meets c =
    let to = c.in_ok-exactness.ensures.tested in
    rw (← c.self.view_is) (record {
      formed = (to.fit c.self.inside.dims c.self.invariant.1, to.sound);
      keeps = λ s t h l. rw l.1 (h.0, to.stores s h.1 l.0);
      exact = λ e. record { table = rw (to.exact e) refl; extremes = tt };
      covers = λ v d. rw d.table (refl, to.covers);
      flagged = to.flagged;
    })
