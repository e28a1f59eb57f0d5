-- Goals of `BoxesDomain::forget`.
use Rattle.std.proofs.{Common.refl, Common.◌∙◌, Common.ℤ, Math.ListN.length-set}
use Rattle.lra_box.specs.{Bounds.full_interval, Content.bounds_view, Covering.within_refl}
use Rattle.lra_box.proofs.{BoundLemmas.has_forgotten, StepLemmas.set_fit, StepLemmas.forgotten_sound}
use Rattle.lra_box.proofs.boxes.BoxesDomain.forget.Goals as goal

pub invariant_of-self : goal.invariant_of-self
invariant_of-self c = (
  c.self.invariant.0,
  rw c.forget_in.ensures (set_fit c.self.inside.dims c.args.x full_interval (bounds_view c.self.inside.bounds) c.self.invariant.1),
  rw c.forget_in.ensures (forgotten_sound c.args.x (bounds_view c.self.inside.bounds) c.self.invariant.2),
)

pub returns-clause-meets : goal.returns-clause-meets
returns-clause-meets c = rw (c.forget_in.ensures, ← c.self.view_is) (record {
  formed = (
    set_fit c.self.inside.dims c.args.x full_interval (bounds_view c.self.inside.bounds) c.self.invariant.1,
    forgotten_sound c.args.x (bounds_view c.self.inside.bounds) c.self.invariant.2,
  );
  keeps = λ s t h k. rw k.1 (length-set {A = ℤ} s c.args.x k.0 ∙ h.0, has_forgotten c.args.x _ s k.0 h.1);
  exact = λ e. record { table = refl; extremes = tt };
  covers = λ v d. rw d.table (refl, within_refl _);
  flagged = λ e. cc;
})
