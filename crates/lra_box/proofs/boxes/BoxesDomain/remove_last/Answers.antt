-- Goals of `BoxesDomain::remove_last`.
use Rattle.std.proofs.Common.{refl, arith, ◌-◌}
use Rattle.lra_box.specs.{Content.bounds_view, Covering.within_refl}
use Rattle.lra_box.proofs.StepLemmas.{taken_length, taken_fit, taken_sound, has_taken}
use Rattle.lra_box.proofs.boxes.BoxesDomain.remove_last.Goals as goal

pub invariant_of-self : goal.invariant_of-self
invariant_of-self c =
    let few = c.self.invariant.0 in (
      omega arith,
      rw c.truncate_in.ensures
          (taken_fit c.self.inside.dims (c.self.inside.dims - c.args.k) (bounds_view c.self.inside.bounds) (omega arith) c.self.invariant.1),
      rw c.truncate_in.ensures (taken_sound (c.self.inside.dims - c.args.k) (bounds_view c.self.inside.bounds) c.self.invariant.2),
    )

pub returns-clause-meets : goal.returns-clause-meets
returns-clause-meets c = rw (c.truncate_in.ensures, ← c.self.view_is) (record {
  formed = (
    taken_fit c.self.inside.dims (c.self.inside.dims - c.args.k) (bounds_view c.self.inside.bounds) (omega arith) c.self.invariant.1,
    taken_sound (c.self.inside.dims - c.args.k) (bounds_view c.self.inside.bounds) c.self.invariant.2,
  );
  keeps = λ s t h k. rw k (taken_length c.self.inside.dims c.args.k s h.0, has_taken c.self.inside.dims c.args.k (bounds_view c.self.inside.bounds) s c.self.invariant.1 h.1);
  exact = λ e. record { table = refl; extremes = tt };
  covers = λ v d. rw d.table (refl, within_refl _);
  flagged = λ e. cc;
})
