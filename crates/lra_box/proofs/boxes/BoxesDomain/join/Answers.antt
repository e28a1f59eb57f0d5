-- Goals of `BoxesDomain::join`.
use Rattle.std.proofs.Common.{◌≡◌, refl, ap, sym, ◌∙◌}
use Rattle.lra_box.specs.{Content.BoxContent, Content.BoundsFit, Content.bounds_view, Covering.within_refl}
use Rattle.lra_box.proofs.{BoundLemmas.joined_fit, SoundLemmas.joined_sound, WithinLemmas.left_within, WithinLemmas.right_within}
use Rattle.lra_box.proofs.boxes.BoxesDomain.join.Goals as goal

pub invariant_of-self : goal.invariant_of-self
invariant_of-self c =
    let same : c.other.inside.dims ≡ c.self.inside.dims = ap (λ (b : BoxContent). b.dims) c.other.view_is ∙ sym c.requires ∙ sym (ap (λ (b : BoxContent). b.dims) c.self.view_is) in (
      c.self.invariant.0,
      rw c.in_ok-joined.ensures (joined_fit c.self.inside.dims (bounds_view c.self.inside.bounds) (bounds_view c.other.inside.bounds) c.self.invariant.1 (rw (← same) c.other.invariant.1)),
      rw c.in_ok-joined.ensures (joined_sound (bounds_view c.self.inside.bounds) (bounds_view c.other.inside.bounds) c.self.invariant.2 c.other.invariant.2),
    )

pub returns-clause-joins : goal.returns-clause-joins
returns-clause-joins c =
    let same : c.other.inside.dims ≡ c.self.inside.dims = ap (λ (b : BoxContent). b.dims) c.other.view_is ∙ sym c.requires ∙ sym (ap (λ (b : BoxContent). b.dims) c.self.view_is) in
    let fit : BoundsFit c.self.inside.dims (bounds_view c.other.inside.bounds) = rw (← same) c.other.invariant.1 in
    rw (c.in_ok-joined.ensures, ← c.self.view_is, ← c.other.view_is) (record {
      formed = (
        joined_fit c.self.inside.dims (bounds_view c.self.inside.bounds) (bounds_view c.other.inside.bounds) c.self.invariant.1 fit,
        joined_sound (bounds_view c.self.inside.bounds) (bounds_view c.other.inside.bounds) c.self.invariant.2 c.other.invariant.2,
      );
      left = (refl, left_within c.self.inside.dims _ _ c.self.invariant.1 fit);
      right = (same, right_within c.self.inside.dims _ _ c.self.invariant.1 fit);
      exact = λ e. refl;
      covers = λ v d. rw d (refl, within_refl _);
      flagged = λ e. cc;
    })
