-- Goals of `BoxesDomain::grow`.
use Rattle.std.proofs.{Common.◌≡◌, Common.refl, Common.ap, Common.sym, Common.◌∙◌, Common.inr, lemmas.Bool.false≢true}
use Rattle.lra_box.specs.{Content.BoxContent, Content.BoundsFit, Content.bounds_view, Covering.within_refl}
use Rattle.lra_box.proofs.{BoundLemmas.grown_fit, BoundLemmas.has_grown_old, BoundLemmas.has_grown_new, BoundLemmas.grown_falls, BoundLemmas.rank_fits, SoundLemmas.grown_sound}
use Rattle.lra_box.proofs.boxes.BoxesDomain.grow.Goals as goal

pub returns-then-is_within-clause-stays : goal.returns-then-is_within-clause-stays
returns-then-is_within-clause-stays c = λ e.
    let same : c.next.inside.dims ≡ c.head.inside.dims = ap (λ (b : BoxContent). b.dims) c.next.view_is ∙ sym c.requires ∙ sym (ap (λ (b : BoxContent). b.dims) c.head.view_is) in
    rw (← c.head.view_is, ← c.next.view_is) (same, c.is_within.ensures.0 c.if-is_within.true)

pub returns-then-is_within-clause-fits : goal.returns-then-is_within-clause-fits
returns-then-is_within-clause-fits c = rw (← c.head.view_is) (rank_fits _ c.head.invariant.0 c.head.invariant.1)

pub invariant_of-head : goal.invariant_of-head
invariant_of-head c =
    let same : c.next.inside.dims ≡ c.head.inside.dims = ap (λ (b : BoxContent). b.dims) c.next.view_is ∙ sym c.requires ∙ sym (ap (λ (b : BoxContent). b.dims) c.head.view_is) in (
      c.head.invariant.0,
      rw c.in_ok-grown.ensures
          (grown_fit c.args.mode c.head.inside.dims (bounds_view c.head.inside.bounds) (bounds_view c.next.inside.bounds) c.head.invariant.1
          (rw (← same) c.next.invariant.1)),
      rw c.in_ok-grown.ensures
          (grown_sound c.args.mode (bounds_view c.head.inside.bounds) (bounds_view c.next.inside.bounds) c.head.invariant.2 c.next.invariant.2),
    )

pub returns-clause-grew : goal.returns-clause-grew
returns-clause-grew c = λ a e.
    let same : c.next.inside.dims ≡ c.head.inside.dims = ap (λ (b : BoxContent). b.dims) c.next.view_is ∙ sym c.requires ∙ sym (ap (λ (b : BoxContent). b.dims) c.head.view_is) in
    let fit : BoundsFit c.head.inside.dims (bounds_view c.next.inside.bounds) = rw (← same) c.next.invariant.1 in
    rw (c.in_ok-grown.ensures, ← c.head.view_is, ← c.next.view_is) (record {
      formed = (
        grown_fit c.args.mode c.head.inside.dims (bounds_view c.head.inside.bounds) (bounds_view c.next.inside.bounds) c.head.invariant.1 fit,
        grown_sound c.args.mode (bounds_view c.head.inside.bounds) (bounds_view c.next.inside.bounds) c.head.invariant.2 c.next.invariant.2,
      );
      both = (
        λ s h. (h.0, has_grown_old c.args.mode c.head.inside.dims _ _ s c.head.invariant.1 fit h.1),
        λ s h. (h.0 ∙ same, has_grown_new c.args.mode c.head.inside.dims _ _ s c.head.invariant.1 fit h.1),
      );
      left = tt;
      covers = λ h d. rw d (refl, within_refl _);
      moved = λ x w. absurd (false≢true (rw c.if-is_within.false at (c.is_within.ensures.1 w.1)));
      exact = λ x. refl;
      flagged = λ x. cc;
    })

pub returns-clause-lower : goal.returns-clause-lower
returns-clause-lower c = λ a e m.
    let same : c.next.inside.dims ≡ c.head.inside.dims = ap (λ (b : BoxContent). b.dims) c.next.view_is ∙ sym c.requires ∙ sym (ap (λ (b : BoxContent). b.dims) c.head.view_is) in
    let fit : BoundsFit c.head.inside.dims (bounds_view c.next.inside.bounds) = rw (← same) c.next.invariant.1 in
    rw (c.in_ok-grown.ensures, ← c.head.view_is) (inr (inr (inr (
      refl,
      refl,
      refl,
      grown_falls c.args.mode c.head.inside.dims (bounds_view c.head.inside.bounds)
          (bounds_view c.next.inside.bounds) m c.head.invariant.1 fit (λ w. absurd (false≢true (rw c.if-is_within.false at (c.is_within.ensures.1 w)))),
    ))))

pub returns-clause-fits : goal.returns-clause-fits
returns-clause-fits c =
    let same : c.next.inside.dims ≡ c.head.inside.dims = ap (λ (b : BoxContent). b.dims) c.next.view_is ∙ sym c.requires ∙ sym (ap (λ (b : BoxContent). b.dims) c.head.view_is) in
    rw c.in_ok-grown.ensures (rank_fits _ c.head.invariant.0 (grown_fit c.args.mode c.head.inside.dims (bounds_view c.head.inside.bounds) (bounds_view c.next.inside.bounds) c.head.invariant.1
    (rw (← same) c.next.invariant.1)))
