-- Goals of `BoxesDomain::embed`.
use Rattle.std.proofs.Common.{◌≡◌, ◌+◌, ℕ, refl, arith, ◌∙◌, length-append}
use Rattle.lra_box.specs.{Content.bounds_view, Covering.within_refl}
use Rattle.lra_box.proofs.StepLemmas.{embedded_fit, embedded_sound, has_embedded}
use Rattle.lra_box.proofs.boxes.BoxesDomain.embed.Goals as goal

pub invariant_of-self-2 : goal.invariant_of-self-2
invariant_of-self-2 c = (
  rw (← c.self.view_is) at c.requires,
  rw c.in_ok-embed_in.ensures.ok (embedded_fit c.self.inside.dims c.args.k (bounds_view c.self.inside.bounds) c.self.invariant.1),
  rw c.in_ok-embed_in.ensures.ok (embedded_sound c.args.k (bounds_view c.self.inside.bounds) c.self.invariant.2),
)

pub returns-clause-meets : goal.returns-clause-meets
returns-clause-meets c = rw (c.in_ok-embed_in.ensures.ok, ← c.self.view_is) (record {
  formed = (
    embedded_fit c.self.inside.dims c.args.k (bounds_view c.self.inside.bounds) c.self.invariant.1,
    embedded_sound c.args.k (bounds_view c.self.inside.bounds) c.self.invariant.2,
  );
  keeps = λ s t h k. rw k.2 (length-append s k.0 ∙ both h.0 k.1, has_embedded c.args.k (bounds_view c.self.inside.bounds) s k.0 k.1 h.1);
  exact = λ e. record { table = refl; extremes = tt };
  covers = λ v d. rw d.table (refl, within_refl _);
  flagged = λ e. cc;
})
  where
    both : {a b n k : ℕ} → a ≡ n → b ≡ k → a + b ≡ n + k
    both e f = omega arith
