-- Values with a dimension for each variable that lives at their points.
use Rattle.std.proofs.Common.{◌≡◌, ◌≤◌, ◌<◌, ◌^◌, ℕ, List, length, Some, sym, subst, ◌∙◌, arith, slice_get}
use Rattle.std.proofs.lemmas.Option.{slice_get_within}
use Rattle.lra_domain.specs.Abstraction.{Abstraction}
use Rattle.lra_program.specs.{Assertions.IsAssertion, Sites.Site}
use Rattle.lra_back.specs.Crates.lra_analysis_spec.LiveLimit.{most_live}
use Rattle.lra_back.specs.BackwardAnalysis.{AreWide}
use Rattle.lra_back.proofs.Crates.lra_linear_spec.ListPlaces.{also_there}

few_enough : (n : ℕ) → n ≤ most_live → n ≤ 2 ^ 30
few_enough n few = omega arith

module _ {V H : Type 0} (m : Abstraction V H) (sites : List Site) (forward : List V) where
  pub wide_at : AreWide m sites forward → (q : ℕ) (x : V) → slice_get forward q ≡ Some x → m.dims x ≤ most_live
  wide_at wide q x at =
      let s = also_there forward sites q x (sym wide.0) at in
      let fits = wide.1 q s.0 x s.1 at in
      subst (λ n. n ≤ most_live) (sym fits.0) fits.1

  pub assertion_inside : AreWide m sites forward → (p : ℕ) → IsAssertion sites p → p < length forward
  assertion_inside wide p asserts = subst (λ n. p < n) (sym wide.0) (slice_get_within sites p asserts.0 asserts.1)

  pub wide_values : (values : List V) → AreWide m sites forward → length values ≡ length forward
      → ((p : ℕ) (x v : V) → slice_get forward p ≡ Some x → slice_get values p ≡ Some v → m.dims v ≡ m.dims x) → AreWide m sites values
  wide_values values wide count dims = (
    count ∙ wide.0,
    λ p s v there at.
        let x = also_there values forward p v (sym count) at in
        let fits = wide.1 p s x.0 there x.1 in
        (dims p x.0 v x.1 at ∙ fits.0, fits.1),
  )
