-- The trees whose steps are judged fit the iteration, and have each of their points once; their values have few dimensions.
use Rattle.std.proofs.Common.{◌≡◌, ◌∙◌, ℕ, zero, suc, ◌<◌, ◌≤◌, List, [], ◌∷◌, length, map, Some, None, refl, sym, ap, subst, arith, inl, inr}
use Rattle.std.proofs.{lemmas.List.length-map, lemmas.Option.none-some, lemmas.Option.same_Some, lemmas.Option.slice_get-get_or}
use Rattle.std.specs.Prelude.{slice_get, All, get_or}
use Rattle.lra_tests_analyses.proofs.Crates.{lra_fixpoint.Counting.one_other, lra_linear_spec.Membership.contains_none, lra_linear_spec.Membership.contains_cases}
use Rattle.lra_tests_analyses.specs.Crates.lra_fixpoint.Numbers.{one_if, values_in, checks_in, asserts_of, IsNumbered}
use Rattle.lra_tests_analyses.specs.Crates.{lra_analysis_spec.Live.live_after_op, lra_analysis_spec.LiveLimit.most_live, lra_domain.Abstraction.Abstraction, lra_fixpoint.Lives.PointsHave}
use Rattle.lra_tests_analyses.specs.Crates.{lra_fixpoint.Lives.AreWide, lra_overflow_checks.Judged.AreBelow, lra_pass_results.Dimensions.TreeFits, lra_transfer.Changes.OpFitsDims}
use Rattle.lra_operations.specs.declared.tree.Site as coded
use Rattle.lra_operations.specs.{CheckedOperations.OpAtPoint, CheckedOperations.accessing_ops, CheckedOperations.computing_ops, TreeViews.site_view}
use Rattle.lra_program.specs.{Sites.Site, Step.Op}
use Rattle.lra_tests_analyses.specs.Steps.{accesses_tree, steps_tree, steps_sites, tree_of}

one_at_most : (k : ℕ) → k < 4 → (s : Site) × (slice_get steps_sites k ≡ Some s) × (s.live ≤ 1)
one_at_most zero h = (_, refl, omega arith)
one_at_most (suc zero) h = (_, refl, omega arith)
one_at_most (suc (suc zero)) h = (_, refl, omega arith)
one_at_most (suc (suc (suc zero))) h = (_, refl, omega arith)
one_at_most (suc (suc (suc (suc k)))) h = absurd (omega (arith, h))

module _ (one two : Op) (kept : live_after_op one 1 ≡ 1) (kept_too : live_after_op two (live_after_op one 1) ≡ 1) where
  pub tree_fits : OpFitsDims one 1 → OpFitsDims two (live_after_op one 1) → TreeFits (tree_of one two) 0
  tree_fits first second = (
    (tt, none, (omega arith, one_lives, place)),
    one_lives,
    ((tt, one_lives, first), behind, ((tt, behind, second), last, tt)),
  )
    where
      none : 0 ≤ most_live
      none = omega arith

      one_lives : 1 ≤ most_live
      one_lives = omega arith

      place : 0 < 1
      place = omega arith

      behind : live_after_op one 1 ≤ most_live
      behind = omega (arith, kept)

      last : live_after_op two (live_after_op one 1) ≤ most_live
      last = omega (arith, kept_too)

  -- as many live at its points as are reported
  tree_lives : PointsHave steps_sites (tree_of one two) 0
  tree_lives = (
    (λ s there. ap (λ (t : Site). t.live) (same_Some _ s there), (tt, tt)),
    (
      (λ s there. ap (λ (t : Site). t.live) (same_Some _ s there), tt),
      ((λ s there. kept ∙ ap (λ (t : Site). t.live) (same_Some _ s there), tt), λ s there. kept_too ∙ ap (λ (t : Site). t.live) (same_Some _ s there)),
    ),
  )

  -- what the judging asks: each value has few dimensions
  pub steps_few : {V H : Type 0} (m : Abstraction V H) (values : List V) → length values ≡ 4
      → (PointsHave steps_sites (tree_of one two) 0 → AreWide m steps_sites values) → All (λ (v : V). m.dims v < most_live) values
  steps_few m values many wide k d h =
      let (s, there, low) = one_at_most k (subst (λ (n : ℕ). k < n) many h) in
      let dims = wide tree_lives k (get_or values k d) (slice_get-get_or values k d h) s there in
      omega (arith, dims, low)

values_once : (one two : Op) (k : ℕ) (s : Site) → slice_get steps_sites k ≡ Some s → values_in (tree_of one two) k ≡ 1
unfolding one_if
values_once one two zero s there = refl
values_once one two (suc zero) s there = refl
values_once one two (suc (suc zero)) s there = refl
values_once one two (suc (suc (suc zero))) s there = refl
values_once one two (suc (suc (suc (suc k)))) s there = absurd (none-some s there)

no_more_values : (one two : Op) (k : ℕ) → slice_get steps_sites k ≡ None → values_in (tree_of one two) k ≡ 0
unfolding one_if
no_more_values one two zero there = cc
no_more_values one two (suc zero) there = cc
no_more_values one two (suc (suc zero)) there = cc
no_more_values one two (suc (suc (suc zero))) there = cc
no_more_values one two (suc (suc (suc (suc k)))) there =
    let a = one_other 0 (suc (suc (suc (suc k)))) (λ e. omega (arith, e)) in
    let b = one_other 1 (suc (suc (suc (suc k)))) (λ e. omega (arith, e)) in
    let c = one_other 2 (suc (suc (suc (suc k)))) (λ e. omega (arith, e)) in
    let d = one_other 3 (suc (suc (suc (suc k)))) (λ e. omega (arith, e)) in
    omega (arith, a, b, c, d)

no_checks : (one two : Op) (k : ℕ) → checks_in (tree_of one two) k ≡ asserts_of (slice_get steps_sites k)
no_checks one two zero = refl
no_checks one two (suc zero) = refl
no_checks one two (suc (suc zero)) = refl
no_checks one two (suc (suc (suc zero))) = refl
no_checks one two (suc (suc (suc (suc k)))) = refl

pub steps_numbered : (one two : Op) → IsNumbered steps_sites (tree_of one two)
steps_numbered one two = record { values = values_once one two; no_values = no_more_values one two; checks = no_checks one two }

pub as_many : {A : Type 0} (sites : List coded.Site) (values : List A) → map site_view sites ≡ steps_sites → length values ≡ length sites
    → length values ≡ 4
as_many sites values are many = many ∙ sym (length-map sites site_view) ∙ ap length are

-- what the judging asks: each operation that is asked has a value
abbrev AllBelow : ℕ → List OpAtPoint → Type 0
AllBelow n [] = Unit {0}
AllBelow n (x ∷ xs) = (x.point < n) × AllBelow n xs

are_below : (n : ℕ) (xs : List OpAtPoint) → AllBelow n xs → AreBelow n xs
are_below n [] all a h = absurd (contains_none a h)
are_below n (x ∷ xs) all a h = elim (contains_cases x a xs h) [
  | inl same ↦ subst (λ (y : OpAtPoint). y.point < n) same all.0
  | inr later ↦ are_below n xs all.1 a later
]

pub accesses_below : (n : ℕ) → n ≡ 4 → AreBelow n (accessing_ops None accesses_tree)
accesses_below n is = subst (λ (k : ℕ). AreBelow k (accessing_ops None accesses_tree)) (sym is)
    (are_below 4 (accessing_ops None accesses_tree) (omega arith, (omega arith, tt)))

pub steps_below : (n : ℕ) → n ≡ 4 → AreBelow n (computing_ops None steps_tree)
steps_below n is = subst (λ (k : ℕ). AreBelow k (computing_ops None steps_tree)) (sym is)
    (are_below 4 (computing_ops None steps_tree) (omega arith, (omega arith, (omega arith, tt))))
