-- How often a number has an entry among those that a pass finds.
use Rattle.std.specs.Prelude.{◌≡◌, ◌≤◌, ℕ, ◌+◌, List, [], ◌∷◌, Some, None, slice_get}
use Rattle.lra_fixpoint.specs.Crates.lra_analysis_spec.Pass.{PassEntry, value, failing, recorded}
use Rattle.lra_fixpoint.specs.Crates.lra_program.Sites.{Site}
use Rattle.lra_fixpoint.specs.Numbers.{one_if, asserts_of}

abbrev pub values_at : {V : Type 0} → ℕ → List (PassEntry V) → ℕ
values_at k [] = 0
values_at k (value q v ∷ xs) = one_if q k + values_at k xs
values_at k (failing q v ∷ xs) = values_at k xs
values_at k (recorded q place v ∷ xs) = values_at k xs

abbrev pub failing_at : {V : Type 0} → ℕ → List (PassEntry V) → ℕ
failing_at k [] = 0
failing_at k (value q v ∷ xs) = failing_at k xs
failing_at k (failing q v ∷ xs) = one_if q k + failing_at k xs
failing_at k (recorded q place v ∷ xs) = failing_at k xs

-- each of these sites has one value among the entries, each assertion among them one more where it is false, and no
-- other number has any
pub record AreCounted {V : Type 0} (T : List Site) (xs : List (PassEntry V)) : Type 0 where
  pub values : (q : ℕ) (s : Site) → slice_get T q ≡ Some s → values_at q xs ≡ 1
  pub no_values : (q : ℕ) → slice_get T q ≡ None → values_at q xs ≡ 0
  pub checks : (q : ℕ) → failing_at q xs ≡ asserts_of (slice_get T q)

-- no number has two values, or is twice where an assertion is false, and none from n on has any entry
pub record AreApart {V : Type 0} (n : ℕ) (xs : List (PassEntry V)) : Type 0 where
  pub few : (q : ℕ) → values_at q xs ≤ 1
  pub few_checks : (q : ℕ) → failing_at q xs ≤ 1
  pub none : (q : ℕ) → n ≤ q → values_at q xs ≡ 0
  pub no_checks : (q : ℕ) → n ≤ q → failing_at q xs ≡ 0
