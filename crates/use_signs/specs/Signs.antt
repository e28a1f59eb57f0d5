-- Signs: of each variable, whether it is known to be at least 0.
use Rattle.std.specs.Ordering.{int_eq}
use Rattle.std.specs.Prelude.{ℤ, pos, ◌≤ℤ◌, ℕ, Bool, true, false, not, ◌&&◌, ◌||◌, List, [], ◌∷◌, int_le}
use Rattle.guzhtarel.specs.{EntryDomains.EachEntry, EntryDomains.one_if, Polyhedra.OperationStrain.unit_row}

abbrev pub Known : Bool → ℤ → Type 0
Known false x = Unit {0}
Known true x = pos 0 ≤ℤ x

-- a sum of multiples is at least 0: no factor is below 0, and what isn't known has the factor 0
abbrev pub is_sum_known : List ℤ → List Bool → Bool
is_sum_known [] ks = true
is_sum_known (c ∷ cs) [] = true
is_sum_known (c ∷ cs) (k ∷ ks) = (int_le (pos 0) c && (k || int_eq c (pos 0))) && is_sum_known cs ks

-- the row of n + 1 columns that says that the number in a column is at least 0
abbrev pub sign_row : ℕ → ℕ → Bool → List (List ℤ)
sign_row n column false = []
sign_row n column true = unit_row n column ∷ []

abbrev pub sign : EachEntry Bool
sign = record {
  gamma = Known;
  leq = λ k j. k || not j;
  join = λ k j. k && j;
  top = false;
  bottom = true;
  number = one_if;
  rows = sign_row;
  value = λ f ks. int_le (pos 0) f.constant && is_sum_known f.coefficients ks;
}
