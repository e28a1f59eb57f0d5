-- Adjacent pairs of rays on both sides of a row, by their places, judged on the matrix of the rows that are tight at
-- the rays.
use Rattle.std.specs.Prelude.{◌≡◌, ◌≢◌, ℕ, ◌<◌, ◌⊎◌, ℤ, pos, neg_ℤ, ◌<ℤ◌, Bool, true, false, map, replicate, suc, ◌+◌}
use Rattle.std.specs.Prelude.{◌≤◌, List, [], ◌∷◌, ◌++◌, length, slice_index_or}
use Rattle.std.specs.{List.Contains, Ordering.int_eq}
use Rattle.lra_bits.specs.{Matrix.Matrix, Matrix.unmarked, TruthValues.IsSubset, TruthValues.both}
use Rattle.lra_double_description.specs.Crates.lra_linear_spec.ConeStrain.{row_limit}
use Rattle.lra_double_description.specs.Crates.{lra_linear_spec.LowestTerms.IsLowest, lra_linear_spec.Vectors.blend}
use Rattle.lra_double_description.specs.Steps.{lengthened_rows, outside_marks, inside_count}
use Rattle.lra_double_description.specs.{declared.pairs.Pair.Pair, declared.ray_step.Cut.Cut}

-- a third ray is tight wherever `tight` is true
pub record HasThird (rows : List (List Bool)) (up down : ℕ) (tight : List Bool) : Type 0 where
  pub third : ℕ
  pub inside : third < length rows
  pub not_up : third ≢ up
  pub not_down : third ≢ down
  pub covers : IsSubset tight (slice_index_or rows third [])

-- none of the first n is
abbrev pub NoThird : List (List Bool) → ℕ → ℕ → List Bool → ℕ → Type 0
NoThird rows up down tight n = (k : ℕ) → k < n → k ≢ up → k ≢ down → ¬ (IsSubset tight (slice_index_or rows k []))

abbrev pub TellsAdjacent : List (List Bool) → ℕ → ℕ → List Bool → Bool → Type 0
TellsAdjacent rows up down tight true = NoThird rows up down tight (length rows)
TellsAdjacent rows up down tight false = HasThird rows up down tight

abbrev pub both_tight : List (List Bool) → ℕ → ℕ → List Bool
both_tight rows up down = both (slice_index_or rows up []) (slice_index_or rows down [])

-- two rays on both sides, adjacent
pub record IsAdjacentPair (products : List ℤ) (rows : List (List Bool)) (pair : Pair) : Type 0 where
  pub above : pos 0 <ℤ slice_index_or products pair.up (pos 0)
  pub below : slice_index_or products pair.down (pos 0) <ℤ pos 0
  pub is_tight : pair.tight ≡ both_tight rows pair.up pair.down
  pub alone : NoThird rows pair.up pair.down pair.tight (length rows)

-- the pairs' places differ
abbrev pub AreApart : List Pair → Type 0
AreApart [] = Unit {0}
AreApart (p ∷ pairs) = ((q : Pair) → Contains pairs q → q.up ≡ p.up → q.down ≡ p.down → ⊥) × AreApart pairs

-- the first ray stands before `up`, or at `up` with the second before `down`
abbrev pub IsBefore : ℕ → ℕ → ℕ → ℕ → Type 0
IsBefore up down i j = (i < up) ⊎ ((i ≡ up) × (j < down))

abbrev pub HasPair : List Pair → ℕ → ℕ → Type 0
HasPair pairs i j = (p : Pair) × Contains pairs p × (p.up ≡ i) × (p.down ≡ j)

-- the adjacent pairs among those up to there, each once
pub record ArePairs (products : List ℤ) (rows : List (List Bool)) (up down : ℕ) (pairs : List Pair) : Type 0 where
  pub each : (p : Pair) → Contains pairs p → IsAdjacentPair products rows p
  pub before : (p : Pair) → Contains pairs p → IsBefore up down p.up p.down
  pub apart : AreApart pairs
  pub whole : (i j : ℕ) → IsBefore up down i j →
      pos 0 <ℤ slice_index_or products i (pos 0) → slice_index_or products j (pos 0) <ℤ pos 0 →
      HasPair pairs i j ⊎ HasThird rows i j (both_tight rows i j)

-- ---- the new rays
abbrev pub HaveOneWidth : List (List ℤ) → Type 0
HaveOneWidth rays = (i j : ℕ) → i < length rays → j < length rays →
    length (slice_index_or rays i []) ≡ length (slice_index_or rays j [])

-- the two rays combined so that the product is 0
abbrev pub pair_sum : List ℤ → List (List ℤ) → Pair → List ℤ
pair_sum products rays pair =
    blend (neg_ℤ (slice_index_or products pair.down (pos 0))) (slice_index_or products pair.up (pos 0))
    (slice_index_or rays pair.up []) (slice_index_or rays pair.down [])

-- pair by pair, in lowest terms
abbrev pub AreCombined : List ℤ → List (List ℤ) → List Pair → List (List ℤ) → Type 0
AreCombined products rays [] [] = Unit {0}
AreCombined products rays [] (t ∷ ts) = ⊥
AreCombined products rays (p ∷ pairs) [] = ⊥
AreCombined products rays (p ∷ pairs) (t ∷ ts) =
    IsLowest (pair_sum products rays p) t × AreCombined products rays pairs ts

-- the rows that are tight at both, and the row that is added
abbrev pub pair_tight_rows : List Pair → List (List Bool)
pair_tight_rows [] = []
pair_tight_rows (p ∷ pairs) = (p.tight ++ true ∷ []) ∷ pair_tight_rows pairs

-- one more column; the rows of the rays that stay, and those of the pairs
abbrev pub cut_matrix : Matrix → List ℤ → List Pair → List Bool → Matrix
cut_matrix m products pairs gone = record {
  width = suc m.width;
  rows = unmarked gone (lengthened_rows m.rows (map (λ p. int_eq p (pos 0)) products) ++ pair_tight_rows pairs);
}

-- The marks of the rays that go, and the rays that come; if the row is tight at the rays and at the pairs' rays, and
-- the rows that are tight at both of each pair.
pub record IsCut (equal : Bool) (products : List ℤ) (rays : List (List ℤ)) (m : Matrix) (cut : Cut) : Type 0 where
  pub pairs : List Pair
  pub are_pairs : ArePairs products m.rows (length products) 0 pairs
  pub combined : AreCombined products rays pairs cut.rays.items
  pub marks : cut.gone ≡ outside_marks equal products ++ replicate (length pairs) false
  pub tight : cut.tight ≡ map (λ p. int_eq p (pos 0)) products ++ replicate (length pairs) true
  pub more : cut.more ≡ record { width = m.width; rows = map (λ p. p.tight) pairs }
  pub few : inside_count equal products + length pairs ≤ row_limit
