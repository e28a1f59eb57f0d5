-- Which rows an octagon has, said of its bounds alone. The row q + v_i + v_j, with j the same as i the row q + v_i,
-- says that v_i' + v_j', or v_i', is at most q.
use Rattle.std.specs.Prelude.{◌≡◌, ◌≢◌, ◌<◌, ◌*◌, ◌/◌, ◌%◌, ℕ, ℤ, neg_ℤ, ◌+ℤ◌, ◌≤ℤ◌, List, Some, ◌⊎◌}
use Rattle.lra_dbm.specs.Tight.{Entries, opposite}
use Rattle.lra_octagon.specs.{Parts.pair_row, Tables.most}

-- two unary bounds imply the one of the sum
pub record IsImplied (m : Entries) (i j : ℕ) (q : ℤ) : Type 0 where
  pub first : ℤ
  pub second : ℤ
  pub is_first : most m (opposite i) ≡ Some first
  pub is_second : most m (opposite j) ≡ Some second
  pub below : (first +ℤ second) ≤ℤ q

-- q is the bound of v_i', or of v_i' + v_j' for another variable, there unless two unary ones imply it
abbrev pub IsRowBound : Entries → ℕ → ℕ → ℤ → Type 0
IsRowBound m i j q = ((i ≡ j) × (most m (opposite i) ≡ Some q))
    ⊎ ((i / 2 ≢ j / 2) × (m i (opposite j) ≡ Some q) × ¬ IsImplied m i j q)

-- the opposite bound is there too, and both are one number
abbrev pub MakesEquality : Entries → ℕ → ℕ → ℤ → Type 0
MakesEquality m i j q = IsRowBound m (opposite i) (opposite j) (neg_ℤ q)

-- the row of such a bound; its first variable comes first
pub record IsBoundRow (n : ℕ) (m : Entries) (r : List ℤ) : Type 0 where
  pub i : ℕ
  pub j : ℕ
  pub q : ℤ
  pub first : i < 2 * n
  pub second : j < 2 * n
  pub in_order : (i ≡ j) ⊎ (i / 2 < j / 2)
  pub bound : IsRowBound m i j q
  pub is : r ≡ pair_row n i j q

-- an equality is shown by the row whose first coefficient is above 0
pub record IsOctagonEquality (n : ℕ) (m : Entries) (r : List ℤ) : Type 0 where
  pub row : IsBoundRow n m r
  pub turned : row.i % 2 ≡ 0
  pub equality : MakesEquality m row.i row.j row.q

pub record IsOctagonInequality (n : ℕ) (m : Entries) (r : List ℤ) : Type 0 where
  pub row : IsBoundRow n m r
  pub alone : ¬ MakesEquality m row.i row.j row.q
