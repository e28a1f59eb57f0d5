-- Which rows a box has, said of its bounds alone.
use Rattle.std.specs.Prelude.{◌≡◌, ◌⊎◌, ℕ, ℤ, pos, negsuc, neg_ℤ, List, Some, true, false, slice_get}
use Rattle.lra_box.specs.{Parts.bound_row, Parts.is_single, declared.interval.Interval.Interval}

-- x = l, if both bounds of x are l
pub record IsEqualityRow (n : ℕ) (is : List Interval) (r : List ℤ) : Type 0 where
  pub place : ℕ
  pub interval : Interval
  pub there : slice_get is place ≡ Some interval
  pub single : is_single interval ≡ true
  pub end : ℤ
  pub is_end : interval.low ≡ Some end
  pub row : r ≡ bound_row n place (neg_ℤ end) (pos 1)

-- x - l for a lower bound l, h - x for an upper bound h, if they aren't equal
abbrev pub IsOfEnd : ℕ → ℕ → Interval → List ℤ → Type 0
IsOfEnd n k i r = ((l : ℤ) × (i.low ≡ Some l) × (r ≡ bound_row n k (neg_ℤ l) (pos 1)))
    ⊎ ((h : ℤ) × (i.high ≡ Some h) × (r ≡ bound_row n k h (negsuc 0)))

pub record IsInequalityRow (n : ℕ) (is : List Interval) (r : List ℤ) : Type 0 where
  pub place : ℕ
  pub interval : Interval
  pub there : slice_get is place ≡ Some interval
  pub apart : is_single interval ≡ false
  pub of_end : IsOfEnd n place interval r
