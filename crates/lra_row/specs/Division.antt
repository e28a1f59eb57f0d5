-- Division that rounds down.
use Rattle.std.specs.Int.{int_div_euclid}
use Rattle.std.specs.Prelude.{ℤ, pos, negsuc, suc, neg_ℤ, ◌+ℤ◌, ◌*ℤ◌, ◌≤ℤ◌, ◌<ℤ◌}

-- q is a / b rounded down: q is at most a / b and q + 1 is above it, both sides taken times b
abbrev pub IsFloor : ℤ → ℤ → ℤ → Type 0
IsFloor a (pos b) q = ((q *ℤ pos b) ≤ℤ a) × (a <ℤ ((q +ℤ pos 1) *ℤ pos b))
IsFloor a (negsuc b) q = (a ≤ℤ (q *ℤ negsuc b)) × (((q +ℤ pos 1) *ℤ negsuc b) <ℤ a)

-- that number: by a positive divisor the remainder is not negative, and a / b is (-a) / (-b)
abbrev pub floor_quotient : ℤ → ℤ → ℤ
floor_quotient a (pos b) = int_div_euclid a (pos b)
floor_quotient a (negsuc b) = int_div_euclid (neg_ℤ a) (pos (suc b))
