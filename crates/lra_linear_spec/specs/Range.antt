-- The range of the numbers that are computed with: from -(2^127 - 1) to 2^127 - 1.
use Rattle.std.specs.Prelude.{◌<◌, ◌^◌, ℤ, unsigned_abs, Bool, nat_lt}

abbrev pub InRange : ℤ → Type 0
InRange z = unsigned_abs z < 2 ^ 127

-- whether a number is in the range
abbrev pub in_range : ℤ → Bool
in_range z = nat_lt (unsigned_abs z) (2 ^ 127)
