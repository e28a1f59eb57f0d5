-- The types of numbers: which numbers a type has, and in which type an operation on two values is done (ISO/IEC
-- 9899:2011, 6.2.5, 6.3.1.1, 6.3.1.8).
use Rattle.std.specs.Prelude.{ℤ, pos, negsuc, Bool, false, if◌then◌else◌, int_le}
use Rattle.lra_base.specs.declared.number_types.NumberType.{NumberType}
use Rattle.lra_base.specs.declared.number_types.NumberType.TheVariants.{Int, Long}

-- -2^31, -2^63
abbrev pub least_of : NumberType → ℤ
least_of Int = negsuc 2147483647
least_of Long = negsuc 9223372036854775807

-- 2^31 - 1, 2^63 - 1
abbrev pub greatest_of : NumberType → ℤ
greatest_of Int = pos 2147483647
greatest_of Long = pos 9223372036854775807

-- the number is one of the type
abbrev pub fits : NumberType → ℤ → Bool
fits t z = if int_le (least_of t) z then int_le z (greatest_of t) else false

-- of two values' types
abbrev pub wider : NumberType → NumberType → NumberType
wider Int t = t
wider Long t = Long
