-- Between which numbers those of a type lie.
use Rattle.std.proofs.{Common.◌≡◌, Common.◌<◌, Common.ℕ, Common.ℤ, Common.pos, Common.true, Common.false, Common.arith, lemmas.Int.ints}
use Rattle.std.specs.Prelude.{◌≤ℤ◌, int_le, if◌then◌else◌}
use Rattle.lra_base.specs.NumberTypes.{least_of, greatest_of, fits, wider}
use Rattle.lra_base.specs.{declared.number_types.NumberType.NumberType, declared.number_types.NumberType.TheVariants.Int, declared.number_types.NumberType.TheVariants.Long}

both_sides : (l h z : ℤ) → (if int_le l z then int_le z h else false) ≡ true → (l ≤ℤ z) × (z ≤ℤ h)
both_sides l h z e = (grind (arith, ints), grind (arith, ints))

one_side : (l h z : ℤ) → l ≤ℤ z → z ≤ℤ h → (if int_le l z then int_le z h else false) ≡ true
one_side l h z a b = grind (arith, ints)

pub limits_of : (t : NumberType) (z : ℤ) → fits t z ≡ true → (least_of t ≤ℤ z) × (z ≤ℤ greatest_of t)
limits_of t z e = both_sides (least_of t) (greatest_of t) z e

pub fits_between : (t : NumberType) (z : ℤ) → least_of t ≤ℤ z → z ≤ℤ greatest_of t → fits t z ≡ true
fits_between t z a b = one_side (least_of t) (greatest_of t) z a b

pub int_is_long : (z : ℤ) → fits Int z ≡ true → fits Long z ≡ true
int_is_long z e =
    let b = limits_of Int z e in
    let l = b.0 in
    let h = b.1 in
    fits_between Long z (omega (arith, ints, l, h)) (omega (arith, ints, l, h))

-- each type's numbers have 64 bits
pub fits_long : (t : NumberType) (z : ℤ) → fits t z ≡ true → fits Long z ≡ true
fits_long Int z e = int_is_long z e
fits_long Long z e = e

-- a number of one type is one of the wider of two
pub fits_wider : (t u : NumberType) (z : ℤ) → fits t z ≡ true → fits (wider t u) z ≡ true
fits_wider Int Int z e = e
fits_wider Int Long z e = int_is_long z e
fits_wider Long u z e = e

-- without a sign
pub natural_limit : (t : NumberType) (n : ℕ) → fits t (pos n) ≡ true → n < 9223372036854775808
natural_limit t n e =
    let b = limits_of Long (pos n) (fits_long t (pos n) e) in
    let h = b.1 in
    omega (arith, ints, h)

pub natural_fits : (t : NumberType) (n : ℕ) → pos n ≤ℤ greatest_of t → fits t (pos n) ≡ true
natural_fits Int n h = fits_between Int (pos n) (omega (arith, ints)) h
natural_fits Long n h = fits_between Long (pos n) (omega (arith, ints)) h
