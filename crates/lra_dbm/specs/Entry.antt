-- Entries of a matrix: a whole number, or none if the entry is infinite.
use Rattle.std.specs.Int.{int_min, int_div_euclid}
use Rattle.std.specs.Prelude.{ℤ, pos, ◌+ℤ◌, Option, None, Some, Bool, false, not, cond, IfSome}
use Rattle.lra_dbm.specs.Crates.lra_linear_spec.Range.{InRange, in_range}
use Rattle.lra_domain.specs.Bounds.{AtMost}

infix 4 ◌⊑◌
infixl 6 ◌⊞◌
-- at most; an infinite entry is above all
pub record ◌⊑◌ (a b : Option ℤ) : Type 0 where
  pub at_most : AtMost a b

-- the sum, infinite if one of the two is
abbrev pub ◌⊞◌ : Option ℤ → Option ℤ → Option ℤ
None ⊞ b = None
Some a ⊞ None = None
Some a ⊞ Some b = Some (a +ℤ b)

abbrev pub lesser : Option ℤ → Option ℤ → Option ℤ
lesser None b = b
lesser (Some a) None = Some a
lesser (Some a) (Some b) = Some (int_min a b)

-- half of an entry, rounded down
abbrev pub half_of : Option ℤ → Option ℤ
half_of None = None
half_of (Some a) = Some (int_div_euclid a (pos 2))

-- a number that passes the range counts as infinite
abbrev pub within_range : Option ℤ → Option ℤ
within_range None = None
within_range (Some v) = cond (in_range v) (Some v) None

abbrev pub passes_range : Option ℤ → Bool
passes_range None = false
passes_range (Some v) = not (in_range v)

-- a finite entry lies in the range
abbrev pub EntryInRange : Option ℤ → Type 0
EntryInRange v = IfSome v InRange
