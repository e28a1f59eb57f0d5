-- Upper bounds, which are whole numbers or none: no bound is above all. Lower ones likewise: no bound is below all.
use Rattle.std.specs.Int.{int_max, int_min}
use Rattle.std.specs.Prelude.{ℕ, ℤ, ◌≤ℤ◌, int_lt, cond, Option, None, Some, ⊤}

abbrev pub AtMost : Option ℤ → Option ℤ → Type 0
AtMost a None = Unit {0}
AtMost None (Some b) = ⊥
AtMost (Some a) (Some b) = a ≤ℤ b

-- the greater bound, none if one of the two is none
abbrev pub greater : Option ℤ → Option ℤ → Option ℤ
greater None b = None
greater (Some a) None = None
greater (Some a) (Some b) = Some (int_max a b)

-- the first bound if the second is at most it, else none
abbrev pub stable : Option ℤ → Option ℤ → Option ℤ
stable None b = None
stable (Some a) None = None
stable (Some a) (Some b) = cond (int_lt a b) None (Some a)

-- 1 for a bound, 0 for none
abbrev pub finite : Option ℤ → ℕ
finite None = 0
finite (Some a) = 1

-- the lesser lower bound, none if one of the two is none
abbrev pub lesser_low : Option ℤ → Option ℤ → Option ℤ
lesser_low None b = None
lesser_low (Some a) None = None
lesser_low (Some a) (Some b) = Some (int_min a b)

-- the number isn't below the bound, if there is one; it isn't above it
abbrev pub IsLowerBound : Option ℤ → ℤ → Type 0
IsLowerBound None z = ⊤
IsLowerBound (Some l) z = l ≤ℤ z

abbrev pub IsUpperBound : Option ℤ → ℤ → Type 0
IsUpperBound None z = ⊤
IsUpperBound (Some h) z = z ≤ℤ h

-- it lies between a lower and an upper bound
abbrev pub IsBetween : Option ℤ → Option ℤ → ℤ → Type 0
IsBetween l h z = IsLowerBound l z × IsUpperBound h z
