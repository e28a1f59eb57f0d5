-- Intervals, what they hold, and the ends of a form's values over them.
use Rattle.std.specs.Prelude.{◌≡◌, zero, suc, Bool, false, int_lt, ℤ, pos, negsuc, ◌+ℤ◌, ◌*ℤ◌, ◌≤ℤ◌, List, [], ◌∷◌}
use Rattle.std.specs.Prelude.{Option, None, Some, option_and_then, IfSome, IsSomeAnd, ◌⊎◌}
use Rattle.lra_box.specs.Crates.lra_linear_forms.Form.{Form, form_value}
use Rattle.lra_box.specs.Crates.lra_linear_spec.Range.{InRange}
use Rattle.lra_domain.specs.declared.Exactness.TheVariants.{Exact, Flagged}
use Rattle.lra_box.specs.declared.interval.Side.TheVariants.{Low, High}
use Rattle.lra_box.specs.{declared.ends.Bound.Bound, declared.interval.Interval.Interval, declared.interval.Side.Side}

-- the bound, if there is one, holds of the number
abbrev pub BoundHolds : Side → Option ℤ → ℤ → Type 0
BoundHolds side None x = Unit {0}
BoundHolds Low (Some l) x = l ≤ℤ x
BoundHolds High (Some h) x = x ≤ℤ h

abbrev pub InInterval : Interval → ℤ → Type 0
InInterval i x = BoundHolds Low i.low x × BoundHolds High i.high x

-- each number is in its interval
abbrev pub InBounds : List Interval → List ℤ → Type 0
InBounds [] [] = Unit {0}
InBounds [] (x ∷ xs) = ⊥
InBounds (i ∷ is) [] = ⊥
InBounds (i ∷ is) (x ∷ xs) = InInterval i x × InBounds is xs

-- the interval of all numbers
abbrev pub full_interval : Interval
full_interval = record { low = None; high = None }

abbrev pub crossed_ends : Option ℤ → Option ℤ → Bool
crossed_ends None b = false
crossed_ends (Some a) None = false
crossed_ends (Some a) (Some b) = int_lt b a

-- the lower bound is above the upper one
abbrev pub crossed : Interval → Bool
crossed i = crossed_ends i.low i.high

-- the bounds that there are lie in the range
abbrev pub EndsInRange : Interval → Type 0
EndsInRange i = IfSome i.low InRange × IfSome i.high InRange

-- the bounds lie in the range, the lower one at most the upper one
abbrev pub IsValidInterval : Interval → Type 0
IsValidInterval i = EndsInRange i × (crossed i ≡ false)

abbrev pub AllValidIntervals : List Interval → Type 0
AllValidIntervals [] = Unit {0}
AllValidIntervals (i ∷ is) = IsValidInterval i × AllValidIntervals is

-- the product of a coefficient and a bound, if there is a bound
abbrev pub times : ℤ → Option ℤ → Option ℤ
times c None = None
times c (Some b) = Some (c *ℤ b)

-- the least or the greatest product of the coefficient with a number of the interval
abbrev pub end_product : Side → ℤ → Interval → Option ℤ
end_product side (pos zero) i = Some (pos 0)
end_product Low (pos (suc n)) i = times (pos (suc n)) i.low
end_product High (pos (suc n)) i = times (pos (suc n)) i.high
end_product Low (negsuc n) i = times (negsuc n) i.high
end_product High (negsuc n) i = times (negsuc n) i.low

-- a number plus the least or the greatest products, in column order; absent if one of these is
abbrev pub end_sum : Side → ℤ → List ℤ → List Interval → Option ℤ
end_sum side a [] is = Some a
end_sum side a (c ∷ cs) [] = Some a
end_sum side a (c ∷ cs) (i ∷ is) = option_and_then (λ p. end_sum side (a +ℤ p) cs is) (end_product side c i)

-- a product passes the range
abbrev pub TimesPasses : ℤ → Option ℤ → Type 0
TimesPasses c None = ⊥
TimesPasses c (Some b) = ¬ InRange (c *ℤ b)

abbrev pub EndProductPasses : Side → ℤ → Interval → Type 0
EndProductPasses side (pos zero) i = ⊥
EndProductPasses Low (pos (suc n)) i = TimesPasses (pos (suc n)) i.low
EndProductPasses High (pos (suc n)) i = TimesPasses (pos (suc n)) i.high
EndProductPasses Low (negsuc n) i = TimesPasses (negsuc n) i.high
EndProductPasses High (negsuc n) i = TimesPasses (negsuc n) i.low

-- a product or a partial sum passes the range; the sum ends at its first absent term, and nothing passes after it
abbrev pub SumPasses : Side → ℤ → List ℤ → List Interval → Type 0
SumPasses side a [] is = ⊥
SumPasses side a (c ∷ cs) [] = ⊥
SumPasses side a (c ∷ cs) (i ∷ is) =
    EndProductPasses side c i ⊎ IsSomeAnd (end_product side c i)
    (λ p. (¬ InRange (a +ℤ p)) ⊎ SumPasses side (a +ℤ p) cs is)

-- a computed bound is the table's, if nothing passes; it is absent and flagged only if something passes
pub record IsBound (table : Option ℤ) (passes : Type 0) (b : Bound) : Type 0 where
  pub exact : b.exactness ≡ Exact → b.value ≡ table
  pub flagged : b.exactness ≡ Flagged → passes × (b.value ≡ None)

abbrev pub form : ℤ → List ℤ → Form
form constant factors = record { constant = constant; coefficients = factors }

-- the least or the greatest value of the form over the box, or none if the values go on without end on that side
pub record IsExtreme (side : Side) (is : List Interval) (e : Form) (o : Option ℤ) : Type 0 where
  -- no value goes beyond the bound
  pub bounds : (s : List ℤ) → InBounds is s → BoundHolds side o (form_value e s)
  -- the bound is a value
  pub reached : (b : ℤ) → o ≡ Some b → (s : List ℤ) × InBounds is s × (form_value e s ≡ b)
  -- without a bound there is a value beyond each number
  pub endless : o ≡ None → (b : ℤ) → (s : List ℤ) × InBounds is s × (¬ BoundHolds side (Some b) (form_value e s))
