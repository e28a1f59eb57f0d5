-- What the tables keep, and how the rank falls.
use Rattle.std.proofs.Common.{◌≡◌, ℕ, zero, suc, ℤ, List, [], ◌∷◌, length, Option, None, Some, refl, arith}
use Rattle.std.proofs.lemmas.Int.{ints, clamps}
use Rattle.std.specs.Prelude.{slice_set}
use Rattle.lra_box.specs.Crates.lra_linear_forms.Form.{Form, form_value}
use Rattle.lra_box.specs.{Bounds.BoundHolds, Bounds.InInterval, Bounds.InBounds, Bounds.end_sum, Bounds.SumPasses, Bounds.IsBound, Sums.end_sum_holds, Tables.joined_intervals}
use Rattle.lra_box.specs.{declared.ends.Bound.Bound, declared.interval.Interval.Interval, declared.interval.Side.Side, declared.interval.Side.TheVariants.Low, declared.interval.Side.TheVariants.High}
use Rattle.lra_domain.specs.{Bounds.greater, Bounds.lesser_low, declared.Exactness.Exactness, declared.Exactness.TheVariants.Exact, declared.Exactness.TheVariants.Flagged}

-- a computed bound holds if the table's does
bound_at : (side : Side) (table : Option ℤ) (passes : Type 0) (e : Exactness) (b : Bound) (v : ℤ) → b.exactness ≡ e → IsBound table passes b → BoundHolds side table v → BoundHolds side b.value v
bound_at side table passes Exact b v e is h = rw (is.exact e) h
bound_at side table passes Flagged b v e is h = rw (is.flagged e).1 tt

pub bound_holds : (side : Side) (table : Option ℤ) (passes : Type 0) (b : Bound) (v : ℤ) → IsBound table passes b → BoundHolds side table v → BoundHolds side b.value v
bound_holds side table passes b v is h = bound_at side table passes b.exactness b v refl is h

pub in_length : (is : List Interval) (s : List ℤ) → InBounds is s → length s ≡ length is
in_length [] [] h = refl
in_length [] (x ∷ xs) h = absurd h
in_length (i ∷ is) [] h = absurd h
in_length (i ∷ is) (x ∷ xs) h = omega (arith, in_length is xs h.1)

pub in_set : (is : List Interval) (s : List ℤ) (k : ℕ) (i : Interval) (v : ℤ) → InBounds is s → InInterval i v → InBounds (slice_set is k i) (slice_set s k v)
in_set [] [] k i v h p = tt
in_set [] (x ∷ xs) k i v h p = absurd h
in_set (j ∷ js) [] k i v h p = absurd h
in_set (j ∷ js) (x ∷ xs) zero i v h p = (p, h.1)
in_set (j ∷ js) (x ∷ xs) (suc k) i v h p = (h.0, in_set js xs k i v h.1 p)

-- what an assignment with these bounds keeps
pub assign_keeps : (is : List Interval) (x : ℕ) (e : Form) (low high : Bound) → length e.coefficients ≡ length is
    → IsBound (end_sum Low e.constant e.coefficients is) (SumPasses Low e.constant e.coefficients is) low
    → IsBound (end_sum High e.constant e.coefficients is) (SumPasses High e.constant e.coefficients is) high
    → (s : List ℤ) → InBounds is s → InBounds (slice_set is x (record { low = low.value; high = high.value })) (slice_set s x (form_value e s))
assign_keeps is x e low high long l h s inside =
    in_set is s x _ _ inside (
      bound_holds Low _ _ low _ l (end_sum_holds Low e.constant e.coefficients is s inside long),
      bound_holds High _ _ high _ h (end_sum_holds High e.constant e.coefficients is s inside long),
    )

pub low_left : (a b : Option ℤ) (x : ℤ) → BoundHolds Low a x → BoundHolds Low (lesser_low a b) x
low_left None b x h = tt
low_left (Some a) None x h = tt
low_left (Some a) (Some b) x h = omega (arith, ints, clamps)

pub low_right : (a b : Option ℤ) (x : ℤ) → BoundHolds Low b x → BoundHolds Low (lesser_low a b) x
low_right None b x h = tt
low_right (Some a) None x h = tt
low_right (Some a) (Some b) x h = omega (arith, ints, clamps)

pub high_left : (a b : Option ℤ) (x : ℤ) → BoundHolds High a x → BoundHolds High (greater a b) x
high_left None b x h = tt
high_left (Some a) None x h = tt
high_left (Some a) (Some b) x h = omega (arith, ints, clamps)

pub high_right : (a b : Option ℤ) (x : ℤ) → BoundHolds High b x → BoundHolds High (greater a b) x
high_right None b x h = tt
high_right (Some a) None x h = tt
high_right (Some a) (Some b) x h = omega (arith, ints, clamps)

pub in_joined_left : (is js : List Interval) (s : List ℤ) → length is ≡ length js → InBounds is s → InBounds (joined_intervals is js) s
in_joined_left [] js [] e h = tt
in_joined_left [] js (x ∷ xs) e h = absurd h
in_joined_left (i ∷ is) [] s e h = absurd (omega arith)
in_joined_left (i ∷ is) (j ∷ js) [] e h = absurd h
in_joined_left (i ∷ is) (j ∷ js) (x ∷ xs) e h = ((low_left i.low j.low x h.0.0, high_left i.high j.high x h.0.1), in_joined_left is js xs (omega arith) h.1)

pub in_joined_right : (is js : List Interval) (s : List ℤ) → length is ≡ length js → InBounds js s → InBounds (joined_intervals is js) s
in_joined_right [] [] s e h = h
in_joined_right [] (j ∷ js) s e h = absurd (omega arith)
in_joined_right (i ∷ is) [] s e h = absurd (omega arith)
in_joined_right (i ∷ is) (j ∷ js) [] e h = absurd h
in_joined_right (i ∷ is) (j ∷ js) (x ∷ xs) e h = ((low_right i.low j.low x h.0.0, high_right i.high j.high x h.0.1), in_joined_right is js xs (omega arith) h.1)
