-- The ends of a form over a box bound its values.
use Rattle.std.proofs.Common.{◌≡◌, ℕ, zero, suc, ℤ, pos, negsuc, List, [], ◌∷◌, length, Option, None, Some, inr, refl}
use Rattle.std.proofs.{Common.arith, lemmas.Int.ints}
use Rattle.std.specs.Prelude.{◌+ℤ◌, ◌*ℤ◌, option_and_then}
use Rattle.lra_box.specs.Crates.lra_linear_spec.Vectors.{product}
use Rattle.lra_box.specs.Bounds.{BoundHolds, InInterval, InBounds, times, end_product, end_sum, SumPasses}
use Rattle.lra_box.specs.Products.{mul_grows, mul_falls}
use Rattle.lra_box.specs.declared.interval.Side.TheVariants.{Low, High}
use Rattle.lra_box.specs.{declared.interval.Interval.Interval, declared.interval.Side.Side}

zero_product : (side : Side) (x : ℤ) → BoundHolds side (Some (pos 0)) (pos 0 *ℤ x)
zero_product Low x = grind (arith, ints)
zero_product High x = grind (arith, ints)

times_up : (side : Side) (n : ℕ) (o : Option ℤ) (x : ℤ) → BoundHolds side o x
    → BoundHolds side (times (pos n) o) (pos n *ℤ x)
times_up side n None x h = tt
times_up Low n (Some b) x h = mul_grows n b x h
times_up High n (Some b) x h = mul_grows n x b h

times_down_low : (n : ℕ) (o : Option ℤ) (x : ℤ) → BoundHolds High o x
    → BoundHolds Low (times (negsuc n) o) (negsuc n *ℤ x)
times_down_low n None x h = tt
times_down_low n (Some b) x h = mul_falls n x b h

times_down_high : (n : ℕ) (o : Option ℤ) (x : ℤ) → BoundHolds Low o x
    → BoundHolds High (times (negsuc n) o) (negsuc n *ℤ x)
times_down_high n None x h = tt
times_down_high n (Some b) x h = mul_falls n b x h

product_holds : (side : Side) (c : ℤ) (i : Interval) (x : ℤ) → InInterval i x
    → BoundHolds side (end_product side c i) (c *ℤ x)
product_holds side (pos zero) i x h = zero_product side x
product_holds Low (pos (suc n)) i x h = times_up Low (suc n) i.low x h.0
product_holds High (pos (suc n)) i x h = times_up High (suc n) i.high x h.1
product_holds Low (negsuc n) i x h = times_down_low n i.high x h.1
product_holds High (negsuc n) i x h = times_down_high n i.low x h.0

-- a bound of u is one of v, if u is on its side of v
weaken : (side : Side) (o : Option ℤ) (u v : ℤ) → BoundHolds side o u → BoundHolds side (Some u) v
    → BoundHolds side o v
weaken side None u v h k = tt
weaken Low (Some b) u v h k = omega (arith, ints)
weaken High (Some b) u v h k = omega (arith, ints)

shift : (side : Side) (a p q r : ℤ) → BoundHolds side (Some p) q
    → BoundHolds side (Some ((a +ℤ p) +ℤ r)) (a +ℤ (q +ℤ r))
shift Low a p q r h = omega (arith, ints)
shift High a p q r h = omega (arith, ints)

ends_alone : (side : Side) (a : ℤ) → BoundHolds side (Some a) (a +ℤ pos 0)
ends_alone Low a = omega (arith, ints)
ends_alone High a = omega (arith, ints)

end_sum_step : (side : Side) (a : ℤ) (o : Option ℤ) (q r : ℤ) (next : ℤ → Option ℤ) → BoundHolds side o q
    → ((p : ℤ) → BoundHolds side (next p) ((a +ℤ p) +ℤ r)) → BoundHolds side (option_and_then next o) (a +ℤ (q +ℤ r))
end_sum_step side a None q r next h later = tt
end_sum_step side a (Some p) q r next h later = weaken side (next p) _ _ (later p) (shift side a p q r h)

-- the end of the form is on its side of the form's value at each store
pub end_sum_holds : (side : Side) (a : ℤ) (cs : List ℤ) (is : List Interval) (xs : List ℤ) → InBounds is xs
    → length cs ≡ length is → BoundHolds side (end_sum side a cs is) (a +ℤ product cs xs)
end_sum_holds side a [] [] [] h e = ends_alone side a
end_sum_holds side a [] [] (x ∷ xs) h e = absurd h
end_sum_holds side a [] (i ∷ is) xs h e = absurd (omega arith)
end_sum_holds side a (c ∷ cs) [] xs h e = absurd (omega arith)
end_sum_holds side a (c ∷ cs) (i ∷ is) [] h e = absurd h
end_sum_holds side a (c ∷ cs) (i ∷ is) (x ∷ xs) h e =
    end_sum_step side a (end_product side c i) (c *ℤ x) (product cs xs) (λ p. end_sum side (a +ℤ p) cs is)
    (product_holds side c i x h.0) (λ p. end_sum_holds side (a +ℤ p) cs is xs h.1 (omega arith))

-- one product more, if it and the sum are in range
pub sum_step : (side : Side) (a c p b : ℤ) (i : Interval) (cs : List ℤ) (is : List Interval)
    → end_product side c i ≡ Some p → a +ℤ p ≡ b
    → (end_sum side a (c ∷ cs) (i ∷ is) ≡ end_sum side b cs is)
    × (SumPasses side b cs is → SumPasses side a (c ∷ cs) (i ∷ is))
sum_step side a c p b i cs is product sum = (rw (product, sum) refl, λ h. inr (rw (product, sum) (inr h)))
