-- The ends of a form over a box are its least and greatest value there.
use Rattle.std.proofs.Common.{◌≡◌, ℕ, zero, suc, ◌*◌, ◌≤◌, ℤ, pos, negsuc, List, [], ◌∷◌, length, Option, None, Some, refl, ◌∙◌, false, arith}
use Rattle.std.proofs.{lemmas.Int.ints, lemmas.Int.clamps, lemmas.Option.same_Some}
use Rattle.std.specs.{Int.int_min, Int.int_max, Prelude.◌+ℤ◌, Prelude.◌*ℤ◌, Prelude.◌≤ℤ◌, Prelude.neg_ℤ, Prelude.option_and_then}
use Rattle.lra_box.specs.Crates.{lra_linear_forms.Form.Form, lra_linear_spec.Vectors.product}
use Rattle.lra_box.specs.Bounds.{BoundHolds, InInterval, InBounds, crossed, crossed_ends, AllValidIntervals, times, end_product, end_sum, IsExtreme}
use Rattle.lra_box.specs.{Sums.end_sum_holds, declared.interval.Interval.Interval, declared.interval.Side.Side, declared.interval.Side.TheVariants.Low, declared.interval.Side.TheVariants.High}
use Rattle.lra_box.proofs.SoundLemmas.{some_number, some_store}

zero_product : (x : ℤ) → pos 0 *ℤ x ≡ pos 0
zero_product x = grind (arith, ints)

low_in : (i : Interval) (b : ℤ) → crossed i ≡ false → i.low ≡ Some b → InInterval i b
low_in i b h e = ends i.low i.high h e
  where
    ends : (l u : Option ℤ) → crossed_ends l u ≡ false → l ≡ Some b → BoundHolds Low l b × BoundHolds High u b
    ends None u h e = cc
    ends (Some l) None h e = let k : l ≡ b = same_Some l b e in rw k (omega (arith, ints), tt)
    ends (Some l) (Some u) h e = let k : l ≡ b = same_Some l b e in rw (← k) (omega (arith, ints), grind (arith, ints))

high_in : (i : Interval) (b : ℤ) → crossed i ≡ false → i.high ≡ Some b → InInterval i b
high_in i b h e = ends i.low i.high h e
  where
    ends : (l u : Option ℤ) → crossed_ends l u ≡ false → u ≡ Some b → BoundHolds Low l b × BoundHolds High u b
    ends l None h e = cc
    ends None (Some u) h e = let k : u ≡ b = same_Some u b e in rw k (tt, omega (arith, ints))
    ends (Some l) (Some u) h e = let k : u ≡ b = same_Some u b e in rw (← k) (grind (arith, ints), omega (arith, ints))

times_some : (c : ℤ) (o : Option ℤ) (p : ℤ) → times c o ≡ Some p → (b : ℤ) × (o ≡ Some b) × (c *ℤ b ≡ p)
times_some c None p e = cc
times_some c (Some b) p e = (b, refl, same_Some (c *ℤ b) p e)

times_none : (c : ℤ) (o : Option ℤ) → times c o ≡ None → o ≡ None
times_none c None e = refl
times_none c (Some b) e = cc

-- an end of the products is a product
product_reached : (side : Side) (c : ℤ) (i : Interval) (p : ℤ) → crossed i ≡ false → end_product side c i ≡ Some p → (x : ℤ) × (InInterval i x × (c *ℤ x ≡ p))
product_reached side (pos zero) i p h e = let x = some_number i h in (x.0, (x.1, zero_product x.0 ∙ same_Some (pos 0) p e))
product_reached Low (pos (suc n)) i p h e = let b = times_some (pos (suc n)) i.low p e in (b.0, (low_in i b.0 h b.1, b.2))
product_reached High (pos (suc n)) i p h e = let b = times_some (pos (suc n)) i.high p e in (b.0, (high_in i b.0 h b.1, b.2))
product_reached Low (negsuc n) i p h e = let b = times_some (negsuc n) i.high p e in (b.0, (high_in i b.0 h b.1, b.2))
product_reached High (negsuc n) i p h e = let b = times_some (negsuc n) i.low p e in (b.0, (low_in i b.0 h b.1, b.2))

-- an interval without a lower bound holds a number at most r; without an upper bound one at least r
below_in : (i : Interval) (r : ℤ) → i.low ≡ None → (x : ℤ) × (InInterval i x × (x ≤ℤ r))
below_in i r e = ends i.low i.high e
  where
    ends : (l u : Option ℤ) → l ≡ None → (x : ℤ) × ((BoundHolds Low l x × BoundHolds High u x) × (x ≤ℤ r))
    ends (Some l) u e = cc
    ends None None e = (r, ((tt, tt), omega (arith, ints)))
    ends None (Some u) e = (int_min u r, ((tt, omega (arith, ints, clamps)), omega (arith, ints, clamps)))

above_in : (i : Interval) (r : ℤ) → i.high ≡ None → (x : ℤ) × (InInterval i x × (r ≤ℤ x))
above_in i r e = ends i.low i.high e
  where
    ends : (l u : Option ℤ) → u ≡ None → (x : ℤ) × ((BoundHolds Low l x × BoundHolds High u x) × (r ≤ℤ x))
    ends l (Some u) e = cc
    ends None None e = (r, ((tt, tt), omega (arith, ints)))
    ends (Some l) None e = (int_max l r, ((omega (arith, ints, clamps), tt), omega (arith, ints, clamps)))

-- a factor of at least 1 carries a number at least as far from 0
far_down : (n : ℕ) (x r : ℤ) → x ≤ℤ r → r ≤ℤ pos 0 → (pos (suc n) *ℤ x) ≤ℤ r
far_down n (pos zero) r h k = let z : pos (suc n) *ℤ pos 0 ≡ pos 0 = grind (arith, ints) in omega (arith, ints)
far_down n (pos (suc x)) r h k = absurd (omega (arith, ints))
far_down n (negsuc x) (pos r) h k = absurd_or n x r k
  where
    absurd_or : (n x r : ℕ) → pos r ≤ℤ pos 0 → (pos (suc n) *ℤ negsuc x) ≤ℤ pos r
    absurd_or n x r k = grind (arith, ints)
far_down n (negsuc x) (negsuc r) h k = let g : suc r ≤ suc x = omega (arith, ints) in let m : suc x ≤ (suc n) * (suc x) = grown n (suc x) in grind (arith, ints)
  where
    grown : (n y : ℕ) → y ≤ (suc n) * y
    grown n y = grind arith

pub flip : (n : ℕ) (x : ℤ) → negsuc n *ℤ x ≡ pos (suc n) *ℤ neg_ℤ x
flip n (pos zero) = grind (arith, ints)
flip n (pos (suc k)) = grind (arith, ints)
flip n (negsuc k) = grind (arith, ints)

flip_pos : (n : ℕ) (x : ℤ) → pos (suc n) *ℤ x ≡ neg_ℤ (pos (suc n) *ℤ neg_ℤ x)
flip_pos n (pos zero) = grind (arith, ints)
flip_pos n (pos (suc k)) = grind (arith, ints)
flip_pos n (negsuc k) = grind (arith, ints)

-- if there is no end of the products there is a product beyond each number
product_endless : (side : Side) (c : ℤ) (i : Interval) (b : ℤ) → crossed i ≡ false → end_product side c i ≡ None → (x : ℤ) × (InInterval i x × (¬ BoundHolds side (Some b) (c *ℤ x)))
product_endless side (pos zero) i b h e = cc
product_endless Low (pos (suc n)) i b h e =
    let r = int_min (b +ℤ negsuc 0) (pos 0) in
    let x = below_in i r (times_none (pos (suc n)) i.low e) in
    let f = far_down n x.0 r x.1.1 (omega (arith, ints, clamps)) in
    (x.0, (x.1.0, λ k. omega (arith, ints, clamps)))
product_endless High (pos (suc n)) i b h e =
    let r = int_max (b +ℤ pos 1) (pos 0) in
    let x = above_in i r (times_none (pos (suc n)) i.high e) in
    let f = far_down n (neg_ℤ x.0) (neg_ℤ r) (omega (arith, ints)) (omega (arith, ints, clamps)) in
    let g = flip_pos n x.0 in
    (x.0, (x.1.0, λ k. omega (arith, ints, clamps)))
product_endless Low (negsuc n) i b h e =
    let r = int_max (neg_ℤ b +ℤ pos 1) (pos 0) in
    let x = above_in i r (times_none (negsuc n) i.high e) in
    let f = far_down n (neg_ℤ x.0) (neg_ℤ r) (omega (arith, ints)) (omega (arith, ints, clamps)) in
    let g = flip n x.0 in
    (x.0, (x.1.0, λ k. omega (arith, ints, clamps)))
product_endless High (negsuc n) i b h e =
    let r = int_min (neg_ℤ b +ℤ negsuc 0) (pos 0) in
    let x = below_in i r (times_none (negsuc n) i.low e) in
    let f = far_down n x.0 r x.1.1 (omega (arith, ints, clamps)) in
    let g = flip n x.0 in
    let u = flip_pos n x.0 in
    (x.0, (x.1.0, λ k. omega (arith, ints, clamps)))

-- the sum's end is a value of the form
sum_reached : (side : Side) (a : ℤ) (cs : List ℤ) (is : List Interval) (b : ℤ) → AllValidIntervals is → length cs ≡ length is → end_sum side a cs is ≡ Some b → (s : List ℤ) ×
    (InBounds is s × (a +ℤ product cs s ≡ b))
sum_reached side a [] [] b h l e = let k = same_Some a b e in ([], (tt, omega (arith, ints)))
sum_reached side a [] (i ∷ is) b h l e = absurd (omega arith)
sum_reached side a (c ∷ cs) [] b h l e = absurd (omega arith)
sum_reached side a (c ∷ cs) (i ∷ is) b h l e = by_product (λ p. sum_reached side (a +ℤ p) cs is b h.1 (omega arith)) (end_product side c i) refl e
  where
    by_product : ((p : ℤ) → end_sum side (a +ℤ p) cs is ≡ Some b → (s : List ℤ) × (InBounds is s × ((a +ℤ p) +ℤ product cs s ≡ b))) → (o : Option ℤ) → end_product side c i ≡ o →
        option_and_then (λ p. end_sum side (a +ℤ p) cs is) o ≡ Some b → (s : List ℤ) × (InBounds (i ∷ is) s × (a +ℤ product (c ∷ cs) s ≡ b))
    by_product later None o e = cc
    by_product later (Some p) o e =
        let x = product_reached side c i p h.0.1 o in
        let rest = later p e in
        (x.0 ∷ rest.0, ((x.1.0, rest.1.0), summed a p (c *ℤ x.0) (product cs rest.0) b x.1.1 rest.1.1))
      where
        summed : (a p q r b : ℤ) → q ≡ p → (a +ℤ p) +ℤ r ≡ b → a +ℤ (q +ℤ r) ≡ b
        summed a p q r b e f = omega (arith, ints)

beyond : (side : Side) (a q r b : ℤ) → ¬ BoundHolds side (Some ((b +ℤ neg_ℤ a) +ℤ neg_ℤ r)) q → ¬ BoundHolds side (Some b) (a +ℤ (q +ℤ r))
beyond Low a q r b h = λ k. h (omega (arith, ints))
beyond High a q r b h = λ k. h (omega (arith, ints))

carried : (side : Side) (a p q r b : ℤ) → q ≡ p → ¬ BoundHolds side (Some b) ((a +ℤ p) +ℤ r) → ¬ BoundHolds side (Some b) (a +ℤ (q +ℤ r))
carried Low a p q r b e h = λ k. h (omega (arith, ints))
carried High a p q r b e h = λ k. h (omega (arith, ints))

-- without an end there is a value beyond each number
sum_endless : (side : Side) (a : ℤ) (cs : List ℤ) (is : List Interval) (b : ℤ) → AllValidIntervals is → length cs ≡ length is → end_sum side a cs is ≡ None → (s : List ℤ) ×
    (InBounds is s × (¬ BoundHolds side (Some b) (a +ℤ product cs s)))
sum_endless side a [] is b h l e = cc
sum_endless side a (c ∷ cs) [] b h l e = absurd (omega arith)
sum_endless side a (c ∷ cs) (i ∷ is) b h l e = by_product (λ p. sum_endless side (a +ℤ p) cs is b h.1 (omega arith)) (end_product side c i) refl e
  where
    by_product : ((p : ℤ) → end_sum side (a +ℤ p) cs is ≡ None → (s : List ℤ) × (InBounds is s × (¬ BoundHolds side (Some b) ((a +ℤ p) +ℤ product cs s)))) → (o : Option ℤ) → end_product side c i ≡ o →
        option_and_then (λ p. end_sum side (a +ℤ p) cs is) o ≡ None → (s : List ℤ) × (InBounds (i ∷ is) s × (¬ BoundHolds side (Some b) (a +ℤ product (c ∷ cs) s)))
    by_product later None o e =
        let rest = some_store is h.1 in
        let x = product_endless side c i ((b +ℤ neg_ℤ a) +ℤ neg_ℤ (product cs rest.0)) h.0.1 o in
        (x.0 ∷ rest.0, ((x.1.0, rest.1), beyond side a (c *ℤ x.0) (product cs rest.0) b x.1.1))
    by_product later (Some p) o e =
        let x = product_reached side c i p h.0.1 o in
        let rest = later p e in
        (x.0 ∷ rest.0, ((x.1.0, rest.1.0), carried side a p (c *ℤ x.0) (product cs rest.0) b x.1.1 rest.1.1))

-- the end of a form's values over intervals in order is the least, or the greatest
pub end_is_extreme : (side : Side) (e : Form) (is : List Interval) → AllValidIntervals is → length e.coefficients ≡ length is → IsExtreme side is e (end_sum side e.constant e.coefficients is)
end_is_extreme side e is h l = record {
  bounds = λ s k. end_sum_holds side e.constant e.coefficients is s k l;
  reached = λ b o. let r = sum_reached side e.constant e.coefficients is b h l o in (r.0, r.1.0, r.1.1);
  endless = λ o b. let r = sum_endless side e.constant e.coefficients is b h l o in (r.0, r.1.0, r.1.1);
}
