-- A tightened interval keeps each number for which the form may pass.
use Rattle.std.proofs.Common.{◌≡◌, ℕ, zero, suc, ◌+◌, ◌*◌, ◌/◌, ◌<◌, ◌≤◌, ℤ, pos, negsuc, List, [], ◌∷◌, length, Option, None, Some, refl, ap, ◌∙◌, ◌⊎◌, inl, inr, zero-add, arith}
use Rattle.std.proofs.{Math.ListN.length-set, Math.Nat.le-div_iff_mul-le, Math.Nat.div-lt_iff_lt-mul, Math.Nat.mul_comm, Math.Nat.suc-add, lemmas.Int.ints, lemmas.Int.clamps}
use Rattle.std.specs.{Int.int_div_euclid, Prelude.◌+ℤ◌, Prelude.◌*ℤ◌, Prelude.◌≤ℤ◌, Prelude.neg_ℤ, Prelude.slice_set, Prelude.slice_index_or}
use Rattle.lra_box.specs.Crates.lra_linear_spec.Vectors.{product}
use Rattle.lra_box.specs.{Bounds.full_interval, Bounds.BoundHolds, Bounds.InInterval, Bounds.InBounds, Refine.tightened, Refine.raised, Refine.lowered, Refine.others_most, Refine.refined}
use Rattle.lra_box.specs.{Refine.RefinePasses, Sums.end_sum_holds, declared.interval.Interval.Interval, declared.interval.Side.TheVariants.Low, declared.interval.Side.TheVariants.High}
use Rattle.lra_box.proofs.{BoxLemmas.in_length, ExtremeLemmas.flip}

-- q * d <= a for the quotient q, and a < (q + 1) * d
quotient : (a d : ℕ) → ((suc d) * (a / suc d) ≤ a) × (a < (suc d) * (a / suc d + 1))
quotient a d = (omega arith, omega arith)

floor_low : (n : ℕ) (m x : ℤ) → pos 0 ≤ℤ ((pos (suc n) *ℤ x) +ℤ m) → neg_ℤ (int_div_euclid m (pos (suc n))) ≤ℤ x
floor_low n (pos a) (pos b) h = grind (arith, ints)
floor_low n (pos a) (negsuc b) h =
    let q = quotient a n in
    let small : suc n * suc b ≤ a = omega (arith, ints) in
    let p : suc b ≤ a / suc n = (le-div_iff_mul-le (omega arith)).1 (rw mul_comm (omega arith)) in
    omega (arith, ints)
floor_low n (negsuc a) (pos b) h =
    let small : suc a ≤ suc n * b = omega (arith, ints) in
    let p : a / suc n < b = (div-lt_iff_lt-mul (omega arith)).1 (rw mul_comm (omega arith)) in
    omega (arith, ints)
floor_low n (negsuc a) (negsuc b) h = absurd (omega (arith, ints))

floor_high : (n : ℕ) (m x : ℤ) → pos 0 ≤ℤ ((negsuc n *ℤ x) +ℤ m) → x ≤ℤ int_div_euclid m (pos (suc n))
floor_high n m x h =
    let turned : negsuc n *ℤ x ≡ pos (suc n) *ℤ neg_ℤ x = flip n x in
    let low = floor_low n m (neg_ℤ x) (rw (← turned) h) in
    omega (arith, ints)

raised_holds : (o : Option ℤ) (b x : ℤ) → BoundHolds Low o x → b ≤ℤ x → raised o b ≤ℤ x
raised_holds None b x h k = k
raised_holds (Some a) b x h k = omega (arith, ints, clamps)

lowered_holds : (o : Option ℤ) (b x : ℤ) → BoundHolds High o x → x ≤ℤ b → x ≤ℤ lowered o b
lowered_holds None b x h k = k
lowered_holds (Some a) b x h k = omega (arith, ints, clamps)

-- the tightened interval keeps x, if the others add r, which is at most what is thought
pub tightened_holds : (c : ℤ) (o : Option ℤ) (i : Interval) (x r : ℤ) → InInterval i x → BoundHolds High o r → pos 0 ≤ℤ ((c *ℤ x) +ℤ r) → InInterval (tightened c o i) x
tightened_holds c None i x r h k p = h
tightened_holds (pos zero) (Some m) i x r h k p = h
tightened_holds (pos (suc n)) (Some m) i x r h k p = (raised_holds i.low _ x h.0 (floor_low n m x (omega (arith, ints))), h.1)
tightened_holds (negsuc n) (Some m) i x r h k p = (h.0, lowered_holds i.high _ x h.1 (floor_high n m x (omega (arith, ints))))

-- a place where the variable doesn't occur stays as it is
pub tightened_zero : (o : Option ℤ) (i : Interval) → tightened (pos 0) o i ≡ i
tightened_zero None i = refl
tightened_zero (Some m) i = refl

-- a form's value is the term of a place and the rest
pub product_apart : (cs xs : List ℤ) (k : ℕ) → k < length cs → length cs ≡ length xs →
    product cs xs ≡ (slice_index_or cs k (pos 0) *ℤ slice_index_or xs k (pos 0)) +ℤ product (slice_set cs k (pos 0)) xs
product_apart [] xs k h e = absurd (omega arith)
product_apart (c ∷ cs) [] k h e = absurd (omega arith)
product_apart (c ∷ cs) (x ∷ xs) zero h e = let z : pos 0 *ℤ x ≡ pos 0 = grind (arith, ints) in rw z (omega (arith, ints))
product_apart (c ∷ cs) (x ∷ xs) (suc k) h e = let rest = product_apart cs xs k (omega arith) (omega arith) in omega (arith, ints)

-- what was read goes back
pub set_back : (xs : List ℤ) (k : ℕ) (v w : ℤ) → w ≡ slice_index_or xs k (pos 0) → k < length xs → slice_set (slice_set xs k v) k w ≡ xs
set_back [] k v w e h = absurd (omega arith)
set_back (x ∷ xs) zero v w e h = ap (λ y. y ∷ xs) e
set_back (x ∷ xs) (suc k) v w e h = ap (λ ys. x ∷ ys) (set_back xs k v w e (omega arith))

pub in_at : (is : List Interval) (s : List ℤ) (k : ℕ) → InBounds is s → k < length is → InInterval (slice_index_or is k full_interval) (slice_index_or s k (pos 0))
in_at [] s k h p = absurd (omega arith)
in_at (i ∷ is) [] k h p = absurd h
in_at (i ∷ is) (x ∷ xs) zero h p = h.0
in_at (i ∷ is) (x ∷ xs) (suc k) h p = in_at is xs k h.1 (omega arith)

either_holds : (o p : Option ℤ) (r : ℤ) → (o ≡ None) ⊎ (o ≡ p) → BoundHolds High p r → BoundHolds High o r
either_holds o p r (inl e) h = rw e tt
either_holds o p r (inr e) h = rw e h

-- the tightened interval of a place keeps the store's number there, if the form passes
pub place_holds : (a : ℤ) (cs : List ℤ) (k : ℕ) (is : List Interval) (s : List ℤ) (o : Option ℤ) → k < length cs → length cs ≡ length is → InBounds is s
    → pos 0 ≤ℤ (a +ℤ product cs s) → (o ≡ None) ⊎ (o ≡ others_most a cs k is)
    → InInterval (tightened (slice_index_or cs k (pos 0)) o (slice_index_or is k full_interval)) (slice_index_or s k (pos 0))
place_holds a cs k is s o h e inside passes either =
    let long : length s ≡ length is = in_length is s inside in
    let set_long : length (slice_set cs k (pos 0)) ≡ length is = length-set {A = ℤ} cs k (pos 0) ∙ e in
    let apart = product_apart cs s k h (omega arith) in
    tightened_holds (slice_index_or cs k (pos 0)) o (slice_index_or is k full_interval) (slice_index_or s k (pos 0)) (a +ℤ product (slice_set cs k (pos 0)) s)
    (in_at is s k inside (omega arith))
    (either_holds o _ _ either (end_sum_holds High a (slice_set cs k (pos 0)) is s inside set_long))
    (omega (arith, ints))

pub none_stays : (a : ℤ) (cs : List ℤ) (k j : ℕ) (b : Option (List Interval)) → refined a cs k b ≡ None → refined a cs (j + k) b ≡ None
none_stays a cs k zero b h = rw zero-add h
none_stays a cs k (suc j) b h = let later = none_stays a cs k j b h in rw suc-add (rw later refl)

pub passes_stay : (a : ℤ) (cs : List ℤ) (k j : ℕ) (b : Option (List Interval)) → RefinePasses a cs k b → RefinePasses a cs (j + k) b
passes_stay a cs k zero b h = rw zero-add h
passes_stay a cs k (suc j) b h = rw suc-add (inl (passes_stay a cs k j b h))
