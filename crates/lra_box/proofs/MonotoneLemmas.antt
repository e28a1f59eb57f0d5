-- A test on narrower bounds gives narrower bounds.
use Rattle.std.proofs.Common.{◌≡◌, ℕ, zero, suc, ◌*◌, ◌/◌, ◌≤◌, ℤ, pos, negsuc, List, [], ◌∷◌, length, Option, None, Some, Bool, true, false, cond, refl, sym, ◌∙◌, arith}
use Rattle.std.proofs.{Math.Nat.le-div_iff_mul-le, lemmas.Bool.false≢true, lemmas.Int.ints, lemmas.Int.clamps}
use Rattle.std.specs.{Int.int_div_euclid, Prelude.◌+ℤ◌, Prelude.◌≤ℤ◌, Prelude.neg_ℤ, Prelude.slice_set, Prelude.slice_index_or, Prelude.int_lt, Prelude.option_and_then}
use Rattle.lra_box.specs.Refine.{raised, lowered, tightened, place_refined, refine_place, refined, some_occurs, ge_tested}
use Rattle.lra_box.specs.{Bounds.crossed, Bounds.times, Bounds.end_product, Bounds.end_sum, Products.mul_grows, Products.mul_falls, Tables.LowWithin, Tables.IntervalWithin, Tables.IntervalsWithin}
use Rattle.lra_box.specs.{Tables.BoundsWithin, declared.interval.Interval.Interval, declared.interval.Side.TheVariants.High}
use Rattle.lra_box.proofs.WithinLemmas.{set_within, at_within, crossed_within}
use Rattle.lra_domain.specs.Bounds.{AtMost}

times_up : (n : ℕ) (a b : Option ℤ) → AtMost a b → AtMost (times (pos n) a) (times (pos n) b)
times_up n a None w = tt
times_up n None (Some b) w = absurd w
times_up n (Some a) (Some b) w = mul_grows n a b w

times_down : (n : ℕ) (a b : Option ℤ) → LowWithin a b → AtMost (times (negsuc n) a) (times (negsuc n) b)
times_down n a None w = tt
times_down n None (Some b) w = absurd w
times_down n (Some a) (Some b) w = mul_falls n b a w

product_within : (c : ℤ) (i j : Interval) → IntervalWithin i j → AtMost (end_product High c i) (end_product High c j)
product_within (pos zero) i j w = omega (arith, ints)
product_within (pos (suc n)) i j w = times_up (suc n) i.high j.high w.1
product_within (negsuc n) i j w = times_down n i.low j.low w.0

-- the greatest value over narrower intervals is no greater
sum_within : (a b : ℤ) (cs : List ℤ) (is js : List Interval) → a ≤ℤ b → IntervalsWithin is js → AtMost (end_sum High a cs is) (end_sum High b cs js)
sum_within a b [] is js l w = l
sum_within a b (c ∷ cs) [] [] l w = l
sum_within a b (c ∷ cs) [] (j ∷ js) l w = absurd w
sum_within a b (c ∷ cs) (i ∷ is) [] l w = absurd w
sum_within a b (c ∷ cs) (i ∷ is) (j ∷ js) l w =
    both (λ p q m. sum_within (a +ℤ p) (b +ℤ q) cs is js (omega (arith, ints)) w.1) (end_product High c i) (end_product High c j) (product_within c i j w.0)
  where
    both : ((p q : ℤ) → p ≤ℤ q → AtMost (end_sum High (a +ℤ p) cs is) (end_sum High (b +ℤ q) cs js)) → (o p : Option ℤ) → AtMost o p
        → AtMost (option_and_then (λ p. end_sum High (a +ℤ p) cs is) o) (option_and_then (λ p. end_sum High (b +ℤ p) cs js) p)
    both later o None h = tt
    both later None (Some q) h = absurd h
    both later (Some p) (Some q) h = later p q h

-- a quotient rounded down grows with what is divided
nat_quotient : (a b d : ℕ) → a ≤ b → a / suc d ≤ b / suc d
nat_quotient a b d h =
    let q : (a / suc d) * suc d ≤ a = (le-div_iff_mul-le (omega arith)).0 (omega arith) in
    (le-div_iff_mul-le (omega arith)).1 (omega arith)

quotient_grows : (n : ℕ) (a b : ℤ) → a ≤ℤ b → int_div_euclid a (pos (suc n)) ≤ℤ int_div_euclid b (pos (suc n))
quotient_grows n (pos a) (pos b) h = let k : a ≤ b = omega (arith, ints) in let q = nat_quotient a b n k in omega (arith, ints)
quotient_grows n (pos a) (negsuc b) h = absurd (omega (arith, ints))
quotient_grows n (negsuc a) (pos b) h = omega (arith, ints)
quotient_grows n (negsuc a) (negsuc b) h = let k : b ≤ a = omega (arith, ints) in let q = nat_quotient b a n k in omega (arith, ints)

raised_within : (o p : Option ℤ) (a b : ℤ) → LowWithin o p → b ≤ℤ a → raised p b ≤ℤ raised o a
raised_within o None a b w h = below o
  where
    below : (o : Option ℤ) → b ≤ℤ raised o a
    below None = h
    below (Some x) = omega (arith, ints, clamps)
raised_within None (Some y) a b w h = absurd w
raised_within (Some x) (Some y) a b w h = omega (arith, ints, clamps)

lowered_within : (o p : Option ℤ) (a b : ℤ) → AtMost o p → a ≤ℤ b → lowered o a ≤ℤ lowered p b
lowered_within o None a b w h = above o
  where
    above : (o : Option ℤ) → lowered o a ≤ℤ b
    above None = h
    above (Some x) = omega (arith, ints, clamps)
lowered_within None (Some y) a b w h = absurd w
lowered_within (Some x) (Some y) a b w h = omega (arith, ints, clamps)

raised_in : (o p : Option ℤ) (a : ℤ) → LowWithin o p → LowWithin (Some (raised o a)) p
raised_in o None a w = tt
raised_in None (Some y) a w = absurd w
raised_in (Some x) (Some y) a w = omega (arith, ints, clamps)

lowered_in : (o p : Option ℤ) (a : ℤ) → AtMost o p → AtMost (Some (lowered o a)) p
lowered_in o None a w = tt
lowered_in None (Some y) a w = absurd w
lowered_in (Some x) (Some y) a w = omega (arith, ints, clamps)

-- tightening only narrows
pub tightened_in : (c : ℤ) (o : Option ℤ) (i j : Interval) → IntervalWithin i j → IntervalWithin (tightened c o i) j
tightened_in c None i j w = w
tightened_in (pos zero) (Some m) i j w = w
tightened_in (pos (suc n)) (Some m) i j w = (raised_in i.low j.low _ w.0, w.1)
tightened_in (negsuc n) (Some m) i j w = (w.0, lowered_in i.high j.high _ w.1)

tightened_within : (c : ℤ) (o p : Option ℤ) (i j : Interval) → AtMost o p → IntervalWithin i j → IntervalWithin (tightened c o i) (tightened c p j)
tightened_within c o None i j h w = tightened_in c o i j w
tightened_within c None (Some q) i j h w = absurd h
tightened_within (pos zero) (Some m) (Some q) i j h w = w
tightened_within (pos (suc n)) (Some m) (Some q) i j h w =
    let d = quotient_grows n m q h in
    (raised_within i.low j.low (neg_ℤ (int_div_euclid m (pos (suc n)))) (neg_ℤ (int_div_euclid q (pos (suc n)))) w.0 (omega (arith, ints)), w.1)
tightened_within (negsuc n) (Some m) (Some q) i j h w = (w.0, lowered_within i.high j.high _ _ w.1 (quotient_grows n m q h))

place_within : (a : ℤ) (cs : List ℤ) (k : ℕ) (is js : List Interval) → IntervalsWithin is js → IntervalWithin (place_refined a cs k is) (place_refined a cs k js)
place_within a cs k is js w =
    tightened_within (slice_index_or cs k (pos 0)) _ _ _ _ (sum_within a a (slice_set cs k (pos 0)) is js (omega (arith, ints)) w) (at_within is js k w)

-- what a place is replaced by, or none if that is crossed
pub put_within : (is js : List Interval) (k : ℕ) (i j : Interval) → IntervalsWithin is js → IntervalWithin i j
    → BoundsWithin (cond (crossed i) None (Some (slice_set is k i))) (cond (crossed j) None (Some (slice_set js k j)))
put_within is js k i j w v = by_tests (crossed i) (crossed j) refl refl
  where
    by_tests : (s t : Bool) → crossed i ≡ s → crossed j ≡ t → BoundsWithin (cond s None (Some (slice_set is k i))) (cond t None (Some (slice_set js k j)))
    by_tests true t e f = tt
    by_tests false true e f = absurd (false≢true (sym e ∙ crossed_within i j v f))
    by_tests false false e f = set_within is js k i j w v

pub refine_place_within : (a : ℤ) (cs : List ℤ) (k : ℕ) (b d : Option (List Interval)) → BoundsWithin b d → BoundsWithin (refine_place a cs k b) (refine_place a cs k d)
refine_place_within a cs k None d w = tt
refine_place_within a cs k (Some is) None w = absurd w
refine_place_within a cs k (Some is) (Some js) w = put_within is js k _ _ w (place_within a cs k is js w)

refined_within : (a : ℤ) (cs : List ℤ) (k : ℕ) (b d : Option (List Interval)) → BoundsWithin b d → BoundsWithin (refined a cs k b) (refined a cs k d)
refined_within a cs zero b d w = w
refined_within a cs (suc k) b d w = refine_place_within a cs k _ _ (refined_within a cs k b d w)

pub ge_tested_within : (a : ℤ) (cs : List ℤ) (b d : Option (List Interval)) → BoundsWithin b d → BoundsWithin (ge_tested a cs b) (ge_tested a cs d)
ge_tested_within a cs b d w = by_tests (some_occurs cs) (int_lt a (pos 0))
  where
    by_tests : (s t : Bool) → BoundsWithin (cond s (refined a cs (length cs) b) (cond t None b)) (cond s (refined a cs (length cs) d) (cond t None d))
    by_tests true t = refined_within a cs (length cs) b d w
    by_tests false true = tt
    by_tests false false = w
