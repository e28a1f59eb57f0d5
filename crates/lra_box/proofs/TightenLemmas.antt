-- What a tightened interval is for a factor above or below zero, and that its ends stay in range.
use Rattle.std.proofs.Common.{◌≡◌, zero, suc, ℤ, pos, negsuc, Option, None, Some, true, refl, sym, ap, subst, ◌∙◌, arith, FitsSigned}
use Rattle.std.proofs.{Math.Nat.div-le_self, lemmas.Int.ints, lemmas.Int.clamps, lemmas.Int.to_z-of_z}
use Rattle.std.specs.{Int.w128, Int.cast_signed, Int.cast_unsigned, Int.int_div_euclid, Prelude.◌<ℤ◌, Prelude.◌-ℤ◌, Prelude.neg_ℤ, Prelude.int_lt, Prelude.IfSome}
use Rattle.lra_box.specs.Crates.lra_linear_spec.Range.{InRange}
use Rattle.lra_box.specs.{Bounds.EndsInRange, Refine.lowered, Refine.raised, Refine.tightened, declared.interval.Interval.Interval}

-- a number as 128 bits hold it
abbrev pub stored : ℤ → ℤ
stored z = cast_signed w128 (cast_unsigned w128 z)

in_fits : (z : ℤ) → InRange z → FitsSigned w128 z
in_fits (pos n) h = record { sfits = h }
in_fits (negsuc n) h = record { sfits = omega (arith, h) }

same_stored : (z : ℤ) → InRange z → stored z ≡ z
same_stored z h = to_z-of_z w128 z (in_fits z h)

is_below : (x y : ℤ) → int_lt x y ≡ true → x <ℤ y
is_below x y h = omega (arith, ints, h)

quotient_in : (c m : ℤ) → pos 0 <ℤ c → InRange m → InRange (int_div_euclid m c)
quotient_in (pos zero) m above h = absurd (omega (arith, ints, above))
quotient_in (pos (suc n)) (pos a) above h = let less = div-le_self a (suc n) in omega (arith, less, h)
quotient_in (pos (suc n)) (negsuc a) above h = let less = div-le_self a (suc n) in omega (arith, less, h)
quotient_in (negsuc n) m above h = absurd (omega (arith, ints, above))

opposite_in : (z : ℤ) → InRange z → InRange (neg_ℤ z)
opposite_in (pos zero) h = h
opposite_in (pos (suc n)) h = h
opposite_in (negsuc n) h = h

raised_in : (o : Option ℤ) (b : ℤ) → IfSome o InRange → InRange b → InRange (raised o b)
raised_in None b h k = k
raised_in (Some a) b h k = omega (arith, ints, clamps, h, k)

lowered_in : (o : Option ℤ) (b : ℤ) → IfSome o InRange → InRange b → InRange (lowered o b)
lowered_in None b h k = k
lowered_in (Some a) b h k = omega (arith, ints, clamps, h, k)

tightened_low : (c m : ℤ) (i : Interval) → pos 0 <ℤ c
    → record i { low = Some (raised i.low (neg_ℤ (int_div_euclid m c))) } ≡ tightened c (Some m) i
tightened_low (pos zero) m i above = absurd (omega (arith, ints, above))
tightened_low (pos (suc n)) m i above = refl
tightened_low (negsuc n) m i above = absurd (omega (arith, ints, above))

tightened_high : (c m : ℤ) (i : Interval) → c <ℤ pos 0
    → record i { high = Some (lowered i.high (int_div_euclid m (neg_ℤ c))) } ≡ tightened c (Some m) i
tightened_high (pos n) m i below = absurd (omega (arith, ints, below))
tightened_high (negsuc n) m i below = refl

minus : (z : ℤ) → pos 0 -ℤ z ≡ neg_ℤ z
minus z = omega (arith, ints)

stored_minus : (z : ℤ) → InRange z → stored (pos 0 -ℤ stored z) ≡ neg_ℤ z
stored_minus z h = ap (λ (x : ℤ). stored (pos 0 -ℤ x)) (same_stored z h) ∙ ap stored (minus z)
    ∙ same_stored (neg_ℤ z) (opposite_in z h)

module _ (c m q r : ℤ) (most : Option ℤ) (i : Interval) (is : most ≡ Some m) (factor : InRange c)
    (in_most : IfSome most InRange) (ends : EndsInRange i) where
  in_m : InRange m
  in_m = subst (λ (o : Option ℤ). IfSome o InRange) is in_most

  -- by a factor above zero
  module _ (above : int_lt (pos 0) (stored c) ≡ true) (quotient : q ≡ int_div_euclid (stored m) (stored c))
      (least : r ≡ raised i.low (stored (pos 0 -ℤ stored q))) where
    positive : pos 0 <ℤ c
    positive = subst (λ (x : ℤ). pos 0 <ℤ x) (same_stored c factor) (is_below (pos 0) (stored c) above)

    low_quotient : q ≡ int_div_euclid m c
    low_quotient = quotient ∙ ap (λ (x : ℤ). int_div_euclid x (stored c)) (same_stored m in_m)
        ∙ ap (λ (x : ℤ). int_div_euclid m x) (same_stored c factor)

    low_quotient_in : InRange q
    low_quotient_in = subst InRange (sym low_quotient) (quotient_in c m positive in_m)

    low_is : r ≡ raised i.low (neg_ℤ q)
    low_is = least ∙ ap (λ (x : ℤ). raised i.low x) (stored_minus q low_quotient_in)

    low_in : InRange r
    low_in = subst InRange (sym low_is) (raised_in i.low (neg_ℤ q) ends.0 (opposite_in q low_quotient_in))

    pub low_range : InRange (stored r) × IfSome i.high InRange
    low_range = (subst InRange (sym (same_stored r low_in)) low_in, ends.1)

    pub low_value : record i { low = Some (stored r) } ≡ tightened c most i
    low_value = ap (λ (x : ℤ). record i { low = Some x }) (same_stored r low_in ∙ low_is
        ∙ ap (λ (x : ℤ). raised i.low (neg_ℤ x)) low_quotient)
        ∙ tightened_low c m i positive ∙ ap (λ (o : Option ℤ). tightened c o i) (sym is)

  -- by a factor below zero
  module _ (below : int_lt (stored c) (pos 0) ≡ true) (quotient : q ≡ int_div_euclid (stored m) (stored (pos 0 -ℤ stored c)))
      (greatest : r ≡ lowered i.high (stored q)) where
    negative : c <ℤ pos 0
    negative = subst (λ (x : ℤ). x <ℤ pos 0) (same_stored c factor) (is_below (stored c) (pos 0) below)

    opposite : pos 0 <ℤ neg_ℤ c
    opposite = let less = negative in omega (arith, ints, less)

    high_quotient : q ≡ int_div_euclid m (neg_ℤ c)
    high_quotient = quotient ∙ ap (λ (x : ℤ). int_div_euclid x (stored (pos 0 -ℤ stored c))) (same_stored m in_m)
        ∙ ap (λ (x : ℤ). int_div_euclid m x) (stored_minus c factor)

    high_quotient_in : InRange q
    high_quotient_in = subst InRange (sym high_quotient) (quotient_in (neg_ℤ c) m opposite in_m)

    high_is : r ≡ lowered i.high q
    high_is = greatest ∙ ap (λ (x : ℤ). lowered i.high x) (same_stored q high_quotient_in)

    high_in : InRange r
    high_in = subst InRange (sym high_is) (lowered_in i.high q ends.1 high_quotient_in)

    pub high_range : IfSome i.low InRange × InRange (stored r)
    high_range = (ends.0, subst InRange (sym (same_stored r high_in)) high_in)

    pub high_value : record i { high = Some (stored r) } ≡ tightened c most i
    high_value = ap (λ (x : ℤ). record i { high = Some x }) (same_stored r high_in ∙ high_is
        ∙ ap (λ (x : ℤ). lowered i.high x) high_quotient)
        ∙ tightened_high c m i negative ∙ ap (λ (o : Option ℤ). tightened c o i) (sym is)
