-- The end of a form's values, product by product.
use Rattle.std.proofs.Common.{◌≡◌, ◌∙◌, zero, suc, ℤ, pos, negsuc, ◌+ℤ◌, List, [], ◌∷◌, Option, None, Some, inl, inr, refl, sym, subst}
use Rattle.std.specs.Prelude.{◌⊎◌, IsSomeAnd}
use Rattle.lra_box.specs.Crates.lra_linear_spec.Range.{InRange}
use Rattle.lra_box.specs.{Bounds.EndProductPasses, Bounds.SumPasses, Bounds.TimesPasses, Bounds.end_product, Bounds.end_sum, Bounds.times, Ends.HasProduct, Ends.IsEndFrom, Ends.PlusEnd}
use Rattle.lra_box.specs.{declared.interval.Interval.Interval, declared.interval.Side.Side, declared.interval.Side.TheVariants.Low, declared.interval.Side.TheVariants.High}

-- no product is left
pub ends_here : (side : Side) (a : ℤ) (is : List Interval) → IsEndFrom side a [] is (Some a)
ends_here side a is = inl (λ x. x, refl)

-- what passes after a product that fits
passes_on : (side : Side) (a b c p : ℤ) (i : Interval) (cs : List ℤ) (is : List Interval) → end_product side c i ≡ Some p
    → ¬ EndProductPasses side c i → b ≡ a +ℤ p → InRange b → SumPasses side a (c ∷ cs) (i ∷ is) → SumPasses side b cs is
passes_on side a b c p i cs is product fits sum inside (inl x) = absurd (fits x)
passes_on side a b c p i cs is product fits sum inside (inr x) =
    elim (subst (λ (o : Option ℤ). IsSomeAnd o (λ q. (¬ InRange (a +ℤ q)) ⊎ SumPasses side (a +ℤ q) cs is)) product x) [
      | inl out ↦ absurd (out (subst InRange sum inside))
      | inr later ↦ subst (λ (z : ℤ). SumPasses side z cs is) (sym sum) later
    ]

passes_back : (side : Side) (a b c p : ℤ) (i : Interval) (cs : List ℤ) (is : List Interval) → end_product side c i ≡ Some p
    → b ≡ a +ℤ p → SumPasses side b cs is → SumPasses side a (c ∷ cs) (i ∷ is)
passes_back side a b c p i cs is product sum x = inr
    (subst (λ (o : Option ℤ). IsSomeAnd o (λ q. (¬ InRange (a +ℤ q)) ⊎ SumPasses side (a +ℤ q) cs is)) (sym product)
    (inr (subst (λ (z : ℤ). SumPasses side z cs is) sum x)))

same_sum : (side : Side) (a b c p : ℤ) (i : Interval) (cs : List ℤ) (is : List Interval) → end_product side c i ≡ Some p
    → b ≡ a +ℤ p → end_sum side b cs is ≡ end_sum side a (c ∷ cs) (i ∷ is)
same_sum side a b c p i cs is product sum = rw (product, sum) refl

-- the end goes on with one product more
pub ends_on : (side : Side) (a b c : ℤ) (i : Interval) (cs : List ℤ) (is : List Interval) (o : Option ℤ)
    → HasProduct side a c i b → IsEndFrom side b cs is o → IsEndFrom side a (c ∷ cs) (i ∷ is) o
ends_on side a b c i cs is o k (inl (fits, same)) =
    inl (
      λ x. fits (passes_on side a b c k.product i cs is k.is k.fits k.sum k.in_range x),
      same ∙ same_sum side a b c k.product i cs is k.is k.sum,
    )
ends_on side a b c i cs is o k (inr (passes, none)) =
    inr (passes_back side a b c k.product i cs is k.is k.sum passes, none)

-- or there is none
pub ends_none : (side : Side) (a c : ℤ) (i : Interval) (cs : List ℤ) (is : List Interval) → PlusEnd side a c i None
    → IsEndFrom side a (c ∷ cs) (i ∷ is) None
ends_none side a c i cs is (inl (fits, none)) = inl (
  λ x. elim x [
    | inl y ↦ fits y
    | inr y ↦ subst (λ (o : Option ℤ). IsSomeAnd o (λ q. (¬ InRange (a +ℤ q)) ⊎ SumPasses side (a +ℤ q) cs is)) none y
  ],
  rw none refl,
)
ends_none side a c i cs is (inr (inl passes)) = inr (inl passes, refl)
ends_none side a c i cs is (inr (inr (p, product, out))) = inr (
  inr (subst (λ (o : Option ℤ). IsSomeAnd o (λ q. (¬ InRange (a +ℤ q)) ⊎ SumPasses side (a +ℤ q) cs is)) (sym product)
      (inl out)),
  refl,
)

-- a product that is absent doesn't pass
times_fit : (c : ℤ) (o : Option ℤ) → times c o ≡ None → ¬ TimesPasses c o
times_fit c None e passes = passes
times_fit c (Some b) e passes = let wrong : ⊥ = cc in wrong

pub absent_fits : (side : Side) (c : ℤ) (i : Interval) → end_product side c i ≡ None → ¬ EndProductPasses side c i
absent_fits side (pos zero) i e passes = passes
absent_fits Low (pos (suc n)) i e passes = times_fit (pos (suc n)) i.low e passes
absent_fits High (pos (suc n)) i e passes = times_fit (pos (suc n)) i.high e passes
absent_fits Low (negsuc n) i e passes = times_fit (negsuc n) i.high e passes
absent_fits High (negsuc n) i e passes = times_fit (negsuc n) i.low e passes
