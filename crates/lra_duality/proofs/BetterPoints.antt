-- Which of two points has the greater value, as the comparison of two ratios reports it.
use Rattle.std.proofs.Common.{◌≡◌, ◌∙◌, ℤ, pos, negsuc, ◌*ℤ◌, ◌<ℤ◌, ◌≤ℤ◌, Bool, true, false, ap₂, sym, arith, FitsSigned}
use Rattle.std.proofs.{lemmas.Cmp.int_ranked, lemmas.Int.ints, lemmas.Int.to_z-of_z}
use Rattle.std.specs.declared.cmp.Ordering.TheVariants.{Less, Equal, Greater}
use Rattle.std.specs.{Bool.◌==◌, Int.w128, Int.cast_signed, Int.cast_unsigned, Ordering.int_cmp, Ordering.ordering_index, Ordering.MatchOrdering, declared.cmp.Ordering.Ordering}
use Rattle.lra_duality.specs.Crates.lra_linear_spec.Range.{InRange}

-- a number as 128 bits hold it
abbrev pub stored : ℤ → ℤ
stored z = cast_signed w128 (cast_unsigned w128 z)

fits : (z : ℤ) → InRange z → FitsSigned w128 z
fits (pos n) h = record { sfits = h }
fits (negsuc n) h = record { sfits = omega (arith, h) }

pub stored_is : (z x : ℤ) → InRange z → z ≡ x → stored z ≡ x
stored_is z x h e = to_z-of_z w128 z (fits z h) ∙ e

no_truth : false ≡ true → ⊥
no_truth e = cc

greater : (o : Ordering) (p q : ℤ) → MatchOrdering o (p <ℤ q) (p ≡ q) (q <ℤ p) → (ordering_index o == 2) ≡ true → q <ℤ p
greater Less p q m t = absurd (no_truth t)
greater Equal p q m t = absurd (no_truth t)
greater Greater p q m t = m

not_greater : (o : Ordering) (p q : ℤ) → MatchOrdering o (p <ℤ q) (p ≡ q) (q <ℤ p) → (ordering_index o == 2) ≡ false → p ≤ℤ q
not_greater Less p q m f = omega (arith, ints, m)
not_greater Equal p q m f = omega (arith, ints, m)
not_greater Greater p q m f = absurd (no_truth (sym f))

-- the ratio of the first two numbers is compared with that of the last two
module _ {v d w e : ℤ} (a x b y : ℤ) (o : Ordering) (r : Bool) (va : v ≡ a) (dx : d ≡ x) (wb : w ≡ b) (ey : e ≡ y) (compared : o ≡ int_cmp (v *ℤ e) (w *ℤ d)) (told : r ≡ (ordering_index o == 2)) where
  ranked : MatchOrdering o ((a *ℤ y) <ℤ (b *ℤ x)) ((a *ℤ y) ≡ (b *ℤ x)) ((b *ℤ x) <ℤ (a *ℤ y))
  ranked = int_ranked (a *ℤ y) (b *ℤ x) o (compared ∙ ap₂ int_cmp (ap₂ (λ (p q : ℤ). p *ℤ q) va ey) (ap₂ (λ (p q : ℤ). p *ℤ q) wb dx))

  pub is_above : r ≡ true → (b *ℤ x) <ℤ (a *ℤ y)
  is_above t = greater o (a *ℤ y) (b *ℤ x) ranked (sym told ∙ t)

  pub is_not_above : r ≡ false → (a *ℤ y) ≤ℤ (b *ℤ x)
  is_not_above f = not_greater o (a *ℤ y) (b *ℤ x) ranked (sym told ∙ f)
