-- What multipliers show: if the premises hold, the claim does.
use Rattle.std.proofs.Common.{◌≡◌, ℕ, ◌<◌, ℤ, pos, ◌+ℤ◌, ◌*ℤ◌, ◌<ℤ◌, ◌≤ℤ◌, Bool, true, false, List, [], ◌∷◌, length, ap, sym, ◌∙◌, subst, arith}
use Rattle.std.proofs.lemmas.Int.{ints}
use Rattle.lra_multipliers.specs.Crates.lra_linear_spec.Descriptions.{LinearRow, rows_of, HoldsWith, Con}
use Rattle.lra_multipliers.specs.Crates.lra_linear_spec.Polyhedra.{positivity}
use Rattle.lra_multipliers.specs.Crates.lra_linear_spec.Vectors.{entry, dot, product, signed_sum}
use Rattle.lra_multipliers.proofs.Crates.lra_linear_spec.Products.{dot_same, dot_zero, dot_plus, dot_scale, product_comm}
use Rattle.lra_multipliers.proofs.Crates.lra_linear_spec.Ring.{ring, v, ◌⊗◌, mul_nonnegative}
use Rattle.lra_multipliers.proofs.Crates.lra_linear_spec.Signs.{as_nat, add_nonnegative, divide_nonnegative, zero_at_least}
use Rattle.lra_multipliers.proofs.Crates.{lra_linear_spec.Membership.contains_head, lra_linear_spec.Membership.contains_tail, lra_linear_spec.OneSpelling.positivity_product}
use Rattle.lra_multipliers.specs.Multipliers.{Multipliers, IsSigned, AreSigned, IsFarkasCertificate}

times_held : (b : Bool) (l z : ℤ) → IsSigned b l → HoldsWith b z → pos 0 ≤ℤ (l *ℤ z)
times_held true l z s h = zero_at_least (l *ℤ z) (ap (λ (y : ℤ). l *ℤ y) h ∙ ring (v l ⊗ v (pos 0)) (v (pos 0)) (omega arith))
times_held false l z s h = mul_nonnegative l z s h

-- the sum of the premises, at a point at which they hold
sum_holds : (premises : List LinearRow) (ls x : List ℤ) → AreSigned premises ls → Con premises x → pos 0 ≤ℤ dot x (signed_sum ls (rows_of premises))
sum_holds [] [] x s h = zero_at_least (dot x (λ j. pos 0)) (dot_zero x)
sum_holds [] (l ∷ ls) x s h = absurd s
sum_holds (g ∷ gs) [] x s h = absurd s
sum_holds (g ∷ gs) (l ∷ ls) x s h =
    subst (λ (z : ℤ). pos 0 ≤ℤ z) (sym (dot_plus x l (entry g.row) (signed_sum ls (rows_of gs))))
    (add_nonnegative (l *ℤ dot x (entry g.row)) (dot x (signed_sum ls (rows_of gs)))
    (subst (λ (z : ℤ). pos 0 ≤ℤ (l *ℤ z)) (product_comm g.row x) (times_held g.equal l (product g.row x) s.0 (h g (contains_head g gs))))
    (sum_holds gs ls x s.1 (λ f k. h f (contains_tail g f gs k))))

divided : (d z : ℤ) → pos 0 <ℤ d → pos 0 ≤ℤ (d *ℤ z) → pos 0 ≤ℤ z
divided d z h k =
    let n = as_nat d (omega (arith, ints, h)) in
    divide_nonnegative n.0 z (positive n.0 n.1) (subst (λ (y : ℤ). pos 0 ≤ℤ (y *ℤ z)) n.1 k)
  where
    positive : (m : ℕ) → d ≡ pos m → 0 < m
    positive m e = omega (arith, ints, h, e)

-- the claim at a point whose column 0 is not below 0
pub shown_holds : (premises : List LinearRow) (claim x : List ℤ) (m : Multipliers) → IsFarkasCertificate premises claim m → pos 0 ≤ℤ entry x 0 → Con premises x
    → pos 0 ≤ℤ
    product claim x
shown_holds premises claim x m s o h =
    subst (λ (z : ℤ). pos 0 ≤ℤ z) (product_comm x claim)
    (divided m.divisor (dot x (entry claim)) s.divisor (subst (λ (z : ℤ). pos 0 ≤ℤ z) (sym multiple)
    (add_nonnegative (m.constant *ℤ dot x (entry (positivity (length claim)))) (dot x (signed_sum m.factors (rows_of premises)))
    (mul_nonnegative m.constant (dot x (entry (positivity (length claim)))) s.constant (subst (λ (z : ℤ). pos 0 ≤ℤ z) (sym first) o))
    (sum_holds premises m.factors x s.factors h))))
  where
    first : dot x (entry (positivity (length claim))) ≡ entry x 0
    first = product_comm x (positivity (length claim)) ∙ positivity_product (length claim) x

    multiple : m.divisor *ℤ dot x (entry claim) ≡ (m.constant *ℤ dot x (entry (positivity (length claim)))) +ℤ dot x (signed_sum m.factors (rows_of premises))
    multiple =
        sym (dot_scale x m.divisor (entry claim)) ∙
        dot_same x (λ j. m.divisor *ℤ entry claim j) (λ j. (m.constant *ℤ entry (positivity (length claim)) j) +ℤ signed_sum m.factors (rows_of premises) j)
        s.sum ∙
        dot_plus x m.constant (entry (positivity (length claim))) (signed_sum m.factors (rows_of premises))
