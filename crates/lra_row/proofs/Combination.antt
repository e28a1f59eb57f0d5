-- The combination of two rows on either side of a third has product 0 with it, and substitution replaces a coordinate.
use Rattle.std.proofs.Common.{arith, ◌≡◌, ℕ, ◌<◌, List, [], ◌∷◌, length, ap, sym, ◌∙◌, refl, pos, ℤ, ◌+ℤ◌, ◌*ℤ◌, neg_ℤ, ◌<ℤ◌, Result, Ok, Err, cond}
use Rattle.std.proofs.{lemmas.List.Elements.All-head, lemmas.List.Elements.All-tail}
use Rattle.std.specs.List.{All}
use Rattle.lra_linear_spec.specs.CheckedArithmetic.{checked_product, checked_entry, checked_blend, then_rest, checked_combination, checked_added, checked_added_entry, checked_substitution}
use Rattle.lra_linear_spec.specs.Vectors.{entry, product, blend, combined, cleared, substituted}
use Rattle.lra_linear_spec.specs.{LowestTerms.IsLowest, Range.InRange, Range.in_range, declared.Excess.Excess, declared.Operation.TheVariants.Product, declared.Operation.TheVariants.Sum}
use Rattle.lra_linear_spec.proofs.Signs.{as_nat, positive_nat, neg_nat, no_product, positive_is_nonnegative, neg_positive}
use Rattle.lra_linear_spec.proofs.{CheckedArithmetic.in_range_yes, Products.entry_blend, Products.dot_same, Products.dot_linear, Products.dot_scale, Ring.v, Ring.◌⊕◌, Ring.◌⊗◌, Ring.⊖, Ring.ring}
use Rattle.lra_row.specs.Rows.{IsPositiveSum}
use Rattle.lra_row.proofs.FirstPassing.{combination_is}

-- ---- combination
pub combined_flat : (u w c row : List ℤ) → length u ≡ length w → IsLowest (combined u w c) row → product c row ≡ pos 0
combined_flat u w c row l h =
    let a = neg_ℤ (product c w) in
    let b = product c u in
    let e : pos h.times *ℤ product c row ≡ pos 0 =
    sym (dot_scale c (pos h.times) (entry row)) ∙
    dot_same c (λ j. pos h.times *ℤ entry row j) (λ j. (a *ℤ entry u j) +ℤ (b *ℤ entry w j)) (λ j. h.is_multiple j ∙ entry_blend a b u w l j) ∙
    dot_linear c a b (entry u) (entry w) ∙
    ring (⊖ (v (product c w)) ⊗ v (product c u) ⊕ v (product c u) ⊗ v (product c w)) (v (pos 0)) (omega arith) in
    no_product h.times (product c row) h.positive e

pub combined_positive : (u w c row : List ℤ) → length u ≡ length w → pos 0 <ℤ product c u → product c w <ℤ pos 0 → IsLowest (combined u w c) row → IsPositiveSum u w row
combined_positive u w c row l above below h =
    let b = as_nat (product c u) (positive_is_nonnegative (product c u) above) in
    let a = neg_nat (product c w) below in
    record {
      times = h.times;
      left = a.0;
      right = b.0;
      positive = (h.positive, neg_positive (product c w) a.0 below a.1, positive_nat (product c u) b.0 above b.1);
      is_sum = λ j. h.is_multiple j ∙ entry_blend (neg_ℤ (product c w)) (product c u) u w l j ∙ ap (λ (x : ℤ). (x *ℤ entry u j) +ℤ (product c u *ℤ entry w j)) a.1 ∙
          ap (λ (x : ℤ). (pos a.0 *ℤ entry u j) +ℤ (x *ℤ entry w j)) b.1;
    }

-- the combination from the numbers that were computed
pub combined_read : (u w c row : List ℤ) (above below opposite : ℤ) → above ≡ product c u → below ≡ product c w → opposite ≡ neg_ℤ below → row ≡ blend opposite above u w → row ≡ combined u w c
combined_read u w c row above below opposite a b o r = r ∙ ap (λ (n : ℤ). blend n above u w) (o ∙ ap neg_ℤ b) ∙ ap (λ (n : ℤ). blend (neg_ℤ (product c w)) n u w) a

pub checked_read : (u w c : List ℤ) (above below opposite : ℤ) → Ok above ≡ checked_product c u → Ok below ≡ checked_product c w → opposite ≡ neg_ℤ below →
    checked_blend opposite above u w ≡ checked_combination u w c
checked_read u w c above below opposite a b o = ap (λ (n : ℤ). checked_blend n above u w) o ∙ sym (combination_is u w c above below a b)

-- ---- substitution
one_times : (z : ℤ) → pos 1 *ℤ z ≡ z
one_times z = ring (v (pos 1) ⊗ v z) (v z) (omega arith)

abbrev Number : Type 0
Number = Result ℤ Excess

tests_of : ℤ → ℤ → ℤ → ℤ → Number
tests_of z b u w =
    cond (in_range z)
    (cond (in_range (b *ℤ w))
    (cond (in_range (z +ℤ (b *ℤ w))) (Ok (z +ℤ (b *ℤ w))) (Err (record { op = Sum; left = z; right = b *ℤ w })))
    (Err (record { op = Product; left = b; right = w })))
    (Err (record { op = Product; left = pos 1; right = u }))

entry_added : (b u w : ℤ) → InRange u → checked_entry (pos 1) b u w ≡ checked_added_entry b u w
unfolding tests_of
entry_added b u w h = ap (λ z. tests_of z b u w) (one_times u) ∙ rw (in_range_yes u h) refl

pub blend_added : (b : ℤ) (us ws : List ℤ) → All InRange us → checked_blend (pos 1) b us ws ≡ checked_added b us ws
blend_added b [] ws h = refl
blend_added b (u ∷ us) [] h = refl
blend_added b (u ∷ us) (w ∷ ws) h =
    ap (λ r. then_rest r (checked_blend (pos 1) b us ws)) (entry_added b u w (All-head InRange u us h)) ∙
    ap (λ r. then_rest (checked_added_entry b u w) r) (blend_added b us ws (All-tail InRange u us h))

pub substitution_read : (x : ℕ) (form row rest : List ℤ) (e : ℤ) → e ≡ entry row x → rest ≡ cleared x row → blend (pos 1) e rest form ≡ substituted x form row
substitution_read x form row rest e f r = ap (λ (n : ℤ). blend (pos 1) n rest form) f ∙ ap (λ (us : List ℤ). blend (pos 1) (entry row x) us form) r

pub substitution_checked : (x : ℕ) (form row rest : List ℤ) (e : ℤ) → e ≡ entry row x → rest ≡ cleared x row → All InRange rest → checked_blend (pos 1) e rest form ≡ checked_substitution x form row
substitution_checked x form row rest e f r h = blend_added e rest form h ∙ ap (λ (n : ℤ). checked_added n rest form) f ∙ ap (λ (us : List ℤ). checked_added (entry row x) us form) r
