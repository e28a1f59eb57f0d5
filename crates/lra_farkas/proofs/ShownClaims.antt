-- What holds wherever the premises do is a sum of them and 1 >= 0 (Farkas 1902), with multipliers in the premises' order.
use Rattle.std.proofs.Common.{◌≡◌, ℕ, zero, suc, ◌<◌, ◌-◌, ℤ, pos, neg_ℤ, ◌+ℤ◌, ◌*ℤ◌, ◌≤ℤ◌, ◌<ℤ◌, negsuc, Bool, true, false, List, [], ◌∷◌, length, refl, ap, sym, ◌∙◌, subst, arith, inl, inr}
use Rattle.std.proofs.lemmas.Int.{ints}
use Rattle.std.specs.List.{Contains}
use Rattle.lra_farkas.specs.Crates.lra_linear_spec.Descriptions.{LinearRow, rows_of, system_of, Con, HoldsWith}
use Rattle.lra_farkas.specs.Crates.lra_linear_spec.Polyhedra.{positivity, falsity}
use Rattle.lra_farkas.specs.Crates.lra_linear_spec.Vectors.{entry, product, negated, blend, sum_of, signed_sum}
use Rattle.lra_farkas.proofs.Crates.lra_linear_spec.Membership.{contains_head, contains_tail, contains_cases}
use Rattle.lra_farkas.proofs.Crates.lra_linear_spec.Products.{entry_negated, negated_length, entry_blend, blend_length, dot_same, dot_plus, dot_scale}
use Rattle.lra_farkas.proofs.Crates.lra_linear_spec.Ring.{ring, v, ⊖, ◌⊕◌, ◌⊗◌, mul_nonnegative}
use Rattle.lra_farkas.proofs.Crates.{lra_canonical.Solutions.farkas, lra_canonical.Solutions.sum_none, lra_linear_spec.Descriptions.solves_con, lra_linear_spec.Descriptions.system_from}
use Rattle.lra_farkas.proofs.Crates.{lra_linear_spec.Lines.zeros_length, lra_linear_spec.Lines.entry_zeros, lra_linear_spec.OneSpelling.positivity_product, lra_linear_spec.OneSpelling.dot_zeros}
use Rattle.lra_farkas.proofs.Crates.{lra_linear_spec.OneSpelling.far, lra_linear_spec.Signs.above_zero, lra_linear_spec.Signs.zero_at_least, lra_linear_spec.Signs.add_nonnegative}
use Rattle.lra_multipliers.specs.Multipliers.{Multipliers, AreSigned, IsFarkasCertificate}
use Rattle.lra_farkas.specs.MultiplierRows.{AreAsWide, WhatHoldsIsShown, WhatHoldsAtPointsIsShown, NoPointIsShown}

-- ---- factors of a system's rows as factors of its constraints
pub record Gathered (gs : List LinearRow) (fs : List ℕ) : Type 0 where
  pub factors : List ℤ
  pub signed : AreSigned gs factors
  pub same : (j : ℕ) → signed_sum factors (rows_of gs) j ≡ sum_of fs (system_of gs) j

-- an inequality has one factor, an equality one for each direction
gathered_ray : (r : List ℤ) (gs : List LinearRow) (f : ℕ) (fs : List ℕ) → Gathered gs fs → Gathered (record { row = r; equal = false } ∷ gs) (f ∷ fs)
gathered_ray r gs f fs i = record {
  factors = pos f ∷ i.factors;
  signed = (let z : pos 0 ≤ℤ pos f = omega (arith, ints) in z, i.signed);
  same = λ j. ap (λ (z : ℤ). (pos f *ℤ entry r j) +ℤ z) (i.same j);
}

gathered_line : (r : List ℤ) (gs : List LinearRow) (f k : ℕ) (fs : List ℕ) → Gathered gs fs → Gathered (record { row = r; equal = true } ∷ gs) (f ∷ k ∷ fs)
gathered_line r gs f k fs i = record {
  factors = (pos f +ℤ neg_ℤ (pos k)) ∷ i.factors;
  signed = (tt, i.signed);
  same = λ j.
      ap (λ (z : ℤ). ((pos f +ℤ neg_ℤ (pos k)) *ℤ entry r j) +ℤ z) (i.same j) ∙
      ring ((v (pos f) ⊕ ⊖ (v (pos k))) ⊗ v (entry r j) ⊕ v (sum_of fs (system_of gs) j))
      (v (pos f) ⊗ v (entry r j) ⊕ (v (pos k) ⊗ ⊖ (v (entry r j)) ⊕ v (sum_of fs (system_of gs) j))) (omega arith) ∙
      ap (λ (z : ℤ). (pos f *ℤ entry r j) +ℤ ((pos k *ℤ z) +ℤ sum_of fs (system_of gs) j)) (sym (entry_negated r j));
}

-- factors that are missing are 0
padded : (gs : List LinearRow) (fs more : List ℕ) → ((j : ℕ) → sum_of more (system_of gs) j ≡ sum_of fs (system_of gs) j) → Gathered gs more → Gathered gs fs
padded gs fs more e i = record { factors = i.factors; signed = i.signed; same = λ j. i.same j ∙ e j }

none_more : (rows : List (List ℤ)) (j : ℕ) → sum_of (0 ∷ []) rows j ≡ pos 0
none_more [] j = refl
none_more (r ∷ rows) j = ring (v (pos 0) ⊗ v (entry r j) ⊕ v (pos 0)) (v (pos 0)) (omega arith)

gathered_by : (b : Bool) (r : List ℤ) (gs : List LinearRow) (fs : List ℕ) → ((ks : List ℕ) → Gathered gs ks) → Gathered (record { row = r; equal = b } ∷ gs) fs
gathered_by false r gs [] each = padded (record { row = r; equal = false } ∷ gs) [] (0 ∷ []) (λ j. none_more (r ∷ system_of gs) j)
    (gathered_ray r gs 0 [] (each []))
gathered_by false r gs (f ∷ fs) each = gathered_ray r gs f fs (each fs)
gathered_by true r gs [] each = padded (record { row = r; equal = true } ∷ gs) [] (0 ∷ 0 ∷ [])
    (λ j. ap (λ (z : ℤ). (pos 0 *ℤ entry r j) +ℤ z) (none_more (negated r ∷ system_of gs) j) ∙
    ring (v (pos 0) ⊗ v (entry r j) ⊕ v (pos 0)) (v (pos 0)) (omega arith))
    (gathered_line r gs 0 0 [] (each []))
gathered_by true r gs (f ∷ []) each = padded (record { row = r; equal = true } ∷ gs) (f ∷ []) (f ∷ 0 ∷ [])
    (λ j. ap (λ (z : ℤ). (pos f *ℤ entry r j) +ℤ z) (none_more (negated r ∷ system_of gs) j))
    (gathered_line r gs f 0 [] (each []))
gathered_by true r gs (f ∷ k ∷ fs) each = gathered_line r gs f k fs (each fs)

gathered : (gs : List LinearRow) (fs : List ℕ) → Gathered gs fs
gathered [] fs = record { factors = []; signed = tt; same = λ j. sym (sum_none fs j) }
gathered (g ∷ gs) fs = gathered_by g.equal g.row gs fs (gathered gs)

-- ---- multipliers of what 1 >= 0 and the premises generate
one_entry : (n m j : ℕ) → entry (positivity n) j ≡ entry (positivity m) j
one_entry n m zero = refl
one_entry n m (suc j) = entry_zeros n j ∙ sym (entry_zeros m j)

module _ (premises : List LinearRow) (claim : List ℤ) (n : ℕ) (wide : AreAsWide premises claim) (width : length claim ≡ suc n) where
  shown_by : (multiple first : ℕ) (fs : List ℕ) → 0 < multiple →
      ((j : ℕ) → pos multiple *ℤ entry claim j ≡ (pos first *ℤ entry (positivity n) j) +ℤ sum_of fs (system_of premises) j) →
      (m : Multipliers) × IsFarkasCertificate premises claim m
  shown_by multiple first fs h e =
      let i = gathered premises fs in (
        record { divisor = pos multiple; constant = pos first; factors = i.factors },
        record {
          divisor = omega (arith, ints, h);
          constant = omega (arith, ints);
          factors = i.signed;
          sum = λ j.
              e j ∙ ap (λ (z : ℤ). (pos first *ℤ z) +ℤ sum_of fs (system_of premises) j) (one_entry n (length claim) j) ∙
              ap (λ (z : ℤ). (pos first *ℤ entry (positivity (length claim)) j) +ℤ z) (sym (i.same j));
        },
      )

  shown_of : (multiple : ℕ) (fs : List ℕ) → 0 < multiple → ((j : ℕ) → pos multiple *ℤ entry claim j ≡ sum_of fs (positivity n ∷ system_of premises) j) →
      (m : Multipliers) × IsFarkasCertificate premises claim m
  shown_of multiple [] h e =
      shown_by multiple 0 [] h (λ j. e j ∙ ring (v (pos 0)) (v (pos 0) ⊗ v (entry (positivity n) j) ⊕ v (pos 0)) (omega arith))
  shown_of multiple (f ∷ fs) h e = shown_by multiple f fs h e

  widths : (t : List ℤ) → Contains (positivity n ∷ system_of premises) t → length t ≡ suc n
  widths t k = elim (contains_cases (positivity n) t (system_of premises) k) [
    | inl e ↦ ap length (sym e) ∙ ap suc (zeros_length n)
    | inr d ↦
        let f = system_from premises t d in
        let w = wide.each f.given f.has ∙ width in
        elim f.sign [ inl e ↦ ap length e ∙ w | inr e ↦ ap length e.1 ∙ negated_length f.given.row ∙ w ]
  ]

  holds_shown_at : ((x : List ℤ) → length x ≡ suc n → pos 0 ≤ℤ entry x 0 → Con premises x → pos 0 ≤ℤ product claim x) →
      (m : Multipliers) × IsFarkasCertificate premises claim m
  holds_shown_at h =
      let g = farkas (suc n) (positivity n ∷ system_of premises) claim widths width (λ u l s.
      h u l (subst (λ (z : ℤ). pos 0 ≤ℤ z) (positivity_product n u) (s (positivity n) (contains_head (positivity n) (system_of premises))))
      (solves_con premises u (λ r k. s r (contains_tail (positivity n) r (system_of premises) k)))) in
      shown_of g.multiple g.factors g.positive g.is_sum

pub holds_shown : WhatHoldsIsShown
holds_shown premises claim wide h =
    let n = length claim - 1 in
    let width : length claim ≡ suc n = (let s = wide.some in omega (arith, s)) in
    holds_shown_at premises claim n wide width (λ x l o c. h x (l ∙ sym width) o c)

-- ---- points, and directions in which there is no end
along_product : (c p x : List ℤ) (t : ℕ) → length p ≡ length x → product c (blend (pos 1) (pos t) p x) ≡ product c p +ℤ (pos t *ℤ product c x)
along_product c p x t n =
    dot_same c (entry (blend (pos 1) (pos t) p x)) (λ j. (pos 1 *ℤ entry p j) +ℤ (pos t *ℤ entry x j)) (entry_blend (pos 1) (pos t) p x n) ∙
    dot_plus c (pos 1) (entry p) (λ j. pos t *ℤ entry x j) ∙
    ap (λ (z : ℤ). (pos 1 *ℤ product c p) +ℤ z) (dot_scale c (pos t) (entry x)) ∙
    ring (v (pos 1) ⊗ v (product c p) ⊕ v (pos t) ⊗ v (product c x)) (v (product c p) ⊕ v (pos t) ⊗ v (product c x)) (omega arith)

holds_along : (b : Bool) (a z y : ℤ) (t : ℕ) → y ≡ a +ℤ (pos t *ℤ z) → HoldsWith b a → HoldsWith b z → HoldsWith b y
holds_along true a z y t e h k = e ∙ ap (λ (x : ℤ). x +ℤ (pos t *ℤ z)) h ∙ ap (λ (x : ℤ). pos 0 +ℤ (pos t *ℤ x)) k ∙
    ring (v (pos 0) ⊕ v (pos t) ⊗ v (pos 0)) (v (pos 0)) (omega arith)
holds_along false a z y t e h k = subst (λ (x : ℤ). pos 0 ≤ℤ x) (sym e)
    (add_nonnegative a (pos t *ℤ z) h (mul_nonnegative (pos t) z (let o : pos 0 ≤ℤ pos t = omega (arith, ints) in o) k))

first_along : (a z y : ℤ) (t : ℕ) → y ≡ (pos 1 *ℤ a) +ℤ (pos t *ℤ z) → z ≡ pos 0 → pos 0 <ℤ a → pos 0 <ℤ y
first_along a z y t e h k = subst (λ (x : ℤ). pos 0 <ℤ x) (sym (e ∙ ap (λ (x : ℤ). (pos 1 *ℤ a) +ℤ (pos t *ℤ x)) h ∙
    ring (v (pos 1) ⊗ v a ⊕ v (pos t) ⊗ v (pos 0)) (v a) (omega arith))) k

pub holds_at_points_shown : WhatHoldsAtPointsIsShown
holds_at_points_shown n premises claim p wide width is_point held h =
    holds_shown_at premises claim n wide width (λ x l o c. elim (above_zero (entry x 0) o) [
      | inl flat ↦
          let same : length p ≡ length x = is_point.width ∙ sym l in
          far (product claim p) (product claim x) (λ t.
          let y = blend (pos 1) (pos t) p x in
          subst (λ (z : ℤ). pos 0 ≤ℤ z) (along_product claim p x t same)
          (h y (record {
            width = blend_length (pos 1) (pos t) p x same ∙ is_point.width;
            divisor = first_along (entry p 0) (entry x 0) (entry y 0) t (entry_blend (pos 1) (pos t) p x same 0) flat is_point.divisor;
          })
          (λ g k. holds_along g.equal (product g.row p) (product g.row x) (product g.row y) t (along_product g.row p x t same) (held g k) (c g k))))
      | inr above ↦ h x (record { width = l; divisor = above }) c
    ])

pub no_point_shown : NoPointIsShown
no_point_shown n premises wide none =
    holds_shown_at premises (falsity n) n wide (ap suc (zeros_length n)) (λ x l o c. elim (above_zero (entry x 0) o) [
      | inl flat ↦ zero_at_least (product (falsity n) x) (falsity_flat n x flat)
      | inr above ↦ absurd (none x (record { width = l; divisor = above }) c)
    ])
  where
    falsity_flat : (n : ℕ) (x : List ℤ) → entry x 0 ≡ pos 0 → product (falsity n) x ≡ pos 0
    falsity_flat n x e =
        ap (λ (z : ℤ). (negsuc 0 *ℤ entry x 0) +ℤ z) (dot_zeros n (λ j. entry x (suc j))) ∙ ap (λ (z : ℤ). (negsuc 0 *ℤ z) +ℤ pos 0) e ∙
        ring (v (negsuc 0) ⊗ v (pos 0) ⊕ v (pos 0)) (v (pos 0)) (omega arith)
