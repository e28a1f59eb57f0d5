-- The positivity row is added to the whole space without a strain.
use Rattle.std.proofs.Common.{◌≡◌, ◌∙◌, ℕ, zero, suc, ◌+◌, ◌<◌, ◌≤◌, ◌⊎◌, inl, inr, ℤ, pos, neg_ℤ, ◌+ℤ◌, ◌*ℤ◌, ◌<ℤ◌, Bool, true, false, cond, List, [], ◌∷◌, ◌++◌, map, ap, refl, subst, sym, arith}
use Rattle.std.proofs.{Common.Result, Common.Ok, Common.Err, Common.unsigned_abs, lemmas.Int.ints, lemmas.List.append-nil}
use Rattle.std.specs.List.{Contains}
use Rattle.lra_cone.specs.Crates.lra_linear_spec.CheckedArithmetic.{checked_product, checked_product_from}
use Rattle.lra_cone.specs.Crates.lra_linear_spec.Vectors.{dot, entry, negated, product, zeros}
use Rattle.lra_cone.specs.Crates.{lra_linear_spec.ConeStrain.row_limit, lra_linear_spec.Cones.both_ways, lra_linear_spec.Descriptions.LinearRow, lra_linear_spec.OperationStrain.unit_row}
use Rattle.lra_cone.specs.Crates.{lra_linear_spec.Range.InRange, lra_linear_spec.Range.in_range, lra_linear_spec.declared.Excess.Excess}
use Rattle.lra_cone.proofs.Crates.lra_linear_spec.DoubleDescription.{Flat, Flats, LineCase}
use Rattle.lra_cone.proofs.Crates.lra_linear_spec.Ring.{ring, v, ◌⊕◌, ◌⊗◌}
use Rattle.lra_cone.proofs.Crates.lra_linear_spec.UnitRows.{unit_here, unit_length, unit_other}
use Rattle.lra_cone.proofs.Crates.{lra_linear_spec.CanonicalForms.too_many, lra_linear_spec.CheckedArithmetic.in_range_yes, lra_linear_spec.Lines.signed_from, lra_linear_spec.LowestTerms.primitive_at}
use Rattle.lra_cone.proofs.Crates.{lra_linear_spec.Membership.contains_none, lra_linear_spec.Membership.map_from, lra_linear_spec.Products.entry_negated, lra_linear_spec.Products.negated_twice}
use Rattle.lra_double_description.specs.declared.strained.Strained.TheVariants.{Product, Pair, TooMany}
use Rattle.lra_double_description.specs.{declared.strained.Family.Family, declared.strained.Family.TheVariants.Lines, declared.strained.Family.TheVariants.Rays, declared.strained.Strained.Strained}
use Rattle.lra_cone.specs.{Cones.columns_from, Cones.unit_lines, Cones.whole_space, Strains.IsMember, Strains.IsStrain}
use Rattle.lra_cone.proofs.{Stepped.line_canonical, Stepped.line_met, StrainLemmas.place_in, WholeSpace.dot_unit, WholeSpace.whole_cone}

-- ---- products
both_in : (a b : Bool) (r : Result ℤ Excess) (e f : Excess) → a ≡ true → b ≡ true → cond {A = Result ℤ Excess} a (cond {A = Result ℤ Excess} b r (Err e)) (Err f) ≡ r
both_in true true r e f p q = refl
both_in true false r e f p q = let wrong : ⊥ = cc in absurd wrong
both_in false b r e f p q = let wrong : ⊥ = cc in absurd wrong

zero_in : InRange (pos 0)
zero_in = omega arith

zeros_pass : (s : ℤ) (k : ℕ) (ys : List ℤ) → InRange s → checked_product_from s (zeros k) ys ≡ Ok s
zeros_pass s zero ys h = refl
zeros_pass s (suc k) [] h = refl
zeros_pass s (suc k) (y ∷ ys) h =
    let times : pos 0 *ℤ y ≡ pos 0 = ring (v (pos 0) ⊗ v y) (v (pos 0)) (omega arith) in
    let plus : s +ℤ (pos 0 *ℤ y) ≡ s = ring (v s ⊕ v (pos 0) ⊗ v y) (v s) (omega arith) in
    both_in (in_range (pos 0 *ℤ y)) (in_range (s +ℤ (pos 0 *ℤ y))) (checked_product_from (s +ℤ (pos 0 *ℤ y)) (zeros k) ys) _ _
    (ap in_range times ∙ in_range_yes (pos 0) zero_in) (ap in_range plus ∙ in_range_yes s h) ∙
    ap (λ (z : ℤ). checked_product_from z (zeros k) ys) plus ∙ zeros_pass s k ys h

entry_passes : (n : ℕ) (r : List ℤ) → InRange (entry r 0) → checked_product (unit_row n 0) r ≡ Ok (entry r 0)
entry_passes n [] h = refl
entry_passes n (y ∷ ys) h =
    let times : pos 1 *ℤ y ≡ y = ring (v (pos 1) ⊗ v y) (v y) (omega arith) in
    let plus : pos 0 +ℤ (pos 1 *ℤ y) ≡ y = ring (v (pos 0) ⊕ v (pos 1) ⊗ v y) (v y) (omega arith) in
    both_in (in_range (pos 1 *ℤ y)) (in_range (pos 0 +ℤ (pos 1 *ℤ y))) (checked_product_from (pos 0 +ℤ (pos 1 *ℤ y)) (zeros n) ys) _ _
    (ap in_range times ∙ in_range_yes y h) (ap in_range plus ∙ in_range_yes y h) ∙
    ap (λ (z : ℤ). checked_product_from z (zeros n) ys) plus ∙ zeros_pass y n ys h

first_product : (n : ℕ) (t : List ℤ) → product (unit_row n 0) t ≡ entry t 0
first_product n t = dot_unit (suc n) 0 (entry t) (omega arith)

column_zero : (n j : ℕ) → ((j ≡ 0) × (entry (unit_row n j) 0 ≡ pos 1)) ⊎ (entry (unit_row n j) 0 ≡ pos 0)
column_zero n zero = inl (refl, unit_here n 0 (omega arith))
column_zero n (suc j) = inr (unit_other n (suc j) 0 (λ e. omega (arith, e)))

column_in_range : (n j : ℕ) → InRange (entry (unit_row n j) 0)
column_in_range n j = elim (column_zero n j) [
  | inl z ↦ subst InRange (sym z.1) (omega arith)
  | inr z ↦ subst InRange (sym z) zero_in
]

no_product_passes : (n : ℕ) (r : List ℤ) (e : Excess) → Contains (unit_lines n) r → checked_product (unit_row n 0) r ≡ Err e → ⊥
no_product_passes n r e has passes =
    let f = map_from (unit_row n) (columns_from 1 n) r has in
    let value = entry_passes n r (subst (λ (x : List ℤ). InRange (entry x 0)) f.2 (column_in_range n f.0)) in
    let wrong : Ok (entry r 0) ≡ Err e = sym value ∙ passes in cc

-- ---- pairs: there is one line across, and a line isn't taken with itself
one_direction : (n : ℕ) (t : List ℤ) → Contains (both_ways (unit_lines n)) t → ((t ≡ unit_row n 0) ⊎ (t ≡ negated (unit_row n 0))) ⊎ (entry t 0 ≡ pos 0)
one_direction n t has =
    let s = signed_from (unit_lines n) t has in
    let f = map_from (unit_row n) (columns_from 1 n) s.line s.has in
    elim (column_zero n f.0) [
      | inl z ↦
          let same : s.line ≡ unit_row n 0 = sym f.2 ∙ ap (unit_row n) z.0 in
          elim s.sign [ inl e ↦ inl (inl (e ∙ same)) | inr e ↦ inl (inr (e ∙ ap negated same)) ]
      | inr z ↦
          let flat : entry s.line 0 ≡ pos 0 = ap (λ (x : List ℤ). entry x 0) (sym f.2) ∙ z in
          elim s.sign [
            | inl e ↦ inr (ap (λ (x : List ℤ). entry x 0) e ∙ flat)
            | inr e ↦ inr (ap (λ (x : List ℤ). entry x 0) e ∙ entry_negated s.line 0 ∙ ap neg_ℤ flat)
          ]
    ]

at_line : (n : ℕ) → product (unit_row n 0) (unit_row n 0) ≡ pos 1
at_line n = first_product n (unit_row n 0) ∙ unit_here n 0 (omega arith)

at_opposite : (n : ℕ) → product (unit_row n 0) (negated (unit_row n 0)) ≡ neg_ℤ (pos 1)
at_opposite n = first_product n (negated (unit_row n 0)) ∙ entry_negated (unit_row n 0) 0 ∙ ap neg_ℤ (unit_here n 0 (omega arith))

is_up : (n : ℕ) (t : List ℤ) → Contains (both_ways (unit_lines n)) t → pos 0 <ℤ product (unit_row n 0) t → t ≡ unit_row n 0
is_up n t has above = elim (one_direction n t has) [
  | inl (inl e) ↦ e
  | inl (inr e) ↦ let p = ap (product (unit_row n 0)) e ∙ at_opposite n in absurd (omega (arith, ints, above, p))
  | inr z ↦ let p = first_product n t ∙ z in absurd (omega (arith, ints, above, p))
]

is_down : (n : ℕ) (t : List ℤ) → Contains (both_ways (unit_lines n)) t → product (unit_row n 0) t <ℤ pos 0 → t ≡ negated (unit_row n 0)
is_down n t has below = elim (one_direction n t has) [
  | inl (inl e) ↦ let p = ap (product (unit_row n 0)) e ∙ at_line n in absurd (omega (arith, ints, below, p))
  | inl (inr e) ↦ e
  | inr z ↦ let p = first_product n t ∙ z in absurd (omega (arith, ints, below, p))
]

-- ---- rays: the canonical description has one
abbrev fronts : ℕ → ℕ → List ℕ
fronts start zero = []
fronts start (suc n) = start ∷ fronts (suc start) n

parted : (w start n : ℕ) → map (unit_row w) (columns_from start n) ≡ map (unit_row w) (fronts start n) ++ unit_row w 0 ∷ []
parted w start zero = refl
parted w start (suc n) = ap (λ (x : List (List ℤ)). unit_row w start ∷ x) (parted w (suc start) n)

times_one : (a b x y : ℤ) → a ≡ pos 1 → b ≡ pos 0 → pos 1 *ℤ x ≡ (a *ℤ x) +ℤ (neg_ℤ b *ℤ y)
times_one a b x y ea eb = sym (ap (λ z. (z *ℤ x) +ℤ (neg_ℤ b *ℤ y)) ea ∙ ap (λ z. (pos 1 *ℤ x) +ℤ (neg_ℤ z *ℤ y)) eb ∙
    ring (v (pos 1) ⊗ v x ⊕ v (pos 0) ⊗ v y) (v (pos 1) ⊗ v x) (omega arith))

flat_unit : (w j : ℕ) → 0 < j → j < suc w → Flat (unit_row w 0) (unit_row w 0) (unit_row w j) (unit_row w j)
flat_unit w j above inside = record {
  times = 1;
  positive = omega arith;
  is = λ i. times_one (dot (unit_row w 0) (entry (unit_row w 0))) (dot (unit_row w 0) (entry (unit_row w j))) (entry (unit_row w j) i) (entry (unit_row w 0) i) (at_line w)
      (first_product w (unit_row w j) ∙ unit_other w j 0 (λ e. omega (arith, above, e)));
  lowest = inl (primitive_at (unit_row w j) j (ap unsigned_abs (unit_here w j inside)));
  same_length = refl;
}

flat_fronts : (w start n : ℕ) → 0 < start → start + n ≤ suc w → Flats (unit_row w 0) (unit_row w 0) (map (unit_row w) (fronts start n)) (map (unit_row w) (fronts start n))
flat_fronts w start zero above inside = tt
flat_fronts w start (suc n) above inside = (flat_unit w start above (omega (arith, inside)), flat_fronts w (suc start) n (omega arith) (omega (arith, inside)))

positive_case : (n : ℕ) → LineCase false (unit_row n 0) (unit_lines n) [] (map (unit_row n) (fronts 1 n)) (unit_row n 0 ∷ [])
positive_case n = record {
  before = map (unit_row n) (fronts 1 n);
  line = unit_row n 0;
  after = [];
  is_lines = parted n 1 n;
  signed = unit_row n 0;
  sign = inl refl;
  above = let p = at_line n in omega (arith, ints, p);
  flat_after = λ k m. absurd (contains_none k m);
  new_before = map (unit_row n) (fronts 1 n);
  lines_flat = flat_fronts n 1 n (omega arith) (omega arith);
  are_lines = sym (append-nil (map (unit_row n) (fronts 1 n)));
  flat_rays = [];
  rays_flat = tt;
  are_rays = refl;
}

one_ray : row_limit < 1 → ⊥
one_ray h = omega (arith, h)

-- ---- so nothing exceeds a limit
pub positive_strains_not : (n : ℕ) (strained : Strained) → IsStrain (whole_space n) false (unit_row n 0) strained → ⊥
positive_strains_not n (Product member e) x = at_member member.family x.is
  where
    at_member : (family : Family) → IsMember (whole_space n) family member.place x.row → ⊥
    at_member Lines is = no_product_passes n x.row e (place_in (unit_lines n) member.place x.row is) x.passes
    at_member Rays is = contains_none x.row (place_in [] member.place x.row is)
positive_strains_not n (Pair above below e) x =
    let up = is_up n x.up x.across.has_up x.across.above in
    let down = is_down n x.down x.across.has_down x.across.below in
    x.across.apart (up ∙ sym (ap negated down ∙ negated_twice (unit_row n 0)))
positive_strains_not n (TooMany count) x =
    let g : LinearRow = record { row = unit_row n 0; equal = false } in
    let cone = whole_cone n in
    let met = line_met (whole_space n) g (map (unit_row n) (fronts 1 n)) (unit_row n 0 ∷ []) cone (unit_length n 0) (positive_case n) in
    let canonical = line_canonical (whole_space n) g (map (unit_row n) (fronts 1 n)) (unit_row n 0 ∷ []) cone (positive_case n) in
    one_ray (too_many (suc n) row_limit (unit_row n 0 ∷ []) x.new_lines x.new_rays (map (unit_row n) (fronts 1 n)) (unit_row n 0 ∷ []) (x.met [] cone.dual) (met [] cone.dual) x.canonical canonical
    (subst (λ (k : ℕ). row_limit < k) (sym x.are) x.long))
