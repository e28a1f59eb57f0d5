-- The points of the polyhedron of all multipliers are the multipliers that show the claim.
use Rattle.std.proofs.Common.{◌≡◌, ℕ, zero, suc, ◌<◌, ◌≤◌, ◌+◌, ℤ, pos, neg_ℤ, ◌+ℤ◌, ◌*ℤ◌, ◌≤ℤ◌, Bool, true, false, cond, List, [], ◌∷◌, length, map, refl, ap, sym, ◌∙◌, subst, arith, inl, inr}
use Rattle.std.proofs.lemmas.List.Elements.{Contains-append_cases, Contains-append_left, Contains-append_right}
use Rattle.std.proofs.{lemmas.Bool.cases_lt, lemmas.Int.ints, lemmas.List.FromFn.length-range_with_len, lemmas.List.FromFn.get_or-range_with_len}
use Rattle.std.specs.List.{Contains, range_with_len}
use Rattle.lra_farkas.proofs.Crates.lra_linear_spec.Membership.{contains_none, contains_head, contains_tail, contains_cases, map_has, map_from}
use Rattle.lra_farkas.proofs.Crates.lra_linear_spec.Ring.{ring, v, ⊖, ◌⊕◌, ◌⊗◌}
use Rattle.lra_farkas.proofs.Crates.lra_linear_spec.UnitRows.{unit_product}
use Rattle.lra_farkas.proofs.Crates.{lra_description_pair.TightRows.rows_from, lra_linear_spec.Lines.entry_zeros, lra_linear_spec.Products.entry_past, lra_linear_spec.Spans.sum_zero}
use Rattle.lra_farkas.specs.Crates.lra_linear_spec.Descriptions.{LinearRow, equality, rows_of, Con, Holds}
use Rattle.lra_farkas.specs.Crates.lra_linear_spec.Vectors.{entry, dot, product, signed_sum}
use Rattle.lra_farkas.specs.Crates.{lra_linear_spec.OperationStrain.unit_row, lra_linear_spec.Points.IsPoint, lra_linear_spec.Polyhedra.positivity}
use Rattle.lra_multipliers.specs.{Columns.first_of, Multipliers.IsSigned, Multipliers.AreSigned, Multipliers.IsFarkasCertificate}
use Rattle.lra_multipliers.proofs.CheckSteps.{first_past}
use Rattle.lra_farkas.specs.MultiplierRows.{balance_row, inequality_columns, multiplier_dims, sign_row, multiplier_rows, AreAsWide, PointsShow}

-- ---- one column
dot_column : (rows : List (List ℤ)) (ls : List ℤ) (j : ℕ) → length ls ≡ length rows → dot (map (λ r. entry r j) rows) (entry ls) ≡ signed_sum ls rows j
dot_column [] [] j n = refl
dot_column [] (l ∷ ls) j n = refl
dot_column (r ∷ rows) [] j n = absurd (omega (arith, n))
dot_column (r ∷ rows) (l ∷ ls) j n =
    ap (λ (z : ℤ). (entry r j *ℤ l) +ℤ z) (dot_column rows ls j (omega (arith, n))) ∙
    ring (v (entry r j) ⊗ v l ⊕ v (signed_sum ls rows j)) (v l ⊗ v (entry r j) ⊕ v (signed_sum ls rows j)) (omega arith)

balance_product : (rows : List (List ℤ)) (claim : List ℤ) (j : ℕ) (d c : ℤ) (ls : List ℤ) → length ls ≡ length rows →
    product (balance_row rows claim j) (d ∷ c ∷ ls) ≡ neg_ℤ (d *ℤ entry claim j) +ℤ ((c *ℤ first_of j (pos 1)) +ℤ signed_sum ls rows j)
balance_product rows claim j d c ls n =
    ap (λ (z : ℤ). (neg_ℤ (entry claim j) *ℤ d) +ℤ ((first_of j (pos 1) *ℤ c) +ℤ z)) (dot_column rows ls j n) ∙
    ring (⊖ (v (entry claim j)) ⊗ v d ⊕ (v (first_of j (pos 1)) ⊗ v c ⊕ v (signed_sum ls rows j)))
    (⊖ (v d ⊗ v (entry claim j)) ⊕ (v c ⊗ v (first_of j (pos 1)) ⊕ v (signed_sum ls rows j))) (omega arith)

balanced : (x y z : ℤ) → z ≡ neg_ℤ x +ℤ y → z ≡ pos 0 → x ≡ y
balanced x y z e h = omega (arith, ints, e, h)

balances : (x y z : ℤ) → z ≡ neg_ℤ x +ℤ y → x ≡ y → z ≡ pos 0
balances x y z e h = omega (arith, ints, e, h)

-- 1 >= 0 has a column 0 alone
pub one_column : (n j : ℕ) → first_of j (pos 1) ≡ entry (positivity n) j
one_column n zero = refl
one_column n (suc j) = sym (entry_zeros n j)

pub rows_many : (gs : List LinearRow) → length (rows_of gs) ≡ length gs
rows_many [] = refl
rows_many (g ∷ gs) = ap suc (rows_many gs)

-- ---- columns that are counted
range_has : (n j : ℕ) → j < n → Contains (range_with_len 0 n) j
range_has n j h = (j, (let l = length-range_with_len 0 n in omega (arith, l, h)), get_or-range_with_len 0 n j j h ∙ (let e : 0 + j ≡ j = omega arith in e))

-- ---- signs
within_more : (column k : ℕ) (gs : List LinearRow) (rest : List ℕ) (b : Bool) → (Contains rest k → k < suc column + length gs) →
    Contains (cond b rest (column ∷ rest)) k →
    k < column + suc (length gs)
within_more column k gs rest true later m = let i = later m in omega (arith, i)
within_more column k gs rest false later m = elim (contains_cases column k rest m) [ inl e ↦ omega (arith, e) | inr d ↦ let i = later d in omega (arith, i) ]

columns_within : (column : ℕ) (gs : List LinearRow) (k : ℕ) → Contains (inequality_columns column gs) k → k < column + length gs
columns_within column [] k h = absurd (contains_none k h)
columns_within column (g ∷ gs) k h = within_more column k gs (inequality_columns (suc column) gs) g.equal (columns_within (suc column) gs k) h

-- what the columns hold, from the signs of these numbers, and the other way
signed_first : (u : ℕ → ℤ) (b : Bool) (l : ℤ) (column : ℕ) (rest : List ℕ) → ((k : ℕ) → Contains (cond b rest (column ∷ rest)) k → pos 0 ≤ℤ u k) →
    u column ≡ l →
    IsSigned b l × ((k : ℕ) → Contains rest k → pos 0 ≤ℤ u k)
signed_first u true l column rest h e = (tt, h)
signed_first u false l column rest h e = (subst (λ (z : ℤ). pos 0 ≤ℤ z) e (h column (contains_head column rest)), λ k m. h k (contains_tail column k rest m))

signs_from : (u : ℕ → ℤ) (column : ℕ) (gs : List LinearRow) (ls : List ℤ) → length ls ≡ length gs → ((i : ℕ) → u (column + i) ≡ entry ls i) →
    ((k : ℕ) → Contains (inequality_columns column gs) k → pos 0 ≤ℤ u k) → AreSigned gs ls
signs_from u column [] [] n e h = tt
signs_from u column [] (l ∷ ls) n e h = absurd (omega (arith, n))
signs_from u column (g ∷ gs) [] n e h = absurd (omega (arith, n))
signs_from u column (g ∷ gs) (l ∷ ls) n e h =
    let first = signed_first u g.equal l column (inequality_columns (suc column) gs) h (ap u (let z : column ≡ column + 0 = omega arith in z) ∙ e 0) in
    (first.0, signs_from u (suc column) gs ls (omega (arith, n)) (λ i. ap u (let z : suc column + i ≡ column + suc i = omega arith in z) ∙ e (suc i)) first.1)

signed_at : (u : ℕ → ℤ) (b : Bool) (l : ℤ) (column k : ℕ) (rest : List ℕ) → u column ≡ l → IsSigned b l → Contains (cond b rest (column ∷ rest)) k →
    (Contains rest k → pos 0 ≤ℤ u k) → pos 0 ≤ℤ u k
signed_at u true l column k rest e s m h = h m
signed_at u false l column k rest e s m h = elim (contains_cases column k rest m) [
  | inl d ↦ subst (λ (i : ℕ). pos 0 ≤ℤ u i) d (subst (λ (z : ℤ). pos 0 ≤ℤ z) (sym e) s)
  | inr d ↦ h d
]

signs_to : (u : ℕ → ℤ) (column : ℕ) (gs : List LinearRow) (ls : List ℤ) → ((i : ℕ) → u (column + i) ≡ entry ls i) → AreSigned gs ls →
    (k : ℕ) → Contains (inequality_columns column gs) k → pos 0 ≤ℤ u k
signs_to u column [] ls e s k m = absurd (contains_none k m)
signs_to u column (g ∷ gs) [] e s k m = absurd s
signs_to u column (g ∷ gs) (l ∷ ls) e s k m =
    signed_at u g.equal l column k (inequality_columns (suc column) gs) (ap u (let z : column ≡ column + 0 = omega arith in z) ∙ e 0) s.0 m
    (signs_to u (suc column) gs ls (λ i. ap u (let z : suc column + i ≡ column + suc i = omega arith in z) ∙ e (suc i)) s.1 k)

signed_many : (gs : List LinearRow) (ls : List ℤ) → AreSigned gs ls → length ls ≡ length gs
signed_many [] [] s = refl
signed_many [] (l ∷ ls) s = absurd s
signed_many (g ∷ gs) [] s = absurd s
signed_many (g ∷ gs) (l ∷ ls) s = ap suc (signed_many gs ls s.1)

-- ---- both
module _ (premises : List LinearRow) (claim : List ℤ) (d c : ℤ) (ls : List ℤ) (wide : AreAsWide premises claim) (n : length ls ≡ length premises) where
  many : length ls ≡ length (rows_of premises)
  many = n ∙ sym (rows_many premises)

  balance_of : (j : ℕ) → product (balance_row (rows_of premises) claim j) (d ∷ c ∷ ls) ≡
      neg_ℤ (d *ℤ entry claim j) +ℤ ((c *ℤ entry (positivity (length claim)) j) +ℤ signed_sum ls (rows_of premises) j)
  balance_of j =
      balance_product (rows_of premises) claim j d c ls many ∙
      ap (λ (z : ℤ). neg_ℤ (d *ℤ entry claim j) +ℤ ((c *ℤ z) +ℤ signed_sum ls (rows_of premises) j)) (one_column (length claim) j)

  -- after the last column all are 0
  sum_behind : (j : ℕ) → length claim ≤ j →
      d *ℤ entry claim j ≡ (c *ℤ entry (positivity (length claim)) j) +ℤ signed_sum ls (rows_of premises) j
  sum_behind j h =
      let past : 0 < j = (let s = wide.some in omega (arith, s, h)) in
      ap (λ (z : ℤ). d *ℤ z) (entry_past claim j h) ∙
      ring (v d ⊗ v (pos 0)) (v c ⊗ v (pos 0) ⊕ v (pos 0)) (omega arith) ∙
      ap (λ (z : ℤ). (c *ℤ z) +ℤ pos 0) (sym (sym (one_column (length claim) j) ∙ first_past j (pos 1) past)) ∙
      ap (λ (z : ℤ). (c *ℤ entry (positivity (length claim)) j) +ℤ z) (sym (sum_zero ls (rows_of premises) j (λ r k.
      let g = rows_from premises r k in
      let w = wide.each g.0 g.1 in
      entry_past r j (subst (λ (t : List ℤ). length t ≤ j) g.2 (omega (arith, w, h))))))

  entry_columns : (i : ℕ) → entry (d ∷ c ∷ ls) (2 + i) ≡ entry ls i
  entry_columns i = ap (entry (d ∷ c ∷ ls)) (let e : 2 + i ≡ suc (suc i) = omega arith in e)

  sign_at : (k : ℕ) → k < suc (multiplier_dims premises) → product (unit_row (multiplier_dims premises) k) (d ∷ c ∷ ls) ≡ entry (d ∷ c ∷ ls) k
  sign_at k h = unit_product (multiplier_dims premises) k (d ∷ c ∷ ls) h

  within : (k : ℕ) → Contains (1 ∷ inequality_columns 2 premises) k → k < suc (multiplier_dims premises)
  within k m = elim (contains_cases 1 k (inequality_columns 2 premises) m) [
    | inl e ↦ omega (arith, e)
    | inr t ↦ let i = columns_within 2 premises k t in omega (arith, i)
  ]

  sign_held : Con (multiplier_rows premises claim) (d ∷ c ∷ ls) → (k : ℕ) → Contains (1 ∷ inequality_columns 2 premises) k → pos 0 ≤ℤ entry (d ∷ c ∷ ls) k
  sign_held h k m =
      subst (λ (z : ℤ). pos 0 ≤ℤ z) (sign_at k (within k m)) (h (sign_row (multiplier_dims premises) k)
      (Contains-append_right (map (λ j. equality (balance_row (rows_of premises) claim j)) (range_with_len 0 (length claim)))
      (map (sign_row (multiplier_dims premises)) (1 ∷ inequality_columns 2 premises)) (sign_row (multiplier_dims premises) k)
      (map_has (sign_row (multiplier_dims premises)) (1 ∷ inequality_columns 2 premises) k m)))

  balance_held : Con (multiplier_rows premises claim) (d ∷ c ∷ ls) → (j : ℕ) → j < length claim →
      d *ℤ entry claim j ≡ (c *ℤ entry (positivity (length claim)) j) +ℤ signed_sum ls (rows_of premises) j
  balance_held h j less =
      balanced (d *ℤ entry claim j) ((c *ℤ entry (positivity (length claim)) j) +ℤ signed_sum ls (rows_of premises) j)
      (product (balance_row (rows_of premises) claim j) (d ∷ c ∷ ls)) (balance_of j) (h (equality (balance_row (rows_of premises) claim j))
      (Contains-append_left (map (λ i. equality (balance_row (rows_of premises) claim i)) (range_with_len 0 (length claim)))
      (map (sign_row (multiplier_dims premises)) (1 ∷ inequality_columns 2 premises)) (equality (balance_row (rows_of premises) claim j))
      (map_has (λ i. equality (balance_row (rows_of premises) claim i)) (range_with_len 0 (length claim)) j (range_has (length claim) j less))))

  shown_at : IsPoint (multiplier_dims premises) (d ∷ c ∷ ls) → Con (multiplier_rows premises claim) (d ∷ c ∷ ls) →
      IsFarkasCertificate premises claim (record { divisor = d; constant = c; factors = ls })
  shown_at p h = record {
    divisor = p.divisor;
    constant = sign_held h 1 (contains_head 1 (inequality_columns 2 premises));
    factors = signs_from (entry (d ∷ c ∷ ls)) 2 premises ls n entry_columns
        (λ k m. sign_held h k (contains_tail 1 k (inequality_columns 2 premises) m));
    sum = λ j. elim (cases_lt j (length claim)) [ inl less ↦ balance_held h j less | inr past ↦ sum_behind j past ];
  }

  sign_holds : IsFarkasCertificate premises claim (record { divisor = d; constant = c; factors = ls }) → (k : ℕ) →
      Contains (1 ∷ inequality_columns 2 premises) k →
      pos 0 ≤ℤ entry (d ∷ c ∷ ls) k
  sign_holds s k m = elim (contains_cases 1 k (inequality_columns 2 premises) m) [
    | inl e ↦ subst (λ (i : ℕ). pos 0 ≤ℤ entry (d ∷ c ∷ ls) i) e s.constant
    | inr t ↦ signs_to (entry (d ∷ c ∷ ls)) 2 premises ls entry_columns s.factors k t
  ]

  holds_at : IsFarkasCertificate premises claim (record { divisor = d; constant = c; factors = ls }) → Con (multiplier_rows premises claim) (d ∷ c ∷ ls)
  holds_at s g m = elim (Contains-append_cases (map (λ j. equality (balance_row (rows_of premises) claim j)) (range_with_len 0 (length claim)))
      (map (sign_row (multiplier_dims premises)) (1 ∷ inequality_columns 2 premises)) g m) [
        | inl left ↦
            let got = map_from (λ j. equality (balance_row (rows_of premises) claim j)) (range_with_len 0 (length claim)) g left in
            subst (λ (f : LinearRow). Holds f (d ∷ c ∷ ls)) got.2
            (balances (d *ℤ entry claim got.0) ((c *ℤ entry (positivity (length claim)) got.0) +ℤ signed_sum ls (rows_of premises) got.0)
            (product (balance_row (rows_of premises) claim got.0) (d ∷ c ∷ ls)) (balance_of got.0) (s.sum got.0))
        | inr right ↦
            let got = map_from (sign_row (multiplier_dims premises)) (1 ∷ inequality_columns 2 premises) g right in
            subst (λ (f : LinearRow). Holds f (d ∷ c ∷ ls)) got.2
            (subst (λ (z : ℤ). pos 0 ≤ℤ z) (sym (sign_at got.0 (within got.0 got.1))) (sign_holds s got.0 got.1))
      ]

pub points_show : PointsShow
points_show premises claim m wide = (
  λ p. let w : suc (suc (length m.factors)) ≡ suc (suc (length premises)) = p.is_point.width in
      shown_at premises claim m.divisor m.constant m.factors wide (omega (arith, w)) p.is_point p.meets,
  λ s. let n = signed_many premises m.factors s.factors in record {
    is_point = record { width = omega (arith, n); divisor = s.divisor };
    meets = holds_at premises claim m.divisor m.constant m.factors wide n s;
  },
)
