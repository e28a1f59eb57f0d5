-- Sums of joined and of mapped lists of rows.
use Rattle.std.proofs.Common.{◌≡◌, ℕ, ◌<◌, Bool, true, false, List, [], ◌∷◌, ◌++◌, length, map, drop, ap, refl, sym, ◌∙◌, subst, ℤ, pos, neg_ℤ, ◌+ℤ◌, ◌*ℤ◌, ◌<ℤ◌, ◌≤ℤ◌, arith}
use Rattle.std.proofs.lemmas.Int.{ints}
use Rattle.std.specs.List.{Contains}
use Rattle.lra_mapped_systems.specs.Crates.lra_linear_spec.Descriptions.{LinearRow, line, system_of}
use Rattle.lra_mapped_systems.specs.Crates.lra_linear_spec.Vectors.{blend, entry, negated, sum_of, zeros}
use Rattle.lra_mapped_systems.specs.Crates.{lra_linear_spec.Cones.Generated, lra_linear_spec.Cones.with_row, lra_linear_spec.Points.SamePoint}
use Rattle.lra_mapped_systems.proofs.Crates.lra_linear_spec.Combinations.{generated_divided, generated_plus, generated_same, generated_times, generated_zero}
use Rattle.lra_mapped_systems.proofs.Crates.lra_linear_spec.Products.{blend_length, entry_blend, entry_negated}
use Rattle.lra_mapped_systems.proofs.Crates.lra_linear_spec.Ring.{ring, v, ⊖, ◌⊕◌, ◌⊗◌}
use Rattle.lra_mapped_systems.proofs.Crates.{lra_canonical.Solutions.sum_none, lra_descriptions.SeveralKinds.system_append, lra_linear_spec.Lines.entry_zeros, lra_linear_spec.Lines.zeros_length}
use Rattle.lra_mapped_systems.proofs.Crates.{lra_linear_spec.Membership.contains_head, lra_linear_spec.Membership.contains_tail, lra_linear_spec.Signs.as_nat, lra_linear_spec.Signs.positive_nat}

-- ---- joined lists
sum_joined : (fs : List ℕ) (rows more : List (List ℤ)) (j : ℕ) →
    sum_of fs (rows ++ more) j ≡ sum_of fs rows j +ℤ sum_of (drop (length rows) fs) more j
sum_joined fs [] more j = ring (v (sum_of fs more j)) (v (pos 0) ⊕ v (sum_of fs more j)) (omega arith) ∙
    ap (λ (z : ℤ). z +ℤ sum_of fs more j) (sym (sum_none fs j))
sum_joined [] (r ∷ rows) more j = refl
sum_joined (f ∷ fs) (r ∷ rows) more j =
    ap (λ (z : ℤ). (pos f *ℤ entry r j) +ℤ z) (sum_joined fs rows more j) ∙
    ring (v (pos f) ⊗ v (entry r j) ⊕ (v (sum_of fs rows j) ⊕ v (sum_of (drop (length rows) fs) more j)))
    (v (pos f) ⊗ v (entry r j) ⊕ v (sum_of fs rows j) ⊕ v (sum_of (drop (length rows) fs) more j)) (omega arith)

-- a positive multiple is a sum of rows of the first list, and of rows of the second
pub record Parts (rows more : List (List ℤ)) (u : ℕ → ℤ) : Type 0 where
  pub multiple : ℕ
  pub positive : 0 < multiple
  pub first : List ℕ
  pub second : List ℕ
  pub is_sum : (j : ℕ) → pos multiple *ℤ u j ≡ sum_of first rows j +ℤ sum_of second more j

pub parts : (rows more : List (List ℤ)) (u : ℕ → ℤ) → Generated (rows ++ more) u → Parts rows more u
parts rows more u g = record {
  multiple = g.multiple;
  positive = g.positive;
  first = g.factors;
  second = drop (length rows) g.factors;
  is_sum = λ j. g.is_sum j ∙ sum_joined g.factors rows more j;
}

-- a sum of multiples of a row and of its opposite
abbrev signed_factor : List ℕ → ℤ
signed_factor [] = pos 0
signed_factor (f ∷ []) = pos f
signed_factor (f ∷ g ∷ gs) = pos f +ℤ neg_ℤ (pos g)

both_signs : (fs : List ℕ) (r : List ℤ) (j : ℕ) → sum_of fs (r ∷ negated r ∷ []) j ≡ signed_factor fs *ℤ entry r j
both_signs [] r j = ring (v (pos 0)) (v (pos 0) ⊗ v (entry r j)) (omega arith)
both_signs (f ∷ []) r j = ring (v (pos f) ⊗ v (entry r j) ⊕ v (pos 0)) (v (pos f) ⊗ v (entry r j)) (omega arith)
both_signs (f ∷ g ∷ gs) r j =
    ap (λ (z : ℤ). (pos f *ℤ entry r j) +ℤ ((pos g *ℤ entry (negated r) j) +ℤ z)) (sum_none gs j)
    ∙ ap (λ (z : ℤ). (pos f *ℤ entry r j) +ℤ ((pos g *ℤ z) +ℤ pos 0)) (entry_negated r j)
    ∙ ring (v (pos f) ⊗ v (entry r j) ⊕ (v (pos g) ⊗ ⊖ (v (entry r j)) ⊕ v (pos 0)))
    ((v (pos f) ⊕ ⊖ (v (pos g))) ⊗ v (entry r j)) (omega arith)

-- ---- with one further line
pub record WithLine (rows : List (List ℤ)) (r : List ℤ) (u : ℕ → ℤ) : Type 0 where
  pub multiple : ℕ
  pub positive : 0 < multiple
  pub factors : List ℕ
  pub free : ℤ
  pub is_sum : (j : ℕ) → pos multiple *ℤ u j ≡ sum_of factors rows j +ℤ (free *ℤ entry r j)

pub with_line : (list : List LinearRow) (r : List ℤ) (u : ℕ → ℤ) → Generated (system_of (list ++ line r ∷ [])) u →
    WithLine (system_of list) r u
with_line list r u g =
    let p = parts (system_of list) (r ∷ negated r ∷ []) u
    (subst (λ (l : List (List ℤ)). Generated l u) (system_append list (line r ∷ [])) g) in
    record {
      multiple = p.multiple;
      positive = p.positive;
      factors = p.first;
      free = signed_factor p.second;
      is_sum = λ j. p.is_sum j ∙ ap (λ (z : ℤ). sum_of p.first (system_of list) j +ℤ z) (both_signs p.second r j);
    }

-- ---- linear maps
pub record IsLinear (f : (ℕ → ℤ) → ℕ → ℤ) : Type 0 where
  pub nothing : (j : ℕ) → f (λ i. pos 0) j ≡ pos 0
  pub plus : (a : ℤ) (x s : ℕ → ℤ) (j : ℕ) → f (λ i. (a *ℤ x i) +ℤ s i) j ≡ (a *ℤ f x j) +ℤ f s j
  pub same : (x y : ℕ → ℤ) → ((i : ℕ) → x i ≡ y i) → (j : ℕ) → f x j ≡ f y j

pub linear_times : (f : (ℕ → ℤ) → ℕ → ℤ) → IsLinear f → (a : ℤ) (x : ℕ → ℤ) (j : ℕ) → f (λ i. a *ℤ x i) j ≡ a *ℤ f x j
linear_times f l a x j =
    l.same (λ i. a *ℤ x i) (λ i. (a *ℤ x i) +ℤ pos 0)
    (λ i. ring (v a ⊗ v (x i)) (v a ⊗ v (x i) ⊕ v (pos 0)) (omega arith)) j
    ∙ l.plus a x (λ i. pos 0) j ∙ ap (λ (z : ℤ). (a *ℤ f x j) +ℤ z) (l.nothing j) ∙
    ring (v a ⊗ v (f x j) ⊕ v (pos 0)) (v a ⊗ v (f x j)) (omega arith)

-- the sum of mapped rows
pub sum_mapped : (f : (ℕ → ℤ) → ℕ → ℤ) → IsLinear f → (m : List ℤ → List ℤ) (fs : List ℕ) (rows : List (List ℤ)) →
    ((r : List ℤ) → Contains rows r → (j : ℕ) → entry (m r) j ≡ f (entry r) j) →
    (j : ℕ) → sum_of fs (map m rows) j ≡ f (sum_of fs rows) j
sum_mapped f l m [] rows is j = sym (l.nothing j)
sum_mapped f l m (a ∷ fs) [] is j = sym (l.nothing j)
sum_mapped f l m (a ∷ fs) (r ∷ rows) is j =
    ap (λ (z : ℤ). (pos a *ℤ z) +ℤ sum_of fs (map m rows) j) (is r (contains_head r rows) j)
    ∙ ap (λ (z : ℤ). (pos a *ℤ f (entry r) j) +ℤ z) (sum_mapped f l m fs rows
    (λ t k. is t (contains_tail r t rows k)) j)
    ∙ sym (l.plus (pos a) (entry r) (sum_of fs rows) j)

-- what rows generate, mapped rows generate mapped
pub generated_mapped : (f : (ℕ → ℤ) → ℕ → ℤ) → IsLinear f → (m : List ℤ → List ℤ) (rows : List (List ℤ)) (u : ℕ → ℤ) →
    ((r : List ℤ) → Contains rows r → (j : ℕ) → entry (m r) j ≡ f (entry r) j) → Generated rows u →
    Generated (map m rows) (f u)
generated_mapped f l m rows u is g = record {
  multiple = g.multiple;
  positive = g.positive;
  factors = g.factors;
  is_sum = λ j. sym (linear_times f l (pos g.multiple) u j) ∙
      l.same (λ i. pos g.multiple *ℤ u i) (sum_of g.factors rows) g.is_sum j ∙
      sym (sum_mapped f l m g.factors rows is j);
}

-- what rows generate is mapped into a cone that holds each of them mapped
linear_sum : (f : (ℕ → ℤ) → ℕ → ℤ) → IsLinear f → (rows target : List (List ℤ)) →
    ((r : List ℤ) → Contains rows r → Generated target (f (entry r))) → (fs : List ℕ) →
    Generated target (f (sum_of fs rows))
linear_sum f l rows target h [] = generated_same target (λ j. pos 0) (f (λ i. pos 0)) (λ j. sym (l.nothing j))
    (generated_zero target)
linear_sum f l [] target h (a ∷ fs) = generated_same target (λ j. pos 0) (f (λ i. pos 0)) (λ j. sym (l.nothing j))
    (generated_zero target)
linear_sum f l (r ∷ rows) target h (a ∷ fs) =
    generated_same target (λ j. (pos a *ℤ f (entry r) j) +ℤ f (sum_of fs rows) j) (f (sum_of (a ∷ fs) (r ∷ rows)))
    (λ j. sym (l.plus (pos a) (entry r) (sum_of fs rows) j))
    (generated_plus target (λ j. pos a *ℤ f (entry r) j) (f (sum_of fs rows))
    (generated_times target a (f (entry r)) (h r (contains_head r rows)))
    (linear_sum f l rows target (λ t k. h t (contains_tail r t rows k)) fs))

pub generated_linear : (f : (ℕ → ℤ) → ℕ → ℤ) → IsLinear f → (rows target : List (List ℤ)) (u : ℕ → ℤ) →
    ((r : List ℤ) → Contains rows r → Generated target (f (entry r))) → Generated rows u →
    Generated target (f u)
generated_linear f l rows target u h g = generated_divided target g.multiple (f u) g.positive
    (generated_same target (f (sum_of g.factors rows)) (λ j. pos g.multiple *ℤ f u j)
    (λ j. sym (l.same (λ i. pos g.multiple *ℤ u i) (sum_of g.factors rows) g.is_sum j) ∙
    linear_times f l (pos g.multiple) u j) (linear_sum f l rows target h g.factors))

-- ---- the system of mapped generators
abbrev pub mapped_by : (List ℤ → List ℤ) → List LinearRow → List LinearRow
mapped_by m list = map (λ g. record { row = m g.row; equal = g.equal }) list

pub system_mapped : (m : List ℤ → List ℤ) → ((r : List ℤ) → m (negated r) ≡ negated (m r)) → (list : List LinearRow) →
    system_of (mapped_by m list) ≡ map m (system_of list)
system_mapped m n [] = refl
system_mapped m n (g ∷ list) = by_kind g.equal (system_mapped m n list)
  where
    by_kind : (b : Bool) → system_of (mapped_by m list) ≡ map m (system_of list) →
        with_row b (m g.row) (system_of (mapped_by m list)) ≡ map m (with_row b g.row (system_of list))
    by_kind true e = ap (λ (l : List (List ℤ)). m g.row ∷ negated (m g.row) ∷ l) e ∙
        ap (λ (r : List ℤ). m g.row ∷ r ∷ map m (system_of list)) (sym (n g.row))
    by_kind false e = ap (λ (l : List (List ℤ)). m g.row ∷ l) e

-- ---- a sum as a row
pub record RowOfSum (w : ℕ) (fs : List ℕ) (rows : List (List ℤ)) : Type 0 where
  pub row : List ℤ
  pub width : length row ≡ w
  pub entries : (j : ℕ) → entry row j ≡ sum_of fs rows j

pub row_of_sum : (w : ℕ) (fs : List ℕ) (rows : List (List ℤ)) → ((r : List ℤ) → Contains rows r → length r ≡ w) →
    RowOfSum w fs rows
row_of_sum w [] rows h = record { row = zeros w; width = zeros_length w; entries = entry_zeros w }
row_of_sum w (f ∷ fs) [] h = record { row = zeros w; width = zeros_length w; entries = entry_zeros w }
row_of_sum w (f ∷ fs) (r ∷ rows) h =
    let i = row_of_sum w fs rows (λ t k. h t (contains_tail r t rows k)) in
    let e : length r ≡ length i.row = h r (contains_head r rows) ∙ sym i.width in
    record {
      row = blend (pos f) (pos 1) r i.row;
      width = blend_length (pos f) (pos 1) r i.row e ∙ h r (contains_head r rows);
      entries = λ j. entry_blend (pos f) (pos 1) r i.row e j ∙
          ap (λ (z : ℤ). (pos f *ℤ entry r j) +ℤ (pos 1 *ℤ z)) (i.entries j) ∙
          ring (v (pos f) ⊗ v (entry r j) ⊕ v (pos 1) ⊗ v (sum_of fs rows j))
          (v (pos f) ⊗ v (entry r j) ⊕ v (sum_of fs rows j)) (omega arith);
    }

-- ---- one point by several rows
pub generated_same_point : (rows : List (List ℤ)) (x y : List ℤ) → pos 0 <ℤ entry x 0 → pos 0 <ℤ entry y 0 →
    SamePoint x y → Generated rows (entry y) → Generated rows (entry x)
generated_same_point rows x y px py s g =
    let d = as_nat (entry y 0) (at_least_zero (entry y 0) py) in
    let e = as_nat (entry x 0) (at_least_zero (entry x 0) px) in
    generated_divided rows d.0 (entry x) (positive_nat (entry y 0) d.0 py d.1)
    (generated_same rows (λ j. pos e.0 *ℤ entry y j) (λ j. pos d.0 *ℤ entry x j)
    (λ j. columns (entry x j) (entry y j) (entry x 0) (entry y 0) (pos d.0) (pos e.0) d.1 e.1 (s j))
    (generated_times rows e.0 (entry y) g))
  where
    at_least_zero : (z : ℤ) → pos 0 <ℤ z → pos 0 ≤ℤ z
    at_least_zero z h = omega (arith, ints, h)

    columns : (xj yj x0 y0 d e : ℤ) → y0 ≡ d → x0 ≡ e → xj *ℤ y0 ≡ yj *ℤ x0 → e *ℤ yj ≡ d *ℤ xj
    columns xj yj x0 y0 d e ed ee h =
        ap (λ (z : ℤ). z *ℤ yj) (sym ee) ∙ ring (v x0 ⊗ v yj) (v yj ⊗ v x0) (omega arith) ∙ sym h ∙
        ring (v xj ⊗ v y0) (v y0 ⊗ v xj) (omega arith) ∙ ap (λ (z : ℤ). z *ℤ xj) ed
