-- A twin of a dimension: what the constraints ask of a point with one further coordinate.
use Rattle.std.proofs.Common.{◌≡◌, ℕ, zero, suc, ◌<◌, ◌≤◌, ◌+◌, List, [], ◌∷◌, ◌++◌, length, map, drop, slice_set, ap, refl, sym, ◌∙◌, ℤ, pos, ◌+ℤ◌, ◌*ℤ◌, arith}
use Rattle.std.proofs.lemmas.List.{map-append, length-set}
use Rattle.lra_poly_queries.specs.Crates.lra_linear_spec.Vectors.{cleared, dot, entry, product}
use Rattle.lra_poly_queries.specs.Crates.{lra_linear_spec.Descriptions.Con, lra_linear_spec.Descriptions.LinearRow, lra_linear_spec.Kinds.is_equality, lra_linear_spec.Points.SameSet}
use Rattle.lra_poly_queries.specs.Crates.{lra_linear_spec.Polyhedra.IsPolyhedron, lra_linear_spec.Polyhedra.Polyhedron, lra_linear_spec.declared.ConKind.ConKind}
use Rattle.lra_poly_queries.proofs.Crates.{lra_duality.PolyhedronLemmas.given_width, lra_linear_spec.Products.entry_past, lra_linear_spec.Ring.ring, lra_linear_spec.Ring.v, lra_linear_spec.Ring.◌⊕◌}
use Rattle.lra_poly_queries.proofs.Crates.{lra_linear_spec.Ring.◌⊗◌, lra_linear_spec.SetOperations.meet_con, lra_linear_spec.SetOperations.product_set}
use Rattle.lra_systems.specs.LinearSystems.{LinearSystem, constraints, rows_by_kind}
use Rattle.lra_poly_queries.specs.{Expanded.Expanded, Expanded.expanded, Joined.counted, Moved.chosen, Moved.moved, Related.replaced}
use Rattle.lra_poly_queries.proofs.{JoinedSets.con_moved, JoinedSets.dot_within, JoinedSets.first_rows, RelatedSets.replaced_length, TakenRows.TakesRows}

-- ---- lists with a member replaced
map_set : (f : ℕ → ℤ) (l : List ℕ) (k d : ℕ) → map f (slice_set l k d) ≡ slice_set (map f l) k (f d)
map_set f [] k d = refl
map_set f (x ∷ l) zero d = refl
map_set f (x ∷ l) (suc k) d = ap (λ (r : List ℤ). f x ∷ r) (map_set f l k d)

-- ---- dimensions in turn
nothing_left : (cs : List ℤ) (s : ℕ) → length cs ≤ s → drop s cs ≡ []
nothing_left [] zero h = refl
nothing_left [] (suc s) h = refl
nothing_left (c ∷ cs) zero h = absurd (omega (arith, h))
nothing_left (c ∷ cs) (suc s) h = nothing_left cs s (omega (arith, h))

one_left : (cs : List ℤ) (s : ℕ) → s < length cs → drop s cs ≡ entry cs s ∷ drop (suc s) cs
one_left [] s h = absurd (omega (arith, h))
one_left (c ∷ cs) zero h = refl
one_left (c ∷ cs) (suc s) h = one_left cs s (omega (arith, h))

counted_row : (cs : List ℤ) (k s : ℕ) → length cs ≡ s + k → map (λ d. entry cs d) (counted k s) ≡ drop s cs
counted_row cs zero s w = sym (nothing_left cs s (omega (arith, w)))
counted_row cs (suc k) s w =
    ap (λ (r : List ℤ). entry cs s ∷ r) (counted_row cs k (suc s) (omega (arith, w))) ∙
    sym (one_left cs s (omega (arith, w)))

counted_at : (g : ℕ → ℤ) (k s j : ℕ) → j < k → g (s + j) ≡ entry (map g (counted k s)) j
counted_at g zero s j h = absurd (omega (arith, h))
counted_at g (suc k) s zero h = ap g (none_on s)
  where
    none_on : (s : ℕ) → s + 0 ≡ s
    none_on s = omega arith
counted_at g (suc k) s (suc j) h = ap g (one_on s j) ∙ counted_at g k (suc s) j (omega (arith, h))
  where
    one_on : (s j : ℕ) → s + suc j ≡ suc s + j
    one_on s j = omega arith

counted_width : (g : ℕ → ℤ) (k s : ℕ) → length (map g (counted k s)) ≡ k
counted_width g zero s = refl
counted_width g (suc k) s = ap suc (counted_width g k (suc s))

-- ---- one number more
dot_last : (a : List ℤ) (z : ℤ) (u : ℕ → ℤ) (n : ℕ) → length a ≡ n → dot (a ++ z ∷ []) u ≡ dot a u +ℤ (z *ℤ u n)
dot_last [] z u n w = ap (λ (j : ℕ). (z *ℤ u j) +ℤ pos 0) w ∙
    ring (v z ⊗ v (u n) ⊕ v (pos 0)) (v (pos 0) ⊕ v z ⊗ v (u n)) (omega arith)
dot_last (x ∷ a) z u zero w = absurd (omega (arith, w))
dot_last (x ∷ a) z u (suc n) w =
    ap (λ (y : ℤ). (x *ℤ u 0) +ℤ y) (dot_last a z (λ j. u (suc j)) n (omega (arith, w))) ∙
    ring (v x ⊗ v (u 0) ⊕ (v (dot a (λ j. u (suc j))) ⊕ v z ⊗ v (u (suc n))))
    (v x ⊗ v (u 0) ⊕ v (dot a (λ j. u (suc j))) ⊕ v z ⊗ v (u (suc n))) (omega arith)

-- ---- the twin's constraint
twin_row : (n k : ℕ) (cs : List ℤ) → length cs ≡ n →
    map (λ d. entry cs d) (replaced n k ++ k ∷ []) ≡ cleared k cs ++ entry cs k ∷ []
twin_row n k cs w =
    map-append (λ d. entry cs d) (replaced n k) (k ∷ [])
    ∙ ap (λ (r : List ℤ). r ++ entry cs k ∷ [])
    (map_set (λ d. entry cs d) (counted n 0) k n
    ∙ ap (λ (r : List ℤ). slice_set r k (entry cs n)) (counted_row cs n 0 (omega (arith, w)))
    ∙ ap (slice_set cs k) (entry_past cs n (omega (arith, w))))

twin_point : (n k : ℕ) (cs : List ℤ) (u : ℕ → ℤ) → length cs ≡ n → k < n →
    product cs (map u (replaced n k)) ≡ dot (cleared k cs) u +ℤ (entry cs k *ℤ u n)
twin_point n k cs u w h =
    let wide = counted_width u n 0 in
    ap (product cs) (map_set u (counted n 0) k n)
    ∙ product_set cs (map u (counted n 0)) k (u n) (omega (arith, wide, h))
    ∙ ap (λ (z : ℤ). z +ℤ (entry cs k *ℤ u n)) (sym (dot_within (cleared k cs) u (entry (map u (counted n 0)))
    (λ j less. ap u (none_on j) ∙ counted_at u n 0 j (short less))))
  where
    none_on : (j : ℕ) → j ≡ 0 + j
    none_on j = omega arith

    short : {j : ℕ} → j < length (cleared k cs) → j < n
    short {j = j} less = let e = length-set cs k (pos 0) in omega (arith, e, w, less)

twin_product : (n k : ℕ) (c x : List ℤ) → length c ≡ suc n → k < n →
    product (chosen (replaced n k ++ k ∷ []) c) x ≡ product c (chosen (replaced n k) x)
twin_product n k [] x w h = absurd (omega (arith, w))
twin_product n k (c ∷ cs) x w h =
    let wide : length cs ≡ n = omega (arith, w) in
    ap (λ (z : ℤ). (c *ℤ entry x 0) +ℤ z)
    (ap (λ (r : List ℤ). dot r (λ j. entry x (suc j))) (twin_row n k cs wide)
    ∙ dot_last (cleared k cs) (entry cs k) (λ j. entry x (suc j)) n (length-set cs k (pos 0) ∙ wide)
    ∙ sym (twin_point n k cs (λ j. entry x (suc j)) wide h))

-- ---- the set
expanded_rows : (p : Polyhedron) (k : ℕ) → IsPolyhedron p → k < p.dims →
    SameSet (p.dims + 1) (Expanded p.dims k (Con p.rows)) (Con (expanded k p))
expanded_rows p k h less =
    let both = meet_con (p.dims + 1) (moved (counted (p.dims + 1) 0) p.rows)
    (moved (replaced p.dims k ++ k ∷ []) p.rows) in (
      λ x i m. both.0 x i ((first_rows p 1 h x).1 m.0, (twins x).1 m.1),
      λ x i m. let b = both.1 x i m in ((first_rows p 1 h x).0 b.0, (twins x).0 b.1),
    )
  where
    twins : (x : List ℤ) →
        (Con (moved (replaced p.dims k ++ k ∷ []) p.rows) x → Con p.rows (chosen (replaced p.dims k) x)) ×
        (Con p.rows (chosen (replaced p.dims k) x) → Con (moved (replaced p.dims k ++ k ∷ []) p.rows) x)
    twins x = con_moved (replaced p.dims k ++ k ∷ []) p.rows x (chosen (replaced p.dims k) x)
        (λ g c. twin_product p.dims k g.row x (given_width p h g c) less)

pub twin_length : (n k : ℕ) (dims more : List ℕ) → dims ≡ replaced n k → more ≡ dims ++ k ∷ [] → length more ≡ n + 1
twin_length n k dims more ed em =
    let s = ap length em ∙ added dims in
    let t = ap length ed ∙ replaced_length n k in
    omega (arith, s, t)
  where
    added : (l : List ℕ) → length (l ++ k ∷ []) ≡ length l + 1
    added [] = refl
    added (x ∷ l) = let e = added l in omega (arith, e)

pub expanded_takes : (p : Polyhedron) (start own all ps qs : LinearSystem ConKind) (first twin kept : List ℕ) (n k : ℕ) →
    IsPolyhedron p → k < p.dims → n ≡ p.dims → start.rows ≡ [] → start.dims ≡ n + 1 → own.dims ≡ start.dims →
    all.dims ≡ own.dims → first ≡ counted (n + 1) 0 → kept ≡ replaced n k → twin ≡ kept ++ k ∷ [] →
    constraints ps ≡ p.rows → constraints qs ≡ p.rows →
    constraints own ≡ constraints start ++ moved first (constraints ps) →
    constraints all ≡ constraints own ++ moved twin (constraints qs) →
    TakesRows (p.dims + 1) (Expanded p.dims k (Con p.rows)) (expanded k p) all
expanded_takes p start own all ps qs first twin kept n k hp less en er ed eo ea ef ek et ep eq go ga = record {
  dimensions = ea ∙ eo ∙ ed ∙ ap (λ (d : ℕ). d + 1) en;
  are = ga
      ∙ ap (λ (l : List LinearRow). l ++ moved twin (constraints qs))
      (go ∙ ap (λ (l : List (List ℤ)). rows_by_kind is_equality l start.kinds ++ moved first (constraints ps)) er)
      ∙ ap (λ (f : List ℕ). moved f (constraints ps) ++ moved twin (constraints qs))
      (ef ∙ ap (λ (d : ℕ). counted (d + 1) 0) en)
      ∙ ap (λ (f : List ℕ). moved (counted (p.dims + 1) 0) (constraints ps) ++ moved f (constraints qs))
      (et ∙ ap (λ (l : List ℕ). l ++ k ∷ []) (ek ∙ ap (λ (d : ℕ). replaced d k) en))
      ∙ ap (λ (r : List LinearRow). moved (counted (p.dims + 1) 0) r ++
      moved (replaced p.dims k ++ k ∷ []) (constraints qs)) ep
      ∙ ap (λ (r : List LinearRow). moved (counted (p.dims + 1) 0) p.rows ++ moved (replaced p.dims k ++ k ∷ []) r) eq;
  same = expanded_rows p k hp less;
}
