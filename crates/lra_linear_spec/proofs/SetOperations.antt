-- The set operations on descriptions: the meet has the constraints of both, the preimage the substituted ones, and the hull the
-- generators of both (by Farkas 1902: what all valid inequalities allow is what the generators generate).
use Rattle.std.proofs.Common.{List, [], ap, arith, inl, inr, length, pos, refl, subst, suc, sym, zero, ℕ, ℤ, ◌*ℤ◌, ◌++◌, ◌+ℤ◌, ◌<ℤ◌, ◌<◌, ◌∙◌, ◌∷◌, ◌≡◌, ◌≤ℤ◌, ◌⊎◌}
use Rattle.std.proofs.lemmas.List.Elements.{Contains-append_cases, Contains-append_left, Contains-append_right}
use Rattle.std.specs.{List.Contains, Prelude.slice_set}
use Rattle.lra_linear_spec.specs.Descriptions.{Con, Gen, LinearRow, Holds, HoldsWith, lines_of, rays_of, system_of}
use Rattle.lra_linear_spec.specs.Vectors.{blend, cleared, entry, product, substituted}
use Rattle.lra_linear_spec.specs.{Cones.AreDual, Cones.all_rows, Cones.both_ways, OperationStrain.substituted_rows, Points.IsPoint, Points.IsWithin, Points.PointSet, Points.SameSet}
use Rattle.lra_linear_spec.specs.{Polyhedra.HasPoint, Polyhedra.Polyhedron, SetOperations.Hull, SetOperations.Meet, SetOperations.Preimage, SetOperations.Union, SetOperations.assigned}
use Rattle.lra_linear_spec.proofs.Combinations.{generated_plus, generated_row, generated_same, generated_times}
use Rattle.lra_linear_spec.proofs.Descriptions.{gen_generated, generated_gen, in_all_rows, in_system, system_from, system_there}
use Rattle.lra_linear_spec.proofs.OneSpelling.{columns_of, far, gone, gone_divisor, gone_entry, gone_product, some_member}
use Rattle.lra_linear_spec.proofs.{LinearMaps.generated_nonneg, LinearMaps.generated_through, Membership.map_from, Membership.map_has, Polyhedra.generators_lines, Polyhedra.generators_rays}
use Rattle.lra_linear_spec.proofs.{Products.blend_length, Products.dot_linear, Products.dot_same, Products.entry_blend, Products.product_comm, Ring.ring, Ring.v, Ring.◌⊕◌, Ring.◌⊗◌}

-- ---- meet
pub meet_con : (n : ℕ) (rows more : List LinearRow) → SameSet n (Meet (Con rows) (Con more)) (Con (rows ++ more))
meet_con n rows more = (
  λ x p both g k. elim (Contains-append_cases rows more g k) [ inl a ↦ both.0 g a | inr b ↦ both.1 g b ],
  λ x p c. (λ g k. c g (Contains-append_left rows more g k), λ g k. c g (Contains-append_right rows more g k)),
)

-- ---- preimage
-- the product with a vector one entry of which is put in
pub product_set : (r x : List ℤ) (k : ℕ) (z : ℤ) → k < length x → product r (slice_set x k z) ≡ product (cleared k r) x +ℤ (entry r k *ℤ z)
product_set [] x k z h = ring (v (pos 0)) (v (pos 0) ⊕ v (pos 0) ⊗ v z) (omega arith)
product_set (c ∷ cs) [] k z h = absurd (omega (arith, h))
product_set (c ∷ cs) (y ∷ ys) zero z h = ring (v c ⊗ v z ⊕ v (product cs ys)) ((v (pos 0) ⊗ v y ⊕ v (product cs ys)) ⊕ v c ⊗ v z) (omega arith)
product_set (c ∷ cs) (y ∷ ys) (suc k) z h =
    ap (λ a. (c *ℤ y) +ℤ a) (product_set cs ys k z (omega (arith, h))) ∙
    ring (v c ⊗ v y ⊕ (v (product (cleared k cs) ys) ⊕ v (entry cs k) ⊗ v z)) ((v c ⊗ v y ⊕ v (product (cleared k cs) ys)) ⊕ v (entry cs k) ⊗ v z) (omega arith)

cleared_length : (r : List ℤ) (k : ℕ) → length (cleared k r) ≡ length r
cleared_length [] k = refl
cleared_length (x ∷ r) zero = refl
cleared_length (x ∷ r) (suc k) = ap suc (cleared_length r k)

-- the product with a sum of multiples of rows
pub blend_product : (a b : ℤ) (us vs x : List ℤ) → length us ≡ length vs → product (blend a b us vs) x ≡ (a *ℤ product us x) +ℤ (b *ℤ product vs x)
blend_product a b us vs x e =
    product_comm (blend a b us vs) x ∙ dot_same x (entry (blend a b us vs)) (λ j. (a *ℤ entry us j) +ℤ (b *ℤ entry vs j)) (entry_blend a b us vs e) ∙ dot_linear x a b (entry us) (entry vs) ∙
    ap (λ z. (a *ℤ z) +ℤ (b *ℤ product x vs)) (product_comm x us) ∙ ap (λ z. (a *ℤ product us x) +ℤ (b *ℤ z)) (product_comm x vs)

-- the substituted row has with a point the product that the row has with its image
pub substituted_product : (k : ℕ) (form r x : List ℤ) → length r ≡ length form → k < length x → product (substituted k form r) x ≡ product r (assigned k form x)
substituted_product k form r x e h =
    blend_product (pos 1) (entry r k) (cleared k r) form x (cleared_length r k ∙ e) ∙
    ring (v (pos 1) ⊗ v (product (cleared k r) x) ⊕ v (entry r k) ⊗ v (product form x)) (v (product (cleared k r) x) ⊕ v (entry r k) ⊗ v (product form x)) (omega arith) ∙
    sym (product_set r x k (product form x) h)

pub preimage_con : (n k : ℕ) (form : List ℤ) (rows : List LinearRow) → k < suc n → length form ≡ suc n →
    ((g : LinearRow) → Contains rows g → length g.row ≡ suc n) →
    SameSet n (Preimage k form (Con rows)) (Con (substituted_rows k form rows))
preimage_con n k form rows low lf widths = (
  λ x p c t i.
      let f = map_from (λ r. record { row = substituted k form r.row; equal = r.equal }) rows t i in
      subst (λ y. Holds y x) f.2 (subst (λ z. HoldsWith f.0.equal z) (sym (same f.0 x p f.1)) (c f.0 f.1)),
  λ x p c g i. subst (λ z. HoldsWith g.equal z) (same g x p i) (c (record { row = substituted k form g.row; equal = g.equal })
      (map_has (λ r. record { row = substituted k form r.row; equal = r.equal }) rows g i)),
)
  where
    same : (g : LinearRow) (x : List ℤ) → IsPoint n x → Contains rows g → product (substituted k form g.row) x ≡ product g.row (assigned k form x)
    same g x p i = substituted_product k form g.row x (widths g i ∙ sym lf) (let w = p.width in omega (arith, w, low))

-- ---- hull
-- if the generators give all points of P, and each inequality that is valid on P has products with them that are not negative
pub hull_gen : (n : ℕ) (P : PointSet) (system : List (List ℤ)) (generators : List LinearRow) → AreDual (suc n) system (system_of generators) → IsWithin n P (Gen generators) →
    ((c : List ℤ) → length c ≡ suc n → ((y : List ℤ) → IsPoint n y → P y → pos 0 ≤ℤ product c y) → (t : List ℤ) → Contains (system_of generators) t → pos 0 ≤ℤ product c t) →
    SameSet n (Hull n P) (Gen generators)
hull_gen n P system generators d inside valid = (
  λ x p h. generated_gen generators (entry x) (d.solutions x p.width (λ c k. h c (d.system_widths c k)
      (λ y q m. generated_nonneg c (system_of generators) (entry y) (λ t i. d.meets t i c k) (gen_generated generators (entry y) (inside y q m))))),
  λ x p g c l h. generated_nonneg c (system_of generators) (entry x) (valid c l h) (gen_generated generators (entry x) g),
)

-- a list of generators with a point: column 0 is positive of points, and 0 of rays and lines
pub record HasVertex (n : ℕ) (generators : List LinearRow) : Type 0 where
  pub widths : (t : List ℤ) → Contains (system_of generators) t → length t ≡ suc n
  pub columns : (t : List ℤ) → Contains (system_of generators) t → (pos 0 <ℤ entry t 0) ⊎ (entry t 0 ≡ pos 0)
  pub vertex : List ℤ
  pub has : Contains (system_of generators) vertex
  pub divisor : pos 0 <ℤ entry vertex 0

-- an inequality that is valid on its points has products with all its rows that are not negative
pub valid_on_rows : (n : ℕ) (generators : List LinearRow) → HasVertex n generators → (c : List ℤ) → ((y : List ℤ) → IsPoint n y → Gen generators y → pos 0 ≤ℤ product c y) →
    (t : List ℤ) → Contains (system_of generators) t → pos 0 ≤ℤ product c t
valid_on_rows n generators h c valid t k = elim (h.columns t k) [
  | inl p ↦ valid t (record { width = h.widths t k; divisor = p }) (generated_gen generators (entry t) (generated_row (system_of generators) t k))
  | inr z ↦ far (product c h.vertex) (product c t)
      (λ m. subst (λ y. pos 0 ≤ℤ y) (gone_product c h.vertex t m same)
      (valid (gone h.vertex t m) (record {
        width = blend_length (pos 1) (pos m) h.vertex t same ∙ h.widths h.vertex h.has;
        divisor = subst (λ y. pos 0 <ℤ y) (sym (gone_divisor h.vertex t m same z)) h.divisor;
      })
      (generated_gen generators (entry (gone h.vertex t m)) (generated_same (system_of generators) (λ j. (pos 1 *ℤ entry h.vertex j) +ℤ (pos m *ℤ entry t j)) (entry (gone h.vertex t m))
      (λ j. sym (gone_entry h.vertex t m same j))
      (generated_plus (system_of generators) (λ j. pos 1 *ℤ entry h.vertex j) (λ j. pos m *ℤ entry t j)
      (generated_times (system_of generators) 1 (entry h.vertex) (generated_row (system_of generators) h.vertex h.has))
      (generated_times (system_of generators) m (entry t) (generated_row (system_of generators) t k)))))))
]
  where
    same : length h.vertex ≡ length t
    same = h.widths h.vertex h.has ∙ sym (h.widths t k)

-- the rows of joined lists
pub system_append : (xs ys : List LinearRow) (t : List ℤ) → Contains (system_of (xs ++ ys)) t → Contains (system_of xs) t ⊎ Contains (system_of ys) t
system_append xs ys t k =
    let f = system_from (xs ++ ys) t k in
    elim (Contains-append_cases xs ys f.given f.has) [
      | inl a ↦ inl (system_there xs t (record { given = f.given; has = a; sign = f.sign }))
      | inr b ↦ inr (system_there ys t (record { given = f.given; has = b; sign = f.sign }))
    ]

pub system_append_in : (xs ys : List LinearRow) (t : List ℤ) → Contains (system_of xs) t ⊎ Contains (system_of ys) t → Contains (system_of (xs ++ ys)) t
system_append_in xs ys t (inl k) = let f = system_from xs t k in system_there (xs ++ ys) t (record { given = f.given; has = Contains-append_left xs ys f.given f.has; sign = f.sign })
system_append_in xs ys t (inr k) = let f = system_from ys t k in system_there (xs ++ ys) t (record { given = f.given; has = Contains-append_right xs ys f.given f.has; sign = f.sign })

-- the hull of two sets with a point each has the generators of both
pub hull_of_two : (n : ℕ) (system : List (List ℤ)) (generators more : List LinearRow) → AreDual (suc n) system (system_of (generators ++ more)) → HasVertex n generators → HasVertex n more →
    SameSet n (Hull n (Union (Gen generators) (Gen more))) (Gen (generators ++ more))
hull_of_two n system generators more d h k = hull_gen n (Union (Gen generators) (Gen more)) system (generators ++ more) d
    (λ x p m. generated_gen (generators ++ more) (entry x) (elim m [
      | inl a ↦ generated_through (system_of (generators ++ more)) (system_of generators) (entry x)
          (λ t i. generated_row (system_of (generators ++ more)) t (system_append_in generators more t (inl i))) (gen_generated generators (entry x) a)
      | inr b ↦ generated_through (system_of (generators ++ more)) (system_of more) (entry x) (λ t i. generated_row (system_of (generators ++ more)) t (system_append_in generators more t (inr i)))
          (gen_generated more (entry x) b)
    ]))
    (λ c l valid t i. elim (system_append generators more t i) [
      | inl a ↦ valid_on_rows n generators h c (λ y p m. valid y p (inl m)) t a
      | inr b ↦ valid_on_rows n more k c (λ y p m. valid y p (inr m)) t b
    ])

-- ---- the generators of a polyhedron with a point
pub has_vertex : (p : Polyhedron) → HasPoint p → HasVertex p.dims p.generators
has_vertex p h =
    let v0 = some_member h.points h.some_point in
    record {
      widths = λ t k. h.dual.row_widths t (in_cone t k);
      columns = λ t k. columns_of p h t (in_cone t k);
      vertex = v0.0;
      has = in_system p.generators v0.0 (Contains-append_left (rays_of p.generators) (both_ways (lines_of p.generators)) v0.0
          (subst (λ l. Contains l v0.0) (sym (generators_rays p h)) (Contains-append_left h.points h.rays v0.0 v0.1)));
      divisor = h.divisors v0.0 v0.1;
    }
  where
    in_cone : (t : List ℤ) → Contains (system_of p.generators) t → Contains (all_rows h.lines (h.points ++ h.rays)) t
    in_cone t k =
        subst (λ l. Contains (all_rows l (h.points ++ h.rays)) t) (generators_lines p h)
        (subst (λ r. Contains (all_rows (lines_of p.generators) r) t) (generators_rays p h) (in_all_rows p.generators t k))
