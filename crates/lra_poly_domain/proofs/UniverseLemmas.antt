-- The polyhedron of all points has no constraint. So a polyhedron with one is another, and its rank falls if it is given up.
use Rattle.std.proofs.Common.{◌≡◌, ◌≢◌, ◌∙◌, ◌<◌, ◌≤◌, ℕ, suc, ℤ, pos, ◌+ℤ◌, ◌*ℤ◌, ◌<ℤ◌, List, [], length, true, false, inl, inr, ap, sym, subst, arith}
use Rattle.std.proofs.{Math.ListN.length-set, lemmas.Bool.cases_lt, lemmas.Int.ints, lemmas.List.Elements.Contains-append_cases, lemmas.List.Elements.Contains-append_right}
use Rattle.std.specs.{List.Contains, Prelude.slice_set}
use Rattle.lra_linear_spec.specs.{Cones.both_ways, Descriptions.Con, Descriptions.LinearRow, Descriptions.Holds, Descriptions.HoldsWith, Descriptions.rows_as, Echelon.pivot, Points.IsPoint}
use Rattle.lra_linear_spec.specs.{Polyhedra.HasPoint, Polyhedra.IsPolyhedron, Polyhedra.IsPolyhedronOf, Polyhedra.Polyhedron, Polyhedra.positivity, Vectors.cleared, Vectors.entry, Vectors.product}
use Rattle.lra_linear_spec.proofs.Products.{entry_past, entry_set_other, product_comm}
use Rattle.lra_linear_spec.proofs.{Descriptions.con_none, Lines.in_lines, Lines.zeros_length, Membership.contains_none, OneSpelling.given_from, OneSpelling.positivity_product, Pivots.echelon_pivot}
use Rattle.lra_linear_spec.proofs.{Pivots.echelon_positive, Ring.ring, Ring.v, Ring.◌⊕◌, Ring.◌⊗◌, SetOperations.product_set, Signs.not_both}
use Rattle.lra_poly_domain.proofs.Crates.lra_description_pair.PairLists.{origin}
use Rattle.lra_duality.proofs.PolyhedronLemmas.{falsity_is_empty}
use Rattle.lra_poly_widening.specs.{Rank.Falls, Widenings.HaveColumns}
use Rattle.lra_poly_widening.proofs.{Facets.facet_row, Facets.no_pivot_first, RankLaw.rank_falls}

-- ---- no equality holds at all points
-- the point with 1 as one coordinate and 0 as the others
one_along : (n q : ℕ) → q ≢ 0 → IsPoint n (slice_set (positivity n) q (pos 1))
one_along n q other = record {
  width = length-set {A = ℤ} (positivity n) q (pos 1) ∙ ap suc (zeros_length n);
  divisor = subst (λ z. pos 0 <ℤ z) (sym (entry_set_other (positivity n) q 0 (pos 1) (λ e. other (sym e)))) (omega (arith, ints));
}

zero_along : (n q : ℕ) (e : List ℤ) → q ≢ 0 → q < suc n → ((x : List ℤ) → IsPoint n x → product e x ≡ pos 0) → entry e q ≡ pos 0
zero_along n q e other inside flat =
    let first : product (cleared q e) (positivity n) ≡ pos 0 =
    product_comm (cleared q e) (positivity n) ∙ positivity_product n (cleared q e) ∙ entry_set_other e q 0 (pos 0) (λ z. other (sym z)) ∙
    sym (positivity_product n e) ∙ product_comm (positivity n) e ∙ flat (positivity n) (origin n) in
    let both = product_set e (positivity n) q (pos 1) (subst (λ (m : ℕ). q < m) (sym (ap suc (zeros_length n))) inside) in
    ring (v (entry e q)) (v (pos 0) ⊕ v (entry e q) ⊗ v (pos 1)) (omega arith) ∙
    ap (λ z. z +ℤ (entry e q *ℤ pos 1)) (sym first) ∙ sym both ∙ flat (slice_set (positivity n) q (pos 1)) (one_along n q other)

pivot_inside : (e : List ℤ) (n : ℕ) → length e ≡ n → pos 0 <ℤ entry e (pivot e) → pivot e < n
pivot_inside e n l h = elim (cases_lt (pivot e) n) [
  | inl i ↦ i
  | inr i ↦ absurd (not_both (entry e (pivot e)) h (entry_past e (pivot e) (subst (λ (m : ℕ). m ≤ pivot e) (sym l) i)))
]

no_equality : (u : Polyhedron) (h : HasPoint u) (g : LinearRow) → ((x : List ℤ) → IsPoint u.dims x → Holds g x) → g.equal ≡ true → Contains h.equalities g.row →
    ⊥
no_equality u h g all equal k =
    let c = h.constraints_canonical in
    let up = echelon_positive h.equalities c.pivots c.echelon g.row k in
    let other : pivot g.row ≢ 0 = λ z. no_pivot_first u h (subst (Contains c.pivots) z (echelon_pivot h.equalities c.pivots c.echelon g.row k)) in
    let long : length g.row ≡ suc u.dims = h.dual.system_widths g.row (Contains-append_right h.facets (both_ways h.equalities) g.row (in_lines h.equalities g.row k)) in
    not_both (entry g.row (pivot g.row)) up (zero_along u.dims (pivot g.row) g.row other (pivot_inside g.row (suc u.dims) long up)
    (λ x i. subst (λ b. HoldsWith b (product g.row x)) equal (all x i)))

-- ---- so it has no constraint
pub all_no_row : (n : ℕ) (u : Polyhedron) → IsPolyhedronOf n (Con []) u → (g : LinearRow) → ¬ Contains u.rows g
all_no_row n u is g k = by_kind is.canonical
  where
    all : (x : List ℤ) → IsPoint u.dims x → Con u.rows x
    all x i = is.points.0 x (subst (λ (m : ℕ). IsPoint m x) is.dimensions i) (con_none x)

    own : IsPolyhedronOf u.dims (Con []) u
    own = subst (λ (m : ℕ). IsPolyhedronOf m (Con []) u) (sym is.dimensions) is

    by_kind : IsPolyhedron u → ⊥
    by_kind (inl none) = falsity_is_empty u.dims u.rows none.0 (positivity u.dims) (origin u.dims) (all (positivity u.dims) (origin u.dims))
    by_kind (inr h) = elim (Contains-append_cases (rows_as true h.equalities) (rows_as false h.inequalities) g (subst (λ (l : List LinearRow). Contains l g) h.rows_are k)) [
      | inl e ↦ let f = given_from true h.equalities g e in no_equality u h g (λ x i. all x i g k) f.0 f.1
      | inr i ↦
          let f = h.shown g.row (given_from false h.inequalities g i).1 in
          let x = facet_row u h [] own (λ r m. absurd (contains_none r m)) g.row f.0 f.1 in
          contains_none x.0 x.1
    ]

-- the rank falls from any other polyhedron
pub up_falls : (p u : Polyhedron) (given : List LinearRow) → IsPolyhedron p → IsPolyhedronOf p.dims (Con []) u → HaveColumns p.dims given → u ≢ p →
    Falls p u given
up_falls p u given h is columns other = rank_falls p u given h is.canonical is.dimensions (λ x i c. is.points.0 x i (con_none x)) other columns (λ k. record {
  rows = [];
  made = subst (λ (m : ℕ). IsPolyhedronOf m (Con []) u) (sym is.dimensions) is;
  widths = λ g m. absurd (contains_none g m);
  told = λ g m. absurd (contains_none g m);
})
