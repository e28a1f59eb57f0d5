-- Polyhedra with a point and without one, and the width of their rows.
use Rattle.std.proofs.Common.{◌≡◌, ◌≢◌, ℕ, suc, true, false, List, [], ◌∷◌, length, ap, sym, ◌∙◌, subst, ℤ, inl, inr}
use Rattle.std.proofs.lemmas.List.Elements.{Contains-append_cases, Contains-append_left, Contains-append_right}
use Rattle.std.specs.List.{Contains}
use Rattle.lra_duality.specs.Crates.lra_linear_spec.Descriptions.{Con, LinearRow, inequality, rows_as, system_of}
use Rattle.lra_duality.specs.Crates.lra_linear_spec.Polyhedra.{Polyhedron, IsPolyhedron, HasPoint, falsity}
use Rattle.lra_duality.specs.Crates.{lra_linear_spec.Cones.both_ways, lra_linear_spec.Points.IsPoint, lra_linear_spec.Points.IsEmptySet, lra_linear_spec.Vectors.entry}
use Rattle.lra_linear_spec.proofs.Descriptions.{generated_gen, system_from}
use Rattle.lra_linear_spec.proofs.Membership.{contains_head, contains_none, each_one}
use Rattle.lra_linear_spec.proofs.{Combinations.generated_row, Lines.in_lines, Lines.zeros_length, OneSpelling.falsity_never}
use Rattle.lra_linear_spec.proofs.{OneSpelling.given_from, Polyhedra.con_gen, Products.negated_length, SetOperations.has_vertex}

-- ---- without a point
pub falsity_is_empty : (n : ℕ) (rows : List LinearRow) → rows ≡ inequality (falsity n) ∷ [] → IsEmptySet n (Con rows)
falsity_is_empty n rows e x is_point c =
    falsity_never n x is_point (c (inequality (falsity n)) (subst (λ (l : List LinearRow). Contains l (inequality (falsity n))) (sym e) (contains_head (inequality (falsity n)) [])))

-- one that isn't empty has a point
pub with_point : (p : Polyhedron) → IsPolyhedron p → ¬ (IsEmptySet p.dims (Con p.rows)) → HasPoint p
with_point p (inl none) some = absurd (some (falsity_is_empty p.dims p.rows none.0))
with_point p (inr h) some = h

pub some_generator : (p : Polyhedron) → HasPoint p → p.generators ≢ []
some_generator p h e =
    contains_none (has_vertex p h).vertex (subst (λ (l : List LinearRow). Contains (system_of l) (has_vertex p h).vertex) e (has_vertex p h).has)

pub empty_where_none : (p : Polyhedron) → IsPolyhedron p → p.generators ≡ [] → IsEmptySet p.dims (Con p.rows)
empty_where_none p (inl none) e = falsity_is_empty p.dims p.rows none.0
empty_where_none p (inr h) e = absurd (some_generator p h e)

pub none_where_empty : (p : Polyhedron) → IsPolyhedron p → IsEmptySet p.dims (Con p.rows) → p.generators ≡ []
none_where_empty p (inl none) e = none.1
none_where_empty p (inr h) e =
    let v = has_vertex p h in
    let is_point : IsPoint p.dims v.vertex = record { width = v.widths v.vertex v.has; divisor = v.divisor } in
    absurd (e v.vertex is_point ((con_gen p (inr h)).1 v.vertex is_point (generated_gen p.generators (entry v.vertex) (generated_row (system_of p.generators) v.vertex v.has))))

-- ---- the rows of a polyhedron have a column more than there are dimensions
pub given_width : (p : Polyhedron) → IsPolyhedron p → (g : LinearRow) → Contains p.rows g → length g.row ≡ suc p.dims
given_width p (inl none) g k =
    each_one (λ (x : LinearRow). length x.row ≡ suc p.dims) (inequality (falsity p.dims)) (ap suc (zeros_length p.dims)) g (subst (λ (l : List LinearRow). Contains l g) none.0 k)
given_width p (inr h) g k = elim (Contains-append_cases (rows_as true h.equalities) (rows_as false h.inequalities) g (subst (λ (l : List LinearRow). Contains l g) h.rows_are k)) [
  | inl e ↦ h.dual.system_widths g.row
      (Contains-append_right h.facets (both_ways h.equalities) g.row (in_lines h.equalities g.row (given_from true h.equalities g e).1))
  | inr i ↦ h.dual.system_widths g.row
      (Contains-append_left h.facets (both_ways h.equalities) g.row (h.shown g.row (given_from false h.inequalities g i).1).0)
]

pub rows_width : (p : Polyhedron) → IsPolyhedron p → (c : List ℤ) → Contains (system_of p.rows) c → length c ≡ suc p.dims
rows_width p h c k =
    let f = system_from p.rows c k in
    elim f.sign [
      | inl e ↦ ap length e ∙ given_width p h f.given f.has
      | inr e ↦ ap length e.1 ∙ negated_length f.given.row ∙ given_width p h f.given f.has
    ]
