-- A polyhedron has a part exactly if its state has one, so it is shown as it is.
use Rattle.std.proofs.Common.{◌≡◌, ◌∙◌, ℕ, true, false, Bool, cond, List, [], ◌∷◌, length, inl, inr, refl, sym, ap, subst, Vec, Global}
use Rattle.std.specs.{List.Contains, List.list_any, Prelude.Result, Prelude.Ok, Prelude.Err, Prelude.IfOk}
use Rattle.lra_report_build.specs.Crates.lra_linear_spec.Polyhedra.{Polyhedron, IsPolyhedron, HasPoint, falsity}
use Rattle.lra_report_build.specs.Crates.lra_systems.LinearSystems.{LinearSystem, constraints, generators}
use Rattle.lra_report_build.specs.Crates.{lra_linear_spec.Descriptions.LinearRow, lra_linear_spec.Descriptions.Con, lra_linear_spec.Points.IsEmptySet, lra_linear_spec.declared.ConKind.ConKind}
use Rattle.lra_report_build.specs.Crates.{lra_linear_spec.declared.GenKind.GenKind, lra_options.declared.options.Domain.TheVariants.Poly}
use Rattle.lra_report_build.specs.{Canonical.IsCanonicalState, Polyhedra.shown_polyhedron, Polyhedra.ShowsPolyhedron, Polyhedra.polyhedron_of, Shown.IsShown}
use Rattle.lra_report_build.proofs.Crates.{lra_linear_spec.Membership.contains_head, lra_linear_spec.OneSpelling.falsity_never}
use Rattle.lra_poly_domain.specs.{Abstraction.polyhedron_abstraction, Content.is_absurd, Content.listed, Content.polyhedron_parts, Covering.empty_parts, Covering.parts_empty}
use Rattle.lra_row_text.specs.Part.{Part}
use Rattle.lra_report.specs.Report.{Invariant}
use Rattle.lra_report_build.proofs.PolyhedronShown.{no_part, one_part, part_of, has_point, row_is_point}
use Rattle.lra_report_build.proofs.SamePoints.{as_row, within_con}

-- the lists of a polyhedron make it
pub lists_are : (p : Polyhedron) (rows : LinearSystem ConKind) (gens : LinearSystem GenKind) → rows.dims ≡ p.dims → constraints rows ≡ p.rows →
    generators gens ≡
    p.generators → polyhedron_of rows gens ≡ p
lists_are p rows gens dims of_rows of_generators =
    ap (λ (n : ℕ). let q : Polyhedron = record { dims = n; rows = constraints rows; generators = generators gens } in q) dims
    ∙ ap (λ (l : List LinearRow). let q : Polyhedron = record { dims = p.dims; rows = l; generators = generators gens } in q) of_rows
    ∙ ap (λ (l : List LinearRow). let q : Polyhedron = record { dims = p.dims; rows = p.rows; generators = l } in q) of_generators

-- a point of it would be none
not_empty : (p : Polyhedron) → HasPoint p → IsEmptySet p.dims (Con p.rows) → ⊥
not_empty p h empty = let (x, is_point, within) = has_point p h in empty (as_row x) (row_is_point p.dims x is_point) (within_con p.rows x within)

kept : (b : Bool) (list : LinearSystem ConKind) → (b ≡ true → ⊥) → 1 ≡ length (cond b [] (list ∷ []))
kept false list never = refl
kept true list never = absurd (never refl)

as_many : (p : Polyhedron) → IsPolyhedron p → length (shown_polyhedron p) ≡ length (polyhedron_parts p)
as_many p (inl none) =
    let never : LinearRow = record { row = falsity p.dims; equal = false } in
    let empty : IsEmptySet p.dims (Con p.rows) = λ x i c. falsity_never p.dims x i
    (c never (subst (λ l. Contains l never) (sym none.0) (contains_head never []))) in
    ap length (no_part p none.1) ∙ sym (ap length (empty_parts p (inl none) empty))
as_many p (inr h) =
    ap length (one_part p h (part_of p))
    ∙ kept (list_any is_absurd p.rows) (listed p) (λ e. not_empty p h (parts_empty p p.dims (ap (λ (b : Bool). cond b [] (listed p ∷ [])) e)))

shown_so : (p : Polyhedron) → IsPolyhedron p → (state : Invariant) → state ≡ shown_polyhedron p → ShowsPolyhedron p state →
    IsShown polyhedron_abstraction Poly p
    state
shown_so p is state e t = record {
  as_many = ap length e ∙ as_many p is;
  wide = t.wide;
  tell = t.tell;
  holds = λ s h. t.holds s h.0 h.1;
  only = λ s long h. (long, t.only s long h);
}

module _ {E : Type 0} (p q : Polyhedron) (same : q ≡ p) where
  pub state_is : (x : Result (Vec Part Global) E) → IfOk x (λ s. s.items ≡ shown_polyhedron q) → IfOk x (λ s. s.items ≡ shown_polyhedron p)
  state_is (Ok s) is = is ∙ ap shown_polyhedron same
  state_is (Err e) is = tt

  pub state_told : IsPolyhedron p → (x : Result (Vec Part Global) E) → IfOk x (λ s. s.items ≡ shown_polyhedron q) → IfOk x (λ s. ShowsPolyhedron q s.items)
      → IfOk x (λ s. IsShown polyhedron_abstraction Poly p s.items)
  state_told canonical (Ok s) is t = shown_so p canonical s.items (is ∙ ap shown_polyhedron same) (subst (λ (r : Polyhedron). ShowsPolyhedron r s.items) same t)
  state_told canonical (Err e) is t = tt

  -- and by canonical lists
  pub state_canonical : (x : Result (Vec Part Global) E) → IfOk x (λ s. IsCanonicalState Poly q.dims s.items) → IfOk x
      (λ s. IsCanonicalState Poly p.dims s.items)
  state_canonical x h = subst (λ (r : Polyhedron). IfOk x (λ s. IsCanonicalState Poly r.dims s.items)) same h
