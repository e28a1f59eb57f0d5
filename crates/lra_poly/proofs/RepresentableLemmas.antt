-- The two lists of a polyhedron make a formed one.
use Rattle.std.proofs.Common.{◌≡◌, ◌∙◌, ℕ, ℤ, Bool, List, [], ◌∷◌, ap, inl, inr, refl, subst, sym}
use Rattle.std.proofs.lemmas.List.Elements.{All-contains}
use Rattle.std.specs.List.{All, Contains}
use Rattle.lra_poly.specs.Crates.lra_linear_spec.Polyhedra.{IsPolyhedron, Polyhedron}
use Rattle.lra_poly.specs.Crates.lra_linear_spec.Representable.{AreInRange, IsRepresentable, KeepsLimit}
use Rattle.lra_poly.specs.Crates.lra_systems.LinearSystems.{FitKinds, LinearSystem, constraints, generators, rows_by_kind}
use Rattle.lra_poly.specs.Crates.{lra_bits.Matrix.Matrix, lra_linear_spec.Descriptions.LinearRow, lra_linear_spec.Kinds.is_equality, lra_linear_spec.Kinds.is_line, lra_linear_spec.Range.InRange}
use Rattle.lra_poly.specs.Crates.{lra_linear_spec.declared.ConKind.ConKind, lra_linear_spec.declared.GenKind.GenKind}
use Rattle.lra_duality.specs.Saturations.{saturation_of}
use Rattle.lra_poly.proofs.Crates.lra_linear_spec.Membership.{contains_cases, contains_head, contains_none, contains_tail}

given_row : {K : Type 0} (k : K → Bool) (rows : List (List ℤ)) (kinds : List K) (g : LinearRow) →
    Contains (rows_by_kind k rows kinds) g → Contains rows g.row
given_row k [] kinds g c = absurd (contains_none g c)
given_row k (r ∷ rows) [] g c = absurd (contains_none g c)
given_row k (r ∷ rows) (q ∷ kinds) g c =
    elim (contains_cases (let x : LinearRow = record { row = r; equal = k q } in x) g (rows_by_kind k rows kinds) c) [
      | inl e ↦ subst (λ y. Contains (r ∷ rows) y.row) e (contains_head r rows)
      | inr d ↦ contains_tail r g.row rows (given_row k rows kinds g d)
    ]

-- the numbers of a list's rows lie in the range, whatever their kinds
pub listed_in_range : {K : Type 0} (k : K → Bool) (list : LinearSystem K) (rows : List (List ℤ)) → rows ≡ list.rows →
    All (All InRange) rows → AreInRange (rows_by_kind k list.rows list.kinds)
listed_in_range k list rows e h g has =
    All-contains (All InRange) list.rows g.row (subst (λ r. All (All InRange) r) e h)
    (given_row k list.rows list.kinds g has)

pub formed_lists : (rows : LinearSystem ConKind) (by_generators : LinearSystem GenKind) → IsPolyhedron (record {
  dims = rows.dims;
  rows = constraints rows;
  generators = generators by_generators;
}) → KeepsLimit (record {
  dims = rows.dims;
  rows = constraints rows;
  generators = generators by_generators;
}) → (one two : List (List ℤ)) → one ≡ rows.rows → two ≡ by_generators.rows →
    All (All InRange) one → All (All InRange) two → IsRepresentable (record {
      dims = rows.dims;
      rows = constraints rows;
      generators = generators by_generators;
    })
formed_lists rows by_generators canonical limit one two e f in_one in_two = record {
  canonical = canonical;
  limit = limit;
  rows_in = listed_in_range is_equality rows one e in_one;
  generators_in = listed_in_range is_line by_generators two f in_two;
}

-- ---- what a polyhedron's fields hold
abbrev pub AreKept : LinearSystem ConKind → LinearSystem GenKind → Matrix → Type 0
AreKept rows by_generators saturation =
    IsPolyhedron (record { dims = rows.dims; rows = constraints rows; generators = generators by_generators }) × (by_generators.dims ≡ rows.dims)
    × FitKinds by_generators.rows by_generators.kinds × (saturation ≡ saturation_of (constraints rows) (generators by_generators))
    × KeepsLimit (record { dims = rows.dims; rows = constraints rows; generators = generators by_generators })

pub copied : (rows copied_rows : LinearSystem ConKind) (by_generators copied_generators : LinearSystem GenKind) (saturation copied_saturation : Matrix) → copied_rows ≡ rows →
    copied_generators ≡ by_generators →
    copied_saturation ≡ saturation → AreKept rows by_generators saturation → AreKept copied_rows copied_generators copied_saturation
copied rows copied_rows by_generators copied_generators saturation copied_saturation er eg es kept =
    subst (λ (x : LinearSystem ConKind). AreKept x copied_generators copied_saturation) (sym er) (subst (λ (x : LinearSystem GenKind). AreKept rows x copied_saturation) (sym eg)
    (subst (λ (x : Matrix). AreKept rows by_generators x) (sym es) kept))

-- from the lists of a polyhedron
pub taken_over : (p : Polyhedron) (rows : LinearSystem ConKind) (by_generators : LinearSystem GenKind) → rows.dims ≡ p.dims → constraints rows ≡ p.rows → by_generators.dims ≡ p.dims →
    generators by_generators ≡ p.generators → FitKinds by_generators.rows by_generators.kinds → IsPolyhedron p → KeepsLimit p →
    AreKept rows by_generators (saturation_of (constraints rows) (generators by_generators))
taken_over p rows by_generators ed er eh eg fit canonical limit =
    let q : Polyhedron = record { dims = rows.dims; rows = constraints rows; generators = generators by_generators } in
    let same : q ≡ p = ap (λ (n : ℕ). let x : Polyhedron = record { dims = n; rows = constraints rows; generators = generators by_generators } in x) ed ∙
    ap (λ (l : List LinearRow). let x : Polyhedron = record { dims = p.dims; rows = l; generators = generators by_generators } in x) er ∙
    ap (λ (l : List LinearRow). let x : Polyhedron = record { dims = p.dims; rows = p.rows; generators = l } in x) eg in
    (subst IsPolyhedron (sym same) canonical, eh ∙ sym ed, fit, refl, subst KeepsLimit (sym same) limit)
