-- Preimages: the constraints with the form put in for one coordinate.
use Rattle.std.proofs.Common.{◌≡◌, ◌∙◌, ℕ, suc, ◌<◌, List, length, arith, refl, sym, subst, ℤ, Option, None, Some, inl, inr}
use Rattle.std.specs.{List.Contains, Prelude.IfNone, Prelude.IfSome}
use Rattle.lra_poly_images.specs.Crates.lra_linear_spec.OperationStrain.{FormingPasses, FromRowsStrains, PreimageStrains, substituted_rows}
use Rattle.lra_poly_images.specs.Crates.lra_linear_spec.Polyhedra.{IsPolyhedron, IsPolyhedronOf, Polyhedron}
use Rattle.lra_poly_images.specs.Crates.{lra_linear_spec.CheckedArithmetic.checked_substitution, lra_linear_spec.Descriptions.Con, lra_linear_spec.Descriptions.LinearRow}
use Rattle.lra_poly_images.specs.Crates.{lra_linear_spec.Points.IsWithin, lra_linear_spec.Points.SameSet, lra_linear_spec.SetOperations.Preimage, lra_linear_spec.Strain.Loss}
use Rattle.lra_poly_images.proofs.Crates.{lra_duality.PolyhedronLemmas.given_width, lra_linear_spec.SetOperations.preimage_con}
use Rattle.lra_poly.proofs.PolyLemmas.{constraints_strain, if_exact, if_flagged, same_polyhedron}
use Rattle.lra_poly.specs.{Outcomes.Becomes, Outcomes.IfExact, Outcomes.IfFlagged, Outcomes.IsOfRows, declared.outcome.Outcome.Outcome, declared.outcome.Outcome.TheVariants.Flagged}

-- a form of the polyhedron's dimensions, for a column of it
pub record IsAssignment (p : Polyhedron) (k : ℕ) (form : List ℤ) : Type 0 where
  pub canonical : IsPolyhedron p
  pub column : k < suc p.dims
  pub width : length form ≡ suc p.dims

pub assignment_of : (p : Polyhedron) (x : ℕ) (form : List ℤ) → IsPolyhedron p → x < p.dims → length form ≡ suc p.dims →
    IsAssignment p (suc x) form
assignment_of p x form h low n = record { canonical = h; column = omega (arith, low); width = n }

preimage_same : (p : Polyhedron) (k : ℕ) (form : List ℤ) → IsAssignment p k form →
    SameSet p.dims (Preimage k form (Con p.rows)) (Con (substituted_rows k form p.rows))
preimage_same p k form a = preimage_con p.dims k form p.rows a.column a.width (given_width p a.canonical)

-- the polyhedron of the rows that were formed, if all were
preimage_exact : (p made : Polyhedron) (k : ℕ) (form : List ℤ) (d : ℕ) (list : List LinearRow)
    (lost : Option Loss) (outcome told : Outcome) → IsAssignment p k form → d ≡ p.dims →
    (lost ≡ None → told ≡ outcome) → ((loss : Loss) → lost ≡ Some loss → told ≡ Flagged loss) →
    IfNone lost (list ≡ substituted_rows k form p.rows) → IfExact (IsPolyhedronOf d (Con list) made) outcome →
    IfExact (IsPolyhedronOf p.dims (Preimage k form (Con p.rows)) made) told
preimage_exact p made k form d list None outcome told a ed same first all h =
    subst (IfExact (IsPolyhedronOf p.dims (Preimage k form (Con p.rows)) made)) (sym (same refl))
    (if_exact (IsPolyhedronOf d (Con list) made) (IsPolyhedronOf p.dims (Preimage k form (Con p.rows)) made) outcome
    (λ i. same_polyhedron p.dims (Preimage k form (Con p.rows)) (Con (substituted_rows k form p.rows)) made
    (preimage_same p k form a)
    (subst (λ (n : ℕ). IsPolyhedronOf n (Con (substituted_rows k form p.rows)) made) ed
    (subst (λ (l : List LinearRow). IsPolyhedronOf d (Con l) made) all i))) h)
preimage_exact p made k form d list (Some loss) outcome told a ed same first all h =
    subst (IfExact (IsPolyhedronOf p.dims (Preimage k form (Con p.rows)) made)) (sym (first loss refl)) tt

preimage_within : (p made : Polyhedron) (k : ℕ) (form : List ℤ) (d : ℕ) (list : List LinearRow) →
    IsAssignment p k form → d ≡ p.dims →
    ((g : LinearRow) → Contains list g → Contains (substituted_rows k form p.rows) g) →
    IsWithin d (Con list) (Con made.rows) → IsWithin p.dims (Preimage k form (Con p.rows)) (Con made.rows)
preimage_within p made k form d list a ed among h x i s =
    subst (λ (n : ℕ). IsWithin n (Con list) (Con made.rows)) ed h x i
    (λ g m. (preimage_same p k form a).0 x i s g (among g m))

preimage_strain : (p : Polyhedron) (k : ℕ) (form : List ℤ) (d : ℕ) (list : List LinearRow)
    (lost : Option Loss) (outcome told : Outcome) → IsAssignment p k form → d ≡ p.dims →
    (lost ≡ None → told ≡ outcome) → ((loss : Loss) → lost ≡ Some loss → told ≡ Flagged loss) →
    IfNone lost (list ≡ substituted_rows k form p.rows) →
    IfSome lost (FormingPasses (λ g. checked_substitution k form g.row) p.rows) →
    IfFlagged (FromRowsStrains d list) outcome → IfFlagged (PreimageStrains k form p) told
preimage_strain p k form d list None outcome told a ed same first all lost h =
    subst (IfFlagged (PreimageStrains k form p)) (sym (same refl))
    (if_flagged (FromRowsStrains d list) (PreimageStrains k form p) outcome
    (λ loss s. inr (constraints_strain p.dims (Preimage k form (Con p.rows)) (Con (substituted_rows k form p.rows))
    (substituted_rows k form p.rows) loss (preimage_same p k form a)
    (subst (λ (n : ℕ). FromRowsStrains n (substituted_rows k form p.rows) loss) ed
    (subst (λ (l : List LinearRow). FromRowsStrains d l loss) all s)))) h)
preimage_strain p k form d list (Some loss) outcome told a ed same first all lost h =
    subst (IfFlagged (PreimageStrains k form p)) (sym (first loss refl)) (inl lost)

-- the first loss is reported of the rows that couldn't be formed, or else of those that exceed a limit
pub preimage_becomes : (p made : Polyhedron) (k : ℕ) (form : List ℤ) (d : ℕ) (list : List LinearRow)
    (lost : Option Loss) (outcome told : Outcome) → IsAssignment p k form → d ≡ p.dims →
    (lost ≡ None → told ≡ outcome) → ((loss : Loss) → lost ≡ Some loss → told ≡ Flagged loss) →
    IfNone lost (list ≡ substituted_rows k form p.rows) →
    ((g : LinearRow) → Contains list g → Contains (substituted_rows k form p.rows) g) →
    IfSome lost (FormingPasses (λ g. checked_substitution k form g.row) p.rows) → IsOfRows d list made outcome →
    Becomes p.dims (Preimage k form (Con p.rows)) (PreimageStrains k form p) made told
preimage_becomes p made k form d list lost outcome told a ed same first all among passes b = record {
  dims = b.dims ∙ ed;
  canonical = b.canonical;
  within = preimage_within p made k form d list a ed among b.within;
  exact = preimage_exact p made k form d list lost outcome told a ed same first all b.exact;
  flagged = preimage_strain p k form d list lost outcome told a ed same first all passes b.flagged;
}
