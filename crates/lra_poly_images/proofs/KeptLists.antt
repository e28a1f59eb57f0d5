-- Why lists aren't moved, and what is left of those that are formed.
use Rattle.std.proofs.Common.{◌≡◌, ℕ, suc, ◌+◌, add-one, List, ℤ, [], inl, inr, ◌⊎◌, subst}
use Rattle.std.specs.List.{Contains}
use Rattle.lra_poly_images.specs.Crates.lra_linear_spec.OperationStrain.{substituted_rows, with_positivity}
use Rattle.lra_poly_images.specs.Crates.lra_systems.LinearSystems.{LinearSystem, constraints}
use Rattle.lra_poly_images.specs.Crates.{lra_linear_spec.Descriptions.LinearRow, lra_linear_spec.Polyhedra.Polyhedron, lra_linear_spec.declared.ConKind.ConKind}
use Rattle.lra_poly_images.specs.Crates.{lra_row.declared.error.RowError.RowError, lra_row.declared.error.RowError.TheVariants.Excess, lra_row.declared.error.RowError.TheVariants.Memory}
use Rattle.lra_mapped_systems.specs.{Forming.AllFormed, Moving.AssignmentPasses, Moving.MovePasses, Moving.OnExcess, Moving.StaysBackFor, Moving.StaysFor, Moving.SubstitutionPasses, Moving.IsInverse}
use Rattle.lra_poly.specs.{Restricted.IsTried, declared.outcome.Outcome.Outcome}
use Rattle.lra_poly_images.specs.FormedPreimages.{IsOfFormed}

-- a number passes in one of the lists
pub rows_pass : (k : ℕ) (form back : List ℤ) (p : Polyhedron) (rows : List LinearRow) (error : RowError) → rows ≡ p.rows → OnExcess (SubstitutionPasses k back rows) error →
    OnExcess (λ e. SubstitutionPasses k back p.rows e ⊎ AssignmentPasses k form p.generators e) error
rows_pass k form back p rows Memory er h = tt
rows_pass k form back p rows (Excess e) er h = inl (subst (λ (l : List LinearRow). SubstitutionPasses k back l e) er h)

pub generators_pass : (k : ℕ) (form back : List ℤ) (p : Polyhedron) (generators : List LinearRow) (error : RowError) → generators ≡ p.generators → OnExcess (AssignmentPasses k form generators) error →
    OnExcess (λ e. SubstitutionPasses k back p.rows e ⊎ AssignmentPasses k form p.generators e) error
generators_pass k form back p generators Memory eg h = tt
generators_pass k form back p generators (Excess e) eg h = inr (subst (λ (l : List LinearRow). AssignmentPasses k form l e) eg h)

pub stays_passed : (k : ℕ) (form back : List ℤ) (p : Polyhedron) → IsInverse k (suc p.dims) form back → MovePasses k form back p → StaysFor k form p
stays_passed k form back p takes h = inr (inr (back, takes, h))

pub stays_back_passed : (k : ℕ) (form back : List ℤ) (p : Polyhedron) → IsInverse k (suc p.dims) form back → MovePasses k back form p → StaysBackFor k form p
stays_back_passed k form back p takes h = inr (inr (back, takes, h))

-- ---- as the code tells it: column x + 1, and the form's row

pub stays_for : (p : Polyhedron) (x : ℕ) (form row : List ℤ) → row ≡ form → StaysFor (x + 1) row p → StaysFor (suc x) form p
stays_for p x form row er h = subst (λ (f : List ℤ). StaysFor (suc x) f p) er (subst (λ (k : ℕ). StaysFor k row p) (add-one x) h)

pub stays_back_for : (p : Polyhedron) (x : ℕ) (form row : List ℤ) → row ≡ form → StaysBackFor (x + 1) row p → StaysBackFor (suc x) form p
stays_back_for p x form row er h = subst (λ (f : List ℤ). StaysBackFor (suc x) f p) er (subst (λ (k : ℕ). StaysBackFor k row p) (add-one x) h)

-- ---- preimages of what can be formed
pub of_formed : (k : ℕ) (form : List ℤ) (p made : Polyhedron) (list : LinearSystem ConKind) (rows : List LinearRow) (o : Outcome) → list.dims ≡ p.dims →
    rows ≡ p.rows →
    ((g : LinearRow) → Contains (constraints list) g → Contains (substituted_rows k form rows) g) → AllFormed k form rows (constraints list) →
    IsTried list.dims (with_positivity list.dims []) (constraints list) made o → IsOfFormed k form p made
of_formed k form p made list rows o ed er among formed tried = record {
  rows = constraints list;
  among = λ g has. subst (λ (l : List LinearRow). Contains (substituted_rows k form l) g) er (among g has);
  formed = subst (λ (l : List LinearRow). AllFormed k form l (constraints list)) er formed;
  outcome = o;
  tried = subst (λ (n : ℕ). IsTried n (with_positivity n []) (constraints list) made o) ed tried;
}
