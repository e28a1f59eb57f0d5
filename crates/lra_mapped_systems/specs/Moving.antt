-- Assignments that can be inverted, and the canonical lists that are made of a polyhedron's by one.
use Rattle.std.specs.List.{Contains}
use Rattle.std.specs.Prelude.{◌≡◌, ◌≢◌, ◌⊎◌, ℕ, suc, ◌<◌, ℤ, pos, negsuc, neg_ℤ, ◌*ℤ◌, List, length, map, Err}
use Rattle.lra_mapped_systems.specs.Crates.lra_linear_spec.declared.Excess as E
use Rattle.lra_mapped_systems.specs.Crates.lra_canonical.Echelons.{HaveWidth, IsEchelonExcess}
use Rattle.lra_mapped_systems.specs.Crates.lra_descriptions.ShownLists.{ShowsConstraints, ShowsGenerators}
use Rattle.lra_mapped_systems.specs.Crates.lra_linear_spec.CheckedArithmetic.{checked_product, checked_substitution}
use Rattle.lra_mapped_systems.specs.Crates.lra_linear_spec.Descriptions.{Con, LinearRow, lines_of, rays_of}
use Rattle.lra_mapped_systems.specs.Crates.lra_linear_spec.Echelon.{IsEchelonOf}
use Rattle.lra_mapped_systems.specs.Crates.lra_linear_spec.Polyhedra.{Polyhedron}
use Rattle.lra_mapped_systems.specs.Crates.lra_linear_spec.Vectors.{entry, substituted}
use Rattle.lra_mapped_systems.specs.Crates.lra_row.declared.error.RowError.TheVariants.{Excess, Memory}
use Rattle.lra_mapped_systems.specs.Crates.{lra_linear_spec.Points.IsEmptySet, lra_linear_spec.SetOperations.assigned}
use Rattle.lra_mapped_systems.specs.Crates.{lra_linear_spec.declared.ConKind.ConKind}
use Rattle.lra_mapped_systems.specs.Crates.{lra_linear_spec.declared.GenKind.GenKind}
use Rattle.lra_mapped_systems.specs.Crates.{lra_row.declared.error.RowError.RowError}
use Rattle.lra_systems.specs.LinearSystems.{LinearSystem}
use Rattle.lra_description_pair.specs.OwnLists.{AnyReductionExcess, AreReducedBy}

-- The form f has 1 or -1 at column k, and g takes it back: if column k has the value of f, the value of g is what
-- stood there.
pub record IsInverse (k w : ℕ) (f g : List ℤ) : Type 0 where
  pub column : k < w
  pub width : length f ≡ w
  pub back_width : length g ≡ w
  pub unit : entry f k *ℤ entry f k ≡ pos 1
  pub same : entry g k ≡ entry f k
  pub others : (j : ℕ) → j ≢ k → entry g j ≡ neg_ℤ (entry f k *ℤ entry f j)

-- The constraints with the form put in for column k, as a canonical list: the equalities in echelon form, the
-- inequalities reduced by it, in order.
pub record IsSubstitutedList (n k : ℕ) (form : List ℤ) (given : List LinearRow) (list : LinearSystem ConKind) : Type 0
  where
    pub lines : List (List ℤ)
    pub rays : List (List ℤ)
    pub is_form : IsEchelonOf lines (map (substituted k form) (lines_of given))
    pub are_reduced : AreReducedBy lines (map (substituted k form) (rays_of given)) rays
    pub line_widths : HaveWidth (suc n) lines
    pub ray_widths : HaveWidth (suc n) rays
    pub shown : ShowsConstraints n lines rays list

-- The generators with the form's value in column k, as a canonical list: the lines in echelon form, the points and rays
-- reduced by it, in order.
pub record IsAssignedList (n k : ℕ) (form : List ℤ) (given : List LinearRow) (list : LinearSystem GenKind) : Type 0
  where
    pub lines : List (List ℤ)
    pub rays : List (List ℤ)
    pub is_form : IsEchelonOf lines (map (assigned k form) (lines_of given))
    pub are_reduced : AreReducedBy lines (map (assigned k form) (rays_of given)) rays
    pub line_widths : HaveWidth (suc n) lines
    pub ray_widths : HaveWidth (suc n) rays
    pub shown : ShowsGenerators lines rays list

-- ---- a number that passes
-- nothing is said of running out of memory
abbrev pub OnExcess : (E.Excess → Type 0) → RowError → Type 0
OnExcess P (Excess e) = P e
OnExcess P Memory = Unit {0}

-- in the echelon form of the lines, or as the others are reduced by that
abbrev pub CanonicalPasses : List (List ℤ) → List (List ℤ) → E.Excess → Type 0
CanonicalPasses lines rays e = IsEchelonExcess lines (Excess e)
    ⊎ ((form : List (List ℤ)) × IsEchelonOf form lines × AnyReductionExcess form rays (Excess e))

-- as the form is put in for column k of a constraint, or these constraints come into canonical form
abbrev pub SubstitutionPasses : ℕ → List ℤ → List LinearRow → E.Excess → Type 0
SubstitutionPasses k form rows e =
    ((g : LinearRow) × Contains rows g × (checked_substitution k form g.row ≡ Err e))
    ⊎ CanonicalPasses (map (substituted k form) (lines_of rows)) (map (substituted k form) (rays_of rows)) e

-- as the form's value is put into column k of a generator, or these generators come into canonical form
abbrev pub AssignmentPasses : ℕ → List ℤ → List LinearRow → E.Excess → Type 0
AssignmentPasses k form generators e =
    ((g : LinearRow) × Contains generators g × (checked_product form g.row ≡ Err e))
    ⊎ CanonicalPasses (map (assigned k form) (lines_of generators)) (map (assigned k form) (rays_of generators)) e

-- a number passes as both lists of P are moved by the form, which the other one takes back
abbrev pub MovePasses : ℕ → List ℤ → List ℤ → Polyhedron → Type 0
MovePasses k form back p =
    (e : E.Excess) × (SubstitutionPasses k back p.rows e ⊎ AssignmentPasses k form p.generators e)

-- there is 1 or -1 at column k
abbrev pub HasUnit : ℕ → List ℤ → Type 0
HasUnit k form = (entry form k ≡ pos 1) ⊎ (entry form k ≡ negsuc 0)

-- why the lists aren't moved by the form: there is no point, neither 1 nor -1 stands at the column, or a number passes
abbrev pub StaysFor : ℕ → List ℤ → Polyhedron → Type 0
StaysFor k form p = IsEmptySet p.dims (Con p.rows) ⊎ ¬ HasUnit k form
    ⊎ ((back : List ℤ) × IsInverse k (suc p.dims) form back × MovePasses k form back p)

-- nor back by it
abbrev pub StaysBackFor : ℕ → List ℤ → Polyhedron → Type 0
StaysBackFor k form p = IsEmptySet p.dims (Con p.rows) ⊎ ¬ HasUnit k form
    ⊎ ((back : List ℤ) × IsInverse k (suc p.dims) form back × MovePasses k back form p)
