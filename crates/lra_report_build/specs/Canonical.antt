-- What it means that a state over polyhedra is shown by canonical lists.
use Rattle.std.specs.{List.AllByRecursion, Prelude.◌≡◌, Prelude.ℕ, Prelude.List, Prelude.map, Prelude.⊤}
use Rattle.lra_report_build.specs.Crates.lra_linear_spec.Polyhedra.{Polyhedron}
use Rattle.lra_report_build.specs.Crates.lra_linear_spec.Representable.{IsRepresentable}
use Rattle.lra_report_build.specs.Crates.lra_options.declared.options.Domain.{Domain}
use Rattle.lra_report_build.specs.Crates.lra_options.declared.options.Domain.TheVariants.{Poly, Box, Oct}
use Rattle.lra_report.specs.Report.{Invariant}
use Rattle.lra_row_text.specs.{Part.Part, ShownDescriptions.shown_constraint, ShownDescriptions.shown_generator}

-- the part shows the two lists of a polyhedron, which are canonical, within the limit and of numbers of the range
pub record IsCanonicalPart (n : ℕ) (part : Part) : Type 0 where
  pub polyhedron : Polyhedron
  pub dims : polyhedron.dims ≡ n
  pub formed : IsRepresentable polyhedron
  pub rows : part.rows ≡ map shown_constraint polyhedron.rows
  pub generators : part.generators ≡ map shown_generator polyhedron.generators

-- of boxes and octagons a law of their own says which rows they have
abbrev pub IsCanonicalFor : Domain → ℕ → Part → Type 0
IsCanonicalFor Poly n part = IsCanonicalPart n part
IsCanonicalFor Box n part = ⊤
IsCanonicalFor Oct n part = ⊤

abbrev pub IsCanonicalState : Domain → ℕ → Invariant → Type 0
IsCanonicalState domain n state = AllByRecursion (IsCanonicalFor domain n) state

-- the states of all these values are shown by canonical parts
abbrev pub AreCanonicallyShown : {V : Type 0} → Domain → (V → ℕ) → (V → Invariant) → List V → Type 0
AreCanonicallyShown {V} domain dims shown values =
    AllByRecursion (λ (v : V). IsCanonicalState domain (dims v) (shown v)) values
