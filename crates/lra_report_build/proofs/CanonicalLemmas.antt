-- What a formed polyhedron shows is canonical.
use Rattle.std.proofs.Common.{◌≡◌, List, [], ◌∷◌, refl, sym, subst}
use Rattle.lra_report_build.specs.Crates.lra_linear_spec.Representable.{IsRepresentable}
use Rattle.lra_report_build.specs.Crates.{lra_linear_spec.Descriptions.LinearRow, lra_linear_spec.Polyhedra.Polyhedron, lra_options.declared.options.Domain.TheVariants.Poly}
use Rattle.lra_report.specs.Report.{Invariant}
use Rattle.lra_row_text.specs.Part.{Part}
use Rattle.lra_report_build.specs.{Canonical.IsCanonicalPart, Canonical.IsCanonicalState, Polyhedra.part_if_any, Polyhedra.shown_polyhedron}

of_part : (p : Polyhedron) (gs : List LinearRow) (part : Part) → IsCanonicalPart p.dims part → IsCanonicalState Poly p.dims (part_if_any gs part)
of_part p [] part h = tt
of_part p (g ∷ gs) part h = (h, tt)

pub shown_canonical : (p : Polyhedron) (state : Invariant) → IsRepresentable p → state ≡ shown_polyhedron p → IsCanonicalState Poly p.dims state
shown_canonical p state fine is = subst (IsCanonicalState Poly p.dims) (sym is)
    (of_part p p.generators _ (record { polyhedron = p; dims = refl; formed = fine; rows = refl; generators = refl }))
