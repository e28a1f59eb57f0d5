-- A state so far, and one part more.
use Rattle.std.proofs.{Common.◌≡◌, Common.List, Common.[], Common.◌∷◌, Common.◌++◌, Common.map, Common.ap, Common.sym, Common.◌∙◌, Common.subst, lemmas.List.map-append}
use Rattle.std.specs.List.{AllByRecursion}
use Rattle.lra_report_build.specs.Crates.{lra_linear_spec.declared.ConKind.ConKind, lra_systems.LinearSystems.LinearSystem}
use Rattle.lra_row_text.specs.{Lists.shown_rows, Part.Part, Rows.ReportRow}
use Rattle.lra_report.specs.Rows.{IsPartInRange}
use Rattle.lra_report.proofs.Every.{every_append}
use Rattle.lra_report_build.specs.Shown.{shown_part}

part_is : (p : Part) (y : LinearSystem ConKind) → p.rows ≡ shown_rows y.rows y.kinds → p.generators ≡ [] → p ≡ shown_part y
part_is p y rows none =
    ap (λ (rs : List ReportRow). record { rows = rs; generators = p.generators }) rows
    ∙ ap (λ gs. record { rows = shown_rows y.rows y.kinds; generators = gs }) none

pub pushed : (old new : List Part) (p : Part) (ys : List (LinearSystem ConKind)) (y : LinearSystem ConKind) → old ≡ map shown_part ys → new ≡ old ++ p ∷ [] →
    p.rows ≡
    shown_rows y.rows y.kinds → p.generators ≡ []
    → new ≡ map shown_part (ys ++ y ∷ [])
pushed old new p ys y so_far is rows none =
    is ∙ ap (λ (l : List Part). l ++ p ∷ []) so_far ∙ ap (λ (q : Part). map shown_part ys ++ q ∷ []) (part_is p y rows none) ∙ sym
    (map-append shown_part ys (y ∷ []))

pub pushed_in_range : (old new : List Part) (p : Part) → AllByRecursion IsPartInRange old → new ≡ old ++ p ∷ [] → IsPartInRange p → AllByRecursion
    IsPartInRange new
pushed_in_range old new p so_far is one = subst (AllByRecursion IsPartInRange) (sym is) (every_append IsPartInRange old (p ∷ []) so_far (one, tt))
