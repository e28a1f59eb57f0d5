-- What is shown by rows with numbers of the range is shown as it is, and given by its text.
use Rattle.std.proofs.{Common.◌≡◌, Common.◌∙◌, Common.List, Common.[], Common.◌∷◌, Common.length, Common.map, Common.ap, Common.sym, Common.subst, Common.Vec, Common.Global, lemmas.List.length-map}
use Rattle.std.specs.{List.AllByRecursion, Prelude.Result, Prelude.Ok, Prelude.Err, Prelude.IfOk}
use Rattle.lra_report_build.specs.Crates.lra_systems.LinearSystems.{LinearSystem}
use Rattle.lra_report_build.specs.Crates.{lra_domain.Abstraction.Abstraction, lra_linear_spec.declared.ConKind.ConKind, lra_options.declared.options.Domain.Domain}
use Rattle.lra_row_text.specs.{Lists.shown_rows, Part.Part, Rows.ReportRow}
use Rattle.lra_report.specs.Spelled.{IsDirected, IsSpelledRow, IsSpelledPart}
use Rattle.lra_report.specs.{Listing.HasWidth, Parts.ShowsPart, Report.Invariant, Report.InvariantHolds, Rows.IsRowInRange, Rows.IsPartInRange}
use Rattle.lra_report_build.specs.Shown.{IsShown, shown_part, shown_state, AreDirected, MeansValue, ShowsRows}

rows_spelled : (rs : List ReportRow) → AllByRecursion (λ (r : ReportRow). IsDirected r.kind r.coefficients) rs → AllByRecursion IsRowInRange rs → AllByRecursion
    IsSpelledRow rs
rows_spelled [] d h = tt
rows_spelled (r ∷ rs) d h = (record { directed = d.0; in_range = h.0 }, rows_spelled rs d.1 h.1)

parts_spelled : (ps : List (LinearSystem ConKind)) → AllByRecursion AreDirected (map shown_part ps) → AllByRecursion IsPartInRange (map shown_part ps) →
    AllByRecursion IsSpelledPart (map shown_part ps)
parts_spelled [] d h = tt
parts_spelled (p ∷ ps) d h = (record { rows = rows_spelled (shown_rows p.rows p.kinds) d.0 h.0; generators = tt }, parts_spelled ps d.1 h.1)

module _ {V H E : Type 0} (m : Abstraction V H) (domain : Domain) (shows : ShowsRows m domain) (v : V) where
  pub told : (x : Result (Vec Part Global) E) → IfOk x (λ s. s.items ≡ shown_state m v) → IfOk x (λ s. MeansValue m v s.items) → IfOk x
      (λ s. IsShown m domain v s.items)
  told (Ok s) is mean = record {
    as_many = ap length is ∙ length-map (m.parts v) shown_part;
    wide = subst (AllByRecursion (HasWidth (m.dims v))) (sym is) (shows.wide v);
    tell = subst (AllByRecursion (ShowsPart domain (m.dims v))) (sym is) (shows.tell v);
    holds = λ t h. subst (λ (state : Invariant). InvariantHolds state t) (sym is) (shows.holds v t h);
    only = λ t long h. (mean t long).1 h;
  }
  told (Err e) is mean = tt

  pub spelled : (x : Result (Vec Part Global) E) → IfOk x (λ s. s.items ≡ shown_state m v) → IfOk x (λ s. AllByRecursion IsPartInRange s.items) → IfOk x
      (λ s. AllByRecursion IsSpelledPart s.items)
  spelled (Ok s) is h =
      subst (AllByRecursion IsSpelledPart) (sym is) (parts_spelled (m.parts v) (shows.directed v) (subst (AllByRecursion IsPartInRange) is h))
  spelled (Err e) is h = tt
