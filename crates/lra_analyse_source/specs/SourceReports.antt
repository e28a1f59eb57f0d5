-- What a source must get: its one refusal (`Refuse`), or a report of it that states the analysis.
use Rattle.std.specs.{List.AllByRecursion, Prelude.ℕ, Prelude.suc, Prelude.ℤ, Prelude.List, Prelude.length}
use Rattle.lra_options.specs.declared.options.Domain.TheVariants.{Poly, Box, Oct}
use Rattle.lra_options.specs.{declared.options.Domain.Domain, declared.options.Options.Options}
use Rattle.lra_analyse_source.specs.Crates.lra_octagon.Abstraction.{octagon_abstraction}
use Rattle.lra_analyse_source.specs.Crates.lra_powerset.Content.{SetContent, SetHead}
use Rattle.lra_analyse_source.specs.Crates.lra_report.Report.{Invariant, PointReport, Report}
use Rattle.lra_analyse_source.specs.Crates.{lra_box.Abstraction.box_abstraction, lra_domain.Abstraction.Abstraction}
use Rattle.lra_analyse_source.specs.Crates.{lra_powerset.Abstraction.set_abstraction, lra_program.Program.Program}
use Rattle.lra_analyse_source.specs.Crates.{lra_report.Listing.IsReportOf, lra_report.Spelled.IsReadable}
use Rattle.lra_analyse_source.specs.Crates.{lra_resolution_spec.Resolve.resolve, lra_syntax.Grammar.Spells}
use Rattle.lra_poly_domain.specs.Abstraction.{polyhedron_abstraction}
use Rattle.lra_report_build.specs.Polyhedra.{shown_polyhedron}
use Rattle.lra_report_build.specs.{Canonical.IsCanonicalState, Sets.shown_set, Shown.shown_state}
use Rattle.lra_front_end.specs.Stages.{HasConstants}
use Rattle.lra_analyse_source.specs.AnalysisReport.{ReportsIteration}

-- over polyhedra each state is shown by canonical lists, flagged or not
abbrev pub AreCanonical : Options → Report → Type 0
AreCanonical o r = AllByRecursion (λ (p : PointReport). IsCanonicalState o.domain (length p.names) p.state) r.points

-- a report of the source that reports an analysis over a domain with this meaning, by the source's constants, with
-- canonical lists over polyhedra; it is given by its text, which has numbers of the range and each part as wide as its
-- point has names
pub record IsAnalysisReportOver {V H : Type 0} (m : Abstraction V H) (shown : V → Invariant) (o : Options)
    (source : List ℕ)
    (r : Report) : Type 0 where
  pub report : IsReportOf Spells o source r
  pub constants : List ℤ
  pub own : HasConstants source constants
  pub analysed : ReportsIteration m shown o constants (resolve report.tree) r
  pub canonical : AreCanonical o r
  pub readable : IsReadable r

-- what is said of a domain's meaning, and of the states that show its values
abbrev pub DomainProperty : Type 1
DomainProperty = (V H : Type 0) → Abstraction V H → (V → Invariant) → Type 0

-- it is said of the sets of a domain's values if there may be more parts than one, else of the domain itself
abbrev pub WithParts : ℕ → DomainProperty → DomainProperty
WithParts (suc (suc n)) say V H m shown = say (SetContent V) (SetHead V H) (set_abstraction m) (shown_set shown)
WithParts n say V H m shown = say V H m shown

-- it is said of this domain
abbrev pub ForDomain : Domain → DomainProperty → Type 0
ForDomain Poly say = say _ _ polyhedron_abstraction shown_polyhedron
ForDomain Box say = say _ _ box_abstraction (shown_state box_abstraction)
ForDomain Oct say = say _ _ octagon_abstraction (shown_state octagon_abstraction)

-- it is said of the domain and the number of parts that the options name
abbrev pub ForOptions : Options → DomainProperty → Type 0
ForOptions o say = ForDomain o.domain (WithParts o.parts say)

-- the report shows an analysis of the program, which has these constants, over these
abbrev pub ReportsAnalysis : Options → List ℤ → Program → Report → Type 0
ReportsAnalysis o constants P r = ForOptions o (λ V H m shown. ReportsIteration m shown o constants P r)

-- so a source is answered: over the domain and the number of parts that the options name
pub record IsAnalysisReport (o : Options) (source : List ℕ) (r : Report) : Type 0 where
  pub report : IsReportOf Spells o source r
  pub constants : List ℤ
  pub own : HasConstants source constants
  pub analysed : ReportsAnalysis o constants (resolve report.tree) r
  pub canonical : AreCanonical o r
  pub readable : IsReadable r
