-- What is known of a report before it is one of its source.
use Rattle.std.specs.Prelude.{◌≡◌, ℕ, ℤ, List, [], map, Bool, false, None}
use Rattle.lra_analyse_source.specs.Crates.lra_report.Report.{Invariant, PointReport, Report}
use Rattle.lra_analyse_source.specs.Crates.lra_syntax.Reach.{NotRecursive}
use Rattle.lra_analyse_source.specs.Crates.{lra_base.declared.refusals.Place.Place, lra_domain.Abstraction.Abstraction}
use Rattle.lra_analyse_source.specs.Crates.{lra_operations.Agree.Agrees, lra_program.Sites.events_of}
use Rattle.lra_analyse_source.specs.Crates.{lra_report.Listing.Lists, lra_report.Spelled.IsReadable}
use Rattle.lra_analyse_source.specs.Crates.{lra_resolution_spec.NameFaults.name_faults}
use Rattle.lra_analyse_source.specs.Crates.{lra_resolution_spec.Refuse.limit_fault, lra_resolution_spec.Resolve.resolve}
use Rattle.lra_analyse_source.specs.Crates.{lra_syntax.Labels.labels_of, lra_syntax.Trees.FileTree}
use Rattle.lra_options.specs.declared.options.Options.{Options}
use Rattle.lra_report_build.specs.AnalysisResults.{reported_all, reported_of}
use Rattle.lra_analyse_source.specs.{AnalysisReport.ReportsIteration, SourceReports.AreCanonical}

-- a report that lists the points of an accepted source's tree, says what an analysis of its program found, by
-- canonical lists over polyhedra, and is given by its text
pub record IsReportOfTree {V H : Type 0} (m : Abstraction V H) (shown : V → Invariant) (o : Options)
    (constants : List ℤ)
    (t : FileTree) (r : Report) : Type 0 where
  pub names : name_faults t ≡ []
  pub straight : NotRecursive t
  pub within : limit_fault (labels_of t) 0 (events_of (resolve t)) ≡ None
  pub options : r.options ≡ o
  pub lists : Lists t r
  pub analysed : ReportsIteration m shown o constants (resolve t) r
  pub agrees : Agrees (resolve t) analysed.tree
  pub canonical : AreCanonical o r
  pub readable : IsReadable r

-- at each point it shows the value that was found there, and on each assertion the verdict; beside these it says what
-- fits, and if that isn't asked for nothing, and which accesses lie inside their arrays
pub record ReportsSolution {V : Type 0} (shown : V → Invariant) (fits : Bool) (values : List V)
    (verdicts : List (ℕ × Bool)) (r : Report) : Type 0 where
  pub states : map (λ (p : PointReport). p.state) r.points ≡ map shown values
  pub fitting : List (ℕ × Bool)
  pub inside : List (ℕ × List (Place × Bool))
  pub told : map reported_of r.verdicts ≡ reported_all verdicts fitting inside
  pub silent : fits ≡ false → fitting ≡ []
