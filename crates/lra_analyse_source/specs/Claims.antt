-- What follows of the tree of a well-formed program, and of a report that states an analysis.
use Rattle.std.specs.Prelude.{◌≡◌, ◌≤◌, ℕ, ℤ, List, length, None}
use Rattle.lra_analyse_source.specs.Crates.lra_resolution_spec.EntryPoint.{at_main}
use Rattle.lra_analyse_source.specs.Crates.lra_operations.Agree.{IsInlinedTree, Agrees}
use Rattle.lra_analyse_source.specs.Crates.lra_program.WellFormed.{IsWellFormed}
use Rattle.lra_analyse_source.specs.Crates.lra_report.Listing.{Lists, IsReportOf}
use Rattle.lra_analyse_source.specs.Crates.lra_report.Report.{Invariant, Report, IsSound}
use Rattle.lra_analyse_source.specs.Crates.{lra_domain.Abstraction.Abstraction, lra_operations.Tree.Node}
use Rattle.lra_analyse_source.specs.Crates.{lra_pass_results.Dimensions.TreeFits, lra_program.Program.Program}
use Rattle.lra_analyse_source.specs.Crates.{lra_program.Sites.sites_of, lra_report.ReportText.report_text}
use Rattle.lra_analyse_source.specs.Crates.{lra_resolution_spec.Refuse.Accepts, lra_resolution_spec.Resolve.resolve}
use Rattle.lra_analyse_source.specs.Crates.{lra_syntax.Grammar.Spells, lra_syntax.Trees.FileTree}
use Rattle.lra_options.specs.declared.options.Options.{Options}
use Rattle.lra_fixpoint.specs.Numbers.{AreBelow, IsNumbered}
use Rattle.lra_front_end.specs.Claims.{AreFew}
use Rattle.lra_analyse_source.specs.{AnalysisReport.ReportsIteration, SourceReports.IsAnalysisReport}

-- an iteration can be made over the tree of a well-formed program
abbrev pub TreesFit : Type 0
TreesFit = (P : Program) (g : Node) → IsWellFormed P → AreFew (sites_of P) → IsInlinedTree P g →
    TreeFits g (length P.globals)

-- the tree has each point once, each assertion once, and operations of the program's points alone
abbrev pub TreesAreNumbered : Type 0
TreesAreNumbered = (P : Program) (g : Node) → IsInlinedTree P g →
    IsNumbered (sites_of P) g × AreBelow (length (sites_of P)) g

-- if tree and runs agree the states hold in all runs, and no assertion that is marked proved fails
abbrev pub AnalysedAreSound : {V H : Type 0} → Abstraction V H → Type 0
AnalysedAreSound {V} m = (shown : V → Invariant) (settings : Options) (constants : List ℤ) (t : FileTree) (r : Report)
    → (x : ReportsIteration m shown settings constants (resolve t) r) → Agrees (resolve t) x.tree → Lists t r
    → IsSound (resolve t) r

-- and of an accepted source it is a report, under options that name the analysis' domain and allow as many parts as it
-- had, or more
abbrev pub AnalysedAreReports : {V H : Type 0} → Abstraction V H → Type 0
AnalysedAreReports {V} m = (shown : V → Invariant) (o : Options) (settings : Options) (constants : List ℤ)
    (source : List ℕ) (t : FileTree) (r : Report)
    → (x : ReportsIteration m shown settings constants (resolve t) r)
    → o.domain ≡ settings.domain → 1 ≤ settings.parts → settings.parts ≤ o.parts
    → Agrees (resolve t) x.tree → Lists t r → r.options ≡ o → Accepts at_main Spells source t →
    IsReportOf Spells o source r

-- two answers without a flag to one source under one list of options are the same report
abbrev pub OneUnflaggedReport : Type 0
OneUnflaggedReport = (o : Options) (source : List ℕ) (r s : Report)
    → IsAnalysisReport o source r → IsAnalysisReport o source s → r.flagged ≡ None → s.flagged ≡ None → r ≡ s

-- two answers to one source under one list of options that have the same text are the same report
abbrev pub OneAnsweredText : Type 0
OneAnsweredText = (o : Options) (source : List ℕ) (r s : Report)
    → IsAnalysisReport o source r → IsAnalysisReport o source s → report_text r ≡ report_text s → r ≡ s
