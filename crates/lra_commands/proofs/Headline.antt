-- From what a source must get to what is claimed of its report.
use Rattle.std.proofs.Common.{◌≡◌, ◌∙◌, ℕ, ℤ, List, [], ◌∷◌, length, map, Bool, true, false, ap, sym, subst, inl, inr}
use Rattle.std.specs.{Io.KnownBytes.Appends, List.AllByRecursion, Prelude.IsTrue, Prelude.Option, Prelude.None}
use Rattle.lra_base.specs.declared.refusals.Place.{Place}
use Rattle.lra_commands.specs.Crates.lra_report_build.AnalysisResults.{reported_all, reported_of}
use Rattle.lra_commands.specs.Crates.{lra_analyse_source.AnalysisReport.ReportsIteration, lra_analyse_source.SourceReports.IsAnalysisReport, lra_analysis_spec.Analysis.IsSolution}
use Rattle.lra_commands.specs.Crates.{lra_analysis_spec.Fits.Judges, lra_analysis_spec.Fits.JudgesIf, lra_analysis_spec.Operations.lossy_operations, lra_domain.Abstraction.Abstraction}
use Rattle.lra_commands.specs.Crates.{lra_operations.Tree.Node, lra_options.declared.options.Domain.Domain, lra_options.declared.options.Domain.TheVariants.Poly}
use Rattle.lra_commands.specs.Crates.{lra_options.declared.options.Options.Options, lra_program.Program.Program, lra_resolution_spec.Resolve.resolve}
use Rattle.lra_commands.proofs.Crates.lra_analyse_source.OneReport.{unflagged_behind, unflagged_first}
use Rattle.lra_commands.proofs.Crates.lra_analyse_source.Sayings.{over_each, over_same}
use Rattle.lra_report.specs.{Listing.AreParts, Parts.ShowsPart, Report.Invariant, Report.InvariantHolds, Report.PointReport, Report.Report, Report.IsInvariant}
use Rattle.lra_back_source.proofs.{Showing.same_parts, Strained.unflagged}
use Rattle.lra_sample.specs.{Sample.sample_source, Summary.summary_text}
use Rattle.lra_command_line.specs.ParsedCommand.{Asks, default_options}
use Rattle.lra_command_line.specs.{declared.commands.Command.TheVariants.Analyse, declared.commands.Command.TheVariants.Sample, declared.commands.Format.Format}
use Rattle.lra_command_answers.specs.{Statuses.Ends, Statuses.reported, declared.status.Status.Status, declared.status.Status.TheVariants.Refused}
use Rattle.lra_commands.specs.OutputClaims.{ReportClaims, WritesReport, IsNeverReached, HoldsInAllRuns, ReportsWritten, IsWrittenUnlessFlagged, ReportsAccessing, ReportsAccesses}
use Rattle.lra_commands.specs.OutputClaims.{ReportsFitting, ReportsFits, ReportsSamePoints, WritesSummary}
use Rattle.lra_report.specs.Report.{HasSamePointsAt}
use Rattle.lra_commands.specs.{Run.WritesAnswer, SourceAnswer.AnswersSource, SourceAnswer.IsReport, SourceAnswer.written_report, World.World}
use Rattle.lra_commands.proofs.CommandOutcomes.{asked_input}

-- invariants ----------------------------------------------------------------------

never_reached : (P : Program) (p : PointReport) → IsInvariant P p → IsNeverReached P p
never_reached P p holds none store at = let h : InvariantHolds [] store = subst (λ (state : Invariant). InvariantHolds state store) none (holds store at) in h

all_unreached : (P : Program) (ps : List PointReport) → AllByRecursion (IsInvariant P) ps → AllByRecursion (IsNeverReached P) ps
all_unreached P [] h = tt
all_unreached P (p ∷ ps) h = (never_reached P p h.0, all_unreached P ps h.1)

holds : (o : Options) (bytes : List ℕ) (r : Report) → IsAnalysisReport o bytes r → HoldsInAllRuns bytes r
holds o bytes r a = record {
  tree = a.report.tree;
  accepted = a.report.accepted;
  lists = a.report.lists;
  sound = a.report.sound;
  unreached = all_unreached (resolve a.report.tree) r.points a.report.sound.invariants;
}

-- the written iteration -----------------------------------------------------------

tells_written : {V H : Type 0} (m : Abstraction V H) (shown : V → Invariant) (o : Options) (constants : List ℤ) (P : Program) (r : Report) → r.flagged ≡ None
    → ReportsIteration m shown o constants P r → ReportsWritten m shown o constants P r
tells_written m shown o constants P r free x =
    let none_last = unflagged x.last (sym x.flag ∙ free) in
    let none_behind = unflagged_behind m x none_last in
    let none = unflagged_first m x none_last in
    record {
      tree = x.tree;
      is_graph = x.is_graph;
      result = x.result;
      written = x.written none;
      values = x.values;
      verdicts = x.verdicts;
      solves = subst (λ (f : Option ℕ). IsSolution m x.result x.values x.verdicts f) none x.solves;
      states = x.states;
      are_shown = x.are_shown;
      fitting = x.fitting;
      judged = x.judged_written none_behind;
      inside = x.inside;
      accessed = x.accessed_written none_last;
      proved = x.proved;
    }

is_written : (o : Options) (bytes : List ℕ) (r : Report) → IsAnalysisReport o bytes r → IsWrittenUnlessFlagged o bytes r
is_written o bytes r a = record {
  tree = a.report.tree;
  accepted = a.report.accepted;
  constants = a.constants;
  own = a.own;
  tells = λ free.
      let P = resolve a.report.tree in
      let ks = a.constants in
      over_each (λ V H m shown. ReportsIteration m shown o ks P r) (λ V H m shown. ReportsWritten m shown o ks P r) (λ V H m shown x. tells_written m shown o ks P r free x) o a.analysed;
}

-- accesses ------------------------------------------------------------------------

abbrev tells_accessing : {V H : Type 0} (m : Abstraction V H) (shown : V → Invariant) (o : Options) (constants : List ℤ) (P : Program) (r : Report)
    → ReportsIteration m shown o constants P r → ReportsAccessing m shown o P r
tells_accessing m shown o constants P r x = record {
  tree = x.tree;
  is_graph = x.is_graph;
  values = x.values;
  states = x.states;
  are_shown = x.are_shown;
  verdicts = x.verdicts;
  fitting = x.fitting;
  flag_before = x.overflow_flag;
  inside = x.inside;
  last = x.last;
  accessed = x.accessed;
  told = x.proved;
  flag = x.flag;
}

tells_accesses : (o : Options) (bytes : List ℕ) (r : Report) → IsAnalysisReport o bytes r → ReportsAccesses o bytes r
tells_accesses o bytes r a = record {
  tree = a.report.tree;
  accepted = a.report.accepted;
  right = a.report.sound.verdicts;
  tells =
      let P = resolve a.report.tree in
      over_each (λ V H m shown. ReportsIteration m shown o a.constants P r) (λ V H m shown. ReportsAccessing m shown o P r)
      (λ V H m shown x. tells_accessing m shown o a.constants P r x) o a.analysed;
}

-- what fits -----------------------------------------------------------------------

judges_so : {V H : Type 0} (m : Abstraction V H) (b : Bool) (g : Node) (values : List V) (flagged : Option ℕ) (fitting : List (ℕ × Bool)) (behind : Option ℕ) →
    b ≡
    true
    → JudgesIf m (lossy_operations m) b g values flagged fitting behind → Judges m (lossy_operations m) g values flagged fitting behind
judges_so m true g values flagged fitting behind is j = j
judges_so m false g values flagged fitting behind is j = absurd (let wrong : ⊥ = cc in wrong)

judges_none : {V H : Type 0} (m : Abstraction V H) (b : Bool) (g : Node) (values : List V) (flagged : Option ℕ) (fitting : List (ℕ × Bool)) (behind : Option ℕ)
    → b
    ≡ false
    → JudgesIf m (lossy_operations m) b g values flagged fitting behind → fitting ≡ []
judges_none m true g values flagged fitting behind is j = absurd (let wrong : ⊥ = cc in wrong)
judges_none m false g values flagged fitting behind is j = j.0

tells_fitting : {V H : Type 0} (m : Abstraction V H) (shown : V → Invariant) (o : Options) (constants : List ℤ) (P : Program) (r : Report) → IsTrue o.fits
    → ReportsIteration m shown o constants P r → ReportsFitting m shown o P r
tells_fitting m shown o constants P r asked x = record {
  beside = tells_accessing m shown o constants P r x;
  flagged = x.flagged;
  judged = judges_so m o.fits x.tree x.values x.flagged x.fitting x.overflow_flag asked x.judged;
}

abbrev Silent : Report → Type 0
Silent r = (verdicts : List (ℕ × Bool)) × (inside : List (ℕ × List (Place × Bool))) × (map reported_of r.verdicts ≡ reported_all verdicts [] inside)

silent_so : {V H : Type 0} (m : Abstraction V H) (shown : V → Invariant) (o : Options) (constants : List ℤ) (P : Program) (r : Report) → o.fits ≡ false
    → ReportsIteration m shown o constants P r → Silent r
silent_so m shown o constants P r never x =
    let none = judges_none m o.fits x.tree x.values x.flagged x.fitting x.overflow_flag never x.judged in
    (x.verdicts, x.inside, x.proved ∙ ap (λ (f : List (ℕ × Bool)). reported_all x.verdicts f x.inside) none)

tells_fits : (o : Options) (bytes : List ℕ) (r : Report) → IsAnalysisReport o bytes r → ReportsFits o bytes r
tells_fits o bytes r a = record {
  tree = a.report.tree;
  accepted = a.report.accepted;
  right = a.report.sound.verdicts;
  tells = λ asked.
      let P = resolve a.report.tree in
      over_each (λ V H m shown. ReportsIteration m shown o a.constants P r) (λ V H m shown. ReportsFitting m shown o P r)
      (λ V H m shown x. tells_fitting m shown o a.constants P r asked x) o a.analysed;
  silent = λ never.
      over_same (Silent r) o (over_each (λ V H m shown. ReportsIteration m shown o a.constants (resolve a.report.tree) r) (λ V H m shown. Silent r)
      (λ V H m shown x. silent_so m shown o a.constants (resolve a.report.tree) r never x) o a.analysed);
}

-- rows and generators -------------------------------------------------------------

same_at : (o : Options) (ps : List PointReport) → o.domain ≡ Poly → AllByRecursion (AreParts o) ps → AllByRecursion HasSamePointsAt ps
same_at o [] is h = tt
same_at o (p ∷ ps) is h = (
  same_parts (length p.names) p.state (subst (λ (d : Domain). AllByRecursion (ShowsPart d (length p.names)) p.state) is h.0.tell),
  same_at o ps is h.1,
)

same_points : (o : Options) (bytes : List ℕ) (r : Report) → IsAnalysisReport o bytes r → ReportsSamePoints o bytes r
same_points o bytes r a is = same_at o r.points is a.report.parts

-- what is written -----------------------------------------------------------------

pub claims : (o : Options) (bytes : List ℕ) (r : Report) → IsAnalysisReport o bytes r → ReportClaims o bytes r
claims o bytes r a = record {
  answers = a;
  holds = holds o bytes r a;
  is_written = is_written o bytes r a;
  fits = tells_fits o bytes r a;
  accesses = tells_accesses o bytes r a;
  same_points = same_points o bytes r a;
}

pub not_refused : (status : Status) → status ≡ Refused → Ends reported status → ⊥
not_refused status is (inl proved) = cc
not_refused status is (inr (inl unknown)) = cc
not_refused status is (inr (inr none)) = none

-- a source that isn't refused gets a report
source_reported : (options : Options) (write : Report → List ℕ) (bytes text : List ℕ) (status : Status) → Ends reported status → AnswersSource options write bytes text status
    → IsReport options write bytes text status
source_reported options write bytes text status ends (inl (d, is)) = absurd (not_refused status is ends)
source_reported options write bytes text status ends (inr r) = r

pub writes_report : (w : World) (options : Options) (format : Format) (status : Status) → Asks w.words (Analyse options format) → Ends reported status → WritesAnswer w status
    → WritesReport options format w status
writes_report w options format status asks ends a =
    let answer : AnswersSource options (written_report format) a.answers.bytes a.text status = asked_input w.words w.left a.text status (Analyse options format) asks a.answers in
    let r = source_reported options (written_report format) a.answers.bytes a.text status ends answer in
    record {
      bytes = a.answers.bytes;
      input = a.answers.input;
      report = r.report;
      claims = claims options a.answers.bytes r.report r.answered;
      counted = r.counted;
      written = subst (Appends w.held w.held_now) r.written a.written;
    }

pub writes_summary : (w : World) (seed size : ℕ) (status : Status) → Asks w.words (Sample seed size) → Ends reported status → WritesAnswer w status
    → WritesSummary seed size w status
writes_summary w seed size status asks ends a =
    let answer : AnswersSource default_options (summary_text seed size) (sample_source seed size) a.text status = asked_input w.words w.left a.text status (Sample seed size) asks a.answers in
    let r = source_reported default_options (summary_text seed size) (sample_source seed size) a.text status ends answer in
    record {
      report = r.report;
      claims = claims default_options (sample_source seed size) r.report r.answered;
      counted = r.counted;
      written = subst (Appends w.held w.held_now) r.written a.written;
    }
