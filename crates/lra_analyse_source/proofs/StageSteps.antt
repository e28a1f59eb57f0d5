-- What a tree's report is reported to be, as the answer of its source.
use Rattle.std.proofs.Common.{ℕ, ℤ, ◌≤◌, List, refl, arith}
use Rattle.lra_analyse_source.specs.Crates.lra_resolution_spec.EntryPoint.{at_main}
use Rattle.lra_analyse_source.specs.Crates.lra_report.Report.{Invariant, Report}
use Rattle.lra_analyse_source.specs.Crates.{lra_domain.Abstraction.Abstraction, lra_domain.Laws.Laws, lra_resolution_spec.Refuse.Accepts, lra_syntax.Grammar.Spells, lra_syntax.Trees.FileTree}
use Rattle.lra_options.specs.declared.options.Options.{Options}
use Rattle.lra_front_end.specs.Stages.{HasConstants, HasTree}
use Rattle.lra_front_end.proofs.StageSteps.{accepted, faultless_main}
use Rattle.lra_analyse_source.specs.{SourceReports.IsAnalysisReportOver, Stages.IsReportOfTree}
use Rattle.lra_analyse_source.proofs.Reports.{sound, is_report}

module _ {V H : Type 0} (m : Abstraction V H) (laws : Laws m) (shown : V → Invariant) (o : Options) (constants : List ℤ) (source : List ℕ) (t : FileTree)
    (r : Report) (has : HasTree source t) (own : HasConstants source constants) (is : IsReportOfTree m shown o constants t r) (some : 1 ≤ o.parts) where
  -- a source whose tree's report is reported
  pub is_answered : IsAnalysisReportOver m shown o source r
  is_answered =
      let taken : Accepts at_main Spells source t = accepted at_main source t has (faultless_main t is.names is.straight is.within) in
      let whole = is_report m laws shown o constants t r is.lists is.analysed is.agrees o source refl some (omega arith) is.options taken in
      record {
        report = record {
          options = is.options;
          tree = t;
          accepted = taken;
          lists = is.lists;
          parts = whole.parts;
          sound = sound m laws shown o constants t r is.lists is.analysed is.agrees;
          flag = whole.flag;
        };
        constants = constants;
        own = own;
        analysed = is.analysed;
        canonical = is.canonical;
        readable = is.readable;
      }
