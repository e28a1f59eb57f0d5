-- What a report says of the iteration over a program: what is shown of each point's value, the verdicts, the first
-- flagged point.
use Rattle.std.specs.Prelude.{◌≡◌, ℕ, suc, ℤ, List, map, Bool, Option, None, Some, option_map}
use Rattle.lra_analyse_source.specs.Crates.lra_analysis_spec.Analysis.{ExactIteration, LossyIteration, StrainsAtPoint}
use Rattle.lra_analyse_source.specs.Crates.lra_analysis_spec.Analysis.{IsSolution}
use Rattle.lra_analyse_source.specs.Crates.lra_analysis_spec.Operations.{exact_operations, lossy_operations}
use Rattle.lra_analyse_source.specs.Crates.lra_analysis_spec.Operations.{straining_operations}
use Rattle.lra_analyse_source.specs.Crates.lra_operations.CheckedOperations.{AgreesOnOverflows, AgreesOnAccesses}
use Rattle.lra_analyse_source.specs.Crates.lra_report.Report.{Invariant, PointReport, Report}
use Rattle.lra_analyse_source.specs.Crates.{lra_analysis_spec.Accesses.JudgesAccesses, lra_analysis_spec.Fits.JudgesIf}
use Rattle.lra_analyse_source.specs.Crates.{lra_analysis_spec.Pass.PassResult, lra_analysis_spec.Plan.plan_of}
use Rattle.lra_analyse_source.specs.Crates.{lra_base.declared.refusals.Place.Place, lra_domain.Abstraction.Abstraction}
use Rattle.lra_analyse_source.specs.Crates.{lra_operations.Agree.IsInlinedTree, lra_operations.Tree.Node}
use Rattle.lra_analyse_source.specs.Crates.{lra_program.Program.Program, lra_program.WellFormed.AreGoodGlobals}
use Rattle.lra_options.specs.declared.options.Options.{Options}
use Rattle.lra_report_build.specs.{AnalysisResults.reported_all, AnalysisResults.reported_of, Shown.AreShown}

-- `shown` is what the domain shows of a value; the program has these constants
pub record ReportsIteration {V H : Type 0} (m : Abstraction V H) (shown : V → Invariant) (settings : Options)
    (constants : List ℤ) (P : Program) (r : Report) : Type 0 where
  -- the globals begin with numbers of their types
  pub globals : AreGoodGlobals P.globals
  pub tree : Node
  pub is_graph : IsInlinedTree P tree
  -- which asks at each point of the operation that can stop a run there by a number
  pub asks : AgreesOnOverflows P tree
  -- and where an access can be outside its array
  pub accesses : AgreesOnAccesses P tree
  pub result : PassResult V
  pub values : List V
  -- a verdict is unknown exactly if something is left of the value at which the assertion's condition is false
  pub verdicts : List (ℕ × Bool)
  pub flagged : Option ℕ
  pub solves : IsSolution m result values verdicts flagged
  -- a derivation with drops; without a flag the written iteration; the first flag is where the written iteration
  -- exceeds a limit
  pub derived : LossyIteration m (plan_of settings constants) P tree result
  pub written : flagged ≡ None → ExactIteration m (plan_of settings constants) P tree result
  pub strained : (q : ℕ) → flagged ≡ Some q → StrainsAtPoint m (plan_of settings constants) P tree q
  -- each value is shown as it is: the rows of its state mean it
  pub are_shown : AreShown m settings.domain shown values
  -- and the report shows it
  pub states : map (λ (p : PointReport). p.state) r.points ≡ map shown values
  -- what fits, if it is asked for, and the first flag after that; without a flag by what the written iteration
  -- leaves; a first flag there is where what it leaves exceeds a limit
  pub fitting : List (ℕ × Bool)
  pub overflow_flag : Option ℕ
  pub judged : JudgesIf m (lossy_operations m) settings.fits tree values flagged fitting overflow_flag
  pub judged_written : overflow_flag ≡ None →
      JudgesIf m (exact_operations m) settings.fits tree values None fitting None
  pub judged_strained : (q : ℕ) → flagged ≡ None → overflow_flag ≡ Some q →
      JudgesIf m (straining_operations m) settings.fits tree values None fitting (Some q)
  -- which accesses lie inside their arrays, and the first flag after all that; so, too, by what the written iteration
  -- leaves
  pub inside : List (ℕ × List (Place × Bool))
  pub last : Option ℕ
  pub accessed : JudgesAccesses m (lossy_operations m) tree values overflow_flag inside last
  pub accessed_written : last ≡ None → JudgesAccesses m (exact_operations m) tree values None inside None
  pub accessed_strained : (q : ℕ) → overflow_flag ≡ None → last ≡ Some q →
      JudgesAccesses m (straining_operations m) tree values None inside (Some q)
  pub proved : map reported_of r.verdicts ≡ reported_all verdicts fitting inside
  pub flag : r.flagged ≡ option_map suc last
