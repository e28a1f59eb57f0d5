-- What a source must get that is gone back over from one of its assertions: what is left at each point of the stores
-- from which it may fail, and whether it is proved; or why there is no such answer. Points are counted from 0 here; a
-- report's numbers are one more.
use Rattle.std.specs.Prelude.{◌≡◌, ◌↔◌, ◌⊎◌, ℕ, suc, ℤ, List, [], map, Bool, true, Option, None, Some}
use Rattle.std.specs.{List.AllByRecursion, Prelude.option_map, Prelude.slice_get}
use Rattle.lra_back_source.specs.Crates.lra_resolution_spec.EntryPoint.{at_main}
use Rattle.lra_back_source.specs.Crates.lra_analysis_spec.Analysis.{ExactIteration, IsSolution, StrainsAtPoint}
use Rattle.lra_back_source.specs.Crates.lra_back.BackwardAnalysis.{AreWide, BackwardAnalysis, FailsFrom}
use Rattle.lra_back_source.specs.Crates.lra_back.BackwardAnalysis.{IsBackwardAnalysis, NothingLeftAtStart}
use Rattle.lra_back_source.specs.Crates.lra_back.Operations.{exact_back_operations, straining_back_operations}
use Rattle.lra_back_source.specs.Crates.lra_paths.Paths.{AreFewPaths, HasTooManyPaths}
use Rattle.lra_back_source.specs.Crates.lra_poly_domain.Abstraction.{polyhedron_abstraction}
use Rattle.lra_back_source.specs.Crates.lra_poly_domain.Backward.{polyhedron_backward}
use Rattle.lra_back_source.specs.Crates.lra_program.Sites.{Site, sites_of}
use Rattle.lra_back_source.specs.Crates.lra_report_build.Polyhedra.{shown_polyhedron}
use Rattle.lra_back_source.specs.Crates.{lra_analysis_spec.Accesses.JudgesAccesses, lra_analysis_spec.Pass.PassResult}
use Rattle.lra_back_source.specs.Crates.{lra_base.declared.refusals.Place.Place, lra_front_end.Stages.HasConstants}
use Rattle.lra_back_source.specs.Crates.{lra_linear_spec.Polyhedra.Polyhedron, lra_operations.Agree.point_of}
use Rattle.lra_back_source.specs.Crates.{lra_operations.Tree.Node, lra_options.declared.options.Domain.TheVariants.Poly}
use Rattle.lra_back_source.specs.Crates.{lra_program.Assertions.IsAssertion, lra_program.Program.Program}
use Rattle.lra_back_source.specs.Crates.{lra_program.Run.Point, lra_program.Run.Fails, lra_report_build.Shown.AreShown}
use Rattle.lra_back_source.specs.Crates.{lra_resolution_spec.LiveNames.globals_named, lra_resolution_spec.Refuse.Refuse}
use Rattle.lra_back_source.specs.Crates.{lra_resolution_spec.Resolve.resolve, lra_syntax.Grammar.Spells}
use Rattle.lra_back_source.specs.Crates.{lra_syntax.Labels.labels_of, lra_syntax.Trees.FileTree}
use Rattle.lra_report.specs.Report.{PointReport, HasSamePointsAt, InvariantHolds}
use Rattle.lra_report.specs.{BackText.BackReport, Listing.AreListed}
use Rattle.lra_back_source.specs.Crates.lra_analysis_spec.Operations as iteration
use Rattle.lra_certificate_spec.specs.Claims.{IsProgram, program_of}
use Rattle.lra_back_sound.specs.Fitting.{IsFirst}
use Rattle.lra_back_source.specs.declared.refusals.BackRefusal.TheVariants.{Source, NoAssertion, Paths}
use Rattle.lra_back_source.specs.{Forward.IsForward, Forward.forward_plan, declared.refusals.BackRefusal.BackRefusal}

-- reports ----------------------------------------------------------------------------------------------------------

-- all points of a source with this tree are listed, each with the state that shows the value there, which has a
-- dimension for each variable that lives there
pub record ShowsAtPoints (t : FileTree) (values : List Polyhedron) (points : List PointReport) : Type 0 where
  pub wide : AreWide polyhedron_abstraction (sites_of (resolve t)) values
  pub listed : AreListed (globals_named t.parts) (labels_of t) 1 (sites_of (resolve t)) points
  pub states : map (λ (x : PointReport). x.state) points ≡ map shown_polyhedron values
  pub are_shown : AreShown polyhedron_abstraction Poly shown_polyhedron values

-- The point is an assertion of a program with few paths; what the forward analysis finds is gone back over from there,
-- after its flags. Proved the assertion is exactly if nothing is left at the points to which paths from the start
-- lead.
pub record IsBackwardFinding (constants : List ℤ) (P : Program) (g : Node) (p : ℕ) (values : List Polyhedron)
    (last : Option ℕ) (holds : Bool) : Type 0 where
  pub asserts : IsAssertion (sites_of P) p
  pub few : AreFewPaths P g
  pub forward : List Polyhedron
  pub flagged : Option ℕ
  pub ahead : IsForward constants P g forward flagged
  pub traced : IsBackwardAnalysis polyhedron_abstraction polyhedron_backward P.globals (sites_of P) g forward flagged p
      values last
  pub proved : (holds ≡ true) ↔ NothingLeftAtStart polyhedron_abstraction P.globals (sites_of P) g values

-- the report is one of going back over this source from its assertion at the point p
pub record IsBackReportOf (source : List ℕ) (p : ℕ) (r : BackReport) : Type 0 where
  pub program : IsProgram source
  pub constants : List ℤ
  pub own : HasConstants source constants
  pub values : List Polyhedron
  pub last : Option ℕ
  pub found : IsBackwardFinding constants (program_of program) program.operations p values last r.proved
  pub shows : ShowsAtPoints program.tree values r.points
  pub number : r.number ≡ suc p
  pub flag : r.flagged ≡ option_map suc last

-- claims -----------------------------------------------------------------------------------------------------------

-- at the point, each store with which a run comes there that goes on to fail at the assertion
abbrev pub HoldsBeforeFailing : Program → Point → PointReport → Type 0
HoldsBeforeFailing P assertion x = (store : List ℤ) → FailsFrom P assertion x.point store → InvariantHolds x.state store

-- so it is at all points, and no run fails if the assertion is proved
pub record ReportCoversFailingRuns (P : Program) (p : ℕ) (r : BackReport) : Type 0 where
  pub states : (s : Site) → slice_get (sites_of P) p ≡ Some s →
      AllByRecursion (HoldsBeforeFailing P (point_of s)) r.points
  pub proved : r.proved ≡ true → (s : Site) → slice_get (sites_of P) p ≡ Some s → Fails P (point_of s) → ⊥

-- it is proved exactly if the one point to which paths from the start lead is shown as unreachable
pub record IsProvedAtFirst (P : Program) (g : Node) (r : BackReport) : Type 0 where
  pub first : ℕ
  pub is_first : IsFirst P g first
  pub exactly : (x : PointReport) → slice_get r.points first ≡ Some x → ((r.proved ≡ true) ↔ (x.state ≡ []))

-- the values of the written iteration, in which nothing exceeds a limit
pub record IsWrittenForward (constants : List ℤ) (P : Program) (g : Node) (forward : List Polyhedron) : Type 0 where
  pub result : PassResult Polyhedron
  pub written : ExactIteration polyhedron_abstraction (forward_plan constants) P g result
  pub verdicts : List (ℕ × Bool)
  pub solves : IsSolution polyhedron_abstraction result forward verdicts None

-- without a flag what is shown is what is defined, over the values of the written iteration
pub record IsDefinedBack (constants : List ℤ) (P : Program) (g : Node) (p : ℕ) (r : BackReport) : Type 0 where
  pub forward : List Polyhedron
  pub written : IsWrittenForward constants P g forward
  pub values : List Polyhedron
  pub back : BackwardAnalysis (exact_back_operations polyhedron_abstraction polyhedron_backward) P.globals (sites_of P)
      g forward None p values None
  pub states : map (λ (x : PointReport). x.state) r.points ≡ map shown_polyhedron values

-- an access of an array that is judged by these values exceeds a limit at the point q
pub record StrainsInAccess (constants : List ℤ) (P : Program) (g : Node) (q : ℕ) : Type 0 where
  pub forward : List Polyhedron
  pub written : IsWrittenForward constants P g forward
  pub inside : List (ℕ × List (Place × Bool))
  pub judged : JudgesAccesses polyhedron_abstraction (iteration.straining_operations polyhedron_abstraction) g forward
      None inside (Some q)

-- an operation with which these values are gone back over exceeds a limit
pub record StrainsBack (constants : List ℤ) (P : Program) (g : Node) (p q : ℕ) : Type 0 where
  pub forward : List Polyhedron
  pub written : IsWrittenForward constants P g forward
  pub values : List Polyhedron
  pub back : BackwardAnalysis (straining_back_operations polyhedron_abstraction polyhedron_backward) P.globals
      (sites_of P) g forward None p values
      (Some q)

-- an operation of the point q exceeds a limit, and all before it is exact: of the written iteration, of what is judged
-- of accesses after it, or of going back after these
abbrev pub StrainsAt : List ℤ → Program → Node → ℕ → ℕ → Type 0
StrainsAt constants P g p q = StrainsAtPoint polyhedron_abstraction (forward_plan constants) P g q ⊎
    (StrainsInAccess constants P g q ⊎ StrainsBack constants P g p q)

abbrev pub BacksAreSound : Type 0
BacksAreSound = (source : List ℕ) (p : ℕ) (r : BackReport) → (x : IsBackReportOf source p r) →
    ReportCoversFailingRuns (program_of x.program) p r

abbrev pub BacksAreProvedAtFirst : Type 0
BacksAreProvedAtFirst = (source : List ℕ) (p : ℕ) (r : BackReport) → (x : IsBackReportOf source p r) →
    IsProvedAtFirst (program_of x.program) x.program.operations r

abbrev pub UnflaggedBacksAreDefined : Type 0
UnflaggedBacksAreDefined = (source : List ℕ) (p : ℕ) (r : BackReport) → (x : IsBackReportOf source p r) →
    r.flagged ≡ None →
    IsDefinedBack x.constants (program_of x.program) x.program.operations p r

-- and the number of a flag is that of a point of which an operation exceeds a limit
abbrev pub FlaggedBacksStrain : Type 0
FlaggedBacksStrain = (source : List ℕ) (p : ℕ) (r : BackReport) → (x : IsBackReportOf source p r) → (q : ℕ) →
    r.flagged ≡ Some (suc q) → StrainsAt x.constants (program_of x.program) x.program.operations p q

abbrev pub BacksHaveSamePoints : Type 0
BacksHaveSamePoints = (source : List ℕ) (p : ℕ) (r : BackReport) → IsBackReportOf source p r →
    AllByRecursion HasSamePointsAt r.points

-- refusals ---------------------------------------------------------------------------------------------------------

-- the source's own refusal; no assertion at the point; or, if there is one, too many paths from the source of this
-- number, be they on the way to it or not
abbrev pub IsBackRefusalOf : List ℕ → ℕ → BackRefusal → Type 0
IsBackRefusalOf source p (Source r) = Refuse at_main Spells source r.cause r.place
IsBackRefusalOf source p NoAssertion = (x : IsProgram source) × (IsAssertion (sites_of (program_of x)) p → ⊥)
IsBackRefusalOf source p (Paths q) = (x : IsProgram source) × IsAssertion (sites_of (program_of x)) p ×
    HasTooManyPaths (program_of x) x.operations q

-- the assertion is there, and its program has few paths
pub record CanGoBack (source : List ℕ) (p : ℕ) : Type 0 where
  pub program : IsProgram source
  pub asserts : IsAssertion (sites_of (program_of program)) p
  pub few : AreFewPaths (program_of program) program.operations

-- a source that can be gone back over isn't refused
abbrev pub BackOrRefused : Type 0
BackOrRefused = (source : List ℕ) (p : ℕ) (refusal : BackRefusal) → CanGoBack source p →
    IsBackRefusalOf source p refusal → ⊥
