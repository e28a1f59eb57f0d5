-- What is found of a program and what is said of its source.
use Rattle.std.proofs.Common.{◌≡◌, ◌↔◌, ◌<◌, ◌^◌, ℕ, ℤ, suc, Bool, true, List, length, map, refl, ap, sym, subst, arith}
use Rattle.std.proofs.{lemmas.List.length-map, lemmas.Result.err_from_is_err_and}
use Rattle.std.specs.Prelude.{Option, Some, Result, Ok, Err, IfOk, IfErr, IsErrAnd, option_map}
use Rattle.lra_back_source.specs.Crates.lra_back.BackwardAnalysis.{AreWide, IsBackwardAnalysis, NothingLeftAtStart}
use Rattle.lra_back_source.specs.Crates.lra_front_end.Stages.{HasTree, HasInlinedTree, HasConstants}
use Rattle.lra_back_source.specs.Crates.{lra_back.Operations.lossy_back_operations, lra_back.declared.analysis.BackFailure.BackFailure, lra_linear_spec.Polyhedra.Polyhedron, lra_operations.Tree.Node}
use Rattle.lra_back_source.specs.Crates.{lra_operations.TreeViews.site_view, lra_paths.Paths.AreFewIn, lra_paths.Paths.HasTooManyIn, lra_poly_domain.Abstraction.polyhedron_abstraction}
use Rattle.lra_back_source.specs.Crates.{lra_poly_domain.Backward.polyhedron_backward, lra_program.Assertions.IsAssertion, lra_program.Sites.Site}
use Rattle.lra_back_source.specs.Crates.{lra_program.declared.program.GlobalVariable.GlobalVariable, lra_resolution_spec.Resolve.resolve, lra_syntax.Trees.FileTree}
use Rattle.lra_back_source.specs.Crates.lra_operations.declared.tree.Site as declared
use Rattle.lra_report.specs.BackText.{BackReport}
use Rattle.lra_certificate_spec.specs.Claims.{IsProgram}
use Rattle.lra_analyse_source.proofs.ReportSteps.{few_points}
use Rattle.lra_back_source.specs.Crates.lra_back.declared.analysis.BackFailure.TheVariants as of_back
use Rattle.lra_back_source.specs.BackReports.{IsBackReportOf, IsBackRefusalOf, IsBackwardFinding, ShowsAtPoints}
use Rattle.lra_back_source.specs.{Forward.IsForward, Refusals.IfRefusal, Refusals.IsFailure, Refusals.error_by}
use Rattle.lra_back_source.proofs.{Flags.flag_below, Forward.taken}

-- ---- of a program, by its globals and points as they are handed on
module _ (t : FileTree) (g : Node) (sites : List Site) (has : HasInlinedTree t g sites) (globals : List GlobalVariable) (is : (resolve t).globals ≡ globals)
    (constants : List ℤ) (p : ℕ) where
  module _ (forward values : List Polyhedron) (flagged last : Option ℕ) (holds : Bool)
      (traced : IsBackwardAnalysis polyhedron_abstraction polyhedron_backward globals sites g forward flagged p values last) where
    pub retraced : IsForward constants (resolve t) g forward flagged → IsAssertion sites p → AreFewIn globals sites g
        → ((holds ≡ true) ↔ NothingLeftAtStart polyhedron_abstraction globals sites g values) → IsBackwardFinding constants (resolve t) g p values last holds
    retraced ahead asserts few proved = record {
      asserts = subst (λ (T : List Site). IsAssertion T p) has.points asserts;
      few = taken t g sites has globals is (λ gs T. AreFewIn gs T g) few;
      forward = forward;
      flagged = flagged;
      ahead = ahead;
      traced = taken t g sites has globals is (λ gs T. IsBackwardAnalysis polyhedron_abstraction polyhedron_backward gs T g forward flagged p values last)
          traced;
      proved = taken t g sites has globals is (λ gs T. (holds ≡ true) ↔ NothingLeftAtStart polyhedron_abstraction gs T g values) proved;
    }

    pub flag_at : AreWide polyhedron_abstraction sites forward → ((q : ℕ) → flagged ≡ Some q → q < length sites) → (q : ℕ) → last ≡ Some q → q < length sites
    flag_at wide low =
        flag_below (lossy_back_operations polyhedron_abstraction polyhedron_backward) globals sites g forward flagged p values last (length sites) wide.0
        traced.drops low

  pub fails_so : (failure : BackFailure) → (failure ≡ of_back.NoAssertion → IsAssertion sites p → ⊥)
      → ((q : ℕ) → failure ≡ of_back.TooMany q → IsAssertion sites p × HasTooManyIn globals sites g q) → IsFailure (resolve t) g p failure
  fails_so of_back.NoAssertion none many = λ asserts. none refl (subst (λ (T : List Site). IsAssertion T p) (sym has.points) asserts)
  fails_so (of_back.TooMany q) none many =
      let there = many q refl in
      (subst (λ (T : List Site). IsAssertion T p) has.points there.0, taken t g sites has globals is (λ gs T. HasTooManyIn gs T g q) there.1)
  fails_so of_back.Memory none many = tt

  -- of a call's result
  pub failed : {X : Type 0} (r : Result X BackFailure) → (r ≡ Err of_back.NoAssertion → IsAssertion sites p → ⊥)
      → ((q : ℕ) → r ≡ Err (of_back.TooMany q) → IsAssertion sites p × HasTooManyIn globals sites g q) → IfErr r (IsFailure (resolve t) g p)
  failed (Ok x) none many = tt
  failed {X} (Err e) none many =
      fails_so e (λ same. none (ap (λ (f : BackFailure). let err : Result X BackFailure = Err f in err) same))
      (λ q same. many q (ap (λ (f : BackFailure). let err : Result X BackFailure = Err f in err) same))

-- ---- of a source
module _ (source : List ℕ) (t : FileTree) (g : Node) (sites : List Site) (read : HasTree source t) (has : HasInlinedTree t g sites) (p : ℕ) where
  abbrev program : IsProgram source
  program = record { tree = t; read = read; operations = g; sites = sites; graph = has }

  pub told : (constants : List ℤ) (values : List Polyhedron) (last : Option ℕ) (r : BackReport) → HasConstants source constants
      → IsBackwardFinding constants (resolve t) g p values last r.proved → ShowsAtPoints t values r.points → r.number ≡ suc p → r.flagged ≡ option_map suc last
      → IsBackReportOf source p r
  told constants values last r own found shows number flag = record {
    program = program;
    constants = constants;
    own = own;
    values = values;
    last = last;
    found = found;
    shows = shows;
    number = number;
    flag = flag;
  }

  pub refused : (failure : BackFailure) → IsFailure (resolve t) g p failure → IfRefusal (IsBackRefusalOf source p) (error_by failure)
  refused of_back.NoAssertion none = (program, none)
  refused (of_back.TooMany q) many = (program, many.0, many.1)
  refused of_back.Memory none = tt

-- ---- numbers of points
pub small_number : (sites : List declared.Site) (t : FileTree) (g : Node) → HasInlinedTree t g (map site_view sites) → (q : ℕ) → q < length sites →
    suc q < 2 ^ 32
small_number sites t g has q low =
    let few = few_points t g (map site_view sites) has in
    let same = length-map sites site_view in
    omega (arith, few, same, low)

pub listed_number : (sites : List declared.Site) (q : ℕ) → q < length (map site_view sites) → q < length sites
listed_number sites q low = subst (λ (n : ℕ). q < n) (length-map sites site_view) low

pub unlisted_number : (sites : List declared.Site) (q : ℕ) → q < length sites → q < length (map site_view sites)
unlisted_number sites q low = subst (λ (n : ℕ). q < n) (sym (length-map sites site_view)) low

-- ---- calls
-- what each part of a call's result says, together
pub all_found : {X E : Type 0} (A B C D S : X → Type 0) → ((x : X) → A x → B x → C x → D x → S x) → (r : Result X E) → IfOk r A → IfOk r B → IfOk r C
    → IfOk r D → IfOk r S
all_found A B C D S all (Ok x) a b c d = all x a b c d
all_found A B C D S all (Err e) a b c d = tt

pub exit_by : {X E : Type 0} (S : E → Type 0) (r : Result X E) (e : E) → IsErrAnd r (λ d. d ≡ e) → S e → IfErr r S
exit_by S r e is h = let p = err_from_is_err_and r is in rw (p.1, p.2) h
