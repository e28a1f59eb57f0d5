-- What an analysis hands over: a state for each point, a verdict for each assertion, if it is asked what fits one
-- for each point at which something is computed, and for each point at which arrays are accessed what is reported about
-- its accesses. Points are numbered from 0 here.
use Rattle.std.specs.List.{AllByRecursion, flat_map}
use Rattle.std.specs.Prelude.{◌≡◌, ◌<◌, ℕ, suc, Bool, false, List, [], length, Some, slice_get, slice_index_or, IsTrue}
use Rattle.std.specs.Prelude.{true, map, ◌++◌, ◌∷◌, Contains}
use Rattle.lra_report.specs.Listing.{HasWidth, computes_at, accesses_at, accesses_any_at, subject, listed_verdict}
use Rattle.lra_report.specs.Report.{Invariant, PointReport, Verdict}
use Rattle.lra_report.specs.declared.verdict_kinds.VerdictKind.{VerdictKind}
use Rattle.lra_report.specs.declared.verdict_kinds.VerdictKind.TheVariants.{Assertion, Fit, Access}
use Rattle.lra_report_build.specs.Crates.lra_program.Assertions.{IsAssertion}
use Rattle.lra_report_build.specs.Crates.{lra_base.declared.refusals.Place.Place, lra_operations.Tree.Node}
use Rattle.lra_report_build.specs.Crates.{lra_program.Program.Element, lra_program.Sites.Site}
use Rattle.lra_syntax.specs.Labels.{Labelled}

-- as many states as points, each part with a number for each variable that lives there
pub record AreInvariants (sites : List Site) (states : List Invariant) : Type 0 where
  pub as_many : length states ≡ length sites
  pub wide : (q : ℕ) (s : Site) (state : Invariant) → slice_get sites q ≡ Some s → slice_get states q ≡ Some state →
      AllByRecursion (HasWidth s.live) state

-- one verdict for each point of which this is so, in order: its number, and what the verdict is
pub record AreVerdictsOn {A : Type 0} (is_so : ℕ → Type 0) (verdicts : List (ℕ × A)) : Type 0 where
  pub of_these : (q : ℕ) (holds : A) → Contains verdicts (q, holds) → is_so q
  pub of_all : (q : ℕ) → is_so q → (holds : A) × Contains verdicts (q, holds)
  pub in_order : (i j : ℕ) (a b : ℕ × A) → i < j → slice_get verdicts i ≡ Some a → slice_get verdicts j ≡ Some b →
      a.0 < b.0

-- one for each assertion
abbrev pub AreVerdicts : List Site → List (ℕ × Bool) → Type 0
AreVerdicts sites verdicts = AreVerdictsOn (IsAssertion sites) verdicts

-- at the point of this number the tree computes something
abbrev pub IsComputing : Node → List Site → ℕ → Type 0
IsComputing g sites q = (s : Site) × (slice_get sites q ≡ Some s) × IsTrue (computes_at g q)

-- one for each of these points, if it is asked for; else none
abbrev pub AreFitting : Bool → Node → List Site → List (ℕ × Bool) → Type 0
AreFitting true g sites fitting = AreVerdictsOn (IsComputing g sites) fitting
AreFitting false g sites fitting = fitting ≡ []

-- at the point of this number the tree accesses arrays
abbrev pub IsAccessing : Node → List Site → ℕ → Type 0
IsAccessing g sites q = (s : Site) × (slice_get sites q ≡ Some s) × IsTrue (accesses_any_at g q)

-- at each of these points, of each access in its order the place where its array is named, and whether it is inside
pub record AreAccessVerdicts (g : Node) (sites : List Site) (inside : List (ℕ × List (Place × Bool))) : Type 0 where
  pub verdicts : AreVerdictsOn (IsAccessing g sites) inside
  pub places : (q : ℕ) (js : List (Place × Bool)) → Contains inside (q, js) →
      map (λ (j : Place × Bool). j.0) js ≡ map (λ (x : Element). x.place) (accesses_at g q)

abbrev pub state_of : PointReport → Invariant
state_of p = p.state

-- a verdict as a report shows it, if points are numbered from 1: the kind, the point, which of the kind there, and
-- whether it holds
abbrev pub ReportedVerdict : Type 0
ReportedVerdict = VerdictKind × ℕ × ℕ × Bool

-- of a kind of which a point has one
abbrev pub reported_verdict : VerdictKind → ℕ × Bool → ReportedVerdict
reported_verdict kind v = (kind, suc v.0, 0, v.1)

-- on the accesses of a point, from the n-th on
abbrev pub reported_from : ℕ → ℕ → List (Place × Bool) → List ReportedVerdict
reported_from number n [] = []
reported_from number n (j ∷ js) = (Access, number, n, j.1) ∷ reported_from number (suc n) js

abbrev pub reported_accesses : ℕ × List (Place × Bool) → List ReportedVerdict
reported_accesses v = reported_from (suc v.0) 0 v.1

-- all of them in order
abbrev pub reported_all : List (ℕ × Bool) → List (ℕ × Bool) → List (ℕ × List (Place × Bool)) → List ReportedVerdict
reported_all assertions fitting inside =
    map (reported_verdict Assertion) assertions
    ++ (map (reported_verdict Fit) fitting ++ flat_map reported_accesses inside)

abbrev pub reported_of : Verdict → ReportedVerdict
reported_of v = (v.kind, v.number, v.which, v.holds)

-- the point of a number
abbrev pub site_at : List Site → ℕ → Site
site_at sites q = slice_index_or sites q (record { path = []; label = 0; live = 0; asserts = false })

-- the verdict of a kind on the point of a number
abbrev pub verdict_at : List Labelled → List Site → VerdictKind → ℕ × Bool → Verdict
verdict_at ls sites kind v = listed_verdict ls (subject ls kind (suc v.0) (site_at sites v.0)) v.1

-- the verdicts on the accesses of a point, from the n-th on
abbrev pub access_verdicts : List Labelled → ℕ → Site → ℕ → List (Place × Bool) → List Verdict
access_verdicts ls number site n [] = []
access_verdicts ls number site n (j ∷ js) =
    listed_verdict ls (record { kind = Access; number = number; site = site; which = n; place = j.0 }) j.1 ∷
    access_verdicts ls number site (suc n) js

abbrev pub access_verdicts_at : List Labelled → List Site → ℕ × List (Place × Bool) → List Verdict
access_verdicts_at ls sites v = access_verdicts ls (suc v.0) (site_at sites v.0) 0 v.1
