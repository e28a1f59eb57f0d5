-- What rounds find of threads, as one report lists it. Threads, and the points of each, are counted from 0 here; a
-- report's numbers are one more, and the points of a thread count on after those of the threads before it.
use Rattle.std.specs.Prelude.{◌≡◌, ◌+◌, ℕ, suc, List, [], ◌∷◌, ◌++◌, length, map, take, drop, codes, Option, None, Some}
use Rattle.std.specs.{Fmt.decimal, List.flat_map, List.sum_by, Prelude.option_map, Prelude.slice_get, Prelude.get_or}
use Rattle.lra_threads_source.specs.Crates.lra_box.Abstraction.{box_abstraction}
use Rattle.lra_threads_source.specs.Crates.lra_program.Sites.{Site, sites_of}
use Rattle.lra_threads_source.specs.Crates.lra_report_build.AnalysisResults.{access_verdicts_at, state_of, verdict_at}
use Rattle.lra_threads_source.specs.Crates.lra_report_build.Shown.{AreShown, shown_state}
use Rattle.lra_threads_source.specs.Crates.lra_resolution_spec.Threads.{thread_places, thread_program}
use Rattle.lra_threads_source.specs.Crates.lra_threads_fixpoint.Intervals.{IntervalRow, IntervalTable}
use Rattle.lra_threads_source.specs.Crates.lra_threads_fixpoint.Rounds.{ThreadsFixpoint}
use Rattle.lra_threads_source.specs.Crates.{lra_box.declared.interval.Interval.Interval}
use Rattle.lra_threads_source.specs.Crates.{lra_options.declared.options.Domain.TheVariants.Box}
use Rattle.lra_threads_source.specs.Crates.{lra_resolution_spec.LiveNames.globals_named, lra_syntax.Labels.labels_of}
use Rattle.lra_threads_source.specs.Crates.{lra_syntax.Trees.FileTree, lra_threads_fixpoint.Interference.interval_at}
use Rattle.lra_report.specs.Report.{PointReport, Verdict}
use Rattle.lra_report.specs.{Listing.AreListed, declared.verdict_kinds.VerdictKind.TheVariants.Assertion}
use Rattle.lra_threads_analysis.specs.Found.{access_verdicts_of, thread_values, verdicts_of}
use Rattle.lra_threads_analysis.specs.declared.found.ThreadResult.{ThreadResult}
use Rattle.lra_threads_source.specs.ThreadsText.{ThreadsReport, Writes}

-- what is reported about each of these, the one after the other; the first of them is the k-th
abbrev pub one_by_one : {A B : Type 0} → (ℕ → A → List B) → ℕ → List A → List B
one_by_one tell k [] = []
one_by_one tell k (x ∷ xs) = tell k x ++ one_by_one tell (suc k) xs

-- where the k-th thread's function stands
abbrev pub thread_place : FileTree → ℕ → ℕ
thread_place t k = get_or (thread_places t) k 0

-- the points of the k-th thread
abbrev pub thread_sites : FileTree → ℕ → List Site
thread_sites t k = sites_of (thread_program t (thread_place t k))

-- how many points the threads before the k-th have
abbrev pub points_before : FileTree → ℕ → ℕ
points_before t k = sum_by (λ place. length (sites_of (thread_program t place))) (take k (thread_places t))

-- the number of the k-th thread's point q
abbrev pub number_in : FileTree → ℕ → ℕ → ℕ
number_in t k q = points_before t k + suc q

-- what is reported about one thread --------------------------------------------------------------------------------

-- so what was found of the k-th thread is listed as that of its program alone: each point with the state that shows the
-- value there
pub record AreListedAlone (t : FileTree) (k : ℕ) (found : ThreadResult) (points : List PointReport) : Type 0 where
  pub listed : AreListed (globals_named t.parts) (labels_of t) 1 (thread_sites t k) points
  pub states : map state_of points ≡ map (shown_state box_abstraction) (thread_values found)
  pub are_shown : AreShown box_abstraction Box (shown_state box_abstraction) (thread_values found)

abbrev pub assertions_alone : FileTree → ℕ → ThreadResult → List Verdict
assertions_alone t k found = map (verdict_at (labels_of t) (thread_sites t k) Assertion) (verdicts_of found)

abbrev pub accesses_alone : FileTree → ℕ → ThreadResult → List Verdict
accesses_alone t k found = flat_map (access_verdicts_at (labels_of t) (thread_sites t k)) (access_verdicts_of found)

-- the k-th thread gives the global of this name values of this interval; none if no write to it was found
abbrev pub reported_write : ℕ → List ℕ → Option Interval → List Writes
reported_write k name None = []
reported_write k name (Some i) = record { thread = suc k; name = name; low = i.low; high = i.high } ∷ []

-- global by global
abbrev pub reported_writes : List (List ℕ) → ℕ → IntervalRow → List Writes
reported_writes names k row = one_by_one (λ x name. reported_write k name (interval_at x row)) 0 names

-- one thread after the other ---------------------------------------------------------------------------------------

-- a path of the thread of this number, from 1, begins with its name, and not with `main`
abbrev pub thread_path : ℕ → List ℕ → List ℕ
thread_path thread path = codes "t" ++ decimal thread ++ drop (length (codes "main")) path

-- numbers count on after the points of the threads before
abbrev pub point_in_thread : ℕ → ℕ → PointReport → PointReport
point_in_thread before thread p = record p { number = before + p.number; path = thread_path thread p.path }

abbrev pub verdict_in_thread : ℕ → ℕ → Verdict → Verdict
verdict_in_thread before thread v = record v { number = before + v.number; path = thread_path thread v.path }

abbrev pub reported_points : FileTree → ℕ → List PointReport → List PointReport
reported_points t k points = map (point_in_thread (points_before t k) (suc k)) points

abbrev pub reported_verdicts : FileTree → (FileTree → ℕ → ThreadResult → List Verdict) → ℕ → ThreadResult → List Verdict
reported_verdicts t alone k found = map (verdict_in_thread (points_before t k) (suc k)) (alone t k found)

-- reports ----------------------------------------------------------------------------------------------------------

-- the points of all threads are listed, each thread's as those of its program alone and then after those of the
-- threads before it
pub record ShowsPoints (t : FileTree) (found : List ThreadResult) (points : List PointReport) : Type 0 where
  pub alone : List (List PointReport)
  pub as_many : length alone ≡ length found
  pub are_listed : (k : ℕ) (one : ThreadResult) (ps : List PointReport) → slice_get found k ≡ Some one →
      slice_get alone k ≡ Some ps → AreListedAlone t k one ps
  pub all : points ≡ one_by_one (reported_points t) 0 alone

-- of all their assertions, and then of all their accesses
abbrev pub all_verdicts : FileTree → List ThreadResult → List Verdict
all_verdicts t found = one_by_one (reported_verdicts t assertions_alone) 0 found ++
    one_by_one (reported_verdicts t accesses_alone) 0 found

abbrev pub all_writes : FileTree → IntervalTable → List Writes
all_writes t table = one_by_one (reported_writes (globals_named t.parts)) 0 table

-- what rounds end with, shown of the threads of a source with this tree: their points, what is judged of them, the
-- settled intervals, and the first flagged point
pub record ShowsThreads (t : FileTree) (end : ThreadsFixpoint ThreadResult) (r : ThreadsReport) : Type 0 where
  pub count : r.count ≡ length (thread_places t)
  pub points : ShowsPoints t end.found r.points
  pub verdicts : r.verdicts ≡ all_verdicts t end.found
  pub writes : r.writes ≡ all_writes t end.table
  pub flag : r.flagged ≡ option_map (λ (f : ℕ × ℕ). number_in t f.0 f.1) end.flag
