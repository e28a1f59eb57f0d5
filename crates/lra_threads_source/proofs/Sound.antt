-- What is reported about threads holds of all that they do beside each other.
use Rattle.std.proofs.Common.{◌≡◌, ◌∙◌, ◌≤◌, ◌<◌, ◌+◌, ℕ, zero, suc, ℤ, Bool, true, List, [], ◌∷◌, length, get_or, take, inl, inr, refl, sym, ap, subst, arith}
use Rattle.std.proofs.lemmas.Option.{get_or_from_slice_get, same_Some, slice_get-map, slice_get_within}
use Rattle.std.proofs.{lemmas.List.length-map, lemmas.List.Elements.Contains-append_cases, lemmas.List.Sums.sum_by-cons}
use Rattle.std.specs.{List.AllZip, List.Contains, List.sum_by, Prelude.Option, Prelude.Some, Prelude.IsTrue, Prelude.option_map, Prelude.slice_get}
use Rattle.lra_threads_source.proofs.Crates.lra_front_end.Named.{globals_as_many}
use Rattle.lra_threads_source.proofs.Crates.lra_linear_spec.ListPlaces.{contains_at, there_within, flat_map_from}
use Rattle.lra_threads_source.proofs.Crates.lra_linear_spec.Membership.{contains_cases, contains_head, contains_none, map_from}
use Rattle.lra_threads_source.specs.Crates.lra_interleavings.Interleavings.{AtThread, FailsThread, ThreadWritesValue, OutOfBoundsThread}
use Rattle.lra_threads_source.specs.Crates.lra_report_build.AnalysisResults.{access_verdicts, access_verdicts_at, site_at, state_of, verdict_at}
use Rattle.lra_threads_source.specs.Crates.lra_resolution_spec.Threads.{thread_places, thread_program}
use Rattle.lra_threads_source.specs.Crates.lra_threads_fixpoint.Interference.{interval_at, threads_interference}
use Rattle.lra_threads_source.specs.Crates.{lra_base.declared.refusals.Place.Place, lra_box.Abstraction.box_abstraction, lra_box.Content.BoxContent, lra_box.declared.interval.Interval.Interval}
use Rattle.lra_threads_source.specs.Crates.{lra_front_end.Claims.IsProgramTree, lra_operations.Agree.IsInlinedTree, lra_operations.Agree.point_of, lra_operations.Tree.Node}
use Rattle.lra_threads_source.specs.Crates.{lra_program.Program.Function, lra_program.Program.Program, lra_program.ProgramViews.function_or, lra_program.Sites.Site, lra_program.Sites.sites_of}
use Rattle.lra_threads_source.specs.Crates.{lra_report_build.Shown.shown_state, lra_resolution_spec.LiveNames.globals_named, lra_resolution_spec.Resolve.resolved_functions, lra_syntax.Labels.Labelled}
use Rattle.lra_threads_source.specs.Crates.{lra_syntax.Labels.labels_of, lra_syntax.Trees.FileTree, lra_threads_fixpoint.Rounds.ThreadsFixpoint}
use Rattle.lra_report.specs.declared.verdict_kinds.VerdictKind.TheVariants.{Assertion, Access}
use Rattle.lra_report.specs.{Listing.listed_verdict, Report.InvariantHolds, Report.Invariant, Report.PointReport, Report.Verdict, declared.verdict_kinds.VerdictKind.VerdictKind}
use Rattle.lra_analyse_source.proofs.{Handing.image_of, Reports.listed_length}
use Rattle.lra_threads_analysis.specs.Found.{IsThreadResultOf, thread_finding, access_verdicts_of, thread_values, verdicts_of}
use Rattle.lra_threads_analysis.specs.{Interleaved.HoldsInterleaved, declared.found.ThreadResult.ThreadResult}
use Rattle.lra_threads_source.specs.Listed.{AreListedAlone, ShowsPoints, accesses_alone, assertions_alone, number_in, point_in_thread, points_before, reported_points, one_by_one, thread_place}
use Rattle.lra_threads_source.specs.Listed.{thread_sites, verdict_in_thread, reported_verdicts, reported_write, reported_writes}
use Rattle.lra_threads_source.specs.ThreadsReports.{BreaksThread, HoldsInInterleavings, IsPointOf, IsThreadsReportOf, IsReportedWrite, ThreadsAreSound, shared_program, thread_functions, threads_plan}
use Rattle.lra_threads_source.specs.ThreadsText.{ThreadsReport, Writes}
use Rattle.lra_threads_source.proofs.InTurn.{first_at, first_from, first_has, same_turn, sizes_from}
use Rattle.lra_threads_source.proofs.{FlaggedPoints.all_end_found, FlaggedPoints.told_low, FlaggedPoints.verdict_low, Readying.zip_at, Readying.zip_long, Readying.zip_unmapped}

-- lists --------------------------------------------------------------------------------------------------------------

-- numbers ------------------------------------------------------------------------------------------------------------

-- how many points the k-th thread has
abbrev size_of : FileTree → ℕ → ℕ
size_of t k = length (thread_sites t k)

sums_by_turn : (t : FileTree) (j : ℕ) (places : List ℕ) → ((i : ℕ) → i < length places → get_or places i 0 ≡ thread_place t (j + i)) → (k : ℕ) → k ≤ length places
    → sum_by (λ (p : ℕ). length (sites_of (thread_program t p))) (take k places) ≡ sizes_from (size_of t) j k
sums_by_turn t j places same zero few = refl
sums_by_turn t j [] same (suc k) few = absurd (omega (arith, few))
sums_by_turn t j (place ∷ places) same (suc k) few =
    let whole = sum_by-cons (λ (p : ℕ). length (sites_of (thread_program t p))) place (take k places) in
    let here : place ≡ thread_place t j = same 0 (omega arith) ∙ ap (thread_place t) (omega arith) in
    let first = ap (λ (p : ℕ). length (sites_of (thread_program t p))) here in
    let rest = sums_by_turn t (suc j) places (λ i low. same (suc i) (omega (arith, low)) ∙ ap (thread_place t) (omega arith)) k (omega (arith, few)) in
    omega (arith, whole, first, rest)

pub before_by_turn : (t : FileTree) (k : ℕ) → k ≤ length (thread_places t) → points_before t k ≡ sizes_from (size_of t) 0 k
before_by_turn t k few = sums_by_turn t 0 (thread_places t) (λ i low. ap (thread_place t) (omega arith)) k few

-- points -------------------------------------------------------------------------------------------------------------

module _ (t : FileTree) (end : ThreadsFixpoint ThreadResult) (holds : HoldsInterleaved (shared_program t) (thread_functions t) end) where
  function_at : (k : ℕ) → k < length (thread_places t) → slice_get (thread_functions t) k ≡ Some (function_or (slice_get (resolved_functions t) (thread_place t k)))
  function_at k low =
      let (place, there) = there_within (thread_places t) k low in
      slice_get-map (λ (p : ℕ). function_or (slice_get (resolved_functions t) p)) (thread_places t) k
      ∙ ap (option_map (λ (p : ℕ). function_or (slice_get (resolved_functions t) p))) there
      ∙ ap (λ (p : ℕ). Some (function_or (slice_get (resolved_functions t) p))) (sym (get_or_from_slice_get (thread_places t) k place 0 there))

  -- the state that is shown of a thread alone
  alone_holds : (k q : ℕ) (s : Site) (found : ThreadResult) (v : BoxContent) (ps : List PointReport) (p : PointReport) (store : List ℤ)
      → AreListedAlone t k found ps → slice_get (thread_values found) q ≡ Some v → slice_get ps q ≡ Some p → box_abstraction.gamma v store →
      InvariantHolds p.state store
  alone_holds k q s found v ps p store alone value there has =
      let state : Some p.state ≡ Some (shown_state box_abstraction v) =
      sym (slice_get-map state_of ps q ∙ ap (option_map state_of) there) ∙ ap (λ (l : List Invariant). slice_get l q) alone.states
      ∙ slice_get-map (shown_state box_abstraction) (thread_values found) q ∙ ap (option_map (shown_state box_abstraction)) value in
      subst (λ (x : Invariant). InvariantHolds x store) (sym (same_Some p.state (shown_state box_abstraction v) state))
      ((alone.are_shown v (contains_at (thread_values found) q v value)).holds store has)

  pub points_hold : (points : List PointReport) → length end.found ≡ length (thread_places t) → ShowsPoints t end.found points → (k q : ℕ) (s : Site) (x : PointReport)
      (store : List ℤ) → IsPointOf t k q s
      → slice_get points (points_before t k + q) ≡ Some x → AtThread (shared_program t) (thread_functions t) k (point_of s) store → InvariantHolds x.state store
  points_hold points many shows k q s x store is there at =
      let (found, is_found, v, value, has, dims) =
      holds.stores k q (function_or (slice_get (resolved_functions t) (thread_place t k))) s store (function_at k is.is_thread) is.is_point at in
      let low = slice_get_within end.found k found is_found in
      let as_many = shows.as_many in
      let (ps, is_alone) = there_within shows.alone k (omega (arith, low, as_many)) in
      let alone = shows.are_listed k found ps is_found is_alone in
      let inside : q < length (thread_sites t k) = slice_get_within (thread_sites t k) q s is.is_point in
      let place : points_before t k + q ≡ sizes_from (size_of t) 0 k + q =
      ap (λ (n : ℕ). n + q) (before_by_turn t k (let below = is.is_thread in omega (arith, below))) in
      let told : slice_get (reported_points t k ps) q ≡ Some x =
      sym (first_at (reported_points t) (size_of t) shows.alone sizes k ps is_alone q inside)
      ∙ ap (λ (n : ℕ). slice_get (one_by_one (reported_points t) 0 shows.alone) n) (sym place)
      ∙ ap (λ (l : List PointReport). slice_get l (points_before t k + q)) (sym shows.all) ∙ there in
      let (p, here, same) = image_of (point_in_thread (points_before t k) (suc k)) ps q x told in
      subst (λ (y : PointReport). InvariantHolds y.state store) same (alone_holds k q s found v ps p store alone value here has)
    where
      sizes : (i : ℕ) (y : List PointReport) → slice_get shows.alone i ≡ Some y → length (reported_points t i y) ≡ length (thread_sites t i)
      sizes i y here =
          let below = slice_get_within shows.alone i y here in
          let as_many = shows.as_many in
          let (found, is_found) = there_within end.found i (omega (arith, below, as_many)) in
          length-map y (point_in_thread (points_before t i) (suc i))
          ∙ listed_length (globals_named t.parts) (labels_of t) 1 (thread_sites t i) y (shows.are_listed i found y is_found here).listed

-- verdicts -----------------------------------------------------------------------------------------------------------

access_from : (ls : List Labelled) (number : ℕ) (site : Site) (m : ℕ) (js : List (Place × Bool)) (u : Verdict) → Contains (access_verdicts ls number site m js) u
    → (n : ℕ) × (j : Place × Bool) × (slice_get js n ≡ Some j) ×
    (listed_verdict ls (record { kind = Access; number = number; site = site; which = m + n; place = j.0 }) j.1 ≡ u)
access_from ls number site m [] u among = absurd (contains_none u among)
access_from ls number site m (j ∷ js) u among = elim (contains_cases _ u (access_verdicts ls number site (suc m) js) among) [
  | inl same ↦
      (0, j, refl, ap (λ (w : ℕ). listed_verdict ls (record { kind = Access; number = number; site = site; which = w; place = j.0 }) j.1) (omega arith) ∙ same)
  | inr later ↦
      let (n, i, there, same) = access_from ls number site (suc m) js u later in (
        suc n,
        i,
        there,
        ap (λ (w : ℕ). listed_verdict ls (record { kind = Access; number = number; site = site; which = w; place = i.0 }) i.1) (omega arith) ∙ same,
      )
]

from_nought : (n : ℕ) → 0 + n ≡ n
from_nought n = omega arith

module _ (delay narrow : ℕ) (source : List ℕ) (r : ThreadsReport) (x : IsThreadsReportOf delay narrow source r) where
  abbrev t : FileTree
  t = x.program.tree

  abbrev P : Program
  P = shared_program t

  abbrev fs : List Function
  fs = thread_functions t

  abbrev IsTree : ℕ → Node → Type 0
  IsTree place = IsProgramTree (thread_program t place)

  trees : AllZip IsTree (thread_places t) x.program.operations
  trees = zip_unmapped IsProgramTree (thread_program t) (thread_places t) x.program.operations x.program.are_graphs

  pub tree_at : (k : ℕ) (g : Node) → slice_get x.program.operations k ≡ Some g
      → (k < length (thread_places t)) × IsInlinedTree (thread_program t (thread_place t k)) g
  tree_at k g there =
      let (place, at, graph) = zip_at IsTree (thread_places t) x.program.operations k g trees there in (
        slice_get_within (thread_places t) k place at,
        subst (λ (p : ℕ). IsInlinedTree (thread_program t p) g) (sym (get_or_from_slice_get (thread_places t) k place 0 at)) graph.0,
      )

  pub many_found : length x.end.found ≡ length (thread_places t)
  many_found =
      (all_end_found thread_finding (length P.globals) (length x.program.operations) (IsThreadResultOf (threads_plan delay narrow x.constants) P x.program.operations) x.end
      x.rounds).all ∙ sym (zip_long IsTree (thread_places t) x.program.operations trees)

  module _ (j : ℕ) (found : ThreadResult) (there : slice_get x.end.found j ≡ Some found) where
    is_found : IsThreadResultOf (threads_plan delay narrow x.constants) P x.program.operations j (threads_interference (length P.globals) j x.end.table) found
    is_found =
        (all_end_found thread_finding (length P.globals) (length x.program.operations) (IsThreadResultOf (threads_plan delay narrow x.constants) P x.program.operations) x.end
        x.rounds).each j found there

    verdict_inside : (q : ℕ) (b : Bool) → Contains (verdicts_of found) (q, b) → q < length (thread_sites t j)
    verdict_inside q b =
        let (g, at, is) = is_found in
        verdict_low (threads_interference (length P.globals) j x.end.table) (threads_plan delay narrow x.constants) P (thread_program t (thread_place t j)) g
        (tree_at j g at).1 found is q b

    told_inside : (q : ℕ) (js : List (Place × Bool)) → Contains (access_verdicts_of found) (q, js) → q < length (thread_sites t j)
    told_inside q js =
        let (g, at, is) = is_found in
        told_low (threads_interference (length P.globals) j x.end.table) (threads_plan delay narrow x.constants) P (thread_program t (thread_place t j)) g
        (tree_at j g at).1 found is q js

    -- a number reports its thread and point
    own_number : (p k q : ℕ) (s : Site) → p < length (thread_sites t j) → IsPointOf t k q s → points_before t j + suc p ≡ number_in t k q → (j ≡ k) × (p ≡ q)
    own_number p k q s low is same =
        let within = slice_get_within x.end.found j found there in
        let many = many_found in
        let below = is.is_thread in
        let left = before_by_turn t j (omega (arith, within, many)) in
        let right = before_by_turn t k (omega (arith, below)) in
        same_turn (size_of t) j k p q low (slice_get_within (thread_sites t k) q s is.is_point) (omega (arith, same, left, right))

    assertion_right : (p : ℕ) (b : Bool) → Contains (verdicts_of found) (p, b) → (k q : ℕ) (s : Site) → IsPointOf t k q s
        → points_before t j + suc p ≡ number_in t k q → IsTrue b → FailsThread P fs k (point_of s) → ⊥
    assertion_right p b listed k q s is same proved =
        let own = own_number p k q s (verdict_inside p b listed) is same in
        x.holds.proved k q (function_or (slice_get (resolved_functions t) (thread_place t k))) s found (function_at t x.end x.holds k is.is_thread) is.is_point
        (subst (λ (n : ℕ). slice_get x.end.found n ≡ Some found) own.0 there)
        (subst (λ (n : ℕ). Contains (verdicts_of found) (n, true)) own.1 (subst (λ (c : Bool). Contains (verdicts_of found) (p, c)) proved listed))

    access_right : (p n : ℕ) (js : List (Place × Bool)) (place : Place) (b : Bool) → Contains (access_verdicts_of found) (p, js) →
        slice_get js n ≡ Some (place, b)
        → (k q : ℕ) (s : Site) → IsPointOf t k q s
        → points_before t j + suc p ≡ number_in t k q → IsTrue b → OutOfBoundsThread P fs k (point_of s) n → ⊥
    access_right p n js place b listed here k q s is same inside =
        let own = own_number p k q s (told_inside p js listed) is same in
        x.holds.inside k q (function_or (slice_get (resolved_functions t) (thread_place t k))) s found js n place (function_at t x.end x.holds k is.is_thread)
        is.is_point (subst (λ (m : ℕ). slice_get x.end.found m ≡ Some found) own.0 there)
        (subst (λ (m : ℕ). Contains (access_verdicts_of found) (m, js)) own.1 listed) (subst (λ (c : Bool). slice_get js n ≡ Some (place, c)) inside here)

  -- what is said of a verdict at a point
  abbrev IsRightAt : ℕ → ℕ → Site → Verdict → Type 0
  IsRightAt k q s v = v.number ≡ number_in t k q → IsTrue v.holds → BreaksThread v.kind P fs k (point_of s) v.which → ⊥

  right_by : (v : Verdict) (kind : VerdictKind) (number which : ℕ) (holds : Bool) (k q : ℕ) (s : Site) → v.kind ≡ kind → v.number ≡ number → v.which ≡ which
      → v.holds ≡ holds → (number ≡ number_in t k q → IsTrue holds → BreaksThread kind P fs k (point_of s) which → ⊥) → IsRightAt k q s v
  right_by v kind number which holds k q s is_kind is_number is_which is_holds right same proved breaks =
      right (sym is_number ∙ same) (subst IsTrue is_holds proved)
      (subst (λ (a : VerdictKind). BreaksThread a P fs k (point_of s) which) is_kind
      (subst (λ (n : ℕ). BreaksThread v.kind P fs k (point_of s) n) is_which breaks))

  -- a verdict that is reported about the j-th thread, by the same verdict alone
  told_right : (j : ℕ) (u v : Verdict) (kind : VerdictKind) (p which : ℕ) (holds : Bool) (k q : ℕ) (s : Site)
      → verdict_in_thread (points_before t j) (suc j) u ≡ v → u.kind ≡ kind → u.number ≡ suc p → u.which ≡ which → u.holds ≡ holds
      → (points_before t j + suc p ≡ number_in t k q → IsTrue holds → BreaksThread kind P fs k (point_of s) which → ⊥) → IsRightAt k q s v
  told_right j u v kind p which holds k q s same is_kind is_number is_which is_holds =
      right_by v kind (points_before t j + suc p) which holds k q s
      (sym (ap (λ (y : Verdict). y.kind) same) ∙ is_kind)
      (sym (ap (λ (y : Verdict). y.number) same) ∙ ap (λ (n : ℕ). points_before t j + n) is_number)
      (sym (ap (λ (y : Verdict). y.which) same) ∙ is_which)
      (sym (ap (λ (y : Verdict). y.holds) same) ∙ is_holds)

  asserted_right : (k q : ℕ) (s : Site) (v : Verdict) → IsPointOf t k q s → Contains (one_by_one (reported_verdicts t assertions_alone) 0 x.end.found) v → IsRightAt k q s v
  asserted_right k q s v is asserted =
      let (j, found, there, told) = first_from (reported_verdicts t assertions_alone) x.end.found v asserted in
      let (u, one, same) = map_from (verdict_in_thread (points_before t j) (suc j)) (assertions_alone t j found) v told in
      let (w, among, so) = map_from (verdict_at (labels_of t) (thread_sites t j) Assertion) (verdicts_of found) u one in
      told_right j u v Assertion w.0 0 w.1 k q s same (sym (ap (λ (y : Verdict). y.kind) so)) (sym (ap (λ (y : Verdict). y.number) so))
      (sym (ap (λ (y : Verdict). y.which) so)) (sym (ap (λ (y : Verdict). y.holds) so)) (assertion_right j found there w.0 w.1 among k q s is)

  accessed_right : (k q : ℕ) (s : Site) (v : Verdict) → IsPointOf t k q s → Contains (one_by_one (reported_verdicts t accesses_alone) 0 x.end.found) v → IsRightAt k q s v
  accessed_right k q s v is accessed =
      let (j, found, there, told) = first_from (reported_verdicts t accesses_alone) x.end.found v accessed in
      let (u, one, same) = map_from (verdict_in_thread (points_before t j) (suc j)) (accesses_alone t j found) v told in
      let (w, among, part) = flat_map_from (access_verdicts_at (labels_of t) (thread_sites t j)) (access_verdicts_of found) u one in
      let (n, i, here, so) = access_from (labels_of t) (suc w.0) (site_at (thread_sites t j) w.0) 0 w.1 u part in
      told_right j u v Access w.0 n i.1 k q s same (sym (ap (λ (y : Verdict). y.kind) so)) (sym (ap (λ (y : Verdict). y.number) so))
      (sym (ap (λ (y : Verdict). y.which) so) ∙ from_nought n) (sym (ap (λ (y : Verdict). y.holds) so))
      (access_right j found there w.0 n w.1 i.0 i.1 among here k q s is)

  verdicts_right : (k q : ℕ) (s : Site) (v : Verdict) → IsPointOf t k q s → Contains r.verdicts v → IsRightAt k q s v
  verdicts_right k q s v is listed =
      elim (Contains-append_cases (one_by_one (reported_verdicts t assertions_alone) 0 x.end.found)
      (one_by_one (reported_verdicts t accesses_alone) 0 x.end.found) v
      (subst (λ (l : List Verdict). Contains l v) x.shows.verdicts listed))
      [ inl asserted ↦ asserted_right k q s v is asserted | inr accessed ↦ accessed_right k q s v is accessed ]

  -- what is written --------------------------------------------------------------------------------------------------

  told_write : (k : ℕ) (name : List ℕ) (i : Option Interval) (interval : Interval) → i ≡ Some interval
      → Contains (reported_write k name i) (record { thread = suc k; name = name; low = interval.low; high = interval.high })
  told_write k name i interval is =
      subst (λ (o : Option Interval). Contains (reported_write k name o) (record { thread = suc k; name = name; low = interval.low; high = interval.high })) (sym is)
      (contains_head (record { thread = suc k; name = name; low = interval.low; high = interval.high }) [])

  writes_hold : (k y : ℕ) (z : ℤ) → ThreadWritesValue P fs k y z → IsReportedWrite t r k y z
  writes_hold k y z gives =
      let (row, is_row, (interval, is_interval, within)) = x.holds.gives k y z gives in
      let below = gives.global in
      let as_many = globals_as_many t.parts in
      let (name, named) = there_within (globals_named t.parts) y (omega (arith, below, as_many)) in
      record {
        name = name;
        is_named = named;
        writes = record { thread = suc k; name = name; low = interval.low; high = interval.high };
        is_listed = subst (λ (l : List Writes). Contains l (record { thread = suc k; name = name; low = interval.low; high = interval.high })) (sym x.shows.writes)
            (first_has (reported_writes (globals_named t.parts)) x.end.table k row _ is_row
            (first_has (λ (m : ℕ) (n : List ℕ). reported_write k n (interval_at m row)) (globals_named t.parts) y name _ named
            (told_write k name (interval_at y row) interval is_interval)));
        thread = refl;
        own_name = refl;
        within = within;
      }

  sound : HoldsInInterleavings t r
  sound = record {
    states = points_hold t x.end x.holds r.points many_found x.shows.points;
    verdicts = verdicts_right;
    writes = writes_hold;
  }

pub threads_sound : ThreadsAreSound
threads_sound = sound
