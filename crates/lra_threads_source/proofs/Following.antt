-- What is listed of a thread alone can come after the points of others: its numbers are those of its points, and its
-- paths begin at `main`.
use Rattle.std.proofs.Common.{◌≡◌, ◌≤◌, ◌<◌, ◌+◌, ◌^◌, ℕ, zero, suc, Bool, List, [], ◌∷◌, ◌++◌, length, map, refl, ap, arith}
use Rattle.std.specs.{List.AllByRecursion, List.flat_map, Prelude.All, Prelude.Vec, declared.alloc.Global.Global}
use Rattle.lra_threads_source.specs.Crates.lra_report_build.AnalysisResults.{access_verdicts, access_verdicts_at, site_at, verdict_at}
use Rattle.lra_threads_source.specs.Crates.{lra_base.AccessVerdicts.reported_view, lra_base.declared.refusals.Place.Place, lra_program.Sites.Site, lra_syntax.Labels.Labelled}
use Rattle.lra_report.specs.declared.verdict_kinds.VerdictKind.TheVariants.{Assertion, Fit}
use Rattle.lra_report.specs.{Listing.AreListed, Report.PointReport, Report.Verdict, declared.verdict_kinds.VerdictKind.VerdictKind}
use Rattle.lra_report.proofs.Every.{every_append}
use Rattle.lra_threads_source.proofs.Crates.lra_report_build.PolyhedronShown.{each_of}
use Rattle.lra_threads_source.specs.Stages.{CanFollow}

-- all that is so of the view of each is so of it
pub all_viewed : {A B : Type 0} (P : B → Type 0) (view : A → B) (xs : List A) → AllByRecursion P (map view xs) → All (λ (x : A). P (view x)) xs
all_viewed P view [] h k d l = absurd (omega (arith, l))
all_viewed P view (x ∷ xs) h zero d l = h.0
all_viewed P view (x ∷ xs) h (suc k) d l = all_viewed P view xs h.1 k d (omega (arith, l))

module _ (before n : ℕ) (few : before + n < 2 ^ 32) where
  abbrev PointFollows : PointReport → Type 0
  PointFollows p = CanFollow before p.number p.path

  abbrev pub VerdictFollows : Verdict → Type 0
  VerdictFollows v = CanFollow before v.number v.path

  pub points_follow : (outside : List (List ℕ)) (ls : List Labelled) (k : ℕ) (ss : List Site) (ps : List PointReport) → k + length ss ≤ suc n
      → AreListed outside ls k ss ps → AllByRecursion PointFollows ps
  points_follow outside ls k [] [] low listed = tt
  points_follow outside ls k [] (p ∷ ps) low listed = absurd listed
  points_follow outside ls k (s ∷ ss) [] low listed = absurd listed
  points_follow outside ls k (s ∷ ss) (p ∷ ps) low listed =
      let number : p.number ≡ k = ap (λ (x : PointReport). x.number) listed.0 in (
        (omega (arith, number, low, few), (_, ap (λ (x : PointReport). x.path) listed.0)),
        points_follow outside ls (suc k) ss ps (omega (arith, low)) listed.2,
      )

  module _ (ls : List Labelled) (sites : List Site) where
    pub verdicts_follow : (kind : VerdictKind) (vs : List (ℕ × Bool)) → AllByRecursion (λ (v : ℕ × Bool). v.0 < n) vs
        → AllByRecursion VerdictFollows (map (verdict_at ls sites kind) vs)
    verdicts_follow kind [] h = tt
    verdicts_follow kind (v ∷ vs) h =
        let low = h.0 in
        ((omega (arith, low, few), (_, refl)), verdicts_follow kind vs h.1)

    accesses_follow : (q : ℕ) (s : Site) (m : ℕ) (js : List (Place × Bool)) → q < n → AllByRecursion VerdictFollows (access_verdicts ls (suc q) s m js)
    accesses_follow q s m [] low = tt
    accesses_follow q s m (j ∷ js) low = ((omega (arith, low, few), (_, refl)), accesses_follow q s (suc m) js low)

    pub told_follow : (vs : List (ℕ × List (Place × Bool))) → AllByRecursion (λ (v : ℕ × List (Place × Bool)). v.0 < n) vs
        → AllByRecursion VerdictFollows (flat_map (access_verdicts_at ls sites) vs)
    told_follow [] h = tt
    told_follow (v ∷ vs) h =
        every_append VerdictFollows (access_verdicts_at ls sites v) (flat_map (access_verdicts_at ls sites) vs)
        (accesses_follow v.0 (site_at sites v.0) 0 v.1 h.0)
        (told_follow vs h.1)

-- what is so of each holds of its view
pub viewed_all : {A B : Type 0} (P : B → Type 0) (view : A → B) (xs : List A) → All (λ (x : A). P (view x)) xs → AllByRecursion P (map view xs)
viewed_all P view [] h = tt
viewed_all P view (x ∷ xs) h = (h 0 x (omega arith), viewed_all P view xs (λ k d l. h (suc k) d (omega (arith, l))))

-- all that is judged of a thread
pub judged_follow : (before n : ℕ) (few : before + n < 2 ^ 32) (ls : List Labelled) (sites : List Site) (asserted fitting : List (ℕ × Bool))
    (inside : List (ℕ × Vec (Place × Bool) Global)) → All (λ (v : ℕ × Bool). v.0 < n) asserted → All (λ (v : ℕ × Bool). v.0 < n) fitting
    → All (λ (v : ℕ × Vec (Place × Bool) Global). v.0 < n) inside
    → AllByRecursion (VerdictFollows before n few) (map (verdict_at ls sites Assertion) asserted ++ (map (verdict_at ls sites Fit) fitting ++
    flat_map (access_verdicts_at ls sites) (map reported_view inside)))
judged_follow before n few ls sites asserted fitting inside a f i =
    every_append (VerdictFollows before n few) (map (verdict_at ls sites Assertion) asserted) _
    (verdicts_follow before n few ls sites Assertion asserted (each_of (λ (v : ℕ × Bool). v.0 < n) asserted a))
    (every_append (VerdictFollows before n few) (map (verdict_at ls sites Fit) fitting) _
    (verdicts_follow before n few ls sites Fit fitting (each_of (λ (v : ℕ × Bool). v.0 < n) fitting f))
    (told_follow before n few ls sites (map reported_view inside) (viewed_all (λ (v : ℕ × List (Place × Bool)). v.0 < n) reported_view inside i)))
