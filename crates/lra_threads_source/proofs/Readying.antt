-- What is read of a source of several threads may be analysed, once its graphs are instrumented.
use Rattle.std.proofs.Common.{◌≡◌, ◌∙◌, ◌≤◌, ◌<◌, ◌+◌, ℕ, zero, suc, Bool, true, false, List, [], ◌∷◌, ◌++◌, length, map, take, get_or, refl, sym, ap, subst, arith}
use Rattle.std.proofs.lemmas.Option.{get_or_from_slice_get, none-some, same_Some, slice_get-get_or}
use Rattle.std.proofs.{Math.Seq.take-length, lemmas.List.length-map, lemmas.List.Sums.sum_by-cons}
use Rattle.std.specs.Prelude.{All, None, Some, Vec, slice_get, ◌&&◌, not, if◌then◌else◌}
use Rattle.std.specs.{List.AllZip, List.Contains, List.flat_map, List.sum_by, declared.alloc.Global.Global}
use Rattle.lra_threads_source.proofs.Crates.lra_front_end.Faultless.{none_right}
use Rattle.lra_threads_source.proofs.Crates.lra_threads_instrument.InstrumentedTrees.{asks_opened, fits_of, numbered_of, points_of}
use Rattle.lra_threads_source.specs.Crates.lra_program.Sites.{Event, Site, comes, events_of, one_call_more, event_sites, sites_of}
use Rattle.lra_threads_source.specs.Crates.lra_resolution_spec.Refuse.{greatest_points, limit_fault}
use Rattle.lra_threads_source.specs.Crates.lra_resolution_spec.EntryPoint.{at_threads, points_of as all_points}
use Rattle.lra_threads_source.specs.Crates.lra_resolution_spec.Threads.{has_thread, thread_faults, thread_name, thread_places, thread_places_from, thread_program}
use Rattle.lra_threads_source.specs.Crates.{lra_analysis_spec.Instrumented.instrumented, lra_analysis_spec.LiveLimit.most_live, lra_analysis_spec.Plan.Plan, lra_base.declared.refusals.Refusal.Refusal}
use Rattle.lra_threads_source.specs.Crates.{lra_fixpoint.Lives.PointsHave, lra_fixpoint.Numbers.IsNumbered, lra_front_end.ThreadsStages.IsInlinedOf, lra_front_end.ThreadsStages.IsThreadInlined}
use Rattle.lra_threads_source.specs.Crates.{lra_operations.CheckedOperations.OpAtPoint, lra_operations.CheckedOperations.accessing_ops, lra_operations.Tree.Node, lra_operations.TreeViews.node_view}
use Rattle.lra_threads_source.specs.Crates.{lra_operations.TreeViews.site_view, lra_operations.declared.tree.InlinedProgram.InlinedProgram, lra_overflow_checks.Judged.AreBelow}
use Rattle.lra_threads_source.specs.Crates.{lra_pass_results.Dimensions.TreeFits, lra_program.Accesses.op_accesses_any, lra_program.Program.Program, lra_program.WellFormed.AreGoodGlobals}
use Rattle.lra_threads_source.specs.Crates.{lra_program.declared.program.GlobalVariable.GlobalVariable, lra_resolution_spec.NameFaults.parts_faults, lra_resolution_spec.Resolve.function_place}
use Rattle.lra_threads_source.specs.Crates.{lra_syntax.Functions.functions_of, lra_syntax.Labels.labels_of, lra_syntax.Trees.FileTree}
use Rattle.lra_threads_source.specs.Crates.lra_operations.declared.tree.Site as declared
use Rattle.lra_analyse_source.proofs.{Fitting.few_globals, Fitting.tree_fits, Flags.graph_below, Found.asked_one, Numbering.numbered, ReportSteps.few_behind, Widths.graph_lives}
use Rattle.lra_threads_analysis.specs.Found.{AreReady, IsReady, sites_in as points_of_graph}
use Rattle.lra_threads_source.specs.{Listed.thread_sites, Stages.AreGraphsOf, Stages.IsInstrumented, Stages.points_in, ThreadsReports.shared_program}
use Rattle.lra_threads_source.proofs.PointNumbers.{same_sums}

-- lists side by side -------------------------------------------------------------------------------------------------

pub zip_at : {A B : Type 0} (R : A → B → Type 0) (xs : List A) (ys : List B) (k : ℕ) (y : B) → AllZip R xs ys → slice_get ys k ≡ Some y
    → (x : A) × (slice_get xs k ≡ Some x) × R x y
zip_at R [] [] k y h there = absurd (none-some y there)
zip_at R [] (b ∷ ys) k y h there = absurd h
zip_at R (a ∷ xs) [] k y h there = absurd h
zip_at R (a ∷ xs) (b ∷ ys) zero y h there = (a, refl, subst (R a) (same_Some b y there) h.0)
zip_at R (a ∷ xs) (b ∷ ys) (suc k) y h there = zip_at R xs ys k y h.1 there

pub zip_long : {A B : Type 0} (R : A → B → Type 0) (xs : List A) (ys : List B) → AllZip R xs ys → length xs ≡ length ys
zip_long R [] [] h = refl
zip_long R [] (b ∷ ys) h = absurd h
zip_long R (a ∷ xs) [] h = absurd h
zip_long R (a ∷ xs) (b ∷ ys) h = ap suc (zip_long R xs ys h.1)

pub zip_viewed : {A B C : Type 0} (R : A → B → Type 0) (Q : A → C → Type 0) (view : B → C) (xs : List A) (ys : List B) → ((x : A) (y : B) → R x y → Q x (view y))
    → AllZip R xs ys → AllZip Q xs (map view ys)
zip_viewed R Q view [] [] each h = tt
zip_viewed R Q view [] (b ∷ ys) each h = absurd h
zip_viewed R Q view (a ∷ xs) [] each h = absurd h
zip_viewed R Q view (a ∷ xs) (b ∷ ys) each h = (each a b h.0, zip_viewed R Q view xs ys each h.1)

-- of things that another list's are mapped to
pub zip_mapped : {A B C : Type 0} (R : B → C → Type 0) (f : A → B) (xs : List A) (ys : List C) → AllZip (λ x. R (f x)) xs ys → AllZip R (map f xs) ys
zip_mapped R f [] [] h = tt
zip_mapped R f [] (y ∷ ys) h = absurd h
zip_mapped R f (x ∷ xs) [] h = absurd h
zip_mapped R f (x ∷ xs) (y ∷ ys) h = (h.0, zip_mapped R f xs ys h.1)

pub zip_unmapped : {A B C : Type 0} (R : B → C → Type 0) (f : A → B) (xs : List A) (ys : List C) → AllZip R (map f xs) ys → AllZip (λ x. R (f x)) xs ys
zip_unmapped R f [] [] h = tt
zip_unmapped R f [] (y ∷ ys) h = absurd h
zip_unmapped R f (x ∷ xs) [] h = absurd h
zip_unmapped R f (x ∷ xs) (y ∷ ys) h = (h.0, zip_unmapped R f xs ys h.1)

pub first_of : {A : Type 0} (xs : List A) → 0 < length xs → (x : A) × (slice_get xs 0 ≡ Some x)
first_of [] h = absurd (omega (arith, h))
first_of (x ∷ xs) h = (x, refl)

-- two threads --------------------------------------------------------------------------------------------------------

one_there : (one two : Bool) (r : Refusal) (a : ℕ) (further : List ℕ) → (if not (one && two) then r ∷ [] else []) ≡ [] → 0 < length (if one then a ∷ further else [])
one_there true two r a further e = omega arith
one_there false two r a further e = let wrong : ⊥ = cc in absurd wrong

pub some_thread : (t : FileTree) → thread_faults t ≡ [] → 0 < length (thread_places t)
some_thread t clean =
    let F = functions_of t in
    one_there (has_thread F 0) (has_thread F 1) _ (function_place F (thread_name 0)) (thread_places_from F 7 1)
    (none_right (parts_faults F [] [] t.parts) _ clean)

-- one graph ----------------------------------------------------------------------------------------------------------

-- a thread's program has the same globals as that of the first
pub same_globals : (t : FileTree) (place : ℕ) → (thread_program t place).globals ≡ (shared_program t).globals
same_globals t place = refl

module _ (P : Program) (g : InlinedProgram) (is : IsInlinedOf P g) (n : ℕ) (globals : n ≡ length P.globals) where
  abbrev own : Node
  own = node_view g.tree

  fits : TreeFits own n
  fits = subst (TreeFits own) (sym globals) (tree_fits P own is.well is.few is.is_graph)

  pub is_low : n ≤ most_live
  is_low = let few = few_globals P own is.few is.is_graph in omega (arith, few, globals)

  lives : PointsHave (sites_of P) own n
  lives = subst (PointsHave (sites_of P) own) (sym globals) (graph_lives P own is.is_graph)

  few_at : (T : List Site) → T ≡ sites_of P → All (λ s. s.live < most_live) T
  few_at T same k d h =
      let s = get_or T k d in
      let there : slice_get T k ≡ Some s = slice_get-get_or T k d h in
      let few = is.few k s (subst (λ (l : List Site). slice_get l k ≡ Some s) same there) in
      omega (arith, few)

  accessed : (m : ℕ) → m ≡ length (sites_of P) → AreBelow m (accessing_ops None (instrumented n own))
  accessed m same a h =
      subst (λ (k : ℕ). a.point < k) (sym same)
      (asked_one op_accesses_any (length (sites_of P)) own None (graph_below P own is.is_graph) a
      (subst (λ (l : List OpAtPoint). Contains l a) (asks_opened op_accesses_any None n own) h)).0

  -- an instrumented graph of it can be iterated over
  pub ready : (h : InlinedProgram) → IsInstrumented n g h → IsReady n h
  ready h o =
      let T = points_of_graph h in
      let points : T ≡ sites_of P = ap (λ (ss : Vec declared.Site Global). map site_view ss.items) o.1 ∙ is.points in
      record {
        fits = subst (λ (x : Node). TreeFits x n) (sym o.0) (fits_of n own n is_low fits);
        numbered = subst (λ (l : List Site). IsNumbered l (node_view h.tree)) (sym points)
            (subst (λ (x : Node). IsNumbered (sites_of P) x) (sym o.0) (numbered_of (sites_of P) n own (numbered P own is.is_graph)));
        points = subst (λ (l : List Site). PointsHave l (node_view h.tree) n) (sym points)
            (subst (λ (x : Node). PointsHave (sites_of P) x n) (sym o.0) (points_of (sites_of P) n own n fits lives));
        few = few_at T points;
        below = subst (λ (x : Node). AreBelow (length T) (accessing_ops None x)) (sym o.0) (accessed (length T) (ap length points));
      }

-- all of them --------------------------------------------------------------------------------------------------------

many_both : (es fs : List Event) → length (event_sites (es ++ fs)) ≡ length (event_sites es) + length (event_sites fs)
many_both [] fs = omega arith
many_both (comes s ∷ es) fs = let rest = many_both es fs in omega (arith, rest)
many_both (one_call_more at ∷ es) fs = many_both es fs

many_points : (t : FileTree) (places : List ℕ) → length (event_sites (flat_map events_of (map (thread_program t) places)))
    ≡ sum_by (λ place. length (sites_of (thread_program t place))) places
many_points t [] = refl
many_points t (place ∷ places) =
    let both = many_both (events_of (thread_program t place)) (flat_map events_of (map (thread_program t) places)) in
    let rest = many_points t places in
    let all = sum_by-cons (λ (p : ℕ). length (sites_of (thread_program t p))) place places in
    omega (arith, both, rest, all)

zip_sums : {A B : Type 0} (f : A → ℕ) (h : B → ℕ) (xs : List A) (ys : List B) → AllZip (λ x y. f x ≡ h y) xs ys → sum_by f xs ≡ sum_by h ys
zip_sums f h [] [] same = refl
zip_sums f h [] (y ∷ ys) same = absurd same
zip_sums f h (x ∷ xs) [] same = absurd same
zip_sums f h (x ∷ xs) (y ∷ ys) same =
    let one = sum_by-cons f x xs in
    let two = sum_by-cons h y ys in
    let first = same.0 in
    let rest = zip_sums f h xs ys same.1 in
    omega (arith, one, two, first, rest)

-- read and instrumented
module _ (t : FileTree) (clean : thread_faults t ≡ []) (within : limit_fault (labels_of t) 0 (all_points at_threads t) ≡ None) (graphs others : List InlinedProgram)
    (read : AllZip (IsThreadInlined t) (thread_places t) graphs) (n : ℕ) (globals : n ≡ length (shared_program t).globals)
    (are : AllZip (IsInstrumented n) graphs others) where
  -- the k-th
  pub graph_at : (k : ℕ) (h : InlinedProgram) → slice_get others k ≡ Some h
      → (g : InlinedProgram) × (slice_get graphs k ≡ Some g) × IsInstrumented n g h × ((place : ℕ) × (slice_get (thread_places t) k ≡ Some place) × IsInlinedOf (thread_program t place) g)
  graph_at k h there =
      let (g, here, is) = zip_at (IsInstrumented n) graphs others k h are there in
      let (place, at, of) = zip_at (IsThreadInlined t) (thread_places t) graphs k g read here in
      (g, here, is, (place, at, of))

  many : length others ≡ length (thread_places t)
  many = sym (zip_long (IsInstrumented n) graphs others are) ∙ sym (zip_long (IsThreadInlined t) (thread_places t) graphs read)

  points_at : (k : ℕ) (h : InlinedProgram) → slice_get others k ≡ Some h → points_of_graph h ≡ thread_sites t k
  points_at k h there =
      let (g, here, is, (place, at, of)) = graph_at k h there in
      ap (λ (ss : Vec declared.Site Global). map site_view ss.items) is.1 ∙ of.points
      ∙ ap (λ (p : ℕ). sites_of (thread_program t p)) (sym (get_or_from_slice_get (thread_places t) k place 0 at))

  few : sum_by points_in others ≤ greatest_points
  few =
      let whole = few_behind (labels_of t) 0 (all_points at_threads t) within (omega arith) in
      let points = many_points t (thread_places t) in
      let same = same_sums points_in (λ place. length (sites_of (thread_program t place))) others (thread_places t) many
      (λ k h place there at.
      sym (length-map h.sites.items site_view) ∙ ap length (points_at k h there)
      ∙ ap (λ (p : ℕ). length (sites_of (thread_program t p))) (get_or_from_slice_get (thread_places t) k place 0 at)) (length others) in
      let left = ap (sum_by points_in) (take-length others) in
      let right = ap (λ (ps : List ℕ). sum_by (λ place. length (sites_of (thread_program t place))) ps)
      (ap (λ (m : ℕ). take m (thread_places t)) many ∙ take-length (thread_places t)) in
      omega (arith, whole, points, same, left, right)

  pub are_graphs : AreGraphsOf t others
  are_graphs = record { count = many; sites = points_at; few = few }

  pub are_ready : (plan : Plan) (gs : List GlobalVariable) → 1 ≤ plan.parts → gs ≡ (shared_program t).globals → length gs ≡ n → AreReady plan gs others
  are_ready plan gs parts is long =
      let some = some_thread t clean in
      let (h, there) = first_of others (omega (arith, some, many)) in
      let (g, here, opens, (place, at, of)) = graph_at 0 h there in
      let low = is_low (thread_program t place) g of n globals in
      record {
        parts = parts;
        few = omega (arith, low, long);
        good = subst AreGoodGlobals (sym is) of.well.globals;
        each = λ k h there.
            let (g, here, opens, (place, at, of)) = graph_at k h there in
            subst (λ (m : ℕ). IsReady m h) (sym long) (ready (thread_program t place) g of n globals h opens);
      }
