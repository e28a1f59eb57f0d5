-- From the parts of going back to what it gives.
use Rattle.std.proofs.Common.{◌≡◌, ◌≢◌, ◌≤◌, ◌<◌, ◌^◌, ◌↔◌, ℕ, suc, List, [], length, Option, None, Some, Bool, true, Contains, Result, Ok, Err, IsErrAnd, refl, sym, ap, subst, ◌∙◌, arith, slice_get}
use Rattle.std.proofs.lemmas.Option.{same_Some}
use Rattle.lra_domain.specs.{Abstraction.Abstraction, Actions.Action, Backward.BackwardAbstraction, Changes.AllCanBeMade, Changes.dims_after_actions, declared.Exactness.Exactness}
use Rattle.lra_program.specs.{Program.Cond, Sites.Site, declared.program.GlobalVariable.GlobalVariable}
use Rattle.lra_operations.specs.Tree.{Node}
use Rattle.lra_back.specs.Crates.{lra_analysis_spec.Analysis.IsUnreachable, lra_analysis_spec.LiveLimit.most_live, lra_analysis_spec.Pass.noted, lra_path_disjuncts.Disjuncts.greatest_paths}
use Rattle.lra_back.specs.Crates.{lra_path_disjuncts.Tables.IsTable, lra_path_segments.Segments.Goal, lra_path_segments.Segments.comes_to, lra_path_segments.TreeSegments.TreeSegment}
use Rattle.lra_back.proofs.Crates.lra_linear_spec.ListPlaces.{there_within, also_there}
use Rattle.lra_paths.specs.{Paths.AreFewIn, Paths.actions_between_in, Sources.to_goal, declared.paths.PathsFailure.PathsFailure, declared.sources.Source.Source}
use Rattle.lra_program.specs.Assertions.{IsAssertion}
use Rattle.lra_back.specs.BackwardAnalysis.{AreAsserted, BackwardAnalysis, IsAsserted, NothingLeftAtStart, task_of}
use Rattle.lra_back.specs.BackwardCalls.{AreHeads, AreSources, BackNeeds, FitHeads, IsBackwardSolution, IsPrepared, IsSourceOf, IsTask, asserts_at, asserts_of, failed_by, paths_at, paths_from}
use Rattle.lra_back.specs.declared.analysis.BackFailure.TheVariants.{Memory, TooMany}
use Rattle.lra_back.specs.{BackwardCalls.task_view, Operations.lossy_back_operations, Rounds.Rounds, declared.analysis.BackFailure.BackFailure, declared.tasks.Task.Task}
use Rattle.lra_paths.specs.declared.paths.PathsFailure.TheVariants as paths_failure
use Rattle.lra_back.proofs.RoundSteps.{same_rounds}

-- paths that lead from the dimensions of the one to those of the head
pub heads_fit : {V H : Type 0} (m : Abstraction V H) (t : Task V) (p : ℕ) (s : Source) (x : V) (heads : List H) → IsTask m t → AreHeads m t.forward.now heads
    → slice_get t.sources.items p ≡ Some s → slice_get t.forward.now p ≡ Some x → FitHeads m s (m.dims x) heads
heads_fit m t p s x heads task are at there q h is path contains =
    let y = also_there heads t.forward.now q h (sym are.count) is in
    let fits = task.fit p q s x y.0 at there y.1 path contains in
    (fits.0, fits.1, fits.2 ∙ sym (are.dims q h y.0 is y.1))

-- the seed has the dimensions of the assertion's forward value
pub seed_has : {V H : Type 0} (m : Abstraction V H) (t : Task V) (p : ℕ) (x : V) → IsTask m t → slice_get t.forward.now p ≡ Some x → p ≡ t.assertion
    → m.dims t.seed ≡ m.dims x
seed_has m t p x task at here = task.seed x (subst (λ q. slice_get t.forward.now q ≡ Some x) here at)

-- sources --------------------------------------------------------------------------------------------------------------

pub is_source_of : (globals : List GlobalVariable) (sites : List Site) (g : Node) (p q : ℕ) (s : Source) → AreFewIn globals sites g → p < length sites
    → q ≡ suc p → IsTable s.entries.items → ((goal : Goal) → to_goal s.entries.items s.segments.items goal ≡ actions_between_in globals sites g q goal)
    → IsSourceOf globals sites g p s
is_source_of globals sites g p q s few inside is table leads =
    let same : (r : ℕ) → paths_from s r ≡ actions_between_in globals sites g (suc p) (comes_to r) =
    λ r. leads (comes_to r) ∙ ap (λ k. actions_between_in globals sites g k (comes_to r)) is in
    record {
      writable = record {
        table = table;
        few = λ r. subst (λ (xs : List (List Action)). length xs ≤ greatest_paths) (sym (same r)) (few (suc p) (omega arith) (comes_to r));
      };
      leads = same;
    }

-- tasks ----------------------------------------------------------------------------------------------------------------

module _ {V H : Type 0} (m : Abstraction V H) (globals : List GlobalVariable) (sites : List Site) (ways : List TreeSegment) (p : ℕ) (tree : Node) (t : Task V)
  where
    pub is_task : BackNeeds m globals sites ways t.forward.now p tree → AreSources globals sites tree t.sources.items
        → ((x : V) → slice_get t.forward.now t.assertion ≡ Some x → m.dims t.seed ≡ m.dims x) → IsTask m t
    is_task needs sources seed = record {
      count = sources.count ∙ sym needs.wide.0;
      few = λ q x at.
          let s = also_there t.forward.now sites q x (sym needs.wide.0) at in
          let wide = needs.wide.1 q s.0 x s.1 at in
          few_enough (m.dims x) s.0.live wide.0 wide.1;
      writable = λ q s at. let one = sources.are q s at in one.writable;
      fit = λ q r s x y at there is path contains.
          let from = also_there t.forward.now sites q x (sym needs.wide.0) there in
          let to = also_there t.forward.now sites r y (sym needs.wide.0) is in
          let wide = needs.wide.1 q from.0 x from.1 there in
          let behind = needs.wide.1 r to.0 y to.1 is in
          let source = sources.are q s at in
          let fits = needs.fit q r from.0 to.0 path from.1 to.1 (subst (λ (xs : List (List Action)). Contains xs path) (source.leads r) contains) in (
            few_enough (m.dims x) from.0.live wide.0 wide.1,
            subst (λ n. AllCanBeMade path n) (sym wide.0) fits.0,
            ap (dims_after_actions path) wide.0 ∙ fits.1 ∙ sym behind.0,
          );
      seed = seed;
    } where
      few_enough : (n live : ℕ) → n ≡ live → live ≤ most_live → n ≤ 2 ^ 30
      few_enough n live same few = omega arith

-- what is given ----------------------------------------------------------------------------------------------------------

module _ {V H : Type 0} (m : Abstraction V H) (b : BackwardAbstraction V) (globals : List GlobalVariable) (sites : List Site) (ways : List TreeSegment) (p : ℕ)
    (tree : Node)
    (t : Task V) where
  pub rounds_of : BackNeeds m globals sites ways t.forward.now p tree → AreSources globals sites tree t.sources.items → (n : ℕ) → n ≡ length t.forward.now
      → t.assertion ≡ p → (f : Option ℕ) (heads : List H) (g : Option ℕ) (last : List H) → Rounds (lossy_back_operations m b) (task_view t) n f heads g last
      → Rounds (lossy_back_operations m b) (task_of globals sites tree t.forward.now p t.seed) n f heads g last
  rounds_of needs sources n is here f heads g last rounds =
      subst (λ q. Rounds (lossy_back_operations m b) (task_of globals sites tree t.forward.now q t.seed) n f heads g last) here
      (same_rounds (lossy_back_operations m b) t.forward.now t.assertion t.seed (λ q r. paths_at (slice_get t.sources.items q) r)
      (λ q r. actions_between_in globals sites tree (suc q) (comes_to r)) n
      (λ q r inside. same q r (omega arith)) f heads g last rounds) where
        same : (q r : ℕ) → q < length t.forward.now → paths_at (slice_get t.sources.items q) r ≡ actions_between_in globals sites tree (suc q) (comes_to r)
        same q r inside =
            let less : q < length t.sources.items = subst (λ k. q < k) (sym (sources.count ∙ sym needs.wide.0)) inside in
            let s = there_within t.sources.items q less in
            let one = sources.are q s.0 s.1 in
            ap (λ (o : Option Source). paths_at o r) s.1 ∙ one.leads r

  from_parts : BackNeeds m globals sites ways t.forward.now p tree → t.assertion ≡ p → (e : Exactness) → IsPrepared m b globals sites tree t.forward.now p t e
      → (f flag : Option ℕ) (values : List V) → IsBackwardSolution (lossy_back_operations m b) (task_view t) (noted p e f) values flag
      → BackwardAnalysis (lossy_back_operations m b) globals sites tree t.forward.now f p values flag
  from_parts needs here e is f flag values gone = record {
    base = is.base;
    condition = is.condition;
    asserted = is.asserted;
    at_assertion = is.at_assertion;
    is_there = is.is_there;
    exactness = e;
    seed = t.seed;
    violated = is.violated;
    first = gone.first;
    started = gone.started;
    last = gone.last;
    rounds_flag = gone.rounds_flag;
    rounds = rounds_of needs is.sources (length t.forward.now) refl here (noted p e f) gone.first gone.rounds_flag gone.last gone.rounds;
    met = gone.met;
  }

  pub all_backs : (forward : List V) → t.forward.now ≡ forward → t.assertion ≡ p → (e : Exactness) (f flag : Option ℕ) (values : List V)
      → IsBackwardSolution (lossy_back_operations m b) (task_view t) (noted p e f) values flag → BackNeeds m globals sites ways forward p tree
      → IsPrepared m b globals sites tree forward p t e → BackwardAnalysis (lossy_back_operations m b) globals sites tree forward f p values flag
  all_backs forward same here e f flag values gone =
      subst (λ (xs : List V). BackNeeds m globals sites ways xs p tree → IsPrepared m b globals sites tree xs p t e
      → BackwardAnalysis (lossy_back_operations m b) globals sites tree xs f p values flag) same (λ needs is. from_parts needs here e is f flag values gone)

-- the condition that was found is the one that is asserted
pub asserted_found : (g : Node) (p : ℕ) (sites : List Site) → AreAsserted sites g → IsAssertion sites p → (found : ℕ × Cond)
    → ((base : ℕ) (c : Cond) → IsAsserted g p base c → Some found ≡ Some (base, c)) → IsAsserted g p found.0 found.1
asserted_found g p sites asserted asserts found are =
    let asks = asserted p asserts in
    subst (λ (z : ℕ × Cond). IsAsserted g p z.0 z.1) (sym (same_Some found (asks.0, asks.1) (are asks.0 asks.1 asks.2))) asks.2

-- what is left at the start --------------------------------------------------------------------------------------------

-- of points before this number, to which paths lead from the start, nothing is left
abbrev pub IsNothingBefore : {V H : Type 0} → Abstraction V H → List GlobalVariable → List Site → Node → List V → ℕ → Type 0
IsNothingBefore {V} m globals sites g values i =
    (q : ℕ) (v : V) → q < i → slice_get values q ≡ Some v → actions_between_in globals sites g 0 (comes_to q) ≢ [] → IsUnreachable m v

-- of a program -----------------------------------------------------------------------------------------------------------

asserts_found : (sites : List Site) (p : ℕ) (o : Option Site) → slice_get sites p ≡ o → asserts_of o ≡ true → IsAssertion sites p
asserts_found sites p None same is = cc
asserts_found sites p (Some s) same is = (s, same, is)

pub asserts_is : (sites : List Site) (p : ℕ) → asserts_at sites p ≡ true → IsAssertion sites p
asserts_is sites p is = asserts_found sites p (slice_get sites p) refl is

-- of the same globals and sites under other names
module _ {V H : Type 0} (m : Abstraction V H) (globals others : List GlobalVariable) (sites points : List Site) (tree : Node) where
  pub needs_over : others ≡ globals → points ≡ sites → (ways : List TreeSegment) (forward : List V) (p : ℕ)
      → BackNeeds m globals sites ways forward p tree → BackNeeds m others points ways forward p tree
  needs_over one two ways forward p needs =
      subst (λ (g : List GlobalVariable). BackNeeds m g points ways forward p tree) (sym one)
      (subst (λ (s : List Site). BackNeeds m globals s ways forward p tree) (sym two) needs)

  pub backs_over : (b : BackwardAbstraction V) → others ≡ globals → points ≡ sites →
      (forward : List V) (f : Option ℕ) (p : ℕ) (values : List V) (flag : Option ℕ)
      → BackwardAnalysis (lossy_back_operations m b) others points tree forward f p values flag →
      BackwardAnalysis (lossy_back_operations m b) globals sites tree forward f p values flag
  backs_over b one two forward f p values flag backs =
      subst (λ (g : List GlobalVariable). BackwardAnalysis (lossy_back_operations m b) g sites tree forward f p values flag) one
      (subst (λ (s : List Site). BackwardAnalysis (lossy_back_operations m b) others s tree forward f p values flag) two backs)

  pub left_over : others ≡ globals → points ≡ sites → (values items : List V) → items ≡ values → (is : Bool)
      → (is ≡ true ↔ NothingLeftAtStart m others points tree items) → (is ≡ true ↔ NothingLeftAtStart m globals sites tree values)
  left_over one two values items same is left =
      subst (λ (vs : List V). is ≡ true ↔ NothingLeftAtStart m globals sites tree vs) same
      (subst (λ (g : List GlobalVariable). is ≡ true ↔ NothingLeftAtStart m g sites tree items) one
      (subst (λ (s : List Site). is ≡ true ↔ NothingLeftAtStart m others s tree items) two left))

-- too many paths are reported as such
pub too_many : {A : Type 0} (r : Result A BackFailure) (f : PathsFailure) (q : ℕ) → IsErrAnd r (λ e. e ≡ failed_by f) → r ≡ Err (TooMany q)
    → f ≡ paths_failure.TooMany q
too_many (Ok x) f q from is = cc
too_many (Err e) paths_failure.Memory q from is = let wrong : Memory ≡ TooMany q = cc in cc
too_many (Err e) (paths_failure.TooMany r) q from is = let same : TooMany r ≡ TooMany q = cc in cc
