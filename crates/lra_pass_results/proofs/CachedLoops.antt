-- What is kept of loops stays so along a pass: of what is flagged so far, it depends only on whether anything is.
use Rattle.std.proofs.Common.{◌≡◌, ℕ, ◌<◌, List, length, Vec, Global, Option, Some, None, sym, ap, subst, ◌∙◌}
use Rattle.std.specs.{List.All, Prelude.IfOk, Prelude.slice_index_or, Prelude.set}
use Rattle.std.specs.Prelude as outcome_or
use Rattle.lra_pass_results.specs.Crates.lra_analysis_spec.Pass.{PassResult, noted}
use Rattle.lra_pass_results.specs.Crates.{lra_analysis_spec.Operations.lossy_operations, lra_analysis_spec.Plan.Plan, lra_analysis_spec.UnderInterference.absorbed, lra_domain.Abstraction.Abstraction}
use Rattle.lra_pass_results.specs.Crates.{lra_domain.Interference.Interference, lra_domain.declared.Exactness.Exactness, lra_program.Program.Cond}
use Rattle.lra_operations.specs.Tree.{Exit, Node, choose, iterate}
use Rattle.lra_pass_results.proofs.Crates.lra_analysis_spec.Transfer.{behind_flag}
use Rattle.lra_pass_results.specs.LoopCache.{IsRecalled, AreRecalled, MayRecall, Remembers, StaysKept}
use Rattle.lra_pass_results.specs.Outcome.{ended, outcome_view, AreBranchesJoined, Catches, IsKept, IsPassed, LeavesWith}
use Rattle.lra_pass_results.specs.{declared.loop_cache.CachedLoop.CachedLoop, declared.loop_cache.LoopCache.LoopCache, declared.outcome.PassOutcome.PassOutcome}
use Rattle.lra_pass_results.proofs.Again.{none_noted, none_before, kept_passed, passed_kept}

-- what is flagged later, if anything was before
abbrev pub Later : Option ℕ → Option ℕ → Type 0
Later f f' = f' ≡ None → f ≡ None

pub later_noted : (q : ℕ) (e : Exactness) (f f' : Option ℕ) → f' ≡ noted q e f → Later f f'
later_noted q e f f' is none = none_noted q e f (sym is ∙ none)

pub passed_later : {V H : Type 0} (o : Interference V) (m : Abstraction V H) (set : Plan) (g : Node) (f : Option ℕ) (v : V) (r : PassResult V) →
    IsPassed o m set g f v r → Later f r.flag
passed_later o m set g f v r passed none = none_before (lossy_operations m) (absorbed o m) set g f v r none passed.pass

pub caught_later : {V H : Type 0} (m : Abstraction V H) (q : ℕ) (k : Exit) (s r : PassResult V) → Catches m q k s r →
    Later s.flag r.flag
caught_later {V} m q k s r (w, e, joined, is) = later_noted q e s.flag r.flag
    (ap (λ (x : PassResult V). x.flag) is ∙ behind_flag k s w (noted q e s.flag))

pub met_later : {V H : Type 0} (m : Abstraction V H) (q : ℕ) (s t r : PassResult V) → AreBranchesJoined m q s t r → Later t.flag r.flag
met_later {V} m q s t r (w, e, joined, is) = later_noted q e t.flag r.flag (ap (λ (x : PassResult V). x.flag) is)

pub left_later : {V H : Type 0} (m : Abstraction V H) (q base : ℕ) (c : Cond) (top : V) (s r : PassResult V) →
    LeavesWith m q base c top s r → Later s.flag r.flag
left_later {V} m q base c top s r (out, e, leaves, is) =
    later_noted q e s.flag r.flag (ap (λ (x : PassResult V). x.flag) is)

module _ {V H : Type 0} (o : Interference V) (m : Abstraction V H) (set : Plan) where
  pub recall_later : (loops : ℕ → Node) (f f' : Option ℕ) (memory : LoopCache V) → Later f f' →
      MayRecall o m set loops f memory → MayRecall o m set loops f' memory
  recall_later loops f f' memory later all k d below =
      let kept = all k d below in
      record { before = kept.before; passed = kept.passed; unflagged = λ none. kept.unflagged (later none) }

  -- the same memory, later
  pub stays_same : (g : Node) (f f' : Option ℕ) (memory : LoopCache V) → Later f f' → StaysKept o m set g f memory f' memory
  stays_same g f f' memory later loops has all = recall_later loops f f' memory later all

  pub stays_passed : (g : Node) (f : Option ℕ) (v : V) (r : PassResult V) (memory : LoopCache V) → IsPassed o m set g f v r →
      StaysKept o m set g f memory r.flag memory
  stays_passed g f v r memory passed = stays_same g f r.flag memory (passed_later o m set g f v r passed)

  pub stays_both : (g : Node) (f f1 f2 f3 : Option ℕ) (old between new : LoopCache V) →
      StaysKept o m set g f old f1 between → Later f1 f2 → StaysKept o m set g f2 between f3 new →
      StaysKept o m set g f old f3 new
  stays_both g f f1 f2 f3 old between new one later two loops has all =
      two loops has (recall_later loops f1 f2 between later (one loops has all))

  pub stays_then : (g : Node) (f f1 f2 : Option ℕ) (old new : LoopCache V) → StaysKept o m set g f old f1 new → Later f1 f2 →
      StaysKept o m set g f old f2 new
  stays_then g f f1 f2 old new one later loops has all = recall_later loops f1 f2 new later (one loops has all)

  pub stays_since : (g : Node) (f f1 f2 : Option ℕ) (old new : LoopCache V) → Later f f1 →
      StaysKept o m set g f1 old f2 new → StaysKept o m set g f old f2 new
  stays_since g f f1 f2 old new later one loops has all = one loops has (recall_later loops f f1 old later all)

  pub remembers_later : (g : Node) (f f' : Option ℕ) (memory : LoopCache V) → Later f f' → Remembers o m set g f memory →
      Remembers o m set g f' memory
  remembers_later g f f' memory later (loops, has, all) = (loops, has, recall_later loops f f' memory later all)

  pub remembers_on : (g : Node) (f f1 f2 : Option ℕ) (old new : LoopCache V) → Remembers o m set g f old →
      StaysKept o m set g f old f1 new → Later f1 f2 → Remembers o m set g f2 new
  remembers_on g f f1 f2 old new (loops, has, all) stays later =
      (loops, has, recall_later loops f1 f2 new later (stays loops has all))

  -- a loop
  module _ (q base : ℕ) (c : Cond) (a : Node) where
    pub recalled_passed : (f : Option ℕ) (v : V) (memory : LoopCache V) (given : Option (PassOutcome V)) (r : PassOutcome V) →
        Remembers o m set (iterate q base c a) f memory
        → ((loops : ℕ → Node) → MayRecall o m set loops f memory → AreRecalled o m set (loops q) f v given) →
        given ≡ Some r → IsPassed o m set (iterate q base c a) f v (outcome_view r)
    recalled_passed f v memory given r (loops, has, all) gives is =
        let found : AreRecalled o m set (loops q) f v (Some r) =
        subst (λ (x : Option (PassOutcome V)). AreRecalled o m set (loops q) f v x) is (gives loops all) in
        subst (λ (g : Node). IsPassed o m set g f v (outcome_view r)) has.0 found

    pub remembers_body : (f : Option ℕ) (old new : LoopCache V) → new.kept ≡ old.kept →
        Remembers o m set (iterate q base c a) f old → Remembers o m set a f new
    remembers_body f old new same (loops, has, all) = (
      loops,
      has.1,
      subst (λ (kept : Vec (CachedLoop V) Global). All (IsRecalled o m set loops f) kept.items)
          (sym same) all,
    )

    pub stays_begun : (f f' : Option ℕ) (old begun new : LoopCache V) → begun.kept ≡ old.kept →
        StaysKept o m set a f begun f' new → StaysKept o m set (iterate q base c a) f old f' new
    stays_begun f f' old begun new same stays loops has all =
        stays loops has.1 (subst (λ (kept : Vec (CachedLoop V) Global). All (IsRecalled o m set loops f) kept.items)
        (sym same) all)

    pub stays_recalled : (f : Option ℕ) (v : V) (r : PassResult V) (old new : LoopCache V) → new.kept ≡ old.kept →
        IsPassed o m set (iterate q base c a) f v r → StaysKept o m set (iterate q base c a) f old r.flag new
    stays_recalled f v r old new same passed loops has all =
        recall_later loops f r.flag new (passed_later o m set (iterate q base c a) f v r passed)
        (subst (λ (kept : Vec (CachedLoop V) Global). All (IsRecalled o m set loops f) kept.items) (sym same) all)

    stays_finished : (f f1 : Option ℕ) (v : V) (r : PassResult V) (old between new : LoopCache V) →
        StaysKept o m set (iterate q base c a) f old f1 between → IsPassed o m set (iterate q base c a) f v r
        → ((loops : ℕ → Node) → MayRecall o m set loops f1 between → IsKept o m set (loops q) r.flag v r →
        MayRecall o m set loops r.flag new) → StaysKept o m set (iterate q base c a) f old r.flag new
    stays_finished f f1 v r old between new stays passed ends loops has all = ends loops (stays loops has all)
        (subst (λ (g : Node). IsKept o m set g r.flag v r) (sym has.0)
        (passed_kept o m set (iterate q base c a) f v r passed))

    pub finish_stays : {E : Type 0} (f f1 : Option ℕ) (v : V) (R : outcome_or.Result (PassOutcome V) E)
        (old between new : LoopCache V) → StaysKept o m set (iterate q base c a) f old f1 between
        → IfOk R (λ r. IsPassed o m set (iterate q base c a) f v (outcome_view r))
        → ((loops : ℕ → Node) → IfOk R (λ r. MayRecall o m set loops f1 between →
        IsKept o m set (loops q) r.flag v (outcome_view r) → MayRecall o m set loops r.flag new))
        → IfOk R (λ r. StaysKept o m set (iterate q base c a) f old r.flag new)
    finish_stays f f1 v (outcome_or.Ok r) old between new stays passed ends =
        stays_finished f f1 v (outcome_view r) old between new stays passed ends
    finish_stays f f1 v (outcome_or.Err e) old between new stays passed ends = tt

  -- a choice
  module _ (q base : ℕ) (c : Cond) (a b : Node) (f f1 f2 f3 : Option ℕ) (old between : LoopCache V) where
    pub remembers_first : Remembers o m set (choose q base c a b) f old → Later f f1 → Remembers o m set a f1 old
    remembers_first (loops, has, all) later = (loops, has.0, recall_later loops f f1 old later all)

    pub remembers_second : Remembers o m set (choose q base c a b) f old → Later f f1 →
        StaysKept o m set a f1 old f2 between → Later f2 f3 → Remembers o m set b f3 between
    remembers_second (loops, has, all) later stays after = (
      loops,
      has.1,
      recall_later loops f2 f3 between after
          (stays loops has.0 (recall_later loops f f1 old later all)),
    )

    pub stays_choice : (f4 f5 : Option ℕ) (new : LoopCache V) → Later f f1 → StaysKept o m set a f1 old f2 between →
        Later f2 f3 → StaysKept o m set b f3 between f4 new → Later f4 f5
        → StaysKept o m set (choose q base c a b) f old f5 new
    stays_choice f4 f5 new later one after two last loops has all =
        recall_later loops f4 f5 new last (two loops has.1
        (recall_later loops f2 f3 between after (one loops has.0 (recall_later loops f f1 old later all))))

  -- what is kept of the loop at this place, which began with the same value
  pub recalled : (loops : ℕ → Node) (point : ℕ) (f : Option ℕ) (kept : List (CachedLoop V)) (place : ℕ) (one : CachedLoop V)
      (v : V) (r : PassOutcome V) → All (IsRecalled o m set loops f) kept
      → place < length kept → one ≡ slice_index_or kept place one → (slice_index_or kept place one).point ≡ point →
      one.first ≡ v
      → outcome_view r ≡ ended one.outcome.found one.outcome.normal f → IsPassed o m set (loops point) f v (outcome_view r)
  recalled loops point f kept place one v r all below at numbered same is =
      let held : IsRecalled o m set loops f one = subst (λ (x : CachedLoop V). IsRecalled o m set loops f x) (sym at)
      (all place one below) in
      let passed : IsPassed o m set (loops one.point) f one.first (ended one.outcome.found one.outcome.normal f) =
      kept_passed o m set (loops one.point) f one.first (outcome_view one.outcome) held in
      let number : one.point ≡ point = ap (λ (x : CachedLoop V). x.point) at ∙ numbered in
      subst (λ (x : PassResult V). IsPassed o m set (loops point) f v x) (sym is)
      (subst (λ (x : V). IsPassed o m set (loops point) f x (ended one.outcome.found one.outcome.normal f)) same
      (subst (λ (n : ℕ). IsPassed o m set (loops n) f one.first (ended one.outcome.found one.outcome.normal f)) number
      passed))
