-- Flat trees, that are passed along a row without a place of their own.
use Rattle.std.proofs.Common.{◌≡◌, ℕ, ◌+◌, ◌<◌, ◌≤◌, List, [], ◌∷◌, map, Option, refl, sym, subst, arith}
use Rattle.std.proofs.lemmas.Result.{IfOk-weaker}
use Rattle.std.specs.Prelude.{IfOk}
use Rattle.std.specs.Prelude as outcome_or
use Rattle.lra_pass_stack.specs.Crates.{lra_analysis_spec.Pass.PassResult, lra_analysis_spec.Plan.Plan, lra_domain.Abstraction.Abstraction, lra_domain.Interference.Interference}
use Rattle.lra_operations.specs.declared.tree.Node as node
use Rattle.lra_operations.specs.{Tree.Node, TreeViews.node_view, TreeViews.row}
use Rattle.lra_pass_results.specs.{Dimensions.TreeFits, Flat.Follows, LoopCache.StaysKept, Outcome.outcome_view, Outcome.IsPassed, Steps.row_steps, declared.loop_cache.LoopCache.LoopCache}
use Rattle.lra_pass_results.specs.{declared.outcome.PassOutcome.PassOutcome, declared.tree_forms.Row.Row}
use Rattle.lra_pass_stack.specs.declared.stack.Next as next
use Rattle.lra_pass_stack.specs.{Stack.PassTask, Stack.IsMade, Stack.MayBePassed, Stack.RowLoop, StepsLeft.most_rounds, StepsLeft.next_left}
use Rattle.lra_pass_results.proofs.{CachedLoops.stays_passed, PassRows.row_first, PassRows.row_last, PassRows.steps_first}
use Rattle.lra_pass_stack.proofs.OpenRows.{next_fits, row_ends, row_next, row_stays}

-- whatever is owed where all trees are left, that much is owed where these are
abbrev pub OwesLess : {V H : Type 0} → Interference V → Abstraction V H → Plan → List node.Node → List node.Node → node.Node → PassOutcome V →
    PassOutcome V → Type 0
OwesLess {V} o m plan gs left last begun so_far = (set : Plan) (whole : PassTask V) (memory : LoopCache V) →
    plan ≡ set → MayBePassed o m set whole →
    RowLoop o m set whole.tree whole.flag whole.value (row (map node_view gs) (node_view last)) begun.found begun.normal
    begun.flag whole.memory memory → RowLoop o m set whole.tree whole.flag whole.value
    (row (map node_view left) (node_view last)) so_far.found so_far.normal so_far.flag whole.memory memory

-- one tree less takes fewer steps
pub steps_less : (n : ℕ) (gs left left' : List node.Node) (x last : node.Node) → left ≡ x ∷ left' →
    row_steps n left last ≤ row_steps n gs last → row_steps n left' last ≤ row_steps n gs last
steps_less n gs left left' x last is less =
    let first = steps_first n left left' x last is in
    omega (arith, first, less)

pub steps_within : (k n all : ℕ) → k ≡ n → n ≤ all → k ≤ all
steps_within k n all is few = omega (arith, is, few)

-- none but the last is left
pub last_falls : {V H E : Type 0} (m : Abstraction V H) (b : ℕ) (set : Plan) (R : outcome_or.Result (next.Next V H) E)
    (gs left : List node.Node) (last : node.Node) → left ≡ [] →
    row_steps (most_rounds b set) left last ≤ row_steps (most_rounds b set) gs last →
    IfOk R (λ n. next_left m b set n ≤ row_steps (most_rounds b set) [] last) →
    IfOk R (λ n. next_left m b set n ≤ row_steps (most_rounds b set) gs last)
last_falls m b set R gs left last none few h =
    let less : row_steps (most_rounds b set) [] last ≤ row_steps (most_rounds b set) gs last =
    subst (λ (x : List node.Node). row_steps (most_rounds b set) x last ≤ row_steps (most_rounds b set) gs last) none few in
    IfOk-weaker R (λ n. next_left m b set n ≤ row_steps (most_rounds b set) [] last)
    (λ n. next_left m b set n ≤ row_steps (most_rounds b set) gs last) (λ n here. omega (arith, less, here)) h

module _ {V H : Type 0} (m : Abstraction V H) (set : Plan) where
  -- what comes next in a row is less than what was left at its place
  pub row_falls : {E : Type 0} (R : outcome_or.Result (next.Next V H) E) (b n : ℕ) →
      IfOk R (λ x. next_left m b set x ≤ n) → IfOk R (λ x. next_left m b set x < 1 + n)
  row_falls R b n h = IfOk-weaker R (λ x. next_left m b set x ≤ n) (λ x. next_left m b set x < 1 + n)
      (λ x here. omega (arith, here)) h

  pub row_less : {E : Type 0} (R : outcome_or.Result (next.Next V H) E) (b n all : ℕ) → all ≡ 1 + n →
      IfOk R (λ x. next_left m b set x ≤ n) → IfOk R (λ x. next_left m b set x < all)
  row_less R b n all is h = IfOk-weaker R (λ x. next_left m b set x ≤ n) (λ x. next_left m b set x < all)
      (λ x here. omega (arith, here, is)) h

-- the row is owed with its own plan
pub row_way : {V H F : Type 0} (among : F → Interference V) (others : F) (m : Abstraction V H) (set : Plan) (r : Row)
    (so_far : PassOutcome V) (whole : PassTask V) (memory : LoopCache V) → r.plan.now ≡ set →
    MayBePassed (among others) m set whole → RowLoop (among others) m set whole.tree whole.flag whole.value
    (row (map node_view r.trees.now) (node_view r.last.now)) so_far.found so_far.normal so_far.flag whole.memory memory →
    (others : F) × (whole : PassTask V) × (memory : LoopCache V) × MayBePassed (among others) m r.plan.now whole ×
    RowLoop (among others) m r.plan.now whole.tree whole.flag whole.value
    (row (map node_view r.trees.now) (node_view r.last.now)) so_far.found so_far.normal so_far.flag whole.memory memory
row_way among others m set r so_far whole memory same may loop = (
  others,
  whole,
  memory,
  subst (λ (s : Plan). MayBePassed (among others) m s whole) (sym same) may,
  subst (λ (s : Plan). RowLoop (among others) m s whole.tree whole.flag whole.value (row (map node_view r.trees.now)
      (node_view r.last.now)) so_far.found so_far.normal so_far.flag whole.memory memory) (sym same) loop,
)

module _ {V H : Type 0} (o : Interference V) (m : Abstraction V H) (set : Plan) where
  -- the first of those that are left fits
  pub first_fits : (gs gs' : List node.Node) (n last : node.Node) (leaf : Node) (whole : PassTask V) (memory : LoopCache V)
      (so_far : PassOutcome V) → gs ≡ n ∷ gs' → node_view n ≡ leaf →
      RowLoop o m set whole.tree whole.flag whole.value (row (map node_view gs) (node_view last)) so_far.found so_far.normal
      so_far.flag whole.memory memory → TreeFits leaf (m.dims so_far.normal)
  first_fits gs gs' n last leaf whole memory so_far first is loop =
      subst (λ (g : Node). TreeFits g (m.dims so_far.normal)) is
      (next_fits o m set whole.tree whole.flag whole.value _ so_far.found so_far.normal so_far.flag whole.memory memory loop
      _ _ (row_first gs gs' n last first))

  -- the last alone is left
  pub row_alone : (gs : List node.Node) (last : node.Node) (whole : PassTask V) (memory : LoopCache V) (so_far : PassOutcome V) →
      gs ≡ [] → RowLoop o m set whole.tree whole.flag whole.value (row (map node_view gs) (node_view last)) so_far.found
      so_far.normal so_far.flag whole.memory memory → RowLoop o m set whole.tree whole.flag whole.value (node_view last)
      so_far.found so_far.normal so_far.flag whole.memory memory
  row_alone gs last whole memory so_far none loop =
      subst (λ (g : Node). RowLoop o m set whole.tree whole.flag whole.value g so_far.found so_far.normal so_far.flag
      whole.memory memory) (row_last gs last none) loop

  -- it is passed by this plan
  passed_so : (plan : Plan) (n : node.Node) (g : Node) (so_far : PassOutcome V) (t : PassResult V) → plan ≡ set →
      node_view n ≡ g → IsPassed o m plan g so_far.flag so_far.normal t →
      IsPassed o m set (node_view n) so_far.flag so_far.normal t
  passed_so plan n g so_far t same is one = subst (λ (x : Node). IsPassed o m set x so_far.flag so_far.normal t) (sym is)
      (subst (λ (s : Plan). IsPassed o m s g so_far.flag so_far.normal t) same one)

  -- what follows is the first of those that are left
  pub first_followed : (behind : Row) (gs : List node.Node) (n : node.Node) (g : Node) (whole : PassTask V)
      (memory : LoopCache V) (so_far r : PassOutcome V) → behind.plan.now ≡ set → gs ≡ n ∷ behind.trees.now →
      node_view n ≡ g → Follows o m behind.plan.now g so_far r →
      RowLoop o m set whole.tree whole.flag whole.value (row (map node_view gs) (node_view behind.last.now)) so_far.found
      so_far.normal so_far.flag whole.memory memory → RowLoop o m set whole.tree whole.flag whole.value
      (row (map node_view behind.trees.now) (node_view behind.last.now)) r.found r.normal r.flag whole.memory memory
  first_followed behind gs n g whole memory so_far r same first is followed loop =
      let t = followed.0 in
      let one = passed_so behind.plan.now n g so_far t same is followed.1 in
      row_next o m set whole.tree whole.flag whole.value _ so_far.found so_far.normal so_far.flag whole.memory memory loop
      _ _ (row_first gs behind.trees.now n behind.last.now first) t r.found r.normal r.flag memory
      (stays_passed o m set (node_view n) so_far.flag so_far.normal t memory one) one followed.2 followed.3 followed.4

  -- it is the last
  pub last_followed : (plan : Plan) (n : node.Node) (g : Node) (whole : PassTask V) (memory : LoopCache V)
      (so_far r : PassOutcome V) → plan ≡ set → node_view n ≡ g → Follows o m plan g so_far r →
      RowLoop o m set whole.tree whole.flag whole.value (node_view n) so_far.found so_far.normal so_far.flag whole.memory
      memory → IsMade o m set whole (outcome_view r) memory
  last_followed plan n g whole memory so_far r same is followed loop =
      let t = followed.0 in
      let one = passed_so plan n g so_far t same is followed.1 in
      record {
        passed = row_ends o m set whole.tree whole.flag whole.value _ so_far.found so_far.normal so_far.flag whole.memory
            memory loop _ refl t r.found r.normal r.flag one followed.2 followed.3 followed.4;
        stays = subst (λ (f : Option ℕ). StaysKept o m set whole.tree whole.flag whole.memory f memory) (sym followed.4)
            (row_stays o m set whole.tree whole.flag whole.value _ so_far.found so_far.normal so_far.flag whole.memory
            memory loop _ refl t.flag memory (stays_passed o m set (node_view n) so_far.flag so_far.normal t memory one));
      }
