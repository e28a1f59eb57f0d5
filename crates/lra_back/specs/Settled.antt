-- Points that need no turn: what they would take is in their heads already.
use Rattle.std.specs.Prelude.{◌≡◌, ◌≢◌, ◌⊎◌, ℕ, List, [], length, Option, Some, Bool, true, false, slice_get}
use Rattle.lra_domain.specs.{Abstraction.Abstraction, Backward.BackwardAbstraction, declared.Exactness.Exactness}
use Rattle.lra_domain.specs.{declared.Mode.Mode, declared.Mode.TheVariants.Widen}
use Rattle.lra_back.specs.Crates.lra_analysis_spec.Pass.{noted}
use Rattle.lra_back.specs.BackwardCalls.{AreHeads, IsNextAt, task_view}
use Rattle.lra_back.specs.Operations.{BackwardOperations, lossy_back_operations}
use Rattle.lra_back.specs.{declared.rounds.BackwardState.BackwardState, declared.tasks.Task.Task}
use Rattle.lra_back.specs.Rounds as rounds

-- the point's next value over these heads lies in its own if that widens, and adds no flag
pub record IsSettled {V H : Type 0} (ops : BackwardOperations V H) (task : rounds.Task V) (heads : List H)
    (f : Option ℕ)
    (p : ℕ) : Type 0 where
  pub head : H
  pub is_there : slice_get heads p ≡ Some head
  pub exactness : Exactness
  pub next : V
  pub is_next : IsNextAt ops task p heads exactness next
  pub stays : ops.forward.stays head next Widen
  pub noted_before : noted p exactness f ≡ f

-- each point that is marked is settled
pub record AreSettled {V H : Type 0} (ops : BackwardOperations V H) (task : rounds.Task V) (heads : List H)
    (f : Option ℕ)
    (settled : List Bool) : Type 0 where
  pub count : length settled ≡ length task.forward
  pub each : (p : ℕ) → slice_get settled p ≡ Some true → IsSettled ops task heads f p

-- After a turn of the point: if its head was stable, it may be marked if the round widens; else neither it nor any
-- point from which paths lead to it is marked.
abbrev pub Settles : {V : Type 0} → rounds.Task V → Mode → ℕ → Bool → List Bool → List Bool → Type 0
Settles task mode p true old new = (length new ≡ length old) × ((q : ℕ) → slice_get new q ≡ Some true →
    (slice_get old q ≡ Some true) ⊎ ((q ≡ p) × (mode ≡ Widen)))
Settles task mode p false old new = (length new ≡ length old) × ((q : ℕ) → slice_get new q ≡ Some true →
    (slice_get old q ≡ Some true) × (q ≢ p) × (task.paths q p ≡ []))

-- the heads are those of the task's points, and marked points are settled
pub record IsBackwardState {V H : Type 0} (m : Abstraction V H) (b : BackwardAbstraction V) (t : Task V)
    (going : BackwardState H) : Type 0 where
  pub heads : AreHeads m t.forward.now going.heads.items
  pub settled : AreSettled (lossy_back_operations m b) (task_view t) going.heads.items going.flag going.settled.items
