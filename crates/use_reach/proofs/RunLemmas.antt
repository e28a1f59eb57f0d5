-- What each step keeps, a run keeps.
use Rattle.std.proofs.Common.{◌≡◌, ℕ, zero, suc, ℤ, List}
use Rattle.guzhtarel.specs.{Domains.Actions.Action, Domains.Moves.SomeLeads}
use Rattle.use_reach.specs.Runs.{Runs, Reaches}

run_kept : (P : List ℤ → Type 0) (ways : List (List Action)) → ((s t : List ℤ) → P s → SomeLeads ways s t → P t)
    → (k : ℕ) (s t : List ℤ) → P s → Runs ways k s t → P t
run_kept P ways keeps zero s t holds run = rw run holds
run_kept P ways keeps (suc k) s t holds run = run_kept P ways keeps k run.0 t (keeps s run.0 holds run.1) run.2

pub reach_kept : (P : List ℤ → Type 0) (ways : List (List Action)) → ((s t : List ℤ) → P s → SomeLeads ways s t → P t)
    → (s t : List ℤ) → P s → Reaches ways s t → P t
reach_kept P ways keeps s t holds run = run_kept P ways keeps run.0 s t holds run.1
