-- What is still to be written of the disjuncts of moves in a table.
use Rattle.std.specs.Prelude.{ℕ, ◌+◌, ◌-◌, nat_lt, if◌then◌else◌, List, [], ◌∷◌, ◌++◌, map, Vec}
use Rattle.std.specs.{Borrow.Bor, Global.Global, List.sum_by}
use Rattle.lra_path_disjuncts.specs.Crates.lra_domain.Changes.{action_of}
use Rattle.lra_path_disjuncts.specs.Crates.lra_domain.Moves.{Moves, stay, make, first_then, join_of}
use Rattle.lra_path_disjuncts.specs.Crates.{lra_domain.Actions.Action, lra_domain.declared.changes.Change.Change}
use Rattle.lra_path_disjuncts.specs.{Tables.moves_at, Tables.disjunct_at, declared.tables.MovesEntry.MovesEntry}
use Rattle.lra_path_disjuncts.specs.{declared.tables.PendingDisjunct.PendingDisjunct}

-- what is written
abbrev pub all_done : List (Bor Change) → List Action
all_done changes = map (λ c. action_of c.now) changes

abbrev pub lists_done : List (Vec (Bor Change) Global) → List (List Action)
lists_done lists = map (λ v. all_done v.items) lists

-- what is due, the last of the list first
abbrev pub disjunct_pending : List MovesEntry → PendingDisjunct → List Action
disjunct_pending es d = disjunct_at (moves_at es d.place) d.number

abbrev pub all_pending : List MovesEntry → List PendingDisjunct → List Action
all_pending es [] = []
all_pending es (d ∷ ds) = all_pending es ds ++ disjunct_pending es d

abbrev pub one_of : ℕ → ℕ → ℕ → ℕ → PendingDisjunct
one_of count one other n = if nat_lt n count then (record { place = one; number = n })
    else (record { place = other; number = n - count })

-- how many steps are left, so that the writing ends
abbrev pub moves_size : Moves → ℕ
moves_size stay = 1
moves_size (make step) = 1
moves_size (first_then a b) = 1 + (moves_size a + moves_size b)
moves_size (join_of a b) = 1 + (moves_size a + moves_size b)

abbrev pub pending_size : List MovesEntry → PendingDisjunct → ℕ
pending_size es d = moves_size (moves_at es d.place)

abbrev pub pending_disjuncts_size : List MovesEntry → List PendingDisjunct → ℕ
pending_disjuncts_size es ds = sum_by (pending_size es) ds
