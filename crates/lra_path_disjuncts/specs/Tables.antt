-- Moves in a table, each after those of which it is made, so that what stands in several of them stands there once;
-- and how many disjuncts each has, counted no further than is asked.
use Rattle.std.specs.Prelude.{◌≡◌, ◌<◌, ℕ, suc, ◌-◌, ◌/◌, ◌%◌, min, nat_lt, if◌then◌else◌, List, [], ◌∷◌, ◌++◌, length}
use Rattle.std.specs.Prelude.{Option, Some, None, slice_get}
use Rattle.lra_path_disjuncts.specs.Crates.lra_domain.Moves.{Moves, stay, make, first_then, join_of}
use Rattle.lra_path_disjuncts.specs.Crates.{lra_domain.Actions.Action, lra_domain.Changes.action_of}
use Rattle.lra_path_disjuncts.specs.Disjuncts.{disjuncts, greatest_paths}
use Rattle.lra_path_disjuncts.specs.declared.tables.MovesNode.TheVariants.{Stay, Make, FirstThen, JoinOf}
use Rattle.lra_path_disjuncts.specs.{declared.tables.MovesEntry.MovesEntry, declared.tables.MovesNode.MovesNode}

-- counts ------------------------------------------------------------------------------------------------------------

abbrev pub count_of : Moves → ℕ
count_of p = length (disjuncts p)

-- no further than to one more than the greatest number of paths
abbrev pub capped : ℕ → ℕ
capped n = min n (suc greatest_paths)

-- tables ------------------------------------------------------------------------------------------------------------

abbrev pub or_stay : Option Moves → Moves
or_stay None = stay
or_stay (Some p) = p

-- what an entry after these moves stands for
abbrev pub made_of : List Moves → MovesNode → Moves
made_of ms Stay = stay
made_of ms (Make change) = make (action_of change)
made_of ms (FirstThen a b) = first_then (or_stay (slice_get ms a)) (or_stay (slice_get ms b))
made_of ms (JoinOf a b) = join_of (or_stay (slice_get ms a)) (or_stay (slice_get ms b))

abbrev pub added : List Moves → List MovesEntry → List Moves
added ms [] = ms
added ms (e ∷ es) = added (ms ++ made_of ms e.moves ∷ []) es

abbrev pub all_moves : List MovesEntry → List Moves
all_moves es = added [] es

abbrev pub moves_at : List MovesEntry → ℕ → Moves
moves_at es i = or_stay (slice_get (all_moves es) i)

-- what it is made of stands before it
abbrev pub IsMadeOfEarlier : ℕ → MovesNode → Type 0
IsMadeOfEarlier n Stay = Unit {0}
IsMadeOfEarlier n (Make change) = Unit {0}
IsMadeOfEarlier n (FirstThen a b) = (a < n) × (b < n)
IsMadeOfEarlier n (JoinOf a b) = (a < n) × (b < n)

abbrev pub HasDisjunctCounts : List Moves → List MovesEntry → Type 0
HasDisjunctCounts ms [] = Unit {0}
HasDisjunctCounts ms (e ∷ es) =
    IsMadeOfEarlier (length ms) e.moves × (e.disjuncts ≡ capped (count_of (made_of ms e.moves)))
    × HasDisjunctCounts (ms ++ made_of ms e.moves ∷ []) es

abbrev pub IsTable : List MovesEntry → Type 0
IsTable es = HasDisjunctCounts [] es

-- the moves stand at this place
abbrev pub Has : List MovesEntry → ℕ → Moves → Type 0
Has es i p = slice_get (all_moves es) i ≡ Some p

-- each stays at its place
abbrev pub Grows : List MovesEntry → List MovesEntry → Type 0
Grows es fs = (i : ℕ) (p : Moves) → Has es i p → Has fs i p

-- disjuncts ---------------------------------------------------------------------------------------------------------

-- The disjunct of this number, if there are no more than may be: of moves one after the other those of the later are
-- the outer ones.
abbrev pub disjunct_at : Moves → ℕ → List Action
disjunct_at stay n = []
disjunct_at (make step) n = step ∷ []
disjunct_at (first_then a b) n = disjunct_at a (n % capped (count_of a)) ++ disjunct_at b (n / capped (count_of a))
disjunct_at (join_of a b) n =
    if nat_lt n (capped (count_of a)) then disjunct_at a n else disjunct_at b (n - capped (count_of a))
