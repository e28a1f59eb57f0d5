-- Which places are reached, and how a search reaches them.
use Rattle.std.specs.Prelude.{◌≡◌, ◌<◌, ◌+◌, ◌⊎◌, ℕ, Bool, true, false, List, length, slice_index_or, slice_get, Some}
use Rattle.std.specs.{List.sum_by, Prelude.Contains}

-- that with which a search begins, and those in the row of one that is reached
pub data IsReachableFrom (rows : List (List ℕ)) (start : ℕ) : ℕ → Type 0 where
  begins : start < length rows → IsReachableFrom rows start start
  goes_on : (j k : ℕ) (row : List ℕ) → k < length rows → IsReachableFrom rows start j → slice_get rows j ≡ Some row →
      Contains row k
      → IsReachableFrom rows start k

-- marked in a list of truth values
abbrev pub IsVisited : List Bool → ℕ → Type 0
IsVisited met k = slice_index_or met k false ≡ true

-- how many are not met
abbrev pub missing : Bool → ℕ
missing true = 0
missing false = 1

abbrev pub unvisited_count : List Bool → ℕ
unvisited_count met = sum_by missing met

-- some places are met: those that weren't are open then
pub record MarksVisited (places : List ℕ) (met : List Bool) (open_ones : List ℕ) (met_then : List Bool)
    (open_then : List ℕ)
    : Type 0 where
  pub size : length met_then ≡ length met
  pub kept : (k : ℕ) → IsVisited met k → IsVisited met_then k
  pub meets : (k : ℕ) → k < length met → Contains places k → IsVisited met_then k
  pub only : (k : ℕ) → IsVisited met_then k → IsVisited met k ⊎ Contains places k
  pub still_open : (k : ℕ) → Contains open_ones k → Contains open_then k
  pub opens : (k : ℕ) → IsVisited met_then k → IsVisited met k ⊎ Contains open_then k
  pub open_met : (k : ℕ) → Contains open_then k → Contains open_ones k ⊎ IsVisited met_then k
  pub work : unvisited_count met_then + length open_then ≡ unvisited_count met + length open_ones
