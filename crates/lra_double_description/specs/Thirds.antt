-- Third rays, found by the columns of the matrix of the rows that are tight at the rays.
use Rattle.std.specs.Prelude.{ℕ, ◌<◌, Bool, List, length, Option, Some, None}
use Rattle.lra_bits.specs.TruthValues.{true_count}
use Rattle.lra_double_description.specs.Pairs.{HasThird, NoThird, both_tight}

-- whether a third ray is tight wherever `tight` is true
abbrev pub TellsThird : List (List Bool) → ℕ → ℕ → List Bool → Option ℕ → Type 0
TellsThird rows up down tight None = NoThird rows up down tight (length rows)
TellsThird rows up down tight (Some k) = HasThird rows up down tight

-- two rays at which fewer rows than `least` are both tight have a third that is tight wherever both are
abbrev pub FewHaveThird : List (List Bool) → ℕ → Type 0
FewHaveThird rows least = (up down : ℕ) → up < length rows → down < length rows →
    true_count (both_tight rows up down) < least → HasThird rows up down (both_tight rows up down)
