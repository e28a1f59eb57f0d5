-- Chains of conditions.
use Rattle.std.specs.Prelude.{ℕ, Bool, not, List, [], ◌∷◌}
use Rattle.lra_linearize.specs.Crates.lra_domain.Moves.{Moves, first_then, join_of}
use Rattle.lra_linearize.specs.Crates.lra_program.Program.{Cond}
use Rattle.lra_analysis_spec.specs.MovesOf.{guard}

-- one after the other
abbrev pub in_turn_of : ℕ → ℕ → Bool → Cond → List Cond → Moves
in_turn_of live base wanted c [] = guard live base wanted c
in_turn_of live base wanted c (d ∷ ds) = first_then (guard live base wanted c) (in_turn_of live base wanted d ds)

-- the first, or if it isn't so the others
abbrev pub either_of : ℕ → ℕ → Bool → Cond → List Cond → Moves
either_of live base wanted c [] = guard live base wanted c
either_of live base wanted c (d ∷ ds) =
    join_of (guard live base wanted c) (first_then (guard live base (not wanted) c) (either_of live base wanted d ds))
