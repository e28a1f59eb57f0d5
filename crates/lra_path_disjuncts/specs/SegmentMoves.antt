-- The moves of a segment: its changes of the program, one after the other.
use Rattle.std.specs.Prelude.{ℕ, List, [], ◌∷◌}
use Rattle.lra_path_disjuncts.specs.Crates.lra_domain.Moves.{Moves, stay, first_then}
use Rattle.lra_path_segments.specs.Segments.{SegmentStep}
use Rattle.lra_path_disjuncts.specs.StepMoves.{step_moves, dims_after_step}

-- after these moves, if so many variables live
abbrev pub segment_moves_on : Moves → ℕ → List SegmentStep → Moves
segment_moves_on p live [] = p
segment_moves_on p live (step ∷ ops) =
    segment_moves_on (first_then p (step_moves live step)) (dims_after_step step live) ops

abbrev pub segment_moves : ℕ → List SegmentStep → Moves
segment_moves live ops = segment_moves_on stay live ops

-- how many variables live after all of them
abbrev pub live_after_steps : ℕ → List SegmentStep → ℕ
live_after_steps live [] = live
live_after_steps live (step ∷ ops) = live_after_steps (dims_after_step step live) ops
