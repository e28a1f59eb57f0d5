-- The moves of what is done on a segment: those of a least change; if a value goes to a label, it is that label's
-- value, and if it goes to none, it is none of the labels'.
use Rattle.std.specs.Prelude.{ℕ, List, [], ◌∷◌, true, false}
use Rattle.lra_path_disjuncts.specs.Crates.lra_analysis_spec.Linearization.{linearized}
use Rattle.lra_path_disjuncts.specs.Crates.lra_analysis_spec.Live.{live_after_op}
use Rattle.lra_path_disjuncts.specs.Crates.lra_analysis_spec.MovesOf.{moves_of, number_moves}
use Rattle.lra_path_disjuncts.specs.Crates.lra_analysis_spec.declared.linearization.Linearized.{Linearized}
use Rattle.lra_path_disjuncts.specs.Crates.lra_base.declared.case_labels.CaseLabel.{CaseLabel}
use Rattle.lra_path_disjuncts.specs.Crates.lra_base.declared.case_labels.CaseLabel.TheVariants.{Case, Default}
use Rattle.lra_path_disjuncts.specs.Crates.lra_domain.Moves.{Moves, stay, first_then}
use Rattle.lra_path_segments.specs.Segments.{SegmentStep, does, goes}

-- what is seen has none of the labels' values: `!=` for one after the other, so the last one's disjuncts are the outer
-- ones
abbrev pub unmatched_moves : ℕ → Linearized → List CaseLabel → Moves
unmatched_moves live s [] = stay
unmatched_moves live s (Case z ∷ labels) = first_then (number_moves live false s z) (unmatched_moves live s labels)
unmatched_moves live s (Default ∷ labels) = unmatched_moves live s labels

-- what is seen goes to this one of the labels
abbrev pub label_moves : ℕ → Linearized → List CaseLabel → CaseLabel → Moves
label_moves live s labels (Case z) = number_moves live true s z
label_moves live s labels Default = unmatched_moves live s labels

abbrev pub step_moves : ℕ → SegmentStep → Moves
step_moves live (does op) = moves_of live op
step_moves live (goes base e labels l) = label_moves live (linearized live base e) labels l

-- how many variables live after it
abbrev pub dims_after_step : SegmentStep → ℕ → ℕ
dims_after_step (does op) live = live_after_op op live
dims_after_step (goes base e labels l) live = live
