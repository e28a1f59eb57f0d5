-- Where the moves of a value that goes to none of a `switch`'s labels stand in a table.
use Rattle.std.specs.Prelude.{◌≡◌, ℕ, List, ◌++◌}
use Rattle.lra_path_disjuncts.specs.Crates.lra_analysis_spec.declared.linearization.Linearized.{Linearized}
use Rattle.lra_path_disjuncts.specs.Crates.lra_base.declared.case_labels.CaseLabel.{CaseLabel}
use Rattle.lra_path_disjuncts.specs.Crates.lra_operations.declared.tree.Arm.{Arm}
use Rattle.lra_path_disjuncts.specs.{StepMoves.unmatched_moves, Tables.Has, declared.tables.MovesEntry.MovesEntry}
use Rattle.lra_path_segments.specs.Labels.{label_at, labels_in}

-- one arm more, in front of whichever labels the later ones are
abbrev pub PutsLabel : List MovesEntry → List MovesEntry → ℕ → Linearized → Arm → ℕ → ℕ → Type 0
PutsLabel es fs live s a later place = (labels : List CaseLabel) → Has es later (unmatched_moves live s labels) →
    Has fs place (unmatched_moves live s (label_at a ++ labels))

-- the labels after those that are left are passed
abbrev pub ArePassed : List MovesEntry → ℕ → Linearized → List Arm → List Arm → ℕ → Type 0
ArePassed es live s arms left place = (labels : List CaseLabel) × (labels_in arms ≡ labels_in left ++ labels) ×
    Has es place (unmatched_moves live s labels)
