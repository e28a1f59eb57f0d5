-- Rows that were left out.
use Rattle.std.specs.Prelude.{List, [], ◌∷◌}
use Rattle.lra_cone.specs.Crates.lra_linear_spec.Strain as strain

-- the first of the losses is as stated; nothing is reported about later ones
abbrev pub IfLost : (strain.Loss → Type 0) → List strain.Loss → Type 0
IfLost IsLoss [] = Unit {0}
IfLost IsLoss (loss ∷ later) = IsLoss loss
