-- What comes of a cone's lists with a line across: each other row is combined with that line.
use Rattle.std.specs.Prelude.{◌≡◌, ◌⊎◌, ℕ, ℤ, pos, Bool, List, [], take, slice_index_or}
use Rattle.lra_cone.specs.Crates.lra_bits.Matrix.{Matrix}
use Rattle.lra_double_description.specs.Steps.{IsTurned, AreFlatLines, AreFlatRays, flat_matrix}
use Rattle.lra_double_description.specs.Strains.{NamesFlattening}
use Rattle.lra_double_description.specs.declared.strained.Family.TheVariants.{Lines, Rays}
use Rattle.lra_double_description.specs.{declared.line_step.Across.Across, declared.strained.Strained.Strained}
use Rattle.lra_double_description.specs.declared.strained.ConeError as C
use Rattle.lra_double_description.specs.declared.strained.ConeError.TheVariants as of_cone
use Rattle.lra_cone.specs.Cones.{ConeContent, cone_saturation}

-- the lists and the matrix, by the products of a row with the lines and rays
pub record AreFlat (equal : Bool) (s : ConeContent) (place : ℕ) (of_lines of_rays : List ℤ) (lines rays : List (List ℤ))
    (matrix : Matrix) : Type 0 where
  pub line : Across
  pub turned : IsTurned (slice_index_or s.lines place []) place (slice_index_or of_lines place (pos 0)) line
  pub are_lines : AreFlatLines line of_lines s.lines lines
  pub are_rays : AreFlatRays equal line of_rays s.rays rays
  pub is_matrix : matrix ≡ flat_matrix equal (cone_saturation s.taken s.rays)

-- what some line or ray of the cone and the line at the place combine to passes
pub record NamesFlat (s : ConeContent) (place : ℕ) (of_lines of_rays : List ℤ) (strained : Strained) : Type 0 where
  pub line : Across
  pub turned : IsTurned (slice_index_or s.lines place []) place (slice_index_or of_lines place (pos 0)) line
  pub told : NamesFlattening line (take line.place of_lines) (take line.place s.lines) Lines strained
      ⊎ NamesFlattening line of_rays s.rays Rays strained

abbrev pub IsFlatError : ConeContent → ℕ → List ℤ → List ℤ → C.ConeError → Type 0
IsFlatError s place of_lines of_rays (of_cone.Strained strained) = NamesFlat s place of_lines of_rays strained
IsFlatError s place of_lines of_rays of_cone.Memory = Unit {0}
