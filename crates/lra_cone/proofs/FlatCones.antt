-- What is reported about a cone's lists with a line across.
use Rattle.std.proofs.Common.{◌≡◌, ℕ, ◌<◌, Bool, List, [], length, get_or, map, take, refl, pos, ℤ, inl, inr}
use Rattle.lra_cone.specs.Crates.lra_linear_spec.Vectors.{product}
use Rattle.lra_double_description.specs.Strains.{IsFlatteningError}
use Rattle.lra_double_description.specs.{Steps.IsTurned, declared.line_step.Across.Across, declared.strained.Family.TheVariants.Lines, declared.strained.Family.TheVariants.Rays}
use Rattle.lra_double_description.specs.declared.strained.ConeError as C
use Rattle.lra_double_description.specs.declared.strained.ConeError.TheVariants as of_cone
use Rattle.lra_cone.specs.{Cones.ConeContent, Cones.IsCone, Flat.IsFlatError, Strains.IsConeError}
use Rattle.lra_cone.proofs.StrainLemmas.{turned_at, flat_front_error, flat_rays_error}

pub flat_lines_told : (s : ConeContent) (place : ℕ) (of_lines of_rays : List ℤ) (line : Across) (e : C.ConeError) → IsTurned (get_or s.lines place []) place (get_or of_lines place (pos 0)) line →
    IsFlatteningError line (take line.place of_lines) (take line.place s.lines) Lines e → IsFlatError s place of_lines of_rays e
flat_lines_told s place of_lines of_rays line of_cone.Memory t x = tt
flat_lines_told s place of_lines of_rays line (of_cone.Strained strained) t x = record { line = line; turned = t; told = inl x }

pub flat_rays_told : (s : ConeContent) (place : ℕ) (of_lines of_rays : List ℤ) (line : Across) (e : C.ConeError) → IsTurned (get_or s.lines place []) place (get_or of_lines place (pos 0)) line →
    IsFlatteningError line of_rays s.rays Rays e → IsFlatError s place of_lines of_rays e
flat_rays_told s place of_lines of_rays line of_cone.Memory t x = tt
flat_rays_told s place of_lines of_rays line (of_cone.Strained strained) t x = record { line = line; turned = t; told = inr x }

-- the cone exceeds a limit
pub flat_error : (s : ConeContent) → IsCone s → (equal : Bool) (c : List ℤ) (place : ℕ) (of_lines of_rays : List ℤ) (e : C.ConeError) → of_lines ≡ map (product c) s.lines →
    of_rays ≡ map (product c) s.rays → place < length s.lines → IsFlatError s place of_lines of_rays e → IsConeError s equal c e
flat_error s k equal c place of_lines of_rays of_cone.Memory el er h x = tt
flat_error s k equal c place of_lines of_rays (of_cone.Strained strained) el er h x =
    let t = turned_at s c of_lines place x.line el h x.turned in
    elim x.told [
      | inl a ↦ flat_front_error s k equal c place x.line h t of_lines s.lines (of_cone.Strained strained) refl el a
      | inr a ↦ flat_rays_error s k equal c place x.line h t of_rays s.rays (of_cone.Strained strained) refl er a
    ]
