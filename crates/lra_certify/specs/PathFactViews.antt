-- Lines of one path as the code writes them, over its premises and the rows of the variables after it.
use Rattle.std.specs.Prelude.{◌≡◌, ◌⊎◌, ◌++◌, ◌≤ℤ◌, suc, ℤ, pos, ℕ, List, ◌∷◌, map, codes, Result, Ok, Err, Option}
use Rattle.std.specs.{List.AllZip, Prelude.None, Prelude.Some, Prelude.Contains}
use Rattle.lra_certify.specs.Crates.lra_certificate_spec.CertificateText.{multipliers_text, evidence_text}
use Rattle.lra_certify.specs.Crates.lra_certificate_spec.Certificates.{Evidence, none, infeasible, implies, AreNumbers}
use Rattle.lra_certify.specs.Crates.lra_linear_spec.Descriptions.{Con, system_of}
use Rattle.lra_certify.specs.Crates.lra_linear_spec.Points.{IsPoint, IsEmptySet}
use Rattle.lra_certify.specs.Crates.lra_linear_spec.Vectors.{entry, product}
use Rattle.lra_certify.specs.Crates.lra_multipliers.Multipliers.{Multipliers, yes, IsAnswer}
use Rattle.lra_certify.specs.Crates.{lra_certificate_lines.PathCheckViews.claimed}
use Rattle.lra_certify.specs.Crates.{lra_certificate_lines.declared.path_checks.PathFacts.PathFacts}
use Rattle.lra_certify.specs.Crates.{lra_certificate_spec.Judged.RowsAtPoint, lra_linear_spec.declared.Excess.Excess}
use Rattle.lra_certify.specs.Crates.{lra_row_text.Texts.text_line, lra_systems.LinearSystems.constraints}
use Rattle.lra_farkas.specs.FirstMultipliers.{AreFirst, MultipliersStrain}
use Rattle.lra_farkas.specs.MultiplierRows.{multiplier_dims, multiplier_rows, AreAsWide}
use Rattle.lra_farkas.specs.declared.first.MultipliersFailure.{MultipliersFailure}
use Rattle.lra_farkas.specs.declared.first.MultipliersFailure.TheVariants.{NotImplied, Strained, Memory}
use Rattle.lra_certify.specs.Each.{Stops, AddsEach, IsLeft}
use Rattle.lra_certify.specs.{InductiveRows.IsIn, declared.failures.PathFailure.PathFailure}
use Rattle.lra_certify.specs.declared.failures.PathFailure.TheVariants as of_path

-- the claim over the symbols: a row over the variables, or that nothing is left
abbrev pub claim_on : PathFacts → Option (List ℤ) → Result (List ℤ) Excess
claim_on g claim = claimed claim (suc g.premises.dims) g.forms.items

-- the values of the forms at values of the symbols, as a point
abbrev pub led_to : PathFacts → List ℤ → List ℤ
led_to g x = entry x 0 ∷ map (λ f. product f x) g.forms.items

-- wherever the premises hold, that is a point of the target
abbrev pub AllLead : PathFacts → RowsAtPoint → Type 0
AllLead g target = (x : List ℤ) → IsPoint g.premises.dims x → Con (constraints g.premises) x →
    IsIn target (led_to g x)

-- the claim holds there
abbrev pub HoldsOn : PathFacts → List ℤ → Type 0
HoldsOn g claim = (x : List ℤ) → IsPoint g.premises.dims x → Con (constraints g.premises) x →
    pos 0 ≤ℤ product claim (led_to g x)

abbrev pub AllHold : PathFacts → List (List ℤ) → Type 0
AllHold g claims = (claim : List ℤ) → Contains claims claim → HoldsOn g claim

-- the first multipliers that show the claim, as they can be written
pub record IsLine (g : PathFacts) (claim : Option (List ℤ)) (m : Multipliers) : Type 0 where
  pub row : List ℤ
  pub made : claim_on g claim ≡ Ok row
  pub shown : IsAnswer (constraints g.premises) row m yes
  pub first : AreFirst (constraints g.premises) row m
  pub numbers : AreNumbers m

-- none show it
pub record IsNotShown (g : PathFacts) (claim : Option (List ℤ)) : Type 0 where
  pub row : List ℤ
  pub made : claim_on g claim ≡ Ok row
  pub wide : AreAsWide (constraints g.premises) row
  pub never : IsEmptySet (multiplier_dims (constraints g.premises))
      (Con (multiplier_rows (constraints g.premises) row))

abbrev pub LineStrains : PathFacts → Option (List ℤ) → Type 0
LineStrains g claim = ((e : Excess) × (claim_on g claim ≡ Err e))
    ⊎ ((row : List ℤ) × (claim_on g claim ≡ Ok row) × MultipliersStrain (constraints g.premises) row)

-- why a claim has no line
abbrev pub IsLineFailure : PathFacts → Option (List ℤ) → MultipliersFailure → Type 0
IsLineFailure g claim NotImplied = IsNotShown g claim
IsLineFailure g claim Strained = LineStrains g claim
IsLineFailure g claim Memory = Unit {0}

-- a fact of what exceeds a limit, unless memory ran out
abbrev pub IfStrained : Type 0 → PathFailure → Type 0
IfStrained X of_path.Strained = X
IfStrained X of_path.Memory = Unit {0}

-- lines of claims, one after the other
abbrev pub by_line : List ℤ → Multipliers → List ℕ
by_line claim m = text_line (multipliers_text (codes "by") m)

abbrev pub IsClaimLine : PathFacts → List ℤ → Multipliers → Type 0
IsClaimLine g claim m = IsLine g (Some claim) m

abbrev pub ClaimStrained : PathFacts → List ℤ → Type 0
ClaimStrained g claim = LineStrains g (Some claim)

abbrev pub AddsLines : PathFacts → List (List ℤ) → List ℕ → List ℕ → Type 0
AddsLines g claims old new = AddsEach (IsClaimLine g) by_line claims old new

abbrev pub SomeStrains : PathFacts → List (List ℤ) → Type 0
SomeStrains g claims = (claim : List ℤ) × Stops (IsClaimLine g) (ClaimStrained g) claims claim

abbrev pub LinesLeft : PathFacts → List (List ℤ) → List (List ℤ) → List ℕ → List ℕ → Type 0
LinesLeft g rest all now start = IsLeft (IsClaimLine g) (ClaimStrained g) by_line rest all now start

-- evidence for a target
abbrev pub IsEvidence : PathFacts → RowsAtPoint → Evidence → Type 0
IsEvidence g target none = ⊥
IsEvidence g target (infeasible m) = IsLine g None m
IsEvidence g None (implies ms) = ⊥
IsEvidence g (Some rows) (implies ms) =
    IsNotShown g None × AllZip (IsClaimLine g) (system_of rows) ms

-- what is said has come after a text
pub record AddsEvidence (Is : Evidence → Type 0) (old new : List ℕ) : Type 0 where
  pub evidence : Evidence
  pub is : Is evidence
  pub text : new ≡ old ++ evidence_text evidence

abbrev pub TargetStrains : PathFacts → RowsAtPoint → Type 0
TargetStrains g None = LineStrains g None
TargetStrains g (Some rows) = LineStrains g None ⊎ (IsNotShown g None × SomeStrains g (system_of rows))
