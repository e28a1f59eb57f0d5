-- What is written of a path: the first multipliers that show that nothing goes along it; if there are none, the
-- first for each claim of its target.
use Rattle.std.specs.List.{AllZip}
use Rattle.std.specs.Prelude.{◌≡◌, ◌⊎◌, ℕ, ℤ, List, [], None, Some, Ok, Err, Contains}
use Rattle.lra_certify.specs.Crates.lra_certificate_spec.Certificates.{Evidence, none, infeasible, implies}
use Rattle.lra_certify.specs.Crates.lra_certificate_spec.Certificates.{PathPremises, premises_of, contradiction}
use Rattle.lra_certify.specs.Crates.lra_certificate_spec.Certificates.{CertifiesByEvidence, IsWritable, state_from}
use Rattle.lra_certify.specs.Crates.lra_certificate_spec.Certificates.{state_to}
use Rattle.lra_certify.specs.Crates.lra_certificate_spec.Judged.{RowsAtPoint, claim_of}
use Rattle.lra_certify.specs.Crates.lra_multipliers.Multipliers.{Multipliers, IsFarkasCertificate}
use Rattle.lra_certify.specs.Crates.lra_multipliers.Symbols.{SymbolicState, executed_path}
use Rattle.lra_certify.specs.Crates.{lra_linear_spec.Descriptions.system_of, lra_linear_spec.declared.Excess.Excess}
use Rattle.lra_certify.specs.Crates.{lra_paths.Paths.Path, lra_program.Sites.Site}
use Rattle.lra_verify.specs.EdgeViews.{live_by}
use Rattle.lra_farkas.specs.FirstMultipliers.{AreFirst, MultipliersStrain}
use Rattle.lra_certify.specs.Each.{Stops}

-- lines --------------------------------------------------------------------------------------------------------------

-- the first multipliers of -1 >= 0
abbrev pub IsFirstInfeasible : PathPremises → Multipliers → Type 0
IsFirstInfeasible a m = (w : SymbolicState) × (executed_path a.live a.path.actions ≡ Ok w)
    × AreFirst (premises_of a w) (contradiction a) m

-- no multipliers show that
abbrev pub IsNotShownInfeasible : PathPremises → Type 0
IsNotShownInfeasible a = (w : SymbolicState) (m : Multipliers) → executed_path a.live a.path.actions ≡ Ok w →
    ¬ IsFarkasCertificate (premises_of a w) (contradiction a) m

-- the first of a row of the target
abbrev pub IsFirstShown : PathPremises → List ℤ → Multipliers → Type 0
IsFirstShown a claim m = (w : SymbolicState) × (row : List ℤ) × (executed_path a.live a.path.actions ≡ Ok w)
    × (claim_of a claim w ≡ Ok row) × AreFirst (premises_of a w) row m

abbrev pub IsFirstEvidence : PathPremises → RowsAtPoint → Evidence → Type 0
IsFirstEvidence a target none = ⊥
IsFirstEvidence a target (infeasible m) = IsFirstInfeasible a m
IsFirstEvidence a None (implies ms) = ⊥
IsFirstEvidence a (Some rows) (implies ms) = IsNotShownInfeasible a × AllZip (IsFirstShown a) (system_of rows) ms

-- it shows what has to be shown, by the first multipliers, whose numbers can be written
pub record IsEvidenceAlong (a : PathPremises) (target : RowsAtPoint) (evidence : Evidence) : Type 0 where
  pub meets : CertifiesByEvidence a target evidence
  pub first : IsFirstEvidence a target evidence
  pub numbers : IsWritable evidence

-- a path from a source where nothing comes has no lines
abbrev pub IsEvidenceFrom : ℕ → Path → RowsAtPoint → RowsAtPoint → Evidence → Type 0
IsEvidenceFrom live path None target evidence = evidence ≡ none
IsEvidenceFrom live path (Some rows) target evidence =
    IsEvidenceAlong (record { live = live; rows = rows; path = path }) target evidence

-- strain -------------------------------------------------------------------------------------------------------------

-- the claim passes over the symbols, or its multipliers exceed a limit
abbrev pub ClaimStrains : PathPremises → SymbolicState → List ℤ → Type 0
ClaimStrains a w claim = ((e : Excess) × (claim_of a claim w ≡ Err e))
    ⊎ ((row : List ℤ) × (claim_of a claim w ≡ Ok row) × MultipliersStrain (premises_of a w) row)

abbrev pub claims_to : RowsAtPoint → List (List ℤ)
claims_to None = []
claims_to (Some rows) = system_of rows

-- multipliers exceed a limit: those of -1 >= 0 or, if none show that, of a claim; or that claim passes
abbrev pub EvidenceStrains : PathPremises → RowsAtPoint → SymbolicState → Type 0
EvidenceStrains a target w = MultipliersStrain (premises_of a w) (contradiction a)
    ⊎ (IsNotShownInfeasible a × (claim : List ℤ) × Contains (claims_to target) claim × ClaimStrains a w claim)

-- or a form of the path passes
abbrev pub PathStrains : PathPremises → RowsAtPoint → Type 0
PathStrains a target = ((e : Excess) × (executed_path a.live a.path.actions ≡ Err e))
    ⊎ ((w : SymbolicState) × (executed_path a.live a.path.actions ≡ Ok w) × EvidenceStrains a target w)

-- nothing is computed of a path from a source where nothing comes, so it never exceeds a limit, whatever its forms are
abbrev pub StrainsFrom : ℕ → Path → RowsAtPoint → RowsAtPoint → Type 0
StrainsFrom live path None target = ⊥
StrainsFrom live path (Some rows) target = PathStrains (record { live = live; rows = rows; path = path }) target

-- paths of a program with these points and states ---------------------------------------------------------------------

abbrev pub IsEvidenceFor : List Site → List RowsAtPoint → Path → Evidence → Type 0
IsEvidenceFor sites states path evidence =
    IsEvidenceFrom (live_by sites path.source) path (state_from states path.source)
    (state_to states path.goal) evidence

abbrev pub StrainsAlong : List Site → List RowsAtPoint → Path → Type 0
StrainsAlong sites states path =
    StrainsFrom (live_by sites path.source) path (state_from states path.source) (state_to states path.goal)

-- one path exceeds a limit, and to all before it there is evidence
abbrev pub StopsIn : List Site → List RowsAtPoint → List Path → Path → Type 0
StopsIn sites states paths path = Stops (IsEvidenceFor sites states) (StrainsAlong sites states) paths path
