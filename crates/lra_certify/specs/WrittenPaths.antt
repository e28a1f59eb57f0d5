-- Paths as the code writes their lines, from one source after the other.
use Rattle.std.specs.List.{flat_map, range_with_len, AllZip}
use Rattle.std.specs.Prelude.{◌≡◌, ◌⊎◌, ◌++◌, ℕ, List, map, length, Some, None, Contains}
use Rattle.lra_certify.specs.Crates.lra_certificate_spec.CertificateText.{edge_text, evidence_text, listed_text}
use Rattle.lra_certify.specs.Crates.lra_certificate_spec.CertificateText.{states_text, end_text}
use Rattle.lra_certify.specs.Crates.lra_certificate_spec.Certificates.{Evidence, ListedAssertion, AreStates}
use Rattle.lra_certify.specs.Crates.lra_path_segments.Segments.{Goal, comes_to, violates}
use Rattle.lra_certify.specs.Crates.lra_paths.Paths.{Path, path_by}
use Rattle.lra_certify.specs.Crates.{lra_certificate_spec.Judged.RowsAtPoint, lra_domain.Actions.Action}
use Rattle.lra_certify.specs.Crates.{lra_linear_spec.Descriptions.LinearRow, lra_row_text.Texts.text_line}
use Rattle.lra_verify.specs.EdgeViews.{sites_in, states_in, actions_by}
use Rattle.lra_verify.specs.declared.annotated.AnnotatedProgram.{AnnotatedProgram}
use Rattle.lra_certify.specs.Each.{Stops, AddsEach, IsLeft}
use Rattle.lra_certify.specs.InductiveRows.{IsInductiveAlong, IsInductiveFrom}
use Rattle.lra_certify.specs.PathEvidence.{IsEvidenceFor, IsEvidenceFrom, StrainsAlong, StrainsFrom, StopsIn}
use Rattle.lra_certify.specs.declared.failures.StrainedAt.TheVariants.{Edge, Assertion}
use Rattle.lra_certify.specs.{declared.failures.CertifyFailure.CertifyFailure, declared.failures.StrainedAt.StrainedAt}
use Rattle.lra_certify.specs.declared.failures.CertifyFailure.TheVariants as of_program

-- paths --------------------------------------------------------------------------------------------------------------

abbrev pub paths_to : AnnotatedProgram → ℕ → Goal → List Path
paths_to w p goal = map (path_by p goal) (actions_by w p goal)

abbrev pub paths_from : AnnotatedProgram → ℕ → List Path
paths_from w p = flat_map (λ q. paths_to w p (comes_to q)) (range_with_len 0 (length w.sites.now))

abbrev pub all_paths : AnnotatedProgram → List Path
all_paths w = flat_map (paths_from w) (range_with_len 0 (length w.sources.now))

abbrev pub violating_paths : AnnotatedProgram → ℕ → List Path
violating_paths w q = flat_map (λ p. paths_to w p (violates q)) (range_with_len 0 (length w.sources.now))

abbrev pub AllAreInductive : AnnotatedProgram → List Path → Type 0
AllAreInductive w paths = (path : Path) → Contains paths path → IsInductiveAlong (sites_in w) (states_in w) path

-- their lines --------------------------------------------------------------------------------------------------------

-- with the line that begins a path, or, if an assertion has been named, without it
abbrev pub edge_lines : Path → Evidence → List ℕ
edge_lines path evidence = text_line (edge_text path) ++ evidence_text evidence

abbrev pub violation_lines : Path → Evidence → List ℕ
violation_lines path evidence = evidence_text evidence

abbrev pub AddsPaths : AnnotatedProgram → (Path → Evidence → List ℕ) → List Path → List ℕ → List ℕ → Type 0
AddsPaths w show paths old new = AddsEach (IsEvidenceFor (sites_in w) (states_in w)) show paths old new

-- of a path of these actions, whichever it is
abbrev pub FoundOn : ℕ → List Action → RowsAtPoint → RowsAtPoint → Evidence → Type 0
FoundOn live steps from target evidence = (path : Path) → path.actions ≡ steps →
    IsEvidenceFrom live path from target evidence

abbrev pub StrainsOn : ℕ → List Action → RowsAtPoint → RowsAtPoint → Type 0
StrainsOn live steps from target = (path : Path) → path.actions ≡ steps → StrainsFrom live path from target

-- to where an assertion is false
abbrev pub IsInfeasibleEvidence : ℕ → List LinearRow → List Action → Evidence → Type 0
IsInfeasibleEvidence live rows steps evidence = FoundOn live steps (Some rows) None evidence

abbrev pub StrainsDead : ℕ → List LinearRow → List Action → Type 0
StrainsDead live rows steps = StrainsOn live steps (Some rows) None

abbrev pub AllDead : ℕ → List LinearRow → List (List Action) → Type 0
AllDead live rows lists = (steps : List Action) → Contains lists steps → IsInductiveFrom live steps (Some rows) None

abbrev pub AddsDead : ℕ → List LinearRow → List (List Action) → List ℕ → List ℕ → Type 0
AddsDead live rows lists old new =
    AddsEach (IsInfeasibleEvidence live rows) (λ steps evidence. evidence_text evidence) lists old new

abbrev pub DeadLeft : ℕ → List LinearRow → List (List Action) → List (List Action) → List ℕ → List ℕ → Type 0
DeadLeft live rows rest all now start =
    IsLeft (IsInfeasibleEvidence live rows) (StrainsDead live rows) (λ steps evidence. evidence_text evidence) rest all
    now start

abbrev pub SomeDeadStops : ℕ → List LinearRow → List (List Action) → Type 0
SomeDeadStops live rows lists =
    (steps : List Action) × Stops (IsInfeasibleEvidence live rows) (StrainsDead live rows) lists steps

abbrev pub SomePathStops : AnnotatedProgram → List Path → Type 0
SomePathStops w paths = (path : Path) × StopsIn (sites_in w) (states_in w) paths path

-- which path exceeds a limit
abbrev pub IsAt : StrainedAt → Path → Type 0
IsAt (Edge p q) path = (path.source ≡ p) × (path.goal ≡ comes_to q)
IsAt (Assertion q) path = path.goal ≡ violates q

abbrev pub SomeStops : AnnotatedProgram → List Path → StrainedAt → Type 0
SomeStops w paths at = (path : Path) × IsAt at path × StopsIn (sites_in w) (states_in w) paths path

abbrev pub IfStopped : (StrainedAt → Type 0) → CertifyFailure → Type 0
IfStopped P (of_program.TooMany p) = ⊥
IfStopped P (of_program.Strained at) = P at
IfStopped P of_program.Memory = Unit {0}

abbrev pub PathsLeft : AnnotatedProgram → (Path → Evidence → List ℕ) → List Path → List Path → List ℕ → List ℕ → Type 0
PathsLeft w show rest all now start =
    IsLeft (IsEvidenceFor (sites_in w) (states_in w)) (StrainsAlong (sites_in w) (states_in w)) show rest all now start

-- assertions ---------------------------------------------------------------------------------------------------------

abbrev pub IsListed : AnnotatedProgram → ℕ → ListedAssertion → Type 0
IsListed w q one =
    (one.number ≡ q) × AllZip (IsEvidenceFor (sites_in w) (states_in w)) (violating_paths w q) one.evidence

abbrev pub AddsListed : AnnotatedProgram → List ℕ → List ℕ → List ℕ → Type 0
AddsListed w proved old new = AddsEach (IsListed w) (λ q one. listed_text one) proved old new

abbrev pub AllAssertionsInductive : AnnotatedProgram → List ℕ → Type 0
AllAssertionsInductive w proved = (q : ℕ) → Contains proved q → AllAreInductive w (violating_paths w q)

abbrev pub AssertionStops : AnnotatedProgram → ℕ → Type 0
AssertionStops w q = SomePathStops w (violating_paths w q)

abbrev pub ListedLeft : AnnotatedProgram → List ℕ → List ℕ → List ℕ → List ℕ → Type 0
ListedLeft w rest all now start = IsLeft (IsListed w) (AssertionStops w) (λ q one. listed_text one) rest all now start

-- one stops, and those before it are listed
abbrev pub ListStops : AnnotatedProgram → List ℕ → StrainedAt → Type 0
ListStops w proved at = (q : ℕ) × (at ≡ Assertion q)
    × Stops (IsListed w) (AssertionStops w) proved q

-- all lines ----------------------------------------------------------------------------------------------------------

pub record AddsBody (w : AnnotatedProgram) (proved old new : List ℕ) : Type 0 where
  pub middle : List ℕ
  pub last : List ℕ
  pub states : AreStates (sites_in w) (states_in w)
  pub edges : AddsPaths w edge_lines (all_paths w) (old ++ states_text 1 (states_in w)) middle
  pub listed : AddsListed w proved middle last
  pub text : new ≡ last ++ end_text

pub record StopsListing (w : AnnotatedProgram) (proved : List ℕ) (at : StrainedAt) : Type 0 where
  pub evidence : List Evidence
  pub edges : AllZip (IsEvidenceFor (sites_in w) (states_in w)) (all_paths w) evidence
  pub stops : ListStops w proved at

abbrev pub BodyStops : AnnotatedProgram → List ℕ → StrainedAt → Type 0
BodyStops w proved at = SomeStops w (all_paths w) at ⊎ StopsListing w proved at
