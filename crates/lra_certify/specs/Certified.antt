-- What is written of a program: the text of a certificate that meets it, with widening thresholds and listed
-- assertions; or why there is none.
use Rattle.std.specs.List.{AllZip}
use Rattle.std.specs.Prelude.{◌≡◌, ◌<◌, ℕ, ⊤, true, List, [], ◌∷◌, Some, slice_get, Contains}
use Rattle.lra_certify.specs.Crates.lra_certificate_spec.Certificates.{Evidence, ListedAssertion, Certificate}
use Rattle.lra_certify.specs.Crates.lra_certificate_spec.Certificates.{Certifies}
use Rattle.lra_certify.specs.Crates.lra_certificate_spec.Judged.{RowsAtPoint}
use Rattle.lra_certify.specs.Crates.lra_paths.Paths.{Path, paths_of, violations_of, AreFewPaths, HasTooManyPaths}
use Rattle.lra_certify.specs.Crates.lra_program.Sites.{Site, sites_of}
use Rattle.lra_certify.specs.Crates.{lra_certificate_spec.CertificateText.body_text, lra_operations.Tree.Node}
use Rattle.lra_certify.specs.Crates.{lra_path_segments.Segments.comes_to, lra_program.Program.Program}
use Rattle.lra_certify.specs.PathEvidence.{IsEvidenceFor, StopsIn}
use Rattle.lra_certify.specs.declared.failures.CertifyFailure.{CertifyFailure}
use Rattle.lra_certify.specs.declared.failures.CertifyFailure.TheVariants.{TooMany, Strained, Memory}
use Rattle.lra_certify.specs.declared.failures.StrainedAt.TheVariants.{Edge, Assertion}
use Rattle.lra_certify.specs.{Each.Stops, declared.failures.StrainedAt.StrainedAt}

-- the numbers of assertions, in ascending order
abbrev pub AscendStrictly : List ℕ → Type 0
AscendStrictly [] = ⊤
AscendStrictly (p ∷ []) = ⊤
AscendStrictly (p ∷ q ∷ more) = (p < q) × AscendStrictly (q ∷ more)

pub record AreListable (sites : List Site) (proved : List ℕ) : Type 0 where
  pub ascend : AscendStrictly proved
  pub assert : (q : ℕ) → Contains proved q → (s : Site) × (slice_get sites q ≡ Some s) × (s.asserts ≡ true)

abbrev pub certificate_by : List RowsAtPoint → List Evidence → List ListedAssertion → List ℕ → Certificate
certificate_by states paths asserted source =
    record { source = source; states = states; paths = paths; asserted = asserted }

-- an assertion with evidence for each path to where it is false
abbrev pub IsListedFound : Program → Node → List RowsAtPoint → ℕ → ListedAssertion → Type 0
IsListedFound P g states q one =
    (one.number ≡ q) × AllZip (IsEvidenceFor (sites_of P) states) (violations_of P g q) one.evidence

-- of whichever source it is said to be
pub record IsCertified (P : Program) (g : Node) (states : List RowsAtPoint) (proved bytes : List ℕ) : Type 0 where
  pub paths : List Evidence
  pub asserted : List ListedAssertion
  pub meets : (source : List ℕ) → Certifies P g (certificate_by states paths asserted source)
  pub text : (source : List ℕ) → bytes ≡ body_text (paths_of P g) (certificate_by states paths asserted source)
  -- all of its evidence is first
  pub paths_first : AllZip (IsEvidenceFor (sites_of P) states) (paths_of P g) paths
  pub asserted_first : AllZip (IsListedFound P g states) proved asserted

-- a path that exceeds a limit, to all before which there is evidence: edges before assertions
pub record StopsAtEdge (P : Program) (g : Node) (states : List RowsAtPoint) (p q : ℕ) : Type 0 where
  pub path : Path
  pub source : path.source ≡ p
  pub goal : path.goal ≡ comes_to q
  pub stops : StopsIn (sites_of P) states (paths_of P g) path

abbrev pub AssertionStops : Program → Node → List RowsAtPoint → ℕ → Type 0
AssertionStops P g states q = (path : Path) × StopsIn (sites_of P) states (violations_of P g q) path

pub record StopsAtAssertion (P : Program) (g : Node) (states : List RowsAtPoint) (proved : List ℕ) (q : ℕ) : Type 0
  where
    pub evidence : List Evidence
    pub edges : AllZip (IsEvidenceFor (sites_of P) states) (paths_of P g) evidence
    pub stops : Stops (IsListedFound P g states) (AssertionStops P g states) proved q

abbrev pub StopsAt : Program → Node → List RowsAtPoint → List ℕ → StrainedAt → Type 0
StopsAt P g states proved (Edge p q) = StopsAtEdge P g states p q
StopsAt P g states proved (Assertion q) = StopsAtAssertion P g states proved q

-- why there is no certificate
abbrev pub IsFailure : Program → Node → List RowsAtPoint → List ℕ → CertifyFailure → Type 0
IsFailure P g states proved (TooMany p) = HasTooManyPaths P g p
IsFailure P g states proved (Strained at) = AreFewPaths P g × StopsAt P g states proved at
IsFailure P g states proved Memory = Unit {0}
