-- What a source must get that is to be certified: a certificate with the rows, the empty points and the proved
-- assertions of its report; or why it has none.
use Rattle.std.specs.Prelude.{◌≡◌, ◌<◌, ◌^◌, ℕ, suc, ⊤, List, [], ◌∷◌, ◌++◌, map, Option, None, Some, option_map}
use Rattle.lra_certify_source.specs.Crates.lra_resolution_spec.EntryPoint.{at_main}
use Rattle.lra_certify_source.specs.Crates.lra_certificate_spec.Certificates.{ListedAssertion}
use Rattle.lra_certify_source.specs.Crates.lra_certificate_spec.Claims.{IsProgram, program_of, IsCertificate}
use Rattle.lra_certify_source.specs.Crates.lra_paths.Paths.{AreFewPaths, HasTooManyPaths}
use Rattle.lra_certify_source.specs.Crates.lra_row_text.ShownDescriptions.{shown_constraint}
use Rattle.lra_certify_source.specs.Crates.{lra_certificate_spec.CertificateText.head_text}
use Rattle.lra_certify_source.specs.Crates.{lra_certificate_spec.Judged.RowsAtPoint, lra_resolution_spec.Refuse.Refuse}
use Rattle.lra_certify_source.specs.Crates.{lra_row_text.Rows.ReportRow, lra_syntax.Grammar.Spells}
use Rattle.lra_report.specs.Report.{Invariant, PointReport, Report}
use Rattle.lra_certify.specs.Certified.{IsCertified, StopsAt}
use Rattle.lra_certify.specs.declared.failures.StrainedAt.{StrainedAt}
use Rattle.lra_certify.specs.declared.failures.StrainedAt.TheVariants.{Edge, Assertion}
use Rattle.lra_analyse_source.specs.SourceReports.{IsAnalysisReport}
use Rattle.lra_certify_source.specs.Settings.{certify_options}
use Rattle.lra_certify_source.specs.declared.refusals.CertifyRefusal.TheVariants.{Source, Paths, Strained}
use Rattle.lra_certify_source.specs.{Assertions.proved_numbers, declared.refusals.CertifyRefusal.CertifyRefusal}

-- what a report shows ----------------------------------------------------------------------------------------------

-- the rows of a point; none if no run comes there
abbrev pub rows_at : Invariant → Option (List ReportRow)
rows_at [] = None
rows_at (part ∷ parts) = Some part.rows

abbrev pub shown_state_rows : RowsAtPoint → Option (List ReportRow)
shown_state_rows state = option_map (map shown_constraint) state

-- the report shows these rows at its points, and as proved the assertions at these points, which it numbers from 1
pub record ReportShowsRows (r : Report) (states : List RowsAtPoint) (proved : List ℕ) : Type 0 where
  pub rows_are : map (λ (p : PointReport). rows_at p.state) r.points ≡ map shown_state_rows states
  pub proved_are : proved_numbers r.verdicts ≡ map suc proved

-- certificates -----------------------------------------------------------------------------------------------------

-- what a report of an accepted source hands to its certificate
pub record IsHanded (source : List ℕ) (r : Report) (states : List RowsAtPoint) (proved : List ℕ) : Type 0 where
  pub program : IsProgram source
  pub few : AreFewPaths (program_of program) program.operations
  pub shows : ReportShowsRows r states proved

-- the text of a certificate of the source that has the rows, the empty points and the proved assertions of this report,
-- and the first multipliers in each line
pub record IsCertificateOf (source : List ℕ) (r : Report) (bytes : List ℕ) : Type 0 where
  pub states : List RowsAtPoint
  pub proved : List ℕ
  pub handed : IsHanded source r states proved
  pub body : List ℕ
  pub certified : IsCertified (program_of handed.program) handed.program.operations states proved body
  pub text : bytes ≡ head_text source ++ body

-- so it is a certificate of that source, which meets its program, with these rows and listed assertions
pub record IsCertificateWith (source : List ℕ) (states : List RowsAtPoint) (proved bytes : List ℕ) : Type 0 where
  pub is : IsCertificate bytes
  pub source_is : is.certificate.source ≡ source
  pub states_are : is.certificate.states ≡ states
  pub listed_are : map (λ (one : ListedAssertion). one.number) is.certificate.asserted ≡ proved

abbrev pub CertifiedAreCertificates : Type 0
CertifiedAreCertificates = (source : List ℕ) (r : Report) (bytes : List ℕ) → (c : IsCertificateOf source r bytes) →
    IsCertificateWith source c.states c.proved bytes

-- refusals ---------------------------------------------------------------------------------------------------------

-- with the rows and the proved assertions of this report a path exceeds a limit
pub record IsStrainedAt (source : List ℕ) (r : Report) (at : StrainedAt) : Type 0 where
  pub answered : IsAnalysisReport certify_options source r
  pub states : List RowsAtPoint
  pub proved : List ℕ
  pub handed : IsHanded source r states proved
  pub stops : StopsAt (program_of handed.program) handed.program.operations states proved at

-- the source's own refusal; too many paths from the source of this number; or a limit exceeded with a report that it
-- must get
abbrev pub IsCertifyRefusalOf : List ℕ → CertifyRefusal → Type 0
IsCertifyRefusalOf source (Source r) = Refuse at_main Spells source r.cause r.place
IsCertifyRefusalOf source (Paths p) = (x : IsProgram source) × HasTooManyPaths (program_of x) x.operations p
IsCertifyRefusalOf source (Strained at) = (r : Report) × IsStrainedAt source r at

-- if too many paths lead from a source, that is the one refusal of it, and it has no certificate
abbrev pub ManyAreRefused : Type 0
ManyAreRefused = (source : List ℕ) (x : IsProgram source) (p : ℕ) → HasTooManyPaths (program_of x) x.operations p →
    ((r : Report) (bytes : List ℕ) → IsCertificateOf source r bytes → ⊥)
    × ((refusal : CertifyRefusal) → IsCertifyRefusalOf source refusal → refusal ≡ Paths p)

-- a path that exceeds a limit leads to a point that a number of 31 bits counts
abbrev pub HasSmallPoint : CertifyRefusal → Type 0
HasSmallPoint (Source r) = ⊤
HasSmallPoint (Paths p) = ⊤
HasSmallPoint (Strained (Edge p q)) = q < 2 ^ 31
HasSmallPoint (Strained (Assertion q)) = q < 2 ^ 31
