-- What is verified: that a text is a certificate that meets its program, and what then holds in all runs; and the
-- answer to each input.
use Rattle.std.specs.Prelude.{◌≡◌, ◌≤◌, ◌<◌, ◌⊎◌, ℕ, suc, ℤ, ◌^◌, List, [], length, Option, None, Some, slice_get, Ok}
use Rattle.std.specs.Prelude.{Err, pos, ◌∷◌, Contains}
use Rattle.lra_certificate_spec.specs.Crates.lra_resolution_spec.EntryPoint.{at_main}
use Rattle.lra_certificate_spec.specs.Crates.lra_linear_spec.Descriptions.{LinearRow, Con}
use Rattle.lra_certificate_spec.specs.Crates.lra_path_segments.Segments.{Goal, comes_to, violates}
use Rattle.lra_certificate_spec.specs.Crates.lra_program.Sites.{Site, sites_of}
use Rattle.lra_certificate_spec.specs.Crates.{lra_base.declared.refusals.Cause.Cause}
use Rattle.lra_certificate_spec.specs.Crates.{lra_base.declared.refusals.Place.Place, lra_domain.Moves.SomeLeads}
use Rattle.lra_certificate_spec.specs.Crates.{lra_operations.Agree.point_of, lra_operations.Tree.Node}
use Rattle.lra_certificate_spec.specs.Crates.{lra_program.Program.Program, lra_program.Run.At, lra_program.Run.Fails}
use Rattle.lra_certificate_spec.specs.Crates.{lra_resolution_spec.Refuse.Refuse, lra_resolution_spec.Resolve.resolve}
use Rattle.lra_certificate_spec.specs.Crates.{lra_syntax.Grammar.Spells, lra_syntax.Trees.FileTree}
use Rattle.lra_front_end.specs.Stages.{HasTree, HasInlinedTree}
use Rattle.lra_paths.specs.Covers.{IsGoalOf, HoldInAllRuns}
use Rattle.lra_paths.specs.Paths.{live_at, actions_between, paths_of, AreFewPaths, HasTooManyPaths}
use Rattle.lra_certificate_spec.specs.CertificateText.{certificate_text}
use Rattle.lra_certificate_spec.specs.Certificates.{ListedAssertion, Certificate, Certifies, state_or_empty, state_to}
use Rattle.lra_certificate_spec.specs.Judged.{too_long, bad_line, Refused, Head, judged, head_of}

-- an accepted source with the tree of its operations
pub record IsProgram (source : List ℕ) : Type 0 where
  pub tree : FileTree
  pub read : HasTree source tree
  pub operations : Node
  pub sites : List Site
  pub graph : HasInlinedTree tree operations sites

abbrev pub program_of : {source : List ℕ} → IsProgram source → Program
program_of p = resolve p.tree

-- the bytes are the text of a certificate that meets its program
pub record IsCertificate (bytes : List ℕ) : Type 0 where
  pub certificate : Certificate
  pub program : IsProgram certificate.source
  pub few : AreFewPaths (program_of program) program.operations
  pub text : bytes ≡ certificate_text (paths_of (program_of program) program.operations) certificate
  pub meets : Certifies (program_of program) program.operations certificate

-- the rows hold at the store; if it is empty there is no store
abbrev pub RowsHoldAt : Option (List LinearRow) → List ℤ → Type 0
RowsHoldAt None store = ⊥
RowsHoldAt (Some rows) store = Con rows (pos 1 ∷ store)

-- in all runs the rows hold at their points, no run reaches an empty point, and no listed assertion is false
pub record RowsHold (P : Program) (c : Certificate) : Type 0 where
  pub rows : (q : ℕ) (s : Site) (store : List ℤ) → slice_get (sites_of P) q ≡ Some s → At P (point_of s) store →
      RowsHoldAt (state_or_empty (slice_get c.states q)) store
  pub asserted : (one : ListedAssertion) (s : Site) → Contains c.asserted one →
      slice_get (sites_of P) one.number ≡ Some s →
      Fails P (point_of s) → ⊥

-- what a certificate says of the stores at a goal
abbrev pub ClaimsAt : Certificate → Goal → List ℤ → Type 0
ClaimsAt c (comes_to q) store = RowsHoldAt (state_to c.states (comes_to q)) store
ClaimsAt c (violates q) store = (one : ListedAssertion) → Contains c.asserted one → one.number ≡ q → ⊥

-- each path from the start leads to a store of which it says so, and so does each path from such a store of a point
pub record PathsKeepRows (P : Program) (g : Node) (c : Certificate) : Type 0 where
  pub first : (goal : Goal) (t : List ℤ) → IsGoalOf P goal → SomeLeads (actions_between P g 0 goal) [] t →
      ClaimsAt c goal t
  pub next : (p : ℕ) (r : Site) (goal : Goal) (s t : List ℤ) → slice_get (sites_of P) p ≡ Some r →
      length s ≡ live_at P p → IsGoalOf P goal → ClaimsAt c (comes_to p) s →
      SomeLeads (actions_between P g (suc p) goal) s t →
      ClaimsAt c goal t

-- a certificate that meets its program does that, along every path; and its rows hold if what it says does
abbrev pub CertificatesAreInductive : Type 0
CertificatesAreInductive = (P : Program) (g : Node) (c : Certificate) → Certifies P g c →
    PathsKeepRows P g c × (HoldInAllRuns P (ClaimsAt c) → RowsHold P c)

abbrev pub CertificatesHold : Type 0
CertificatesHold = (bytes : List ℕ) (x : IsCertificate bytes) → RowsHold (program_of x.program) x.certificate

-- a text is that of at most one certificate that meets its program
abbrev pub OneCertificate : Type 0
OneCertificate = (bytes : List ℕ) (x y : IsCertificate bytes) → x.certificate ≡ y.certificate

-- answers ----------------------------------------------------------------------------------------------------------

abbrev pub greatest_certificate : ℕ
greatest_certificate = 2 ^ 24

-- so many points, and so many listed assertions
pub record IsVerified (bytes : List ℕ) (points proved : ℕ) : Type 0 where
  pub short : length bytes ≤ greatest_certificate
  pub is : IsCertificate bytes
  pub points_are : points ≡ length (sites_of (program_of is.program))
  pub proved_are : proved ≡ length is.certificate.asserted

-- the source of an input
abbrev pub HasHead : List ℕ → Head → Type 0
HasHead bytes h = (length bytes ≤ greatest_certificate) × (head_of bytes ≡ Some h)

pub data VerifyAnswer : Type 0 where
  verified : ℕ → ℕ → VerifyAnswer
  source_refused : Cause → Place → VerifyAnswer
  paths_refused : ℕ → VerifyAnswer
  line_refused : Refused → VerifyAnswer

-- what an input must get: exactly one answer, in this order
abbrev pub VerifiesTo : List ℕ → VerifyAnswer → Type 0
VerifiesTo bytes (verified points proved) = IsVerified bytes points proved
VerifiesTo bytes (source_refused cause place) =
    (h : Head) × HasHead bytes h × Refuse at_main Spells h.source cause place
VerifiesTo bytes (paths_refused p) = (h : Head) × HasHead bytes h × (x : IsProgram h.source)
    × HasTooManyPaths (program_of x) x.operations p
VerifiesTo bytes (line_refused r) =
    ((greatest_certificate < length bytes) × (r ≡ record { line = 0; fault = too_long }))
    ⊎ ((length bytes ≤ greatest_certificate) × (head_of bytes ≡ None) × (r ≡ record { line = 0; fault = bad_line }))
    ⊎ ((h : Head) × HasHead bytes h × (x : IsProgram h.source) × AreFewPaths (program_of x) x.operations
    × (judged (program_of x) x.operations h.rest ≡ Err r))

-- the lines are accepted exactly if the input is a certificate that meets its program, with its numbers
pub record JudgedSo (bytes : List ℕ) (h : Head) (x : IsProgram h.source) (points proved : ℕ) : Type 0 where
  pub short : length bytes ≤ greatest_certificate
  pub head : head_of bytes ≡ Some h
  pub few : AreFewPaths (program_of x) x.operations
  pub taken : judged (program_of x) x.operations h.rest ≡ Ok (points, proved)

abbrev pub JudgedExactly : Type 0
JudgedExactly = (bytes : List ℕ) (points proved : ℕ) →
    (((h : Head) (x : IsProgram h.source) → JudgedSo bytes h x points proved → IsVerified bytes points proved)
    × (IsVerified bytes points proved → (h : Head) × (x : IsProgram h.source) × JudgedSo bytes h x points proved))

-- each input has one answer
abbrev pub EachVerified : Type 0
EachVerified = (bytes : List ℕ) → ((a : VerifyAnswer) × VerifiesTo bytes a)
    × ((a b : VerifyAnswer) → VerifiesTo bytes a → VerifiesTo bytes b → a ≡ b)
