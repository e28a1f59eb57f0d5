-- Certificates as values, and when one meets its program: its rows hold at the goal of each path if they hold at its
-- source, as multipliers show. Points are numbered from 0 here, sources as in paths.
use Rattle.std.specs.Prelude.{◌≡◌, ◌<◌, ℕ, zero, suc, ◌-◌, ℤ, ⊤, true, List, [], ◌∷◌, ◌++◌, length, map, Option, None}
use Rattle.std.specs.{List.AllByRecursion, Prelude.Some, Prelude.slice_get, Prelude.Ok}
use Rattle.lra_certificate_spec.specs.Crates.lra_linear_spec.Descriptions.{LinearRow, system_of}
use Rattle.lra_certificate_spec.specs.Crates.lra_path_segments.Segments.{Goal, comes_to, violates}
use Rattle.lra_certificate_spec.specs.Crates.lra_program.Program.{Program}
use Rattle.lra_certificate_spec.specs.Crates.lra_program.Sites.{Site, sites_of}
use Rattle.lra_certificate_spec.specs.Crates.{lra_linear_spec.Polyhedra.falsity, lra_linear_spec.Range.InRange}
use Rattle.lra_certificate_spec.specs.Crates.{lra_linear_spec.Vectors.zeros, lra_operations.Tree.Node}
use Rattle.lra_paths.specs.Paths.{Path, live_at, paths_of, violations_of}
use Rattle.lra_multipliers.specs.Multipliers.{Multipliers, yes, IsAnswer}
use Rattle.lra_multipliers.specs.Symbols.{SymbolicState, composed, width_of, executed_path}

-- what a certificate says of one path: nothing, if its source is empty; that nothing goes along it; or what shows
-- its claims, one after the other
pub data Evidence : Type 0 where
  none : Evidence
  infeasible : Multipliers → Evidence
  implies : List Multipliers → Evidence

-- an assertion that is never false: the number of its point, and what is said of each path to where it is false
pub record ListedAssertion : Type 0 where
  pub number : ℕ
  pub evidence : List Evidence

pub record Certificate : Type 0 where
  pub source : List ℕ
  -- point by point: its rows; none if it is empty
  pub states : List (Option (List LinearRow))
  -- path by path
  pub paths : List Evidence
  pub asserted : List ListedAssertion

-- what is said of a source, and of a goal: of the start no row; of where a listed assertion is false that nothing
-- comes there
abbrev pub state_or_empty : Option (Option (List LinearRow)) → Option (List LinearRow)
state_or_empty None = None
state_or_empty (Some state) = state

abbrev pub state_from : List (Option (List LinearRow)) → ℕ → Option (List LinearRow)
state_from states zero = Some []
state_from states (suc q) = state_or_empty (slice_get states q)

abbrev pub state_to : List (Option (List LinearRow)) → Goal → Option (List LinearRow)
state_to states (comes_to q) = state_or_empty (slice_get states q)
state_to states (violates q) = None

-- how many variables live at a source
abbrev pub live_at_source : Program → ℕ → ℕ
live_at_source P zero = 0
live_at_source P (suc q) = live_at P q

-- one path: its source's variables and rows, and its actions
pub record PathPremises : Type 0 where
  pub live : ℕ
  pub rows : List LinearRow
  pub path : Path

-- the source's rows, and then the tests
abbrev pub padded : ℕ → LinearRow → LinearRow
padded width g = record g { row = g.row ++ zeros (width - length g.row) }

abbrev pub premises_of : PathPremises → SymbolicState → List LinearRow
premises_of a w = map (padded (width_of a.live a.path.actions)) a.rows ++ w.tests

-- -1 >= 0 over the symbols
abbrev pub contradiction : PathPremises → List ℤ
contradiction a = falsity (width_of a.live a.path.actions - 1)

-- the row is -1 >= 0, where the path's tests are
abbrev pub IsShownInfeasible : PathPremises → Multipliers → Type 0
IsShownInfeasible a m =
    (w : SymbolicState) × (executed_path a.live a.path.actions ≡ Ok w)
    × IsAnswer (premises_of a w) (contradiction a) m yes

-- the row of the target holds after the path
abbrev pub IsClaimImplied : PathPremises → List ℤ → Multipliers → Type 0
IsClaimImplied a claim m = (w : SymbolicState) × (row : List ℤ) × (executed_path a.live a.path.actions ≡ Ok w)
    × (composed (width_of a.live a.path.actions) claim w.forms ≡ Ok row) × IsAnswer (premises_of a w) row m yes

abbrev pub AreImplied : PathPremises → List (List ℤ) → List Multipliers → Type 0
AreImplied a [] [] = ⊤
AreImplied a [] (m ∷ ms) = ⊥
AreImplied a (claim ∷ claims) [] = ⊥
AreImplied a (claim ∷ claims) (m ∷ ms) = IsClaimImplied a claim m × AreImplied a claims ms

-- the claims of a target that isn't empty: an equality has two, its row and then minus that
abbrev pub CertifiesClaims : PathPremises → Option (List LinearRow) → List Multipliers → Type 0
CertifiesClaims a None [] = ⊥
CertifiesClaims a None (m ∷ []) = IsShownInfeasible a m
CertifiesClaims a None (m ∷ n ∷ ms) = ⊥
CertifiesClaims a (Some rows) ms = AreImplied a (system_of rows) ms

-- what is said of a path from a source with rows to a target
abbrev pub CertifiesByEvidence : PathPremises → Option (List LinearRow) → Evidence → Type 0
CertifiesByEvidence a target none = ⊥
CertifiesByEvidence a target (infeasible m) = IsShownInfeasible a m
CertifiesByEvidence a target (implies ms) = CertifiesClaims a target ms

abbrev pub CertifiesFrom : ℕ → Path → Option (List LinearRow) → Option (List LinearRow) → Evidence → Type 0
CertifiesFrom live path None target evidence = evidence ≡ none
CertifiesFrom live path (Some rows) target evidence =
    CertifiesByEvidence (record { live = live; rows = rows; path = path }) target evidence

-- a path to where an assertion is false has no row to show but that nothing goes along it
abbrev pub ShowsNoClaim : Evidence → Type 0
ShowsNoClaim none = ⊤
ShowsNoClaim (infeasible m) = ⊤
ShowsNoClaim (implies ms) = ⊥

module _ (P : Program) (g : Node) (states : List (Option (List LinearRow))) where
  abbrev pub CertifiesPath : Path → Evidence → Type 0
  CertifiesPath path evidence = CertifiesFrom (live_at_source P path.source) path (state_from states path.source)
      (state_to states path.goal) evidence

  -- one for each path
  abbrev pub CertifiesPaths : List Path → List Evidence → Type 0
  CertifiesPaths [] [] = ⊤
  CertifiesPaths [] (l ∷ ls) = ⊥
  CertifiesPaths (path ∷ paths) [] = ⊥
  CertifiesPaths (path ∷ paths) (l ∷ ls) = CertifiesPath path l × CertifiesPaths paths ls

  pub record CertifiesAssertion (one : ListedAssertion) : Type 0 where
    pub site : Site
    pub there : slice_get (sites_of P) one.number ≡ Some site
    pub asserts : site.asserts ≡ true
    pub paths : CertifiesPaths (violations_of P g one.number) one.evidence
    pub no_claims : AllByRecursion ShowsNoClaim one.evidence

abbrev pub Ascend : List ListedAssertion → Type 0
Ascend [] = ⊤
Ascend (one ∷ []) = ⊤
Ascend (one ∷ two ∷ more) = (one.number < two.number) × Ascend (two ∷ more)

-- rows of a point with so many variables
pub record IsPointRow (live : ℕ) (g : LinearRow) : Type 0 where
  pub width : length g.row ≡ suc live
  pub in_range : AllByRecursion InRange g.row

abbrev pub IsState : ℕ → Option (List LinearRow) → Type 0
IsState live None = ⊤
IsState live (Some rows) = AllByRecursion (IsPointRow live) rows

abbrev pub AreStates : List Site → List (Option (List LinearRow)) → Type 0
AreStates [] [] = ⊤
AreStates [] (s ∷ ss) = ⊥
AreStates (site ∷ sites) [] = ⊥
AreStates (site ∷ sites) (s ∷ ss) = IsState site.live s × AreStates sites ss

-- numbers that can be written
abbrev pub AreNumbers : Multipliers → Type 0
AreNumbers m = InRange m.divisor × InRange m.constant × AllByRecursion InRange m.factors

abbrev pub IsWritable : Evidence → Type 0
IsWritable none = ⊤
IsWritable (infeasible m) = AreNumbers m
IsWritable (implies ms) = AllByRecursion AreNumbers ms

-- the certificate meets the program, and no product or sum passes
pub record Certifies (P : Program) (g : Node) (c : Certificate) : Type 0 where
  pub states : AreStates (sites_of P) c.states
  pub paths : CertifiesPaths P g c.states (paths_of P g) c.paths
  pub listed : AllByRecursion (CertifiesAssertion P g c.states) c.asserted
  pub ascend : Ascend c.asserted
  pub numbers : AllByRecursion IsWritable c.paths
  pub listed_numbers : AllByRecursion (λ one. AllByRecursion IsWritable one.evidence) c.asserted
