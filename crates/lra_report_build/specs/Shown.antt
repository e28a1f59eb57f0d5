-- What a domain shows of its values, as the states of a report.
use Rattle.std.specs.List.{AllByRecursion, Contains}
use Rattle.std.specs.Prelude.{◌≡◌, ◌↔◌, ℤ, List, [], length, map}
use Rattle.lra_report_build.specs.Crates.lra_systems.LinearSystems.{LinearSystem}
use Rattle.lra_report_build.specs.Crates.{lra_domain.Abstraction.Abstraction, lra_linear_spec.declared.ConKind.ConKind}
use Rattle.lra_report_build.specs.Crates.{lra_options.declared.options.Domain.Domain}
use Rattle.lra_row_text.specs.{Lists.shown_rows, Part.Part, Rows.ReportRow}
use Rattle.lra_report.specs.Report.{Invariant, InvariantHolds}
use Rattle.lra_report.specs.{Listing.HasWidth, Parts.ShowsPart, Spelled.IsDirected}

-- a value is shown by this state, in reports over this domain
pub record IsShown {V H : Type 0} (m : Abstraction V H) (domain : Domain) (v : V) (state : Invariant) : Type 0 where
  -- a part for each of the value's parts, so none exactly if the value has none
  pub as_many : length state ≡ length (m.parts v)
  -- a number for each dimension; each part as the domain has it
  pub wide : AllByRecursion (HasWidth (m.dims v)) state
  pub tell : AllByRecursion (ShowsPart domain (m.dims v)) state
  -- each store of the value holds there
  pub holds : (s : List ℤ) → m.gamma v s → InvariantHolds state s
  -- no other list of that many numbers holds there
  pub only : (s : List ℤ) → length s ≡ m.dims v → InvariantHolds state s → m.gamma v s

-- so are these values
abbrev pub AreShown : {V H : Type 0} → Abstraction V H → Domain → (V → Invariant) → List V → Type 0
AreShown {V} m domain shown values = (v : V) → Contains values v → IsShown m domain v (shown v)

-- by rows alone, as domains without generators show their values --------------------------------------------------

-- a part without generators
abbrev pub shown_part : LinearSystem ConKind → Part
shown_part p = record { rows = shown_rows p.rows p.kinds; generators = [] }

-- a value's parts by their rows
abbrev pub shown_state : {V H : Type 0} → Abstraction V H → V → Invariant
shown_state m v = map shown_part (m.parts v)

-- the first coefficient of each equality is above 0
abbrev pub AreDirected : Part → Type 0
AreDirected p = AllByRecursion (λ (r : ReportRow). IsDirected r.kind r.coefficients) p.rows

-- a list of as many numbers as dimensions is a store of the value exactly if the state holds
abbrev pub MeansValue : {V H : Type 0} → Abstraction V H → V → Invariant → Type 0
MeansValue m v state = (s : List ℤ) → length s ≡ m.dims v → (m.gamma v s ↔ InvariantHolds state s)

-- in reports over this domain each value is shown by its rows: as wide as it is and as the domain has them, holding at
-- its stores, as their text states them
pub record ShowsRows {V H : Type 0} (m : Abstraction V H) (domain : Domain) : Type 0 where
  pub wide : (v : V) → AllByRecursion (HasWidth (m.dims v)) (shown_state m v)
  pub tell : (v : V) → AllByRecursion (ShowsPart domain (m.dims v)) (shown_state m v)
  pub holds : (v : V) (s : List ℤ) → m.gamma v s → InvariantHolds (shown_state m v) s
  pub directed : (v : V) → AllByRecursion AreDirected (shown_state m v)
