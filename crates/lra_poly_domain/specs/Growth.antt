-- What is reported about a head's growth before the head is changed.
use Rattle.std.specs.List.{list_any}
use Rattle.std.specs.Prelude.{◌≡◌, ◌≢◌, ◌⊎◌, ◌||◌, ℤ, Bool, true, false, not, IsTrue, List}
use Rattle.lra_domain.specs.{declared.Exactness.Exactness, declared.Mode.Mode}
use Rattle.lra_domain.specs.declared.Exactness.TheVariants as degree
use Rattle.lra_domain.specs.declared.Mode.TheVariants as how
use Rattle.lra_linear_spec.specs.Polyhedra.{IsPolyhedron, IsPolyhedronOf, Polyhedron}
use Rattle.lra_linear_spec.specs.{CheckedArithmetic.checked_product, Descriptions.Con, Descriptions.LinearRow}
use Rattle.lra_linear_spec.specs.{OperationStrain.HullStrains, Points.IsWithin, Strain.Loss}
use Rattle.lra_poly_domain.specs.Crates.lra_poly.declared.outcome.Outcome.{Outcome}
use Rattle.lra_poly_domain.specs.Crates.lra_poly.declared.outcome.Outcome.TheVariants as told
use Rattle.lra_poly_widening.specs.Rank.{Falls, IsLowerRank, fits, rank_of}
use Rattle.lra_poly_domain.specs.Heads.{PolyhedronGrowthStrains, IsGrown, IsLeft, WideningStrains, grown_set}
use Rattle.lra_poly_domain.specs.{Content.HeadContent, Sets.IsJoin, Sets.hull_of}

-- exact if nothing was lost
abbrev pub exactness_of : Outcome → Exactness
exactness_of told.Exact = degree.Exact
exactness_of (told.Flagged loss) = degree.Flagged

-- Q is the join of P and next with this exactness, or covers it if that exceeds a limit
pub record IsJoined (p next q : Polyhedron) (e : Exactness) : Type 0 where
  pub dims : q.dims ≡ p.dims
  pub canonical : IsPolyhedron q
  pub within : IsWithin p.dims (hull_of p next) (Con q.rows)
  pub exact : e ≡ degree.Exact → IsJoin p next q
  pub flagged : e ≡ degree.Flagged → (loss : Loss) × HullStrains p next loss

-- the head became R with the widening thresholds that are left
pub record HasGrown (h : HeadContent) (next : Polyhedron) (mode : Mode) (new : HeadContent) (e : Exactness)
    : Type 0 where
  pub dims : new.value.dims ≡ h.value.dims
  pub canonical : IsPolyhedron new.value
  pub old : IsWithin h.value.dims (Con h.value.rows) (Con new.value.rows)
  pub added : IsWithin h.value.dims (Con next.rows) (Con new.value.rows)
  pub covers : (g : HeadContent) → IsGrown h next mode g → IsWithin h.value.dims (Con g.value.rows) (Con new.value.rows)
  pub exact : e ≡ degree.Exact → IsGrown h next mode new
  pub flagged : e ≡ degree.Flagged → PolyhedronGrowthStrains h next mode
  pub falls : mode ≢ how.Join → new.value ≢ h.value →
      IsLowerRank (rank_of new.value new.thresholds) (rank_of h.value h.thresholds)
  pub left : IsLeft h mode new

abbrev pub head : Polyhedron → List LinearRow → HeadContent
head p given = record { value = p; thresholds = given }

-- R is the widening of P by Q with this exactness, or covers it if that exceeds a limit
pub record IsWidening (mode : Mode) (p q : Polyhedron) (given : List LinearRow) (r : Polyhedron) (e : Exactness)
    : Type 0 where
  pub dims : r.dims ≡ p.dims
  pub canonical : IsPolyhedron r
  pub within : IsWithin p.dims (grown_set mode p q given) (Con r.rows)
  pub old : IsWithin p.dims (Con p.rows) (Con r.rows)
  pub exact : e ≡ degree.Exact → IsPolyhedronOf p.dims (grown_set mode p q given) r
  pub flagged : e ≡ degree.Flagged → (loss : Loss) × WideningStrains mode p q given loss
  pub falls : r ≢ p → Falls p r given

-- ---- widening thresholds that are struck for their products
-- the product of two rows passes
abbrev pub product_passes : List ℤ → List ℤ → Bool
product_passes r g = not (fits (checked_product r g))

-- the product of the row with one of the generators passes
abbrev pub row_passes : List LinearRow → List ℤ → Bool
row_passes generators r = list_any (λ g. product_passes r g.row) generators

abbrev pub some_passes : List LinearRow → List LinearRow → Bool
some_passes generators given = list_any (λ r. row_passes generators r.row) given

-- a widening of this mode takes thresholds in
abbrev pub takes_thresholds : Mode → Bool
takes_thresholds how.Join = false
takes_thresholds how.Widen = false
takes_thresholds how.Limited = true
takes_thresholds how.Tightest = true

abbrev pub StrikePasses : Mode → Polyhedron → Polyhedron → List LinearRow → Type 0
StrikePasses how.Join p r given = ⊥
StrikePasses how.Widen p r given = ⊥
StrikePasses how.Limited p r given = IsTrue (some_passes p.generators given || some_passes r.generators given)
StrikePasses how.Tightest p r given = IsTrue (some_passes p.generators given || some_passes r.generators given)

-- if the widening is limited such a strike flags
abbrev pub IsStruck : Exactness → Mode → Polyhedron → Polyhedron → List LinearRow → Exactness → Type 0
IsStruck before mode p r given degree.Exact = (before ≡ degree.Exact) × ¬ StrikePasses mode p r given
IsStruck before mode p r given degree.Flagged = (before ≡ degree.Flagged) ⊎ StrikePasses mode p r given
