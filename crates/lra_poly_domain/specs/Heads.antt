-- How a head grows: by the join with next, or by the widening with that join. A growth by widening strikes thresholds.
-- A widening limited by the tightest of them is the same set as one limited by all; only the lists that may exceed a
-- limit are shorter.
use Rattle.std.specs.Prelude.{◌≡◌, List, [], ◌⊎◌}
use Rattle.lra_domain.specs.{declared.Mode.Mode, declared.Rank.Rank}
use Rattle.lra_domain.specs.declared.Mode.TheVariants as how
use Rattle.lra_linear_spec.specs.OperationStrain.{HullStrains, LimitedStrains, StandardStrains, valid_on}
use Rattle.lra_linear_spec.specs.Polyhedra.{IsPolyhedronOf, Polyhedron}
use Rattle.lra_linear_spec.specs.Widening.{LimitedWidening, StandardWidening}
use Rattle.lra_linear_spec.specs.{Descriptions.Con, Descriptions.LinearRow, Points.PointSet, Strain.Loss}
use Rattle.lra_poly_widening.specs.{Rank.kept_thresholds, Rank.rank_of, Tightest.TightestStrains}
use Rattle.lra_poly_domain.specs.{Content.HeadContent, Sets.IsJoin}

-- the points of P, grown by the join Q of P and next
abbrev pub grown_set : Mode → Polyhedron → Polyhedron → List LinearRow → PointSet
grown_set how.Join p q given = Con q.rows
grown_set how.Widen p q given = StandardWidening p q
grown_set how.Limited p q given = LimitedWidening p q given
grown_set how.Tightest p q given = LimitedWidening p q given

-- the thresholds that are left if P became R. A join strikes none. The standard widening strikes each that fails on
-- the result, or a product of which with a generator of P or of R passes the range. So do the limited ones, but a row
-- struck for its products alone is no part of their definition: that flags
abbrev pub thresholds_left : Mode → Polyhedron → Polyhedron → List LinearRow → List LinearRow
thresholds_left how.Join p r given = given
thresholds_left how.Widen p r given = kept_thresholds p r given
thresholds_left how.Limited p r given = valid_on p r given
thresholds_left how.Tightest p r given = valid_on p r given

-- the head that h becomes by next
pub record IsGrown (h : HeadContent) (next : Polyhedron) (mode : Mode) (new : HeadContent) : Type 0 where
  pub join : Polyhedron
  pub is_join : IsJoin h.value next join
  pub made : IsPolyhedronOf h.value.dims (grown_set mode h.value join h.thresholds) new.value
  pub left : new.thresholds ≡ thresholds_left mode h.value new.value h.thresholds

-- the head that h becomes if it isn't decided whether next lies in it: all points, and the widening thresholds that
-- are left
pub record HeadIsGivenUp (h new : HeadContent) : Type 0 where
  pub all : IsPolyhedronOf h.value.dims (Con []) new.value
  pub left : new.thresholds ≡ kept_thresholds h.value new.value h.thresholds

-- the widening thresholds that are left when h became new, flagged or not: a struck row isn't given to that head again
abbrev pub IsLeft : HeadContent → Mode → HeadContent → Type 0
IsLeft h how.Join new = (new.thresholds ≡ h.thresholds) ⊎ HeadIsGivenUp h new
IsLeft h how.Widen new = new.thresholds ≡ kept_thresholds h.value new.value h.thresholds
IsLeft h how.Limited new = new.thresholds ≡ kept_thresholds h.value new.value h.thresholds
IsLeft h how.Tightest new = new.thresholds ≡ kept_thresholds h.value new.value h.thresholds

-- the widening of P by Q exceeds a limit; a join of P with Q is Q
abbrev pub WideningStrains : Mode → Polyhedron → Polyhedron → List LinearRow → Loss → Type 0
WideningStrains how.Join p q given loss = ⊥
WideningStrains how.Widen p q given loss = StandardStrains p q loss
WideningStrains how.Limited p q given loss = LimitedStrains p q given loss
WideningStrains how.Tightest p q given loss = TightestStrains p q given loss

-- the join exceeds a limit, or the widening with the join that is defined
pub record WidenedStrains (h : HeadContent) (next : Polyhedron) (mode : Mode) : Type 0 where
  pub join : Polyhedron
  pub is_join : IsJoin h.value next join
  pub loss : Loss
  pub strains : WideningStrains mode h.value join h.thresholds loss

abbrev pub PolyhedronGrowthStrains : HeadContent → Polyhedron → Mode → Type 0
PolyhedronGrowthStrains h next mode = ((loss : Loss) × HullStrains h.value next loss) ⊎ WidenedStrains h next mode

-- 1, then the rank of the polyhedron over the widening thresholds
abbrev pub head_rank : HeadContent → Rank
head_rank h = let r = rank_of h.value h.thresholds in record {
  first = 1;
  second = r.equalities;
  third = r.held;
  fourth = r.free;
}
