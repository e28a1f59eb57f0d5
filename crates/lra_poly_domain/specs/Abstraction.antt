-- The meaning of closed polyhedra. All is said of sets of rational points; a store of whole numbers is one of them.
use Rattle.std.specs.Prelude.{◌≡◌, ◌≤◌, []}
use Rattle.lra_domain.specs.Abstraction.{Abstraction}
use Rattle.lra_linear_spec.specs.declared.Excess as E
use Rattle.lra_linear_spec.specs.OperationStrain.{HullStrains, InclusionStrains}
use Rattle.lra_linear_spec.specs.Polyhedra.{IsPolyhedron, IsPolyhedronOf, Polyhedron}
use Rattle.lra_linear_spec.specs.{Descriptions.Con, Points.IsEmptySet, Representable.IsRepresentable, Strain.Loss}
use Rattle.lra_poly_domain.specs.Crates.lra_systems.LinearSystems.{constraints}
use Rattle.lra_poly_domain.specs.Bounded.{PolyhedronBounded}
use Rattle.lra_poly_domain.specs.Content.{PolyhedronAnswers, PolyhedronLeq, HeadContent, WellFormedHead}
use Rattle.lra_poly_domain.specs.Content.{PolyhedronGamma, polyhedron_parts}
use Rattle.lra_poly_domain.specs.Heads.{PolyhedronGrowthStrains, HeadIsGivenUp, IsGrown, IsLeft, head_rank}
use Rattle.lra_poly_domain.specs.Sets.{ChangeStrains, HoldsPoints, IsChanged, IsJoin, KeepsPoints}

abbrev pub polyhedron_abstraction : Abstraction Polyhedron HeadContent
polyhedron_abstraction = record {
  well_formed = IsRepresentable;
  gamma = PolyhedronGamma;
  dims = λ p. p.dims;
  parts = polyhedron_parts;
  capped = λ p c. 1 ≤ c;
  bounded = PolyhedronBounded;
  leq = PolyhedronLeq;
  top = λ n cap p. IsPolyhedronOf n (Con []) p;
  bottom = λ n cap p. (p.dims ≡ n) × IsEmptySet n (Con p.rows) × IsPolyhedron p;
  keeps = KeepsPoints;
  transferred = IsChanged;
  strains = λ step p. (loss : Loss) × ChangeStrains step p loss;
  joined = IsJoin;
  join_strains = λ p q. (loss : Loss) × HullStrains p q loss;
  included = PolyhedronLeq;
  inclusion_strains = λ p q. (e : E.Excess) × InclusionStrains p q e;
  head_well_formed = WellFormedHead;
  head_gamma = λ h. PolyhedronGamma h.value;
  head_dims = λ h. h.value.dims;
  head_capped = λ h c. 1 ≤ c;
  rank = head_rank;
  head_leq = λ a b. PolyhedronLeq a.value b.value;
  started = λ p given h. h ≡ record { value = p; thresholds = constraints given };
  stays = λ h p mode. PolyhedronLeq p h.value;
  answers = λ h p mode i. PolyhedronAnswers p h.value i;
  holds_both = λ old next new. HoldsPoints old.value next new.value;
  left = IsLeft;
  given_up = λ old mode new. HeadIsGivenUp old new;
  grown = IsGrown;
  grow_strains = PolyhedronGrowthStrains;
  valued = λ h p. p ≡ h.value;
  value_strains = λ h. ⊥;
}
