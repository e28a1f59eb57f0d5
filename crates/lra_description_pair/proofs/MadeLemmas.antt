-- What rows and generators that were tried say of the polyhedron that is made of them.
use Rattle.std.proofs.Common.{◌≡◌, ◌∙◌, ℕ, zero, suc, List, [], ◌∷◌, ◌++◌, ap, drop, inl, inr, refl, subst, sym, take}
use Rattle.std.specs.List.{Contains}
use Rattle.lra_description_pair.specs.Crates.lra_linear_spec.OperationStrain.{FromGeneratorsStrains, FromRowsStrains, with_positivity}
use Rattle.lra_description_pair.specs.Crates.lra_linear_spec.Polyhedra.{IsPolyhedron, IsPolyhedronOf, Polyhedron}
use Rattle.lra_description_pair.specs.Crates.lra_systems.LinearSystems.{LinearSystem, constraints}
use Rattle.lra_description_pair.specs.Crates.{lra_linear_spec.Descriptions.Con, lra_linear_spec.Descriptions.Gen, lra_linear_spec.Descriptions.LinearRow, lra_linear_spec.Points.IsWithin}
use Rattle.lra_description_pair.specs.Crates.{lra_linear_spec.Points.PointSet, lra_linear_spec.Strain.Loss, lra_linear_spec.Strain.Strains, lra_linear_spec.declared.ConKind.ConKind}
use Rattle.lra_description_pair.proofs.Crates.lra_linear_spec.Membership.{contains_cases, contains_head, contains_none, contains_tail}
use Rattle.lra_cone.specs.{Cones.ConeContent, Conversions.IsConversion, Losses.IfLost}
use Rattle.lra_description_pair.specs.TakenPoints.{AreTaken, IsMadeOfPoints, IsOfFirst, IsOfPoints, most_kept}
use Rattle.lra_description_pair.specs.{KeptRows.IsOfSome, Made.IsMadeFor, Made.IsMadeOfGenerators, Made.IsMadeOfRows, OwnLists.IsPositive, TriedRows.IsMadeOf, TriedRows.IsOfTried}
use Rattle.lra_description_pair.proofs.GeneratorPairs.{lost_strain, own_lost_strain, taken_strain}
use Rattle.lra_description_pair.proofs.PairLosses.{all_of, first_within, from_strain, later_strain, none_of, same_strain, some_loss, still_among, taken_behind, universe_within}

-- ---- the rows that were added to a cone
taken_dims : (n : ℕ) (s : ConeContent) (before after : List Loss) (p : Polyhedron) → IsMadeOf n s before p after → p.dims ≡ n
taken_dims n s before after p (inl x) = x.made.dimensions
taken_dims n s before after p (inr x) = x.1.dimensions

taken_canonical : (n : ℕ) (s : ConeContent) (before after : List Loss) (p : Polyhedron) → IsMadeOf n s before p after → IsPolyhedron p
taken_canonical n s before after p (inl x) = x.made.canonical
taken_canonical n s before after p (inr x) = x.1.canonical

taken_within : (n : ℕ) (s : ConeContent) (before after : List Loss) (p : Polyhedron) → IsMadeOf n s before p after →
    IsWithin n (Con (drop 1 s.taken)) (Con p.rows)
taken_within n s before after p (inl x) = x.made.points.0
taken_within n s before after p (inr x) = universe_within n n (drop 1 s.taken) p refl x.1

-- without a loss after it there was none before, and it is that of all of them
taken_exact : (n : ℕ) (s : ConeContent) (before after : List Loss) (p : Polyhedron) → IsMadeOf n s before p after → after ≡ [] →
    (before ≡ []) × IsPolyhedronOf n (Con (drop 1 s.taken)) p
taken_exact n s before after p (inl x) none = (sym x.told ∙ none, x.made)
taken_exact n s before after p (inr x) none = absurd (some_loss s x.0.cause before after after x.0.told refl none)

taken_some : (n : ℕ) (s : ConeContent) (before after : List Loss) (p : Polyhedron) → IsMadeOf n s before p after → IsOfSome n (drop 1 s.taken) p
taken_some n s before after p (inl x) = all_of n (drop 1 s.taken) p x.made
taken_some n s before after p (inr x) = none_of n (drop 1 s.taken) p x.1

taken_strains : (n : ℕ) (s : ConeContent) (before after : List Loss) (p : Polyhedron) → s.dims ≡ n → IsMadeOf n s before p after →
    (first all kept : List LinearRow) → IsConversion first all kept s before → IfLost (Strains (suc n) (first ++ all)) after
taken_strains n s before after p d (inl x) first all kept c =
    subst (IfLost (Strains (suc n) (first ++ all))) (sym x.told) (same_strain n s before d first all kept c)
taken_strains n s before after p d (inr x) first all kept c =
    later_strain n s x.0.cause before after d x.0.is_cone x.0.told x.0.is_cause first all kept c

-- ---- rows that were tried after others, positivity foremost
tried_strain : (n : ℕ) (first all : List LinearRow) (p : Polyhedron) (losses : List Loss) → IsPositive n first → IsOfTried n first all p losses →
    IfLost (FromRowsStrains n (drop 1 first ++ all)) losses
tried_strain n first all p losses positive t =
    let same : first ++ all ≡ with_positivity n (drop 1 first ++ all) = ap (λ (g : List LinearRow). g ++ all) positive.1 ∙
    ap (λ (g : List LinearRow). with_positivity n (drop 1 g ++ all)) (sym positive.1) in
    from_strain n (drop 1 first ++ all) losses (subst (λ (g : List LinearRow). IfLost (Strains (suc n) g) losses) same
    (taken_strains n t.cone t.left losses p t.dims t.made first all t.kept t.conversion))

pub tried_is_made : (n : ℕ) (first all : List LinearRow) (p : Polyhedron) (losses : List Loss) → IsPositive n first → IsOfTried n first all p losses →
    IsMadeOfRows n (drop 1 first ++ all) p losses
tried_is_made n first all p losses positive t =
    let front = drop 1 first in
    let s = t.cone in
    let behind : drop 1 s.taken ≡ front ++ t.kept = taken_behind n first all t.kept s t.left positive t.conversion in
    record {
      dims = taken_dims n s t.left losses p t.made;
      canonical = taken_canonical n s t.left losses p t.made;
      within = first_within n (front ++ t.kept) (front ++ all) (Con p.rows) (still_among front t.kept all t.conversion.among)
          (subst (λ (l : List LinearRow). IsWithin n (Con l) (Con p.rows)) behind (taken_within n s t.left losses p t.made));
      exact = λ none.
          let x = taken_exact n s t.left losses p t.made none in
          subst (λ (l : List LinearRow). IsPolyhedronOf n (Con l) p) (behind ∙ ap (λ (l : List LinearRow). front ++ l) (t.conversion.whole x.0)) x.1;
      flagged = tried_strain n first all p losses positive t;
    }

pub tried_some : (n : ℕ) (first all : List LinearRow) (p : Polyhedron) (losses : List Loss) → IsPositive n first → IsOfTried n first all p losses →
    IsOfSome n (drop 1 first ++ all) p
tried_some n first all p losses positive t =
    let front = drop 1 first in
    let s = taken_some n t.cone t.left losses p t.made in
    record {
      rows = s.rows;
      among = λ g m. still_among front t.kept all t.conversion.among g
          (subst (λ (l : List LinearRow). Contains l g) (taken_behind n first all t.kept t.cone t.left positive t.conversion) (s.among g m));
      made = s.made;
    }

-- ---- the set itself
pub whole_made : (n : ℕ) (S : PointSet) (strains : Loss → Type 0) (p : Polyhedron) (losses : List Loss) → losses ≡ [] → IsPolyhedronOf n S p →
    IsMadeFor n S strains p losses
whole_made n S strains p losses none is = record {
  dims = is.dimensions;
  canonical = is.canonical;
  within = is.points.0;
  exact = λ _. is;
  flagged = subst (IfLost strains) (sym none) tt;
}

-- ---- generators, some of them points
first_has : (count : ℕ) (list : List LinearRow) (g : LinearRow) → Contains (take count list) g → Contains list g
first_has zero list g m = absurd (contains_none g m)
first_has (suc count) [] g m = absurd (contains_none g m)
first_has (suc count) (x ∷ list) g m = elim (contains_cases x g (take count list) m) [
  | inl e ↦ subst (Contains (x ∷ list)) e (contains_head x list)
  | inr n ↦ contains_tail x g list (first_has count list g n)
]

-- the polyhedron of the first of some constraints that hold at each point of a set, after a loss
enclosed : (n : ℕ) (S : PointSet) (rows : List LinearRow) (strains : Loss → Type 0) (p : Polyhedron) (losses : List Loss) → IsWithin n S (Con rows) →
    (losses ≡ [] → ⊥) → IfLost strains losses → IsOfFirst n rows p → IsMadeFor n S strains p losses
enclosed n S rows strains p losses within lost strained f =
    let m = tried_is_made n (with_positivity n []) (take most_kept rows) p f.losses ([], refl) f.tried in
    record {
      dims = m.dims;
      canonical = m.canonical;
      within = λ x i s. m.within x i (λ g c. within x i s g (first_has most_kept rows g c));
      exact = λ none. absurd (lost none);
      flagged = strained;
    }

taken_points : (n : ℕ) (given : List LinearRow) (list : LinearSystem ConKind) (s : ConeContent) (left losses : List Loss) (p : Polyhedron) →
    AreTaken n given list s left →
    left ≡ [] → IsMadeOfPoints n s (constraints list) p losses → IsMadeOfGenerators n given p losses
taken_points n given list s left losses p t none (inl a) =
    whole_made n (Gen given) (FromGeneratorsStrains n given) p losses a.0 (subst (λ (l : List LinearRow). IsPolyhedronOf n (Gen l) p) (t.whole none) a.1)
taken_points n given list s left losses p t none (inr b) =
    enclosed n (Gen given) (constraints list) (FromGeneratorsStrains n given) p losses t.within
    (λ empty. some_loss s b.0.cause [] losses losses b.0.told refl empty)
    (taken_strain n n given list s left losses t none refl
    (own_lost_strain n s b.0.cause [] losses losses t.dims b.0.is_cone refl b.0.told refl b.0.is_cause)) b.1

pub points_made : (n : ℕ) (given : List LinearRow) (p : Polyhedron) (losses : List Loss) → IsOfPoints n given p losses → IsMadeOfGenerators n given p losses
points_made n given p losses x = elim x.made [
  | inl a ↦ taken_points n given x.list x.cone x.left losses p x.taken a.0 a.1
  | inr b ↦ enclosed n (Gen given) (constraints x.list) (FromGeneratorsStrains n given) p losses x.taken.within
      (λ none. b.0 (sym b.1 ∙ none)) (lost_strain n given x.list x.cone x.left losses x.taken b.1) b.2
]
