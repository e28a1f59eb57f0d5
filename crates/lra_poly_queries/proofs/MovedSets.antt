-- Dimensions moved: the generators with their columns in the new order.
use Rattle.std.proofs.Common.{◌≡◌, ℕ, zero, suc, ◌<◌, ◌≤◌, ◌+◌, List, [], ◌∷◌, ◌++◌, length, map, take, get_or, ap, refl, sym, ◌∙◌, ℤ, pos, neg_ℤ, ◌+ℤ◌, ◌*ℤ◌, add-one, arith}
use Rattle.std.proofs.{Math.Seq.take-suc, lemmas.List.map-append, lemmas.List.take_all}
use Rattle.lra_poly_queries.specs.Crates.{lra_linear_spec.Descriptions.Con, lra_linear_spec.Descriptions.Gen, lra_linear_spec.Points.SameSet, lra_linear_spec.Polyhedra.IsPolyhedron}
use Rattle.lra_poly_queries.specs.Crates.{lra_linear_spec.Polyhedra.Polyhedron, lra_linear_spec.Vectors.entry, lra_linear_spec.Vectors.negated, lra_linear_spec.declared.GenKind.GenKind}
use Rattle.lra_poly_queries.proofs.Crates.lra_linear_spec.Ring.{ring, v, ◌⊕◌, ◌⊗◌}
use Rattle.lra_poly_queries.proofs.Crates.{lra_linear_spec.Polyhedra.con_gen, lra_linear_spec.Products.entry_negated}
use Rattle.lra_systems.specs.LinearSystems.{LinearSystem, generators}
use Rattle.lra_mapped_systems.proofs.{MappedSets.IsMapOf, MappedSets.mapped_from, MappedSets.mapped_in, MappedSets.widths_of, Sums.IsLinear}
use Rattle.lra_poly.proofs.TakenGenerators.{Takes}
use Rattle.lra_poly_queries.specs.Moved.{Moved, chosen, moved}

-- ---- the columns as a linear map
abbrev picked : List ℕ → (ℕ → ℤ) → ℕ → ℤ
picked [] u j = pos 0
picked (d ∷ dims) u zero = u (suc d)
picked (d ∷ dims) u (suc j) = picked dims u j

abbrev choice : List ℕ → (ℕ → ℤ) → ℕ → ℤ
choice dims u zero = u 0
choice dims u (suc j) = picked dims u j

picked_nothing : (dims : List ℕ) (j : ℕ) → picked dims (λ i. pos 0) j ≡ pos 0
picked_nothing [] j = refl
picked_nothing (d ∷ dims) zero = refl
picked_nothing (d ∷ dims) (suc j) = picked_nothing dims j

picked_plus : (dims : List ℕ) (a : ℤ) (x s : ℕ → ℤ) (j : ℕ) →
    picked dims (λ i. (a *ℤ x i) +ℤ s i) j ≡ (a *ℤ picked dims x j) +ℤ picked dims s j
picked_plus [] a x s j = ring (v (pos 0)) (v a ⊗ v (pos 0) ⊕ v (pos 0)) (omega arith)
picked_plus (d ∷ dims) a x s zero = refl
picked_plus (d ∷ dims) a x s (suc j) = picked_plus dims a x s j

picked_same : (dims : List ℕ) (x y : ℕ → ℤ) → ((i : ℕ) → x i ≡ y i) → (j : ℕ) → picked dims x j ≡ picked dims y j
picked_same [] x y e j = refl
picked_same (d ∷ dims) x y e zero = e (suc d)
picked_same (d ∷ dims) x y e (suc j) = picked_same dims x y e j

choice_linear : (dims : List ℕ) → IsLinear (choice dims)
choice_linear dims = record { nothing = nothing; plus = plus; same = same }
  where
    nothing : (j : ℕ) → choice dims (λ i. pos 0) j ≡ pos 0
    nothing zero = refl
    nothing (suc j) = picked_nothing dims j

    plus : (a : ℤ) (x s : ℕ → ℤ) (j : ℕ) →
        choice dims (λ i. (a *ℤ x i) +ℤ s i) j ≡ (a *ℤ choice dims x j) +ℤ choice dims s j
    plus a x s zero = refl
    plus a x s (suc j) = picked_plus dims a x s j

    same : (x y : ℕ → ℤ) → ((i : ℕ) → x i ≡ y i) → (j : ℕ) → choice dims x j ≡ choice dims y j
    same x y e zero = e 0
    same x y e (suc j) = picked_same dims x y e j

picked_entry : (dims : List ℕ) (row : List ℤ) (j : ℕ) →
    entry (map (λ d. entry row (suc d)) dims) j ≡ picked dims (entry row) j
picked_entry [] row j = refl
picked_entry (d ∷ dims) row zero = refl
picked_entry (d ∷ dims) row (suc j) = picked_entry dims row j

chosen_entry : (dims : List ℕ) (row : List ℤ) (j : ℕ) → entry (chosen dims row) j ≡ choice dims (entry row) j
chosen_entry dims row zero = refl
chosen_entry dims row (suc j) = picked_entry dims row j

picked_negated : (dims : List ℕ) (row : List ℤ) →
    map (λ d. entry (negated row) (suc d)) dims ≡ negated (map (λ d. entry row (suc d)) dims)
picked_negated [] row = refl
picked_negated (d ∷ dims) row =
    ap (λ (z : ℤ). z ∷ map (λ d. entry (negated row) (suc d)) dims) (entry_negated row (suc d)) ∙
    ap (λ (l : List ℤ). neg_ℤ (entry row (suc d)) ∷ l) (picked_negated dims row)

chosen_negated : (dims : List ℕ) (row : List ℤ) → chosen dims (negated row) ≡ negated (chosen dims row)
chosen_negated dims row =
    ap (λ (z : ℤ). z ∷ map (λ d. entry (negated row) (suc d)) dims) (entry_negated row 0) ∙
    ap (λ (l : List ℤ). neg_ℤ (entry row 0) ∷ l) (picked_negated dims row)

chosen_map : (dims : List ℕ) (m : ℕ) → IsMapOf (choice dims) (chosen dims) m
chosen_map dims m = record {
  linear = choice_linear dims;
  divisor = λ u. refl;
  opposite = chosen_negated dims;
  entries = λ r l j. chosen_entry dims r j;
}

-- ---- the set
moved_generators : (p : Polyhedron) (dims : List ℕ) → IsPolyhedron p →
    SameSet (length dims) (Moved p.dims dims (Con p.rows)) (Gen (moved dims p.generators))
moved_generators p dims h = (
  λ x i f. mapped_in (choice dims) (chosen dims) p.dims p.generators x f.from (chosen_map dims (suc p.dims))
      (widths_of p h) i.divisor f.is_point f.same ((con_gen p h).0 f.from f.is_point f.inside),
  λ x i g.
      let f = mapped_from (choice dims) (chosen dims) p.dims p.generators x (chosen_map dims (suc p.dims))
      (widths_of p h) i.divisor g in
      record {
        from = f.from;
        is_point = f.is_point;
        inside = (con_gen p h).1 f.from f.is_point f.inside;
        same = f.same;
      },
)

pub moved_takes : (p : Polyhedron) (list all : LinearSystem GenKind) (dims : List ℕ) → IsPolyhedron p →
    generators list ≡ p.generators → all.dims ≡ length dims → generators all ≡ moved dims (generators list) →
    Takes (length dims) (Moved p.dims dims (Con p.rows)) (moved dims p.generators) all
moved_takes p list all dims h eg ed ea = record {
  dimensions = ed;
  are = ea ∙ ap (moved dims) eg;
  same = moved_generators p dims h;
}

-- ---- one column more
pub one_chosen : (row all more : List ℤ) (dims : List ℕ) (i : ℕ) (z : ℤ) → all ≡ chosen (take i dims) row →
    i < length dims → z ≡ entry row (suc (get_or dims i 0)) → more ≡ all ++ z ∷ [] →
    more ≡ chosen (take (i + 1) dims) row
one_chosen row all more dims i z ea h ez em =
    em ∙ ap (λ (l : List ℤ). l ++ z ∷ []) ea
    ∙ ap (λ (y : ℤ). chosen (take i dims) row ++ y ∷ []) ez
    ∙ ap (λ (l : List ℤ). entry row 0 ∷ l)
    (sym (map-append (λ d. entry row (suc d)) (take i dims) (get_or dims i 0 ∷ []))
    ∙ ap (map (λ d. entry row (suc d))) (sym (take-suc dims i 0 h))
    ∙ ap (λ (j : ℕ). map (λ d. entry row (suc d)) (take j dims)) (sym (add-one i)))

pub all_chosen : (row all : List ℤ) (dims : List ℕ) (i : ℕ) → all ≡ chosen (take i dims) row → length dims ≤ i →
    all ≡ chosen dims row
all_chosen row all dims i e h = e ∙ ap (λ (l : List ℕ). chosen l row) (take_all i dims h)

-- ---- widths
pub chosen_width : (dims : List ℕ) (row t : List ℤ) → t ≡ chosen dims row → length t ≡ suc (length dims)
chosen_width dims row t e = ap length e ∙ ap suc (mapped_width dims)
  where
    mapped_width : (l : List ℕ) → length (map (λ d. entry row (suc d)) l) ≡ length l
    mapped_width [] = refl
    mapped_width (d ∷ l) = ap suc (mapped_width l)
