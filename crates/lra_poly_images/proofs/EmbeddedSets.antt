-- Further dimensions: the generators with columns of zeros, and a line along each new dimension.
use Rattle.std.proofs.Common.{◌≡◌, ℕ, zero, suc, ◌+◌, ◌-◌, List, [], ◌∷◌, ◌++◌, length, map, take, drop, true, ap, refl, sym, ◌∙◌, subst, ℤ, pos, neg_ℤ, ◌+ℤ◌, ◌*ℤ◌, ◌<ℤ◌, arith, inl, inr}
use Rattle.std.proofs.{lemmas.List.length-drop, lemmas.List.length-take-le, lemmas.List.take_all, lemmas.List.Elements.Contains-append_cases}
use Rattle.std.specs.List.{Contains}
use Rattle.lra_poly_images.specs.Crates.lra_linear_spec.Descriptions.{Con, Gen, LinearRow, rows_as, system_of}
use Rattle.lra_poly_images.specs.Crates.lra_linear_spec.Vectors.{entry, negated, units, zeros}
use Rattle.lra_poly_images.specs.Crates.{lra_linear_spec.Cones.Generated, lra_linear_spec.Cones.both_ways, lra_linear_spec.OperationStrain.embedded, lra_linear_spec.Points.IsPoint}
use Rattle.lra_poly_images.specs.Crates.{lra_linear_spec.Points.SameSet, lra_linear_spec.Polyhedra.IsPolyhedron, lra_linear_spec.Polyhedra.Polyhedron, lra_linear_spec.SetOperations.Embed}
use Rattle.lra_poly_images.specs.Crates.{lra_linear_spec.declared.GenKind.GenKind, lra_systems.LinearSystems.LinearSystem, lra_systems.LinearSystems.generators}
use Rattle.lra_poly_images.proofs.Crates.lra_linear_spec.Combinations.{generated_plus, generated_row, generated_same, generated_zero}
use Rattle.lra_poly_images.proofs.Crates.lra_linear_spec.Ring.{ring, v, ◌⊕◌, ◌⊗◌}
use Rattle.lra_poly_images.proofs.Crates.{lra_descriptions.SeveralKinds.system_append, lra_descriptions.SeveralKinds.system_lines, lra_linear_spec.Descriptions.gen_generated}
use Rattle.lra_poly_images.proofs.Crates.{lra_linear_spec.Descriptions.generated_gen, lra_linear_spec.LinearMaps.generated_left, lra_linear_spec.LinearMaps.generated_right}
use Rattle.lra_poly_images.proofs.Crates.{lra_linear_spec.Lines.generated_described, lra_linear_spec.Lines.whole_described, lra_linear_spec.Membership.map_from, lra_linear_spec.Polyhedra.con_gen}
use Rattle.lra_mapped_systems.proofs.Sums.{IsLinear, generated_linear, generated_mapped, mapped_by, system_mapped}
use Rattle.lra_mapped_systems.proofs.{ListLemmas.longer_entry, ListLemmas.short_divisor, MappedSets.widths_of}
use Rattle.lra_poly.proofs.TakenGenerators.{Takes}
use Rattle.lra_poly_images.proofs.ShortenedSets.{columns_linear, first_columns, short_entry}

-- ---- rows with zeros after them
zeros_negated : (k : ℕ) → zeros k ≡ negated (zeros k)
zeros_negated zero = refl
zeros_negated (suc k) = ap (λ (l : List ℤ). pos 0 ∷ l) (zeros_negated k)

longer_negated : (k : ℕ) (r : List ℤ) → negated r ++ zeros k ≡ negated (r ++ zeros k)
longer_negated k [] = zeros_negated k
longer_negated k (x ∷ r) = ap (λ (l : List ℤ). neg_ℤ x ∷ l) (longer_negated k r)

-- ---- rows with zeros before them
abbrev behind : ℕ → (ℕ → ℤ) → ℕ → ℤ
behind zero u j = u j
behind (suc w) u zero = pos 0
behind (suc w) u (suc j) = behind w u j

behind_entry : (w : ℕ) (r : List ℤ) (j : ℕ) → entry (zeros w ++ r) j ≡ behind w (entry r) j
behind_entry zero r j = refl
behind_entry (suc w) r zero = refl
behind_entry (suc w) r (suc j) = behind_entry w r j

behind_nothing : (w j : ℕ) → behind w (λ i. pos 0) j ≡ pos 0
behind_nothing zero j = refl
behind_nothing (suc w) zero = refl
behind_nothing (suc w) (suc j) = behind_nothing w j

behind_plus : (w : ℕ) (a : ℤ) (x s : ℕ → ℤ) (j : ℕ) →
    behind w (λ i. (a *ℤ x i) +ℤ s i) j ≡ (a *ℤ behind w x j) +ℤ behind w s j
behind_plus zero a x s j = refl
behind_plus (suc w) a x s zero = ring (v (pos 0)) (v a ⊗ v (pos 0) ⊕ v (pos 0)) (omega arith)
behind_plus (suc w) a x s (suc j) = behind_plus w a x s j

behind_same : (w : ℕ) (x y : ℕ → ℤ) → ((i : ℕ) → x i ≡ y i) → (j : ℕ) → behind w x j ≡ behind w y j
behind_same zero x y e j = e j
behind_same (suc w) x y e zero = refl
behind_same (suc w) x y e (suc j) = behind_same w x y e j

behind_linear : (w : ℕ) → IsLinear (behind w)
behind_linear w = record { nothing = behind_nothing w; plus = behind_plus w; same = behind_same w }

behind_negated : (w : ℕ) (r : List ℤ) → zeros w ++ negated r ≡ negated (zeros w ++ r)
behind_negated zero r = refl
behind_negated (suc w) r = ap (λ (l : List ℤ). pos 0 ∷ l) (behind_negated w r)

both_behind : (w : ℕ) (rows : List (List ℤ)) → both_ways (map (λ u. zeros w ++ u) rows) ≡
    map (λ u. zeros w ++ u) (both_ways rows)
both_behind w [] = refl
both_behind w (r ∷ rows) =
    ap (λ (l : List (List ℤ)). (zeros w ++ r) ∷ negated (zeros w ++ r) ∷ l) (both_behind w rows) ∙
    ap (λ (x : List ℤ). (zeros w ++ r) ∷ x ∷ map (λ u. zeros w ++ u) (both_ways rows)) (sym (behind_negated w r))

-- the columns from w on
abbrev later_columns : ℕ → (ℕ → ℤ) → ℕ → ℤ
later_columns w u = behind w (λ i. u (w + i))

split_columns : (w : ℕ) (r : List ℤ) (j : ℕ) → entry (take w r) j +ℤ behind w (entry (drop w r)) j ≡ entry r j
split_columns zero r j = ring (v (pos 0) ⊕ v (entry r j)) (v (entry r j)) (omega arith)
split_columns (suc w) [] j = ap (λ (z : ℤ). pos 0 +ℤ z) (behind_nothing (suc w) j) ∙ refl
split_columns (suc w) (x ∷ r) zero = ring (v x ⊕ v (pos 0)) (v x) (omega arith)
split_columns (suc w) (x ∷ r) (suc j) = split_columns w r j

-- ---- into the cone
system_embedded : (p : Polyhedron) (k : ℕ) →
    system_of (embedded k p) ≡ map (λ r. r ++ zeros k) (system_of p.generators) ++
    map (λ u. zeros (suc p.dims) ++ u) (both_ways (units k))
system_embedded p k =
    system_append (mapped_by (λ r. r ++ zeros k) p.generators)
    (rows_as true (map (λ u. zeros (suc p.dims) ++ u) (units k)))
    ∙ ap (λ (l : List (List ℤ)). l ++ system_of (rows_as true (map (λ u. zeros (suc p.dims) ++ u) (units k))))
    (system_mapped (λ r. r ++ zeros k) (longer_negated k) p.generators)
    ∙ ap (λ (l : List (List ℤ)). map (λ r. r ++ zeros k) (system_of p.generators) ++ l)
    (system_lines (map (λ u. zeros (suc p.dims) ++ u) (units k)) ∙ both_behind (suc p.dims) (units k))

same_linear : IsLinear (λ u. u)
same_linear = record { nothing = λ j. refl; plus = λ a x s j. refl; same = λ x y e j. e j }

embedded_in : (p : Polyhedron) (k : ℕ) (x : List ℤ) → length x ≡ suc p.dims + k →
    Generated (system_of p.generators) (entry (take (suc p.dims) x)) → Generated (system_of (embedded k p)) (entry x)
embedded_in p k x e g =
    let w = suc p.dims in
    let longer = map (λ r. r ++ zeros k) (system_of p.generators) in
    let lines = map (λ u. zeros w ++ u) (both_ways (units k)) in
    let first = generated_left longer lines (entry (take w x))
    (generated_mapped (λ u. u) same_linear (λ r. r ++ zeros k) (system_of p.generators) (entry (take w x))
    (λ r c j. longer_entry k r j) g) in
    let rest = generated_right longer lines (behind w (entry (drop w x)))
    (generated_mapped (behind w) (behind_linear w) (λ u. zeros w ++ u) (both_ways (units k)) (entry (drop w x))
    (λ r c j. behind_entry w r j)
    (generated_described (units k) [] (entry (drop w x)) (whole_described k (drop w x) (drop_length w k x e)))) in
    subst (λ (l : List (List ℤ)). Generated l (entry x)) (sym (system_embedded p k))
    (generated_same (longer ++ lines) (λ j. entry (take w x) j +ℤ behind w (entry (drop w x)) j) (entry x)
    (split_columns w x)
    (generated_plus (longer ++ lines) (entry (take w x)) (behind w (entry (drop w x))) first rest))
  where
    less : (w k : ℕ) → (w + k) - w ≡ k
    less w k = omega arith

    drop_length : (w k : ℕ) (x : List ℤ) → length x ≡ w + k → length (drop w x) ≡ k
    drop_length w k x e = length-drop w x ∙ ap (λ (n : ℕ). n - w) e ∙ less w k

-- ---- and out of it
first_behind : (w j : ℕ) (u : ℕ → ℤ) → first_columns w (behind w u) j ≡ pos 0
first_behind zero j u = refl
first_behind (suc w) zero u = refl
first_behind (suc w) (suc j) u = first_behind w j u

first_all : (w : ℕ) (r : List ℤ) → length r ≡ w → (j : ℕ) → first_columns w (entry r) j ≡ entry r j
first_all w r e j = sym (short_entry w r j) ∙ ap (λ (l : List ℤ). entry l j) (take_all w r (omega (arith, e)))

embedded_from : (p : Polyhedron) (k : ℕ) (x : List ℤ) → IsPolyhedron p →
    Generated (system_of (embedded k p)) (entry x) → Generated (system_of p.generators) (entry (take (suc p.dims) x))
embedded_from p k x h g =
    let w = suc p.dims in
    generated_same (system_of p.generators) (first_columns w (entry x)) (entry (take w x))
    (λ j. sym (short_entry w x j))
    (generated_linear (first_columns w) (columns_linear w)
    (map (λ r. r ++ zeros k) (system_of p.generators) ++ map (λ u. zeros w ++ u) (both_ways (units k)))
    (system_of p.generators) (entry x) each
    (subst (λ (l : List (List ℤ)). Generated l (entry x)) (system_embedded p k) g))
  where
    each : (t : List ℤ) → Contains (map (λ r. r ++ zeros k) (system_of p.generators) ++
        map (λ u. zeros (suc p.dims) ++ u) (both_ways (units k))) t →
        Generated (system_of p.generators) (first_columns (suc p.dims) (entry t))
    each t c = elim (Contains-append_cases (map (λ r. r ++ zeros k) (system_of p.generators))
        (map (λ u. zeros (suc p.dims) ++ u) (both_ways (units k))) t c) [
          | inl a ↦
              let f = map_from (λ r. r ++ zeros k) (system_of p.generators) t a in
              generated_same (system_of p.generators) (entry f.0) (first_columns (suc p.dims) (entry t))
              (λ j. sym (first_all (suc p.dims) f.0 (widths_of p h f.0 f.1) j) ∙
              (columns_linear (suc p.dims)).same (entry f.0) (entry t)
              (λ i. sym (longer_entry k f.0 i) ∙ ap (λ (l : List ℤ). entry l i) f.2) j)
              (generated_row (system_of p.generators) f.0 f.1)
          | inr b ↦
              let f = map_from (λ u. zeros (suc p.dims) ++ u) (both_ways (units k)) t b in
              generated_same (system_of p.generators) (λ j. pos 0) (first_columns (suc p.dims) (entry t))
              (λ j. sym (first_behind (suc p.dims) j (entry f.0)) ∙
              (columns_linear (suc p.dims)).same (behind (suc p.dims) (entry f.0)) (entry t)
              (λ i. sym (behind_entry (suc p.dims) f.0 i) ∙ ap (λ (l : List ℤ). entry l i) f.2) j)
              (generated_zero (system_of p.generators))
        ]

first_point : (n k : ℕ) (x : List ℤ) → IsPoint (n + k) x → IsPoint n (take (suc n) x)
first_point n k x i = record {
  width = length-take-le (suc n) x (let w = i.width in omega (arith, w));
  divisor = subst (λ (z : ℤ). pos 0 <ℤ z) (sym (short_divisor n x)) i.divisor;
}

pub embedded_generators : (p : Polyhedron) (k : ℕ) → IsPolyhedron p →
    SameSet (p.dims + k) (Embed p.dims (Con p.rows)) (Gen (embedded k p))
embedded_generators p k h = (
  λ x i c. generated_gen (embedded k p) (entry x) (embedded_in p k x (i.width ∙ omega arith)
      (gen_generated p.generators (entry (take (suc p.dims) x))
      ((con_gen p h).0 (take (suc p.dims) x) (first_point p.dims k x i) c))),
  λ x i g. (con_gen p h).1 (take (suc p.dims) x) (first_point p.dims k x i)
      (generated_gen p.generators (entry (take (suc p.dims) x))
      (embedded_from p k x h (gen_generated (embedded k p) (entry x) g))),
)

pub embed_takes : (p : Polyhedron) (list all : LinearSystem GenKind) (k : ℕ) → IsPolyhedron p → list.dims ≡ p.dims →
    generators list ≡ p.generators → all.dims ≡ list.dims + k →
    generators all ≡ mapped_by (λ r. r ++ zeros k) (generators list) ++
    rows_as true (map (λ u. zeros (suc list.dims) ++ u) (units k)) →
    Takes (p.dims + k) (Embed p.dims (Con p.rows)) (embedded k p) all
embed_takes p list all k h ed eg ad ag = record {
  dimensions = ad ∙ ap (λ (d : ℕ). d + k) ed;
  are = ag ∙ ap (λ (l : List LinearRow). mapped_by (λ r. r ++ zeros k) l ++
      rows_as true (map (λ u. zeros (suc list.dims) ++ u) (units k))) eg ∙
      ap (λ (d : ℕ). mapped_by (λ r. r ++ zeros k) p.generators ++
      rows_as true (map (λ u. zeros (suc d) ++ u) (units k))) ed;
  same = embedded_generators p k h;
}
