-- Rows that are put in another order have the same points.
use Rattle.std.proofs.Common.{◌≡◌, ℕ, suc, ◌<◌, ◌+◌, ℤ, List, [], ◌∷◌, ◌++◌, length, map, take, get_or, Some, Result, Ok, Err, ap, sym, ◌∙◌, subst}
use Rattle.std.proofs.lemmas.List.Sorted.{All-permutation, Contains-permutation, IsPermutation-map, IsPermutation-sym}
use Rattle.std.proofs.{lemmas.List.take_more, lemmas.List.map-append, lemmas.Option.get_or_from_slice_get}
use Rattle.std.specs.{List.All, List.Sorted.IsPermutation, Prelude.slice_get, Prelude.IfErr}
use Rattle.lra_farkas.specs.Crates.{lra_linear_spec.Descriptions.LinearRow, lra_linear_spec.Descriptions.Con, lra_linear_spec.Kinds.is_equality, lra_linear_spec.Points.IsPoint}
use Rattle.lra_farkas.specs.Crates.{lra_linear_spec.Polyhedra.Polyhedron, lra_linear_spec.Polyhedra.IsPolyhedronOf, lra_linear_spec.declared.ConKind.ConKind}
use Rattle.lra_systems.specs.LinearSystems.{LinearSystem, rows_by_kind, constraints}
use Rattle.lra_systems.proofs.LinearRows.{constraints_pushed, given_more}
use Rattle.lra_farkas.specs.declared.first.MultipliersFailure.TheVariants.{NotImplied, Strained, Memory}
use Rattle.lra_farkas.specs.{KeyedRows.row_of_keyed, RowsByKinds.HasNoFirst, RowsByKinds.HasNoPoint, declared.first.MultipliersFailure.MultipliersFailure, declared.orders.Keyed.Keyed}

-- ---- keys
pub keyed_pushed : (rows : List (List ℤ)) (kinds : List ConKind) (before new : List Keyed) (i : ℕ) (row : List ℤ) (kind : ConKind) (x : Keyed) →
    length rows ≡ length kinds → i < length rows → slice_get rows i ≡ Some row → slice_get kinds i ≡ Some kind → x.row ≡ row → x.kind ≡ kind →
    new ≡ before ++ x ∷ [] → map row_of_keyed before ≡ rows_by_kind is_equality (take i rows) (take i kinds) →
    map row_of_keyed new ≡ rows_by_kind is_equality (take (i + 1) rows) (take (i + 1) kinds)
keyed_pushed rows kinds before new i row kind x n h er ek xr xk pushed so_far =
    ap (map row_of_keyed) pushed ∙ map-append row_of_keyed before (x ∷ []) ∙ ap (λ (gs : List LinearRow). gs ++ row_of_keyed x ∷ []) so_far ∙
    ap (λ (r : List ℤ). rows_by_kind is_equality (take i rows) (take i kinds) ++ record { row = r; equal = is_equality x.kind } ∷ []) xr ∙
    ap (λ (k : ConKind). rows_by_kind is_equality (take i rows) (take i kinds) ++ record { row = row; equal = is_equality k } ∷ []) xk ∙
    sym (given_more is_equality rows kinds i row kind n h (sym (get_or_from_slice_get rows i row row er)) (sym (get_or_from_slice_get kinds i kind kind ek)))

pub unkeyed_more : (before new : LinearSystem ConKind) (keyed : List Keyed) (i : ℕ) (x : Keyed) → i < length keyed → x ≡ get_or keyed i x →
    length before.kinds ≡ length before.rows → new.rows ≡ before.rows ++ x.row ∷ [] → new.kinds ≡ before.kinds ++ x.kind ∷ [] →
    constraints before ≡ map row_of_keyed (take i keyed) → constraints new ≡ map row_of_keyed (take (i + 1) keyed)
unkeyed_more before new keyed i x h is n er ek so_far =
    constraints_pushed before new x.row x.kind n er ek ∙ ap (λ (gs : List LinearRow). gs ++ row_of_keyed x ∷ []) so_far ∙
    sym (map-append row_of_keyed (take i keyed) (x ∷ [])) ∙
    ap (map row_of_keyed) (ap (λ (y : Keyed). take i keyed ++ y ∷ []) is ∙ sym (take_more keyed i x h))

pub sorted_widths : (n m : ℕ) (keyed sorted shown : List Keyed) → m ≡ n → shown ≡ sorted → IsPermutation keyed sorted →
    All (λ (k : Keyed). length k.row ≡ suc n) keyed → All (λ (k : Keyed). length k.row ≡ suc m) shown
sorted_widths n m keyed sorted shown em es p all =
    subst (λ (j : ℕ). All (λ (k : Keyed). length k.row ≡ suc j) shown) (sym em)
    (subst (All (λ (k : Keyed). length k.row ≡ suc n)) (sym es) (All-permutation (λ (k : Keyed). length k.row ≡ suc n) keyed sorted p all))

pub sorted_rows : (rows all : List LinearRow) (keyed sorted shown : List Keyed) → map row_of_keyed keyed ≡ rows → IsPermutation keyed sorted → shown ≡ sorted →
    all ≡ map row_of_keyed shown → IsPermutation rows all
sorted_rows rows all keyed sorted shown ek p es ea =
    subst (IsPermutation rows) (sym (ea ∙ ap (map row_of_keyed) es))
    (subst (λ (gs : List LinearRow). IsPermutation gs (map row_of_keyed sorted)) ek (IsPermutation-map row_of_keyed keyed sorted p))

-- ---- the same points
same_con : (rows others : List LinearRow) (x : List ℤ) → IsPermutation rows others → Con rows x → Con others x
same_con rows others x p c = λ g k. c g (Contains-permutation others rows g (IsPermutation-sym rows others p) k)

pub reordered_is : (n m : ℕ) (rows others : List LinearRow) (q : Polyhedron) → m ≡ n → IsPermutation rows others → IsPolyhedronOf m (Con others) q →
    IsPolyhedronOf n (Con rows) q
reordered_is n m rows others q e p is = record {
  dimensions = is.dimensions ∙ e;
  canonical = is.canonical;
  points = (
    (λ x i c. is.points.0 x (subst (λ (k : ℕ). IsPoint k x) (sym e) i) (same_con rows others x p c)),
    (λ x i c. same_con others rows x (IsPermutation-sym rows others p) (is.points.1 x (subst (λ (k : ℕ). IsPoint k x) (sym e) i) c)),
  );
}

pub reordered_fails : (n m : ℕ) (rows others : List LinearRow) (f : MultipliersFailure) → m ≡ n → IsPermutation rows others → HasNoFirst m others f →
    HasNoPoint n rows f
reordered_fails n m rows others NotImplied e p h = λ x i c. h x (subst (λ (k : ℕ). IsPoint k x) (sym e) i) (same_con rows others x p c)
reordered_fails n m rows others Strained e p h = tt
reordered_fails n m rows others Memory e p h = tt

-- if the list's own order exceeds a limit, and the others have no first point
pub tried_fails : {X : Type 0} (n : ℕ) (rows : List LinearRow) (x : Result X MultipliersFailure) → HasNoFirst n rows Strained → IfErr x (HasNoPoint n rows) →
    IfErr x (HasNoFirst n rows)
tried_fails n rows (Ok q) strained h = tt
tried_fails n rows (Err NotImplied) strained h = h
tried_fails n rows (Err Strained) strained h = strained
tried_fails n rows (Err Memory) strained h = tt
