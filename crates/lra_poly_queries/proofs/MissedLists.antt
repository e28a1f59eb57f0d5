-- Which signs a form misses, along a list of generators.
use Rattle.std.proofs.Common.{◌≡◌, ℕ, ◌<◌, ◌≤◌, ◌+◌, add-one, Bool, false, List, [], ◌∷◌, ◌++◌, length, take, get_or, arith, refl, sym, ◌∙◌, subst, ap, ℤ, pos, neg_ℤ, ◌<ℤ◌, Err}
use Rattle.std.proofs.lemmas.List.{take_all}
use Rattle.std.proofs.lemmas.List.Elements.{All-contains, All-nil, All-push, Contains-append_right, Contains-append_left}
use Rattle.std.specs.{List.All, List.Contains, Prelude.◌↔◌, Prelude.IsTrue}
use Rattle.lra_poly_queries.specs.Crates.lra_linear_spec.declared.Excess as E
use Rattle.lra_poly_queries.specs.Crates.lra_linear_spec.Vectors.{entry, negated, product}
use Rattle.lra_poly_queries.specs.Crates.{lra_linear_spec.CheckedArithmetic.checked_product, lra_linear_spec.Descriptions.LinearRow, lra_linear_spec.Descriptions.inequality}
use Rattle.lra_poly_queries.specs.Crates.{lra_linear_spec.Kinds.is_line, lra_linear_spec.OperationStrain.ProductsPass, lra_linear_spec.Widening.holds_with, lra_linear_spec.declared.GenKind.GenKind}
use Rattle.lra_poly_queries.proofs.Crates.{lra_linear_spec.Membership.all_from, lra_linear_spec.Membership.contains_head, lra_linear_spec.Products.negated_dot}
use Rattle.lra_systems.specs.LinearSystems.{rows_by_kind}
use Rattle.lra_systems.proofs.FirstMembers.{front, given_more, given_split, member}
use Rattle.lra_poly_queries.specs.{Relations.AreMissed, Relations.MissesAt, Relations.MissesZero, Relations.StaysAbove, Relations.StaysBelow, declared.relation.Missed.Missed}

-- ---- one generator
as_said : (a b : Bool) → a ≡ b → IsTrue b ↔ IsTrue a
as_said a b e = (λ t. e ∙ t, λ t. sym e ∙ t)

pub missed_here : (form row : List ℤ) (line : Bool) (value other : ℤ) (m : Missed) →
    ((r g : LinearRow) → r.equal ≡ false → g.equal ≡ line → value ≡ product r.row g.row → holds_with r g ≡ m.below) →
    IsTrue m.zero ↔ (¬ ((pos 0 <ℤ entry row 0) × (value ≡ pos 0))) →
    ((r g : LinearRow) → r.equal ≡ false → g.equal ≡ line → other ≡ product r.row g.row → holds_with r g ≡ m.above) →
    value ≡ product form row → other ≡ neg_ℤ value → (g : LinearRow) → g.row ≡ row → g.equal ≡ line → MissesAt form g m
missed_here form row line value other m below zero above is turned g e l = record {
  below = as_said (holds_with (inequality form) g) m.below (below (inequality form) g refl l here);
  zero = subst (λ (z : ℤ). IsTrue m.zero ↔ (¬ ((pos 0 <ℤ entry g.row 0) × (z ≡ pos 0)))) here
      (subst (λ (t : List ℤ). IsTrue m.zero ↔ (¬ ((pos 0 <ℤ entry t 0) × (value ≡ pos 0)))) (sym e) zero);
  above = as_said (holds_with (inequality (negated form)) g) m.above (above (inequality (negated form)) g refl l
      (turned ∙ ap neg_ℤ here ∙ sym (negated_dot form (entry g.row))));
}
  where
    here : value ≡ product form g.row
    here = is ∙ ap (product form) (sym e)

-- ---- one more
all_more : (P : LinearRow → Type 0) (list : List LinearRow) (g : LinearRow) (a b c : Bool) → IsTrue a ↔ All P list →
    IsTrue b ↔ P g → IsTrue c ↔ (IsTrue a × IsTrue b) → IsTrue c ↔ All P (list ++ g ∷ [])
all_more P list g a b c all here both = (
  λ t. All-push P list g (all.0 (both.0 t).0) (here.0 (both.0 t).1),
  λ k. both.1 (
    all.1 (all_from P list (λ x m. All-contains P (list ++ g ∷ []) x k (Contains-append_left list (g ∷ []) x m))),
    here.1 (All-contains P (list ++ g ∷ []) g k (Contains-append_right list (g ∷ []) g (contains_head g []))),
  ),
)

missed_more : (form : List ℤ) (list : List LinearRow) (g : LinearRow) (old here new : Missed) → AreMissed form list old →
    MissesAt form g here → IsTrue new.below ↔ (IsTrue old.below × IsTrue here.below) →
    IsTrue new.zero ↔ (IsTrue old.zero × IsTrue here.zero) →
    IsTrue new.above ↔ (IsTrue old.above × IsTrue here.above) → AreMissed form (list ++ g ∷ []) new
missed_more form list g old here new are at below zero above = record {
  below = all_more (StaysAbove form) list g old.below here.below new.below are.below at.below below;
  zero = all_more (MissesZero form) list g old.zero here.zero new.zero are.zero at.zero zero;
  above = all_more (StaysBelow form) list g old.above here.above new.above are.above at.above above;
}

pub one_missed_more : (form : List ℤ) (rows : List (List ℤ)) (kinds : List GenKind) (i : ℕ) (r : List ℤ) (k : GenKind)
    (old here new : Missed) → length kinds ≡ length rows → i < length rows → r ≡ get_or rows i r →
    AreMissed form (front is_line rows kinds i) old →
    ((g : LinearRow) → g.row ≡ r → g.equal ≡ is_line (get_or kinds i k) → MissesAt form g here) →
    IsTrue new.below ↔ (IsTrue old.below × IsTrue here.below) →
    IsTrue new.zero ↔ (IsTrue old.zero × IsTrue here.zero) →
    IsTrue new.above ↔ (IsTrue old.above × IsTrue here.above) → AreMissed form (front is_line rows kinds (i + 1)) new
one_missed_more form rows kinds i r k old here new n h e are at below zero above =
    subst (λ (j : ℕ). AreMissed form (front is_line rows kinds j) new) (sym (add-one i))
    (subst (λ (l : List LinearRow). AreMissed form l new) (sym (given_more is_line rows kinds i r k n h e))
    (missed_more form (front is_line rows kinds i) (member is_line kinds i r k) old here new are
    (at (member is_line kinds i r k) refl refl) below zero above))

pub missed_first : (form : List ℤ) (rows : List (List ℤ)) (kinds : List GenKind) (m : Missed) → IsTrue m.below →
    IsTrue m.zero → IsTrue m.above → AreMissed form (front is_line rows kinds 0) m
missed_first form rows kinds m b z a = record {
  below = (λ t. All-nil (StaysAbove form), λ k. b);
  zero = (λ t. All-nil (MissesZero form), λ k. z);
  above = (λ t. All-nil (StaysBelow form), λ k. a);
}

-- ---- all of them
pub gone_through : (P : List LinearRow → Type 0) (rows : List (List ℤ)) (kinds : List GenKind) (i : ℕ) →
    length kinds ≡ length rows → length rows ≤ i → P (front is_line rows kinds i) → P (rows_by_kind is_line rows kinds)
gone_through P rows kinds i n h p =
    subst (λ (ks : List GenKind). P (rows_by_kind is_line rows ks)) (take_all i kinds (omega (arith, n, h)))
    (subst (λ (rs : List (List ℤ)). P (rows_by_kind is_line rs (take i kinds))) (take_all i rows h) p)

-- ---- a product that passes
pub one_passes : (form : List ℤ) (rows : List (List ℤ)) (kinds : List GenKind) (i : ℕ) (r : List ℤ) (k : GenKind)
    (e : E.Excess) → length kinds ≡ length rows → i < length rows → r ≡ get_or rows i r →
    checked_product form r ≡ Err e → ProductsPass (inequality form ∷ []) (rows_by_kind is_line rows kinds) e
one_passes form rows kinds i r k e n h at passes = record {
  row = inequality form;
  has_row = contains_head (inequality form) [];
  generator = member is_line kinds i r k;
  has_generator = subst (λ (l : List LinearRow). Contains l (member is_line kinds i r k))
      (sym (given_split is_line rows kinds i r k n h at))
      (Contains-append_right (front is_line rows kinds i) _ (member is_line kinds i r k)
      (contains_head (member is_line kinds i r k) _));
  passes = passes;
}
