-- The rays of a canonical description, none of them twice, in two sorted parts.
use Rattle.std.proofs.Common.{◌≡◌, ℕ, suc, ◌+◌, ◌≤◌, Bool, true, false, cond, List, [], ◌∷◌, ◌++◌, length, refl, ap, sym, ◌∙◌, subst, arith, pos, ℤ, ◌<ℤ◌, ◌≤ℤ◌, inl, inr}
use Rattle.std.proofs.lemmas.List.Elements.{Contains-append_cases, Contains-append_left, Contains-append_right}
use Rattle.std.proofs.{lemmas.List.length-append, lemmas.List.Sorted.Contains-permutation, lemmas.List.Sorted.IsPermutation-sym, lemmas.List.Sorted.length_permutation}
use Rattle.std.specs.{List.Contains, List.Sorted.IsPermutation, Ordering.is_eq}
use Rattle.lra_description_pair.specs.Crates.{lra_linear_spec.Canonical.IsCanonical, lra_linear_spec.RowOrder.row_cmp, lra_linear_spec.Vectors.entry}
use Rattle.lra_description_pair.proofs.Crates.lra_linear_spec.CanonicalForms.{no_repeat}
use Rattle.lra_description_pair.proofs.Crates.lra_linear_spec.Membership.{NoRepeat, Split, at_most, contains_cases, contains_head, contains_tail, contains_split}
use Rattle.lra_descriptions.specs.ShownLists.{points_of, directions_of, without}
use Rattle.lra_descriptions.proofs.Parted.{points_from, directions_from, parted, parted_length, without_from}
use Rattle.lra_cone.proofs.RayCase.{other_place, beside_place}

-- ---- lists without repeats
-- no element twice, without the one at a place
fewer_once : {A : Type 0} (front : List A) (x : A) (back : List A) → NoRepeat (front ++ x ∷ back) → NoRepeat (front ++ back)
fewer_once [] x back n = n.1
fewer_once (y ∷ front) x back n = (
  (λ k. n.0 (elim (Contains-append_cases front back y k) [ inl m ↦ Contains-append_left front (x ∷ back) y m | inr m ↦ Contains-append_right front (x ∷ back) y (contains_tail x y back m) ])),
  fewer_once front x back n.1,
)

-- lists with the same elements and as long
pub once_too : {A : Type 0} (xs ys : List A) → NoRepeat xs → ((t : A) → Contains xs t → Contains ys t) → ((t : A) → Contains ys t → Contains xs t) → length ys ≤ length xs → NoRepeat ys
once_too xs [] n to from h = tt
once_too {A = A} xs (y ∷ ys) n to from h =
    let s : Split xs y = contains_split xs y (from y (contains_head y ys)) in
    let only : NoRepeat (s.front ++ y ∷ s.back) = subst NoRepeat s.is n in
    let many : length xs ≡ suc (length (s.front ++ s.back)) = ap length s.is ∙ middle_length s.front y s.back in (
      (λ k. let all = at_most xs ys n (λ t m. elim (contains_cases y t ys (to t m)) [ inl e ↦ subst (Contains ys) e k | inr o ↦ o ]) in omega (arith, all, h)),
      once_too (s.front ++ s.back) ys (fewer_once s.front y s.back only)
          (λ t m. elim (contains_cases y t ys (to t (subst (λ (l : List A). Contains l t) (sym s.is) (wider s.front y s.back t m)))) [
            | inl e ↦ absurd (other_place s.front y s.back only (subst (Contains (s.front ++ s.back)) (sym e) m))
            | inr o ↦ o
          ])
          (λ t m. beside_place s.front y s.back t (subst (λ (l : List A). Contains l t) s.is (from t (contains_tail y t ys m)))
          (λ e. let all = at_most xs ys n (λ q k. elim (contains_cases y q ys (to q k)) [ inl f ↦ subst (Contains ys) (e ∙ f) m | inr o ↦ o ]) in omega (arith, all, h)))
          (omega (arith, h, many)),
    )
  where
    middle_length : (front : List A) (x : A) (back : List A) → length (front ++ x ∷ back) ≡ suc (length (front ++ back))
    middle_length [] x back = refl
    middle_length (z ∷ front) x back = ap suc (middle_length front x back)

    wider : (front : List A) (x : A) (back : List A) (t : A) → Contains (front ++ back) t → Contains (front ++ x ∷ back) t
    wider front x back t m = elim (Contains-append_cases front back t m) [
      | inl i ↦ Contains-append_left front (x ∷ back) t i
      | inr i ↦ Contains-append_right front (x ∷ back) t
          (contains_tail x t back i)
    ]

pub once_left : {A : Type 0} (xs ys : List A) → NoRepeat (xs ++ ys) → NoRepeat xs
once_left [] ys n = tt
once_left (x ∷ xs) ys n = ((λ k. n.0 (Contains-append_left xs ys x k)), once_left xs ys n.1)

pub once_right : {A : Type 0} (xs ys : List A) → NoRepeat (xs ++ ys) → NoRepeat ys
once_right [] ys n = n
once_right (x ∷ xs) ys n = once_right xs ys n.1

-- ---- in two sorted parts
-- the rays, parted, and each part in some order
pub record InParts (rays points directions : List (List ℤ)) : Type 0 where
  pub to : (t : List ℤ) → Contains rays t → Contains (points ++ directions) t
  pub from : (t : List ℤ) → Contains (points ++ directions) t → Contains rays t
  pub above : (t : List ℤ) → Contains points t → pos 0 <ℤ entry t 0
  pub others : (t : List ℤ) → Contains directions t → Contains rays t × (entry t 0 ≤ℤ pos 0)
  pub many : length (points ++ directions) ≡ length rays

pub in_parts : (rays points directions : List (List ℤ)) → IsPermutation (points_of rays) points → IsPermutation (directions_of rays) directions → InParts rays points directions
in_parts rays points directions p d =
    let point : (t : List ℤ) → Contains points t → Contains rays t × (pos 0 <ℤ entry t 0) =
    λ t m. points_from rays t (Contains-permutation points (points_of rays) t (IsPermutation-sym (points_of rays) points p) m) in
    let direction : (t : List ℤ) → Contains directions t → Contains rays t × (entry t 0 ≤ℤ pos 0) =
    λ t m. directions_from rays t (Contains-permutation directions (directions_of rays) t (IsPermutation-sym (directions_of rays) directions d) m) in
    record {
      to = λ t m. elim (parted rays t m) [
        | inl i ↦ Contains-append_left points directions t (Contains-permutation (points_of rays) points t p i)
        | inr i ↦ Contains-append_right points directions t (Contains-permutation (directions_of rays) directions t d i)
      ];
      from = λ t m. elim (Contains-append_cases points directions t m) [ inl i ↦ (point t i).0 | inr i ↦ (direction t i).0 ];
      above = λ t m. (point t m).1;
      others = direction;
      many = length-append points directions ∙ ap (λ (n : ℕ). n + length directions) (length_permutation (points_of rays) points p) ∙
          ap (λ (n : ℕ). length (points_of rays) + n) (length_permutation (directions_of rays) directions d) ∙ parted_length rays;
    }

pub parts_once : (lines rays points directions : List (List ℤ)) → IsCanonical lines rays → InParts rays points directions → NoRepeat (points ++ directions)
parts_once lines rays points directions k x = once_too rays (points ++ directions) (no_repeat lines rays k) x.to x.from (at_most_same (length (points ++ directions)) (length rays) x.many)
  where
    at_most_same : (a b : ℕ) → a ≡ b → a ≤ b
    at_most_same a b e = omega (arith, e)

-- ---- without one of the rays
pub without_once : (row : List ℤ) (rows : List (List ℤ)) → NoRepeat rows → NoRepeat (without row rows)
without_once row [] n = tt
without_once row (x ∷ rows) n = go (is_eq (row_cmp x row)) (without_once row rows n.1)
  where
    go : (b : Bool) → NoRepeat (without row rows) → NoRepeat (cond b (without row rows) (x ∷ without row rows))
    go true later = later
    go false later = ((λ k. n.0 (without_from row rows x k).0), later)
