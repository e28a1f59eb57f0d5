-- Canonical descriptions whose rays stand in another order.
use Rattle.std.proofs.Common.{ℕ, List, ◌∷◌, ◌++◌, neg_ℤ, sym, subst, ℤ, inl, inr}
use Rattle.std.proofs.lemmas.List.Elements.{Contains-append_cases, Contains-append_left, Contains-append_right}
use Rattle.std.specs.List.{Contains}
use Rattle.lra_cone.specs.Crates.{lra_linear_spec.Canonical.IsCanonical, lra_linear_spec.Cones.both_ways, lra_linear_spec.Cones.all_rows, lra_linear_spec.Cones.AreDual, lra_linear_spec.Vectors.entry}
use Rattle.lra_cone.proofs.Crates.lra_linear_spec.Membership.{NoRepeat, Split, contains_head, contains_tail, contains_split}
use Rattle.lra_cone.proofs.Crates.{lra_linear_spec.Combinations.generated_row, lra_linear_spec.LinearMaps.generated_through}
use Rattle.lra_cone.proofs.RayCase.{other_place, beside_place, rows_same}

pub same_rows : (lines rays others : List (List ℤ)) → ((t : List ℤ) → Contains rays t → Contains others t) → (t : List ℤ) → Contains (all_rows lines rays) t → Contains (all_rows lines others) t
same_rows lines rays others to t m = elim (Contains-append_cases rays (both_ways lines) t m)
    [ inl i ↦ Contains-append_left others (both_ways lines) t (to t i) | inr i ↦ Contains-append_right others (both_ways lines) t i ]

pub dual_again : (w : ℕ) (system lines rays others : List (List ℤ)) → ((t : List ℤ) → Contains rays t → Contains others t) → ((t : List ℤ) → Contains others t → Contains rays t) →
    AreDual w system (all_rows lines rays) → AreDual w system (all_rows lines others)
dual_again w system lines rays others to from d = rows_same w system (all_rows lines rays) (all_rows lines others) (same_rows lines rays others to) (same_rows lines others rays from) d

pub canonical_again : (lines rays others : List (List ℤ)) → ((t : List ℤ) → Contains rays t → Contains others t) → ((t : List ℤ) → Contains others t → Contains rays t) → NoRepeat others →
    IsCanonical lines rays → IsCanonical lines others
canonical_again lines rays others to from once k = record {
  pivots = k.pivots;
  echelon = k.echelon;
  reduced = λ r m. k.reduced r (from r m);
  lowest = λ r m. k.lowest r (from r m);
  needed = λ front r back e g.
      let here : Contains others r = subst (λ (l : List (List ℤ)). Contains l r) (sym e) (Contains-append_right front (r ∷ back) r (contains_head r back)) in
      let s : Split rays r = contains_split rays r (from r here) in
      let only = other_place front r back (subst NoRepeat e once) in
      k.needed s.front r s.back s.is (generated_through (all_rows lines (s.front ++ s.back)) (all_rows lines (front ++ back)) (entry r)
      (λ t m. generated_row (all_rows lines (s.front ++ s.back)) t (same_rows lines (front ++ back) (s.front ++ s.back)
      (λ q i. beside_place s.front r s.back q (subst (λ (l : List (List ℤ)). Contains l q) s.is (from q (subst (λ (l : List (List ℤ)). Contains l q) (sym e) (wider front r back q i))))
      (λ f. only (subst (Contains (front ++ back)) f i))) t m)) g);
  pointed = λ r m g. k.pointed r (from r m) (generated_through (all_rows lines rays) (all_rows lines others) (λ j. neg_ℤ (entry r j))
      (λ t n. generated_row (all_rows lines rays) t (same_rows lines others rays from t n)) g);
}
  where
    wider : (front : List (List ℤ)) (x : List ℤ) (back : List (List ℤ)) (t : List ℤ) → Contains (front ++ back) t → Contains (front ++ x ∷ back) t
    wider front x back t m = elim (Contains-append_cases front back t m) [
      | inl i ↦ Contains-append_left front (x ∷ back) t i
      | inr i ↦ Contains-append_right front (x ∷ back) t
          (contains_tail x t back i)
    ]
