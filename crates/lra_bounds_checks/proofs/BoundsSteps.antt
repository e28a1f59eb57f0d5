-- Steps of the proofs on accesses that are inside.
use Rattle.std.proofs.Common.{◌≡◌, ◌∙◌, ℕ, ◌+◌, ◌<◌, ◌≤◌, List, [], ◌∷◌, ◌++◌, length, map, drop, get_or, Bool, Option, Some, None, refl, sym, ap, subst, append_assoc, append-nil}
use Rattle.std.proofs.lemmas.List.{drop_more, drop_all}
use Rattle.std.specs.Prelude.{◌-ℤ◌, pos, IfOk, Result}
use Rattle.lra_bounds_checks.specs.Crates.lra_analysis_spec.Accesses.{AccessJudged, EachJudged, outside}
use Rattle.lra_bounds_checks.specs.Crates.lra_analysis_spec.Linear.{at_least_zero, comparison_test, less_by}
use Rattle.lra_bounds_checks.specs.Crates.{lra_analysis_spec.Operations.lossy_operations, lra_base.Operators.below, lra_base.declared.operators.Comparison.TheVariants.Below}
use Rattle.lra_bounds_checks.specs.Crates.{lra_base.declared.refusals.Place.Place, lra_linear_forms.Form.Form, lra_linear_forms.declared.test.Test.Test}
use Rattle.lra_domain.specs.{Abstraction.Abstraction, Abstraction.worse, declared.Exactness.Exactness, declared.Exactness.TheVariants.Exact, declared.Exactness.TheVariants.Flagged}
use Rattle.lra_domain.proofs.WorseLaws.{worse_behind}
use Rattle.lra_program.specs.{Program.Element, Value.◌>>=◌}
use Rattle.lra_bounds_checks.specs.{BoundsChecks.AreWide, BoundsChecks.IsEachTold, Listed.access_view, declared.listing.Access.Access}
use Rattle.lra_bounds_checks.proofs.Crates.{lra_analysis_spec.FormLemmas.fitting_same, lra_linearize.GuardThresholdSteps.test_wide}

-- tests ----------------------------------------------------------------------------------------------------------------

both_wide : (under : Option Test) (over : Option Form) (n : ℕ) → ((t : Test) → under ≡ Some t → length t.expr.coefficients ≡ n)
    → ((f : Form) → over ≡ Some f → length f.coefficients ≡ n) → AreWide n (under >>= λ t. at_least_zero over >>= λ u. Some (t, u))
both_wide None over n one other = tt
both_wide (Some t) None n one other = tt
both_wide (Some t) (Some f) n one other = (one t refl, other f refl)

-- both are as wide as the index
pub outside_wide : {E : Type 0} (R : Result (Option (Test × Test)) E) (f : Form) (count n : ℕ) → length f.coefficients ≡ n
    → IfOk R (λ tests. tests ≡ outside f count) → IfOk R (λ tests. AreWide n tests)
outside_wide (Result.Ok tests) f count n wide is = subst (AreWide n) (sym is)
    (both_wide (comparison_test below f) (less_by count f) n (λ t e. test_wide Below f t (sym e) ∙ wide)
    (λ g e. sym (ap (λ (h : Form). length h.coefficients) (fitting_same (record f { constant = f.constant -ℤ pos count }) g e)) ∙ wide))
outside_wide (Result.Err e) f count n wide is = tt

-- several accesses by one value -----------------------------------------------------------------------------------------

module _ {V H : Type 0} (m : Abstraction V H) (v : V) (base : ℕ) where
  abbrev Are : List Element → List (Place × Bool) → Exactness → Type 0
  Are xs js e = EachJudged m (lossy_operations m) v base xs js e

  -- those before this one are reported: with what is reported about the others all is
  pub record AreToldSoFar (whole : List Element) (old : List (Place × Bool)) (left : List Element) (so_far : Exactness) (new : List (Place × Bool))
      : Type 0 where
    pub before : List (Place × Bool)
    pub are : new ≡ old ++ before
    pub all : (js : List (Place × Bool)) (e : Exactness) → Are left js e → Are whole (before ++ js) (worse so_far e)

  pub none_told : (whole : List Element) (old : List (Place × Bool)) → AreToldSoFar whole old whole Exact old
  none_told whole old = record { before = []; are = sym (append-nil old); all = λ js e rest. rest }

  module _ (whole : List Element) (old : List (Place × Bool)) (so_far : Exactness) (told now : List (Place × Bool)) where
    one_told : (x : Element) (rest : List Element) (b : Bool) (c : Exactness) → AreToldSoFar whole old (x ∷ rest) so_far told
        → AccessJudged m (lossy_operations m) v base x b c → now ≡ told ++ (x.place, b) ∷ [] → AreToldSoFar whole old rest (worse so_far c) now
    one_told x rest b c held judged is = record {
      before = held.before ++ (x.place, b) ∷ [];
      are = is ∙ ap (λ (js : List (Place × Bool)). js ++ (x.place, b) ∷ []) held.are ∙ append_assoc old held.before ((x.place, b) ∷ []);
      all = λ js e later.
          let here = held.all ((x.place, b) ∷ js) (worse c e) (b, js, c, e, judged, later, refl, refl) in
          let flags = subst (Are whole (held.before ++ (x.place, b) ∷ js)) (worse_behind so_far c e) here in
          subst (λ (ks : List (Place × Bool)). Are whole ks (worse (worse so_far c) e)) (sym (append_assoc held.before ((x.place, b) ∷ []) js)) flags;
    }

    -- by places of the code's list
    pub told_more : (xs : List Access) (i : ℕ) (x : Access) (b : Bool) (c d : Exactness) → i < length xs → x ≡ get_or xs i x
        → AreToldSoFar whole old (map access_view (drop i xs)) so_far told → AccessJudged m (lossy_operations m) v base (access_view x) b c
        → now ≡ told ++ (x.place, b) ∷ [] → d ≡ worse so_far c → AreToldSoFar whole old (map access_view (drop (i + 1) xs)) d now
    told_more xs i x b c d inside at held judged is worst =
        let there : drop i xs ≡ x ∷ drop (i + 1) xs = drop_more xs i x inside ∙ ap (λ (y : Access). y ∷ drop (i + 1) xs) (sym at) in
        let here = subst (λ (ys : List Access). AreToldSoFar whole old (map access_view ys) so_far told) there held in
        subst (λ (e : Exactness). AreToldSoFar whole old (map access_view (drop (i + 1) xs)) e now) (sym worst)
        (one_told (access_view x) (map access_view (drop (i + 1) xs)) b c here judged is)

    pub all_told : (xs : List Access) (i : ℕ) → length xs ≤ i → AreToldSoFar whole old (map access_view (drop i xs)) so_far told
        → IsEachTold m v base whole old so_far told
    all_told xs i all held =
        let end = subst (λ (ys : List Access). AreToldSoFar whole old (map access_view ys) so_far told) (drop_all i xs all) held in
        let whole_told = end.all [] Exact (refl, refl) in (
          end.before,
          subst (Are whole end.before) (exact_last so_far) (subst (λ (js : List (Place × Bool)). Are whole js (worse so_far Exact))
              (append-nil end.before) whole_told),
          end.are,
        )
      where
        exact_last : (e : Exactness) → worse e Exact ≡ e
        exact_last Exact = refl
        exact_last Flagged = refl
