-- What is found with one kind of answers is found with what is shown of these.
use Rattle.std.proofs.Common.{◌≡◌, ◌∙◌, ℕ, zero, suc, ◌<◌, List, [], ◌∷◌, map, Option, Some, refl, ap, subst}
use Rattle.std.proofs.lemmas.Option.{none-some, same_Some}
use Rattle.std.specs.Prelude.{slice_get}
use Rattle.lra_bounds_checks.proofs.Crates.lra_linear_spec.Membership.{map_has, map_from}
use Rattle.lra_domain.specs.declared.Exactness.{Exactness}
use Rattle.lra_program.specs.Step.{Op}
use Rattle.lra_bounds_checks.specs.Crates.lra_analysis_spec.Judging.{Finding, Finds, IsFoundOn, answer_of, first_flagged}
use Rattle.lra_bounds_checks.specs.Crates.{lra_analysis_spec.Operations.Operations, lra_analysis_spec.Pass.noted, lra_operations.CheckedOperations.OpAtPoint}

module _ {V H A B : Type 0} (ops : Operations V H) (Told : Op → V → A → Exactness → Type 0) (Shown : Op → V → B → Exactness → Type 0) (show : A → B)
    (same : (op : Op) (v : V) (x : A) (e : Exactness) → Told op v x e → Shown op v (show x) e) where
  abbrev shown : Finding A → Finding B
  shown j = record { point = j.point; answer = show j.answer; exactness = j.exactness }

  abbrev shown_answer : ℕ × A → ℕ × B
  shown_answer x = (x.0, show x.1)

  answers_shown : (js : List (Finding A)) → map shown_answer (map answer_of js) ≡ map answer_of (map shown js)
  answers_shown [] = refl
  answers_shown (j ∷ js) = ap (λ (xs : List (ℕ × B)). (j.point, show j.answer) ∷ xs) (answers_shown js)

  flags_shown : (f : Option ℕ) (js : List (Finding A)) → first_flagged f js ≡ first_flagged f (map shown js)
  flags_shown f [] = refl
  flags_shown f (j ∷ js) = flags_shown (noted j.point j.exactness f) js

  shown_at : (js : List (Finding A)) (i : ℕ) (k : Finding B) → slice_get (map shown js) i ≡ Some k → (j : Finding A) × (slice_get js i ≡ Some j) × (shown j ≡ k)
  shown_at [] i k is = absurd (none-some k is)
  shown_at (j ∷ js) zero k is = (j, refl, same_Some (shown j) k is)
  shown_at (j ∷ js) (suc i) k is = shown_at js i k is

  found_shown : (asked : List OpAtPoint) (values : List V) (j : Finding A) → IsFoundOn ops Told asked values j → IsFoundOn ops Shown asked values (shown j)
  found_shown asked values j (a, there, point, (v, w, c, d, at, declared, told, worst)) =
      (a, there, point, (v, w, c, d, at, declared, same a.op w j.answer d told, worst))

  pub finds_shown : (asked : List OpAtPoint) (values : List V) (flagged behind : Option ℕ) (answers : List (ℕ × A))
      → Finds ops Told asked values flagged answers behind → Finds ops Shown asked values flagged (map shown_answer answers) behind
  finds_shown asked values flagged behind answers finds = record {
    found = map shown finds.found;
    is_asked = λ k h. (let (j, there, is) = map_from shown finds.found k h in
        subst (IsFoundOn ops Shown asked values) is (found_shown asked values j (finds.is_asked j there)));
    has_asked = λ a h. (let (j, there, point) = finds.has_asked a h in (shown j, map_has shown finds.found j there, point));
    in_order = λ i n k l less one other. (let (j, at, is) = shown_at finds.found i k one in let (h, there, same) = shown_at finds.found n l other in
        let order = finds.in_order i n j h less at there in
        subst (λ (x : Finding B). k.point < x.point) same (subst (λ (x : Finding B). x.point < (shown h).point) is order));
    told = ap (map shown_answer) finds.told ∙ answers_shown finds.found;
    flags = finds.flags ∙ flags_shown flagged finds.found;
  }
