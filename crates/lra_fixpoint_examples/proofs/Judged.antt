-- What is asked of a tree over boxes, each with its answer: without a flag, and in the order of the points.
use Rattle.std.proofs.Common.{◌≡◌, ◌<◌, ℕ, zero, suc, List, [], ◌∷◌, map, None, Some, refl, sym, ap, subst, inl, inr, arith}
use Rattle.std.proofs.lemmas.Option.{same_Some, none-some}
use Rattle.std.specs.Prelude.{Contains, slice_get}
use Rattle.lra_fixpoint_examples.proofs.Crates.lra_linear_spec.Membership.{contains_none, contains_head, contains_tail, contains_cases}
use Rattle.lra_fixpoint_examples.specs.Crates.lra_operations.CheckedOperations.{OpAtPoint}
use Rattle.lra_fixpoint_examples.specs.Crates.{lra_domain.declared.Exactness.Exactness, lra_domain.declared.Exactness.TheVariants.Exact, lra_program.Step.Op}
use Rattle.lra_box.specs.Content.{BoxContent}
use Rattle.lra_analysis_spec.specs.Judging.{Finding, Finds, answer_of, first_flagged, AnswerAtPoint, IsFoundOn}
use Rattle.lra_fixpoint_examples.proofs.LoopExamples.{boxes}

module _ {A : Type 0} (Told : Op → BoxContent → A → Exactness → Type 0) where
  abbrev pub Found : Type 0
  Found = List (OpAtPoint × A)

  abbrev pub operation : OpAtPoint × A → OpAtPoint
  operation x = x.0

  abbrev pub finding_of : OpAtPoint × A → Finding A
  finding_of x = record { point = x.0.point; answer = x.1; exactness = Exact }

  -- each is judged so, without a flag
  abbrev pub AreFound : List BoxContent → Found → Type 0
  AreFound values [] = Unit {0}
  AreFound values (x ∷ xs) = AnswerAtPoint boxes Told values x.0 x.1 Exact × AreFound values xs

  -- their points stand in order
  abbrev pub AreAbove : ℕ → Found → Type 0
  AreAbove q [] = Unit {0}
  AreAbove q (x ∷ xs) = (q < x.0.point) × AreAbove q xs

  abbrev pub Ascend : Found → Type 0
  Ascend [] = Unit {0}
  Ascend (x ∷ xs) = AreAbove x.0.point xs × Ascend xs

  found_on : (values : List BoxContent) (xs : Found) (j : Finding A) → AreFound values xs → Contains (map finding_of xs) j
      → IsFoundOn boxes Told (map operation xs) values j
  found_on values [] j are h = absurd (contains_none j h)
  found_on values (x ∷ xs) j are h = elim (contains_cases (finding_of x) j (map finding_of xs) h) [
    | inl same ↦ subst (λ (k : Finding A). IsFoundOn boxes Told (map operation (x ∷ xs)) values k) same
        (x.0, contains_head x.0 (map operation xs), refl, are.0)
    | inr later ↦ let a = found_on values xs j are.1 later in (a.0, contains_tail x.0 a.0 (map operation xs) a.1, a.2, a.3)
  ]

  asked_found : (xs : Found) (a : OpAtPoint) → Contains (map operation xs) a → (j : Finding A) × Contains (map finding_of xs) j × (j.point ≡ a.point)
  asked_found [] a h = absurd (contains_none a h)
  asked_found (x ∷ xs) a h = elim (contains_cases x.0 a (map operation xs) h) [
    | inl same ↦ (finding_of x, contains_head (finding_of x) (map finding_of xs), ap (λ (b : OpAtPoint). b.point) same)
    | inr later ↦ let r = asked_found xs a later in (r.0, contains_tail (finding_of x) r.0 (map finding_of xs) r.1, r.2)
  ]

  later_above : (q : ℕ) (xs : Found) (k : ℕ) (l : Finding A) → AreAbove q xs → slice_get (map finding_of xs) k ≡ Some l → q < l.point
  later_above q [] k l are at = absurd (none-some l at)
  later_above q (x ∷ xs) zero l are at = subst (λ (j : Finding A). q < j.point) (same_Some (finding_of x) l at) are.0
  later_above q (x ∷ xs) (suc k) l are at = later_above q xs k l are.1 at

  ascends : (xs : Found) (i k : ℕ) (j l : Finding A) → Ascend xs → i < k → slice_get (map finding_of xs) i ≡ Some j
      → slice_get (map finding_of xs) k ≡ Some l → j.point < l.point
  ascends [] i k j l up less a b = absurd (none-some j a)
  ascends (x ∷ xs) zero zero j l up less a b = absurd (omega (arith, less))
  ascends (x ∷ xs) zero (suc k) j l up less a b =
      subst (λ (m : Finding A). m.point < l.point) (same_Some (finding_of x) j a) (later_above x.0.point xs k l up.0 b)
  ascends (x ∷ xs) (suc i) zero j l up less a b = absurd (omega (arith, less))
  ascends (x ∷ xs) (suc i) (suc k) j l up less a b = ascends xs i k j l up.1 (omega (arith, less)) a b

  never_flagged : (xs : Found) → first_flagged None (map finding_of xs) ≡ None
  never_flagged [] = refl
  never_flagged (x ∷ xs) = never_flagged xs

  pub judged : (asked : List OpAtPoint) (values : List BoxContent) (xs : Found) → asked ≡ map operation xs → AreFound values xs → Ascend xs
      → Finds boxes Told asked values None (map answer_of (map finding_of xs)) None
  judged asked values xs is are up = record {
    found = map finding_of xs;
    is_asked = λ j h. subst (λ (all : List OpAtPoint). IsFoundOn boxes Told all values j) (sym is) (found_on values xs j are h);
    has_asked = λ a h. asked_found xs a (subst (λ (all : List OpAtPoint). Contains all a) is h);
    in_order = λ i k j l less a b. ascends xs i k j l up less a b;
    told = refl;
    flags = sym (never_flagged xs);
  }
