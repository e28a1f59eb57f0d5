-- Lines of claims, as the code finds and writes them.
use Rattle.std.proofs.Common.{◌≡◌, inl, inr, ◌++◌, ◌∷◌, [], ℕ, ℤ, Bool, true, false, List, Option, Some, None, Result, Ok, Err, refl, ap, sym, ◌∙◌, subst, IfOk, IfErr, OnOk, ◌+◌, take, drop}
use Rattle.std.proofs.{lemmas.List.take-append-drop, lemmas.List.Elements.All-contains, lemmas.List.Elements.Contains-append_left}
use Rattle.std.specs.{List.Contains, Prelude.cond, Prelude.codes}
use Rattle.lra_certify.specs.Crates.lra_certificate_spec.CertificateText.{multipliers_text, evidence_text}
use Rattle.lra_certify.specs.Crates.lra_certificate_spec.Certificates.{infeasible, implies, AreNumbers}
use Rattle.lra_certify.specs.Crates.lra_multipliers.Multipliers.{Multipliers, yes, IsAnswer}
use Rattle.lra_certify.specs.Crates.{lra_certificate_lines.declared.path_checks.PathFacts.PathFacts, lra_certificate_spec.Judged.RowsAtPoint, lra_linear_spec.Cones.with_row}
use Rattle.lra_certify.specs.Crates.{lra_linear_spec.Descriptions.LinearRow, lra_linear_spec.Descriptions.system_of, lra_linear_spec.Range.InRange, lra_linear_spec.Vectors.negated}
use Rattle.lra_certify.specs.Crates.{lra_multipliers.MultiplierViews.multipliers_view, lra_row_text.Texts.text_line, lra_systems.LinearSystems.constraints}
use Rattle.lra_certify.proofs.Crates.{lra_linear_spec.Membership.contains_head, lra_linear_spec.Membership.contains_tail, lra_linear_spec.SetOperations.system_append_in}
use Rattle.lra_certify.specs.Crates.lra_multipliers.declared.multipliers.Multipliers as made
use Rattle.lra_farkas.specs.FirstMultipliers.{AreFirst, MultipliersInRange, IsMultipliersFailure}
use Rattle.lra_farkas.specs.declared.first.MultipliersFailure.TheVariants.{NotImplied, Strained, Memory}
use Rattle.lra_farkas.specs.{MultiplierRows.AreAsWide, declared.first.MultipliersFailure.MultipliersFailure}
use Rattle.lra_certify.specs.PathFactViews.{claim_on, IsLine, IsNotShown, LineStrains, IsLineFailure, by_line, IsClaimLine, ClaimStrained, AddsLines, SomeStrains, IsEvidence, AddsEvidence, AllHold}
use Rattle.std.specs.List.{AllZip}
use Rattle.lra_certify.specs.{Each.Stops, Each.each_text, PathFactViews.HoldsOn, PathFactViews.TargetStrains, PathFactViews.IfStrained, declared.failures.PathFailure.PathFailure}
use Rattle.lra_certify.proofs.{EachSteps.adds_one, EachSteps.adds_both, EachSteps.stops_one, EachSteps.stops_first, EachSteps.stops_later, PathSteps.strained_weaker, TextSteps.every_number}

-- ---- found
are_numbers : (m : Multipliers) → MultipliersInRange m → AreNumbers m
are_numbers m h = (h.divisor, h.constant, every_number m.factors (λ x k. All-contains InRange m.factors x h.factors k))

module _ (g : PathFacts) (claim : Option (List ℤ)) (row : List ℤ) (is : claim_on g claim ≡ Ok row) where
  pub line_found : (x : Result made.Multipliers MultipliersFailure) → IfOk x (λ m. AreFirst (constraints g.premises) row (multipliers_view m)) →
      IfOk x (λ m. IsAnswer (constraints g.premises) row (multipliers_view m) yes) → IfOk x (λ m. MultipliersInRange (multipliers_view m)) →
      IfOk x (λ m. IsLine g claim (multipliers_view m))
  line_found (Ok m) first shown numbers =
      record { row = row; made = is; shown = shown; first = first; numbers = are_numbers (multipliers_view m) numbers }
  line_found (Err e) first shown numbers = tt

  failure_is : (e : MultipliersFailure) → AreAsWide (constraints g.premises) row → IsMultipliersFailure (constraints g.premises) row e → IsLineFailure g claim e
  failure_is NotImplied wide h = record { row = row; made = is; wide = wide; never = h }
  failure_is Strained wide h = inr (row, is, h)
  failure_is Memory wide h = tt

  pub line_fails : (x : Result made.Multipliers MultipliersFailure) → AreAsWide (constraints g.premises) row →
      IfErr x (IsMultipliersFailure (constraints g.premises) row) → IfErr x (IsLineFailure g claim)
  line_fails (Ok m) wide h = tt
  line_fails (Err e) wide h = failure_is e wide h

-- ---- the claims of a row
pub row_claims : (equal : Bool) (row : List ℤ) (rest : List (List ℤ)) → with_row equal row rest ≡ with_row equal row [] ++ rest
row_claims true row rest = refl
row_claims false row rest = refl

pub system_next : (g : LinearRow) (rest here : List LinearRow) → here ≡ g ∷ rest → system_of here ≡ with_row g.equal g.row [] ++ system_of rest
system_next g rest here e = ap system_of e ∙ row_claims g.equal g.row (system_of rest)

-- the claims of a row of the list
pub hold_row : (g : PathFacts) (all : List LinearRow) (i : ℕ) (row : LinearRow) → drop i all ≡ row ∷ drop (i + 1) all → AllHold g (system_of all) →
    AllHold g (with_row row.equal row.row [])
hold_row g all i row is h = λ claim k.
    let rest = system_of (drop (i + 1) all) in
    let left : Contains (system_of (drop i all)) claim =
    subst (λ (l : List (List ℤ)). Contains l claim) (sym (system_next row (drop (i + 1) all) (drop i all) is))
    (Contains-append_left (with_row row.equal row.row []) rest claim k) in
    h claim (subst (λ (l : List LinearRow). Contains (system_of l) claim) (take-append-drop i all)
    (system_append_in (take i all) (drop i all) claim (inr left)))

-- ---- written
pub claim_added : (g : PathFacts) (claim : List ℤ) (m : Multipliers) (old new : List ℕ) → IsLine g (Some claim) m →
    new ≡ old ++ text_line (multipliers_text (codes "by") m) → AddsLines g (claim ∷ []) old new
claim_added g claim m old new h e = adds_one (IsClaimLine g) by_line claim m old new h e

pub claim_stops : (g : PathFacts) (claim : List ℤ) → LineStrains g (Some claim) → SomeStrains g (claim ∷ [])
claim_stops g claim h = (claim, stops_one (IsClaimLine g) by_line (ClaimStrained g) claim h)

by_texts : (g : PathFacts) (claims : List (List ℤ)) (ms : List Multipliers) → AllZip (IsClaimLine g) claims ms →
    each_text by_line claims ms ≡ evidence_text (implies ms)
by_texts g [] [] h = refl
by_texts g [] (m ∷ ms) h = absurd h
by_texts g (claim ∷ claims) [] h = absurd h
by_texts g (claim ∷ claims) (m ∷ ms) h = ap (λ (t : List ℕ). by_line claim m ++ t) (by_texts g claims ms h.1)

pub dead_added : (g : PathFacts) (target : RowsAtPoint) (m : Multipliers) (old new : List ℕ) → IsLine g None m →
    new ≡ old ++ text_line (multipliers_text (codes "dead") m) → AddsEvidence (IsEvidence g target) old new
dead_added g target m old new h e = record { evidence = infeasible m; is = h; text = e }

pub claims_added : (g : PathFacts) (rows : List LinearRow) (old new : List ℕ) → IsNotShown g None → AddsLines g (system_of rows) old new →
    AddsEvidence (IsEvidence g (Some rows)) old new
claims_added g rows old new alive h = record {
  evidence = implies h.found;
  is = (alive, h.are);
  text = h.text ∙ ap (λ (t : List ℕ). old ++ t) (by_texts g (system_of rows) h.found h.are);
}

pub dead_stops : (g : PathFacts) (target : RowsAtPoint) → LineStrains g None → TargetStrains g target
dead_stops g None h = h
dead_stops g (Some rows) h = inl h

-- ---- the claims of a row: of an equality two
module _ (g : PathFacts) (row : List ℤ) where
  abbrev claims : Bool → List (List ℤ)
  claims equal = with_row equal row []

  -- after the row itself
  abbrev behind : Bool → List (List ℤ)
  behind equal = cond equal (negated row ∷ []) []

  claims_are : (equal : Bool) → claims equal ≡ (row ∷ []) ++ behind equal
  claims_are true = refl
  claims_are false = refl

  pub row_holds : (equal : Bool) → AllHold g (claims equal) → HoldsOn g row
  row_holds true h = h row (contains_head row (negated row ∷ []))
  row_holds false h = h row (contains_head row [])

  pub opposite_holds : (equal : Bool) (opposite : List ℤ) → equal ≡ true → opposite ≡ negated row → AllHold g (claims equal) → HoldsOn g opposite
  opposite_holds true opposite e is h =
      subst (λ (r : List ℤ). HoldsOn g r) (sym is) (h (negated row) (contains_tail row (negated row) (negated row ∷ []) (contains_head (negated row) [])))
  opposite_holds false opposite e is h = absurd (no e)
    where
      no : false ≡ true → ⊥
      no e = cc

  pub one_added : (equal : Bool) (old new : List ℕ) → equal ≡ false → AddsLines g (row ∷ []) old new → AddsLines g (claims equal) old new
  one_added equal old new e h = subst (λ (b : Bool). AddsLines g (claims b) old new) (sym e) h

  pub two_added : (equal : Bool) (opposite : List ℤ) (old middle new : List ℕ) → equal ≡ true → opposite ≡ negated row → AddsLines g (row ∷ []) old middle →
      AddsLines g (opposite ∷ []) middle new → AddsLines g (claims equal) old new
  two_added equal opposite old middle new e is h k =
      subst (λ (b : Bool). AddsLines g (claims b) old new) (sym e)
      (adds_both (IsClaimLine g) by_line (row ∷ []) (negated row ∷ []) old middle new h
      (subst (λ (r : List ℤ). AddsLines g (r ∷ []) middle new) is k))

  pub row_stops : (equal : Bool) → SomeStrains g (row ∷ []) → SomeStrains g (claims equal)
  row_stops equal (claim, h) = (
    claim,
    subst (λ (l : List (List ℤ)). Stops (IsClaimLine g) (ClaimStrained g) l claim) (sym (claims_are equal))
        (stops_first (IsClaimLine g) by_line (ClaimStrained g) (row ∷ []) (behind equal) claim h),
  )

  pub opposite_stops : (equal : Bool) (opposite : List ℤ) (old middle : List ℕ) → equal ≡ true → opposite ≡ negated row → AddsLines g (row ∷ []) old middle →
      SomeStrains g (opposite ∷ []) → SomeStrains g (claims equal)
  opposite_stops equal opposite old middle e is h (claim, k) =
      subst (λ (b : Bool). SomeStrains g (claims b)) (sym e) (
        claim,
        stops_later (IsClaimLine g) by_line (ClaimStrained g) (row ∷ []) (negated row ∷ []) claim old middle h
            (subst (λ (r : List ℤ). Stops (IsClaimLine g) (ClaimStrained g) (r ∷ []) claim) is k),
      )

-- ---- a target's claims, as they are handed on
module _ (g : PathFacts) (target : RowsAtPoint) (rows : List LinearRow) (is : target ≡ Some rows) where
  pub claims_told : {X : Type 0} (old new : List ℕ) → IsNotShown g None → (r : Result X PathFailure) → OnOk r (AddsLines g (system_of rows) old new) →
      OnOk r (AddsEvidence (IsEvidence g target) old new)
  claims_told old new alive (Ok x) h = subst (λ (s : RowsAtPoint). AddsEvidence (IsEvidence g s) old new) (sym is) (claims_added g rows old new alive h)
  claims_told old new alive (Err e) h = tt

  pub claims_failed : {X : Type 0} → IsNotShown g None → (r : Result X PathFailure) → IfErr r (IfStrained (SomeStrains g (system_of rows))) →
      IfErr r (IfStrained (TargetStrains g target))
  claims_failed alive (Ok x) h = tt
  claims_failed alive (Err e) h =
      strained_weaker (SomeStrains g (system_of rows)) (TargetStrains g target) e
      (λ x. subst (λ (s : RowsAtPoint). TargetStrains g s) (sym is) (inr (alive, x))) h

-- the second claim of an equality, as it is handed on
module _ (g : PathFacts) (row opposite : List ℤ) (equal : Bool) (e : equal ≡ true) (is : opposite ≡ negated row) (old middle : List ℕ)
    (first : AddsLines g (row ∷ []) old middle) where
  pub two_told : {X : Type 0} (new : List ℕ) (r : Result X PathFailure) → OnOk r (AddsLines g (opposite ∷ []) middle new) →
      OnOk r (AddsLines g (with_row equal row []) old new)
  two_told new (Ok x) h = two_added g row equal opposite old middle new e is first h
  two_told new (Err f) h = tt

  pub opposite_failed : {X : Type 0} (r : Result X PathFailure) → IfErr r (IfStrained (SomeStrains g (opposite ∷ []))) →
      IfErr r (IfStrained (SomeStrains g (with_row equal row [])))
  opposite_failed (Ok x) h = tt
  opposite_failed (Err f) h =
      strained_weaker (SomeStrains g (opposite ∷ [])) (SomeStrains g (with_row equal row [])) f
      (opposite_stops g row equal opposite old middle e is first) h
