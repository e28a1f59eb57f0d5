-- Tables that have what a pass finds at the numbers of the points.
use Rattle.std.specs.List.{Contains}
use Rattle.std.specs.Prelude.{◌≡◌, ◌↔◌, ℕ, suc, List, [], ◌∷◌, length, Option, None, Some, Bool, IsTrue, slice_get}
use Rattle.lra_fixpoint.specs.Crates.lra_analysis_spec.Pass.{PassEntry, value, failing, recorded}
use Rattle.lra_fixpoint.specs.Crates.{lra_analysis_spec.Analysis.IsUnreachable, lra_domain.Abstraction.Abstraction}
use Rattle.lra_fixpoint.specs.declared.tables.Note.{Note}

-- a note is the number of the point, the variable's place and the value
abbrev pub note_view : {V : Type 0} → Note V → ℕ × ℕ × V
note_view one = (one.point, one.variable, one.value)

-- what variables got, in the order in which it is found
abbrev pub notes_in : {V : Type 0} → List (PassEntry V) → List (ℕ × ℕ × V)
notes_in [] = []
notes_in (value q v ∷ xs) = notes_in xs
notes_in (failing q v ∷ xs) = notes_in xs
notes_in (recorded q place v ∷ xs) = (q, place, v) ∷ notes_in xs

-- n places for values, and n for whether an assertion is proved: filled if there is such an entry
pub record AreTabled {V H : Type 0} (m : Abstraction V H) (n : ℕ) (xs : List (PassEntry V)) (values : List (Option V))
    (verdicts : List (Option Bool)) : Type 0 where
  pub places : length values ≡ n
  pub verdict_places : length verdicts ≡ n
  pub is_value : (q : ℕ) (v : V) → (slice_get values q ≡ Some (Some v)) ↔ Contains xs (value q v)
  pub is_verdict : (q : ℕ) (proved : Bool) → slice_get verdicts q ≡ Some (Some proved) → (u : V) ×
      Contains xs (failing q u) × (IsTrue proved ↔ IsUnreachable m u)
  pub has_verdict : (q : ℕ) (u : V) → Contains xs (failing q u) → (proved : Bool) ×
      (slice_get verdicts q ≡ Some (Some proved))

-- the filled places with their numbers, the first of which is `number`
abbrev pub filled_from : {A : Type 0} → ℕ → List (Option A) → List (ℕ × A)
filled_from number [] = []
filled_from number (None ∷ places) = filled_from (suc number) places
filled_from number (Some x ∷ places) = (number, x) ∷ filled_from (suc number) places
