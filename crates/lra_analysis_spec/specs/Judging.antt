-- What is judged of a tree's operations at their points, by the values there, whatever it is that is reported about
-- them. A declarator's operation is judged after its new variable; the right side of `&&` and `||` by what the left
-- side leaves to it. What has to be made for that may be flagged.
use Rattle.std.specs.Prelude.{◌≡◌, ◌↔◌, ◌⊎◌, ◌<◌, ◌++◌, ℕ, List, [], ◌∷◌, map, Option, None, Some, Bool, true, false}
use Rattle.std.specs.Prelude.{IsTrue, Contains, slice_get}
use Rattle.lra_domain.specs.Abstraction.{Abstraction, worse}
use Rattle.lra_domain.specs.{declared.Exactness.Exactness, declared.Exactness.TheVariants.Exact}
use Rattle.lra_analysis_spec.specs.Crates.lra_program.Program.{Expr, Cond, compare, nonzero, opposite, both_of}
use Rattle.lra_analysis_spec.specs.Crates.{lra_base.declared.number_types.NumberType.NumberType}
use Rattle.lra_analysis_spec.specs.Crates.{lra_program.Program.either_of, lra_program.Step.Op, lra_program.Step.append}
use Rattle.lra_operations.specs.CheckedOperations.{OpAtPoint}
use Rattle.lra_analysis_spec.specs.Pass.{noted, Filters, OpTransfer}
use Rattle.lra_analysis_spec.specs.{Analysis.IsUnreachable, Operations.Operations}

-- what is found of an operation that is asked: its point, the answer, and whether what had to be made for it is exact
pub record Finding (A : Type 0) : Type 0 where
  pub point : ℕ
  pub answer : A
  pub exactness : Exactness

-- a finding without its flag
abbrev pub answer_of : {A : Type 0} → Finding A → ℕ × A
answer_of j = (j.point, j.answer)

-- the first flagged point, after what is flagged so far
abbrev pub first_flagged : {A : Type 0} → Option ℕ → List (Finding A) → Option ℕ
first_flagged f [] = f
first_flagged f (j ∷ js) = first_flagged (noted j.point j.exactness f) js

-- an answer: it is so, or no run comes here
abbrev pub AnswersUnlessUnreachable : {V H : Type 0} → Abstraction V H → V → Bool → Type 0 → Type 0
AnswersUnlessUnreachable m v b so = IsTrue b ↔ (IsUnreachable m v ⊎ so)

module _ {V H : Type 0} (ops : Operations V H) where
  -- conditions, by what is reported about both sides of a comparison, and of what is compared with 0
  module _ {A : Type 0} (Both : ℕ → Expr → Expr → V → List A → Exactness → Type 0)
      (One : ℕ → Expr → V → List A → Exactness → Type 0) where
    abbrev pub CondAnswers : ℕ → Cond → V → List A → Exactness → Type 0
    CondAnswers base (compare op a b) v bs e = Both base a b v bs e
    CondAnswers base (nonzero a) v bs e = One base a v bs e
    CondAnswers base (opposite c) v bs e = CondAnswers base c v bs e
    CondAnswers base (both_of c d) v bs e = (xs ys : List A) × (w : V) × (f g h : Exactness) ×
        CondAnswers base c v xs f × Filters ops base c true v g w × CondAnswers base d w ys h × (bs ≡ xs ++ ys) ×
        (e ≡ worse (worse f g) h)
    CondAnswers base (either_of c d) v bs e = (xs ys : List A) × (w : V) × (f g h : Exactness) ×
        CondAnswers base c v xs f × Filters ops base c false v g w × CondAnswers base d w ys h × (bs ≡ xs ++ ys) ×
        (e ≡ worse (worse f g) h)

  -- after the new variable, if there is one
  abbrev pub Declares : Option NumberType → V → Exactness → V → Type 0
  Declares None v e w = (w ≡ v) × (e ≡ Exact)
  Declares (Some t) v e w = OpTransfer ops (append t) v e w

  -- operations that are asked, by what is reported about an operation and the value that it has
  module _ {A : Type 0} (Told : Op → V → A → Exactness → Type 0) where
    -- one of them, by the values at the points
    abbrev pub AnswerAtPoint : List V → OpAtPoint → A → Exactness → Type 0
    AnswerAtPoint values a x e = (v w : V) × (c d : Exactness) × (slice_get values a.point ≡ Some v) ×
        Declares a.fresh v c w × Told a.op w x d × (e ≡ worse c d)

    -- the finding is on one of these
    abbrev pub IsFoundOn : List OpAtPoint → List V → Finding A → Type 0
    IsFoundOn asked values j = (a : OpAtPoint) × Contains asked a × (a.point ≡ j.point) ×
        AnswerAtPoint values a j.answer j.exactness

    -- all of them: what is found at the points where it is asked, in the order of their numbers; flags come after all
    -- that is flagged before
    pub record Finds (asked : List OpAtPoint) (values : List V) (flagged : Option ℕ) (answers : List (ℕ × A))
        (behind : Option ℕ) : Type 0 where
      pub found : List (Finding A)
      pub is_asked : (j : Finding A) → Contains found j → IsFoundOn asked values j
      pub has_asked : (a : OpAtPoint) → Contains asked a → (j : Finding A) × Contains found j × (j.point ≡ a.point)
      pub in_order : (i k : ℕ) (j l : Finding A) → i < k → slice_get found i ≡ Some j → slice_get found k ≡ Some l →
          j.point < l.point
      pub told : answers ≡ map answer_of found
      pub flags : behind ≡ first_flagged flagged found
