-- Which accesses of arrays lie inside their arrays, as the values at the points report it. The accesses of an operation
-- are judged in the order in which they are evaluated, each by the value that the operation has there: the right side
-- of `&&` and `||` by what the left side leaves to it. An access is inside if no run comes, or if its index is
-- linear and two tests have 64 bits, that it is below 0 and that it is at least the array's length, each of which alone
-- leaves nothing of the value. What is reported about an access is the place where its array is named, and whether it
-- is inside.
use Rattle.std.specs.Prelude.{◌≡◌, ◌++◌, ℕ, List, [], ◌∷◌, Option, None, Some, Bool, true, slice_get}
use Rattle.lra_analysis_spec.specs.Crates.lra_program.Accesses.{expr_accesses, arguments_accesses, aim_accesses}
use Rattle.lra_analysis_spec.specs.Crates.lra_program.Accesses.{OpOutOfBounds}
use Rattle.lra_analysis_spec.specs.Crates.lra_program.Program.{Expr, Cond, Element}
use Rattle.lra_analysis_spec.specs.Crates.lra_program.Step.{State, Op, append, fill, store_value, store_element, havoc}
use Rattle.lra_analysis_spec.specs.Crates.lra_program.Step.{push, push_for, truncate_to, test}
use Rattle.lra_analysis_spec.specs.Crates.lra_program.Value.{◌>>=◌}
use Rattle.lra_analysis_spec.specs.Crates.{lra_base.Operators.below, lra_base.declared.refusals.Place.Place}
use Rattle.lra_analysis_spec.specs.Crates.{lra_linear_forms.Form.Form, lra_linear_forms.declared.test.Test.Test}
use Rattle.lra_domain.specs.Abstraction.{Abstraction, worse}
use Rattle.lra_domain.specs.{declared.Exactness.Exactness, declared.Exactness.TheVariants.Exact}
use Rattle.lra_operations.specs.CheckedOperations.{OpAtPoint, accessing_ops, HoldsAtPoint}
use Rattle.lra_operations.specs.Tree.{Node}
use Rattle.lra_analysis_spec.specs.Judging.{AnswersUnlessUnreachable, CondAnswers, AnswerAtPoint, Finds}
use Rattle.lra_analysis_spec.specs.Linear.{form_of, at_least_zero, less_by, comparison_test}
use Rattle.lra_analysis_spec.specs.Operations.{Operations, lossy_operations}
use Rattle.lra_analysis_spec.specs.{Analysis.IsUnreachable, MovesOf.test_action}

-- that an index of this form is below 0, -e - 1 >= 0, and that it is at least the length, e - n >= 0: both, if all
-- their numbers have 64 bits
abbrev pub outside : Form → ℕ → Option (Test × Test)
outside e n = comparison_test below e >>= λ under. at_least_zero (less_by n e) >>= λ over. Some (under, over)

-- of an index that isn't linear there are none
abbrev pub outside_of : Option Form → ℕ → Option (Test × Test)
outside_of e n = e >>= λ f. outside f n

module _ {V H : Type 0} (m : Abstraction V H) (ops : Operations V H) where
  -- whether neither test leaves a part: each is made of the value itself
  abbrev pub IndexJudged : V → Option (Test × Test) → Bool → Exactness → Type 0
  IndexJudged v None b e = AnswersUnlessUnreachable m v b ⊥ × (e ≡ Exact)
  IndexJudged v (Some tests) b e = (under over : V) × (c d : Exactness) × ops.changed (test_action tests.0) v c under ×
      ops.changed (test_action tests.1) v d over
      × AnswersUnlessUnreachable m v b (IsUnreachable m under × IsUnreachable m over) ×
      (e ≡ worse c d)

  -- an access by a value, if the call's own variables begin at `base`
  abbrev pub AccessJudged : V → ℕ → Element → Bool → Exactness → Type 0
  AccessJudged v base x b e = IndexJudged v (outside_of (form_of (ops.dims v) base x.index) x.array.length) b e

  -- several accesses by one value
  abbrev pub EachJudged : V → ℕ → List Element → List (Place × Bool) → Exactness → Type 0
  EachJudged v base [] js e = (js ≡ []) × (e ≡ Exact)
  EachJudged v base (x ∷ rest) js e = (b : Bool) × (later : List (Place × Bool)) × (c d : Exactness) ×
      AccessJudged v base x b c × EachJudged v base rest later d × (js ≡ (x.place, b) ∷ later) × (e ≡ worse c d)

  -- the verdicts on the accesses of both sides of a comparison
  abbrev pub BothInside : ℕ → Expr → Expr → V → List (Place × Bool) → Exactness → Type 0
  BothInside base a b v js e = EachJudged v base (expr_accesses a ++ expr_accesses b) js e

  abbrev pub OneInside : ℕ → Expr → V → List (Place × Bool) → Exactness → Type 0
  OneInside base a v js e = EachJudged v base (expr_accesses a) js e

  abbrev pub CondInside : ℕ → Cond → V → List (Place × Bool) → Exactness → Type 0
  CondInside base c v js e = CondAnswers ops BothInside OneInside base c v js e

  -- the verdicts on the accesses of an operation
  abbrev pub OpInside : Op → V → List (Place × Bool) → Exactness → Type 0
  OpInside (append t) v js e = EachJudged v 0 [] js e
  OpInside (fill a) v js e = EachJudged v 0 [] js e
  OpInside (store_value base x a) v js e = EachJudged v base (expr_accesses a) js e
  OpInside (store_element base x a) v js e = EachJudged v base (aim_accesses x ++ expr_accesses a) js e
  OpInside (havoc x) v js e = EachJudged v 0 [] js e
  OpInside (push base given) v js e = EachJudged v base (arguments_accesses given) js e
  OpInside (push_for base x given) v js e = EachJudged v base (aim_accesses x ++ arguments_accesses given) js e
  OpInside (truncate_to n) v js e = EachJudged v 0 [] js e
  OpInside (test base c wanted) v js e = CondInside base c v js e

  -- by the values at the points: what is reported about each, in their order
  abbrev pub InsideAtPoint : List V → OpAtPoint → List (Place × Bool) → Exactness → Type 0
  InsideAtPoint values a js e = AnswerAtPoint ops OpInside values a js e

  -- all of a tree: what is found at the points where it accesses arrays; flags come after all that is flagged before
  abbrev pub JudgesAccesses : Node → List V → Option ℕ → List (ℕ × List (Place × Bool)) → Option ℕ → Type 0
  JudgesAccesses g values flagged inside behind =
      Finds ops OpInside (accessing_ops None g) values flagged inside behind

-- An access that is judged to be inside by a value with a run's store isn't one by which that run strays.
abbrev pub InsideIsSound : {V H : Type 0} → Abstraction V H → Type 0
InsideIsSound {V} m = (values : List V) (a : OpAtPoint) (js : List (Place × Bool)) (e : Exactness) (v : V) (s : State)
    (n : ℕ) (place : Place) → slice_get values a.point ≡ Some v → m.well_formed v → m.gamma v s.store
    → InsideAtPoint m (lossy_operations m) values a js e → slice_get js n ≡ Some (place, true)
    → HoldsAtPoint (λ op t. OpOutOfBounds op t n) a s → ⊥
