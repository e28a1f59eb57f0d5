-- Which operations can't stop a run by a number, as the values at the points report it. An operation is asked whether
-- all that it computes fits: each operator and each sign, in the order in which they are computed, an element's index
-- before what the element gets, and each conversion from 64 bits to 32. Each is asked of the value that its operation
-- has.
use Rattle.std.specs.Prelude.{◌≡◌, ◌≢◌, ◌++◌, ℕ, ℤ, pos, negsuc, List, [], ◌∷◌, Option, None, Some, Bool, true, false}
use Rattle.std.specs.{List.list_all, Prelude.IsTrue, Prelude.slice_get}
use Rattle.lra_analysis_spec.specs.Crates.lra_base.NumberTypes.{fits, wider}
use Rattle.lra_analysis_spec.specs.Crates.lra_base.Operators.{Operator, plus, minus, times, over, modulo}
use Rattle.lra_analysis_spec.specs.Crates.lra_base.declared.number_types.NumberType.{NumberType}
use Rattle.lra_analysis_spec.specs.Crates.lra_program.Program.{Expr, literal, read, input, negate, binary, element}
use Rattle.lra_analysis_spec.specs.Crates.lra_program.Program.{type_of, Cond}
use Rattle.lra_analysis_spec.specs.Crates.lra_program.Receivers.{waiting_in, parameter_of, converts_to}
use Rattle.lra_analysis_spec.specs.Crates.lra_program.Step.{State, Op, append, fill, store_value, store_element, havoc}
use Rattle.lra_analysis_spec.specs.Crates.lra_program.Step.{push, push_for, truncate_to, test}
use Rattle.lra_analysis_spec.specs.Crates.lra_program.declared.receivers.Receiver.{Receiver}
use Rattle.lra_analysis_spec.specs.Crates.{lra_base.declared.number_types.NumberType.TheVariants.Int}
use Rattle.lra_analysis_spec.specs.Crates.{lra_linear_forms.Form.Form, lra_program.Value.Argument}
use Rattle.lra_domain.specs.Abstraction.{Abstraction}
use Rattle.lra_domain.specs.{declared.Exactness.Exactness, declared.Exactness.TheVariants.Exact}
use Rattle.lra_operations.specs.CheckedOperations.{OpAtPoint, computing_ops, OverflowsAtPoint}
use Rattle.lra_operations.specs.Tree.{Node}
use Rattle.lra_analysis_spec.specs.Judging.{AnswersUnlessUnreachable, CondAnswers, AnswerAtPoint, Finds}
use Rattle.lra_analysis_spec.specs.Linear.{is_constant, form_of}
use Rattle.lra_analysis_spec.specs.Operations.{Operations, lossy_operations}

-- a constant by which each number of a type can be divided
abbrev pub IsDivisor : Option Form → Type 0
IsDivisor None = ⊥
IsDivisor (Some f) = IsTrue (is_constant f) × (f.constant ≢ pos 0) × (f.constant ≢ negsuc 0)

module _ {V H : Type 0} (m : Abstraction V H) where
  -- what one value says ----------------------------------------------------------------------------------------------

  module _ (v : V) where
    -- what is reported about the form's values lies in the type
    abbrev pub LiesIn : NumberType → Option Form → Type 0
    LiesIn t None = ⊥
    LiesIn t (Some f) = (l h : ℤ) × m.bounded v f (Some l) (Some h) × IsTrue (fits t l) × IsTrue (fits t h)

    -- the operator's own form, and that of its right side
    abbrev pub OperatorFits : NumberType → Operator → Option Form → Option Form → Type 0
    OperatorFits t plus f g = LiesIn t f
    OperatorFits t minus f g = LiesIn t f
    OperatorFits t times f g = LiesIn t f
    OperatorFits t over f g = IsDivisor g
    OperatorFits t modulo f g = IsDivisor g

  -- all that is computed of it, if the call's own variables begin at `base`
  module _ (v : V) (base : ℕ) where
    -- the answers on an expression
    abbrev pub ExprJudged : Expr → List Bool → Type 0
    ExprJudged (literal t n) bs = bs ≡ []
    ExprJudged (read x) bs = bs ≡ []
    ExprJudged input bs = bs ≡ []
    ExprJudged (negate e) bs = (xs : List Bool) × (b : Bool) × ExprJudged e xs ×
        AnswersUnlessUnreachable m v b (LiesIn v (type_of e) (form_of (m.dims v) base (negate e))) × (bs ≡ xs ++ b ∷ [])
    ExprJudged (binary op a b) bs = (xs ys : List Bool) × (c : Bool) × ExprJudged a xs × ExprJudged b ys ×
        AnswersUnlessUnreachable m v c
        (OperatorFits v (wider (type_of a) (type_of b)) op (form_of (m.dims v) base (binary op a b))
        (form_of (m.dims v) base b)) × (bs ≡ (xs ++ ys) ++ c ∷ [])
    ExprJudged (element a at e) bs = ExprJudged e bs

    -- the answers on an expression and on the conversion of its value, if it is converted
    abbrev pub ConversionJudged : Bool → Expr → List Bool → Type 0
    ConversionJudged false e bs = bs ≡ []
    ConversionJudged true e bs =
        (b : Bool) × AnswersUnlessUnreachable m v b (LiesIn v Int (form_of (m.dims v) base e)) × (bs ≡ b ∷ [])

    abbrev pub GivenJudged : Receiver → Expr → List Bool → Type 0
    GivenJudged x e bs = (xs ys : List Bool) × ExprJudged e xs × ConversionJudged (converts_to (type_of e) x) e ys ×
        (bs ≡ xs ++ ys)

    -- arguments: nothing is pushed before all are computed
    abbrev pub ArgumentsJudged : List Argument → List Bool → Type 0
    ArgumentsJudged [] bs = bs ≡ []
    ArgumentsJudged (a ∷ rest) bs = (xs ys : List Bool) × GivenJudged (parameter_of a.number_type) a.value xs ×
        ArgumentsJudged rest ys × (bs ≡ xs ++ ys)

    -- an element's index, and what is computed after it
    abbrev pub IndexJudged : Expr → (List Bool → Type 0) → List Bool → Type 0
    IndexJudged e behind bs = (xs ys : List Bool) × ExprJudged e xs × behind ys × (bs ≡ xs ++ ys)

  -- both sides of a comparison, and what is compared with 0
  abbrev pub BothJudged : ℕ → Expr → Expr → V → List Bool → Exactness → Type 0
  BothJudged base a b v bs e = (xs ys : List Bool) × ExprJudged v base a xs × ExprJudged v base b ys ×
      (bs ≡ xs ++ ys) × (e ≡ Exact)

  abbrev pub OneJudged : ℕ → Expr → V → List Bool → Exactness → Type 0
  OneJudged base a v bs e = ExprJudged v base a bs × (e ≡ Exact)

  -- operations; what a left side leaves may be flagged ----------------------------------------------------------------

  module _ (ops : Operations V H) where
    abbrev pub CondJudged : ℕ → Cond → V → List Bool → Exactness → Type 0
    CondJudged base c v bs e = CondAnswers ops BothJudged OneJudged base c v bs e

    abbrev pub OpJudged : Op → V → List Bool → Exactness → Type 0
    OpJudged (append t) v bs e = (bs ≡ []) × (e ≡ Exact)
    OpJudged (fill a) v bs e = (bs ≡ []) × (e ≡ Exact)
    OpJudged (store_value base x a) v bs e = GivenJudged v base x a bs × (e ≡ Exact)
    OpJudged (store_element base x a) v bs e =
        IndexJudged v base x.index (GivenJudged v base (waiting_in x.array) a) bs × (e ≡ Exact)
    OpJudged (havoc x) v bs e = (bs ≡ []) × (e ≡ Exact)
    OpJudged (push base given) v bs e = ArgumentsJudged v base given bs × (e ≡ Exact)
    OpJudged (push_for base x given) v bs e = IndexJudged v base x.index (ArgumentsJudged v base given) bs × (e ≡ Exact)
    OpJudged (truncate_to n) v bs e = (bs ≡ []) × (e ≡ Exact)
    OpJudged (test base c wanted) v bs e = CondJudged base c v bs e

    -- whether all fits that an operation computes
    abbrev pub OpFits : Op → V → Bool → Exactness → Type 0
    OpFits op v b e = (bs : List Bool) × OpJudged op v bs e × (b ≡ list_all (λ x. x) bs)

    -- by the values at the points
    abbrev pub JudgedAtPoint : List V → OpAtPoint → Bool → Exactness → Type 0
    JudgedAtPoint values a b e = AnswerAtPoint ops OpFits values a b e

    -- all of a tree: what is found at the points where it computes; flags come after all of the iteration's
    abbrev pub Judges : Node → List V → Option ℕ → List (ℕ × Bool) → Option ℕ → Type 0
    Judges g values flagged fitting behind = Finds ops OpFits (computing_ops None g) values flagged fitting behind

    -- if it is asked for; else nothing is reported, and nothing done
    abbrev pub JudgesIf : Bool → Node → List V → Option ℕ → List (ℕ × Bool) → Option ℕ → Type 0
    JudgesIf true g values flagged fitting behind = Judges g values flagged fitting behind
    JudgesIf false g values flagged fitting behind = (fitting ≡ []) × (behind ≡ flagged)

-- What is judged to fit by a value with a run's store doesn't stop that run by a number.
abbrev pub FittingNeverOverflow : {V H : Type 0} → Abstraction V H → Type 0
FittingNeverOverflow {V} m = (values : List V) (a : OpAtPoint) (e : Exactness) (v : V) (s : State)
    → slice_get values a.point ≡ Some v → m.well_formed v → m.gamma v s.store →
    JudgedAtPoint m (lossy_operations m) values a true e
    → OverflowsAtPoint a s → ⊥
