-- What is judged so far: what is reported about an expression or a condition after others, and the verdicts in a table
-- of all points.
use Rattle.std.specs.Prelude.{◌≡◌, ◌<◌, ◌⊎◌, ℕ, suc, ℤ, List, [], ◌∷◌, ◌++◌, length, Option, None, Some, Bool, true}
use Rattle.std.specs.Prelude.{false, ◌||◌, filter, slice_get, Contains, ⊤}
use Rattle.lra_overflow_checks.specs.Crates.lra_analysis_spec.Fits.{ExprJudged, OpJudged}
use Rattle.lra_overflow_checks.specs.Crates.lra_analysis_spec.Judging.{CondAnswers, Declares, Finding, IsFoundOn}
use Rattle.lra_overflow_checks.specs.Crates.lra_analysis_spec.Operations.{Operations, lossy_operations}
use Rattle.lra_overflow_checks.specs.Crates.lra_base.declared.number_types.NumberType.{NumberType}
use Rattle.lra_overflow_checks.specs.Crates.lra_domain.Abstraction.{Abstraction, worse}
use Rattle.lra_overflow_checks.specs.Crates.lra_operations.CheckedOperations.{OpAtPoint}
use Rattle.lra_overflow_checks.specs.Crates.{lra_analysis_spec.Linear.form_of, lra_base.NumberTypes.fits}
use Rattle.lra_overflow_checks.specs.Crates.{lra_domain.declared.Exactness.Exactness, lra_linear_forms.Form.Form}
use Rattle.lra_program.specs.Program.{Expr, type_of, Cond}
use Rattle.lra_program.specs.{Overflow.cond_computes, ProgramViews.all_of, ProgramViews.any_of, Step.Op}
use Rattle.lra_overflow_checks.specs.{declared.expressions.Computed.Computed, declared.questions.Verdict.Verdict}

-- a bound that is there is one of the type's numbers
abbrev pub is_within : NumberType → Option ℤ → Bool
is_within t None = false
is_within t (Some z) = fits t z

-- a coefficient for each of so many variables
abbrev pub IsWide : ℕ → Option Form → Type 0
IsWide n None = ⊤
IsWide n (Some f) = length f.coefficients ≡ n

-- one of the conditions computes something
abbrev pub some_computes : List Cond → Bool
some_computes [] = false
some_computes (c ∷ cs) = cond_computes c || some_computes cs

-- a chain of `&&`, whose operands are computed if those before them are true, or of `||`, if they are false
abbrev pub sides_of : Bool → Cond → List Cond → Cond
sides_of true c cs = all_of c cs
sides_of false c cs = any_of c cs

-- what is reported came after the others
abbrev pub HasAnswers : {A : Type 0} → (List A → Type 0) → List A → List A → Type 0
HasAnswers {A} are old new = (xs : List A) × are xs × (new ≡ old ++ xs)

module _ {V H : Type 0} (m : Abstraction V H) where
  -- the answers on the expression came after the others, and this is its type and its form
  pub record IsComputed (v : V) (base : ℕ) (e : Expr) (old : List Bool) (c : Computed) (new : List Bool)
      : Type 0 where
    pub answers : HasAnswers (ExprJudged m v base e) old new
    pub number_type : c.number_type ≡ type_of e
    pub form : c.form ≡ form_of (m.dims v) base e

  -- the answers on an operation came after the others; whether what was made for them is exact
  abbrev pub IsOpJudged : Op → V → List Bool → Exactness → List Bool → Type 0
  IsOpJudged op v old e new = HasAnswers (λ bs. OpJudged m (lossy_operations m) op v bs e) old new

module _ {V H : Type 0} (ops : Operations V H) {A : Type 0} where
  -- what is reported about a condition, by what is reported about its leaves
  abbrev pub IsCondJudged : (ℕ → Expr → Expr → V → List A → Exactness → Type 0) →
      (ℕ → Expr → V → List A → Exactness → Type 0) →
      ℕ → Cond → V → List A → Exactness → List A → Type 0
  IsCondJudged Both One base c v old e new = HasAnswers (λ xs. CondAnswers ops Both One base c v xs e) old new

  -- the answer for what is done at a point with this value
  abbrev pub IsAnswered : (Op → V → A → Exactness → Type 0) → OpAtPoint → V → A → Exactness → Type 0
  IsAnswered Told a v x e = (w : V) × (c d : Exactness) × Declares ops a.fresh v c w × Told a.op w x d × (e ≡ worse c d)

-- tables -----------------------------------------------------------------------------------------------------------

-- each of them has a value
abbrev pub AreBelow : ℕ → List OpAtPoint → Type 0
AreBelow n asked = (a : OpAtPoint) → Contains asked a → a.point < n

-- the operations that pass this test
abbrev pub asked_by : (Op → Bool) → List OpAtPoint → List OpAtPoint
asked_by asks xs = filter (λ a. asks a.op) xs

module _ {A : Type 0} where
  abbrev pub finding_of : ℕ → Verdict A → Finding A
  finding_of q j = record { point = q; answer = j.answer; exactness = j.exactness }

  -- the verdicts of a table whose first place has this number
  abbrev pub findings_from : ℕ → List (Option (Verdict A)) → List (Finding A)
  findings_from q [] = []
  findings_from q (None ∷ places) = findings_from (suc q) places
  findings_from q (Some j ∷ places) = finding_of q j ∷ findings_from (suc q) places

  -- what the table holds there
  abbrev pub Holds : List (Option (Verdict A)) → ℕ → Verdict A → Type 0
  Holds table q j = slice_get table q ≡ Some (Some j)

  -- the table has the verdicts on these, over what it had
  pub record Fills {V H : Type 0} (ops : Operations V H) (Told : Op → V → A → Exactness → Type 0) (values : List V)
      (asked : List OpAtPoint) (old new : List (Option (Verdict A))) : Type 0 where
    pub long : length new ≡ length old
    pub is_asked : (q : ℕ) (j : Verdict A) → Holds new q j →
        Holds old q j ⊎ IsFoundOn ops Told asked values (finding_of q j)
    pub has_asked : (a : OpAtPoint) → Contains asked a → (j : Verdict A) × Holds new a.point j
    pub keeps : (q : ℕ) (j : Verdict A) → Holds old q j → (k : Verdict A) × Holds new q k
