-- What is asked of operations, on small ones, over any value.
use Rattle.std.proofs.Common.{◌≡◌, ℕ, pos, negsuc, List, [], ◌∷◌, ◌++◌, Some, None, Bool, true, false, refl, inl, inr}
use Rattle.lra_analysis_spec.specs.Crates.lra_base.Operators.{plus, times}
use Rattle.lra_analysis_spec.specs.Crates.lra_program.Program.{Expr, literal, input, negate, binary}
use Rattle.lra_analysis_spec.specs.Crates.lra_program.Receivers.{variable_at, result_receiver, nobody, converts_to}
use Rattle.lra_analysis_spec.specs.Crates.{lra_base.declared.number_types.NumberType.TheVariants.Int, lra_base.declared.number_types.NumberType.TheVariants.Long, lra_linear_forms.Form.Form}
use Rattle.lra_domain.specs.{Abstraction.Abstraction, Laws.Laws, declared.Exactness.TheVariants.Exact, declared.Exactness.TheVariants.Flagged}
use Rattle.lra_analysis_spec.specs.{Fits.IsDivisor, Fits.LiesIn, Fits.ExprJudged, Fits.GivenJudged, Judging.Finding, Judging.first_flagged, Judging.AnswersUnlessUnreachable, Linear.constant_form}

-- flags ----------------------------------------------------------------------------------------------------------------

abbrev some_judgements : List (Finding Bool)
some_judgements = record { point = 3; answer = true; exactness = Exact } ∷ record { point = 5; answer = false; exactness = Flagged } ∷ record
    { point = 7; answer = true; exactness = Flagged } ∷ []

-- the first of those that are judged; none if the iteration has one
first_of_three : first_flagged None some_judgements ≡ Some 5
first_of_three = refl

behind_the_iteration : first_flagged (Some 9) some_judgements ≡ Some 9
behind_the_iteration = refl

-- divisors ---------------------------------------------------------------------------------------------------------------

two_divides : IsDivisor (Some (constant_form 3 (pos 2)))
two_divides = (refl, λ e. cc, λ e. cc)

-- the least number of a type divided by -1 isn't one of it
minus_one_divides_not : IsDivisor (Some (constant_form 3 (negsuc 0))) → ⊥
minus_one_divides_not (constant, zero_no, one_no) = one_no refl

zero_divides_not : IsDivisor (Some (constant_form 3 (pos 0))) → ⊥
zero_divides_not (constant, zero_no, one_no) = zero_no refl

-- what isn't linear divides nothing
formless_divides_not : IsDivisor None → ⊥
formless_divides_not d = d

-- conversions ------------------------------------------------------------------------------------------------------------

-- a `long` that an `int` gets; the result of a `long` function that an `int` gets is converted after its `return`, as
-- an `int`'s is, too; what nobody gets isn't
long_converted : converts_to Long (variable_at 0 Int) ≡ true
long_converted = refl

int_not_converted : converts_to Int (variable_at 0 Int) ≡ false
int_not_converted = refl

behind_long_converted : converts_to Int (result_receiver (Some Long) (variable_at 0 Int)) ≡ true
behind_long_converted = refl

nobody_converts_not : converts_to Long nobody ≡ false
nobody_converts_not = refl

module _ {V H : Type 0} (m : Abstraction V H) (v : V) where
  -- answers ----------------------------------------------------------------------------------------------------------------

  -- one for each operator and sign, in the order in which they are computed: here the product's, the sign's, the sum's
  three_answers : (let sum : Expr = binary plus (binary times (literal Int 2) input) (negate input) in (bs : List Bool) → ExprJudged m v 0 sum bs →
      (x y z : Bool) × (bs ≡ x ∷ y ∷ z ∷ []))
  three_answers bs (xs, ys, z, (us, ws, x, first, second, one, is), (ts, y, inner, two, also), three, whole) =
      (x, y, z, all us ws ts xs ys bs x y z first second is inner also whole)
    where
      all : (us ws ts xs ys bs : List Bool) (x y z : Bool) → us ≡ [] → ws ≡ [] → xs ≡ (us ++ ws) ++ x ∷ [] → ts ≡ [] → ys ≡ ts ++ y ∷ [] → bs ≡ (xs ++ ys) ++ z
          ∷ [] → bs ≡ x ∷ y ∷ z ∷ []
      all us ws ts xs ys bs x y z e f g h i j = rw (j, g, i, e, f, h) refl

  -- a literal, a variable and an input compute nothing
  literal_has_none : (n : ℕ) → ExprJudged m v 0 (literal Int n) []
  literal_has_none n = refl

  -- a `long` that goes to an `int` has its conversion's answer alone
  conversion_alone : (b : Bool) → AnswersUnlessUnreachable m v b (LiesIn m v Int None) → GivenJudged m v 0 (variable_at 0 Int) input (b ∷ [])
  conversion_alone b answer = ([], b ∷ [], refl, (b, answer, refl), refl)

  -- what has no form doesn't fit unless no run comes
  formless_fits_nowhere : (b : Bool) → AnswersUnlessUnreachable m v b (LiesIn m v Int None) → b ≡ true → m.parts v ≡ []
  formless_fits_nowhere b answer is = elim (answer.0 is) [ inl none ↦ none | inr lies ↦ absurd lies ]

  -- numbers ----------------------------------------------------------------------------------------------------------------

  -- of 0 to 2147483647 all are `int`s; of 0 to 2147483648 not
  greatest_lies : (f : Form) → m.bounded v f (Some (pos 0)) (Some (pos 2147483647)) → LiesIn m v Int (Some f)
  greatest_lies f bounded = (pos 0, pos 2147483647, bounded, refl, refl)

  one_more_lies_not : Laws m → (f : Form) → m.well_formed v → m.bounded v f (Some (pos 0)) (Some (pos 2147483648)) → LiesIn m v Int (Some f) → ⊥
  one_more_lies_not laws f formed bounded (l, h, also, low, high) =
      let same = laws.one_bounded v f (Some l) (Some h) (Some (pos 0)) (Some (pos 2147483648)) formed also bounded in
      let is : h ≡ pos 2147483648 = let e = same.1 in cc in
      let no : false ≡ true = rw is at high in
      cc
