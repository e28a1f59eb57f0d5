-- Which accesses are judged to be inside: the tests of an index, the order of answers, and flags. Which slip an example
-- would catch stands beside it.
use Rattle.std.proofs.Common.{◌≡◌, ℕ, ℤ, pos, negsuc, List, [], ◌∷◌, Some, None, Bool, true, false, refl, inl, inr}
use Rattle.lra_analysis_spec.specs.Crates.lra_base.declared.number_types.NumberType.TheVariants.{Int, Long}
use Rattle.lra_analysis_spec.specs.Crates.lra_program.Program.{Expr, literal, input, element, Element, nonzero, both_of, either_of}
use Rattle.lra_analysis_spec.specs.Crates.lra_program.Step.{Op, store_element}
use Rattle.lra_analysis_spec.specs.Crates.{lra_base.declared.refusals.Place.Place, lra_linear_forms.Form.Form, lra_linear_forms.declared.test.Test.Test}
use Rattle.lra_analysis_spec.specs.Crates.{lra_linear_spec.declared.ConKind.TheVariants.Ge, lra_program.Accesses.expr_accesses, lra_program.declared.arrays.Array.Array}
use Rattle.lra_domain.specs.{Abstraction.Abstraction, Abstraction.worse, declared.Exactness.Exactness, declared.Exactness.TheVariants.Exact, declared.Exactness.TheVariants.Flagged}
use Rattle.lra_analysis_spec.specs.Accesses.{outside, outside_of, IndexJudged, AccessJudged, EachJudged, CondInside, OpInside}
use Rattle.lra_analysis_spec.specs.{Judging.Finding, Judging.first_flagged, MovesOf.test_action, Operations.Operations, Pass.Filters}

abbrev form : ℤ → List ℤ → Form
form c cs = record { constant = c; coefficients = cs }

abbrev at_least_zero_of : ℤ → List ℤ → Test
at_least_zero_of c cs = record { expr = form c cs; kind = Ge }

-- tests ----------------------------------------------------------------------------------------------------------------

-- x in an array of 3: -x - 1 >= 0, x - 3 >= 0. Catches a test that takes 3 for an index, and one that takes 0 for none
three_elements : outside (form (pos 0) (pos 1 ∷ [])) 3 ≡ Some (at_least_zero_of (negsuc 0) (negsuc 0 ∷ []), at_least_zero_of (negsuc 2) (pos 1 ∷ []))
three_elements = refl

-- 2x + 1 in an array of 1
one_element : outside (form (pos 1) (pos 2 ∷ [])) 1 ≡ Some (at_least_zero_of (negsuc 1) (negsuc 1 ∷ []), at_least_zero_of (pos 0) (pos 2 ∷ []))
one_element = refl

-- if a number of one of both passes 64 bits there are none: of x - 9223372036854775806 for an array of 3 the second
-- constant, of -9223372036854775808x the first coefficient
too_low : outside (form (negsuc 9223372036854775805) (pos 1 ∷ [])) 3 ≡ None
too_low = refl

just_there : outside (form (negsuc 9223372036854775805) (pos 1 ∷ [])) 2 ≡
    Some (at_least_zero_of (pos 9223372036854775805) (negsuc 0 ∷ []), at_least_zero_of (negsuc 9223372036854775807) (pos 1 ∷ []))
just_there = refl

too_steep : outside (form (pos 0) (negsuc 9223372036854775807 ∷ [])) 3 ≡ None
too_steep = refl

not_linear : outside_of None 3 ≡ None
not_linear = refl

-- answers --------------------------------------------------------------------------------------------------------------

abbrev at : ℕ → Place
at c = record { line = 1; column = c }

-- long a[3], declared at 1:6
abbrev a : Array
a = record { declared = at 6; length = 3; number_type = Long }

abbrev a_at : Expr → ℕ → Element
a_at i c = record { array = a; place = at c; index = i }

module _ {V H : Type 0} (m : Abstraction V H) (ops : Operations V H) (v : V) where
  -- an index that isn't linear lies inside only if no run comes
  input_inside_nowhere : (b : Bool) → AccessJudged m ops v 0 (a_at input 30) b Exact → b ≡ true → m.parts v ≡ []
  input_inside_nowhere b judged is = elim (judged.0.0 is) [ inl none ↦ none | inr never ↦ absurd never ]

  -- a[a[0]]: the inner access comes first. Catches an outer access that comes before the one in its index
  abbrev inner : Element
  inner = a_at (literal Int 0) 32

  abbrev outer : Element
  outer = a_at (element a (at 32) (literal Int 0)) 30

  inner_first : (b c : Bool) (e : Exactness) → AccessJudged m ops v 0 inner b e → AccessJudged m ops v 0 outer c Exact →
      EachJudged m ops v 0 (expr_accesses (element a (at 30) (element a (at 32) (literal Int 0))))
      ((at 32, b) ∷ (at 30, c) ∷ []) (worse e Exact)
  inner_first b c e one two = (b, (at 30, c) ∷ [], e, Exact, one, (c, [], Exact, Exact, two, (refl, refl), refl, refl), refl, refl)

  -- a[0] = a[input()]: the element that gets a value comes before what it gets
  abbrev gets_input : Op
  gets_input = store_element 0 inner (element a (at 40) input)

  target_first : (b c : Bool) (e : Exactness) → AccessJudged m ops v 0 inner b e → AccessJudged m ops v 0 (a_at input 40) c Exact →
      OpInside m ops gets_input v ((at 32, b) ∷ (at 40, c) ∷ []) (worse e Exact)
  target_first b c e one two = (b, (at 40, c) ∷ [], e, Exact, one, (c, [], Exact, Exact, two, (refl, refl), refl, refl), refl, refl)

  -- if neither test leaves a part the access is inside. Catches one that is never inside, and one given by one test
  -- alone
  neither_test : (tests : Test × Test) (under over : V) (c d : Exactness) → ops.changed (test_action tests.0) v c under →
      ops.changed (test_action tests.1) v d over → m.parts under ≡ [] → m.parts over ≡ [] → IndexJudged m ops v (Some tests) true (worse c d)
  neither_test tests under over c d one two low high = (under, over, c, d, one, two, (λ so. inr (low, high), λ so. refl), refl)

  -- what stands right of `||` is judged by what is left if the left side is false, right of `&&` by what is left if it
  -- is true. Catches the value itself, and the other side
  abbrev reads : Expr
  reads = element a (at 32) (literal Int 0)

  right_of_or : (w : V) (g h : Exactness) (b : Bool) → Filters ops 0 (nonzero input) false v g w → AccessJudged m ops w 0 inner b h →
      CondInside m ops 0 (either_of (nonzero input) (nonzero reads)) v ((at 32, b) ∷ []) (worse (worse Exact g) (worse h Exact))
  right_of_or w g h b left judged = (
    [],
    (at 32, b) ∷ [],
    w,
    Exact,
    g,
    worse h Exact,
    (refl, refl),
    left,
    (b, [], h, Exact, judged, (refl, refl), refl, refl),
    refl,
    refl,
  )

  right_of_and : (w : V) (g h : Exactness) (b : Bool) → Filters ops 0 (nonzero input) true v g w → AccessJudged m ops w 0 inner b h →
      CondInside m ops 0 (both_of (nonzero input) (nonzero reads)) v ((at 32, b) ∷ []) (worse (worse Exact g) (worse h Exact))
  right_of_and w g h b left judged = (
    [],
    (at 32, b) ∷ [],
    w,
    Exact,
    g,
    worse h Exact,
    (refl, refl),
    left,
    (b, [], h, Exact, judged, (refl, refl), refl, refl),
    refl,
    refl,
  )

-- flags ----------------------------------------------------------------------------------------------------------------

-- the first by number of point, after what is flagged before
abbrev some_findings : List (Finding (List (Place × Bool)))
some_findings = record { point = 2; answer = (at 27, true) ∷ (at 32, false) ∷ []; exactness = Exact } ∷ record
    { point = 4; answer = (at 38, false) ∷ []; exactness = Flagged } ∷ []

first_of_two : first_flagged None some_findings ≡ Some 4
first_of_two = refl

behind_the_iteration : first_flagged (Some 9) some_findings ≡ Some 9
behind_the_iteration = refl
