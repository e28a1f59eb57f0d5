-- What is reported to fit in whole programs, over boxes: by the values at their points, an answer at each point at
-- which something is computed.
use Rattle.std.proofs.Common.{◌≡◌, ◌∙◌, ◌⊎◌, ℕ, ℤ, pos, negsuc, List, [], ◌∷◌, None, Some, Bool, true, false, refl, sym, ap, inl, inr, lit<}
use Rattle.std.proofs.lemmas.Option.{same_Some}
use Rattle.std.specs.{List.list_all, Prelude.◌+ℤ◌, Prelude.◌*ℤ◌, Prelude.slice_get}
use Rattle.lra_fixpoint_examples.specs.Crates.lra_base.Operators.{plus, over, below, above, differs}
use Rattle.lra_fixpoint_examples.specs.Crates.lra_operations.CheckedOperations.{OpAtPoint, computing_ops}
use Rattle.lra_fixpoint_examples.specs.Crates.lra_operations.Inlined.{as_declaration, as_fresh, as_given, as_value, as_statement, as_none, as_loop, is_loop, as_assign, as_if, as_nothing, as_absent}
use Rattle.lra_fixpoint_examples.specs.Crates.lra_operations.Tree.{Node, empty, point, act, seq, choose}
use Rattle.lra_fixpoint_examples.specs.Crates.lra_program.Program.{local, Variable, Expr, literal, read, input, binary, Cond, compare, both_of, Program, declaration, statement, no_more, loop, absent}
use Rattle.lra_fixpoint_examples.specs.Crates.lra_program.Step.{Op, append, store_value}
use Rattle.lra_fixpoint_examples.specs.Crates.{lra_base.NumberTypes.fits, lra_base.declared.number_types.NumberType.TheVariants.Int, lra_domain.Actions.test, lra_domain.Moves.make}
use Rattle.lra_fixpoint_examples.specs.Crates.{lra_domain.Moves.first_then, lra_domain.declared.Exactness.TheVariants.Exact, lra_linear_forms.Form.Form, lra_linear_spec.Range.InRange}
use Rattle.lra_fixpoint_examples.specs.Crates.{lra_linear_spec.declared.ConKind.TheVariants.Ge, lra_operations.Agree.IsInlinedTree, lra_operations.Inlined.loop_node, lra_program.Receivers.variable_at}
use Rattle.lra_fixpoint_examples.proofs.Crates.lra_program.RunExamples.{main_alone}
use Rattle.lra_fixpoint_examples.specs.Crates.lra_program.Program as program
use Rattle.lra_fixpoint_examples.specs.Crates.lra_program.Step as step
use Rattle.lra_box.specs.{Abstraction.box_abstraction, Bounds.full_interval, Bounds.form, Content.BoxContent, Laws.box_laws}
use Rattle.lra_analysis_spec.specs.{Analysis.IsUnreachable, Analysis.ExactIteration, Fits.LiesIn, Fits.ExprJudged, Fits.GivenJudged, Fits.JudgedAtPoint, Fits.Judges, Fits.IsDivisor, Fits.OpFits}
use Rattle.lra_analysis_spec.specs.{Judging.AnswersUnlessUnreachable, Moves.AreMade, MovesOf.above_least, MovesOf.below_greatest, Pass.value, Pass.goes_on, Pass.OpTransfer, Pass.Pass}
use Rattle.lra_fixpoint_examples.proofs.{Judged.judged, LoopExamples.boxes, LoopExamples.one, LoopExamples.none, LoopExamples.narrowed, LoopExamples.next, LoopExamples.increased}

-- one variable x -----------------------------------------------------------------------------------------------------

abbrev x_in : ℤ → ℤ → BoxContent
x_in l h = one (record { low = Some l; high = Some h })

abbrev ints : BoxContent
ints = x_in (negsuc 2147483647) (pos 2147483647)

abbrev variable : Variable
variable = record { slot = local 0; number_type = Int }

abbrev x : Expr
x = read variable

abbrev x_plus_one : Expr
x_plus_one = binary plus x (literal Int 1)

abbrev gets_one_more : Op
gets_one_more = store_value 0 (variable_at 0 Int) x_plus_one

some_value : (l h : ℤ) → IsUnreachable box_abstraction (x_in l h) → ⊥
some_value l h e = cc

-- an answer, if a run comes
fits_so : (v : BoxContent) (so : Type 0) → so → AnswersUnlessUnreachable box_abstraction v true so
fits_so v so is = (λ h. inr is, λ h. refl)

fits_not : (l h : ℤ) (so : Type 0) → (so → ⊥) → AnswersUnlessUnreachable box_abstraction (x_in l h) false so
fits_not l h so never = (λ k. cc, λ k. elim k [ inl nothing ↦ absurd (some_value l h nothing) | inr is ↦ absurd (never is) ])

-- if none comes everything fits, also what has no form
fits_nowhere : AnswersUnlessUnreachable box_abstraction (record { dims = 1; bounds = None }) true
    (LiesIn box_abstraction (record { dims = 1; bounds = None }) Int None)
fits_nowhere = (λ h. inl refl, λ h. refl)

passes_not : {P Q : Type 0} → P → Q → ((¬ P) ⊎ ((¬ Q) ⊎ ⊥)) → ⊥
passes_not product sum h = elim h [ inl a ↦ a product | inr b ↦ elim b [ inl c ↦ c sum | inr d ↦ d ] ]

-- what is reported about x + 1
one_more : (l h : ℤ) → InRange (pos 1 *ℤ l) → InRange (pos 1 +ℤ (pos 1 *ℤ l)) → InRange (pos 1 *ℤ h) → InRange (pos 1 +ℤ (pos 1 *ℤ h))
    → box_abstraction.bounded (x_in l h) next (Some (pos 1 +ℤ (pos 1 *ℤ l))) (Some (pos 1 +ℤ (pos 1 *ℤ h)))
one_more l h low low_sum high high_sum = (inl (passes_not low low_sum, refl), inl (passes_not high high_sum, refl))

lies_not : (v : BoxContent) (f : Form) (l h : ℤ) → box_abstraction.well_formed v → box_abstraction.bounded v f (Some l) (Some h) → fits Int h ≡ false
    → LiesIn box_abstraction v Int (Some f) → ⊥
lies_not v f l h formed bounded never (low, high, also, low_fits, high_fits) =
    let same = box_laws.one_bounded v f (Some low) (Some high) (Some l) (Some h) formed also bounded in
    let wrong : true ≡ false = sym high_fits ∙ ap (fits Int) (same_Some high h same.1) ∙ never in
    cc

sum_fits : (l h : ℤ) → InRange (pos 1 *ℤ l) → InRange (pos 1 +ℤ (pos 1 *ℤ l)) → InRange (pos 1 *ℤ h) → InRange (pos 1 +ℤ (pos 1 *ℤ h))
    → fits Int (pos 1 +ℤ (pos 1 *ℤ l)) ≡ true → fits Int (pos 1 +ℤ (pos 1 *ℤ h)) ≡ true
    → AnswersUnlessUnreachable box_abstraction (x_in l h) true (LiesIn box_abstraction (x_in l h) Int (Some next))
sum_fits l h low low_sum high high_sum is also =
    fits_so (x_in l h) (LiesIn box_abstraction (x_in l h) Int (Some next))
    (pos 1 +ℤ (pos 1 *ℤ l), pos 1 +ℤ (pos 1 *ℤ h), one_more l h low low_sum high high_sum, is, also)

-- the one answer on x + 1, and on `x = x + 1`, which converts nothing
x_sum : (l h : ℤ) (b : Bool) → AnswersUnlessUnreachable box_abstraction (x_in l h) b (LiesIn box_abstraction (x_in l h) Int (Some next))
    → ExprJudged box_abstraction (x_in l h) 0 x_plus_one (b ∷ [])
x_sum l h b answer = ([], [], b, refl, refl, answer, refl)

x_given : (l h : ℤ) (b : Bool) → AnswersUnlessUnreachable box_abstraction (x_in l h) b (LiesIn box_abstraction (x_in l h) Int (Some next))
    → GivenJudged box_abstraction (x_in l h) 0 (variable_at 0 Int) x_plus_one (b ∷ [])
x_given l h b answer = (b ∷ [], [], x_sum l h b answer, refl, refl)

-- of any `int` it doesn't fit
greatest_overflows : AnswersUnlessUnreachable box_abstraction ints false (LiesIn box_abstraction ints Int (Some next))
greatest_overflows = fits_not (negsuc 2147483647) (pos 2147483647) (LiesIn box_abstraction ints Int (Some next))
    (lies_not ints next (negsuc 2147483646) (pos 2147483648) (refl, (((lit< tt, lit< tt), refl), tt))
    (one_more (negsuc 2147483647) (pos 2147483647) (lit< tt) (lit< tt) (lit< tt) (lit< tt)) refl)

abbrev asked_sum : ℕ → OpAtPoint
asked_sum q = record { point = q; fresh = None; op = gets_one_more }

sum_judged : (values : List BoxContent) (q : ℕ) (l h : ℤ) (b : Bool) → slice_get values q ≡ Some (x_in l h)
    → AnswersUnlessUnreachable box_abstraction (x_in l h) b (LiesIn box_abstraction (x_in l h) Int (Some next)) → (b ≡ list_all (λ a. a) (b ∷ []))
    → JudgedAtPoint box_abstraction boxes values (asked_sum q) b Exact
sum_judged values q l h b there answer alone =
    (x_in l h, x_in l h, Exact, Exact, there, (refl, refl), (b ∷ [], (x_given l h b answer, refl), alone), refl)

-- a new variable, and one that gets any number, is an `int` after the tests of its type
is_int : AreMade boxes (first_then (make (test Ge (above_least Int 1 0))) (make (test Ge (below_greatest Int 1 0)))) (one full_interval) Exact ints
is_int = (
  one (record { low = Some (negsuc 2147483647); high = None }),
  Exact,
  Exact,
  (refl, record { table = refl; extremes = tt }),
  (refl, record { table = refl; extremes = tt }),
  refl,
)

declared : OpTransfer boxes (append Int) none Exact ints
declared = (one full_interval, Exact, Exact, (refl, record { table = refl; extremes = tt }), is_int, refl)

-- int main(void){ int x=input(); x=x+1; } ------------------------------------------------------------------------------

abbrev gets_input : Op
gets_input = store_value 0 (variable_at 0 Int) input

abbrev reading : Program
reading = main_alone (declaration (record { label = 1; number_type = Int; rvalue = Some (program.value input) })
    (statement (program.assign 2 variable (program.value x_plus_one)) no_more)) 3

abbrev reads : Node
reads = seq (point 0) (seq (act 0 (append Int)) (act 0 gets_input))

abbrev increases : Node
increases = seq (point 1) (act 1 gets_one_more)

abbrev reading_tree : Node
reading_tree = seq (seq reads (seq increases empty)) (point 2)

-- the tree is that of the program
reading_graph : IsInlinedTree reading reading_tree
reading_graph = record {
  body = _;
  last = 2;
  live = 1;
  inlined = as_declaration refl (as_given as_value) (as_statement (as_assign refl as_value) as_none);
  ends = refl;
  all = refl;
  parts = refl;
}

-- after x = x + 1
abbrev more : BoxContent
more = x_in (negsuc 2147483646) (pos 2147483647)

-- the values at its points: what x + 1 has beyond an `int` is cut off by the test after it
reads_pass : Pass BoxContent BoxContent boxes (narrowed 1) reads None none (goes_on (value 0 none ∷ []) ints None)
reads_pass = (
  goes_on (value 0 none ∷ []) none None,
  goes_on [] ints None,
  refl,
  (
    goes_on [] ints None,
    goes_on [] ints None,
    (ints, Exact, declared, refl),
    (ints, Exact, (one full_interval, Exact, Exact, (refl, record { table = refl; extremes = tt }), is_int, refl), refl),
    refl,
  ),
  refl,
)

increases_pass : Pass BoxContent BoxContent boxes (narrowed 1) increases None ints (goes_on (value 1 ints ∷ []) more None)
increases_pass = (
  goes_on (value 1 ints ∷ []) ints None,
  goes_on [] more None,
  refl,
  (
    more,
    Exact,
    (
      x_in (negsuc 2147483646) (pos 2147483648),
      Exact,
      Exact,
      (refl, increased (record { low = Some (negsuc 2147483647); high = Some (pos 2147483647) }) ((lit< tt, lit< tt), refl)),
      (
        x_in (negsuc 2147483646) (pos 2147483648),
        Exact,
        Exact,
        (refl, record { table = refl; extremes = tt }),
        (refl, record { table = refl; extremes = tt }),
        refl,
      ),
      refl,
    ),
    refl,
  ),
  refl,
)

reading_written : ExactIteration box_abstraction (narrowed 1) reading reading_tree (goes_on (value 0 none ∷ value 1 ints ∷ value 2 more ∷ []) more None)
reading_written = (
  none,
  none,
  Exact,
  refl,
  (refl, refl),
  (
    goes_on (value 0 none ∷ value 1 ints ∷ []) more None,
    goes_on (value 2 more ∷ []) more None,
    (
      goes_on (value 0 none ∷ []) ints None,
      goes_on (value 1 ints ∷ []) more None,
      reads_pass,
      (goes_on (value 1 ints ∷ []) more None, goes_on [] more None, increases_pass, refl, refl),
      refl,
    ),
    refl,
    refl,
  ),
)

abbrev reading_values : List BoxContent
reading_values = none ∷ ints ∷ more ∷ []

abbrev asked_input : OpAtPoint
asked_input = record { point = 0; fresh = Some Int; op = gets_input }

-- a number of 64 bits, which has no form, is converted after the new variable
input_judged : JudgedAtPoint box_abstraction boxes reading_values asked_input false Exact
input_judged = (
  none,
  ints,
  Exact,
  Exact,
  refl,
  declared,
  (
    false ∷ [],
    (([], false ∷ [], refl, (false, fits_not (negsuc 2147483647) (pos 2147483647) ⊥ (λ h. h), refl), refl), refl),
    refl,
  ),
  refl,
)

-- neither fits: catches a conversion that isn't asked, and a sum whose values are those that the test after it leaves
reading_fits : Judges box_abstraction boxes reading_tree reading_values None ((0, false) ∷ (1, false) ∷ []) None
reading_fits = judged (OpFits box_abstraction boxes) (computing_ops None reading_tree) reading_values ((asked_input, false) ∷ (asked_sum 1, false) ∷ []) refl
    (input_judged, (sum_judged reading_values 1 (negsuc 2147483647) (pos 2147483647) false refl greatest_overflows refl, tt))
    ((lit< tt, tt), (tt, tt))

-- int main(void){ int x; if(x<2147483647 && x+1>0) x=x+1; if(x!=0 && 100/x>1) ; } -----------------------------------------

abbrev is_less : Cond
is_less = both_of (compare below x (literal Int 2147483647)) (compare above x_plus_one (literal Int 0))

abbrev divides : Cond
divides = both_of (compare differs x (literal Int 0)) (compare above (binary over (literal Int 100) x) (literal Int 1))

abbrev testing : Program
testing = main_alone (declaration (record { label = 1; number_type = Int; rvalue = None })
    (statement (program.if 2 is_less (program.assign 3 variable (program.value x_plus_one)) absent)
    (statement (program.if 4 divides (program.nothing 5) absent) no_more))) 6

abbrev testing_tree : Node
testing_tree = seq (seq (seq (point 0) (act 0 (append Int)))
    (seq (seq (point 1) (choose 1 0 is_less (seq (point 2) (act 2 gets_one_more)) empty))
    (seq (seq (point 3) (choose 3 0 divides (point 4) empty)) empty))) (point 5)

testing_graph : IsInlinedTree testing testing_tree
testing_graph = record {
  body = _;
  last = 5;
  live = 1;
  inlined = as_declaration refl as_fresh (as_statement (as_if refl (as_assign refl as_value) as_absent)
      (as_statement (as_if refl (as_nothing refl) as_absent) as_none));
  ends = refl;
  all = refl;
  parts = refl;
}

-- at its points x is 0..2147483646 after both sides of the first condition, and any `int` at the others
abbrev testing_values : List BoxContent
testing_values = none ∷ ints ∷ x_in (pos 0) (pos 2147483646) ∷ ints ∷ ints ∷ ints ∷ []

-- x + 1 is asked of what x < 2147483647 leaves: catches a right side that is asked of the point's value
less_judged : JudgedAtPoint box_abstraction boxes testing_values (record { point = 1; fresh = None; op = step.test 0 is_less true }) true Exact
less_judged = (
  ints,
  ints,
  Exact,
  Exact,
  refl,
  (refl, refl),
  (
    true ∷ [],
    (
      [],
      true ∷ [],
      x_in (negsuc 2147483647) (pos 2147483646),
      Exact,
      Exact,
      Exact,
      ([], [], refl, refl, refl, refl),
      (refl, record { table = refl; extremes = tt }),
      (
        true ∷ [],
        [],
        x_sum (negsuc 2147483647) (pos 2147483646) true
            (sum_fits (negsuc 2147483647) (pos 2147483646) (lit< tt) (lit< tt) (lit< tt) (lit< tt) refl refl),
        refl,
        refl,
        refl,
      ),
      refl,
      refl,
    ),
    refl,
  ),
  refl,
)

-- x != 0 leaves no constant to divide by: a box doesn't say that 0 isn't in it
divides_judged : JudgedAtPoint box_abstraction boxes testing_values (record { point = 3; fresh = None; op = step.test 0 divides true }) false Exact
divides_judged = (
  ints,
  ints,
  Exact,
  Exact,
  refl,
  (refl, refl),
  (
    false ∷ [],
    (
      [],
      false ∷ [],
      ints,
      Exact,
      Exact,
      Exact,
      ([], [], refl, refl, refl, refl),
      (
        x_in (negsuc 2147483647) (negsuc 0),
        x_in (pos 1) (pos 2147483647),
        Exact,
        Exact,
        Exact,
        (refl, record { table = refl; extremes = tt }),
        (refl, record { table = refl; extremes = tt }),
        (refl, refl),
        refl,
      ),
      (
        false ∷ [],
        [],
        (
          [],
          [],
          false,
          refl,
          refl,
          fits_not (negsuc 2147483647) (pos 2147483647) (IsDivisor (Some (form (pos 0) (pos 1 ∷ []))))
              (λ h. let wrong : false ≡ true = h.0 in cc),
          refl,
        ),
        refl,
        refl,
        refl,
      ),
      refl,
      refl,
    ),
    refl,
  ),
  refl,
)

testing_fits : Judges box_abstraction boxes testing_tree testing_values None ((1, true) ∷ (2, true) ∷ (3, false) ∷ []) None
testing_fits = judged (OpFits box_abstraction boxes) (computing_ops None testing_tree) testing_values
    ((record { point = 1; fresh = None; op = step.test 0 is_less true }, true) ∷ (asked_sum 2, true)
    ∷ (record { point = 3; fresh = None; op = step.test 0 divides true }, false) ∷ [])
    refl (
      less_judged,
      (
        sum_judged testing_values 2 (pos 0) (pos 2147483646) true refl
            (sum_fits (pos 0) (pos 2147483646) (lit< tt) (lit< tt) (lit< tt) (lit< tt) refl refl) refl,
        (divides_judged, tt),
      ),
    )
    ((lit< tt, (lit< tt, tt)), ((lit< tt, tt), (tt, tt)))

-- int main(void){ int x=0; while(x<10) x=x+1; } --------------------------------------------------------------------------

abbrev is_small : Cond
is_small = compare below x (literal Int 10)

abbrev counting : Program
counting = main_alone (declaration (record { label = 1; number_type = Int; rvalue = Some (program.value (literal Int 0)) })
    (statement (loop 2 is_small (program.assign 3 variable (program.value x_plus_one)) absent) no_more)) 4

abbrev counting_tree : Node
counting_tree = seq (seq (seq (point 0) (seq (act 0 (append Int)) (act 0 (store_value 0 (variable_at 0 Int) (literal Int 0)))))
    (seq (loop_node 1 0 is_small (seq (point 2) (act 2 gets_one_more)) empty) empty)) (point 3)

counting_graph : IsInlinedTree counting counting_tree
counting_graph = record {
  body = _;
  last = 3;
  live = 1;
  inlined = as_declaration refl (as_given as_value)
      (as_statement (as_loop (is_loop refl as_absent (as_assign refl as_value))) as_none);
  ends = refl;
  all = refl;
  parts = refl;
}

abbrev counting_values : List BoxContent
counting_values = none ∷ x_in (pos 0) (pos 10) ∷ x_in (pos 0) (pos 9) ∷ x_in (pos 10) (pos 10) ∷ []

-- one answer alone: nothing is computed by the condition, nor by what an `int` gets of an `int`
counting_fits : Judges box_abstraction boxes counting_tree counting_values None ((2, true) ∷ []) None
counting_fits = judged (OpFits box_abstraction boxes) (computing_ops None counting_tree) counting_values ((asked_sum 2, true) ∷ []) refl
    (sum_judged counting_values 2 (pos 0) (pos 9) true refl (sum_fits (pos 0) (pos 9) (lit< tt) (lit< tt) (lit< tt) (lit< tt) refl refl) refl, tt)
    (tt, tt)
