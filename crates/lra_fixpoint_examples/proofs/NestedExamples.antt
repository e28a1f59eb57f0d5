-- The iteration over boxes on nested loops with a `break` and a `return`:
-- int main(void){ long a=0, b=0; while(a<5){ b=0; while(1){ if(b>=3) break; if(input()) return 0; b=b+1; } a=a+1; } assert(a==5); }
use Rattle.std.proofs.Common.{◌≡◌, ℕ, ◌≤◌, pos, negsuc, List, [], ◌∷◌, ◌++◌, Option, None, Some, false, refl, arith, lit<}
use Rattle.std.proofs.lemmas.Int.{ints}
use Rattle.std.specs.List.{Contains}
use Rattle.lra_fixpoint_examples.specs.Crates.lra_operations.Inlined.{as_declaration, as_given, as_value, as_statement, as_none, as_loop, is_loop, as_assign, as_absent, as_block, as_if, as_break}
use Rattle.lra_fixpoint_examples.specs.Crates.lra_operations.Inlined.{as_end_value, as_assert, loop_node}
use Rattle.lra_fixpoint_examples.specs.Crates.lra_operations.Tree.{broken, continued, returned, Node, empty, point, act, check, seq, choose, catch, leave}
use Rattle.lra_fixpoint_examples.specs.Crates.lra_program.Program.{local, Expr, literal, read, input, binary, Cond, compare, nonzero}
use Rattle.lra_fixpoint_examples.specs.Crates.lra_program.Receivers.{variable_at, nobody, result_receiver}
use Rattle.lra_fixpoint_examples.specs.Crates.lra_program.Step.{append, store_value, truncate_to}
use Rattle.lra_fixpoint_examples.specs.Crates.{lra_base.Operators.plus, lra_base.Operators.below, lra_base.Operators.equal, lra_base.declared.number_types.NumberType.TheVariants.Int}
use Rattle.lra_fixpoint_examples.specs.Crates.{lra_base.declared.number_types.NumberType.TheVariants.Long, lra_domain.Actions.assign, lra_domain.Actions.test, lra_domain.Bounds.greater}
use Rattle.lra_fixpoint_examples.specs.Crates.{lra_domain.Bounds.stable, lra_domain.Bounds.lesser_low, lra_domain.declared.Exactness.TheVariants.Exact, lra_linear_forms.Form.Form}
use Rattle.lra_fixpoint_examples.specs.Crates.{lra_linear_spec.declared.ConKind.TheVariants.Ge, lra_operations.Agree.IsInlinedTree, lra_program.declared.receivers.Receiver.Receiver}
use Rattle.lra_fixpoint_examples.proofs.Crates.lra_program.RunExamples.{long_variable}
use Rattle.lra_fixpoint_examples.specs.Crates.lra_program.Program as program
use Rattle.lra_fixpoint_examples.specs.Crates.lra_base.Operators as operators
use Rattle.lra_box.specs.Bounds.{full_interval, crossed, form, IsValidInterval}
use Rattle.lra_box.specs.{Abstraction.BoxTransfersTo, Abstraction.box_abstraction, Content.BoxContent, Covering.low_within_refl, Covering.high_within_refl, Tables.stepped, Tables.widened_low}
use Rattle.lra_box.specs.{declared.interval.Interval.Interval, declared.interval.Side.TheVariants.Low, declared.interval.Side.TheVariants.High}
use Rattle.lra_box.proofs.ExtremeLemmas.{end_is_extreme}
use Rattle.lra_analysis_spec.specs.Pass.{PassEntry, value, failing, PassResult, goes_on, jumps, LoopRoundFrom, LoopRoundFromHead, AscendingIteration, DescendingIteration, Pass}
use Rattle.lra_analysis_spec.specs.{Analysis.ExactIteration, Analysis.IsUnreachable, Plan.Plan, Plan.standard}
use Rattle.lra_fixpoint_examples.proofs.LoopExamples.{boxes, between, at_least, one, none, narrowed, between_sound, declared, declaring}

-- the box of both variables
abbrev pub two : Interval → Interval → BoxContent
two a b = record { dims = 2; bounds = Some (a ∷ b ∷ []) }

abbrev pub nowhere : BoxContent
nowhere = record { dims = 2; bounds = None }

abbrev a_is : Expr
a_is = read (long_variable (local 0))

abbrev b_is : Expr
b_is = read (long_variable (local 1))

-- the inner loop's body: its point is 4, and the points inside are 5 to 10
abbrev leaving : Node
leaving = seq (point 5) (choose 5 0 (compare operators.at_least b_is (literal Int 3)) (seq (point 6) (seq (act 6 (truncate_to 2)) (leave 2 broken))) empty)

-- nothing uses main's result, which has to be an `int`
abbrev to_main : Receiver
to_main = result_receiver (Some Int) nobody

abbrev returning : Node
returning = seq (point 7) (choose 7 0 (nonzero input) (seq (point 8) (seq (act 8 (store_value 0 to_main (literal Int 0))) (leave 2 returned))) empty)

abbrev counting_b : Node
counting_b = seq (point 9) (act 9 (store_value 0 (variable_at 1 Long) (binary plus b_is (literal Int 1))))

abbrev inner_body : Node
inner_body = seq (seq leaving (seq returning (seq counting_b empty))) (seq (point 10) (act 10 (truncate_to 2)))

abbrev endless : Cond
endless = nonzero (literal Int 1)

-- b is at least 3; b is at most 2; b + 1
abbrev three : Form
three = form (negsuc 2) (pos 0 ∷ pos 1 ∷ [])

abbrev under_three : Form
under_three = form (pos 2) (pos 0 ∷ negsuc 0 ∷ [])

abbrev next_b : Form
next_b = form (pos 1) (pos 0 ∷ pos 1 ∷ [])

-- what a round of the inner loop from v finds: `on` if b is at least 3, `off` if it isn't, z at the body's end
abbrev inner_found : List (PassEntry BoxContent) → BoxContent → BoxContent → BoxContent → PassResult BoxContent
inner_found before on off z = record {
  entries = before ++ value 6 on ∷ value 7 off ∷ value 8 off ∷ value 9 off ∷ value 10 z ∷ [];
  normal = z;
  breaks = on ∷ [];
  continues = [];
  returns = off ∷ [];
  flag = None;
}

abbrev broken_at : BoxContent → PassResult BoxContent
broken_at v = record { entries = value 6 v ∷ []; normal = nowhere; breaks = v ∷ []; continues = []; returns = []; flag = None }

abbrev returned_at : BoxContent → PassResult BoxContent
returned_at v = record { entries = value 8 v ∷ []; normal = nowhere; breaks = []; continues = []; returns = v ∷ []; flag = None }

-- keeping both variables changes nothing
abbrev box_of : Option (List Interval) → BoxContent
box_of o = record { dims = 2; bounds = o }

breaking : (set : Plan) (o : Option (List Interval)) → Pass BoxContent BoxContent boxes set (seq (point 6) (seq (act 6 (truncate_to 2)) (leave 2 broken))) None (box_of o) (broken_at (box_of o))
breaking set o = (
  goes_on (value 6 (box_of o) ∷ []) (box_of o) None,
  jumps broken (box_of o) nowhere None,
  refl,
  (goes_on [] (box_of o) None, jumps broken (box_of o) nowhere None, (box_of o, Exact, (refl, refl), refl), (nowhere, refl, refl), refl),
  refl,
)

module _ (set : Plan) (a x y z : Interval) (o : Option (List Interval))
    (is_three : BoxTransfersTo (test Ge three) (two a x) (box_of o)) (is_under : BoxTransfersTo (test Ge under_three) (two a x) (two a y))
    (is_next : BoxTransfersTo (assign 1 next_b) (two a y) (two a z)) where
  leaves_first : Pass BoxContent BoxContent boxes set leaving None (two a x)
      (record { entries = value 5 (two a x) ∷ value 6 (box_of o) ∷ []; normal = two a y; breaks = box_of o ∷ []; continues = []; returns = []; flag = None })
  leaves_first = (
    goes_on (value 5 (two a x) ∷ []) (two a x) None,
    record { entries = value 6 (box_of o) ∷ []; normal = two a y; breaks = box_of o ∷ []; continues = []; returns = []; flag = None },
    refl,
    (
      box_of o,
      two a y,
      two a y,
      Exact,
      Exact,
      Exact,
      broken_at (box_of o),
      goes_on [] (two a y) None,
      (refl, is_three),
      breaking set o,
      (refl, is_under),
      refl,
      (refl, refl),
      refl,
    ),
    refl,
  )

  -- an input may be anything, so both branches have the whole value
  returns_next : Pass BoxContent BoxContent boxes set returning None (two a y)
      (record { entries = value 7 (two a y) ∷ value 8 (two a y) ∷ []; normal = two a y; breaks = []; continues = []; returns = two a y ∷ []; flag = None })
  returns_next = (
    goes_on (value 7 (two a y) ∷ []) (two a y) None,
    record { entries = value 8 (two a y) ∷ []; normal = two a y; breaks = []; continues = []; returns = two a y ∷ []; flag = None },
    refl,
    (
      two a y,
      two a y,
      two a y,
      Exact,
      Exact,
      Exact,
      returned_at (two a y),
      goes_on [] (two a y) None,
      (refl, refl),
      (
        goes_on (value 8 (two a y) ∷ []) (two a y) None,
        jumps returned (two a y) nowhere None,
        refl,
        (goes_on [] (two a y) None, jumps returned (two a y) nowhere None, (two a y, Exact, (refl, refl), refl), (nowhere, refl, refl), refl),
        refl,
      ),
      (refl, refl),
      refl,
      (refl, refl),
      refl,
    ),
    refl,
  )

  counts_last : Pass BoxContent BoxContent boxes set counting_b None (two a y) (goes_on (value 9 (two a y) ∷ []) (two a z) None)
  counts_last = (
    goes_on (value 9 (two a y) ∷ []) (two a y) None,
    goes_on [] (two a z) None,
    refl,
    (two a z, Exact, (refl, is_next), refl),
    refl,
  )

  inner_pass : Pass BoxContent BoxContent boxes set inner_body None (two a x) (inner_found (value 5 (two a x) ∷ []) (box_of o) (two a y) (two a z))
  inner_pass = (
    record {
      entries = value 5 (two a x) ∷ value 6 (box_of o) ∷ value 7 (two a y) ∷ value 8 (two a y) ∷ value 9 (two a y) ∷ [];
      normal = two a z;
      breaks = box_of o ∷ [];
      continues = [];
      returns = two a y ∷ [];
      flag = None;
    },
    goes_on (value 10 (two a z) ∷ []) (two a z) None,
    (
      record { entries = value 5 (two a x) ∷ value 6 (box_of o) ∷ []; normal = two a y; breaks = box_of o ∷ []; continues = []; returns = []; flag = None },
      record { entries = value 7 (two a y) ∷ value 8 (two a y) ∷ value 9 (two a y) ∷ []; normal = two a z; breaks = []; continues = []; returns = two a y ∷ []; flag = None },
      leaves_first,
      (
        record { entries = value 7 (two a y) ∷ value 8 (two a y) ∷ []; normal = two a y; breaks = []; continues = []; returns = two a y ∷ []; flag = None },
        goes_on (value 9 (two a y) ∷ []) (two a z) None,
        returns_next,
        (goes_on (value 9 (two a y) ∷ []) (two a z) None, goes_on [] (two a z) None, counts_last, refl, refl),
        refl,
      ),
      refl,
    ),
    (goes_on (value 10 (two a z) ∷ []) (two a z) None, goes_on [] (two a z) None, refl, (two a z, Exact, (refl, refl), refl), refl),
    refl,
  )

  -- 1 != 0 holds everywhere: nothing is below it, and all is above it
  inner_turn : LoopRoundFrom BoxContent BoxContent boxes 4 0 endless (Pass BoxContent BoxContent boxes set (seq (catch 4 continued inner_body) empty)) None
      (two a x)
      (inner_found (value 4 (two a x) ∷ value 5 (two a x) ∷ []) (box_of o) (two a y) (two a z))
  inner_turn = (
    two a x,
    Exact,
    inner_found (value 5 (two a x) ∷ []) (box_of o) (two a y) (two a z),
    (nowhere, two a x, Exact, Exact, Exact, (refl, record { table = refl; extremes = tt }), (refl, record { table = refl; extremes = tt }), (refl, refl), refl),
    (
      inner_found (value 5 (two a x) ∷ []) (box_of o) (two a y) (two a z),
      goes_on [] (two a z) None,
      (two a z, Exact, inner_found (value 5 (two a x) ∷ []) (box_of o) (two a y) (two a z), inner_pass, (refl, refl), refl),
      refl,
      refl,
    ),
    refl,
  )

  inner_from : LoopRoundFromHead BoxContent BoxContent boxes 4 0 endless (Pass BoxContent BoxContent boxes set (seq (catch 4 continued inner_body) empty))
      (two a x) None (two a x)
      (inner_found (value 4 (two a x) ∷ value 5 (two a x) ∷ []) (box_of o) (two a y) (two a z))
  inner_from = (Exact, (refl, refl), inner_turn)

abbrev inner_loop : Node
inner_loop = loop_node 4 0 endless inner_body empty

abbrev inner_entries : Interval → List (PassEntry BoxContent)
inner_entries a =
    value 4 (two a (between 0 3)) ∷ value 5 (two a (between 0 3)) ∷ value 6 (two a (between 3 3)) ∷ value 7 (two a (between 0 2)) ∷ value 8 (two a (between 0 2)) ∷ value 9 (two a (between 0 2)) ∷
    value 10 (two a (between 1 3)) ∷ []

-- it is left by `break` alone, with b 3, and returns with b 0..2
abbrev inner_loop_found : Interval → PassResult BoxContent
inner_loop_found a = record { entries = inner_entries a; normal = two a (between 3 3); breaks = []; continues = []; returns = two a (between 0 2) ∷ []; flag = None }

-- the inner loop if b begins with 0: its heads have b 0..0, 0..1 and 0.. , and it is narrowed to 0..3
module _ (set : Plan) (a : Interval) (sound : IsValidInterval a) (order : crossed a ≡ false) (low_joined : lesser_low a.low a.low ≡ a.low) (high_joined : greater a.high a.high ≡ a.high)
    (low_widened : widened_low a.low a.low ≡ a.low) (high_widened : stable a.high a.high ≡ a.high) where
  at_three : (x : Interval) (o : Option (List Interval)) → box_of o ≡ stepped (test Ge three) (two a x) → BoxTransfersTo (test Ge three) (two a x) (box_of o)
  at_three x o is = record { table = is; extremes = tt }

  next_is : (y : Interval) → IsValidInterval y → BoxTransfersTo (assign 1 next_b) (two a y) (stepped (assign 1 next_b) (two a y))
  next_is y fits = record {
    table = refl;
    extremes = (end_is_extreme Low next_b (a ∷ y ∷ []) (sound, (fits, tt)) refl, end_is_extreme High next_b (a ∷ y ∷ []) (sound, (fits, tt)) refl);
  }

  abbrev loop_body : Node
  loop_body = seq (catch 4 continued inner_body) empty

  -- a round from b in x, of which y is under 3 and z comes next
  abbrev found_from : Interval → Option (List Interval) → Interval → Interval → PassResult BoxContent
  found_from x o y z = inner_found (value 4 (two a x) ∷ value 5 (two a x) ∷ []) (box_of o) (two a y) (two a z)

  inner_heads : AscendingIteration BoxContent BoxContent boxes 4 0 endless (Pass BoxContent BoxContent boxes set loop_body) standard 1 None (two a (between 0 0))
      (two a (between 0 1) ∷ two a (at_least 0) ∷ [])
      (two a (at_least 0))
      (found_from (at_least 0) (Some (a ∷ at_least 3 ∷ [])) (between 0 2) (between 1 3))
  inner_heads = (
    two a (between 0 0),
    found_from (between 0 0) None (between 0 0) (between 1 1),
    Exact,
    inner_from set a (between 0 0) (between 0 0) (between 1 1) None (at_three (between 0 0) None (rw order refl)) (record { table = rw order refl; extremes = tt })
        (next_is (between 0 0) (between_sound 0 0 (lit< tt) (lit< tt) refl)),
    (refl, (λ h. omega (arith, ints, h.1.1.0.1)), rw (low_joined, high_joined) refl),
    (
      two a (between 0 1),
      found_from (between 0 1) None (between 0 1) (between 1 2),
      Exact,
      inner_from set a (between 0 1) (between 0 1) (between 1 2) None (at_three (between 0 1) None (rw order refl)) (record { table = rw order refl; extremes = tt })
          (next_is (between 0 1) (between_sound 0 1 (lit< tt) (lit< tt) refl)),
      (refl, (λ h. omega (arith, ints, h.1.1.0.1)), rw (low_joined, high_joined, low_widened, high_widened) refl),
      (
        inner_from set a (at_least 0) (between 0 2) (between 1 3) (Some (a ∷ at_least 3 ∷ [])) (at_three (at_least 0) (Some (a ∷ at_least 3 ∷ [])) (rw order refl))
            (record { table = rw order refl; extremes = tt }) (next_is (between 0 2) (between_sound 0 2 (lit< tt) (lit< tt) refl)),
        (refl, ((low_within_refl a.low, high_within_refl a.high), ((omega (arith, ints), tt), tt))),
      ),
    ),
  )

  inner_narrowing : DescendingIteration BoxContent BoxContent boxes 4 0 endless (Pass BoxContent BoxContent boxes set loop_body) 1 (two a (between 0 0))
      (two a (at_least 0))
      (found_from (at_least 0) (Some (a ∷ at_least 3 ∷ [])) (between 0 2) (between 1 3))
      (two a (between 0 3)) (found_from (between 0 3) (Some (a ∷ between 3 3 ∷ [])) (between 0 2) (between 1 3))
  inner_narrowing = (
    two a (between 0 3),
    found_from (between 0 3) (Some (a ∷ between 3 3 ∷ [])) (between 0 2) (between 1 3),
    Exact,
    (refl, rw (low_joined, high_joined) refl),
    inner_turn set a (between 0 3) (between 0 2) (between 1 3) (Some (a ∷ between 3 3 ∷ [])) (at_three (between 0 3) (Some (a ∷ between 3 3 ∷ [])) (rw order refl))
        (record { table = rw order refl; extremes = tt }) (next_is (between 0 2) (between_sound 0 2 (lit< tt) (lit< tt) refl)),
    (refl, refl),
  )

-- nothing leaves the endless loop by its condition, so what comes after it is what broke out
inner_loop_pass : (a : Interval) → IsValidInterval a → crossed a ≡ false → lesser_low a.low a.low ≡ a.low → greater a.high a.high ≡ a.high → widened_low a.low a.low ≡ a.low →
    stable a.high a.high ≡ a.high
    → Pass BoxContent BoxContent boxes (narrowed 1) inner_loop None (two a (between 0 0)) (inner_loop_found a)
inner_loop_pass a sound order low_joined high_joined low_widened high_widened = (
  two a (between 3 3),
  Exact,
  record { entries = inner_entries a; normal = nowhere; breaks = two a (between 3 3) ∷ []; continues = []; returns = two a (between 0 2) ∷ []; flag = None },
  (
    two a (between 0 0),
    two a (between 0 1) ∷ two a (at_least 0) ∷ [],
    two a (at_least 0),
    two a (between 0 3),
    nowhere,
    inner_found (value 4 (two a (at_least 0)) ∷ value 5 (two a (at_least 0)) ∷ []) (two a (at_least 3)) (two a (between 0 2)) (two a (between 1 3)),
    inner_found (value 4 (two a (between 0 3)) ∷ value 5 (two a (between 0 3)) ∷ []) (two a (between 3 3)) (two a (between 0 2)) (two a (between 1 3)),
    Exact,
    refl,
    inner_heads (narrowed 1) a sound order low_joined high_joined low_widened high_widened,
    inner_narrowing (narrowed 1) a sound order low_joined high_joined low_widened high_widened,
    (refl, record { table = refl; extremes = tt }),
    refl,
  ),
  (two a (between 3 3), Exact, Exact, (refl, refl), (refl, refl), refl),
  refl,
)

-- the outer loop's body: its point is 2, and the points inside are 3 to 12
abbrev outer_body : Node
outer_body = seq (seq (seq (point 3) (act 3 (store_value 0 (variable_at 1 Long) (literal Int 0))))
    (seq inner_loop (seq (seq (point 11) (act 11 (store_value 0 (variable_at 0 Long) (binary plus a_is (literal Int 1))))) empty)))
    (seq (point 12) (act 12 (truncate_to 2)))

abbrev outer_condition : Cond
outer_condition = compare below a_is (literal Int 5)

abbrev outer_loop : Node
outer_loop = loop_node 2 0 outer_condition outer_body empty

-- a is at most 4; 0; a + 1
abbrev under_five : Form
under_five = form (pos 4) (negsuc 0 ∷ pos 0 ∷ [])

abbrev zero_form : Form
zero_form = form (pos 0) (pos 0 ∷ pos 0 ∷ [])

abbrev next_a : Form
next_a = form (pos 1) (pos 1 ∷ pos 0 ∷ [])

-- what a round from a in x and b in z finds, if a in y is under 5, and comes to be in u
abbrev outer_found : List (PassEntry BoxContent) → Interval → Interval → Interval → PassResult BoxContent
outer_found before y z u = record {
  entries = before ++ value 3 (two y z) ∷ (inner_entries y ++ value 11 (two y (between 3 3)) ∷ value 12 (two u (between 3 3)) ∷ []);
  normal = two u (between 3 3);
  breaks = [];
  continues = [];
  returns = two y (between 0 2) ∷ [];
  flag = None;
}

module _ (x y z u : Interval)
    (is_under : BoxTransfersTo (test Ge under_five) (two x z) (two y z)) (is_zero : BoxTransfersTo (assign 1 zero_form) (two y z) (two y (between 0 0)))
    (inner : Pass BoxContent BoxContent boxes (narrowed 1) inner_loop None (two y (between 0 0)) (inner_loop_found y))
    (is_next : BoxTransfersTo (assign 0 next_a) (two y (between 3 3)) (two u (between 3 3))) where
  outer_pass : Pass BoxContent BoxContent boxes (narrowed 1) outer_body None (two y z) (outer_found [] y z u)
  outer_pass = (
    record {
      entries = value 3 (two y z) ∷ (inner_entries y ++ value 11 (two y (between 3 3)) ∷ []);
      normal = two u (between 3 3);
      breaks = [];
      continues = [];
      returns = two y (between 0 2) ∷ [];
      flag = None;
    },
    goes_on (value 12 (two u (between 3 3)) ∷ []) (two u (between 3 3)) None,
    (
      goes_on (value 3 (two y z) ∷ []) (two y (between 0 0)) None,
      record { entries = inner_entries y ++ value 11 (two y (between 3 3)) ∷ []; normal = two u (between 3 3); breaks = []; continues = []; returns = two y (between 0 2) ∷ []; flag = None },
      (
        goes_on (value 3 (two y z) ∷ []) (two y z) None,
        goes_on [] (two y (between 0 0)) None,
        refl,
        (two y (between 0 0), Exact, (refl, is_zero), refl),
        refl,
      ),
      (
        inner_loop_found y,
        goes_on (value 11 (two y (between 3 3)) ∷ []) (two u (between 3 3)) None,
        inner,
        (
          goes_on (value 11 (two y (between 3 3)) ∷ []) (two u (between 3 3)) None,
          goes_on [] (two u (between 3 3)) None,
          (
            goes_on (value 11 (two y (between 3 3)) ∷ []) (two y (between 3 3)) None,
            goes_on [] (two u (between 3 3)) None,
            refl,
            (two u (between 3 3), Exact, (refl, is_next), refl),
            refl,
          ),
          refl,
          refl,
        ),
        refl,
      ),
      refl,
    ),
    (goes_on (value 12 (two u (between 3 3)) ∷ []) (two u (between 3 3)) None, goes_on [] (two u (between 3 3)) None, refl, (two u (between 3 3), Exact, (refl, refl), refl), refl),
    refl,
  )

  outer_turn : LoopRoundFrom BoxContent BoxContent boxes 2 0 outer_condition (Pass BoxContent BoxContent boxes (narrowed 1) (seq (catch 2 continued outer_body) empty)) None (two x z)
      (outer_found (value 2 (two x z) ∷ []) y z u)
  outer_turn = (
    two y z,
    Exact,
    outer_found [] y z u,
    (refl, is_under),
    (
      outer_found [] y z u,
      goes_on [] (two u (between 3 3)) None,
      (two u (between 3 3), Exact, outer_found [] y z u, outer_pass, (refl, refl), refl),
      refl,
      refl,
    ),
    refl,
  )

  outer_from : LoopRoundFromHead BoxContent BoxContent boxes 2 0 outer_condition (Pass BoxContent BoxContent boxes (narrowed 1) (seq (catch 2 continued outer_body) empty)) (two x z) None (two x z)
      (outer_found (value 2 (two x z) ∷ []) y z u)
  outer_from = (Exact, (refl, refl), outer_turn)

zeroed : (y z : Interval) → IsValidInterval y → IsValidInterval z → BoxTransfersTo (assign 1 zero_form) (two y z) (two y (between 0 0))
zeroed y z first second = record {
  table = refl;
  extremes = (
    end_is_extreme Low zero_form (y ∷ z ∷ []) (first, (second, tt)) refl,
    end_is_extreme High zero_form (y ∷ z ∷ []) (first, (second, tt)) refl,
  );
}

next_is_a : (y z : Interval) → IsValidInterval y → IsValidInterval z → BoxTransfersTo (assign 0 next_a) (two y z) (stepped (assign 0 next_a) (two y z))
next_is_a y z first second = record { table = refl; extremes = (end_is_extreme Low next_a (y ∷ z ∷ []) (first, (second, tt)) refl, end_is_extreme High next_a (y ∷ z ∷ []) (first, (second, tt)) refl) }

-- a is 0..0, 0..1, 0..4 in the inner loop
sound_0_0 : IsValidInterval (between 0 0)
sound_0_0 = between_sound 0 0 (lit< tt) (lit< tt) refl

sound_0_1 : IsValidInterval (between 0 1)
sound_0_1 = between_sound 0 1 (lit< tt) (lit< tt) refl

sound_0_3 : IsValidInterval (between 0 3)
sound_0_3 = between_sound 0 3 (lit< tt) (lit< tt) refl

sound_0_4 : IsValidInterval (between 0 4)
sound_0_4 = between_sound 0 4 (lit< tt) (lit< tt) refl

sound_3_3 : IsValidInterval (between 3 3)
sound_3_3 = between_sound 3 3 (lit< tt) (lit< tt) refl

-- the outer heads: a 0..0 and b 0..0; 0..1 and 0..3; 0.. and 0..3
outer_heads : AscendingIteration BoxContent BoxContent boxes 2 0 outer_condition (Pass BoxContent BoxContent boxes (narrowed 1) (seq (catch 2 continued outer_body) empty)) standard 1 None
    (two (between 0 0) (between 0 0)) (two (between 0 1) (between 0 3) ∷ two (at_least 0) (between 0 3) ∷ []) (two (at_least 0) (between 0 3))
    (outer_found (value 2 (two (at_least 0) (between 0 3)) ∷ []) (between 0 4) (between 0 3) (between 1 5))
outer_heads = (
  two (between 0 0) (between 0 0),
  outer_found (value 2 (two (between 0 0) (between 0 0)) ∷ []) (between 0 0) (between 0 0) (between 1 1),
  Exact,
  outer_from (between 0 0) (between 0 0) (between 0 0) (between 1 1) (record { table = refl; extremes = tt }) (zeroed (between 0 0) (between 0 0) sound_0_0 sound_0_0)
      (inner_loop_pass (between 0 0) sound_0_0 refl refl refl refl refl) (next_is_a (between 0 0) (between 3 3) sound_0_0 sound_3_3),
  (refl, (λ h. omega (arith, ints, h.1.0.1)), refl),
  (
    two (between 0 1) (between 0 3),
    outer_found (value 2 (two (between 0 1) (between 0 3)) ∷ []) (between 0 1) (between 0 3) (between 1 2),
    Exact,
    outer_from (between 0 1) (between 0 1) (between 0 3) (between 1 2) (record { table = refl; extremes = tt }) (zeroed (between 0 1) (between 0 3) sound_0_1 sound_0_3)
        (inner_loop_pass (between 0 1) sound_0_1 refl refl refl refl refl) (next_is_a (between 0 1) (between 3 3) sound_0_1 sound_3_3),
    (refl, (λ h. omega (arith, ints, h.1.0.1)), refl),
    (
      outer_from (at_least 0) (between 0 4) (between 0 3) (between 1 5) (record { table = refl; extremes = tt }) (zeroed (between 0 4) (between 0 3) sound_0_4 sound_0_3)
          (inner_loop_pass (between 0 4) sound_0_4 refl refl refl refl refl) (next_is_a (between 0 4) (between 3 3) sound_0_4 sound_3_3),
      (refl, ((omega (arith, ints), tt), ((omega (arith, ints), omega (arith, ints)), tt))),
    ),
  ),
)

outer_narrowing : DescendingIteration BoxContent BoxContent boxes 2 0 outer_condition (Pass BoxContent BoxContent boxes (narrowed 1) (seq (catch 2 continued outer_body) empty)) 1
    (two (between 0 0) (between 0 0))
    (two (at_least 0) (between 0 3))
    (outer_found (value 2 (two (at_least 0) (between 0 3)) ∷ []) (between 0 4) (between 0 3) (between 1 5))
    (two (between 0 5) (between 0 3)) (outer_found (value 2 (two (between 0 5) (between 0 3)) ∷ []) (between 0 4) (between 0 3) (between 1 5))
outer_narrowing = (
  two (between 0 5) (between 0 3),
  outer_found (value 2 (two (between 0 5) (between 0 3)) ∷ []) (between 0 4) (between 0 3) (between 1 5),
  Exact,
  (refl, refl),
  outer_turn (between 0 5) (between 0 4) (between 0 3) (between 1 5) (record { table = refl; extremes = tt }) (zeroed (between 0 4) (between 0 3) sound_0_4 sound_0_3)
      (inner_loop_pass (between 0 4) sound_0_4 refl refl refl refl refl) (next_is_a (between 0 4) (between 3 3) sound_0_4 sound_3_3),
  (refl, refl),
)

-- the outer loop is left with a 5 and b 0..3, and returns with a 0..4 and b 0..2
abbrev outer_entries : List (PassEntry BoxContent)
outer_entries =
    value 2 (two (between 0 5) (between 0 3)) ∷ value 3 (two (between 0 4) (between 0 3)) ∷
    (inner_entries (between 0 4) ++ value 11 (two (between 0 4) (between 3 3)) ∷ value 12 (two (between 1 5) (between 3 3)) ∷ [])

abbrev outer_result : PassResult BoxContent
outer_result = record { entries = outer_entries; normal = two (between 5 5) (between 0 3); breaks = []; continues = []; returns = two (between 0 4) (between 0 2) ∷ []; flag = None }

outer_loop_pass : Pass BoxContent BoxContent boxes (narrowed 1) outer_loop None (two (between 0 0) (between 0 0)) outer_result
outer_loop_pass = (
  two (between 5 5) (between 0 3),
  Exact,
  outer_result,
  (
    two (between 0 0) (between 0 0),
    two (between 0 1) (between 0 3) ∷ two (at_least 0) (between 0 3) ∷ [],
    two (at_least 0) (between 0 3),
    two (between 0 5) (between 0 3),
    two (between 5 5) (between 0 3),
    outer_found (value 2 (two (at_least 0) (between 0 3)) ∷ []) (between 0 4) (between 0 3) (between 1 5),
    outer_found (value 2 (two (between 0 5) (between 0 3)) ∷ []) (between 0 4) (between 0 3) (between 1 5),
    Exact,
    refl,
    outer_heads,
    outer_narrowing,
    (refl, record { table = refl; extremes = tt }),
    refl,
  ),
  (refl, refl),
  refl,
)

-- assert(a == 5): if it is false there is nothing, below 5 and above it
asserted : Pass BoxContent BoxContent boxes (narrowed 1) (seq (point 13) (check 13 0 (compare equal a_is (literal Int 5)))) None
    (two (between 5 5) (between 0 3))
    (goes_on (value 13 (two (between 5 5) (between 0 3)) ∷ failing 13 nowhere ∷ []) (two (between 5 5) (between 0 3)) None)
asserted = (
  goes_on (value 13 (two (between 5 5) (between 0 3)) ∷ []) (two (between 5 5) (between 0 3)) None,
  goes_on (failing 13 nowhere ∷ []) (two (between 5 5) (between 0 3)) None,
  refl,
  (
    nowhere,
    two (between 5 5) (between 0 3),
    Exact,
    Exact,
    (nowhere, nowhere, Exact, Exact, Exact, (refl, record { table = refl; extremes = tt }), (refl, record { table = refl; extremes = tt }), (refl, refl), refl),
    (refl, record { table = refl; extremes = tt }),
    refl,
  ),
  refl,
)

abbrev zero_at : ℕ → program.Declarator
zero_at at = record { label = at; number_type = Long; rvalue = Some (program.value (literal Int 0)) }

abbrev inner_block : program.Stmt
inner_block = program.block (program.statement (program.if 6 (compare operators.at_least b_is (literal Int 3)) (program.break 7) program.absent)
    (program.statement (program.if 8 (nonzero input) (program.return 9 (Some (program.value (literal Int 0)))) program.absent)
    (program.statement (program.assign 10 (long_variable (local 1)) (program.value (binary plus b_is (literal Int 1)))) program.no_more))) 11

abbrev outer_block : program.Stmt
outer_block = program.block (program.statement (program.assign 4 (long_variable (local 1)) (program.value (literal Int 0)))
    (program.statement (program.loop 5 endless inner_block program.absent)
    (program.statement (program.assign 12 (long_variable (local 0)) (program.value (binary plus a_is (literal Int 1)))) program.no_more))) 13

abbrev nested : program.Program
nested = record {
  globals = [];
  arrays = [];
  functions = [];
  main = record {
    result_type = Some Int;
    parameters = [];
    body = program.declaration (zero_at 1) (program.declaration (zero_at 2)
        (program.statement (program.loop 3 outer_condition outer_block program.absent) (program.statement (program.assert 14 (compare equal a_is (literal Int 5))) program.no_more)));
    end = 15;
  };
}

abbrev declared_b : Node
declared_b = seq (point 1) (seq (act 1 (append Long)) (act 1 (store_value 0 (variable_at 1 Long) (literal Int 0))))

abbrev nested_tree : Node
nested_tree = seq (seq declared (seq declared_b (seq outer_loop (seq (seq (point 13) (check 13 0 (compare equal a_is (literal Int 5)))) empty)))) (point 14)

both_live : 2 ≤ 2
both_live = omega arith

-- the tree is that of the program
nested_graph : IsInlinedTree nested nested_tree
nested_graph = record {
  body = _;
  last = 14;
  live = 2;
  inlined = as_declaration refl (as_given as_value)
      (as_declaration refl (as_given as_value)
      (as_statement (as_loop (is_loop refl as_absent
      (as_block
      (as_statement (as_assign refl as_value)
      (as_statement (as_loop (is_loop refl as_absent
      (as_block
      (as_statement (as_if refl (as_break refl both_live refl) as_absent)
      (as_statement (as_if refl (as_end_value refl refl) as_absent)
      (as_statement (as_assign refl as_value) as_none))) refl)))
      (as_statement (as_assign refl as_value) as_none))) refl)))
      (as_statement (as_assert refl) as_none)));
  ends = refl;
  all = refl;
  parts = refl;
}

abbrev end_box : BoxContent
end_box = two (between 5 5) (between 0 3)

abbrev body_entries : List (PassEntry BoxContent)
body_entries = value 0 none ∷ value 1 (one (between 0 0)) ∷ (outer_entries ++ value 13 end_box ∷ failing 13 nowhere ∷ [])

abbrev nested_result : PassResult BoxContent
nested_result = record { entries = body_entries ++ value 14 end_box ∷ []; normal = end_box; breaks = []; continues = []; returns = two (between 0 4) (between 0 2) ∷ []; flag = None }

declaring_b : Pass BoxContent BoxContent boxes (narrowed 1) declared_b None (one (between 0 0)) (goes_on (value 1 (one (between 0 0)) ∷ []) (two (between 0 0) (between 0 0)) None)
declaring_b = (
  goes_on (value 1 (one (between 0 0)) ∷ []) (one (between 0 0)) None,
  goes_on [] (two (between 0 0) (between 0 0)) None,
  refl,
  (
    goes_on [] (two (between 0 0) full_interval) None,
    goes_on [] (two (between 0 0) (between 0 0)) None,
    (two (between 0 0) full_interval, Exact, (refl, record { table = refl; extremes = tt }), refl),
    (two (between 0 0) (between 0 0), Exact, (refl, zeroed (between 0 0) full_interval sound_0_0 ((tt, tt), refl)), refl),
    refl,
  ),
  refl,
)

pub nested_written : ExactIteration box_abstraction (narrowed 1) nested nested_tree nested_result
nested_written = (
  none,
  none,
  Exact,
  refl,
  (refl, refl),
  (
    record { entries = body_entries; normal = end_box; breaks = []; continues = []; returns = two (between 0 4) (between 0 2) ∷ []; flag = None },
    goes_on (value 14 end_box ∷ []) end_box None,
    (
      goes_on (value 0 none ∷ []) (one (between 0 0)) None,
      record {
        entries = value 1 (one (between 0 0)) ∷ (outer_entries ++ value 13 end_box ∷ failing 13 nowhere ∷ []);
        normal = end_box;
        breaks = [];
        continues = [];
        returns = two (between 0 4) (between 0 2) ∷ [];
        flag = None;
      },
      declaring (narrowed 1),
      (
        goes_on (value 1 (one (between 0 0)) ∷ []) (two (between 0 0) (between 0 0)) None,
        record { entries = outer_entries ++ value 13 end_box ∷ failing 13 nowhere ∷ []; normal = end_box; breaks = []; continues = []; returns = two (between 0 4) (between 0 2) ∷ []; flag = None },
        declaring_b,
        (
          outer_result,
          goes_on (value 13 end_box ∷ failing 13 nowhere ∷ []) end_box None,
          outer_loop_pass,
          (goes_on (value 13 end_box ∷ failing 13 nowhere ∷ []) end_box None, goes_on [] end_box None, asserted, refl, refl),
          refl,
        ),
        refl,
      ),
      refl,
    ),
    refl,
    refl,
  ),
)

-- at the `return` a is 0..4 and b 0..2, at the assertion a is 5 and b 0..3, and it is proved
pub at_return : Contains nested_result.entries (value 8 (two (between 0 4) (between 0 2)))
at_return = (8, lit< tt, refl)

pub at_assertion : Contains nested_result.entries (value 13 (two (between 5 5) (between 0 3)))
at_assertion = (13, lit< tt, refl)

pub assertion_proved : Contains nested_result.entries (failing 13 nowhere) × IsUnreachable box_abstraction nowhere
assertion_proved = ((14, lit< tt, refl), refl)
