-- The iteration over boxes on a loop that counts: int main(void){ long i=0; while(i<10) i=i+1; }
use Rattle.std.proofs.Common.{◌≡◌, ℕ, pos, negsuc, List, [], ◌∷◌, None, Some, false, refl, arith, lit<, ◌<◌, ◌^◌}
use Rattle.std.proofs.lemmas.Int.{ints}
use Rattle.lra_fixpoint_examples.specs.Crates.lra_base.declared.number_types.NumberType.TheVariants.{Int, Long}
use Rattle.lra_fixpoint_examples.specs.Crates.lra_operations.Inlined.{as_declaration, as_given, as_value, as_statement, as_none, as_loop, is_loop, as_assign, as_absent, loop_node}
use Rattle.lra_fixpoint_examples.specs.Crates.lra_operations.Tree.{continued, Node, empty, point, act, seq, catch}
use Rattle.lra_fixpoint_examples.specs.Crates.lra_program.Program.{local, Expr, literal, read, binary, Cond, compare, Program, declaration, statement, no_more, loop, absent}
use Rattle.lra_fixpoint_examples.specs.Crates.{lra_base.Operators.plus, lra_base.Operators.below, lra_domain.Actions.assign, lra_domain.Actions.test, lra_domain.declared.Exactness.TheVariants.Exact}
use Rattle.lra_fixpoint_examples.specs.Crates.{lra_linear_forms.Form.Form, lra_linear_spec.declared.ConKind.TheVariants.Ge, lra_operations.Agree.IsInlinedTree, lra_options.OptionRows.default_options}
use Rattle.lra_fixpoint_examples.specs.Crates.{lra_program.Receivers.variable_at, lra_program.Step.append, lra_program.Step.store_value}
use Rattle.lra_fixpoint_examples.proofs.Crates.lra_program.RunExamples.{long_variable}
use Rattle.lra_fixpoint_examples.specs.Crates.lra_program.Program as program
use Rattle.lra_box.specs.{Abstraction.BoxTransfersTo, Abstraction.box_abstraction, Bounds.full_interval, Bounds.crossed, Bounds.form, Bounds.IsValidInterval, Content.BoxContent, Tables.stepped}
use Rattle.lra_box.specs.{declared.interval.Interval.Interval, declared.interval.Side.TheVariants.Low, declared.interval.Side.TheVariants.High}
use Rattle.lra_box.proofs.ExtremeLemmas.{end_is_extreme}
use Rattle.lra_analysis_spec.specs.Pass.{PassEntry, value, PassResult, goes_on, LoopRoundFrom, LoopRoundFromHead, AscendingIteration, DescendingIteration, Pass}
use Rattle.lra_analysis_spec.specs.{Analysis.ExactIteration, GuardThresholds.guard_thresholds, Operations.Operations, Operations.exact_operations, Plan.Plan, Plan.plan_of, Plan.standard}

abbrev pub boxes : Operations BoxContent BoxContent
boxes = exact_operations box_abstraction

abbrev pub between : ℕ → ℕ → Interval
between l h = record { low = Some (pos l); high = Some (pos h) }

abbrev pub at_least : ℕ → Interval
at_least l = record { low = Some (pos l); high = None }

-- the box of one variable
abbrev pub one : Interval → BoxContent
one x = record { dims = 1; bounds = Some (x ∷ []) }

abbrev pub narrowed : ℕ → Plan
narrowed n = record (plan_of default_options []) { narrow = n }

abbrev i : Expr
i = read (long_variable (local 0))

abbrev is_small : Cond
is_small = compare below i (literal Int 10)

abbrev counting : Program
counting = record {
  globals = [];
  arrays = [];
  functions = [];
  main = record {
    result_type = Some Int;
    parameters = [];
    body = declaration (record { label = 1; number_type = Long; rvalue = Some (program.value (literal Int 0)) })
        (statement (loop 2 is_small (program.assign 3 (long_variable (local 0)) (program.value (binary plus i (literal Int 1)))) absent) no_more);
    end = 4;
  };
}

abbrev increase : Node
increase = seq (point 2) (act 2 (store_value 0 (variable_at 0 Long) (binary plus i (literal Int 1))))

abbrev pub declared : Node
declared = seq (point 0) (seq (act 0 (append Long)) (act 0 (store_value 0 (variable_at 0 Long) (literal Int 0))))

abbrev counting_tree : Node
counting_tree = seq (seq declared (seq (loop_node 1 0 is_small increase empty) empty)) (point 3)

-- the tree is that of the program
counting_graph : IsInlinedTree counting counting_tree
counting_graph = record {
  body = _;
  last = 3;
  live = 1;
  inlined = as_declaration refl (as_given as_value)
      (as_statement (as_loop (is_loop refl as_absent (as_assign refl as_value))) as_none);
  ends = refl;
  all = refl;
  parts = refl;
}

-- i < 10 gives the rows 9 - i >= 0 and 10 - i >= 0
given_example : (guard_thresholds 1 0 is_small).rows ≡ (pos 9 ∷ negsuc 0 ∷ []) ∷ (pos 10 ∷ negsuc 0 ∷ []) ∷ []
given_example = refl

-- i + 1
abbrev pub next : Form
next = form (pos 1) (pos 1 ∷ [])

-- the table's result of i = i + 1, its bounds the least and the greatest value
pub increased : (x : Interval) → IsValidInterval x → BoxTransfersTo (assign 0 next) (one x) (stepped (assign 0 next) (one x))
increased x sound = record { table = refl; extremes = (end_is_extreme Low next (x ∷ []) (sound, tt) refl, end_is_extreme High next (x ∷ []) (sound, tt) refl) }

-- of 9 - i >= 0
small : (x : Interval) → BoxTransfersTo (test Ge (form (pos 9) (negsuc 0 ∷ []))) (one x) (stepped (test Ge (form (pos 9) (negsuc 0 ∷ []))) (one x))
small x = record { table = refl; extremes = tt }

-- the loop's body with the catch of `continue`
abbrev body : Node
body = seq (catch 1 continued increase) empty

-- once round the loop, from x by the y that are below 10 to z
abbrev turn : Interval → Interval → Interval → PassResult BoxContent
turn x y z = goes_on (value 1 (one x) ∷ value 2 (one y) ∷ []) (one z) None

round : (set : Plan) (x y z : Interval) → BoxTransfersTo (test Ge (form (pos 9) (negsuc 0 ∷ []))) (one x) (one y) →
    BoxTransfersTo (assign 0 next) (one y) (one z)
    → LoopRoundFrom BoxContent BoxContent boxes 1 0 is_small (Pass BoxContent BoxContent boxes set body) None (one x) (turn x y z)
round set x y z is_tested is_assigned = (
  one y,
  Exact,
  goes_on (value 2 (one y) ∷ []) (one z) None,
  (refl, is_tested),
  (
    goes_on (value 2 (one y) ∷ []) (one z) None,
    goes_on [] (one z) None,
    (
      one z,
      Exact,
      goes_on (value 2 (one y) ∷ []) (one z) None,
      (
        goes_on (value 2 (one y) ∷ []) (one y) None,
        goes_on [] (one z) None,
        refl,
        (one z, Exact, (refl, is_assigned), refl),
        refl,
      ),
      (refl, refl),
      refl,
    ),
    refl,
    refl,
  ),
  refl,
)

-- from a head whose value is x
from_head : (set : Plan) (x y z : Interval) → BoxTransfersTo (test Ge (form (pos 9) (negsuc 0 ∷ []))) (one x) (one y) →
    BoxTransfersTo (assign 0 next) (one y) (one z)
    → LoopRoundFromHead BoxContent BoxContent boxes 1 0 is_small (Pass BoxContent BoxContent boxes set body) (one x) None (one x) (turn x y z)
from_head set x y z is_tested is_assigned = (Exact, (refl, refl), round set x y z is_tested is_assigned)

pub between_sound : (l h : ℕ) → l < 2 ^ 127 → h < 2 ^ 127 → crossed (between l h) ≡ false → IsValidInterval (between l h)
between_sound l h low high order = ((low, high), order)

-- the heads are 0..0, joined to 0..1, widened to 0.. ; there i is below 10 from 0 to 9, and 1..10 lies in the head
heads : (set : Plan) →
    AscendingIteration BoxContent BoxContent boxes 1 0 is_small (Pass BoxContent BoxContent boxes set body) standard 1 None (one (between 0 0)) (one (between 0 1) ∷ one (at_least 0) ∷ [])
    (one (at_least 0)) (turn (at_least 0) (between 0 9) (between 1 10))
heads set = (
  one (between 0 0),
  turn (between 0 0) (between 0 0) (between 1 1),
  Exact,
  from_head set (between 0 0) (between 0 0) (between 1 1) (small (between 0 0)) (increased (between 0 0) (between_sound 0 0 (lit< tt) (lit< tt) refl)),
  (refl, (λ h. omega (arith, ints, h.1.0.1)), refl),
  (
    one (between 0 1),
    turn (between 0 1) (between 0 1) (between 1 2),
    Exact,
    from_head set (between 0 1) (between 0 1) (between 1 2) (small (between 0 1)) (increased (between 0 1) (between_sound 0 1 (lit< tt) (lit< tt) refl)),
    (refl, (λ h. omega (arith, ints, h.1.0.1)), refl),
    (
      from_head set (at_least 0) (between 0 9) (between 1 10) (small (at_least 0)) (increased (between 0 9) (between_sound 0 9 (lit< tt) (lit< tt) refl)),
      (refl, ((omega (arith, ints), tt), tt)),
    ),
  ),
)

-- narrowed once: 0..0 joined with 1..10 is 0..10
narrowing : (set : Plan) →
    DescendingIteration BoxContent BoxContent boxes 1 0 is_small (Pass BoxContent BoxContent boxes set body) 1 (one (between 0 0)) (one (at_least 0))
    (turn (at_least 0) (between 0 9) (between 1 10))
    (one (between 0 10)) (turn (between 0 10) (between 0 9) (between 1 10))
narrowing set = (
  one (between 0 10),
  turn (between 0 10) (between 0 9) (between 1 10),
  Exact,
  (refl, refl),
  round set (between 0 10) (between 0 9) (between 1 10) (small (between 0 10)) (increased (between 0 9) (between_sound 0 9 (lit< tt) (lit< tt) refl)),
  (refl, refl),
)

-- what is found: no variable at the first point; the loop's head; its body; main's end
abbrev entries : Interval → Interval → Interval → List (PassEntry BoxContent)
entries head inside end = value 0 (record { dims = 0; bounds = Some [] }) ∷ value 1 (one head) ∷ value 2 (one inside) ∷ value 3 (one end) ∷ []

abbrev whole : (head inside end : Interval) → PassResult BoxContent
whole head inside end = goes_on (entries head inside end) (one end) None

-- the loop is narrowed to 0..10, and left with 10
loop_once : Pass BoxContent BoxContent boxes (narrowed 1) (loop_node 1 0 is_small increase empty) None (one (between 0 0))
    (goes_on (value 1 (one (between 0 10)) ∷ value 2 (one (between 0 9)) ∷ []) (one (between 10 10)) None)
loop_once = (
  one (between 10 10),
  Exact,
  goes_on (value 1 (one (between 0 10)) ∷ value 2 (one (between 0 9)) ∷ []) (one (between 10 10)) None,
  (
    one (between 0 0),
    one (between 0 1) ∷ one (at_least 0) ∷ [],
    one (at_least 0),
    one (between 0 10),
    one (between 10 10),
    turn (at_least 0) (between 0 9) (between 1 10),
    turn (between 0 10) (between 0 9) (between 1 10),
    Exact,
    refl,
    heads (narrowed 1),
    narrowing (narrowed 1),
    (refl, record { table = refl; extremes = tt }),
    refl,
  ),
  (refl, refl),
  refl,
)

-- without narrowing it stays 0.. , with the pass that ended the growth, and is left with 10..
loop_never : Pass BoxContent BoxContent boxes (narrowed 0) (loop_node 1 0 is_small increase empty) None (one (between 0 0))
    (goes_on (value 1 (one (at_least 0)) ∷ value 2 (one (between 0 9)) ∷ []) (one (at_least 10)) None)
loop_never = (
  one (at_least 10),
  Exact,
  goes_on (value 1 (one (at_least 0)) ∷ value 2 (one (between 0 9)) ∷ []) (one (at_least 10)) None,
  (
    one (between 0 0),
    one (between 0 1) ∷ one (at_least 0) ∷ [],
    one (at_least 0),
    one (at_least 0),
    one (at_least 10),
    turn (at_least 0) (between 0 9) (between 1 10),
    turn (at_least 0) (between 0 9) (between 1 10),
    Exact,
    refl,
    heads (narrowed 0),
    (refl, refl),
    (refl, record { table = refl; extremes = tt }),
    refl,
  ),
  (refl, refl),
  refl,
)

abbrev pub none : BoxContent
none = record { dims = 0; bounds = Some [] }

-- i is new and gets 0
zero_set : BoxTransfersTo (assign 0 (form (pos 0) (pos 0 ∷ []))) (one full_interval) (one (between 0 0))
zero_set = record {
  table = refl;
  extremes = (
    end_is_extreme Low (form (pos 0) (pos 0 ∷ [])) (full_interval ∷ []) (((tt, tt), refl), tt) refl,
    end_is_extreme High (form (pos 0) (pos 0 ∷ [])) (full_interval ∷ []) (((tt, tt), refl), tt) refl,
  );
}

pub declaring : (set : Plan) → Pass BoxContent BoxContent boxes set declared None none (goes_on (value 0 none ∷ []) (one (between 0 0)) None)
declaring set = (
  goes_on (value 0 none ∷ []) none None,
  goes_on [] (one (between 0 0)) None,
  refl,
  (
    goes_on [] (one full_interval) None,
    goes_on [] (one (between 0 0)) None,
    (one full_interval, Exact, (refl, record { table = refl; extremes = tt }), refl),
    (one (between 0 0), Exact, (refl, zero_set), refl),
    refl,
  ),
  refl,
)

-- a program that is the declaration, the loop and main's end
around_loop : (set : Plan) (head inside end : Interval)
    → Pass BoxContent BoxContent boxes set (loop_node 1 0 is_small increase empty) None (one (between 0 0)) (goes_on (value 1 (one head) ∷ value 2 (one inside) ∷ []) (one end) None)
    → ExactIteration box_abstraction set counting counting_tree (whole head inside end)
around_loop set head inside end pass = (
  none,
  none,
  Exact,
  refl,
  (refl, refl),
  (
    goes_on (value 0 none ∷ value 1 (one head) ∷ value 2 (one inside) ∷ []) (one end) None,
    goes_on (value 3 (one end) ∷ []) (one end) None,
    (
      goes_on (value 0 none ∷ []) (one (between 0 0)) None,
      goes_on (value 1 (one head) ∷ value 2 (one inside) ∷ []) (one end) None,
      declaring set,
      (goes_on (value 1 (one head) ∷ value 2 (one inside) ∷ []) (one end) None, goes_on [] (one end) None, pass, refl, refl),
      refl,
    ),
    refl,
    refl,
  ),
)

-- the head is 0..10, the body's point 0..9, the end 10
pub counting_narrowed : ExactIteration box_abstraction (narrowed 1) counting counting_tree (whole (between 0 10) (between 0 9) (between 10 10))
counting_narrowed = around_loop (narrowed 1) (between 0 10) (between 0 9) (between 10 10) loop_once

-- without narrowing the head is 0.. and the end 10..
pub counting_wide : ExactIteration box_abstraction (narrowed 0) counting counting_tree (whole (at_least 0) (between 0 9) (at_least 10))
counting_wide = around_loop (narrowed 0) (at_least 0) (between 0 9) (at_least 10) loop_never
