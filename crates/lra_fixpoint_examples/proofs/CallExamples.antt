-- The iteration over boxes on a call whose `return` cuts the callee's parameter, after which the callee goes on:
-- long f(long x){ if(input()) return 1; x=2; return x; } int main(void){ long r=f(0); }
use Rattle.std.proofs.Common.{◌≡◌, ℕ, pos, List, [], ◌∷◌, ◌++◌, length, None, Some, refl, arith, lit<}
use Rattle.lra_fixpoint_examples.specs.Crates.lra_operations.Agree.{IsInlinedTree}
use Rattle.lra_fixpoint_examples.specs.Crates.lra_operations.Inlined.{as_declaration, as_given, as_result, is_call, as_statement, as_none, as_if, as_absent, as_assign, as_value, as_return_value}
use Rattle.lra_fixpoint_examples.specs.Crates.lra_operations.Inlined.{call_node, return_node}
use Rattle.lra_fixpoint_examples.specs.Crates.lra_operations.Tree.{returned, Node, empty, point, act, seq, choose}
use Rattle.lra_fixpoint_examples.specs.Crates.lra_program.Program.{local, literal, read, input, nonzero, Call, Function, Program, declaration, statement, no_more, absent}
use Rattle.lra_fixpoint_examples.specs.Crates.lra_program.Step.{Op, append, store_value, havoc, truncate_to}
use Rattle.lra_fixpoint_examples.specs.Crates.{lra_base.declared.number_types.NumberType.TheVariants.Int, lra_base.declared.number_types.NumberType.TheVariants.Long, lra_domain.Actions.assign}
use Rattle.lra_fixpoint_examples.specs.Crates.{lra_domain.declared.Exactness.TheVariants.Exact, lra_linear_forms.Form.Form, lra_program.Receivers.variable_at, lra_program.Value.Argument}
use Rattle.lra_fixpoint_examples.proofs.Crates.lra_program.RunExamples.{long_variable}
use Rattle.lra_fixpoint_examples.specs.Crates.lra_program.Program as program
use Rattle.lra_box.specs.{Abstraction.BoxTransfersTo, Abstraction.box_abstraction, Bounds.full_interval, Bounds.form, Bounds.IsValidInterval, Content.BoxContent, Tables.stepped}
use Rattle.lra_box.specs.{declared.interval.Interval.Interval, declared.interval.Side.TheVariants.Low, declared.interval.Side.TheVariants.High}
use Rattle.lra_box.proofs.ExtremeLemmas.{end_is_extreme}
use Rattle.lra_analysis_spec.specs.{Analysis.ExactIteration, Pass.PassEntry, Pass.value, Pass.PassResult, Pass.goes_on, Pass.jumps, Pass.Pass}
use Rattle.lra_fixpoint_examples.proofs.LoopExamples.{boxes, between, one, none, narrowed, between_sound}
use Rattle.lra_fixpoint_examples.proofs.NestedExamples.{two, nowhere}

abbrev called : Call
called = record { label = 6; function = 0; arguments = literal Int 0 ∷ [] }

abbrev f_alone : Function
f_alone = record {
  result_type = Some Long;
  parameters = Long ∷ [];
  body = statement (program.if 1 (nonzero input) (program.return 2 (Some (program.value (literal Int 1)))) absent)
      (statement (program.assign 3 (long_variable (local 0)) (program.value (literal Int 2)))
      (statement (program.return 4 (Some (program.value (read (long_variable (local 0)))))) no_more));
  end = 5;
}

abbrev calling : Program
calling = record {
  globals = [];
  arrays = [];
  functions = f_alone ∷ [];
  main = record {
    result_type = Some Int;
    parameters = [];
    body = declaration (record { label = 6; number_type = Long; rvalue = Some (program.result called) })
        no_more;
    end = 7;
  };
}

-- both variables live where f returns, and r alone after the call
abbrev returns_one : Node
returns_one = seq (point 2) (return_node 2 (store_value 1 (variable_at 0 Long) (literal Int 1)) 1 2)

abbrev may_return : Node
may_return = seq (point 1) (choose 1 1 (nonzero input) returns_one empty)

abbrev sets_two : Node
sets_two = seq (point 3) (act 3 (store_value 1 (variable_at 1 Long) (literal Int 2)))

abbrev returns_x : Node
returns_x = seq (point 4) (return_node 4 (store_value 1 (variable_at 0 Long) (read (long_variable (local 0)))) 1 2)

abbrev inside : Node
inside = seq may_return (seq sets_two (seq returns_x empty))

abbrev zero_given : Argument
zero_given = record { number_type = Long; value = literal Int 0 }

abbrev whole_call : Node
whole_call = call_node 0 5 0 1 (variable_at 0 Long) (zero_given ∷ []) 1 inside

abbrev calling_tree : Node
calling_tree = seq (seq (seq (point 0) (seq (act 0 (append Long)) whole_call)) empty) (point 6)

-- the tree is that of the program
calling_graph : IsInlinedTree calling calling_tree
calling_graph = record {
  body = _;
  last = 6;
  live = 1;
  inlined = as_declaration refl
      (as_given (as_result (is_call {fn = f_alone} refl refl
      (as_statement (as_if refl (as_return_value refl (omega arith) refl) as_absent)
      (as_statement (as_assign refl as_value)
      (as_statement (as_return_value refl (omega arith) refl) as_none))) refl)))
      as_none;
  ends = refl;
  all = refl;
  parts = refl;
}

-- a form over r and x; what r gets by it, what x gets
gets_r : (r x : Interval) (e : Form) → IsValidInterval r → IsValidInterval x → length e.coefficients ≡ 2 →
    BoxTransfersTo (assign 0 e) (two r x) (stepped (assign 0 e) (two r x))
gets_r r x e first second is = record { table = refl; extremes = (end_is_extreme Low e (r ∷ x ∷ []) (first, (second, tt)) is, end_is_extreme High e (r ∷ x ∷ []) (first, (second, tt)) is) }

gets_x : (r x : Interval) (e : Form) → IsValidInterval r → IsValidInterval x → length e.coefficients ≡ 2 →
    BoxTransfersTo (assign 1 e) (two r x) (stepped (assign 1 e) (two r x))
gets_x r x e first second is = record { table = refl; extremes = (end_is_extreme Low e (r ∷ x ∷ []) (first, (second, tt)) is, end_is_extreme High e (r ∷ x ∷ []) (first, (second, tt)) is) }

open_sound : IsValidInterval full_interval
open_sound = ((tt, tt), refl)

zero_sound : IsValidInterval (between 0 0)
zero_sound = between_sound 0 0 (lit< tt) (lit< tt) refl

two_sound : IsValidInterval (between 2 2)
two_sound = between_sound 2 2 (lit< tt) (lit< tt) refl

abbrev constant : ℕ → Form
constant k = form (pos k) (pos 0 ∷ pos 0 ∷ [])

-- r may be anything, and x is 0, or 2
abbrev at_first : BoxContent
at_first = two full_interval (between 0 0)

abbrev at_last : BoxContent
at_last = two full_interval (between 2 2)

-- a return where r and x live: x is cut from the value that returns, and the value after has both and no store
abbrev returned_with : ℕ → BoxContent → Interval → PassResult BoxContent
returned_with q v r = record { entries = value q v ∷ []; normal = nowhere; breaks = []; continues = []; returns = one r ∷ []; flag = None }

returning : (q : ℕ) (op : Op) (r x s : Interval) → Pass BoxContent BoxContent boxes (narrowed 1) (act q op) None (two r x) (goes_on [] (two s x) None)
    → Pass BoxContent BoxContent boxes (narrowed 1) (seq (point q) (return_node q op 1 2)) None (two r x) (returned_with q (two r x) s)
returning q op r x s given = (
  goes_on (value q (two r x) ∷ []) (two r x) None,
  jumps returned (one s) nowhere None,
  refl,
  (
    goes_on [] (two s x) None,
    jumps returned (one s) nowhere None,
    given,
    (
      goes_on [] (one s) None,
      jumps returned (one s) nowhere None,
      (one s, Exact, (refl, record { table = refl; extremes = tt }), refl),
      (nowhere, refl, refl),
      refl,
    ),
    refl,
  ),
  refl,
)

gives_one : Pass BoxContent BoxContent boxes (narrowed 1) (act 2 (store_value 1 (variable_at 0 Long) (literal Int 1))) None at_first
    (goes_on [] (two (between 1 1) (between 0 0)) None)
gives_one = (
  two (between 1 1) (between 0 0),
  Exact,
  (refl, gets_r full_interval (between 0 0) (constant 1) open_sound zero_sound refl),
  refl,
)

gives_x : Pass BoxContent BoxContent boxes (narrowed 1) (act 4 (store_value 1 (variable_at 0 Long) (read (long_variable (local 0))))) None at_last
    (goes_on [] (two (between 2 2) (between 2 2)) None)
gives_x = (
  two (between 2 2) (between 2 2),
  Exact,
  (refl, gets_r full_interval (between 2 2) (form (pos 0) (pos 0 ∷ pos 1 ∷ [])) open_sound two_sound refl),
  refl,
)

-- after the `if` both variables live, as before it
may_return_pass : Pass BoxContent BoxContent boxes (narrowed 1) may_return None at_first
    (record { entries = value 1 at_first ∷ value 2 at_first ∷ []; normal = at_first; breaks = []; continues = []; returns = one (between 1 1) ∷ []; flag = None })
may_return_pass = (
  goes_on (value 1 at_first ∷ []) at_first None,
  record { entries = value 2 at_first ∷ []; normal = at_first; breaks = []; continues = []; returns = one (between 1 1) ∷ []; flag = None },
  refl,
  (
    at_first,
    at_first,
    at_first,
    Exact,
    Exact,
    Exact,
    returned_with 2 at_first (between 1 1),
    goes_on [] at_first None,
    (refl, refl),
    returning 2 (store_value 1 (variable_at 0 Long) (literal Int 1)) full_interval (between 0 0) (between 1 1) gives_one,
    (refl, refl),
    refl,
    (refl, refl),
    refl,
  ),
  refl,
)

sets_two_pass : Pass BoxContent BoxContent boxes (narrowed 1) sets_two None at_first (goes_on (value 3 at_first ∷ []) at_last None)
sets_two_pass = (
  goes_on (value 3 at_first ∷ []) at_first None,
  goes_on [] at_last None,
  refl,
  (at_last, Exact, (refl, gets_x full_interval (between 0 0) (constant 2) open_sound zero_sound refl), refl),
  refl,
)

-- f returns with 1 or with 2, and doesn't reach its end
inside_pass : Pass BoxContent BoxContent boxes (narrowed 1) inside None at_first (record {
  entries = value 1 at_first ∷ value 2 at_first ∷ value 3 at_first ∷ value 4 at_last ∷ [];
  normal = nowhere;
  breaks = [];
  continues = [];
  returns = one (between 1 1) ∷ one (between 2 2) ∷ [];
  flag = None;
})
inside_pass = (
  record { entries = value 1 at_first ∷ value 2 at_first ∷ []; normal = at_first; breaks = []; continues = []; returns = one (between 1 1) ∷ []; flag = None },
  record { entries = value 3 at_first ∷ value 4 at_last ∷ []; normal = nowhere; breaks = []; continues = []; returns = one (between 2 2) ∷ []; flag = None },
  may_return_pass,
  (
    goes_on (value 3 at_first ∷ []) at_last None,
    returned_with 4 at_last (between 2 2),
    sets_two_pass,
    (
      returned_with 4 at_last (between 2 2),
      goes_on [] nowhere None,
      returning 4 (store_value 1 (variable_at 0 Long) (read (long_variable (local 0)))) full_interval (between 2 2) (between 2 2) gives_x,
      refl,
      refl,
    ),
    refl,
  ),
  refl,
)

abbrev nowhere_alone : BoxContent
nowhere_alone = record { dims = 1; bounds = None }

-- at the end of f both variables live, though no run comes there
f_ends : Pass BoxContent BoxContent boxes (narrowed 1) (seq (point 5) (seq (act 5 (truncate_to 2)) (seq (act 5 (havoc (variable_at 0 Long))) (act 5 (truncate_to 1))))) None nowhere
    (goes_on (value 5 nowhere ∷ []) nowhere_alone None)
f_ends = (
  goes_on (value 5 nowhere ∷ []) nowhere None,
  goes_on [] nowhere_alone None,
  refl,
  (
    goes_on [] nowhere None,
    goes_on [] nowhere_alone None,
    (nowhere, Exact, (refl, refl), refl),
    (
      goes_on [] nowhere None,
      goes_on [] nowhere_alone None,
      (nowhere, Exact, (refl, record { table = refl; extremes = tt }), refl),
      (nowhere_alone, Exact, (refl, record { table = refl; extremes = tt }), refl),
      refl,
    ),
    refl,
  ),
  refl,
)

abbrev call_entries : List (PassEntry BoxContent)
call_entries = value 1 at_first ∷ value 2 at_first ∷ value 3 at_first ∷ value 4 at_last ∷ value 5 nowhere ∷ []

-- the call gives r what its returns and its end leave, joined in this order
call_pass : Pass BoxContent BoxContent boxes (narrowed 1) whole_call None (one full_interval) (goes_on call_entries (one (between 1 2)) None)
call_pass = (
  goes_on [] at_first None,
  goes_on call_entries (one (between 1 2)) None,
  (
    at_first,
    Exact,
    (
      at_first,
      Exact,
      Exact,
      (two full_interval full_interval, Exact, Exact, (refl, record { table = refl; extremes = tt }), (refl, gets_x full_interval full_interval (constant 0) open_sound open_sound refl), refl),
      (refl, refl),
      refl,
    ),
    refl,
  ),
  (
    one (between 1 2),
    Exact,
    record { entries = call_entries; normal = nowhere_alone; breaks = []; continues = []; returns = one (between 1 1) ∷ one (between 2 2) ∷ []; flag = None },
    (
      record {
        entries = value 1 at_first ∷ value 2 at_first ∷ value 3 at_first ∷ value 4 at_last ∷ [];
        normal = nowhere;
        breaks = [];
        continues = [];
        returns = one (between 1 1) ∷ one (between 2 2) ∷ [];
        flag = None;
      },
      goes_on (value 5 nowhere ∷ []) nowhere_alone None,
      inside_pass,
      f_ends,
      refl,
    ),
    (one (between 1 2), Exact, Exact, (refl, refl), (one (between 1 2), Exact, Exact, (refl, refl), (refl, refl), refl), refl),
    refl,
  ),
  refl,
)

-- r is 1..2 at main's end: the value that x had after the first return isn't lost
pub calling_written : ExactIteration box_abstraction (narrowed 1) calling calling_tree (goes_on (value 0 none ∷ (call_entries ++ value 6 (one (between 1 2)) ∷ [])) (one (between 1 2)) None)
calling_written = (
  none,
  none,
  Exact,
  refl,
  (refl, refl),
  (
    goes_on (value 0 none ∷ call_entries) (one (between 1 2)) None,
    goes_on (value 6 (one (between 1 2)) ∷ []) (one (between 1 2)) None,
    (
      goes_on (value 0 none ∷ call_entries) (one (between 1 2)) None,
      goes_on [] (one (between 1 2)) None,
      (
        goes_on (value 0 none ∷ []) none None,
        goes_on call_entries (one (between 1 2)) None,
        refl,
        (
          goes_on [] (one full_interval) None,
          goes_on call_entries (one (between 1 2)) None,
          (one full_interval, Exact, (refl, record { table = refl; extremes = tt }), refl),
          call_pass,
          refl,
        ),
        refl,
      ),
      refl,
      refl,
    ),
    refl,
    refl,
  ),
)
