-- Trees of operations of sources, derived case by case.
use Rattle.std.proofs.Common.{◌≡◌, ℕ, pos, ◌≤◌, [], ◌∷◌, Some, None, refl, arith}
use Rattle.std.specs.Prelude.{codes}
use Rattle.lra_resolution_spec.specs.Resolve.{resolve}
use Rattle.lra_inline_sound.specs.Crates.lra_base.declared.case_labels.CaseLabel.TheVariants.{Case, Default}
use Rattle.lra_inline_sound.specs.Crates.lra_program.Receivers.{variable_at, waiting_in, result_receiver}
use Rattle.lra_inline_sound.specs.Crates.lra_program.Step.{append, fill, store_value, havoc, push, push_for, truncate_to}
use Rattle.lra_inline_sound.specs.Crates.lra_syntax.Trees.{FileTree, function, statement, declaration, no_items, if_only, return, value, expression, result, set_element, element, array, assign, block}
use Rattle.lra_inline_sound.specs.Crates.lra_syntax.Trees.{while, break, continue, switch, no_cases, labelled, stated}
use Rattle.lra_inline_sound.specs.Crates.lra_syntax.declared.trees.Identifier.{Identifier}
use Rattle.lra_inline_sound.specs.Crates.{lra_base.declared.number_types.NumberType.TheVariants.Int, lra_base.declared.number_types.NumberType.TheVariants.Long, lra_program.Program.Element}
use Rattle.lra_inline_sound.specs.Crates.{lra_program.Sites.sites_of, lra_program.Value.Argument, lra_program.declared.arrays.Array.Array, lra_program.declared.receivers.Receiver.Receiver}
use Rattle.lra_operations.specs.Inlined.{InlineItems, loop_node, switch_node, as_absent, as_block, as_if, as_loop, is_loop, as_break, as_continue, as_switch, as_no_cases, as_labelled, as_stated}
use Rattle.lra_operations.specs.Inlined.{as_declaration, as_fresh, as_given, as_assign, as_assert, as_return_value, as_none, as_array, as_statement, as_value, as_result, is_call, as_write_call}
use Rattle.lra_operations.specs.Inlined.{main_inline_state}
use Rattle.lra_operations.specs.Tree.{Node, broken, continued, returned, empty, point, act, seq, choose, catch, leave, no_arms, entry, arm}
use Rattle.lra_inline_sound.specs.Crates.lra_program.Program as program
use Rattle.lra_inline_sound.proofs.Crates.lra_syntax.TreeSamples.{at, x_at, name_at, literal_text, alone, use_of, tested, call_of, declared_as, long_parameter, function_of, main_function, main_of}
use Rattle.lra_inline_sound.proofs.Crates.lra_syntax.TreeSamples.{called_twice}
use Rattle.lra_inline_sound.proofs.Crates.lra_program.RunExamples as run

-- the length to which a store is cut is at most that from which it is cut
pub one_of_two : 1 ≤ 2
one_of_two = omega arith

pub none_of_none : 0 ≤ 0
none_of_none = omega arith

two_of_two : 2 ≤ 2
two_of_two = omega arith

-- its tree is derived, one case for each statement
unfoldable pub called_twice_graph : (g : Node) × InlineItems (resolve called_twice) (sites_of (resolve called_twice)) (main_inline_state (resolve called_twice))
    (resolve called_twice).main.body g 1 9
called_twice_graph = (
  _,
  as_declaration refl
      (as_given (as_result (is_call {fn = run.inc} refl refl
      (as_statement (as_assign refl as_value)
      (as_statement (as_return_value refl one_of_two refl) as_none)) refl)))
      (as_statement (as_assign refl (as_result (is_call {fn = run.inc} refl refl
      (as_statement (as_assign refl as_value)
      (as_statement (as_return_value refl one_of_two refl) as_none)) refl)))
      (as_statement (as_assert refl) as_none)),
)

-- long f(long a){ if(a) return 1; return 2; } int main(void){ long x=f(0); }
abbrev two_returns : FileTree
two_returns = record {
  parts = function (function_of (codes "f") 6 (long_parameter (name_at (codes "a") 13) ∷ [])
      (statement (if_only (at 17) (tested (value (use_of (name_at (codes "a") 20)))) (return (at 23) (Some (expression (literal_text 1)))))
      (statement (return (at 33) (Some (expression (literal_text 2)))) no_items)) 43)
      ∷ function (main_function 49 (declaration (declared_as (x_at 66) (Some (result (call_of (name_at (codes "f") 68) (literal_text 0 ∷ []))))) no_items) 74)
      ∷ [];
  end = at 75;
}

-- a `return` of the point q: x gets the value, and the store is cut to x
abbrev returned_from : ℕ → ℕ → Node
returned_from q n = seq (point q) (seq (act q (store_value 1 (variable_at 0 Long) (program.literal Int n))) (seq (act q (truncate_to 1)) (leave 2 returned)))

abbrev zero_given : Argument
zero_given = record { number_type = Long; value = program.literal Int 0 }

-- the call's tree has its returns in text order and then its end, if the target gets a draw: catches an end before the returns
two_returns_graph : InlineItems (resolve two_returns) (sites_of (resolve two_returns)) (main_inline_state (resolve two_returns)) (resolve two_returns).main.body
    (seq (seq (point 0) (seq (act 0 (append Long)) (seq (act 0 (push 0 (zero_given ∷ [])))
    (catch 0 returned (seq
    (seq (seq (point 1) (choose 1 1 (program.nonzero (program.read (run.long_variable (program.local 0)))) (returned_from 2 1) empty))
    (seq (returned_from 3 2) empty))
    (seq (point 4) (seq (act 4 (truncate_to 2)) (seq (act 4 (havoc (variable_at 0 Long))) (act 4 (truncate_to 1)))))))))) empty) 1 5
two_returns_graph =
    as_declaration refl
    (as_given (as_result (is_call {fn = (record { result_type = Some Long; parameters = Long ∷ []; body = _; end = 4 })} refl refl
    (as_statement (as_if refl (as_return_value refl one_of_two refl) as_absent)
    (as_statement (as_return_value refl one_of_two refl) as_none)) refl)))
    as_none

-- int main(void){ long x; while(x){ long y; switch(x){ case 1: continue; default: break; } } }
abbrev jumps_apart : FileTree
jumps_apart = main_of (declaration (declared_as (x_at 22) None) (statement (while (at 25) (tested (value (use_of (x_at 31))))
    (block (declaration (declared_as (name_at (codes "y") 40) None) (statement (switch (at 43) (use_of (x_at 50))
    (labelled (record { label = Case (pos 1); place = at 59 }) (stated (continue (at 62))
    (labelled (record { label = Default; place = at 72 }) (stated (break (at 81)) no_cases))))) no_items)) (at 90))) no_items)) 92

abbrev x_read : program.Expr
x_read = program.read (run.long_variable (program.local 0))

-- labels have no points; `continue` cuts the store to the loop's length, `break` to the `switch`'s: catches the one for the other
jumps_apart_graph : InlineItems (resolve jumps_apart) (sites_of (resolve jumps_apart)) (main_inline_state (resolve jumps_apart)) (resolve jumps_apart).main.body
    (seq (seq (point 0) (act 0 (append Long))) (seq (loop_node 1 0 (program.nonzero x_read)
    (seq (seq (seq (point 2) (act 2 (append Long))) (seq (seq (point 3) (switch_node 3 0 x_read
    (entry (Case (pos 1)) (arm (seq (point 4) (seq (act 4 (truncate_to 1)) (leave 2 continued)))
    (entry Default (arm (seq (point 5) (seq (act 5 (truncate_to 2)) (leave 2 broken))) no_arms)))))) empty))
    (seq (point 6) (act 6 (truncate_to 1)))) empty) empty)) 1 7
jumps_apart_graph =
    as_declaration refl as_fresh
    (as_statement (as_loop (is_loop refl as_absent (as_block
    (as_declaration refl as_fresh (as_statement (as_switch refl
    (as_labelled (as_stated (as_continue refl one_of_two refl) (as_labelled (as_stated (as_break refl two_of_two refl) as_no_cases))))) as_none)) refl)))
    as_none)

-- long f(void){ return 1; } int main(void){ long a[2]; a[a[0]]=f(); }
abbrev a_at : ℕ → Identifier
a_at c = name_at (codes "a") c

abbrev element_called : FileTree
element_called = record {
  parts = function (function_of (codes "f") 6 [] (statement (return (at 15) (Some (expression (literal_text 1)))) no_items) 25)
      ∷ function (main_function 31
      (declaration (record { number_type = Long; first = record { name = a_at 48; shape = array (record { value = 2; place = at 50 }) }; rest = [] })
      (statement (assign (set_element (a_at 54) (alone (element (a_at 56) (literal_text 0))) (result (call_of (name_at (codes "f") 62) [])))) no_items)) 67)
      ∷ [];
  end = at 68;
}

abbrev pub two_elements : Array
two_elements = record { declared = at 48; length = 2; number_type = Long }

abbrev pub aimed : Element
aimed = record { array = two_elements; place = at 54; index = program.element two_elements (at 56) (program.literal Int 0) }

abbrev element_receiver : Receiver
element_receiver = result_receiver (Some Long) (waiting_in two_elements)

-- the index is computed where the call gives its arguments, and the element gets what the return gives: catches a
-- receiver that is missing
unfoldable pub element_called_graph : (g : Node)
    × InlineItems (resolve element_called) (sites_of (resolve element_called)) (main_inline_state (resolve element_called))
    (resolve element_called).main.body g 0 4
    × (g ≡ seq (seq (point 0) (act 0 (fill two_elements))) (seq (seq (point 1) (seq (act 1 (push_for 0 aimed []))
    (catch 1 returned (seq
    (seq (seq (point 2) (seq (act 2 (store_value 0 element_receiver (program.literal Int 1))) (seq (act 2 (truncate_to 0)) (leave 0 returned)))) empty)
    (seq (point 3) (seq (act 3 (truncate_to 0)) (seq (act 3 (havoc element_receiver)) (act 3 (truncate_to 0))))))))) empty))
element_called_graph = (
  _,
  as_array refl
      (as_statement (as_write_call refl (is_call {fn = (record { result_type = Some Long; parameters = []; body = _; end = 2 })} refl refl
      (as_statement (as_return_value refl none_of_none refl) as_none) refl)) as_none),
  refl,
)
