-- What is done in a tree, each with its point and the type of the variable that is new before it: all of it, as if of
-- each operation something were asked.
use Rattle.std.specs.Prelude.{ℕ, List, Option, Bool, true}
use Rattle.lra_operations_list.specs.Crates.lra_base.declared.number_types.NumberType.{NumberType}
use Rattle.lra_operations_list.specs.Crates.lra_operations.CheckedOperations.{OpAtPoint, op_where, ops_where}
use Rattle.lra_operations_list.specs.Crates.lra_operations.CheckedOperations.{ops_where_in_arms}
use Rattle.lra_operations_list.specs.Crates.lra_operations.Tree.{Node, Arms}
use Rattle.lra_operations_list.specs.Crates.lra_program.ProgramViews.{cond_view, expr_view}
use Rattle.lra_operations_list.specs.Crates.lra_program.Step.{Op, store_value, test}
use Rattle.lra_operations_list.specs.Crates.{lra_operations.TreeViews.op_view, lra_program.Receivers.nobody}
use Rattle.lra_operations_list.specs.declared.tree_operations.OpRef.{OpRef}
use Rattle.lra_operations_list.specs.declared.tree_operations.OpRef.TheVariants.{Change, Condition, Value}
use Rattle.lra_operations_list.specs.declared.tree_operations.OpRefAtPoint.{OpRefAtPoint}

-- a condition is asked once, whichever side goes on; a value that is looked for goes to no receiver
abbrev pub op_ref_view : OpRef → Op
op_ref_view (Change o) = op_view o.now
op_ref_view (Condition base c) = test base (cond_view c.now) true
op_ref_view (Value base e) = store_value base nobody (expr_view e.now)

abbrev pub op_at_point_view : OpRefAtPoint → OpAtPoint
op_at_point_view d = record { point = d.point; fresh = d.fresh; op = op_ref_view d.doing }

abbrev pub any_op : Op → Bool
any_op op = true

abbrev pub done_of : ℕ → Option NumberType → Op → List OpAtPoint
done_of q fresh op = op_where any_op q fresh op

abbrev pub done_in : Option NumberType → Node → List OpAtPoint
done_in fresh g = ops_where any_op fresh g

abbrev pub done_in_arms : Option NumberType → Arms → List OpAtPoint
done_in_arms fresh arms = ops_where_in_arms any_op fresh arms
