-- Goals of `find`: what is found of a tree, by the values at its points.
use Rattle.std.proofs.Common.{map, length}
use Rattle.lra_overflow_checks.specs.Crates.{lra_analysis_spec.Operations.lossy_operations, lra_operations.TreeViews.node_view}
use Rattle.lra_operations_list.specs.TreeOperations.{op_at_point_view}
use Rattle.lra_overflow_checks.proofs.TableSteps.{below_asked, empty_long, table_finds}
use Rattle.lra_overflow_checks.proofs.questions.find.Goals as goal

pub fill_table-requires-clause-long : goal.fill_table-requires-clause-long
fill_table-requires-clause-long g c = empty_long (length c.args.values.now) c.in_ok-table.table.items c.in_ok-table.ensures

pub fill_table-requires-clause-below : goal.fill_table-requires-clause-below
fill_table-requires-clause-below g c =
    rw c.as_slice.ensures.value (below_asked g.Q.Question.asks (length c.args.values.now) (node_view c.args.tree.now)
    (map op_at_point_view c.in_ok-doings.doings.items) c.in_ok-doings.ensures c.requires.below)

pub returns : goal.returns
returns g c =
    let fills = rw c.as_slice.ensures.value at c.in_ok-fill_table.ensures in
    table_finds (lossy_operations g.D.Domain.abstraction) g.Q.Question.told c.args.values.now g.Q.Question.asks (node_view c.args.tree.now)
    (map op_at_point_view c.in_ok-doings.doings.items) (length c.args.values.now) c.in_ok-table.table.items c.fill_table.new.table.items c.in_ok-doings.ensures
    c.in_ok-table.ensures fills c.args.flagged c.in_ok-found.found.flagged c.in_ok-found.found.answers.items c.in_ok-found.ensures.told c.in_ok-found.ensures.flags
