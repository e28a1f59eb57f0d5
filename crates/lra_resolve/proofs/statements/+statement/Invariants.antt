-- The items that are left, in the scope of those before them, are as all of them in the scope of the block. A call goes down the
-- tree, or hands on what it was given: the arms of a statement stand above the statements in them.
use Rattle.std.proofs.Common.{◌≡◌, ℕ, ◌+◌, ◌*◌, max, map, drop, Option, Some, None, option_copied}
use Rattle.lra_syntax.specs.{Views.items_of, Views.item_view, Views.cases_of, Views.case_view, declared.trees.Stmt.Stmt}
use Rattle.lra_syntax.proofs.{trees.Block.TheLaws.the_size as block_size, trees.Cases.TheLaws.the_size as cases_size, trees.Stmt.TheLaws.the_size}
use Rattle.lra_program.specs.ProgramViews.{item_view as program_item_view}
use Rattle.lra_resolve.specs.Crates.{lra_resolution_spec.NameFaults.items_faults, lra_resolution_spec.Resolve.resolve_items, lra_resolution_spec.Resolve.items_count}
use Rattle.lra_scopes.specs.{Calls.functions_at, Scopes.Extends}
use Rattle.lra_resolve_simple.specs.Statements.{around_of, followed}
use Rattle.lra_resolve_simple.proofs.LabellingLaws.{LeadsOn}
use Rattle.lra_resolve.proofs.CaseLaws.{Selects}
use Rattle.lra_resolve.proofs.statements.+statement.Given as goal

abbrev pub invariant-resolve_items-items : goal.invariant-resolve_items-items
invariant-resolve_items-items l = record {
  clean : items_faults (around_of l.around) l.fn.scope (items_of (map item_view l.item-items))
      ≡ items_faults (around_of l.around) l.scope (items_of (map item_view (drop l.item-index l.item-items)));
  found : resolve_items (functions_at l.around.functions.now) l.fn.scope l.fn.labels.next (items_of (map item_view l.item-items))
      ≡ followed (map program_item_view l.items.items)
      (resolve_items (functions_at l.around.functions.now) l.scope l.labels.next (items_of (map item_view (drop l.item-index l.item-items))));
  extended : Extends l.fn.scope l.scope;
  counted : l.labels.next + items_count (items_of (map item_view (drop l.item-index l.item-items)))
      ≡ l.fn.labels.next + items_count (items_of (map item_view l.item-items));
  reaches : LeadsOn l.fn.labels l.labels (items_of (map item_view l.item-items)) (items_of (map item_view (drop l.item-index l.item-items)));
}

abbrev pub decreases-resolve_stmt : goal.decreases-resolve_stmt
decreases-resolve_stmt l = 2 * the_size l.stmt.now

-- of the second branch
abbrev other_size : Option Stmt → ℕ
other_size None = 0
other_size (Some s) = the_size s

abbrev pub decreases-resolve_choice : goal.decreases-resolve_choice
decreases-resolve_choice l = 2 * max (the_size l.branch.now) (other_size (option_copied l.other)) + 1

abbrev pub decreases-resolve_loop : goal.decreases-resolve_loop
decreases-resolve_loop l = 2 * the_size l.body.now + 1

abbrev pub decreases-resolve_block : goal.decreases-resolve_block
decreases-resolve_block l = 2 * block_size l.block.now + 1

abbrev pub decreases-resolve_items : goal.decreases-resolve_items
decreases-resolve_items l = 2 * block_size l.block.now

abbrev pub decreases-resolve_switch : goal.decreases-resolve_switch
decreases-resolve_switch l = 2 * cases_size l.cases.now + 1

abbrev pub invariant-resolve_switch-cases : goal.invariant-resolve_switch-cases
invariant-resolve_switch-cases l =
    let left = cases_of (map case_view (drop l.item-index l.item-items)) in
    Selects (around_of l.inside) l.fn.scope l.initial.labels (cases_of (map case_view l.item-items)) left l.list l.scope l.labels
