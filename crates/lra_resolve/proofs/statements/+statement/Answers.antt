-- Goals of the functions that call each other around `statement`: `resolve_items`, `resolve_stmt`, `resolve_block`,
-- `resolve_choice`, `resolve_loop`, `resolve_switch`.
use Rattle.std.proofs.Common.{List, [], ◌∷◌, ◌+◌, subst, map, drop, refl, ap, sym, ◌∙◌, arith, Option, option_map, option_copied, Bor, Vec, Global}
use Rattle.std.proofs.lemmas.List.{at_drop_all}
use Rattle.lra_syntax.specs.Views.{items_of, item_view, block_view, cond_view, stmt_view, expr_view, cases_of, case_view, cases_view}
use Rattle.lra_syntax.specs.{Labels.plain_label, Trees.ItemsTree, Trees.StmtTree, declared.trees.BlockItem.BlockItem, declared.trees.CaseItem.CaseItem, declared.trees.Stmt.Stmt}
use Rattle.lra_program.specs.ProgramViews.{item_view as program_item_view, stmt_view as program_stmt_view, expr_view as program_expr_view, case_view as program_case_view, cases_of as program_cases_of}
use Rattle.lra_program.specs.{declared.program.BlockItem.BlockItem as ProgramItem, declared.program.CaseItem.CaseItem as ProgramCase}
use Rattle.lra_resolve.specs.Crates.lra_resolution_spec.NameFaults.{Around, items_faults}
use Rattle.lra_resolve.specs.Crates.lra_resolution_spec.Resolve.{resolve_stmt, resolve_items, items_count}
use Rattle.lra_scopes.specs.Calls.{functions_at}
use Rattle.lra_resolve_simple.specs.{Labelling.Adds, LoopHeads.rounds_view, LoopHeads.loop_around, Statements.around_of, Statements.followed, Statements.switch_of}
use Rattle.lra_scopes.proofs.FirstFaults.{tells_front, tells_behind, exit_tells, rest_tells}
use Rattle.lra_scopes.proofs.Loops.{parts_step, first_told, second_told, both_clean, made_told, found_so, wanting_told}
use Rattle.lra_resolve_simple.proofs.StatementLaws.{extends_self, extends_then, block_items, block_end, kept_so, block_is, absent_is, choice_found, if_is, if_else_is, while_is, for_is, switch_is}
use Rattle.lra_resolve_simple.proofs.{LabellingLaws.reaches_none, LabellingLaws.reaches_step, LabellingLaws.reaches_all, LabellingLaws.blocks, SimpleLaws.rest_is_simple}
use Rattle.lra_resolve.proofs.CaseLaws.{all_cases, selects_none, selects_label, selects_stated, label_told, stated_told, value_told, switch_told, switch_found}
use Rattle.lra_resolve.proofs.ItemLaws.{Passes, passes_declaration, passes_statement, declaration_told, statement_told}
use Rattle.lra_resolve.proofs.LoopLaws.{faults_of_loop, meaning_of_loop, count_of_loop, loops, without, with_other, count_without, count_with, labelled_without, labelled_with, front_told, other_told}
use Rattle.lra_resolve.proofs.LoopLaws.{clean_without, clean_with, loop_left, block_found, block_left, block_counted, refused}
use Rattle.lra_base.specs.declared.refusals.Place.{Place}
use Rattle.lra_resolve.proofs.statements.+statement.Goals as goal
use Rattle.lra_resolve.proofs.statements.+statement.Goals.{resolve_items-in-Declaration+in_ok-add_declaration-in-Declaration}
use Rattle.lra_resolve.proofs.statements.+statement.Goals.{resolve_items-in-Statement+in_ok-stmt-in-Statement+in_ok-push-in-Statement}
use Rattle.lra_resolve.proofs.statements.+statement.Goals.{resolve_switch-in-Label+in_ok-add_label-in-Label}
use Rattle.lra_resolve.proofs.statements.+statement.Goals.{resolve_switch-in-Stated+in_ok-stmt-in-Stated+in_ok-add_statement-in-Stated}

-- the second branch of a choice
abbrev other_of : Option (Bor Stmt) → Option StmtTree
other_of o = option_map stmt_view (option_copied o)

pub resolve_items-items-init : goal.resolve_items-items-init
resolve_items-items-init t c =
    let F = functions_at c.args.around.now.functions.now in
    record {
      clean = refl;
      found = ap (λ (l : List ProgramItem). followed (map program_item_view l)
          (resolve_items F c.args.scope.now c.args.labels.now.next (items_of (map item_view c.deref-item-items.result.now))))
          (sym c.new-items.ensures.items);
      extended = extends_self c.args.scope.now;
      counted = refl;
      reaches = reaches_none c.args.labels.now (items_of (map item_view c.deref-item-items.result.now));
    }

pub resolve_items-items-preserved : goal.resolve_items-items-preserved
resolve_items-items-preserved t c =
    let F = functions_at c.args.around.now.functions.now in
    let A = around_of c.args.around.now in
    let xs = c.deref-item-items.result.now in
    let left = items_of (map item_view (drop (c.items.item-index + 1) xs)) in
    let item = c.item-item.result in
    let joined = c.match-item in
    let one : Passes A item c.items.scope joined.scope c.items.labels joined.labels c.items.items.items joined.items.items = elim joined.branch [
      | resolve_items-in-Declaration+in_ok-add_declaration-in-Declaration w ↦ rw (w.items-is, w.scope-is, w.labels-is)
          (passes_declaration A item c.items.scope w.add_declaration.new.scope c.items.labels w.add_declaration.new.labels
          c.items.items.items w.add_declaration.new.items.items
          w.in-Declaration.declaration w.in-Declaration.is w.in_ok-add_declaration-in-Declaration.ensures.told
          w.in_ok-add_declaration-in-Declaration.ensures.found
          w.in_ok-add_declaration-in-Declaration.ensures.declared
          w.in_ok-add_declaration-in-Declaration.ensures.counted w.in_ok-add_declaration-in-Declaration.ensures.labelled)
      | resolve_items-in-Statement+in_ok-stmt-in-Statement+in_ok-push-in-Statement w ↦ rw (w.items-is, w.scope-is, w.labels-is)
          (passes_statement A item c.items.scope w.resolve_stmt.new.scope c.items.labels w.resolve_stmt.new.labels c.items.items.items w.push.new.self.items
          w.in-Statement.stmt w.in_ok-stmt-in-Statement.stmt w.in-Statement.is w.in_ok-stmt-in-Statement.ensures.told w.in_ok-stmt-in-Statement.ensures.found
          w.in_ok-stmt-in-Statement.ensures.kept w.in_ok-stmt-in-Statement.ensures.counted
          w.in_ok-stmt-in-Statement.ensures.adds w.in_ok-push-in-Statement.ensures.items)
    ] in
    record {
      clean = c.items.invariant.clean
          ∙ parts_step (λ (fs : List (ItemsTree → ItemsTree)). items_faults A c.items.scope (items_of fs))
          item_view xs c.items.item-index item c.items-test.true c.item-item.is
          ∙ one.clean left;
      found = c.items.invariant.found
          ∙ parts_step (λ (fs : List (ItemsTree → ItemsTree)).
          followed (map program_item_view c.items.items.items) (resolve_items F c.items.scope c.items.labels.next (items_of fs)))
          item_view xs c.items.item-index item c.items-test.true c.item-item.is
          ∙ one.found left;
      extended = extends_then _ _ _ c.items.invariant.extended one.extended;
      counted = one.counted left
          ∙ sym (parts_step (λ (fs : List (ItemsTree → ItemsTree)). c.items.labels.next + items_count (items_of fs))
          item_view xs c.items.item-index item c.items-test.true c.item-item.is)
          ∙ c.items.invariant.counted;
      reaches = reaches_step c.args.labels.now c.items.labels joined.labels (items_of (map item_view xs))
          (items_of (map item_view (drop c.items.item-index xs))) left
          (item_view item) (parts_step items_of item_view xs c.items.item-index item c.items-test.true c.item-item.is) c.items.invariant.reaches one.follows;
    }

pub resolve_items-returns-in_err-add_declaration-in-Declaration-clause-told : goal.resolve_items-returns-in_err-add_declaration-in-Declaration-clause-told
resolve_items-returns-in_err-add_declaration-in-Declaration-clause-told t c =
    let A = around_of c.args.around.now in
    let xs = c.deref-item-items.result.now in
    let item = c.item-item.result in
    exit_tells _ c.from_residual.result _ c.from_residual.ensures.1
    (rest_tells (λ (fs : List (ItemsTree → ItemsTree)). items_faults A c.items.scope (items_of fs)) item_view xs c.items.item-index
    item _ _ c.items-test.true c.item-item.is
    (ap (items_faults A c.args.scope.now) (block_items c.args.block.now xs c.deref-item-items.ensures.value) ∙ c.items.invariant.clean)
    (λ (rest : List (ItemsTree → ItemsTree)).
    declaration_told A c.items.scope item c.in-Declaration.declaration _ c.in-Declaration.is
    c.in_err-add_declaration-in-Declaration.ensures.told (items_of rest)))

pub resolve_items-returns-in_err-stmt-in-Statement-clause-told : goal.resolve_items-returns-in_err-stmt-in-Statement-clause-told
resolve_items-returns-in_err-stmt-in-Statement-clause-told t c =
    let A = around_of c.args.around.now in
    let xs = c.deref-item-items.result.now in
    let item = c.item-item.result in
    exit_tells _ c.from_residual-in_err-stmt-in-Statement.result _ c.from_residual-in_err-stmt-in-Statement.ensures.1
    (rest_tells (λ (fs : List (ItemsTree → ItemsTree)). items_faults A c.items.scope (items_of fs)) item_view xs c.items.item-index
    item _ _ c.items-test.true c.item-item.is
    (ap (items_faults A c.args.scope.now) (block_items c.args.block.now xs c.deref-item-items.ensures.value) ∙ c.items.invariant.clean)
    (λ (rest : List (ItemsTree → ItemsTree)).
    statement_told A c.items.scope item c.in-Statement.stmt _ c.in-Statement.is c.in_err-stmt-in-Statement.ensures.told (items_of rest)))

pub resolve_items-returns-clause-told : goal.resolve_items-returns-clause-told
resolve_items-returns-clause-told t c =
    let A = around_of c.args.around.now in
    ap (items_faults A c.args.scope.now) (block_items c.args.block.now c.deref-item-items.result.now c.deref-item-items.ensures.value)
    ∙ c.items.invariant.clean
    ∙ at_drop_all (λ (ys : List BlockItem). items_faults A c.items.scope (items_of (map item_view ys))) c.deref-item-items.result.now c.items.item-index
    c.items-test.false

pub resolve_items-returns-clause-found : goal.resolve_items-returns-clause-found
resolve_items-returns-clause-found t c =
    let F = functions_at c.args.around.now.functions.now in
    c.block_of.ensures
    ∙ sym (ap (resolve_items F c.args.scope.now c.args.labels.now.next)
    (block_items c.args.block.now c.deref-item-items.result.now c.deref-item-items.ensures.value)
    ∙ c.items.invariant.found
    ∙ at_drop_all (λ (ys : List BlockItem). followed (map program_item_view c.items.items.items)
    (resolve_items F c.items.scope c.items.labels.next (items_of (map item_view ys))))
    c.deref-item-items.result.now c.items.item-index c.items-test.false)

pub resolve_items-returns-clause-counted : goal.resolve_items-returns-clause-counted
resolve_items-returns-clause-counted t c =
    let a = at_drop_all (λ (ys : List BlockItem). items_count (items_of (map item_view ys))) c.deref-item-items.result.now c.items.item-index
    c.items-test.false in
    let b = ap items_count (block_items c.args.block.now c.deref-item-items.result.now c.deref-item-items.ensures.value) in
    let d = c.items.invariant.counted in omega (arith, a, b, d)

pub resolve_items-returns-clause-fills : goal.resolve_items-returns-clause-fills
resolve_items-returns-clause-fills t c =
    let xs = c.deref-item-items.result.now in
    reaches_all c.args.labels.now c.items.labels (items_of (map item_view xs)) (items_of (map item_view (drop c.items.item-index xs))) _
    (at_drop_all (λ (ys : List BlockItem). items_of (map item_view ys)) xs c.items.item-index c.items-test.false)
    (block_items c.args.block.now xs c.deref-item-items.ensures.value) c.items.invariant.reaches

pub resolve_stmt-resolve_simple-requires : goal.resolve_stmt-resolve_simple-requires
resolve_stmt-resolve_simple-requires t c = record {
  simple = rest_is_simple c.args.stmt.now c.in_default.not-Block c.in_default.not-If c.in_default.not-IfElse c.in_default.not-While c.in_default.not-For
      c.in_default.not-Switch;
}

pub resolve_stmt-returns-in-Block : goal.resolve_stmt-returns-in-Block
resolve_stmt-returns-in-Block t c =
    rw (block_is c.args.stmt.now c.in-Block.block c.in-Block.is) c.resolve_block.ensures

pub resolve_stmt-returns-in-If : goal.resolve_stmt-returns-in-If
resolve_stmt-returns-in-If t c =
    rw (if_is c.args.stmt.now c.in-If.place c.in-If.cond c.in-If.branch c.deref.result.now c.in-If.is c.deref.ensures) c.resolve_choice.ensures

pub resolve_stmt-returns-in-IfElse : goal.resolve_stmt-returns-in-IfElse
resolve_stmt-returns-in-IfElse t c =
    rw (if_else_is c.args.stmt.now c.in-IfElse.place c.in-IfElse.cond c.in-IfElse.branch c.in-IfElse.other c.deref-in-IfElse.result.now
    c.deref-in-IfElse-2.result.now
    c.in-IfElse.is c.deref-in-IfElse.ensures c.deref-in-IfElse-2.ensures)
    c.resolve_choice-in-IfElse.ensures

pub resolve_stmt-returns-in-While : goal.resolve_stmt-returns-in-While
resolve_stmt-returns-in-While t c =
    rw (while_is c.args.stmt.now c.in-While.place c.in-While.cond c.in-While.body c.deref-in-While.result.now c.in-While.is c.deref-in-While.ensures)
    c.resolve_loop.ensures

pub resolve_stmt-returns-in-For : goal.resolve_stmt-returns-in-For
resolve_stmt-returns-in-For t c =
    rw (for_is c.args.stmt.now c.in-For.place c.in-For.init c.in-For.test c.in-For.step c.in-For.body c.deref-in-For.result.now c.in-For.is
    c.deref-in-For.ensures)
    c.resolve_loop-in-For.ensures

pub resolve_stmt-returns-in-Switch : goal.resolve_stmt-returns-in-Switch
resolve_stmt-returns-in-Switch t c =
    rw (switch_is c.args.stmt.now c.in-Switch.place c.in-Switch.value c.in-Switch.cases c.in-Switch.is) c.resolve_switch.ensures

pub resolve_stmt-returns-in_default : goal.resolve_stmt-returns-in_default
resolve_stmt-returns-in_default t c = c.resolve_simple.ensures

pub resolve_choice-returns-in_err-head : goal.resolve_choice-returns-in_err-head
resolve_choice-returns-in_err-head t c =
    refused c.from_residual.result _ c.from_residual.ensures.1
    (exit_tells _ c.from_residual.result _ c.from_residual.ensures.1
    (front_told c.args.asked.now.place.now (cond_view c.args.asked.now.cond.now) (stmt_view c.args.branch.now) (around_of c.args.around.now) c.args.scope.now
    (other_of c.args.other) _
    (tells_front _ _ _ c.in_err-head.ensures.told)))

pub resolve_choice-returns-in_err-branch : goal.resolve_choice-returns-in_err-branch
resolve_choice-returns-in_err-branch t c =
    refused c.from_residual-in_err-branch.result _ c.from_residual-in_err-branch.ensures.1
    (exit_tells _ c.from_residual-in_err-branch.result _ c.from_residual-in_err-branch.ensures.1
    (front_told c.args.asked.now.place.now (cond_view c.args.asked.now.cond.now) (stmt_view c.args.branch.now) (around_of c.args.around.now) c.args.scope.now
    (other_of c.args.other) _
    (tells_behind _ _ _ c.in_ok-head.ensures.told c.in_err-branch.ensures.told)))

pub resolve_choice-returns-in-None : goal.resolve_choice-returns-in-None
resolve_choice-returns-in-None t c =
    record {
      told = made_told _ c.choose.result
          (clean_without c.args.asked.now.place.now (cond_view c.args.asked.now.cond.now) (stmt_view c.args.branch.now) (around_of c.args.around.now)
          c.args.scope.now (other_of c.args.other)
          (ap other_of c.in-None.is) c.in_ok-head.ensures.told c.in_ok-branch.ensures.told) c.choose.ensures.memory;
      found = found_so c.choose.result program_stmt_view _ _
          (ap (resolve_stmt (functions_at c.args.around.now.functions.now) c.args.scope.now c.args.labels.now.next)
          (sym (without c.args.asked.now.place.now (cond_view c.args.asked.now.cond.now) (stmt_view c.args.branch.now) (other_of c.args.other)
          (ap other_of c.in-None.is))))
          (choice_found c.choose.result c.args.labels.now.next c.in_ok-head.head.label _ _ _ _ _ _ c.choose.ensures.found c.in_ok-head.ensures.label
          c.in_ok-head.ensures.found
          (rw c.in_ok-head.ensures.counted at c.in_ok-branch.ensures.found) absent_is);
      kept = kept_so c.choose.result c.in_ok-branch.ensures.kept;
      counted = kept_so c.choose.result
          (count_without c.args.asked.now.place.now (cond_view c.args.asked.now.cond.now) (stmt_view c.args.branch.now) c.args.labels.now.next _ _
          (other_of c.args.other)
          (ap other_of c.in-None.is) c.in_ok-head.ensures.counted c.in_ok-branch.ensures.counted);
      adds = kept_so c.choose.result
          (labelled_without c.args.asked.now.place.now (cond_view c.args.asked.now.cond.now) (stmt_view c.args.branch.now) c.args.labels.now _ _
          (other_of c.args.other)
          (ap other_of c.in-None.is) c.in_ok-head.ensures.adds c.in_ok-branch.ensures.adds);
    }

pub resolve_choice-returns-in_err-other-in-Some : goal.resolve_choice-returns-in_err-other-in-Some
resolve_choice-returns-in_err-other-in-Some t c =
    refused c.from_residual-in_err-other-in-Some.result _ c.from_residual-in_err-other-in-Some.ensures.1
    (exit_tells _ c.from_residual-in_err-other-in-Some.result _ c.from_residual-in_err-other-in-Some.ensures.1
    (other_told c.args.asked.now.place.now (cond_view c.args.asked.now.cond.now) (stmt_view c.args.branch.now) (around_of c.args.around.now) c.args.scope.now
    (other_of c.args.other)
    (stmt_view c.in-Some.other.now) _ (ap other_of c.in-Some.is) c.in_ok-head.ensures.told c.in_ok-branch.ensures.told
    (rw c.in_ok-branch.ensures.kept at c.in_err-other-in-Some.ensures.told)))

pub resolve_choice-returns-in_ok-other-in-Some : goal.resolve_choice-returns-in_ok-other-in-Some
resolve_choice-returns-in_ok-other-in-Some t c =
    record {
      told = made_told _ c.choose-in-Some.result
          (clean_with c.args.asked.now.place.now (cond_view c.args.asked.now.cond.now) (stmt_view c.args.branch.now) (around_of c.args.around.now)
          c.args.scope.now (other_of c.args.other)
          (stmt_view c.in-Some.other.now) (ap other_of c.in-Some.is) c.in_ok-head.ensures.told c.in_ok-branch.ensures.told
          (rw c.in_ok-branch.ensures.kept at c.in_ok-other-in-Some.ensures.told)) c.choose-in-Some.ensures.memory;
      found = found_so c.choose-in-Some.result program_stmt_view _ _
          (ap (resolve_stmt (functions_at c.args.around.now.functions.now) c.args.scope.now c.args.labels.now.next)
          (sym (with_other c.args.asked.now.place.now (cond_view c.args.asked.now.cond.now) (stmt_view c.args.branch.now) (other_of c.args.other)
          (stmt_view c.in-Some.other.now)
          (ap other_of c.in-Some.is))))
          (choice_found c.choose-in-Some.result c.args.labels.now.next c.in_ok-head.head.label _ _ _ _ _ _ c.choose-in-Some.ensures.found
          c.in_ok-head.ensures.label
          c.in_ok-head.ensures.found (rw c.in_ok-head.ensures.counted at c.in_ok-branch.ensures.found)
          (rw (c.in_ok-branch.ensures.kept, c.in_ok-branch.ensures.counted, c.in_ok-head.ensures.counted) at c.in_ok-other-in-Some.ensures.found));
      kept = kept_so c.choose-in-Some.result (c.in_ok-other-in-Some.ensures.kept ∙ c.in_ok-branch.ensures.kept);
      counted = kept_so c.choose-in-Some.result
          (count_with c.args.asked.now.place.now (cond_view c.args.asked.now.cond.now) (stmt_view c.args.branch.now) c.args.labels.now.next _ _ _
          (other_of c.args.other)
          (stmt_view c.in-Some.other.now) (ap other_of c.in-Some.is) c.in_ok-head.ensures.counted c.in_ok-branch.ensures.counted
          c.in_ok-other-in-Some.ensures.counted);
      adds = kept_so c.choose-in-Some.result
          (labelled_with c.args.asked.now.place.now (cond_view c.args.asked.now.cond.now) (stmt_view c.args.branch.now) c.args.labels.now _ _ _
          (other_of c.args.other)
          (stmt_view c.in-Some.other.now) (ap other_of c.in-Some.is) c.in_ok-head.ensures.adds c.in_ok-branch.ensures.adds c.in_ok-other-in-Some.ensures.adds);
    }

pub resolve_loop-returns-in_err-head : goal.resolve_loop-returns-in_err-head
resolve_loop-returns-in_err-head t c =
    refused c.from_residual.result _ c.from_residual.ensures.1
    (first_told _ _ _ c.from_residual.result _
    (faults_of_loop (around_of c.args.around.now) c.args.scope.now (rounds_view c.args.rounds.now) (stmt_view c.args.body.now))
    c.from_residual.ensures.1 c.in_err-head.ensures.told)

pub resolve_loop-returns-in_err-body : goal.resolve_loop-returns-in_err-body
resolve_loop-returns-in_err-body t c =
    refused c.from_residual-in_err-body.result _ c.from_residual-in_err-body.ensures.1
    (second_told _ _ _ c.from_residual-in_err-body.result _
    (faults_of_loop (around_of c.args.around.now) c.args.scope.now (rounds_view c.args.rounds.now) (stmt_view c.args.body.now))
    c.in_ok-head.ensures.told c.from_residual-in_err-body.ensures.1
    (rw (c.in_a_loop.ensures, c.in_ok-head.ensures.entered) at c.in_err-body.ensures.told))

pub resolve_loop-returns : goal.resolve_loop-returns
resolve_loop-returns t c =
    record {
      told = made_told _ c.into_loop.result
          (both_clean _ _ _ (faults_of_loop (around_of c.args.around.now) c.args.scope.now (rounds_view c.args.rounds.now) (stmt_view c.args.body.now))
          c.in_ok-head.ensures.told (rw (c.in_a_loop.ensures, c.in_ok-head.ensures.entered) at c.in_ok-body.ensures.told)) c.into_loop.ensures.memory;
      found = let F = functions_at c.args.around.now.functions.now in
          let H = rounds_view c.args.rounds.now in
          found_so c.into_loop.result program_stmt_view _ _
          (c.in_ok-head.ensures.found (program_stmt_view c.in_ok-body.body)
          ∙ ap (loop_around F c.args.scope.now c.args.labels.now.next H)
          (rw (ap (λ (a : Around). a.functions) c.in_a_loop.ensures, c.in_ok-head.ensures.entered, c.in_ok-head.ensures.counted) at c.in_ok-body.ensures.found)
          ∙ sym (meaning_of_loop F c.args.scope.now c.args.labels.now.next H (stmt_view c.args.body.now)))
          c.into_loop.ensures.found;
      kept = kept_so c.into_loop.result
          (loop_left c.args.scope.now c.resolve_loop_head.new.scope c.resolve_stmt.new.scope c.leave.new.self (rounds_view c.args.rounds.now)
          c.count-count.result c.outer-outer.result
          c.in_ok-head.ensures.entered c.in_ok-body.ensures.kept c.count-count.ensures c.outer-outer.ensures c.leave.ensures);
      counted = kept_so c.into_loop.result
          (c.keep_oldest.ensures.counted ∙ (rw c.in_ok-head.ensures.counted at c.in_ok-body.ensures.counted)
          ∙ count_of_loop c.args.labels.now.next (rounds_view c.args.rounds.now) (stmt_view c.args.body.now));
      adds = kept_so c.into_loop.result
          (loops c.args.labels.now c.resolve_loop_head.new.labels c.resolve_stmt.new.labels c.keep_oldest.new.self (rounds_view c.args.rounds.now)
          (stmt_view c.args.body.now)
          c.live_count-live.result c.in_ok-head.ensures.labelled c.in_ok-head.ensures.lives c.in_ok-body.ensures.adds c.live_count-live.ensures
          c.keep_oldest.ensures.live
          c.keep_oldest.ensures.labels);
    }

pub resolve_block-returns-in_err-items : goal.resolve_block-returns-in_err-items
resolve_block-returns-in_err-items t c =
    refused c.from_residual.result _ c.from_residual.ensures.1
    (exit_tells _ c.from_residual.result _ c.from_residual.ensures.1 (rw c.enter.ensures at c.in_err-items.ensures.told))

pub resolve_block-returns-in_err-end : goal.resolve_block-returns-in_err-end
resolve_block-returns-in_err-end t c =
    refused c.from_residual-in_err-end.result _ c.from_residual-in_err-end.ensures.1
    (wanting_told _ c.from_residual-in_err-end.result _ c.in_err-end.ensures.memory c.from_residual-in_err-end.ensures.1)

pub resolve_block-returns : goal.resolve_block-returns
resolve_block-returns t c =
    let items = (block_view c.args.block.now).0 in
    record {
      told = rw c.enter.ensures at c.in_ok-items.ensures.told;
      found = block_found c.in_ok-items.items c.in_ok-end.end (functions_at c.args.around.now.functions.now) c.args.scope.now c.args.labels.now.next items
          (block_view c.args.block.now).1
          (rw c.enter.ensures at c.in_ok-items.ensures.found) (c.in_ok-end.ensures.label ∙ c.in_ok-items.ensures.counted);
      kept = block_left c.args.scope.now c.enter.new.self c.resolve_items.new.scope c.leave.new.self c.count-count.result c.outer-outer.result
          c.enter.ensures c.in_ok-items.ensures.extended c.count-count.ensures c.outer-outer.ensures c.leave.ensures;
      counted = block_counted items (block_view c.args.block.now).1 c.args.labels.now.next c.resolve_items.new.labels.next c.add.new.self.next
          c.keep_oldest.new.self.next
          c.in_ok-items.ensures.counted c.in_ok-end.ensures.counted c.keep_oldest.ensures.counted;
      adds = blocks c.args.labels.now c.resolve_items.new.labels c.add.new.self c.keep_oldest.new.self (block_view c.args.block.now).0
          (block_view c.args.block.now).1
          c.live_count-live.result c.in_ok-items.ensures.fills
          (subst (λ (at : Place). Adds c.resolve_items.new.labels c.add.new.self (plain_label at c.resolve_items.new.labels.live ∷ []))
          (block_end c.args.block.now) c.in_ok-end.ensures.adds)
          c.live_count-live.ensures c.keep_oldest.ensures.live c.keep_oldest.ensures.labels;
    }

pub resolve_switch-cases-init : goal.resolve_switch-cases-init
resolve_switch-cases-init t c =
    let all = cases_of (map case_view c.deref-item-items.result.now) in
    selects_none (around_of c.in_a_switch-inside.result) c.args.scope.now c.resolve_switch_head.new.labels all
    c.new-list.result c.new-list.ensures.unseen c.new-list.ensures.items

pub resolve_switch-cases-preserved : goal.resolve_switch-cases-preserved
resolve_switch-cases-preserved t c =
    let xs = c.deref-item-items.result.now in
    let all = cases_of (map case_view xs) in
    let left = cases_of (map case_view (drop c.cases.item-index xs)) in
    let rest = cases_of (map case_view (drop (c.cases.item-index + 1) xs)) in
    let A = around_of c.in_a_switch-inside.result in
    let is = parts_step cases_of case_view xs c.cases.item-index c.item-item.result c.cases-test.true c.item-item.is in
    let start = c.resolve_switch_head.new.labels in
    elim c.match-item.branch [
      | resolve_switch-in-Label+in_ok-add_label-in-Label w ↦ rw (w.list-is, w.scope-is, w.labels-is)
          (selects_label A c.args.scope.now start all left rest c.cases.list c.cases.scope c.cases.labels c.item-item.result is
          c.cases.invariant w.in-Label.label w.in-Label.is w.add_label.new.self
          w.in_ok-add_label-in-Label.ensures.told w.in_ok-add_label-in-Label.ensures.seen w.in_ok-add_label-in-Label.ensures.items)
      | resolve_switch-in-Stated+in_ok-stmt-in-Stated+in_ok-add_statement-in-Stated w ↦ rw (w.list-is, w.scope-is, w.labels-is)
          (selects_stated A c.args.scope.now start all left rest c.cases.list c.cases.scope c.cases.labels c.item-item.result is
          c.cases.invariant w.in-Stated.stmt w.in-Stated.is w.add_statement.new.self w.resolve_stmt.new.scope
          w.resolve_stmt.new.labels w.in_ok-stmt-in-Stated.stmt w.in_ok-stmt-in-Stated.ensures.told w.in_ok-stmt-in-Stated.ensures.found
          w.in_ok-stmt-in-Stated.ensures.kept w.in_ok-stmt-in-Stated.ensures.counted w.in_ok-stmt-in-Stated.ensures.adds
          w.in_ok-add_statement-in-Stated.ensures.seen w.in_ok-add_statement-in-Stated.ensures.items)
    ]

pub resolve_switch-returns-in_err-head : goal.resolve_switch-returns-in_err-head
resolve_switch-returns-in_err-head t c =
    let A = around_of c.args.around.now in
    let value = expr_view c.args.value.now in
    refused c.from_residual.result _ c.from_residual.ensures.1
    (exit_tells _ c.from_residual.result _ c.from_residual.ensures.1
    (value_told A c.args.scope.now c.args.labels.now c.args.place value (cases_view c.args.cases.now) _ c.in_err-head.ensures.told))

pub resolve_switch-returns-in_err-add_label-in-Label : goal.resolve_switch-returns-in_err-add_label-in-Label
resolve_switch-returns-in_err-add_label-in-Label t c =
    let xs = c.deref-item-items.result.now in
    let all = cases_of (map case_view xs) in
    let left = cases_of (map case_view (drop c.cases.item-index xs)) in
    let rest = cases_of (map case_view (drop (c.cases.item-index + 1) xs)) in
    let A = around_of c.in_a_switch-inside.result in
    let is = parts_step cases_of case_view xs c.cases.item-index c.item-item.result c.cases-test.true c.item-item.is in
    let value = expr_view c.args.value.now in
    refused c.from_residual-in_err-add_label-in-Label.result _ c.from_residual-in_err-add_label-in-Label.ensures.1
    (exit_tells _ c.from_residual-in_err-add_label-in-Label.result _ c.from_residual-in_err-add_label-in-Label.ensures.1
    (switch_told (around_of c.args.around.now) c.args.scope.now c.args.labels.now c.args.place value
    (cases_view c.args.cases.now) A all _ c.in_a_switch-inside.ensures
    (all_cases c.args.cases.now xs c.deref-item-items.ensures.value) c.in_ok-head.ensures.told
    (label_told A c.args.scope.now c.resolve_switch_head.new.labels all left rest c.cases.list c.cases.scope c.cases.labels
    c.item-item.result is c.cases.invariant c.in-Label.label c.in-Label.is _ c.in_err-add_label-in-Label.ensures.told)))

pub resolve_switch-returns-in_err-stmt-in-Stated : goal.resolve_switch-returns-in_err-stmt-in-Stated
resolve_switch-returns-in_err-stmt-in-Stated t c =
    let xs = c.deref-item-items.result.now in
    let all = cases_of (map case_view xs) in
    let left = cases_of (map case_view (drop c.cases.item-index xs)) in
    let rest = cases_of (map case_view (drop (c.cases.item-index + 1) xs)) in
    let A = around_of c.in_a_switch-inside.result in
    let is = parts_step cases_of case_view xs c.cases.item-index c.item-item.result c.cases-test.true c.item-item.is in
    let value = expr_view c.args.value.now in
    refused c.from_residual-in_err-stmt-in-Stated.result _ c.from_residual-in_err-stmt-in-Stated.ensures.1
    (exit_tells _ c.from_residual-in_err-stmt-in-Stated.result _ c.from_residual-in_err-stmt-in-Stated.ensures.1
    (switch_told (around_of c.args.around.now) c.args.scope.now c.args.labels.now c.args.place value
    (cases_view c.args.cases.now) A all _ c.in_a_switch-inside.ensures
    (all_cases c.args.cases.now xs c.deref-item-items.ensures.value) c.in_ok-head.ensures.told
    (stated_told A c.args.scope.now c.resolve_switch_head.new.labels all left rest c.cases.list c.cases.scope c.cases.labels
    c.item-item.result is c.cases.invariant c.in-Stated.stmt c.in-Stated.is _ c.in_err-stmt-in-Stated.ensures.told)))

pub resolve_switch-returns : goal.resolve_switch-returns
resolve_switch-returns t c =
    let xs = c.deref-item-items.result.now in
    let all = cases_of (map case_view xs) in
    let left = cases_of (map case_view (drop c.cases.item-index xs)) in
    let A = around_of c.in_a_switch-inside.result in
    let head = c.in_ok-head.head in
    let told = c.in_ok-head.ensures in
    let made = λ (v : Vec ProgramCase Global). switch_of head.label (program_expr_view head.value) (program_cases_of (map program_case_view v.items)) in
    switch_found (around_of c.args.around.now) c.args.scope.now c.args.labels.now c.args.place
    (expr_view c.args.value.now) (cases_view c.args.cases.now) A c.resolve_switch_head.new.labels c.cases.labels all left
    c.cases.list c.cases.scope c.into_switch.result head.label (program_expr_view head.value)
    c.in_a_switch-inside.ensures (all_cases c.args.cases.now xs c.deref-item-items.ensures.value)
    (at_drop_all (λ (ys : List CaseItem). cases_of (map case_view ys)) xs c.cases.item-index c.cases-test.false)
    c.cases.invariant told.told told.label told.found told.counted told.adds
    (c.into_switch.ensures ∙ ap made c.into_items.ensures)
