-- Goals of the functions that call each other around `statement`: `finish`, `read_block`, `read_braces`, `read_branch`,
-- `read_item`, `read_stated`.
use Rattle.std.proofs.{Common.List, Common.Bor, Common.subst, Common.Ok, Common.sym, Common.ap, Common.◌∙◌, Common.◌-◌, Common.arith, Common.refl, Common.map, lemmas.Result.err_from_is_err_and}
use Rattle.lra_parse_statements.specs.Crates.lra_base.declared.refusals.Place.{Place}
use Rattle.lra_syntax.specs.Views.{block_view, stmt_view, case_view, cases_of, cases_view}
use Rattle.lra_syntax.specs.{Trees.StmtTree, Trees.ItemsTree, declared.tokens.Token.Token, declared.trees.Block.Block}
use Rattle.lra_syntax.specs.declared.tokens.Mark.TheVariants as mark
use Rattle.lra_parser_spec.specs.{Reading.Read, Reading.ParsesAs, Reading.expect, Statements.branch_at, Statements.braces_at, Statements.stated_at}
use Rattle.lra_parse_expressions.proofs.Turning.{ok_shorter, gives_same, exit_gives}
use Rattle.lra_parse_heads.specs.Begun.{begun_rest}
use Rattle.lra_parse_statements.proofs.Stated.{state_start, state_turn, block_exit, block_closes, branch_block, branch_simple, item_other, stated_block, stated_simple}
use Rattle.lra_parse_statements.proofs.Braces as braces
use Rattle.lra_parse_statements.proofs.statements.+statement.Goals as goal

pub read_block-items-init : goal.read_block-items-init
read_block-items-init t c = record {
  room = c.in_ok-left.ensures.shorter;
  state = state_start (c.args.depth - 1) c.new-items.result.items c.in_ok-left.left.now c.new-items.ensures.items;
}

pub read_block-items-preserved : goal.read_block-items-preserved
read_block-items-preserved t c = record {
  room = omega (arith, c.in_ok-item.ensures.shorter);
  state = state_turn (c.args.depth - 1) c.items.items.items c.push_boxed.new.list.items c.in_ok-item.item.value c.items.left.now c.in_ok-item.after.now _
      c.in_ok-push_boxed.ensures c.items.invariant.state
      c.items-test.ensures c.in_ok-item.ensures.gives c.in_ok-item.ensures.shorter;
}

pub read_block-returns-in_err-item-clause-gives : goal.read_block-returns-in_err-item-clause-gives
read_block-returns-in_err-item-clause-gives t c =
    let p = err_from_is_err_and c.from_residual-in_err-item.result c.from_residual-in_err-item.ensures.1 in
    rw (p.1, p.2) (block_exit (c.args.depth - 1) c.args.depth c.items.items.items c.args.rest.now c.in_ok-left.left.now c.items.left.now
    c.in_err-item.field-0.0 c.if-depth-eq0.false refl
    c.in_ok-left.ensures.gives c.items.invariant.state c.items-test.ensures c.in_err-item.ensures.gives)

pub read_block-returns-clause-shorter : goal.read_block-returns-clause-shorter
read_block-returns-clause-shorter t c = ok_shorter c.read_close.result c.items.left.now c.args.rest.now c.items.invariant.room c.read_close.ensures.shorter

pub read_block-returns-clause-gives : goal.read_block-returns-clause-gives
read_block-returns-clause-gives t c =
    subst (λ (r : Read (ItemsTree × Place)). ParsesAs (λ (x : Block × Bor (List Token)). (block_view x.0, x.1.now)) c.read_close.result r)
    (sym (block_closes (c.args.depth - 1) c.args.depth c.items.items.items c.args.rest.now c.in_ok-left.left.now c.items.left.now c.if-depth-eq0.false refl
    c.in_ok-left.ensures.gives
    c.items.invariant.state c.items-test.ensures))
    c.read_close.ensures.gives

pub read_branch-returns-then-next_is-clause-gives : goal.read_branch-returns-then-next_is-clause-gives
read_branch-returns-then-next_is-clause-gives t c =
    branch_block c.args.depth c.args.rest.now c.in_ok-block.after.now (block_view c.in_ok-block.block) c.if-depth-eq0.false c.if-next_is.ensures c.in_ok-block.ensures.gives
    ∙ ap (λ (s : StmtTree). Ok (s, c.in_ok-block.after.now)) (sym c.in_ok-stmt.ensures)

pub read_stated-returns-then-next_is-clause-gives : goal.read_stated-returns-then-next_is-clause-gives
read_stated-returns-then-next_is-clause-gives t c =
    stated_block c.args.depth c.args.rest.now c.in_ok-block.behind.now (block_view c.in_ok-block.block) c.if-next_is.ensures c.in_ok-block.ensures.gives
    ∙ ap (λ (s : StmtTree). Ok (s, c.in_ok-block.behind.now)) (sym c.in_ok-stmt.ensures)

pub read_item-returns-clause-gives : goal.read_item-returns-clause-gives
read_item-returns-clause-gives t c =
    item_other c.args.depth c.args.rest.now c.in_ok-stmt.left.now (stmt_view c.in_ok-stmt.stmt.value) c.if-next_is_type.ensures c.in_ok-stmt.ensures.gives
    ∙ ap (λ (i : ItemsTree → ItemsTree). Ok (i, c.in_ok-stmt.left.now)) (sym c.in_ok-item.ensures)

pub finish-returns-in_ok-whole-in-UpToBraces-clause-gives : goal.finish-returns-in_ok-whole-in-UpToBraces-clause-gives
finish-returns-in_ok-whole-in-UpToBraces-clause-gives t c =
    braces.braces_read c.args.depth c.args.begun c.in-UpToBraces.head c.in-UpToBraces.is c.args.rest.now c.in_ok-cases-in-UpToBraces.end.now
    (cases_view c.in_ok-cases-in-UpToBraces.cases) (stmt_view c.in_ok-whole-in-UpToBraces.whole.value) c.in_ok-cases-in-UpToBraces.ensures.gives
    c.in_ok-whole-in-UpToBraces.ensures

pub finish-returns-in_err-cases-in-UpToBraces-clause-gives : goal.finish-returns-in_err-cases-in-UpToBraces-clause-gives
finish-returns-in_err-cases-in-UpToBraces-clause-gives t c =
    exit_gives _ c.from_residual-in_err-cases-in-UpToBraces.result _ _ c.from_residual-in_err-cases-in-UpToBraces.ensures.1
    (braces.braces_exit c.args.depth c.args.begun c.in-UpToBraces.head c.in-UpToBraces.is c.args.rest.now c.in_err-cases-in-UpToBraces.field-0.0
    c.in_err-cases-in-UpToBraces.ensures.gives)

pub read_stated-returns-clause-gives : goal.read_stated-returns-clause-gives
read_stated-returns-clause-gives t c = gives_same _ c.finish.result (begun_rest c.args.depth c.in_ok-begun.begun c.in_ok-begun.behind.now) (stated_at
    c.args.depth c.args.rest.now)
    (stated_simple c.args.depth c.args.rest.now c.if-next_is.ensures ∙ c.in_ok-begun.ensures.gives) c.finish.ensures.gives

pub read_branch-returns-clause-gives : goal.read_branch-returns-clause-gives
read_branch-returns-clause-gives t c = gives_same _ c.finish.result (begun_rest (c.args.depth - 1) c.in_ok-begun.begun c.in_ok-begun.behind.now) (branch_at
    c.args.depth c.args.rest.now)
    (branch_simple c.args.depth c.args.rest.now c.if-depth-eq0.false c.if-next_is.ensures ∙ c.in_ok-begun.ensures.gives) c.finish.ensures.gives

pub read_braces-cases-init : goal.read_braces-cases-init
read_braces-cases-init t c = record {
  room = c.in_ok-items.ensures.shorter;
  state = braces.opened_start (c.args.depth - 1) c.args.rest.now c.in_ok-items.left.now (map case_view c.in_ok-items.items.items) c.in_ok-items.more
      c.in_ok-items.ensures.gives;
}

pub read_braces-cases-preserved : goal.read_braces-cases-preserved
read_braces-cases-preserved t c = record {
  room = omega (arith, c.in_ok-labels.ensures.shorter, c.in_ok-stmt.ensures.shorter, c.cases.invariant.room);
  state = braces.opened_turn (c.args.depth - 1) (map case_view c.cases.items.items) (map case_view c.push_labelled.new.items.items) c.cases.more
      c.cases.left.now c.in_ok-labels.at.now c.in_ok-stmt.after.now c.args.rest.now c.in_ok-labels.labels.items (stmt_view c.in_ok-stmt.stmt.value)
      c.begins_case-more.result c.cases.invariant.state c.cases-test.true c.in_ok-labels.ensures.gives c.in_ok-stmt.ensures.gives
      c.in_ok-push_labelled.ensures (omega (arith, c.in_ok-labels.ensures.shorter, c.in_ok-stmt.ensures.shorter)) c.begins_case-more.ensures;
}

pub read_braces-returns-in_err-items-clause-gives : goal.read_braces-returns-in_err-items-clause-gives
read_braces-returns-in_err-items-clause-gives t c = exit_gives _ c.from_residual.result _ _ c.from_residual.ensures.1
    (braces.some_exit c.args.depth c.args.rest.now c.in_err-items.field-0.0 c.if-depth-eq0.false
    (braces.opened_exit (c.args.depth - 1) c.args.rest.now c.in_err-items.field-0.0 c.in_err-items.ensures.gives))

pub read_braces-returns-in_err-labels-clause-gives : goal.read_braces-returns-in_err-labels-clause-gives
read_braces-returns-in_err-labels-clause-gives t c = exit_gives _ c.from_residual-in_err-labels.result _ _ c.from_residual-in_err-labels.ensures.1
    (braces.some_exit c.args.depth c.args.rest.now c.in_err-labels.field-0.0 c.if-depth-eq0.false
    (braces.labels_exit (c.args.depth - 1) (map case_view c.cases.items.items) c.cases.more c.args.rest.now c.cases.left.now
    c.in_err-labels.field-0.0 c.cases.invariant.state c.cases-test.true c.in_err-labels.ensures.gives))

pub read_braces-returns-in_err-stmt-clause-gives : goal.read_braces-returns-in_err-stmt-clause-gives
read_braces-returns-in_err-stmt-clause-gives t c = exit_gives _ c.from_residual-in_err-stmt.result _ _ c.from_residual-in_err-stmt.ensures.1
    (braces.some_exit c.args.depth c.args.rest.now c.in_err-stmt.field-0.0 c.if-depth-eq0.false
    (braces.stated_exit (c.args.depth - 1) (map case_view c.cases.items.items) c.cases.more c.args.rest.now c.cases.left.now c.in_ok-labels.at.now
    c.in_ok-labels.labels.items c.in_err-stmt.field-0.0 c.cases.invariant.state c.cases-test.true c.in_ok-labels.ensures.gives
    c.in_err-stmt.ensures.gives))

pub read_braces-returns-clause-shorter : goal.read_braces-returns-clause-shorter
read_braces-returns-clause-shorter t c = ok_shorter c.close_cases.result c.cases.left.now c.args.rest.now c.cases.invariant.room c.close_cases.ensures.shorter

pub read_braces-returns-clause-gives : goal.read_braces-returns-clause-gives
read_braces-returns-clause-gives t c = gives_same _ c.close_cases.result
    (expect mark.CloseBrace (cases_of (map case_view c.cases.items.items)) c.cases.left.now) (braces_at c.args.depth c.args.rest.now)
    (braces.braces_some c.args.depth c.args.rest.now c.if-depth-eq0.false
    ∙ braces.braces_close (c.args.depth - 1) (map case_view c.cases.items.items) c.cases.more c.args.rest.now c.cases.left.now c.cases.invariant.state
    c.cases-test.false)
    c.close_cases.ensures.gives
