-- Goals of the functions that call each other around `judge_expression`: what is computed of a chain's operands so far.
use Rattle.std.proofs.Common.{rules, ◌≡◌, ◌∙◌, ◌≤◌, List, refl, ap, map, sym, length, arith}
use Rattle.lra_overflow_checks.specs.Crates.lra_base.declared.number_types.NumberType.TheVariants.{Long}
use Rattle.lra_program.specs.ProgramViews.{chained, expr_view, operation_view, variable_view}
use Rattle.lra_program.specs.{Program.literal, Program.read, Program.input, Program.negate, Program.element, declared.program.Expr.the_lemmas, declared.program.Operation.Operation}
use Rattle.lra_program.specs.declared.program.Expr as declared
use Rattle.lra_overflow_checks.proofs.ExpressionSteps.{literal_view, read_view, input_view, negate_view, element_seen, form_is_wide, leaf_computed, sign_behind, chain_behind, element_behind}
use Rattle.lra_overflow_checks.proofs.{ComputesSteps.chain_view, ExpressionSteps.chain_computed, ExpressionSteps.chain_whole}
use Rattle.lra_overflow_checks.proofs.expressions.+judge.Goals as goal

pub judge_chain-operations-init : goal.judge_chain-operations-init
judge_chain-operations-init g t c = record { wide = c.requires.wide; computed = λ e before one. one }

pub judge_chain-judge_operator-requires-clause-left : goal.judge_chain-judge_operator-requires-clause-left
judge_chain-judge_operator-requires-clause-left g t c = c.operations.invariant.wide

pub judge_chain-judge_operator-requires-clause-right : goal.judge_chain-judge_operator-requires-clause-right
judge_chain-judge_operator-requires-clause-right g t c =
    form_is_wide (g.D.Domain.abstraction.dims c.args.value.now) c.args.base (expr_view c.operation-item.result.operand) c.in_ok-right.right.form
    c.in_ok-right.ensures.form

pub judge_chain-operations-preserved : goal.judge_chain-operations-preserved
judge_chain-operations-preserved g t c = record {
  wide = c.in_ok-so_far.ensures.wide;
  computed = chain_computed g.D.Domain.abstraction c.args.value.now c.args.base c.args.first c.operations.so_far c.in_ok-right.right c.in_ok-so_far.so_far
      c.args.operations.now c.operations.operation-index c.operation-item.result c.args.answers.now.items c.operations.answers.items
      c.judge_expression.new.answers.items c.judge_operator.new.answers.items c.operations-test.true c.operation-item.is c.operations.invariant.computed
      c.in_ok-right.ensures (c.in_ok-so_far.ensures.computes c.args.base);
}

pub judge_chain-returns : goal.judge_chain-returns
judge_chain-returns g t c =
    let past : length c.args.operations.now ≤ c.operations.operation-index = omega (arith, c.operations-test.false) in
    chain_whole g.D.Domain.abstraction c.args.value.now c.args.base c.args.first c.operations.so_far c.args.operations.now c.operations.operation-index
    c.args.answers.now.items c.operations.answers.items past c.operations.invariant.computed

pub judge_expression-judge_sign-requires : goal.judge_expression-judge_sign-requires
judge_expression-judge_sign-requires g t c =
    form_is_wide (g.D.Domain.abstraction.dims c.args.value.now) c.args.base (expr_view c.deref.result.now) c.in_ok-computed-in-Negate.computed.form
    c.in_ok-computed-in-Negate.ensures.form

pub judge_expression-judge_chain-requires : goal.judge_expression-judge_chain-requires
judge_expression-judge_chain-requires g t c κs within =
    let wide = form_is_wide (g.D.Domain.abstraction.dims c.args.value.now) c.args.base (expr_view c.deref-in-Chain.result.now)
    c.in_ok-computed-in-Chain.computed.form c.in_ok-computed-in-Chain.ensures.form in
    (search (rules, the_lemmas), (search rules, (search rules, (c.requires, wide))))

pub judge_expression-returns-in-Literal : goal.judge_expression-returns-in-Literal
judge_expression-returns-in-Literal g t c =
    let number_type = c.in-Literal.number_type in
    leaf_computed g.D.Domain.abstraction c.args.value.now c.args.base c.judge_leaf.result (expr_view c.args.e.now) (literal number_type c.in-Literal.field-1)
    c.args.answers.now.items number_type (ap expr_view c.in-Literal.is ∙ literal_view number_type c.in-Literal.field-1) refl refl c.judge_leaf.ensures

pub judge_expression-returns-in-Read : goal.judge_expression-returns-in-Read
judge_expression-returns-in-Read g t c =
    let x = c.in-Read.variable in
    leaf_computed g.D.Domain.abstraction c.args.value.now c.args.base c.judge_leaf-in-Read.result (expr_view c.args.e.now) (read (variable_view x))
    c.args.answers.now.items x.number_type (ap expr_view c.in-Read.is ∙ read_view x) refl refl c.judge_leaf-in-Read.ensures

pub judge_expression-returns-in-Input : goal.judge_expression-returns-in-Input
judge_expression-returns-in-Input g t c =
    leaf_computed g.D.Domain.abstraction c.args.value.now c.args.base c.judge_leaf-in-Input.result (expr_view c.args.e.now) input
    c.args.answers.now.items Long (ap expr_view c.in-Input.is ∙ input_view) refl refl c.judge_leaf-in-Input.ensures

pub judge_expression-returns-in_ok-computed-in-Negate : goal.judge_expression-returns-in_ok-computed-in-Negate
judge_expression-returns-in_ok-computed-in-Negate g t c =
    let inner = c.in-Negate.inner in
    let is : expr_view c.args.e.now ≡ negate (expr_view c.deref.result.now) =
    ap expr_view c.in-Negate.is ∙ negate_view inner ∙ ap (λ (e : declared.Expr). negate (expr_view e)) (sym c.deref.ensures) in
    sign_behind g.D.Domain.abstraction c.args.value.now c.args.base c.judge_sign.result (expr_view c.args.e.now) (expr_view c.deref.result.now)
    c.args.answers.now.items c.judge_expression.new.answers.items c.judge_sign.new.answers.items c.in_ok-computed-in-Negate.computed is
    c.in_ok-computed-in-Negate.ensures c.judge_sign.ensures

pub judge_expression-returns-in_ok-computed-in-Chain : goal.judge_expression-returns-in_ok-computed-in-Chain
judge_expression-returns-in_ok-computed-in-Chain g t c =
    let first = c.deref-in-Chain.result.now in
    let os = c.as_slice.result.now in
    let is : expr_view c.args.e.now ≡ chained (expr_view first) (map operation_view os) =
    ap expr_view c.in-Chain.is ∙ chain_view c.in-Chain.first c.in-Chain.operations ∙
    ap (λ (e : declared.Expr). chained (expr_view e) (map operation_view c.in-Chain.operations.items)) (sym c.deref-in-Chain.ensures) ∙
    ap (λ (xs : List Operation). chained (expr_view first) (map operation_view xs)) (sym c.as_slice.ensures.value) in
    chain_behind g.D.Domain.abstraction c.args.value.now c.args.base c.judge_chain.result (expr_view c.args.e.now) (expr_view first) (map operation_view os)
    c.args.answers.now.items c.judge_expression-in-Chain.new.answers.items c.judge_chain.new.answers.items c.in_ok-computed-in-Chain.computed is
    c.in_ok-computed-in-Chain.ensures c.judge_chain.ensures

pub judge_expression-returns-in_ok-_index-in-Element : goal.judge_expression-returns-in_ok-_index-in-Element
judge_expression-returns-in_ok-_index-in-Element g t c =
    let a = c.in-Element.array in
    let p = c.in-Element.field-1 in
    let is : expr_view c.args.e.now ≡ element a p (expr_view c.deref-in-Element.result.now) =
    ap expr_view c.in-Element.is ∙ element_seen a p c.in-Element.index ∙
    ap (λ (e : declared.Expr). element a p (expr_view e)) (sym c.deref-in-Element.ensures) in
    element_behind g.D.Domain.abstraction c.args.value.now c.args.base (expr_view c.args.e.now) (expr_view c.deref-in-Element.result.now) a p
    c.args.answers.now.items c.judge_expression-in-Element.new.answers.items c.in_ok-_index-in-Element._index is c.in_ok-_index-in-Element.ensures
