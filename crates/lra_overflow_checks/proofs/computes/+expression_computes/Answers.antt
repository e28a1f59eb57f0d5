-- Goals of `expression_computes`: a chain without operators is its first operand.
use Rattle.std.proofs.{Common.◌≡◌, Common.◌∙◌, Common.ap, Common.sym, Common.not, Common.length, Common.arith, lemmas.Grind.common_steps}
use Rattle.lra_program.specs.{Overflow.expr_computes, ProgramViews.expr_view}
use Rattle.lra_program.specs.declared.program.Expr as declared
use Rattle.lra_overflow_checks.proofs.ComputesSteps.{chain_view, chain_of_none, chain_of_some}
use Rattle.lra_overflow_checks.proofs.computes.+expression_computes.Goals as goal

pub returns-then-not-is_empty : goal.returns-then-not-is_empty
returns-then-not-is_empty t c =
    let os = c.in-Chain.operations in
    let some : length os.items ≡ 0 → ⊥ = λ none. grind (arith, common_steps) in
    ap not c.if-not-is_empty.true ∙ sym (chain_of_some (expr_view c.in-Chain.first.value) os.items some) ∙
    sym (ap (λ (e : declared.Expr). expr_computes (expr_view e)) c.in-Chain.is ∙ ap expr_computes (chain_view c.in-Chain.first os))

pub returns-else-not-is_empty : goal.returns-else-not-is_empty
returns-else-not-is_empty t c =
    let os = c.in-Chain.operations in
    let none : length os.items ≡ 0 = grind (arith, common_steps) in
    c.expression_computes.ensures ∙ ap (λ (e : declared.Expr). expr_computes (expr_view e)) c.deref.ensures ∙
    sym (chain_of_none (expr_view c.in-Chain.first.value) os.items none) ∙
    sym (ap (λ (e : declared.Expr). expr_computes (expr_view e)) c.in-Chain.is ∙ ap expr_computes (chain_view c.in-Chain.first os))
