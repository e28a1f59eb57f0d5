-- Values of the front end's types, and the trees that they stand for.
use Rattle.std.proofs.Common.{◌≡◌, ℕ, map, rules, Box, Global}
use Rattle.lra_base.specs.{declared.number_types.NumberType.NumberType, declared.refusals.Place.Place}
use Rattle.lra_syntax.specs.Views.{unary_view, unary_step, factor_view, factor_step, term_view, term_step, summand_step, expr_step, product, expr_view, cond_view, stmt_view}
use Rattle.lra_syntax.specs.declared.trees.Stmt.{Stmt, Break, While, the_lemmas as stmt_lemmas}
use Rattle.lra_syntax.specs.declared.trees.Unary.{Unary, Literal, Negated, Element, the_lemmas}
use Rattle.lra_syntax.specs.{declared.trees.Cond.Cond, declared.trees.Expr.Expr, declared.trees.Factor.Factor, declared.trees.FactorOperator.FactorOperator, declared.trees.Identifier.Identifier}
use Rattle.lra_syntax.specs.{declared.trees.SumOperator.SumOperator, declared.trees.Summand.Summand, declared.trees.Term.Term, declared.trees.Unary.TheFolds.fold-roll-Term}
use Rattle.lra_syntax.specs.{declared.trees.Unary.TheOpen.Term-F, declared.trees.Unary.TheViews.roll-Term}
use Rattle.lra_syntax.specs.Trees as tree

literal_view : (t : NumberType) (n : ℕ) → unary_view (Literal t n) ≡ tree.literal t n
literal_view t n = search (rules, the_lemmas)

negated_view : (u : Box Unary Global) → unary_view (Negated u) ≡ tree.negated (unary_view u.value)
negated_view u = search (rules, the_lemmas)

element_view : (x : Identifier) (e : Box Expr Global) → unary_view (Element x e) ≡ tree.element x (expr_view e.value)
element_view x e = search (rules, the_lemmas)

-- a chain is its first operand and the further ones, from the left
chain_view : (t : Term-F Unary Expr Factor Summand Term) → term_view (roll-Term t) ≡ product (tree.unary (unary_view t.first)) (map factor_view t.rest.items)
chain_view = fold-roll-Term tree.UnaryTree tree.ExprTree (FactorOperator × tree.UnaryTree) (SumOperator × tree.TermTree) tree.TermTree unary_step expr_step factor_step summand_step term_step

break_view : (at : Place) → stmt_view (Break at) ≡ tree.break at
break_view at = search (rules, stmt_lemmas)

while_view : (at : Place) (c : Cond) (b : Box Stmt Global) → stmt_view (While at c b) ≡ tree.while at (cond_view c) (stmt_view b.value)
while_view at c b = search (rules, stmt_lemmas)
