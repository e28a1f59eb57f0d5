-- The faults of the operands that are left are those of the whole; what the first ones mean is there.
use Rattle.std.proofs.Common.{◌≡◌, map, take, drop}
use Rattle.std.specs.List.{flat_map}
use Rattle.lra_syntax.specs.{Views.unary_view, Views.term_view, Views.expr_view as tree_expr_view, declared.trees.Expr.out-Expr, declared.trees.Term.out-Term}
use Rattle.lra_program.specs.ProgramViews.{expr_view, operation_view}
use Rattle.lra_resolution_spec.specs.{NameFaults.term_faults, NameFaults.expr_faults, Resolve.resolve_unary, Resolve.resolve_term}
use Rattle.lra_scopes.proofs.ChainLaws.{faults_of_factor, factor_means, faults_of_summand, summand_means}
use Rattle.lra_scopes.proofs.expressions.+expression.Given as goal

abbrev pub invariant-resolve_term-factors : goal.invariant-resolve_term-factors
invariant-resolve_term-factors l = record {
  first : expr_view l.first ≡ resolve_unary l.scope (unary_view (out-Term l.term).first);
  clean : term_faults l.scope (term_view l.term) ≡ flat_map (faults_of_factor l.scope) (drop l.factor-index l.factor-items);
  found : map operation_view l.rest.items ≡ map (factor_means l.scope) (take l.factor-index l.factor-items);
}

abbrev pub invariant-resolve_expr-summands : goal.invariant-resolve_expr-summands
invariant-resolve_expr-summands l = record {
  first : expr_view l.first ≡ resolve_term l.scope (term_view (out-Expr l.expr).first);
  clean : expr_faults l.scope (tree_expr_view l.expr) ≡ flat_map (faults_of_summand l.scope) (drop l.summand-index l.summand-items);
  found : map operation_view l.rest.items ≡ map (summand_means l.scope) (take l.summand-index l.summand-items);
}
