use Rattle.std.proofs.Common.{◌≡◌, length, ℕ, ◌+◌, ◌*◌, ◌≤◌, map}
use Rattle.lra_syntax.specs.{Trees.unary, Trees.term, Views.unary_view, Views.term_view, Views.factor_view, Views.summand_view, Views.product, Views.sum_of, Views.further_factor, Views.further_term}
use Rattle.lra_parser_spec.specs.Expressions.{factor_operator, sum_operator, unary_at, term_of, factors, summands}
use Rattle.lra_parser_spec.specs.Reading.{loop, has, chain_step}
use Rattle.lra_parse_expressions.proofs.expressions.+expression.Given as goal

abbrev pub decreases-read_expr : goal.decreases-read_expr
decreases-read_expr l = 7 * l.depth + 6

abbrev pub decreases-read_summands : goal.decreases-read_summands
decreases-read_summands l = 7 * l.depth + 5

abbrev pub decreases-read_term : goal.decreases-read_term
decreases-read_term l = 7 * l.depth + 4

abbrev pub decreases-read_factors : goal.decreases-read_factors
decreases-read_factors l = 7 * l.depth + 3

abbrev pub decreases-read_unary : goal.decreases-read_unary
decreases-read_unary l = 7 * l.depth + 2

abbrev pub decreases-read_negated : goal.decreases-read_negated
decreases-read_negated l = 7 * l.depth

abbrev pub decreases-read_positive : goal.decreases-read_positive
decreases-read_positive l = 7 * l.depth

abbrev pub decreases-read_named : goal.decreases-read_named
decreases-read_named l = 7 * l.depth + 1

abbrev pub decreases-read_index : goal.decreases-read_index
decreases-read_index l = 7 * l.depth

abbrev pub decreases-read_group : goal.decreases-read_group
decreases-read_group l = 7 * l.depth

abbrev pub invariant-read_factors-factors : goal.invariant-read_factors-factors
invariant-read_factors-factors l = record {
  room : length l.left ≤ length l.fn.rest;
  kept : l.first ≡ l.fn.first;
  same : (n : ℕ) × (length l.left ≤ n)
      × (loop (λ o. has (factor_operator o)) (chain_step factor_operator further_factor (unary_at l.fn.depth)) n (product (unary (unary_view l.fn.first)) (map factor_view l.factors.items)) l.left
      ≡ factors (unary_at l.fn.depth) (unary (unary_view l.fn.first)) l.fn.rest);
}

abbrev pub decreases-read_factors-factors : goal.decreases-read_factors-factors
decreases-read_factors-factors l = length l.left

abbrev pub invariant-read_summands-summands : goal.invariant-read_summands-summands
invariant-read_summands-summands l = record {
  room : length l.left ≤ length l.fn.rest;
  same : (n : ℕ) × (length l.left ≤ n)
      × (loop (λ o. has (sum_operator o)) (chain_step sum_operator further_term (term_of (unary_at l.fn.depth))) n (sum_of (term (term_view l.first)) (map summand_view l.summands.items)) l.left
      ≡ summands (unary_at l.fn.depth) (term (term_view l.first)) l.fn.rest);
}

abbrev pub decreases-read_summands-summands : goal.decreases-read_summands-summands
decreases-read_summands-summands l = length l.left
