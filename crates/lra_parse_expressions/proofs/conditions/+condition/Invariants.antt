use Rattle.std.proofs.Common.{◌≡◌, length, ℕ, ◌+◌, ◌*◌, ◌≤◌, map}
use Rattle.lra_syntax.specs.{Trees.test, Trees.and, Trees.conjunction, Trees.or, Views.test_view, Views.conjunction_view, Views.all_tests, Views.any_conjunction}
use Rattle.lra_parser_spec.specs.{Expressions.next_and, Expressions.next_or, Expressions.test_at, Expressions.conjunction_at, Expressions.cond_at, Reading.loop, Reading.has, Reading.chain_step}
use Rattle.lra_parse_expressions.proofs.conditions.+condition.Given as goal

abbrev pub decreases-read_disjunction : goal.decreases-read_disjunction
decreases-read_disjunction l = 4 * l.depth + 3

abbrev pub decreases-read_conjunction : goal.decreases-read_conjunction
decreases-read_conjunction l = 4 * l.depth + 2

abbrev pub decreases-read_test : goal.decreases-read_test
decreases-read_test l = 4 * l.depth + 1

abbrev pub decreases-read_negation : goal.decreases-read_negation
decreases-read_negation l = 4 * l.depth + 1

abbrev pub decreases-read_opposed : goal.decreases-read_opposed
decreases-read_opposed l = 4 * l.depth

abbrev pub decreases-read_closed : goal.decreases-read_closed
decreases-read_closed l = 4 * l.depth

abbrev pub invariant-read_conjunction-tests : goal.invariant-read_conjunction-tests
invariant-read_conjunction-tests l = record {
  room : length l.left ≤ length l.fn.rest;
  same : (n : ℕ) × (length l.left ≤ n)
      × (loop (λ o. has (next_and o)) (chain_step next_and (λ c k t. and c t) (test_at l.fn.depth)) n (all_tests (test (test_view l.first.value)) (map test_view l.tests.items)) l.left
      ≡ conjunction_at l.fn.depth l.fn.rest);
}

abbrev pub decreases-read_conjunction-tests : goal.decreases-read_conjunction-tests
decreases-read_conjunction-tests l = length l.left

abbrev pub invariant-read_disjunction-conjunctions : goal.invariant-read_disjunction-conjunctions
invariant-read_disjunction-conjunctions l = record {
  room : length l.left ≤ length l.fn.rest;
  same : (n : ℕ) × (length l.left ≤ n)
      × (loop (λ o. has (next_or o)) (chain_step next_or (λ c k d. or c d) (conjunction_at l.fn.depth)) n
      (any_conjunction (conjunction (conjunction_view l.first.value)) (map conjunction_view l.conjunctions.items)) l.left
      ≡ cond_at l.fn.depth l.fn.rest);
}

abbrev pub decreases-read_disjunction-conjunctions : goal.decreases-read_disjunction-conjunctions
decreases-read_disjunction-conjunctions l = length l.left
