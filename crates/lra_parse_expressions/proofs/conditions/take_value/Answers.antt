-- Goals of `take_value`: the expression that a condition is alone, or else the condition.
use Rattle.std.proofs.Common.{ap, map}
use Rattle.lra_syntax.specs.Views.{expr_view, test_view, conjunction_view, cond_view}
use Rattle.lra_parse_expressions.proofs.Lone.{empty_is, full_is, map_full, lone_value, more_conjunctions, more_tests, other_test}
use Rattle.lra_parse_expressions.proofs.conditions.take_value.Goals as goal

pub returns-then-not-is_empty : goal.returns-then-not-is_empty
returns-then-not-is_empty c =
    more_conjunctions (cond_view c.args.cond) (conjunction_view c.into_parts-first.result.0) (map conjunction_view c.into_parts-first.result.1.items) (test_view c.into_parts-test.result.0)
    (map test_view c.into_parts-test.result.1.items)
    c.into_parts-first.ensures c.into_parts-test.ensures (cond_view c.build_cond.result)
    (map_full conjunction_view c.into_parts-first.result.1.items (full_is c.into_parts-first.result.1 c.is_empty.result c.is_empty.ensures c.if-not-is_empty.true)) c.build_cond.ensures

pub returns-then-not-is_empty-2 : goal.returns-then-not-is_empty-2
returns-then-not-is_empty-2 c =
    more_tests (cond_view c.args.cond) (conjunction_view c.into_parts-first.result.0) (map conjunction_view c.into_parts-first.result.1.items) (test_view c.into_parts-test.result.0)
    (map test_view c.into_parts-test.result.1.items)
    c.into_parts-first.ensures c.into_parts-test.ensures (cond_view c.build_cond-then-not-is_empty-2.result)
    (map_full test_view c.into_parts-test.result.1.items (full_is c.into_parts-test.result.1 c.is_empty-2.result c.is_empty-2.ensures c.if-not-is_empty-2.true))
    c.build_cond-then-not-is_empty-2.ensures

pub returns-in-Ok : goal.returns-in-Ok
returns-in-Ok c =
    lone_value (cond_view c.args.cond) (conjunction_view c.into_parts-first.result.0) (map conjunction_view c.into_parts-first.result.1.items) (test_view c.into_parts-test.result.0)
    (map test_view c.into_parts-test.result.1.items)
    c.into_parts-first.ensures c.into_parts-test.ensures (expr_view c.in-Ok.expr)
    (ap (map conjunction_view) (empty_is c.into_parts-first.result.1 c.is_empty.result c.is_empty.ensures c.if-not-is_empty.false))
    (ap (map test_view) (empty_is c.into_parts-test.result.1 c.is_empty-2.result c.is_empty-2.ensures c.if-not-is_empty-2.false)) c.in-Ok.ensures

pub returns-in-Err : goal.returns-in-Err
returns-in-Err c =
    other_test (cond_view c.args.cond) (conjunction_view c.into_parts-first.result.0) (map conjunction_view c.into_parts-first.result.1.items) (test_view c.into_parts-test.result.0)
    (map test_view c.into_parts-test.result.1.items)
    c.into_parts-first.ensures c.into_parts-test.ensures (cond_view c.build_cond-in-Err.result) (test_view c.in-Err.other)
    (ap (map conjunction_view) (empty_is c.into_parts-first.result.1 c.is_empty.result c.is_empty.ensures c.if-not-is_empty.false))
    (ap (map test_view) (empty_is c.into_parts-test.result.1 c.is_empty-2.result c.is_empty-2.ensures c.if-not-is_empty-2.false)) c.in-Err.ensures.0 c.in-Err.ensures.1 c.build_cond-in-Err.ensures
