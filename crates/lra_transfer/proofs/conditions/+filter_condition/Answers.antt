-- Goals of the functions that call each other around `filter_condition`: `filter_condition`, `leave_all`, `leave_any`, `leave_in_turn`, `leave_either`.
use Rattle.std.proofs.Common.{rules, arith, ◌≤◌, length, map, Bool, true, false, sym, ap, ◌∙◌}
use Rattle.std.specs.Prelude.{not}
use Rattle.lra_transfer.specs.Crates.lra_analysis_spec.MovesOf.{comparison_moves, guard}
use Rattle.lra_transfer.specs.Crates.{lra_analysis_spec.Linearization.linearized_difference, lra_base.OperatorViews.comparison_view, lra_base.Operators.Comparison}
use Rattle.lra_program.specs.{Program.nonzero, ProgramViews.all_of, ProgramViews.any_of, ProgramViews.cond_view, ProgramViews.expr_view}
use Rattle.lra_linearize.specs.Conditions.{in_turn_of, either_of}
use Rattle.lra_linearize.proofs.{CondSizes.size_in, CondSteps.all_true, CondSteps.any_false, CondSteps.all_false, CondSteps.any_true}
use Rattle.lra_transfer.proofs.ChainSteps.{turned_on, turned_all, either_all, size_among}
use Rattle.lra_transfer.proofs.SideSteps.{compare_view, nonzero_view, opposite_shown, all_shown, any_shown, leaves_as}
use Rattle.lra_transfer.proofs.conditions.+filter_condition.Goals as goal

pub filter_condition-returns-in-Compare-clause-leaves : goal.filter_condition-returns-in-Compare-clause-leaves
filter_condition-returns-in-Compare-clause-leaves g t c =
    let m = g.D.Domain.abstraction in
    let n = m.dims c.args.value.now in
    let difference = linearized_difference n c.args.base (expr_view c.in-Compare.left) (expr_view c.in-Compare.right) in
    let shown = ap cond_view c.in-Compare.is ∙ compare_view c.in-Compare.op c.in-Compare.left c.in-Compare.right in
    leaves_as m c.filter_comparison.result c.args.value.now c.args.before c.filter_comparison.new.value
    (comparison_moves n (comparison_view c.comparison_where-wanted_one.result) difference)
    (guard n c.args.base c.args.wanted (cond_view c.args.condition.now))
    (ap (guard n c.args.base c.args.wanted) shown ∙ ap (λ (o : Comparison). comparison_moves n o difference) (sym c.comparison_where-wanted_one.ensures))
    c.filter_comparison.ensures.leaves

pub filter_condition-returns-in-Nonzero-clause-leaves : goal.filter_condition-returns-in-Nonzero-clause-leaves
filter_condition-returns-in-Nonzero-clause-leaves g t c =
    let m = g.D.Domain.abstraction in
    let n = m.dims c.args.value.now in
    leaves_as m c.leave_nonzero.result c.args.value.now c.args.before c.leave_nonzero.new.value (guard n c.args.base c.args.wanted (nonzero (expr_view c.in-Nonzero.e)))
    (guard n c.args.base c.args.wanted (cond_view c.args.condition.now))
    (ap (guard n c.args.base c.args.wanted) (ap cond_view c.in-Nonzero.is ∙ nonzero_view c.in-Nonzero.e)) c.leave_nonzero.ensures.leaves

pub filter_condition-returns-in-Opposite-clause-leaves : goal.filter_condition-returns-in-Opposite-clause-leaves
filter_condition-returns-in-Opposite-clause-leaves g t c =
    let m = g.D.Domain.abstraction in
    let n = m.dims c.args.value.now in
    leaves_as m c.filter_condition.result c.args.value.now c.args.before c.filter_condition.new.value
    (guard n c.args.base (not c.args.wanted) (cond_view c.deref.result.now))
    (guard n c.args.base c.args.wanted (cond_view c.args.condition.now))
    (ap (guard n c.args.base c.args.wanted) (opposite_shown c.args.condition.now c.deref.result.now c.in-Opposite.inner c.in-Opposite.is
    c.deref.ensures)) c.filter_condition.ensures.leaves

pub filter_condition-returns-in-All-clause-leaves : goal.filter_condition-returns-in-All-clause-leaves
filter_condition-returns-in-All-clause-leaves g t c =
    let m = g.D.Domain.abstraction in
    let n = m.dims c.args.value.now in
    leaves_as m c.leave_all.result c.args.value.now c.args.before c.leave_all.new.value
    (guard n c.args.base c.args.wanted (all_of (cond_view c.deref-in-All.result.now) (map cond_view c.as_slice.result.now)))
    (guard n c.args.base c.args.wanted (cond_view c.args.condition.now))
    (ap (guard n c.args.base c.args.wanted) (all_shown c.args.condition.now c.deref-in-All.result.now c.as_slice.result.now c.in-All.first
    c.in-All.rest c.deref-in-All.ensures c.as_slice.ensures.value c.in-All.is)) c.leave_all.ensures.leaves

pub filter_condition-returns-in-Any-clause-leaves : goal.filter_condition-returns-in-Any-clause-leaves
filter_condition-returns-in-Any-clause-leaves g t c =
    let m = g.D.Domain.abstraction in
    let n = m.dims c.args.value.now in
    leaves_as m c.leave_any.result c.args.value.now c.args.before c.leave_any.new.value
    (guard n c.args.base c.args.wanted (any_of (cond_view c.deref-in-Any.result.now) (map cond_view c.as_slice-in-Any.result.now)))
    (guard n c.args.base c.args.wanted (cond_view c.args.condition.now))
    (ap (guard n c.args.base c.args.wanted) (any_shown c.args.condition.now c.deref-in-Any.result.now c.as_slice-in-Any.result.now
    c.in-Any.first c.in-Any.rest c.deref-in-Any.ensures c.as_slice-in-Any.ensures.value c.in-Any.is))
    c.leave_any.ensures.leaves

pub leave_all-returns-then-wanted-clause-leaves : goal.leave_all-returns-then-wanted-clause-leaves
leave_all-returns-then-wanted-clause-leaves g t c =
    let m = g.D.Domain.abstraction in
    let n = m.dims c.args.value.now in
    let base = c.args.around.base in
    let first = cond_view c.args.first.now in
    let rest = map cond_view c.args.rest.now in
    leaves_as m c.leave_in_turn.result c.args.value.now c.args.before c.leave_in_turn.new.value
    (in_turn_of n base true first rest) (guard n base c.args.wanted (all_of first rest))
    (ap (λ (b : Bool). guard n base b (all_of first rest)) c.if-wanted.true ∙ all_true n base first rest) c.leave_in_turn.ensures.leaves

pub leave_all-returns-else-wanted-clause-leaves : goal.leave_all-returns-else-wanted-clause-leaves
leave_all-returns-else-wanted-clause-leaves g t c =
    let m = g.D.Domain.abstraction in
    let n = m.dims c.args.value.now in
    let base = c.args.around.base in
    let first = cond_view c.args.first.now in
    let rest = map cond_view c.args.rest.now in
    leaves_as m c.leave_either.result c.args.value.now c.args.before c.leave_either.new.value
    (either_of n base false first rest) (guard n base c.args.wanted (all_of first rest))
    (ap (λ (b : Bool). guard n base b (all_of first rest)) c.if-wanted.false ∙ all_false n base first rest) c.leave_either.ensures.leaves

pub leave_any-returns-then-wanted-clause-leaves : goal.leave_any-returns-then-wanted-clause-leaves
leave_any-returns-then-wanted-clause-leaves g t c =
    let m = g.D.Domain.abstraction in
    let n = m.dims c.args.value.now in
    let base = c.args.around.base in
    let first = cond_view c.args.first.now in
    let rest = map cond_view c.args.rest.now in
    leaves_as m c.leave_either.result c.args.value.now c.args.before c.leave_either.new.value
    (either_of n base true first rest) (guard n base c.args.wanted (any_of first rest))
    (ap (λ (b : Bool). guard n base b (any_of first rest)) c.if-wanted.true ∙ any_true n base first rest) c.leave_either.ensures.leaves

pub leave_any-returns-else-wanted-clause-leaves : goal.leave_any-returns-else-wanted-clause-leaves
leave_any-returns-else-wanted-clause-leaves g t c =
    let m = g.D.Domain.abstraction in
    let n = m.dims c.args.value.now in
    let base = c.args.around.base in
    let first = cond_view c.args.first.now in
    let rest = map cond_view c.args.rest.now in
    leaves_as m c.leave_in_turn.result c.args.value.now c.args.before c.leave_in_turn.new.value
    (in_turn_of n base false first rest) (guard n base c.args.wanted (any_of first rest))
    (ap (λ (b : Bool). guard n base b (any_of first rest)) c.if-wanted.false ∙ any_false n base first rest) c.leave_in_turn.ensures.leaves

pub leave_in_turn-rest-init : goal.leave_in_turn-rest-init
leave_in_turn-rest-init g t c = record { takes = c.in_ok-exactness.ensures.leaves; same = c.in_ok-exactness.ensures.dims }

pub leave_in_turn-filter_condition-requires-in-rest : goal.leave_in_turn-filter_condition-requires-in-rest
leave_in_turn-filter_condition-requires-in-rest g t c κs within =
    let smaller = size_in c.args.first.now c.args.rest.now c.rest.next-index c.next-item.result c.rest-test.true c.next-item.is in
    let same = c.rest.invariant.same in
    (omega (arith, c.decreases, smaller), (search rules, (search rules, omega (arith, same, c.requires))))

pub leave_in_turn-rest-preserved : goal.leave_in_turn-rest-preserved
leave_in_turn-rest-preserved g t c =
    turned_on g.D.Domain.abstraction c.args.around.base c.args.wanted (cond_view c.args.first.now) c.args.rest.now c.rest.next-index c.next-item.result c.args.value.now c.args.before
    c.rest.value c.rest.exactness c.filter_condition-in-rest.new.value c.in_ok-exactness-2.exactness c.rest-test.true c.next-item.is c.rest.invariant c.in_ok-exactness-2.ensures.leaves
    c.in_ok-exactness-2.ensures.dims

pub leave_in_turn-returns-clause-leaves : goal.leave_in_turn-returns-clause-leaves
leave_in_turn-returns-clause-leaves g t c =
    let all : length c.args.rest.now ≤ c.rest.next-index = omega (arith, c.rest-test.false) in
    turned_all g.D.Domain.abstraction c.args.around.base c.args.wanted (cond_view c.args.first.now) c.args.rest.now c.rest.next-index c.args.value.now c.args.before c.rest.value
    c.rest.exactness all c.rest.invariant

pub leave_either-filter_condition-requires : goal.leave_either-filter_condition-requires
leave_either-filter_condition-requires g t c κs within =
    let smaller = size_among c.args.first.now c.args.rest.now (length c.args.rest.now) c.in_ok-apart.apart.last.now (omega arith) c.in_ok-apart.ensures.last in
    let same = c.in_ok-apart.ensures.apart.same in
    (omega (arith, c.decreases, smaller), (search rules, (search rules, search rules)))

pub leave_either-returns-clause-leaves : goal.leave_either-returns-clause-leaves
leave_either-returns-clause-leaves g t c =
    either_all g.D.Domain.abstraction c.args.around.base c.join_lefts.result c.args.wanted (cond_view c.args.first.now) (map cond_view c.args.rest.now)
    (record { value = c.args.value.now; exactness = c.args.before }) c.in_ok-from.from c.in_ok-apart.apart.lefts.items c.in_ok-apart.apart.off (cond_view c.in_ok-apart.apart.last.now)
    (record { value = c.filter_condition.new.value; exactness = c.in_ok-exactness.exactness }) c.join_lefts.new.value c.in_ok-from.ensures
    c.in_ok-apart.ensures.apart
    c.in_ok-exactness.ensures.leaves c.join_lefts.ensures.joined
