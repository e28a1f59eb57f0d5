-- Goals of the functions that call each other around `push_condition`: a chain's accesses are those of its first condition
-- and then those of the others.
use Rattle.std.proofs.Common.{◌∙◌, List, refl, ap, map}
use Rattle.lra_program.specs.declared.program.Cond as declared
use Rattle.lra_program.specs.{Accesses.cond_accesses, ProgramViews.cond_view}
use Rattle.lra_bounds_checks.proofs.Crates.lra_linearize.CondSteps.{all_view, any_view}
use Rattle.lra_bounds_checks.specs.Listed.{access_view, side_accesses}
use Rattle.lra_bounds_checks.proofs.ListedSteps.{all_accesses, any_accesses, next_behind, ok_behind}
use Rattle.lra_bounds_checks.proofs.listing.+conditions.Goals as goal

pub push_condition-returns-in_ok-push_condition-in-All : goal.push_condition-returns-in_ok-push_condition-in-All
push_condition-returns-in_ok-push_condition-in-All t c =
    let first = cond_view c.in-All.first.value in
    let others = map cond_view c.in-All.rest.items in
    ok_behind c.push_sides.result (map access_view c.args.all.now.items) (map access_view c.push_condition-in-All.new.all.items)
    (map access_view c.push_sides.new.all.items) (cond_accesses first) (side_accesses others) (cond_accesses (cond_view c.args.condition.now))
    (rw c.deref-in-All.ensures at c.in_ok-push_condition-in-All.ensures) (rw c.as_slice.ensures.value at c.push_sides.ensures)
    (ap (λ (d : declared.Cond). cond_accesses (cond_view d)) c.in-All.is ∙ ap cond_accesses (all_view c.in-All.first c.in-All.rest) ∙ all_accesses first others)

pub push_condition-returns-in_ok-push_condition-in-Any : goal.push_condition-returns-in_ok-push_condition-in-Any
push_condition-returns-in_ok-push_condition-in-Any t c =
    let first = cond_view c.in-Any.first.value in
    let others = map cond_view c.in-Any.rest.items in
    ok_behind c.push_sides-in-Any.result (map access_view c.args.all.now.items) (map access_view c.push_condition-in-Any.new.all.items)
    (map access_view c.push_sides-in-Any.new.all.items) (cond_accesses first) (side_accesses others) (cond_accesses (cond_view c.args.condition.now))
    (rw c.deref-in-Any.ensures at c.in_ok-push_condition-in-Any.ensures) (rw c.as_slice-in-Any.ensures.value at c.push_sides-in-Any.ensures)
    (ap (λ (d : declared.Cond). cond_accesses (cond_view d)) c.in-Any.is ∙ ap cond_accesses (any_view c.in-Any.first c.in-Any.rest) ∙ any_accesses first others)

pub push_sides-conditions-preserved : goal.push_sides-conditions-preserved
push_sides-conditions-preserved t c =
    next_behind (λ (d : declared.Cond). cond_accesses (cond_view d)) (λ (ds : List declared.Cond). side_accesses (map cond_view ds)) (λ d ds. refl)
    (map access_view c.conditions.all.items) (map access_view c.push_condition.new.all.items) _ c.args.conditions.now c.conditions.condition-index
    c.condition-item.result c.conditions-test.true c.condition-item.is c.conditions.invariant c.in_ok-push_condition.ensures
