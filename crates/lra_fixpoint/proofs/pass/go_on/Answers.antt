-- Goals of `go_on`: the next step at a place, after what the tree under way there gave.
use Rattle.std.proofs.{Common.◌≡◌, Common.◌+◌, Common.◌<◌, Common.◌^◌, Common.sym, Common.subst, Common.arith, lemmas.Result.IfOk-weaker}
use Rattle.std.specs.Prelude.{IfOk}
use Rattle.lra_operations.specs.TreeViews.{exit_view}
use Rattle.lra_pass_stack.specs.{Stack.IsBranch, Stack.IsGrowing, Stack.IsMade, Stack.IsNarrowing, Stack.IsPassFrame, Stack.IsSelect, StepsLeft.next_left, StepsLeft.place_left, StepsLeft.rounds_left}
use Rattle.lra_pass_stack.specs.{StepsLeft.turns_left, declared.stack.GrowingFrame.GrowingFrame, declared.stack.NarrowingFrame.NarrowingFrame}
use Rattle.lra_pass_results.specs.Outcome.{outcome_view, AreInTurn, AreBranchesJoined, Catches}
use Rattle.lra_pass_stack.proofs.{OpenFrames.branches_made, OpenFrames.branches_meet, OpenFrames.catch_made, OpenFrames.jumps_have, OpenFrames.last_made, SelectSteps.place_falls}
use Rattle.lra_pass_results.proofs.PassSteps.{if_both}
use Rattle.lra_fixpoint.proofs.RoundSteps.{ends_less}
use Rattle.lra_fixpoint.proofs.pass.go_on.Goals as goal

-- rows ----------------------------------------------------------------------------------------------------------------

pub go_on_row-requires : goal.go_on_row-requires
go_on_row-requires g c =
    let given = c.requires in
    let here = subst (λ p. IsPassFrame (g.F.Interfere.interference given.0) g.D.Domain.abstraction given.1 p given.2 given.3) c.in-Row.is given.5 in
    (given.0, given.1, given.2, given.3, c.args.memory.now, given.7, given.4, here, given.6)

pub returns-in-Row-clause-leads : goal.returns-in-Row-clause-leads
returns-in-Row-clause-leads g c others set whole part may owed made =
    let here = subst (λ p. IsPassFrame (g.F.Interfere.interference others) g.D.Domain.abstraction set p whole part) c.in-Row.is owed in
    c.go_on_row.ensures.leads others set whole part c.args.memory.now may here made

pub returns-in-Row-clause-falls : goal.returns-in-Row-clause-falls
returns-in-Row-clause-falls g c others set whole part owed =
    let m = g.D.Domain.abstraction in
    subst (λ p. IfOk c.go_on_row.result (λ n. next_left m (2 ^ 64) set n < place_left m (2 ^ 64) set p)) (sym c.in-Row.is)
    (c.go_on_row.ensures.falls (2 ^ 64) set)

pub returns-in-Last-clause-leads : goal.returns-in-Last-clause-leads
returns-in-Last-clause-leads g c others set whole part may owed made =
    let m = g.D.Domain.abstraction in
    let here = subst (λ p. IsPassFrame (g.F.Interfere.interference others) m set p whole part) c.in-Last.is owed in
    c.passed.ensures.leads others set whole c.args.memory.now (IfOk-weaker c.follow_with.result
    (λ r. AreInTurn c.in-Last.found c.args.outcome.found r.found × (r.normal ≡ c.args.outcome.normal) ×
    (r.flag ≡ c.args.outcome.flag)) (λ r. IsMade (g.F.Interfere.interference others) m set whole (outcome_view r) c.args.memory.now)
    (λ r taken. last_made (g.F.Interfere.interference others) m set c.in-Last.found whole part c.args.memory.now c.args.outcome r here made taken.0 taken.1
    taken.2)
    c.follow_with.ensures)

pub returns-in-Last-clause-falls : goal.returns-in-Last-clause-falls
returns-in-Last-clause-falls g c others set whole part owed =
    let m = g.D.Domain.abstraction in
    ends_less m set c.passed.result (2 ^ 64) (place_left m (2 ^ 64) set c.args.place)
    (subst (λ p. 0 < place_left m (2 ^ 64) set p) (sym c.in-Last.is) (omega arith)) (c.passed.ensures.ends (2 ^ 64) set)

-- choices -------------------------------------------------------------------------------------------------------------

pub returns-in-Choice-clause-leads : goal.returns-in-Choice-clause-leads
returns-in-Choice-clause-leads g c others set whole part may owed made =
    let here = subst (λ p. IsPassFrame (g.F.Interfere.interference others) g.D.Domain.abstraction set p whole part) c.in-Choice.is owed in
    c.go_on_choice.ensures.leads others set whole part c.args.memory.now may here made

pub returns-in-Choice-clause-falls : goal.returns-in-Choice-clause-falls
returns-in-Choice-clause-falls g c others set whole part owed =
    let m = g.D.Domain.abstraction in
    subst (λ p. IfOk c.go_on_choice.result (λ n. next_left m (2 ^ 64) set n < place_left m (2 ^ 64) set p))
    (sym c.in-Choice.is) (c.go_on_choice.ensures.falls (2 ^ 64) set)

pub join_branches-requires : goal.join_branches-requires
join_branches-requires g c =
    let m = g.D.Domain.abstraction in
    let given = c.requires in
    let here = subst (λ p. IsPassFrame (g.F.Interfere.interference given.0) m given.1 p given.2 given.3) c.in-Branch.is given.5 in
    branches_meet (g.F.Interfere.interference given.0) m given.1 c.into_inner.result given.2 given.3
    (subst (λ x. IsBranch (g.F.Interfere.interference given.0) m given.1 x given.2 given.3) (sym c.into_inner.ensures) here)
    c.args.outcome c.args.memory.now given.6 given.4

pub returns-in-Branch-clause-leads : goal.returns-in-Branch-clause-leads
returns-in-Branch-clause-leads g c others set whole part may owed made =
    let m = g.D.Domain.abstraction in
    let branch = c.into_inner.result in
    let here = subst (λ x. IsBranch (g.F.Interfere.interference others) m set x whole part) (sym c.into_inner.ensures)
    (subst (λ p. IsPassFrame (g.F.Interfere.interference others) m set p whole part) c.in-Branch.is owed) in
    c.passed-in-Branch.ensures.leads others set whole c.args.memory.now (if_both c.join_branches.result
    (λ r. AreBranchesJoined m branch.point (outcome_view branch.first) (outcome_view c.args.outcome) (outcome_view r))
    (λ r. m.dims r.normal ≡ m.dims branch.first.normal) (λ r. IsMade (g.F.Interfere.interference others) m set whole (outcome_view r) c.args.memory.now)
    (λ r met dims. branches_made (g.F.Interfere.interference others) m set branch whole part here c.args.outcome c.args.memory.now made r met dims)
    c.join_branches.ensures.joined c.join_branches.ensures.dims)

pub returns-in-Branch-clause-falls : goal.returns-in-Branch-clause-falls
returns-in-Branch-clause-falls g c others set whole part owed =
    let m = g.D.Domain.abstraction in
    ends_less m set c.passed-in-Branch.result (2 ^ 64) (place_left m (2 ^ 64) set c.args.place)
    (subst (λ p. 0 < place_left m (2 ^ 64) set p) (sym c.in-Branch.is) (omega arith))
    (c.passed-in-Branch.ensures.ends (2 ^ 64) set)

-- loops ---------------------------------------------------------------------------------------------------------------

pub go_on_growing-requires : goal.go_on_growing-requires
go_on_growing-requires g c =
    let m = g.D.Domain.abstraction in
    let given = c.requires in
    let here = subst (λ p. IsPassFrame (g.F.Interfere.interference given.0) m given.1 p given.2 given.3) c.in-Growing.is given.5 in
    let inside = subst (λ x. IsGrowing (g.F.Interfere.interference given.0) m given.1 x given.2 given.3)
    (sym c.into_inner-in-Growing.ensures) here in
    (given.0, given.1, given.2, given.3, given.4, inside, given.6)

pub returns-in-Growing-clause-leads : goal.returns-in-Growing-clause-leads
returns-in-Growing-clause-leads g c others set whole part may owed made =
    let m = g.D.Domain.abstraction in
    let here = subst (λ p. IsPassFrame (g.F.Interfere.interference others) m set p whole part) c.in-Growing.is owed in
    c.go_on_growing.ensures.leads others set whole part may
    (subst (λ x. IsGrowing (g.F.Interfere.interference others) m set x whole part) (sym c.into_inner-in-Growing.ensures) here) made

pub returns-in-Growing-clause-falls : goal.returns-in-Growing-clause-falls
returns-in-Growing-clause-falls g c others set whole part owed =
    let m = g.D.Domain.abstraction in
    let here = subst (λ p. IsPassFrame (g.F.Interfere.interference others) m set p whole part) c.in-Growing.is owed in
    let inside = subst (λ x. IsGrowing (g.F.Interfere.interference others) m set x whole part) (sym c.into_inner-in-Growing.ensures) here in
    let less = subst (λ (x : GrowingFrame _ _). IfOk c.go_on_growing.result (λ n. next_left m (2 ^ 64) set n <
    turns_left m (2 ^ 64) set x.the_loop (set.narrow + rounds_left (2 ^ 64) x.growing.left (m.rank x.growing.head))))
    c.into_inner-in-Growing.ensures (c.go_on_growing.ensures.falls set inside.head.loop.plan) in
    subst (λ p. IfOk c.go_on_growing.result (λ n. next_left m (2 ^ 64) set n < place_left m (2 ^ 64) set p))
    (sym c.in-Growing.is) less

pub go_on_narrowing-requires : goal.go_on_narrowing-requires
go_on_narrowing-requires g c =
    let m = g.D.Domain.abstraction in
    let given = c.requires in
    let here = subst (λ p. IsPassFrame (g.F.Interfere.interference given.0) m given.1 p given.2 given.3) c.in-Narrowing.is given.5 in (
      given.0,
      given.1,
      given.2,
      given.3,
      given.4,
      subst (λ x. IsNarrowing (g.F.Interfere.interference given.0) m given.1 x given.2 given.3)
          (sym c.into_inner-in-Narrowing.ensures) here,
      given.6,
    )

pub returns-in-Narrowing-clause-leads : goal.returns-in-Narrowing-clause-leads
returns-in-Narrowing-clause-leads g c others set whole part may owed made =
    let m = g.D.Domain.abstraction in
    let here = subst (λ p. IsPassFrame (g.F.Interfere.interference others) m set p whole part) c.in-Narrowing.is owed in
    c.go_on_narrowing.ensures.leads others set whole part may
    (subst (λ x. IsNarrowing (g.F.Interfere.interference others) m set x whole part) (sym c.into_inner-in-Narrowing.ensures) here) made

pub returns-in-Narrowing-clause-falls : goal.returns-in-Narrowing-clause-falls
returns-in-Narrowing-clause-falls g c others set whole part owed =
    let m = g.D.Domain.abstraction in
    let here = subst (λ p. IsPassFrame (g.F.Interfere.interference others) m set p whole part) c.in-Narrowing.is owed in
    let inside = subst (λ x. IsNarrowing (g.F.Interfere.interference others) m set x whole part) (sym c.into_inner-in-Narrowing.ensures) here in
    let less = subst (λ (x : NarrowingFrame _). IfOk c.go_on_narrowing.result (λ n. next_left m (2 ^ 64) set n <
    turns_left m (2 ^ 64) set x.narrowing.the_loop x.narrowing.left))
    c.into_inner-in-Narrowing.ensures (c.go_on_narrowing.ensures.falls set inside.waiting.loop.plan) in
    subst (λ p. IfOk c.go_on_narrowing.result (λ n. next_left m (2 ^ 64) set n < place_left m (2 ^ 64) set p))
    (sym c.in-Narrowing.is) less

-- catches -------------------------------------------------------------------------------------------------------------

pub catch_jumps-requires : goal.catch_jumps-requires
catch_jumps-requires g c =
    let given = c.requires in
    let here = subst (λ p. IsPassFrame (g.F.Interfere.interference given.0) g.D.Domain.abstraction given.1 p given.2 given.3) c.in-Catch.is given.5 in
    jumps_have (g.F.Interfere.interference given.0) g.D.Domain.abstraction given.1 c.in-Catch.point c.in-Catch.exit given.2 given.3 here c.args.outcome
    c.args.memory.now given.6 given.4

pub returns-in-Catch-clause-leads : goal.returns-in-Catch-clause-leads
returns-in-Catch-clause-leads g c others set whole part may owed made =
    let m = g.D.Domain.abstraction in
    let q = c.in-Catch.point in
    let exit = c.in-Catch.exit in
    let here = subst (λ p. IsPassFrame (g.F.Interfere.interference others) m set p whole part) c.in-Catch.is owed in
    c.passed-in-Catch.ensures.leads others set whole c.args.memory.now (if_both c.catch_jumps.result
    (λ r. Catches m q (exit_view exit) (outcome_view c.args.outcome) (outcome_view r)) (λ r. m.dims r.normal ≡ m.dims c.args.outcome.normal)
    (λ r. IsMade (g.F.Interfere.interference others) m set whole (outcome_view r) c.args.memory.now)
    (λ r caught dims. catch_made (g.F.Interfere.interference others) m set q exit whole part here c.args.outcome c.args.memory.now made r caught dims)
    c.catch_jumps.ensures.caught c.catch_jumps.ensures.dims)

pub returns-in-Catch-clause-falls : goal.returns-in-Catch-clause-falls
returns-in-Catch-clause-falls g c others set whole part owed =
    let m = g.D.Domain.abstraction in
    ends_less m set c.passed-in-Catch.result (2 ^ 64) (place_left m (2 ^ 64) set c.args.place)
    (subst (λ p. 0 < place_left m (2 ^ 64) set p) (sym c.in-Catch.is) (omega arith)) (c.passed-in-Catch.ensures.ends (2 ^ 64) set)

-- `switch`es ----------------------------------------------------------------------------------------------------------

pub go_on_selection-requires : goal.go_on_selection-requires
go_on_selection-requires g c =
    let m = g.D.Domain.abstraction in
    let given = c.requires in
    let here = subst (λ p. IsPassFrame (g.F.Interfere.interference given.0) m given.1 p given.2 given.3) c.in-Select.is given.5 in (
      given.0,
      given.1,
      given.2,
      given.3,
      c.args.memory.now,
      given.7,
      given.4,
      subst (λ x. IsSelect (g.F.Interfere.interference given.0) m given.1 x given.2 given.3) (sym c.into_inner-in-Select.ensures) here,
      given.6,
    )

pub returns-in-Select-clause-leads : goal.returns-in-Select-clause-leads
returns-in-Select-clause-leads g c others set whole part may owed made =
    let m = g.D.Domain.abstraction in
    let here = subst (λ p. IsPassFrame (g.F.Interfere.interference others) m set p whole part) c.in-Select.is owed in
    c.go_on_selection.ensures.leads others set whole part c.args.memory.now may
    (subst (λ x. IsSelect (g.F.Interfere.interference others) m set x whole part) (sym c.into_inner-in-Select.ensures) here) made

pub returns-in-Select-clause-falls : goal.returns-in-Select-clause-falls
returns-in-Select-clause-falls g c others set whole part owed =
    let m = g.D.Domain.abstraction in
    subst (λ p. IfOk c.go_on_selection.result (λ n. next_left m (2 ^ 64) set n < place_left m (2 ^ 64) set p)) (sym c.in-Select.is)
    (place_falls m set c.go_on_selection.result (2 ^ 64) c.into_inner-in-Select.result c.in-Select.place c.into_inner-in-Select.ensures
    (c.go_on_selection.ensures.falls (2 ^ 64) set))
