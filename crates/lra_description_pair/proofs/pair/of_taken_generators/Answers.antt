-- Goals of `of_taken_generators`: the polyhedron of the generators that were added to the cone, some of them
-- points; if a number passes in the canonical ones, or there are too many, that of constraints that hold at each
-- of them.
use Rattle.std.proofs.Common.{inl}
use Rattle.lra_description_pair.specs.Crates.lra_systems.LinearSystems.{constraints}
use Rattle.lra_description_pair.proofs.GeneratorPairs.{if_both, list_lost, some_taken}
use Rattle.lra_description_pair.proofs.pair.of_taken_generators.Goals as goal

pub push_own_loss-requires : goal.push_own_loss-requires
push_own_loss-requires c = some_taken c.args.n c.args.cone.now.taken c.requires.some

pub returns-in_ok-pair-in-Ok : goal.returns-in_ok-pair-in-Ok
returns-in_ok-pair-in-Ok c = inl (c.new-losses.ensures.items, c.in_ok-pair-in-Ok.ensures)

pub returns-in_ok-push_own_loss-in-Err : goal.returns-in_ok-push_own_loss-in-Err
returns-in_ok-push_own_loss-in-Err c =
    let cause = rw c.in-Err.is at c.in_ok-own.ensures.cause in
    if_both c.enclose_points.result _ _ _ (λ r e h. list_lost c.args.n c.args.list.now.dims c.args.cone.now (constraints c.args.list.now) c.in-Err.cause c.new-losses.result.items
    c.push_own_loss.new.losses.items r.1.items r.0 c.requires.list_dims c.push_own_loss.ensures.cone c.new-losses.ensures.items cause c.in_ok-push_own_loss-in-Err.ensures.loss e h)
    c.enclose_points.ensures.losses c.enclose_points.ensures.first
