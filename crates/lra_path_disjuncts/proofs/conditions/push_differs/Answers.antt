-- Goals of `push_differs`: both stand in the table.
use Rattle.lra_path_disjuncts.specs.Crates.{lra_analysis_spec.MovesOf.linearized_moves, lra_base.Operators.below, lra_base.Operators.above}
use Rattle.lra_path_disjuncts.proofs.TableSteps.{within}
use Rattle.lra_path_disjuncts.proofs.conditions.push_differs.Goals as goal

pub push_join-requires-clause-one : goal.push_join-requires-clause-one
push_join-requires-clause-one c = within c.push_seen-2.new.entries.items c.in_ok-less.less (linearized_moves c.args.live below c.args.seen.now)
    (c.in_ok-more.ensures.grows c.in_ok-less.less (linearized_moves c.args.live below c.args.seen.now) c.in_ok-less.ensures.has)

pub push_join-requires-clause-other : goal.push_join-requires-clause-other
push_join-requires-clause-other c = within c.push_seen-2.new.entries.items c.in_ok-more.more (linearized_moves c.args.live above c.args.seen.now)
    c.in_ok-more.ensures.has
