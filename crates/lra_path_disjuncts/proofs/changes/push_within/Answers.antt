-- Goals of `push_within`: the moves stay where they are.
use Rattle.lra_path_disjuncts.proofs.{GuardSteps.both_has, GuardSteps.still_in, GuardSteps.there_at, TableSteps.within}
use Rattle.lra_path_disjuncts.specs.Tables.{moves_at}
use Rattle.lra_path_disjuncts.proofs.changes.push_within.Goals as goal

pub push_first_then-requires-clause-first : goal.push_first_then-requires-clause-first
push_first_then-requires-clause-first c = still_in c.args.entries.now.items c.push_bounds.new.entries.items c.in_ok-bounds-in-Int.ensures.grows c.args.before
    c.requires.before

pub push_first_then-requires-clause-then : goal.push_first_then-requires-clause-then
push_first_then-requires-clause-then c = within c.push_bounds.new.entries.items c.in_ok-bounds-in-Int.bounds _ c.in_ok-bounds-in-Int.ensures.has

pub returns-in-Long-clause-has : goal.returns-in-Long-clause-has
returns-in-Long-clause-has c = rw c.in-Long.is (there_at c.args.entries.now.items c.args.before c.requires.before)

pub returns-in_ok-bounds-in-Int-clause-has : goal.returns-in_ok-bounds-in-Int-clause-has
returns-in_ok-bounds-in-Int-clause-has c =
    let es = c.args.entries.now.items in
    let there = c.in_ok-bounds-in-Int.ensures.grows c.args.before (moves_at es c.args.before) (there_at es c.args.before c.requires.before) in
    rw c.in-Int.is (both_has c.push_first_then.result c.push_bounds.new.entries.items c.push_first_then.new.entries.items c.args.before
    c.in_ok-bounds-in-Int.bounds (moves_at es c.args.before) _ there c.in_ok-bounds-in-Int.ensures.has c.push_first_then.ensures.has)
