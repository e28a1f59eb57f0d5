-- Goals of `push_globals_from`: the first global, and the others after it.
use Rattle.std.proofs.Common.{rules, ◌≡◌, ◌∷◌}
use Rattle.lra_path_disjuncts.proofs.{GuardSteps.both_has, TableSteps.within}
use Rattle.lra_path_disjuncts.proofs.changes.+push_globals_from.Goals as goal

pub push_first_then-requires-clause-first : goal.push_first_then-requires-clause-first
push_first_then-requires-clause-first t c = within c.push_globals_from.new.entries.items c.in_ok-one.one _ (c.in_ok-others.ensures.grows c.in_ok-one.one _
    c.in_ok-one.ensures.has)

pub push_first_then-requires-clause-then : goal.push_first_then-requires-clause-then
push_first_then-requires-clause-then t c = within c.push_globals_from.new.entries.items c.in_ok-others.others _ c.in_ok-others.ensures.has

pub returns-clause-has : goal.returns-clause-has
returns-clause-has t c =
    let rest : c.args.globals.now ≡ c.in-Some.first.now ∷ c.in-Some.later.now = search rules in
    let others = rw c.in_ok-next.ensures.is at c.in_ok-others.ensures.has in
    rw rest (both_has c.push_first_then.result c.push_globals_from.new.entries.items c.push_first_then.new.entries.items c.in_ok-one.one
    c.in_ok-others.others _ _ (c.in_ok-others.ensures.grows c.in_ok-one.one _ c.in_ok-one.ensures.has) others c.push_first_then.ensures.has)
