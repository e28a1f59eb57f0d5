-- Goals of `both_of`: what stands in the table stays there.
use Rattle.std.proofs.Common.{◌∙◌, ap, Some}
use Rattle.lra_path_disjuncts.specs.Crates.lra_domain.Moves.{first_then}
use Rattle.lra_path_disjuncts.specs.Tables.{moves_at}
use Rattle.lra_path_disjuncts.proofs.{GuardSteps.grows_on, GuardSteps.still_at, GuardSteps.still_in, GuardSteps.there_at, GuardSteps.join_has, TableSteps.within}
use Rattle.lra_path_disjuncts.proofs.conditions.both_of.Goals as goal

pub push_first_then-requires-2-clause-first : goal.push_first_then-requires-2-clause-first
push_first_then-requires-2-clause-first c = still_in c.args.entries.now.items c.push_first_then.new.entries.items c.in_ok-so.ensures.grows c.args.one.so
    c.requires.one.0

pub push_first_then-requires-2-clause-then : goal.push_first_then-requires-2-clause-then
push_first_then-requires-2-clause-then c = still_in c.args.entries.now.items c.push_first_then.new.entries.items c.in_ok-so.ensures.grows c.args.other.not
    c.requires.other.1

pub push_join-requires-clause-one : goal.push_join-requires-clause-one
push_join-requires-clause-one c = still_in c.args.entries.now.items c.push_first_then-2.new.entries.items
    (grows_on c.args.entries.now.items c.push_first_then.new.entries.items c.push_first_then-2.new.entries.items c.in_ok-so.ensures.grows
    c.in_ok-last.ensures.grows)
    c.args.one.not c.requires.one.1

pub push_join-requires-clause-other : goal.push_join-requires-clause-other
push_join-requires-clause-other c = within c.push_first_then-2.new.entries.items c.in_ok-last.last _ c.in_ok-last.ensures.has

pub returns-clause-not : goal.returns-clause-not
returns-clause-not c =
    let es = c.args.entries.now.items in
    let fs = c.push_first_then.new.entries.items in
    let gs = c.push_first_then-2.new.entries.items in
    let on = grows_on es fs gs c.in_ok-so.ensures.grows c.in_ok-last.ensures.grows in
    let second = c.in_ok-last.ensures.has
    ∙ ap (λ m. Some (first_then m (moves_at fs c.args.other.not))) (still_at es fs c.in_ok-so.ensures.grows c.args.one.so c.requires.one.0)
    ∙ ap (λ m. Some (first_then (moves_at es c.args.one.so) m)) (still_at es fs c.in_ok-so.ensures.grows c.args.other.not c.requires.other.1) in
    join_has gs c.push_join.new.entries.items c.in_ok-not.not c.args.one.not c.in_ok-last.last (moves_at es c.args.one.not)
    (first_then (moves_at es c.args.one.so) (moves_at es c.args.other.not))
    (on c.args.one.not (moves_at es c.args.one.not) (there_at es c.args.one.not c.requires.one.1)) second c.in_ok-not.ensures.has
