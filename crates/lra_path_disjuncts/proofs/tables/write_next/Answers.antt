-- Goals of `write_next`, by what the moves at the place are made of.
use Rattle.std.proofs.{Common.◌∙◌, Common.ap, Common.length, Common.refl, lemmas.Option.slice_get_read}
use Rattle.lra_path_disjuncts.specs.Crates.lra_domain.Changes.{action_of}
use Rattle.lra_path_disjuncts.specs.{TableDisjuncts.all_done, Tables.all_moves, Tables.made_of, Tables.moves_at}
use Rattle.lra_path_disjuncts.proofs.SideLists.{chooses, chooses_fall, divides, falls_by, falls_on, makes, splits, splits_fall, stays}
use Rattle.lra_path_disjuncts.proofs.TableSteps.{opened, past_stays}
use Rattle.lra_path_disjuncts.proofs.tables.write_next.Goals as goal

pub nonzero_div-due : goal.nonzero_div-due
nonzero_div-due c = divides (moves_at c.args.entries.now c.in-FirstThen.first) c.disjuncts_at-count.result c.disjuncts_at-count.ensures

pub nonzero_rem-due : goal.nonzero_rem-due
nonzero_rem-due c = divides (moves_at c.args.entries.now c.in-FirstThen.first) c.disjuncts_at-count.result c.disjuncts_at-count.ensures

pub returns-in-None-clause-writes : goal.returns-in-None-clause-writes
returns-in-None-clause-writes c = stays c.args.entries.now c.args.due (all_done c.args.side.now.items) c.args.left.now.items
    (past_stays c.args.entries.now c.args.due.place c.in-None.ensures.lookup.3)

pub returns-in-None-clause-falls : goal.returns-in-None-clause-falls
returns-in-None-clause-falls c = falls_by c.args.entries.now c.args.due (all_done c.args.side.now.items) c.args.left.now.items

pub returns-in-Stay-clause-writes : goal.returns-in-Stay-clause-writes
returns-in-Stay-clause-writes c =
    let found = slice_get_read c.args.entries.now (length c.args.entries.now) c.args.due.place c.in-Some.entry.now refl c.in-Some.ensures.lookup.3.0
    c.in-Some.ensures.lookup.1 in
    stays c.args.entries.now c.args.due (all_done c.args.side.now.items) c.args.left.now.items
    (opened c.args.entries.now c.args.due.place c.in-Some.entry.now c.requires found ∙ ap (made_of (all_moves c.args.entries.now)) c.in-Stay.is)

pub returns-in-Stay-clause-falls : goal.returns-in-Stay-clause-falls
returns-in-Stay-clause-falls c = falls_by c.args.entries.now c.args.due (all_done c.args.side.now.items) c.args.left.now.items

pub returns-in-Make-clause-writes : goal.returns-in-Make-clause-writes
returns-in-Make-clause-writes c =
    let found = slice_get_read c.args.entries.now (length c.args.entries.now) c.args.due.place c.in-Some.entry.now refl c.in-Some.ensures.lookup.3.0
    c.in-Some.ensures.lookup.1 in
    makes c.args.entries.now c.args.due (all_done c.args.side.now.items) c.args.left.now.items c.push_change.result (action_of c.in-Make.change)
    (all_done c.push_change.new.side.items)
    (opened c.args.entries.now c.args.due.place c.in-Some.entry.now c.requires found ∙ ap (made_of (all_moves c.args.entries.now)) c.in-Make.is)
    c.push_change.ensures

pub returns-in-Make-clause-falls : goal.returns-in-Make-clause-falls
returns-in-Make-clause-falls c = falls_on c.args.entries.now c.args.due (all_done c.args.side.now.items) c.args.left.now.items c.push_change.result

pub returns-in-FirstThen-clause-writes : goal.returns-in-FirstThen-clause-writes
returns-in-FirstThen-clause-writes c =
    let found = slice_get_read c.args.entries.now (length c.args.entries.now) c.args.due.place c.in-Some.entry.now refl c.in-Some.ensures.lookup.3.0
    c.in-Some.ensures.lookup.1 in
    splits c.args.entries.now c.args.due (all_done c.args.side.now.items) c.args.left.now.items c.in-FirstThen.first c.in-FirstThen.then c.push_two.result
    c.disjuncts_at-count.result c.push_two.new.left.items
    (opened c.args.entries.now c.args.due.place c.in-Some.entry.now c.requires found ∙ ap (made_of (all_moves c.args.entries.now)) c.in-FirstThen.is)
    c.disjuncts_at-count.ensures c.push_two.ensures

pub returns-in-FirstThen-clause-falls : goal.returns-in-FirstThen-clause-falls
returns-in-FirstThen-clause-falls c =
    let found = slice_get_read c.args.entries.now (length c.args.entries.now) c.args.due.place c.in-Some.entry.now refl c.in-Some.ensures.lookup.3.0
    c.in-Some.ensures.lookup.1 in
    splits_fall c.args.entries.now c.args.due (all_done c.args.side.now.items) c.args.left.now.items c.in-FirstThen.first c.in-FirstThen.then c.push_two.result
    _ _ c.push_two.new.left.items
    (opened c.args.entries.now c.args.due.place c.in-Some.entry.now c.requires found ∙ ap (made_of (all_moves c.args.entries.now)) c.in-FirstThen.is)
    c.push_two.ensures

pub returns-in-JoinOf-clause-writes : goal.returns-in-JoinOf-clause-writes
returns-in-JoinOf-clause-writes c =
    let found = slice_get_read c.args.entries.now (length c.args.entries.now) c.args.due.place c.in-Some.entry.now refl c.in-Some.ensures.lookup.3.0
    c.in-Some.ensures.lookup.1 in
    chooses c.args.entries.now c.args.due (all_done c.args.side.now.items) c.args.left.now.items c.in-JoinOf.one c.in-JoinOf.other c.push_one_of.result
    c.disjuncts_at.result c.push_one_of.new.left.items
    (opened c.args.entries.now c.args.due.place c.in-Some.entry.now c.requires found ∙ ap (made_of (all_moves c.args.entries.now)) c.in-JoinOf.is)
    c.disjuncts_at.ensures c.push_one_of.ensures

pub returns-in-JoinOf-clause-falls : goal.returns-in-JoinOf-clause-falls
returns-in-JoinOf-clause-falls c =
    let found = slice_get_read c.args.entries.now (length c.args.entries.now) c.args.due.place c.in-Some.entry.now refl c.in-Some.ensures.lookup.3.0
    c.in-Some.ensures.lookup.1 in
    chooses_fall c.args.entries.now c.args.due (all_done c.args.side.now.items) c.args.left.now.items c.in-JoinOf.one c.in-JoinOf.other c.push_one_of.result
    c.disjuncts_at.result c.push_one_of.new.left.items
    (opened c.args.entries.now c.args.due.place c.in-Some.entry.now c.requires found ∙ ap (made_of (all_moves c.args.entries.now)) c.in-JoinOf.is)
    c.push_one_of.ensures
