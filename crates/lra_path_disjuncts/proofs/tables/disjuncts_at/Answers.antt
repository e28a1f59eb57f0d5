-- Goals of `disjuncts_at`: an entry reports it, and no moves have one disjunct.
use Rattle.std.proofs.{Common.length, Common.refl, lemmas.Option.slice_get_read}
use Rattle.lra_path_disjuncts.proofs.TableSteps.{counted, none_there}
use Rattle.lra_path_disjuncts.proofs.tables.disjuncts_at.Goals as goal

pub returns-in-Some : goal.returns-in-Some
returns-in-Some c =
    let found = slice_get_read c.args.entries.now (length c.args.entries.now) c.args.place c.in-Some.entry.now refl c.in-Some.ensures.lookup.3.0
    c.in-Some.ensures.lookup.1 in
    counted c.args.entries.now c.args.place c.in-Some.entry.now c.requires found

pub returns-in-None : goal.returns-in-None
returns-in-None c = none_there c.args.entries.now c.args.place c.in-None.ensures.lookup.3
