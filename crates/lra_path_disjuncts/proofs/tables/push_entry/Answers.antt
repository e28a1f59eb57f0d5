-- Goals of `push_entry`: there is one more, and the others are where they were.
use Rattle.std.proofs.Common.{◌∙◌}
use Rattle.lra_path_disjuncts.proofs.TableSteps.{grown, has_last, one_more}
use Rattle.lra_path_disjuncts.proofs.tables.push_entry.Goals as goal

pub returns-clause-table : goal.returns-clause-table
returns-clause-table c =
    one_more c.args.entries.now.items c.push.new.self.items (record { disjuncts = c.args.sides; moves = c.args.moves }) c.in_ok-push.ensures.items
    c.requires.table
    c.requires.behind c.requires.count

pub returns-clause-grows : goal.returns-clause-grows
returns-clause-grows c =
    grown c.args.entries.now.items c.push.new.self.items (record { disjuncts = c.args.sides; moves = c.args.moves }) c.in_ok-push.ensures.items

pub returns-clause-has : goal.returns-clause-has
returns-clause-has c = has_last c.args.entries.now.items c.push.new.self.items (record { disjuncts = c.args.sides; moves = c.args.moves }) c.len-place.result
    (c.len-place.ensures ∙ c.args.entries.now.ok.0) c.in_ok-push.ensures.items
