-- Goals of `take_last`: the last segments, or none.
use Rattle.std.proofs.Common.{◌∙◌, sym}
use Rattle.lra_path_segments.proofs.TaskSteps.{top_of, below_of, top_of_none, below_of_none}
use Rattle.lra_path_segments.proofs.trees.take_last.Goals as goal

pub returns-in-Some-clause-top : goal.returns-in-Some-clause-top
returns-in-Some-clause-top c = top_of c.pop.new.self.items c.args.done.now.items c.in-Some.last c.in-Some.ensures.items

pub returns-in-Some-clause-below : goal.returns-in-Some-clause-below
returns-in-Some-clause-below c = below_of c.pop.new.self.items c.args.done.now.items c.in-Some.last c.in-Some.ensures.items

pub returns-in-None-clause-top : goal.returns-in-None-clause-top
returns-in-None-clause-top c = top_of_none c.args.done.now.items c.new.result.items (sym c.args.done.now.ok.0 ∙ c.in-None.ensures.cases.0) c.new.ensures.items

pub returns-in-None-clause-below : goal.returns-in-None-clause-below
returns-in-None-clause-below c = below_of_none c.pop.new.self.items c.args.done.now.items (sym c.args.done.now.ok.0 ∙ c.in-None.ensures.cases.0)
    c.in-None.ensures.items
