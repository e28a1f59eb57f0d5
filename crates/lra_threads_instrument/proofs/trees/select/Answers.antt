-- Goals of `select`: the arms are left in the other order.
use Rattle.lra_threads_instrument.proofs.OpenFrames.{arms_begin, arms_begin_left}
use Rattle.lra_threads_instrument.proofs.trees.select.Goals as goal

pub returns-clause-whole : goal.returns-clause-whole
returns-clause-whole c n =
    arms_begin c.args.point c.args.base c.args.value n c.new-done.result c.args.arms c.reverse.new.self c.new-done.ensures.items c.reverse.ensures.items

pub returns-clause-steps : goal.returns-clause-steps
returns-clause-steps c =
    arms_begin_left c.args.point c.args.base c.args.value c.new-done.result c.args.arms c.reverse.new.self c.reverse.ensures.items
