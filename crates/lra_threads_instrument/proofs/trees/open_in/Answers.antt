-- The goal of `open_in`: the place is the innermost.
use Rattle.lra_threads_instrument.proofs.OpenFrames.{opened_in}
use Rattle.lra_threads_instrument.proofs.trees.open_in.Goals as goal

pub returns : goal.returns
returns c n = opened_in n c.args.places.now.items c.push.new.self.items c.args.place c.args.tree c.in_ok-push.ensures.items
