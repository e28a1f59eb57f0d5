-- Goals of `push_own_loss`: says that there is no own list, after what was lost before.
use Rattle.lra_description_pair.proofs.pair.push_own_loss.Goals as goal

pub returns-clause-loss : goal.returns-clause-loss
returns-clause-loss c = record {
  loss = c.in_ok-find_own_loss.field-0;
  told = c.in_ok-push.ensures.items;
  own = c.in_ok-find_own_loss.ensures.loss;
}
