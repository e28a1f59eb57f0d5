use Rattle.lra_transfer.proofs.ChainSteps.{joined_fits, joined_more}
use Rattle.lra_transfer.proofs.splits.join_back.Goals as goal

pub join_kept-requires : goal.join_kept-requires
join_kept-requires g c =
    joined_fits g.D.Domain.abstraction c.args.before.items c.joins.left.items c.pop.new.self.items c.in-Some.one c.args.last c.joins.joined c.in-Some.ensures.items c.joins.invariant

pub joins-preserved : goal.joins-preserved
joins-preserved g c =
    joined_more g.D.Domain.abstraction c.args.before.items c.joins.left.items c.pop.new.self.items c.in-Some.one c.args.last c.joins.joined
    c.in_ok-joined.joined
    c.in-Some.ensures.items c.in_ok-joined.ensures c.joins.invariant
