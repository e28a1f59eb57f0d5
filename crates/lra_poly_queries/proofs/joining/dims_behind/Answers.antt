-- Goals of `dims_behind`: one dimension as often as is asked, then the first ones in turn.
use Rattle.std.proofs.Common.{replicate, rules}
use Rattle.lra_poly_queries.proofs.JoinedSets.{behind_length, dim_pushed}
use Rattle.lra_poly_queries.proofs.joining.dims_behind.Goals as goal

pub loop-next-preserved : goal.loop-next-preserved
loop-next-preserved c =
    dim_pushed (replicate c.args.often c.args.dim) c.loop-next.dims.items c.push.new.self.items c.loop-next.next
    c.loop-next.invariant c.in_ok-push.ensures.items

pub returns-clause-len : goal.returns-clause-len
returns-clause-len c =
    behind_length c.args.often c.args.dim c.args.count c.loop-next.dims.items (search rules)
