use Rattle.std.proofs.Common.{refl}
use Rattle.lra_transfer.proofs.ChainSteps.{back_dims}
use Rattle.lra_transfer.proofs.conditions.join_lefts.Goals as goal

pub returns-clause-dims : goal.returns-clause-dims
returns-clause-dims g c =
    let m = g.D.Domain.abstraction in
    back_dims m (m.dims c.args.right) c.args.lefts.items (record { value = c.args.right; exactness = c.args.exactness }) c.in_ok-joined.joined c.requires refl c.in_ok-joined.ensures
