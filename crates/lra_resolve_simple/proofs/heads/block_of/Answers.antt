-- Goals of `block_of`: the items of a block.
use Rattle.lra_resolve_simple.proofs.StatementLaws.{items_view_is}
use Rattle.lra_resolve_simple.proofs.heads.block_of.Goals as goal

pub returns : goal.returns
returns c = items_view_is c.args.items
