-- Goals of `Dbm::join`: the entries that are the greater of both.
use Rattle.std.proofs.Common.{rules}
use Rattle.lra_dbm.proofs.PointwiseLemmas.{contents_joined}
use Rattle.lra_dbm.proofs.dbm.Dbm.join.Goals as goal

pub returns-clause-least : goal.returns-clause-least
returns-clause-least c = contents_joined c.args.self.now c.args.other.now _ c.requires (search rules)
