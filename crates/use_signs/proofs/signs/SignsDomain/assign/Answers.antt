use Rattle.std.proofs.Common.{rules}
use Rattle.use_signs.proofs.SignLemmas.{changed}
use Rattle.use_signs.proofs.signs.SignsDomain.assign.Goals as goal

pub returns-clause-meets : goal.returns-clause-meets
returns-clause-meets c = changed _ c.args.self.now _ (search rules) (search rules)
