use Rattle.std.proofs.Common.{rules}
use Rattle.use_signs.proofs.SignLemmas.{whole}
use Rattle.use_signs.proofs.signs.SignsDomain.universe.Goals as goal

pub returns-clause-stores : goal.returns-clause-stores
returns-clause-stores c = whole c.args.n _ (search rules)
