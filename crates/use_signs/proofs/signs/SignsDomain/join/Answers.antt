use Rattle.std.proofs.Common.{rules}
use Rattle.use_signs.proofs.SignLemmas.{joined}
use Rattle.use_signs.proofs.signs.SignsDomain.join.Goals as goal

pub returns-clause-joins : goal.returns-clause-joins
returns-clause-joins c = joined c.args.self.now c.args.other.now _ c.requires (search rules)
