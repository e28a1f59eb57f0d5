use Rattle.std.proofs.Common.{rules}
use Rattle.guzhtarel.proofs.Rows.UnitRows.{unit_length}
use Rattle.use_signs.proofs.lists.push_sign.Goals as goal

pub push-requires : goal.push-requires
push-requires c = search (rules, unit_length)
