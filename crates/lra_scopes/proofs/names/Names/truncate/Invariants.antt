-- The oldest names are as before.
use Rattle.std.proofs.Common.{◌≡◌, ◌-◌, length, take}
use Rattle.lra_scopes.proofs.names.Names.truncate.Given as goal

abbrev pub invariant-names : goal.invariant-names
invariant-names l = take l.count l.self ≡ take l.count l.fn.self

abbrev pub decreases-names : goal.decreases-names
decreases-names l = length l.self - l.count
