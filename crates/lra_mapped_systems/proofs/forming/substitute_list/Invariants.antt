use Rattle.std.proofs.Common.{suc}
use Rattle.lra_mapped_systems.specs.Forming.{AreFormed}
use Rattle.lra_mapped_systems.proofs.forming.substitute_list.Given as goal

abbrev pub invariant-loop-place : goal.invariant-loop-place
invariant-loop-place l = AreFormed (suc l.x) l.form l.list.dims l.list.rows l.list.kinds l.place l.formed.list l.formed.lost
