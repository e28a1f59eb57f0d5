-- What is reported of the accesses of a point, as the definitions have it.
use Rattle.std.specs.{Prelude.ℕ, Prelude.List, Prelude.Bool, Prelude.Vec, declared.alloc.Global.Global}
use Rattle.lra_base.specs.declared.refusals.Place.{Place}

-- a point with what is reported of its accesses
abbrev pub reported_view : ℕ × Vec (Place × Bool) Global → ℕ × List (Place × Bool)
reported_view v = (v.0, v.1.items)
