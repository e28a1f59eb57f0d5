-- The answers of closing, as truth values.
use Rattle.std.specs.Prelude.{Bool, true, false}
use Rattle.lra_dbm.specs.declared.dbm.Closing.{Closing}
use Rattle.lra_dbm.specs.declared.dbm.Closing.TheVariants.{Closed, Empty}
use Rattle.lra_domain.specs.declared.Exactness.{Exactness}
use Rattle.lra_domain.specs.declared.Exactness.TheVariants.{Exact, Flagged}

abbrev pub is_empty : Closing → Bool
is_empty Closed = false
is_empty Empty = true

abbrev pub is_flagged : Exactness → Bool
is_flagged Exact = false
is_flagged Flagged = true
