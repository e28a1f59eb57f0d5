-- How a set of parts is shown.
use Rattle.std.specs.Prelude.{flat_map}
use Rattle.lra_powerset.specs.Content.{SetContent}
use Rattle.lra_report.specs.Report.{Invariant}

-- by the states of its parts, one after another
abbrev pub shown_set : {V : Type 0} → (V → Invariant) → SetContent V → Invariant
shown_set shown v = flat_map shown v.parts
