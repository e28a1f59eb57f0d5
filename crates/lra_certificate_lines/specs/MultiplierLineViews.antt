-- Lines of multipliers as the code reads them.
use Rattle.std.specs.Prelude.{ℕ, List, Option, None, Some, Ok}
use Rattle.lra_certificate_lines.specs.declared.multiplier_lines.MultiplierLine.{MultiplierLine}
use Rattle.lra_multipliers.specs.{MultiplierViews.multipliers_view, Multipliers.Multipliers}
use Rattle.lra_certificate_spec.specs.Judged.{Left, Judged, refuses, bad_line, after_line, line_on, line_or_empty}
use Rattle.lra_certificate_spec.specs.{Judged.multipliers_in, Lines.left_at}

abbrev pub read_view : List ℕ → MultiplierLine → Multipliers × Left
read_view bytes r = (multipliers_view r.multipliers, left_at bytes r.after)

-- the multipliers of the next line, and what is left after it
abbrev pub given_on : Option Multipliers → Left → Judged (Multipliers × Left)
given_on None l = refuses l.number bad_line
given_on (Some m) l = Ok (m, after_line l)

abbrev pub multipliers_on : List ℕ → ℕ → Left → Judged (Multipliers × Left)
multipliers_on word premises l = given_on (multipliers_in word premises (line_or_empty (line_on l.pieces))) l
