use Rattle.std.proofs.Common.{◌≡◌, ◌++◌, ◌-◌}
use Rattle.lra_multipliers.specs.Symbols.{symbols}
use Rattle.lra_certificate_lines.proofs.symbolic.push_symbols.Given as goal

abbrev pub invariant-loop-column : goal.invariant-loop-column
invariant-loop-column l = l.forms.items ≡ l.initial.forms.items ++ symbols l.width l.first (l.column - l.first)
