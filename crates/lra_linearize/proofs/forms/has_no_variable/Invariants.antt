use Rattle.std.proofs.Common.{length, ◌≡◌}
use Rattle.std.specs.List.{list_all}
use Rattle.lra_linearize.specs.Crates.lra_program.Value.{is_zero}
use Rattle.lra_linearize.proofs.forms.has_no_variable.Given as goal

abbrev pub invariant-loop-coefficient : goal.invariant-loop-coefficient
invariant-loop-coefficient l = list_all is_zero l.f.coefficients ≡ list_all is_zero l.left

abbrev pub decreases-loop-coefficient : goal.decreases-loop-coefficient
decreases-loop-coefficient l = length l.left
