-- What operators and signs make of forms, if these are there.
use Rattle.std.specs.Prelude.{Option, negsuc}
use Rattle.lra_overflow_checks.specs.Crates.lra_analysis_spec.Linear.{operator_form, scaled}
use Rattle.lra_overflow_checks.specs.Crates.{lra_base.Operators.Operator, lra_linear_forms.Form.Form}
use Rattle.lra_program.specs.Value.{◌>>=◌}

abbrev pub between_sides : Operator → Option Form → Option Form → Option Form
between_sides op left right = left >>= λ f. right >>= λ g. operator_form op f g

abbrev pub with_other_sign : Option Form → Option Form
with_other_sign inner = inner >>= λ f. scaled (negsuc 0) f
