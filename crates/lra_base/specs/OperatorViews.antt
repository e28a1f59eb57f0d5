-- The operator that a value of the code's types stands for.
use Rattle.lra_base.specs.{declared.operators.Comparison.Comparison, declared.operators.Operator.Operator}
use Rattle.lra_base.specs.declared.operators.Comparison.TheVariants as comparison
use Rattle.lra_base.specs.declared.operators.Operator.TheVariants as operator
use Rattle.lra_base.specs.Operators as operators

abbrev pub comparison_view : Comparison → operators.Comparison
comparison_view comparison.Below = operators.below
comparison_view comparison.AtMost = operators.at_most
comparison_view comparison.Above = operators.above
comparison_view comparison.AtLeast = operators.at_least
comparison_view comparison.Equal = operators.equal
comparison_view comparison.Differs = operators.differs

abbrev pub operator_view : Operator → operators.Operator
operator_view operator.Plus = operators.plus
operator_view operator.Minus = operators.minus
operator_view operator.Times = operators.times
operator_view operator.Over = operators.over
operator_view operator.Modulo = operators.modulo
