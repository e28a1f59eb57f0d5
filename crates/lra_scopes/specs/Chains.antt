-- The operators of chains, each with its right operand: their faults, and what they mean.
use Rattle.std.specs.Prelude.{List, None}
use Rattle.lra_base.specs.declared.refusals.Refusal.{Refusal}
use Rattle.lra_syntax.specs.Trees.{UnaryTree, TermTree, ConjunctionTree}
use Rattle.lra_syntax.specs.{declared.trees.FactorOperator.FactorOperator, declared.trees.SumOperator.SumOperator}
use Rattle.lra_syntax.specs.declared.trees.FactorOperator.TheVariants as factor
use Rattle.lra_syntax.specs.declared.trees.SumOperator.TheVariants as sum
use Rattle.lra_program.specs.Program as program
use Rattle.lra_base.specs.Operators as operators
use Rattle.lra_resolution_spec.specs.Resolve.{resolve_unary, resolve_term, resolve_all_of}
use Rattle.lra_resolution_spec.specs.{NameFaults.unary_faults, NameFaults.term_faults, Scope.Scope}

abbrev pub factor_operator : FactorOperator → operators.Operator
factor_operator factor.Times = operators.times
factor_operator factor.Over = operators.over
factor_operator factor.Modulo = operators.modulo

abbrev pub sum_operator : SumOperator → operators.Operator
sum_operator sum.Plus = operators.plus
sum_operator sum.Minus = operators.minus

abbrev pub factor_faults : Scope → FactorOperator × UnaryTree → List Refusal
factor_faults s f = unary_faults s f.1

abbrev pub resolve_factor : Scope → FactorOperator × UnaryTree → operators.Operator × program.Expr
resolve_factor s f = (factor_operator f.0, resolve_unary s f.1)

abbrev pub summand_faults : Scope → SumOperator × TermTree → List Refusal
summand_faults s f = term_faults s f.1

abbrev pub resolve_summand : Scope → SumOperator × TermTree → operators.Operator × program.Expr
resolve_summand s f = (sum_operator f.0, resolve_term s f.1)

-- a chain of `&&`, with nothing after it
abbrev pub resolve_conjunction : Scope → ConjunctionTree → program.Cond
resolve_conjunction s c = resolve_all_of s c None
