-- The functions of a list of a source's parts, and the faults of one argument.
use Rattle.std.specs.Prelude.{List, map}
use Rattle.lra_base.specs.declared.refusals.Refusal.{Refusal}
use Rattle.lra_syntax.specs.{Functions.functions_in, Trees.FunctionTree, Views.external_view, Views.expr_view}
use Rattle.lra_syntax.specs.{declared.trees.Expr.Expr, declared.trees.ExternalDeclaration.ExternalDeclaration}
use Rattle.lra_resolution_spec.specs.{NameFaults.expr_faults, Resolve.resolve_expr, Scope.Scope}
use Rattle.lra_program.specs.Program as program

-- in text order
abbrev pub functions_at : List ExternalDeclaration → List FunctionTree
functions_at parts = functions_in (map external_view parts)

-- of one argument, and what it means
abbrev pub argument_faults : Scope → Expr → List Refusal
argument_faults s e = expr_faults s (expr_view e)

abbrev pub resolve_argument : Scope → Expr → program.Expr
resolve_argument s e = resolve_expr s (expr_view e)
