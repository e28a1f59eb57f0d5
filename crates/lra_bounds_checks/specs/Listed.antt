-- What is listed of accesses, as the program's definitions have it.
use Rattle.std.specs.Prelude.{List, [], ◌∷◌, ◌++◌}
use Rattle.lra_bounds_checks.specs.Crates.lra_base.Operators.{Operator}
use Rattle.lra_program.specs.Accesses.{expr_accesses, cond_accesses}
use Rattle.lra_program.specs.{Program.Expr, Program.Cond, Program.Element, ProgramViews.expr_view}
use Rattle.lra_bounds_checks.specs.declared.listing.Access.{Access}

abbrev pub access_view : Access → Element
access_view x = record { array = x.array; place = x.place; index = expr_view x.index.now }

-- the accesses of a chain's operands after the first, and of a row of conditions
abbrev pub operand_accesses : List (Operator × Expr) → List Element
operand_accesses [] = []
operand_accesses (o ∷ os) = expr_accesses o.1 ++ operand_accesses os

abbrev pub side_accesses : List Cond → List Element
side_accesses [] = []
side_accesses (c ∷ cs) = cond_accesses c ++ side_accesses cs
