-- Where statements stand, the faults of one declarator, and lists of items that are built from the start.
use Rattle.std.specs.Prelude.{ℕ, List, [], ◌∷◌, ◌++◌, Option, Some, None, ⊤}
use Rattle.lra_base.specs.declared.number_types.NumberType.{NumberType}
use Rattle.lra_base.specs.declared.refusals.Cause.TheVariants.{DuplicateName}
use Rattle.lra_base.specs.{declared.refusals.Place.Place, declared.refusals.Refusal.Refusal}
use Rattle.lra_syntax.specs.Trees.{FunctionTree, DeclaratorTree, CondTree, StmtTree, block, if_only, if_else, while}
use Rattle.lra_syntax.specs.Trees.{for, switch}
use Rattle.lra_syntax.specs.{declared.trees.ArrayLength.ArrayLength, declared.trees.Identifier.Identifier}
use Rattle.lra_resolve_simple.specs.declared.around.Around.{Around}
use Rattle.lra_scopes.specs.Calls.{functions_at}
use Rattle.lra_resolve_simple.specs.Crates.lra_resolution_spec.Scope.{Scope, scalar, array, is_declared, with_local}
use Rattle.lra_resolve_simple.specs.Crates.lra_resolution_spec.Scope.{array_of, declarator_entry}
use Rattle.lra_resolve_simple.specs.Crates.lra_resolution_spec.NameFaults as faults
use Rattle.lra_program.specs.Program as program

-- among the functions of these parts, in a function with a result or not, in loops and `switch`es or not
abbrev pub around_of : Around → faults.Around
around_of a = record {
  functions = functions_at a.functions.now;
  has_result = a.has_result;
  jumps = record { breaks = a.breaks; continues = a.continues };
}

-- with a scalar, and with an array, of a type
abbrev pub with_scalar : Scope → NumberType → Identifier → Scope
with_scalar s t x = with_local s (record { name = x.word; binding = scalar t })

abbrev pub with_array : Scope → NumberType → Identifier → ArrayLength → Scope
with_array s t x n = with_local s (record { name = x.word; binding = array (array_of t x n) })

-- of one declarator of a type
abbrev pub declarator_faults : List FunctionTree → Scope → NumberType → DeclaratorTree → List Refusal
declarator_faults F s t d = faults.fault_if (is_declared s d.name.word) DuplicateName d.name.place
    ++ faults.shape_faults (faults.given_faults F (with_local s (declarator_entry t d))) d.shape

-- a choice, with a second branch or without one
abbrev pub choice_tree : Place → CondTree → StmtTree → Option StmtTree → StmtTree
choice_tree at c t None = if_only at c t
choice_tree at c t (Some e) = if_else at c t e

-- a statement without statements in it
abbrev pub IsSimple : StmtTree → Type 0
IsSimple (block items end) = ⊥
IsSimple (if_only at c t) = ⊥
IsSimple (if_else at c t e) = ⊥
IsSimple (while at c b) = ⊥
IsSimple (for at i c e b) = ⊥
IsSimple (switch at e cs) = ⊥
IsSimple t = ⊤

-- some items, each of which is what it puts before those after it, before others
abbrev pub followed : List (program.BlockItems → program.BlockItems) → program.BlockItems → program.BlockItems
followed [] items = items
followed (f ∷ fs) items = f (followed fs items)

-- a choice, a loop, a `for`, a `return`, a `break`, a `continue` and a `switch`, whose own names are words of the code
abbrev pub choice : ℕ → program.Cond → program.Stmt → program.Stmt → program.Stmt
choice n c t e = program.if n c t e

abbrev pub loop_of : ℕ → program.Cond → program.Stmt → program.Stmt → program.Stmt
loop_of n c body step = program.loop n c body step

abbrev pub for_of : ℕ → program.BlockItems → program.Cond → program.Stmt → program.Stmt → program.Stmt
for_of n init c body step = program.for n init c body step

abbrev pub return_of : ℕ → Option program.Rvalue → program.Stmt
return_of n e = program.return n e

abbrev pub break_of : ℕ → program.Stmt
break_of n = program.break n

abbrev pub continue_of : ℕ → program.Stmt
continue_of n = program.continue n

abbrev pub switch_of : ℕ → program.Expr → program.Cases → program.Stmt
switch_of n e cs = program.switch n e cs
