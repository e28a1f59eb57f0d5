-- The program that a source without faults means: names are turned into places in the store and in the list of
-- functions, and into arrays (ISO/IEC 9899:2011, 6.2.1), and labels are given in text order. A call has the label of
-- its statement or declarator.
-- All functions of the source can be called, `main` among them.
use Rattle.std.specs.Prelude.{ℕ, suc, ◌+◌, ℤ, pos, List, [], ◌∷◌, ◌++◌, length, map, Option, Some, None, cond, flat_map}
use Rattle.lra_resolution_spec.specs.Crates.lra_base.Operators.{Operator, plus, minus, times, over, modulo}
use Rattle.lra_resolution_spec.specs.Crates.lra_base.declared.number_types.NumberType.{NumberType}
use Rattle.lra_resolution_spec.specs.Crates.lra_base.declared.number_types.NumberType.TheVariants.{Int, Long}
use Rattle.lra_syntax.specs.{Functions.functions_of, Functions.is_named, Functions.is_main, Labels.init_labels}
use Rattle.lra_syntax.specs.{Labels.step_labels, Labels.stmt_labels, declared.trees.Identifier.Identifier}
use Rattle.lra_syntax.specs.{declared.trees.Parameter.Parameter, declared.trees.SignedLiteral.SignedLiteral}
use Rattle.lra_program.specs.Program.{global, Variable, Expr, literal, read, input, negate, binary, element, Element}
use Rattle.lra_program.specs.Program.{Cond, compare, nonzero, opposite, both_of, either_of, Call, Rvalue, value, result}
use Rattle.lra_program.specs.Program.{Stmt, absent, nothing, block, assign, write, call, if, loop, for, break, continue}
use Rattle.lra_program.specs.Program.{return, assert, assume, switch, Cases, no_cases, labelled, stated, BlockItems}
use Rattle.lra_program.specs.Program.{no_more, declaration, array, statement, Function, Program}
use Rattle.lra_program.specs.{declared.arrays.Array.Array, declared.program.GlobalVariable.GlobalVariable}
use Rattle.lra_syntax.specs.Trees as tree
use Rattle.lra_resolution_spec.specs.Scope as scope
use Rattle.lra_resolution_spec.specs.Scope.{SymbolEntry, Scope, Binding, Lookup, found_of, with_local, array_of}
use Rattle.lra_resolution_spec.specs.Scope.{declarator_entry, global_entries, with_declarators, inner, for_scope}
use Rattle.lra_resolution_spec.specs.Scope.{function_scope}

-- names: what is said of one that isn't in scope is of no use, since such a source is refused ------------------------

abbrev pub type_of_scalar : Binding → NumberType
type_of_scalar (scope.scalar t) = t
type_of_scalar (scope.array a) = Long

abbrev pub variable_or : Option Lookup → Variable
variable_or None = record { slot = global 0; number_type = Long }
variable_or (Some f) = record { slot = f.slot; number_type = type_of_scalar f.binding }

abbrev pub variable : Scope → Identifier → Variable
variable s x = variable_or (found_of s x.word)

-- nothing is an array of this name
abbrev pub no_array : Identifier → Array
no_array x = record { declared = x.place; length = 0; number_type = Long }

abbrev pub array_in : Array → Binding → Array
array_in none (scope.scalar t) = none
array_in none (scope.array a) = a

abbrev pub array_or : Array → Option Lookup → Array
array_or none None = none
array_or none (Some f) = array_in none f.binding

abbrev pub array_named : Scope → Identifier → Array
array_named s x = array_or (no_array x) (found_of s x.word)

-- the place of the first function of this name
abbrev pub function_place : List tree.FunctionTree → List ℕ → ℕ
function_place [] name = 0
function_place (f ∷ fs) name = cond (is_named name f) 0 (suc (function_place fs name))

-- expressions: `+` alone and parentheses do nothing ------------------------------------------------------------------

abbrev mutual
  pub resolve_unary : Scope → tree.UnaryTree → Expr
  resolve_unary s (tree.negated u) = negate (resolve_unary s u)
  resolve_unary s (tree.positive u) = resolve_unary s u
  resolve_unary s (tree.literal t n) = literal t n
  resolve_unary s (tree.variable x) = read (variable s x)
  resolve_unary s tree.input = input
  resolve_unary s (tree.group e) = resolve_expr s e
  resolve_unary s (tree.element x e) = element (array_named s x) x.place (resolve_expr s e)

  pub resolve_term : Scope → tree.TermTree → Expr
  resolve_term s (tree.unary u) = resolve_unary s u
  resolve_term s (tree.times t u) = binary times (resolve_term s t) (resolve_unary s u)
  resolve_term s (tree.over t u) = binary over (resolve_term s t) (resolve_unary s u)
  resolve_term s (tree.modulo t u) = binary modulo (resolve_term s t) (resolve_unary s u)

  pub resolve_expr : Scope → tree.ExprTree → Expr
  resolve_expr s (tree.term t) = resolve_term s t
  resolve_expr s (tree.plus e t) = binary plus (resolve_expr s e) (resolve_term s t)
  resolve_expr s (tree.minus e t) = binary minus (resolve_expr s e) (resolve_term s t)

-- conditions: chains of `&&` and of `||` nest to the right -----------------------------------------------------------

abbrev mutual
  pub resolve_negation : Scope → tree.NegationTree → Cond
  resolve_negation s (tree.opposite_again n) = opposite (resolve_negation s n)
  resolve_negation s (tree.value_of_unary u) = nonzero (resolve_unary s u)
  resolve_negation s (tree.group_opposed c) = resolve_any_of s c None

  pub resolve_test : Scope → tree.TestTree → Cond
  resolve_test s (tree.opposite n) = opposite (resolve_negation s n)
  resolve_test s (tree.value e) = nonzero (resolve_expr s e)
  resolve_test s (tree.compare a op b) = compare op (resolve_expr s a) (resolve_expr s b)
  resolve_test s (tree.group_of c) = resolve_any_of s c None

  -- the chain and what comes after it
  pub resolve_all_of : Scope → tree.ConjunctionTree → Option Cond → Cond
  resolve_all_of s (tree.test t) None = resolve_test s t
  resolve_all_of s (tree.test t) (Some d) = both_of (resolve_test s t) d
  resolve_all_of s (tree.and c t) None = resolve_all_of s c (Some (resolve_test s t))
  resolve_all_of s (tree.and c t) (Some d) = resolve_all_of s c (Some (both_of (resolve_test s t) d))

  pub resolve_any_of : Scope → tree.CondTree → Option Cond → Cond
  resolve_any_of s (tree.conjunction c) None = resolve_all_of s c None
  resolve_any_of s (tree.conjunction c) (Some d) = either_of (resolve_all_of s c None) d
  resolve_any_of s (tree.or c a) None = resolve_any_of s c (Some (resolve_all_of s a None))
  resolve_any_of s (tree.or c a) (Some d) = resolve_any_of s c (Some (either_of (resolve_all_of s a None) d))

abbrev pub resolve_cond : Scope → tree.CondTree → Cond
resolve_cond s c = resolve_any_of s c None

-- calls and assignments: `x op= e` is `x = x op (e)`, and `x++` and `++x` are `x = x + 1`, 1 an `int` -----------------

abbrev pub resolve_call : List tree.FunctionTree → Scope → ℕ → tree.CallTree → Call
resolve_call F s n c = record {
  label = n;
  function = function_place F c.name.word;
  arguments = map (resolve_expr s) c.arguments;
}

abbrev pub resolve_rvalue : List tree.FunctionTree → Scope → ℕ → tree.RvalueTree → Rvalue
resolve_rvalue F s n (tree.expression e) = value (resolve_expr s e)
resolve_rvalue F s n (tree.result c) = result (resolve_call F s n c)

abbrev pub resolve_given : List tree.FunctionTree → Scope → ℕ → Option tree.RvalueTree → Option Rvalue
resolve_given F s n None = None
resolve_given F s n (Some e) = Some (resolve_rvalue F s n e)

abbrev pub step_operator : tree.StepTree → Operator
step_operator tree.increment = plus
step_operator tree.decrement = minus

abbrev pub resolve_element : Scope → Identifier → tree.ExprTree → Element
resolve_element s x e = record { array = array_named s x; place = x.place; index = resolve_expr s e }

abbrev pub resolve_assign : List tree.FunctionTree → Scope → ℕ → tree.AssignTree → Stmt
resolve_assign F s n (tree.set x e) = assign n (variable s x) (resolve_rvalue F s n e)
resolve_assign F s n (tree.set_element x i e) = write n (resolve_element s x i) (resolve_rvalue F s n e)
resolve_assign F s n (tree.update x op e) = assign n (variable s x)
    (value (binary op (read (variable s x)) (resolve_expr s e)))
resolve_assign F s n (tree.after x step) = assign n (variable s x)
    (value (binary (step_operator step) (read (variable s x)) (literal Int 1)))
resolve_assign F s n (tree.before at step x) = assign n (variable s x)
    (value (binary (step_operator step) (read (variable s x)) (literal Int 1)))

-- declarations of one type: n is the first label, and the items after follow ------------------------------------------

-- a name that is declared with this label and type
abbrev pub resolve_declared : List tree.FunctionTree → Scope → ℕ → NumberType → Identifier →
    tree.ScalarOrArrayTree tree.RvalueTree → BlockItems → BlockItems
resolve_declared F s n t x (tree.scalar e) items =
    declaration (record { label = n; number_type = t; rvalue = resolve_given F s n e }) items
resolve_declared F s n t x (tree.array c) items = array n (array_of t x c) items

abbrev pub resolve_declarators : List tree.FunctionTree → Scope → ℕ → NumberType → List tree.DeclaratorTree →
    BlockItems → BlockItems
resolve_declarators F s n t [] items = items
resolve_declarators F s n t (d ∷ ds) items =
    let inside = with_local s (declarator_entry t d) in
    resolve_declared F inside n t d.name d.shape (resolve_declarators F inside (suc n) t ds items)

abbrev pub resolve_init : List tree.FunctionTree → Scope → ℕ → tree.InitTree → BlockItems
resolve_init F s n tree.no_init = no_more
resolve_init F s n (tree.declared d) = resolve_declarators F (inner s) n d.number_type (d.first ∷ d.rest) no_more
resolve_init F s n (tree.assigned a) = statement (resolve_assign F s n a) no_more

-- a test that isn't there is true
abbrev pub resolve_for_test : Scope → Option tree.CondTree → Cond
resolve_for_test s None = nonzero (literal Int 1)
resolve_for_test s (Some c) = resolve_cond s c

abbrev pub resolve_step : List tree.FunctionTree → Scope → ℕ → Option tree.AssignTree → Stmt
resolve_step F s n None = absent
resolve_step F s n (Some a) = resolve_assign F s n a

-- how many labels there are; the names in scope don't change it
abbrev pub stmt_count : tree.StmtTree → ℕ
stmt_count t = length (stmt_labels [] t)

abbrev pub init_count : tree.InitTree → ℕ
init_count i = length (init_labels [] i)

abbrev pub step_count : Option tree.AssignTree → ℕ
step_count e = length (step_labels [] e)

abbrev pub declarator_count : tree.DeclarationTree → ℕ
declarator_count d = suc (length d.rest)

-- of a block's items, without that of its end
abbrev pub items_count : tree.ItemsTree → ℕ
items_count tree.no_items = 0
items_count (tree.declaration d items) = declarator_count d + items_count items
items_count (tree.statement t items) = stmt_count t + items_count items

-- statements: n is the first label -----------------------------------------------------------------------------------

abbrev mutual
  pub resolve_stmt : List tree.FunctionTree → Scope → ℕ → tree.StmtTree → Stmt
  resolve_stmt F s n (tree.block items end) = block (resolve_items F (inner s) n items) (n + items_count items)
  resolve_stmt F s n (tree.nothing at) = nothing n
  resolve_stmt F s n (tree.assign a) = resolve_assign F s n a
  resolve_stmt F s n (tree.call c) = call n (resolve_call F s n c)
  resolve_stmt F s n (tree.if_only at c t) = if n (resolve_cond s c) (resolve_stmt F s (suc n) t) absent
  resolve_stmt F s n (tree.if_else at c t e) = if n (resolve_cond s c) (resolve_stmt F s (suc n) t)
      (resolve_stmt F s (suc n + stmt_count t) e)
  resolve_stmt F s n (tree.while at c b) = loop n (resolve_cond s c) (resolve_stmt F s (suc n) b) absent
  resolve_stmt F s n (tree.for at i c e b) =
      let t = for_scope s i in
      let m = suc n + init_count i in
      for n (resolve_init F s (suc n) i) (resolve_for_test t c) (resolve_stmt F t (m + step_count e) b)
      (resolve_step F t m e)
  resolve_stmt F s n (tree.break at) = break n
  resolve_stmt F s n (tree.continue at) = continue n
  resolve_stmt F s n (tree.return at e) = return n (resolve_given F s n e)
  resolve_stmt F s n (tree.assert at c) = assert n (resolve_cond s c)
  resolve_stmt F s n (tree.assume at c) = assume n (resolve_cond s c)
  resolve_stmt F s n (tree.switch at e cs) = switch n (resolve_expr s e) (resolve_cases F s (suc n) cs)

  -- all in one scope: nothing is declared among them
  pub resolve_cases : List tree.FunctionTree → Scope → ℕ → tree.CasesTree → Cases
  resolve_cases F s n tree.no_cases = no_cases
  resolve_cases F s n (tree.labelled l cs) = labelled l.label (resolve_cases F s n cs)
  resolve_cases F s n (tree.stated t cs) = stated (resolve_stmt F s n t) (resolve_cases F s (n + stmt_count t) cs)

  pub resolve_items : List tree.FunctionTree → Scope → ℕ → tree.ItemsTree → BlockItems
  resolve_items F s n tree.no_items = no_more
  resolve_items F s n (tree.declaration d items) =
      resolve_declarators F s n d.number_type (d.first ∷ d.rest)
      (resolve_items F (with_declarators s d.number_type (d.first ∷ d.rest)) (n + declarator_count d) items)
  resolve_items F s n (tree.statement t items) = statement (resolve_stmt F s n t)
      (resolve_items F s (n + stmt_count t) items)

-- the whole ----------------------------------------------------------------------------------------------------------

abbrev pub resolve_function : List tree.FunctionTree → List SymbolEntry → ℕ → tree.FunctionTree → Function
resolve_function F outside n f = record {
  result_type = f.result_type;
  parameters = map (λ (p : Parameter). p.number_type) f.parameters;
  body = resolve_items F (function_scope outside f.parameters) n f.body;
  end = n + items_count f.body;
}

-- 0 if it has none
abbrev pub value_or_zero : Option SignedLiteral → ℤ
value_or_zero None = pos 0
value_or_zero (Some v) = v.value

-- the variable, or the array, that a global of this type is
abbrev pub variables_by : NumberType → tree.ScalarOrArrayTree SignedLiteral → List GlobalVariable
variables_by t (tree.scalar v) = record { number_type = t; value = value_or_zero v } ∷ []
variables_by t (tree.array n) = []

abbrev pub arrays_by : NumberType → Identifier → tree.ScalarOrArrayTree SignedLiteral → List Array
arrays_by t x (tree.scalar v) = []
arrays_by t x (tree.array n) = array_of t x n ∷ []

abbrev pub globals_in : List tree.ExternalTree → List GlobalVariable
globals_in [] = []
globals_in (tree.prototype ∷ ps) = globals_in ps
globals_in (tree.globals g ∷ ps) =
    flat_map (λ (x : tree.GlobalTree). variables_by g.number_type x.shape) (g.first ∷ g.rest) ++ globals_in ps
globals_in (tree.function f ∷ ps) = globals_in ps

abbrev pub arrays_in : List tree.ExternalTree → List Array
arrays_in [] = []
arrays_in (tree.prototype ∷ ps) = arrays_in ps
arrays_in (tree.globals g ∷ ps) =
    flat_map (λ (x : tree.GlobalTree). arrays_by g.number_type x.name x.shape) (g.first ∷ g.rest) ++ arrays_in ps
arrays_in (tree.function f ∷ ps) = arrays_in ps

-- the functions after some globals, from the label n on
abbrev pub resolve_parts : List tree.FunctionTree → List SymbolEntry → ℕ → List tree.ExternalTree → List Function
resolve_parts F outside n [] = []
resolve_parts F outside n (tree.prototype ∷ ps) = resolve_parts F outside n ps
resolve_parts F outside n (tree.globals g ∷ ps) = resolve_parts F (outside ++ global_entries g) n ps
resolve_parts F outside n (tree.function f ∷ ps) = resolve_function F outside n f ∷
    resolve_parts F outside (n + suc (items_count f.body)) ps

abbrev pub resolved_functions : tree.FileTree → List Function
resolved_functions t = resolve_parts (functions_of t) [] 1 t.parts

-- the first `main` among them
abbrev pub main_of : List tree.FunctionTree → List Function → Function
main_of [] gs = record { result_type = None; parameters = []; body = no_more; end = 0 }
main_of (f ∷ fs) [] = record { result_type = None; parameters = []; body = no_more; end = 0 }
main_of (f ∷ fs) (g ∷ gs) = cond (is_main f) g (main_of fs gs)

abbrev pub resolve : tree.FileTree → Program
resolve t = record {
  globals = globals_in t.parts;
  arrays = arrays_in t.parts;
  functions = resolved_functions t;
  main = main_of (functions_of t) (resolved_functions t);
}
