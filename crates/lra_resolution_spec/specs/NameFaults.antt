-- All faults of names in a source, in text order; at one token the lower number comes first (ISO/IEC 9899:2011, 6.2.1,
-- 6.5.2.2, 6.7, 6.8.4.2, 6.8.6, 6.9).
use Rattle.std.specs.List.{list_any, flat_map}
use Rattle.std.specs.Prelude.{ℕ, Bool, true, false, not, if◌then◌else◌, ◌||◌, ◌&&◌, nat_eq, List, [], ◌∷◌, ◌++◌, length}
use Rattle.std.specs.Prelude.{Option, Some, None, bytes_eq, map, is_none, is_some}
use Rattle.lra_resolution_spec.specs.Crates.lra_base.CaseLabels.{is_same_case}
use Rattle.lra_resolution_spec.specs.Crates.lra_base.Limits.{is_length}
use Rattle.lra_resolution_spec.specs.Crates.lra_base.declared.case_labels.CaseLabel.{CaseLabel}
use Rattle.lra_resolution_spec.specs.Crates.lra_base.declared.number_types.NumberType.{NumberType}
use Rattle.lra_resolution_spec.specs.Crates.lra_base.declared.refusals.Cause.TheVariants.{BadLiteral, NoMain}
use Rattle.lra_resolution_spec.specs.Crates.lra_base.declared.refusals.Cause.TheVariants.{UnknownName, DuplicateName}
use Rattle.lra_resolution_spec.specs.Crates.lra_base.declared.refusals.Cause.TheVariants.{BadCall, Misplaced}
use Rattle.lra_resolution_spec.specs.Crates.lra_base.declared.refusals.Cause.TheVariants.{DuplicateCase, BadLength}
use Rattle.lra_resolution_spec.specs.Crates.lra_base.declared.refusals.Cause.TheVariants.{NotArray}
use Rattle.lra_resolution_spec.specs.Crates.lra_base.declared.refusals.Place.{Place}
use Rattle.lra_resolution_spec.specs.Crates.lra_base.declared.refusals.Refusal.{Refusal}
use Rattle.lra_resolution_spec.specs.Crates.{lra_base.NumberTypes.fits, lra_base.declared.refusals.Cause.Cause}
use Rattle.lra_syntax.specs.Functions.{functions_of, function_named, is_main}
use Rattle.lra_syntax.specs.Trees.{UnaryTree, negated, positive, literal, variable, input, group, element, TermTree}
use Rattle.lra_syntax.specs.Trees.{unary, times, over, modulo, ExprTree, term, plus, minus, NegationTree}
use Rattle.lra_syntax.specs.Trees.{opposite_again, value_of_unary, group_opposed, TestTree, opposite, value, compare}
use Rattle.lra_syntax.specs.Trees.{group_of, ConjunctionTree, test, and, CondTree, conjunction, or, CallTree}
use Rattle.lra_syntax.specs.Trees.{RvalueTree, expression, result, AssignTree, set, set_element, update, after, before}
use Rattle.lra_syntax.specs.Trees.{ScalarOrArrayTree, scalar, array, DeclaratorTree, InitTree, no_init, declared}
use Rattle.lra_syntax.specs.Trees.{assigned, StmtTree, block, nothing, assign, call, if_only, if_else, while, for}
use Rattle.lra_syntax.specs.Trees.{break, continue, return, assert, assume, switch, CasesTree, no_cases, labelled}
use Rattle.lra_syntax.specs.Trees.{stated, ItemsTree, no_items, declaration, statement, FunctionTree, GlobalTree}
use Rattle.lra_syntax.specs.Trees.{ExternalTree, prototype, globals, function, FileTree}
use Rattle.lra_syntax.specs.{declared.trees.ArrayLength.ArrayLength, declared.trees.Identifier.Identifier}
use Rattle.lra_syntax.specs.{declared.trees.Parameter.Parameter, declared.trees.SignedLiteral.SignedLiteral}
use Rattle.lra_program.specs.WellFormed.{Jumps, no_jumps, in_loop, in_switch}
use Rattle.lra_resolution_spec.specs.Scope.{SymbolEntry, Scope, Lookup, found_of, is_array, is_declared, with_local}
use Rattle.lra_resolution_spec.specs.Scope.{declarator_entry, global_entries, with_declarators, inner, for_scope}
use Rattle.lra_resolution_spec.specs.Scope.{function_scope}

abbrev pub fault_if : Bool → Cause → Place → List Refusal
fault_if b c at = if b then record { cause = c; place = at } ∷ [] else []

-- expressions and conditions: each name is in scope, an array stands with an index, and nothing else with one --------

abbrev pub scalar_faults : Option Lookup → Place → List Refusal
scalar_faults None at = record { cause = UnknownName; place = at } ∷ []
scalar_faults (Some f) at = fault_if (is_array f.binding) NotArray at

abbrev pub array_faults : Option Lookup → Place → List Refusal
array_faults None at = record { cause = UnknownName; place = at } ∷ []
array_faults (Some f) at = fault_if (not (is_array f.binding)) NotArray at

abbrev pub use_faults : Scope → Identifier → List Refusal
use_faults s x = scalar_faults (found_of s x.word) x.place

-- of a name with an index
abbrev pub named_faults : Scope → Identifier → List Refusal
named_faults s x = array_faults (found_of s x.word) x.place

abbrev mutual
  pub unary_faults : Scope → UnaryTree → List Refusal
  unary_faults s (negated u) = unary_faults s u
  unary_faults s (positive u) = unary_faults s u
  unary_faults s (literal t n) = []
  unary_faults s (variable x) = use_faults s x
  unary_faults s input = []
  unary_faults s (group e) = expr_faults s e
  unary_faults s (element x e) = named_faults s x ++ expr_faults s e

  pub term_faults : Scope → TermTree → List Refusal
  term_faults s (unary u) = unary_faults s u
  term_faults s (times t u) = term_faults s t ++ unary_faults s u
  term_faults s (over t u) = term_faults s t ++ unary_faults s u
  term_faults s (modulo t u) = term_faults s t ++ unary_faults s u

  pub expr_faults : Scope → ExprTree → List Refusal
  expr_faults s (term t) = term_faults s t
  expr_faults s (plus e t) = expr_faults s e ++ term_faults s t
  expr_faults s (minus e t) = expr_faults s e ++ term_faults s t

abbrev mutual
  pub negation_faults : Scope → NegationTree → List Refusal
  negation_faults s (opposite_again n) = negation_faults s n
  negation_faults s (value_of_unary u) = unary_faults s u
  negation_faults s (group_opposed c) = cond_faults s c

  pub test_faults : Scope → TestTree → List Refusal
  test_faults s (opposite n) = negation_faults s n
  test_faults s (value e) = expr_faults s e
  test_faults s (compare a op b) = expr_faults s a ++ expr_faults s b
  test_faults s (group_of c) = cond_faults s c

  pub conjunction_faults : Scope → ConjunctionTree → List Refusal
  conjunction_faults s (test t) = test_faults s t
  conjunction_faults s (and c t) = conjunction_faults s c ++ test_faults s t

  pub cond_faults : Scope → CondTree → List Refusal
  cond_faults s (conjunction c) = conjunction_faults s c
  cond_faults s (or c d) = cond_faults s c ++ conjunction_faults s d

-- calls ------------------------------------------------------------------------------------------------------------

-- the function is there, has so many parameters, and a result if one is used
abbrev pub called_faults : Option FunctionTree → Identifier → ℕ → Bool → List Refusal
called_faults None name count used = record { cause = UnknownName; place = name.place } ∷ []
called_faults (Some f) name count used = fault_if (not (nat_eq (length f.parameters) count) ||
    (used && is_none f.result_type)) BadCall name.place

abbrev pub call_faults : List FunctionTree → Scope → CallTree → Bool → List Refusal
call_faults F s c used = called_faults (function_named F c.name.word) c.name (length c.arguments) used ++
    flat_map (expr_faults s) c.arguments

abbrev pub rvalue_faults : List FunctionTree → Scope → RvalueTree → List Refusal
rvalue_faults F s (expression e) = expr_faults s e
rvalue_faults F s (result c) = call_faults F s c true

abbrev pub assign_faults : List FunctionTree → Scope → AssignTree → List Refusal
assign_faults F s (set x e) = use_faults s x ++ rvalue_faults F s e
assign_faults F s (set_element x i e) = named_faults s x ++ expr_faults s i ++ rvalue_faults F s e
assign_faults F s (update x op e) = use_faults s x ++ expr_faults s e
assign_faults F s (after x step) = use_faults s x
assign_faults F s (before at step x) = use_faults s x

-- declarations: a name is in scope from its own end on --------------------------------------------------------------

abbrev pub given_faults : List FunctionTree → Scope → Option RvalueTree → List Refusal
given_faults F s None = []
given_faults F s (Some e) = rvalue_faults F s e

abbrev pub length_faults : ArrayLength → List Refusal
length_faults n = fault_if (not (is_length n.value)) BadLength n.place

-- of a scalar's value, if it has one, or of an array's length
abbrev pub shape_faults : {A : Type 0} → (Option A → List Refusal) → ScalarOrArrayTree A → List Refusal
shape_faults of_value (scalar e) = of_value e
shape_faults of_value (array n) = length_faults n

-- of one type
abbrev pub declarators_faults : List FunctionTree → Scope → NumberType → List DeclaratorTree → List Refusal
declarators_faults F s t [] = []
declarators_faults F s t (d ∷ ds) =
    let inside = with_local s (declarator_entry t d) in
    fault_if (is_declared s d.name.word) DuplicateName d.name.place ++ shape_faults (given_faults F inside) d.shape ++
    declarators_faults F inside t ds

abbrev pub init_faults : List FunctionTree → Scope → InitTree → List Refusal
init_faults F s no_init = []
init_faults F s (declared d) = declarators_faults F (inner s) d.number_type (d.first ∷ d.rest)
init_faults F s (assigned a) = assign_faults F s a

abbrev pub test_of_for_faults : Scope → Option CondTree → List Refusal
test_of_for_faults s None = []
test_of_for_faults s (Some c) = cond_faults s c

abbrev pub step_faults : List FunctionTree → Scope → Option AssignTree → List Refusal
step_faults F s None = []
step_faults F s (Some a) = assign_faults F s a

-- statements -------------------------------------------------------------------------------------------------------

-- where a statement stands: in a function with or without a result, in loops and `switch`es or not
pub record Around : Type 0 where
  pub functions : List FunctionTree
  pub has_result : Bool
  pub jumps : Jumps

abbrev pub in_a_loop : Around → Around
in_a_loop a = record a { jumps = in_loop }

abbrev pub in_a_switch : Around → Around
in_a_switch a = record a { jumps = in_switch a.jumps }

abbrev pub return_faults : Around → Scope → Place → Option RvalueTree → List Refusal
return_faults a s at None = []
return_faults a s at (Some e) = fault_if (not a.has_result) BadCall at ++ rvalue_faults a.functions s e

abbrev mutual
  pub stmt_faults : Around → Scope → StmtTree → List Refusal
  stmt_faults a s (block items end) = items_faults a (inner s) items
  stmt_faults a s (nothing at) = []
  stmt_faults a s (assign e) = assign_faults a.functions s e
  stmt_faults a s (call c) = call_faults a.functions s c false
  stmt_faults a s (if_only at c t) = cond_faults s c ++ stmt_faults a s t
  stmt_faults a s (if_else at c t e) = cond_faults s c ++ stmt_faults a s t ++ stmt_faults a s e
  stmt_faults a s (while at c b) = cond_faults s c ++ stmt_faults (in_a_loop a) s b
  stmt_faults a s (for at i c e b) =
      let t = for_scope s i in
      init_faults a.functions s i ++ test_of_for_faults t c ++ step_faults a.functions t e ++
      stmt_faults (in_a_loop a) t b
  stmt_faults a s (break at) = fault_if (not a.jumps.breaks) Misplaced at
  stmt_faults a s (continue at) = fault_if (not a.jumps.continues) Misplaced at
  stmt_faults a s (return at e) = return_faults a s at e
  stmt_faults a s (assert at c) = cond_faults s c
  stmt_faults a s (assume at c) = cond_faults s c
  stmt_faults a s (switch at e cs) = expr_faults s e ++ cases_faults (in_a_switch a) s [] cs

  -- after these labels of the same `switch`, none of which stands again
  pub cases_faults : Around → Scope → List CaseLabel → CasesTree → List Refusal
  cases_faults a s earlier no_cases = []
  cases_faults a s earlier (labelled l cs) = fault_if (list_any (is_same_case l.label) earlier) DuplicateCase l.place ++
      cases_faults a s (l.label ∷ earlier) cs
  cases_faults a s earlier (stated t cs) = stmt_faults a s t ++ cases_faults a s earlier cs

  pub items_faults : Around → Scope → ItemsTree → List Refusal
  items_faults a s no_items = []
  items_faults a s (declaration d items) = declarators_faults a.functions s d.number_type (d.first ∷ d.rest) ++
      items_faults a (with_declarators s d.number_type (d.first ∷ d.rest)) items
  items_faults a s (statement t items) = stmt_faults a s t ++ items_faults a s items

-- the whole: functions and globals share one scope ------------------------------------------------------------------

abbrev pub is_taken : List ℕ → List (List ℕ) → Bool
is_taken name names = list_any (bytes_eq name) names

abbrev pub parameters_faults : List (List ℕ) → List Parameter → List Refusal
parameters_faults names [] = []
parameters_faults names (p ∷ ps) = fault_if (is_taken p.name.word names) DuplicateName p.name.place ++
    parameters_faults (names ++ p.name.word ∷ []) ps

abbrev pub function_faults : List FunctionTree → List SymbolEntry → FunctionTree → List Refusal
function_faults F outside f =
    parameters_faults [] f.parameters
    ++ items_faults (record { functions = F; has_result = is_some f.result_type; jumps = no_jumps })
    (function_scope outside f.parameters) f.body

-- a first value, with its sign, is one of its variable's type; of 64 bits each literal is, with a sign or without
abbrev pub first_value_faults : NumberType → Option SignedLiteral → List Refusal
first_value_faults t None = []
first_value_faults t (Some v) = fault_if (not (fits t v.value)) BadLiteral v.place

-- of one type
abbrev pub globals_faults : NumberType → List (List ℕ) → List GlobalTree → List Refusal
globals_faults t names [] = []
globals_faults t names (g ∷ gs) = fault_if (is_taken g.name.word names) DuplicateName g.name.place ++
    shape_faults (first_value_faults t) g.shape ++ globals_faults t (names ++ g.name.word ∷ []) gs

abbrev pub global_names : List GlobalTree → List (List ℕ)
global_names gs = map (λ (g : GlobalTree). g.name.word) gs

-- after the names that the file scope has so far, and the globals among them
abbrev pub parts_faults : List FunctionTree → List (List ℕ) → List SymbolEntry → List ExternalTree → List Refusal
parts_faults F names outside [] = []
parts_faults F names outside (prototype ∷ ps) = parts_faults F names outside ps
parts_faults F names outside (globals g ∷ ps) =
    globals_faults g.number_type names (g.first ∷ g.rest) ++
    parts_faults F (names ++ global_names (g.first ∷ g.rest)) (outside ++ global_entries g) ps
parts_faults F names outside (function f ∷ ps) =
    fault_if (is_taken f.name.word names) DuplicateName f.name.place ++ function_faults F outside f ++
    parts_faults F (names ++ f.name.word ∷ []) outside ps

abbrev pub name_faults : FileTree → List Refusal
name_faults t =
    let F = functions_of t in
    parts_faults F [] [] t.parts ++ fault_if (not (list_any is_main F)) NoMain t.end
