-- Programs whose arrays are there: each that an expression or an assignment names is global, or its declarator stands
-- before it in scope.
use Rattle.std.specs.List.{AllByRecursion, Contains}
use Rattle.std.specs.Prelude.{List, [], ◌∷◌, ◌++◌, Option, Some, None, ⊤}
use Rattle.lra_front_end.specs.Crates.lra_program.Program.{Expr, literal, read, input, negate, binary, element, Cond}
use Rattle.lra_front_end.specs.Crates.lra_program.Program.{compare, nonzero, opposite, both_of, either_of, Call, Rvalue}
use Rattle.lra_front_end.specs.Crates.lra_program.Program.{value, result, Stmt, absent, nothing, block, assign, write}
use Rattle.lra_front_end.specs.Crates.lra_program.Program.{call, if, loop, for, break, continue, return, assert, assume}
use Rattle.lra_front_end.specs.Crates.lra_program.Program.{switch, Cases, no_cases, labelled, stated, BlockItems}
use Rattle.lra_front_end.specs.Crates.lra_program.Program.{no_more, declaration, array, statement, Function, Program}
use Rattle.lra_front_end.specs.Crates.lra_program.declared.arrays.Array.{Array}

-- with these arrays in scope
abbrev pub Knows : List Array → Expr → Type 0
Knows known (literal t n) = ⊤
Knows known (read v) = ⊤
Knows known input = ⊤
Knows known (negate e) = Knows known e
Knows known (binary op a b) = Knows known a × Knows known b
Knows known (element a at e) = Contains known a × Knows known e

abbrev pub CondKnows : List Array → Cond → Type 0
CondKnows known (compare op a b) = Knows known a × Knows known b
CondKnows known (nonzero e) = Knows known e
CondKnows known (opposite c) = CondKnows known c
CondKnows known (both_of c d) = CondKnows known c × CondKnows known d
CondKnows known (either_of c d) = CondKnows known c × CondKnows known d

abbrev pub CallKnows : List Array → Call → Type 0
CallKnows known c = AllByRecursion (Knows known) c.arguments

abbrev pub RvalueKnows : List Array → Rvalue → Type 0
RvalueKnows known (value e) = Knows known e
RvalueKnows known (result c) = CallKnows known c

abbrev pub GivenKnows : List Array → Option Rvalue → Type 0
GivenKnows known None = ⊤
GivenKnows known (Some e) = RvalueKnows known e

-- after some items
abbrev pub known_behind : List Array → BlockItems → List Array
known_behind known no_more = known
known_behind known (declaration d items) = known_behind known items
known_behind known (array at a items) = known_behind (known ++ a ∷ []) items
known_behind known (statement s items) = known_behind known items

abbrev mutual
  pub StmtKnows : List Array → Stmt → Type 0
  StmtKnows known absent = ⊤
  StmtKnows known (nothing at) = ⊤
  StmtKnows known (block items end) = ItemsKnow known items
  StmtKnows known (assign at x e) = RvalueKnows known e
  StmtKnows known (write at x e) = Contains known x.array × Knows known x.index × RvalueKnows known e
  StmtKnows known (call at c) = CallKnows known c
  StmtKnows known (if at c a b) = CondKnows known c × StmtKnows known a × StmtKnows known b
  StmtKnows known (loop at c a step) = CondKnows known c × StmtKnows known a × StmtKnows known step
  StmtKnows known (for at init c a step) =
      let inside = known_behind known init in
      ItemsKnow known init × CondKnows inside c × StmtKnows inside a × StmtKnows inside step
  StmtKnows known (break at) = ⊤
  StmtKnows known (continue at) = ⊤
  StmtKnows known (return at e) = GivenKnows known e
  StmtKnows known (assert at c) = CondKnows known c
  StmtKnows known (assume at c) = CondKnows known c
  StmtKnows known (switch at e cs) = Knows known e × CasesKnow known cs

  pub CasesKnow : List Array → Cases → Type 0
  CasesKnow known no_cases = ⊤
  CasesKnow known (labelled l cs) = CasesKnow known cs
  CasesKnow known (stated a cs) = StmtKnows known a × CasesKnow known cs

  pub ItemsKnow : List Array → BlockItems → Type 0
  ItemsKnow known no_more = ⊤
  ItemsKnow known (declaration d items) = GivenKnows known d.rvalue × ItemsKnow known items
  ItemsKnow known (array at a items) = ItemsKnow (known ++ a ∷ []) items
  ItemsKnow known (statement s items) = StmtKnows known s × ItemsKnow known items

abbrev pub HasArrays : Program → Type 0
HasArrays P = AllByRecursion (λ (f : Function). ItemsKnow P.arrays f.body) P.functions
