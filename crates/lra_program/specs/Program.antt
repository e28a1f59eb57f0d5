-- A program whose names are resolved: a variable is a place in the store, an array the place of its declaration, and a
-- function a place in a list.
-- Statements, declarators and the ends of blocks carry labels: the n-th of them in text order has the label n, from 1.
use Rattle.std.specs.Prelude.{ℕ, List, [], ◌∷◌, Option}
use Rattle.lra_base.specs.{NumberTypes.wider, Operators.Operator, Operators.Comparison}
use Rattle.lra_base.specs.{declared.case_labels.CaseLabel.CaseLabel, declared.number_types.NumberType.NumberType}
use Rattle.lra_base.specs.{declared.number_types.NumberType.TheVariants.Long, declared.refusals.Place.Place}
use Rattle.lra_program.specs.{declared.arrays.Array.Array, declared.program.GlobalVariable.GlobalVariable}

-- a variable of the whole program, or of the call that runs
pub data Slot : Type 0 where
  global : ℕ → Slot
  local : ℕ → Slot

-- with its type, which the declaration has
pub record Variable : Type 0 where
  pub slot : Slot
  pub number_type : NumberType

-- `input` stands for any number of 64 bits, a new one each time
pub data Expr : Type 0 where
  literal : NumberType → ℕ → Expr
  read : Variable → Expr
  input : Expr
  negate : Expr → Expr
  binary : Operator → Expr → Expr → Expr
  -- an array, the place where it is named, and the index
  element : Array → Place → Expr → Expr

-- the type of its value (ISO/IEC 9899:2011, 6.3.1.8): in `a + b + c` the first `+` has that of a and b alone
abbrev pub type_of : Expr → NumberType
type_of (literal t n) = t
type_of (read v) = v.number_type
type_of input = Long
type_of (negate e) = type_of e
type_of (binary op a b) = wider (type_of a) (type_of b)
type_of (element a at e) = a.number_type

-- an element, and the place where its array is named
pub record Element : Type 0 where
  pub array : Array
  pub place : Place
  pub index : Expr

abbrev pub read_of : Element → Expr
read_of x = element x.array x.place x.index

-- a comparison; an expression that isn't 0; `!`, `&&`, `||`
pub data Cond : Type 0 where
  compare : Comparison → Expr → Expr → Cond
  nonzero : Expr → Cond
  opposite : Cond → Cond
  both_of : Cond → Cond → Cond
  either_of : Cond → Cond → Cond

-- a call: a label of its own, which call paths list, and the callee's place in the list of functions
pub record Call : Type 0 where
  pub label : ℕ
  pub function : ℕ
  pub arguments : List Expr

-- what a variable gets or a `return` gives: a value, or a call's result
pub data Rvalue : Type 0 where
  value : Expr → Rvalue
  result : Call → Rvalue

-- `NAME` or `NAME = rvalue` in a declaration
pub record Declarator : Type 0 where
  pub label : ℕ
  pub number_type : NumberType
  pub rvalue : Option Rvalue

mutual
  pub data Stmt : Type 0 where
    -- a part that isn't there: no `else`, no step of a `for`. It has no point and does nothing
    absent : Stmt
    -- `;`
    nothing : ℕ → Stmt
    -- a block: its items, and the label of its `}`
    block : BlockItems → ℕ → Stmt
    assign : ℕ → Variable → Rvalue → Stmt
    -- an element gets a value
    write : ℕ → Element → Rvalue → Stmt
    call : ℕ → Call → Stmt
    -- the branch where the condition is true, and the one where it is false
    if : ℕ → Cond → Stmt → Stmt → Stmt
    -- a loop: its body, and the step after each round
    loop : ℕ → Cond → Stmt → Stmt → Stmt
    -- a `for`: how it begins, and its loop's test, body and step; at the loop's end the store is cut back
    for : ℕ → BlockItems → Cond → Stmt → Stmt → Stmt
    break : ℕ → Stmt
    continue : ℕ → Stmt
    return : ℕ → Option Rvalue → Stmt
    assert : ℕ → Cond → Stmt
    assume : ℕ → Cond → Stmt
    switch : ℕ → Expr → Cases → Stmt

  -- the labels of a `switch` and its statements, in text order
  pub data Cases : Type 0 where
    no_cases : Cases
    labelled : CaseLabel → Cases → Cases
    stated : Stmt → Cases → Cases

  -- the items of a block in text order
  pub data BlockItems : Type 0 where
    no_more : BlockItems
    declaration : Declarator → BlockItems → BlockItems
    -- `NAME[length]`: the label of the declarator, and its array
    array : ℕ → Array → BlockItems → BlockItems
    statement : Stmt → BlockItems → BlockItems

-- the labels of a `switch`'s cases alone
abbrev pub labels_of : Cases → List CaseLabel
labels_of no_cases = []
labels_of (labelled l cs) = l ∷ labels_of cs
labels_of (stated a cs) = labels_of cs

-- a function: the type of its result, if it has one, those of its parameters, its body's items, and the label of its
-- `}`
pub record Function : Type 0 where
  pub result_type : Option NumberType
  pub parameters : List NumberType
  pub body : BlockItems
  pub end : ℕ

-- the global variables with their first values, the global arrays, the functions that can be called, and `main`
pub record Program : Type 0 where
  pub globals : List GlobalVariable
  pub arrays : List Array
  pub functions : List Function
  pub main : Function
