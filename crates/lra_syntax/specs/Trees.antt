-- Trees of sources, apart from where they lie in memory. A chain of operators nests to the left; a list is in text
-- order.
use Rattle.std.specs.Prelude.{ℕ, List, Option}
use Rattle.lra_base.specs.Operators.{Operator, Comparison}
use Rattle.lra_base.specs.{declared.number_types.NumberType.NumberType, declared.refusals.Place.Place}
use Rattle.lra_syntax.specs.declared.trees.SignedLiteral.{SignedLiteral}
use Rattle.lra_syntax.specs.{declared.trees.ArrayLength.ArrayLength, declared.trees.Identifier.Identifier}
use Rattle.lra_syntax.specs.{declared.trees.Parameter.Parameter, declared.trees.PlacedLabel.PlacedLabel}

-- expressions (ISO/IEC 9899:2011, 6.5.1, 6.5.2.1, 6.5.3, 6.5.5, 6.5.6)
mutual
  pub data UnaryTree : Type 0 where
    negated : UnaryTree → UnaryTree
    positive : UnaryTree → UnaryTree
    literal : NumberType → ℕ → UnaryTree
    variable : Identifier → UnaryTree
    input : UnaryTree
    group : ExprTree → UnaryTree
    -- an array's name, and the index
    element : Identifier → ExprTree → UnaryTree

  pub data TermTree : Type 0 where
    unary : UnaryTree → TermTree
    times : TermTree → UnaryTree → TermTree
    over : TermTree → UnaryTree → TermTree
    modulo : TermTree → UnaryTree → TermTree

  pub data ExprTree : Type 0 where
    term : TermTree → ExprTree
    plus : ExprTree → TermTree → ExprTree
    minus : ExprTree → TermTree → ExprTree

-- conditions (6.5.3.3, 6.5.8, 6.5.9, 6.5.13, 6.5.14): `&&` and `||` stand only here
mutual
  -- what `!` stands before
  pub data NegationTree : Type 0 where
    opposite_again : NegationTree → NegationTree
    value_of_unary : UnaryTree → NegationTree
    group_opposed : CondTree → NegationTree

  pub data TestTree : Type 0 where
    opposite : NegationTree → TestTree
    value : ExprTree → TestTree
    compare : ExprTree → Comparison → ExprTree → TestTree
    group_of : CondTree → TestTree

  pub data ConjunctionTree : Type 0 where
    test : TestTree → ConjunctionTree
    and : ConjunctionTree → TestTree → ConjunctionTree

  pub data CondTree : Type 0 where
    conjunction : ConjunctionTree → CondTree
    or : CondTree → ConjunctionTree → CondTree

pub record CallTree : Type 0 where
  pub name : Identifier
  pub arguments : List ExprTree

-- what a variable gets, or a `return` gives
pub data RvalueTree : Type 0 where
  expression : ExprTree → RvalueTree
  result : CallTree → RvalueTree

pub data StepTree : Type 0 where
  increment : StepTree
  decrement : StepTree

-- assignments (6.5.2.4, 6.5.3.1, 6.5.16)
pub data AssignTree : Type 0 where
  set : Identifier → RvalueTree → AssignTree
  -- an array's name, the index, and what the element gets
  set_element : Identifier → ExprTree → RvalueTree → AssignTree
  update : Identifier → Operator → ExprTree → AssignTree
  after : Identifier → StepTree → AssignTree
  -- with the place of `++` or `--`
  before : Place → StepTree → Identifier → AssignTree

-- what a name is declared as: a scalar, with a value if it has one, or an array, which has none
pub data ScalarOrArrayTree (A : Type 0) : Type 0 where
  scalar : Option A → ScalarOrArrayTree A
  array : ArrayLength → ScalarOrArrayTree A

pub record DeclaratorTree : Type 0 where
  pub name : Identifier
  pub shape : ScalarOrArrayTree RvalueTree

-- one declarator at least
pub record DeclarationTree : Type 0 where
  pub number_type : NumberType
  pub first : DeclaratorTree
  pub rest : List DeclaratorTree

pub data InitTree : Type 0 where
  no_init : InitTree
  declared : DeclarationTree → InitTree
  assigned : AssignTree → InitTree

-- statements (6.8), with the place of the first token if no part has it
mutual
  pub data StmtTree : Type 0 where
    -- a block: its items, and the place of its `}`
    block : ItemsTree → Place → StmtTree
    nothing : Place → StmtTree
    assign : AssignTree → StmtTree
    call : CallTree → StmtTree
    if_only : Place → CondTree → StmtTree → StmtTree
    if_else : Place → CondTree → StmtTree → StmtTree → StmtTree
    while : Place → CondTree → StmtTree → StmtTree
    for : Place → InitTree → Option CondTree → Option AssignTree → StmtTree → StmtTree
    break : Place → StmtTree
    continue : Place → StmtTree
    return : Place → Option RvalueTree → StmtTree
    assert : Place → CondTree → StmtTree
    assume : Place → CondTree → StmtTree
    switch : Place → ExprTree → CasesTree → StmtTree

  -- the labels of a `switch` (6.8.1) and its statements, in text order
  pub data CasesTree : Type 0 where
    no_cases : CasesTree
    labelled : PlacedLabel → CasesTree → CasesTree
    stated : StmtTree → CasesTree → CasesTree

  pub data ItemsTree : Type 0 where
    no_items : ItemsTree
    declaration : DeclarationTree → ItemsTree → ItemsTree
    statement : StmtTree → ItemsTree → ItemsTree

-- external definitions (6.9)
pub record FunctionTree : Type 0 where
  -- `void` has none
  pub result_type : Option NumberType
  pub name : Identifier
  pub parameters : List Parameter
  pub body : ItemsTree
  -- the place of its `}`
  pub end : Place

-- a global variable; a scalar's value is a signed literal
pub record GlobalTree : Type 0 where
  pub name : Identifier
  pub shape : ScalarOrArrayTree SignedLiteral

pub record GlobalsTree : Type 0 where
  pub number_type : NumberType
  pub first : GlobalTree
  pub rest : List GlobalTree

pub data ExternalTree : Type 0 where
  prototype : ExternalTree
  globals : GlobalsTree → ExternalTree
  function : FunctionTree → ExternalTree

-- with the place of the source's end
pub record FileTree : Type 0 where
  pub parts : List ExternalTree
  pub end : Place
