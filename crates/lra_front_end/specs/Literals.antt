-- Trees whose literals in expressions are numbers of their types.
use Rattle.std.specs.List.{AllByRecursion}
use Rattle.std.specs.Prelude.{Option, Some, None, pos, IsTrue, ⊤, ◌∷◌}
use Rattle.lra_front_end.specs.Crates.lra_syntax.Trees.{UnaryTree, negated, positive, literal, variable, input, group}
use Rattle.lra_front_end.specs.Crates.lra_syntax.Trees.{element, TermTree, unary, times, over, modulo, ExprTree, term}
use Rattle.lra_front_end.specs.Crates.lra_syntax.Trees.{plus, minus, NegationTree, opposite_again, value_of_unary}
use Rattle.lra_front_end.specs.Crates.lra_syntax.Trees.{group_opposed, TestTree, opposite, value, compare, group_of}
use Rattle.lra_front_end.specs.Crates.lra_syntax.Trees.{ConjunctionTree, test, and, CondTree, conjunction, or, CallTree}
use Rattle.lra_front_end.specs.Crates.lra_syntax.Trees.{RvalueTree, expression, result, AssignTree, set, set_element}
use Rattle.lra_front_end.specs.Crates.lra_syntax.Trees.{update, after, before, ScalarOrArrayTree, scalar, array}
use Rattle.lra_front_end.specs.Crates.lra_syntax.Trees.{DeclaratorTree, DeclarationTree, InitTree, no_init, declared}
use Rattle.lra_front_end.specs.Crates.lra_syntax.Trees.{assigned, StmtTree, block, nothing, assign, call, if_only}
use Rattle.lra_front_end.specs.Crates.lra_syntax.Trees.{if_else, while, for, break, continue, return, assert, assume}
use Rattle.lra_front_end.specs.Crates.lra_syntax.Trees.{switch, CasesTree, no_cases, labelled, stated, ItemsTree}
use Rattle.lra_front_end.specs.Crates.lra_syntax.Trees.{no_items, declaration, statement, ExternalTree, prototype}
use Rattle.lra_front_end.specs.Crates.lra_syntax.Trees.{globals, function, FileTree}
use Rattle.lra_base.specs.NumberTypes.{fits}

-- expressions ------------------------------------------------------------------------------------------------------

abbrev mutual
  pub IsSmallUnary : UnaryTree → Type 0
  IsSmallUnary (negated u) = IsSmallUnary u
  IsSmallUnary (positive u) = IsSmallUnary u
  IsSmallUnary (literal t n) = IsTrue (fits t (pos n))
  IsSmallUnary (variable x) = ⊤
  IsSmallUnary input = ⊤
  IsSmallUnary (group e) = IsSmallExpr e
  IsSmallUnary (element x e) = IsSmallExpr e

  pub IsSmallTerm : TermTree → Type 0
  IsSmallTerm (unary u) = IsSmallUnary u
  IsSmallTerm (times t u) = IsSmallTerm t × IsSmallUnary u
  IsSmallTerm (over t u) = IsSmallTerm t × IsSmallUnary u
  IsSmallTerm (modulo t u) = IsSmallTerm t × IsSmallUnary u

  pub IsSmallExpr : ExprTree → Type 0
  IsSmallExpr (term t) = IsSmallTerm t
  IsSmallExpr (plus e t) = IsSmallExpr e × IsSmallTerm t
  IsSmallExpr (minus e t) = IsSmallExpr e × IsSmallTerm t

-- conditions -------------------------------------------------------------------------------------------------------

abbrev mutual
  pub IsSmallNegation : NegationTree → Type 0
  IsSmallNegation (opposite_again n) = IsSmallNegation n
  IsSmallNegation (value_of_unary u) = IsSmallUnary u
  IsSmallNegation (group_opposed c) = IsSmallCond c

  pub IsSmallTest : TestTree → Type 0
  IsSmallTest (opposite n) = IsSmallNegation n
  IsSmallTest (value e) = IsSmallExpr e
  IsSmallTest (compare a op b) = IsSmallExpr a × IsSmallExpr b
  IsSmallTest (group_of c) = IsSmallCond c

  pub IsSmallConjunction : ConjunctionTree → Type 0
  IsSmallConjunction (test t) = IsSmallTest t
  IsSmallConjunction (and c t) = IsSmallConjunction c × IsSmallTest t

  pub IsSmallCond : CondTree → Type 0
  IsSmallCond (conjunction c) = IsSmallConjunction c
  IsSmallCond (or c d) = IsSmallCond c × IsSmallConjunction d

-- calls, assignments, declarations ---------------------------------------------------------------------------------

abbrev pub IsSmallCall : CallTree → Type 0
IsSmallCall c = AllByRecursion IsSmallExpr c.arguments

abbrev pub IsSmallRvalue : RvalueTree → Type 0
IsSmallRvalue (expression e) = IsSmallExpr e
IsSmallRvalue (result c) = IsSmallCall c

abbrev pub IsSmallGiven : Option RvalueTree → Type 0
IsSmallGiven None = ⊤
IsSmallGiven (Some e) = IsSmallRvalue e

abbrev pub IsSmallAssign : AssignTree → Type 0
IsSmallAssign (set x e) = IsSmallRvalue e
IsSmallAssign (set_element x i e) = IsSmallExpr i × IsSmallRvalue e
IsSmallAssign (update x op e) = IsSmallExpr e
IsSmallAssign (after x s) = ⊤
IsSmallAssign (before at s x) = ⊤

-- how many elements an array has is no expression
abbrev pub IsSmallShape : ScalarOrArrayTree RvalueTree → Type 0
IsSmallShape (scalar e) = IsSmallGiven e
IsSmallShape (array n) = ⊤

abbrev pub IsSmallDeclarator : DeclaratorTree → Type 0
IsSmallDeclarator d = IsSmallShape d.shape

abbrev pub IsSmallDeclaration : DeclarationTree → Type 0
IsSmallDeclaration d = AllByRecursion IsSmallDeclarator (d.first ∷ d.rest)

-- statements -------------------------------------------------------------------------------------------------------

abbrev pub IsSmallInit : InitTree → Type 0
IsSmallInit no_init = ⊤
IsSmallInit (declared d) = IsSmallDeclaration d
IsSmallInit (assigned a) = IsSmallAssign a

abbrev pub IsSmallForTest : Option CondTree → Type 0
IsSmallForTest None = ⊤
IsSmallForTest (Some c) = IsSmallCond c

abbrev pub IsSmallStep : Option AssignTree → Type 0
IsSmallStep None = ⊤
IsSmallStep (Some a) = IsSmallAssign a

abbrev mutual
  pub IsSmallStmt : StmtTree → Type 0
  IsSmallStmt (block items end) = AreSmallItems items
  IsSmallStmt (nothing at) = ⊤
  IsSmallStmt (assign a) = IsSmallAssign a
  IsSmallStmt (call c) = IsSmallCall c
  IsSmallStmt (if_only at c t) = IsSmallCond c × IsSmallStmt t
  IsSmallStmt (if_else at c t e) = IsSmallCond c × IsSmallStmt t × IsSmallStmt e
  IsSmallStmt (while at c b) = IsSmallCond c × IsSmallStmt b
  IsSmallStmt (for at i c e b) = IsSmallInit i × IsSmallForTest c × IsSmallStep e × IsSmallStmt b
  IsSmallStmt (break at) = ⊤
  IsSmallStmt (continue at) = ⊤
  IsSmallStmt (return at e) = IsSmallGiven e
  IsSmallStmt (assert at c) = IsSmallCond c
  IsSmallStmt (assume at c) = IsSmallCond c
  IsSmallStmt (switch at e cs) = IsSmallExpr e × AreSmallCases cs

  pub AreSmallCases : CasesTree → Type 0
  AreSmallCases no_cases = ⊤
  AreSmallCases (labelled l cs) = AreSmallCases cs
  AreSmallCases (stated t cs) = IsSmallStmt t × AreSmallCases cs

  pub AreSmallItems : ItemsTree → Type 0
  AreSmallItems no_items = ⊤
  AreSmallItems (declaration d items) = IsSmallDeclaration d × AreSmallItems items
  AreSmallItems (statement t items) = IsSmallStmt t × AreSmallItems items

-- the whole --------------------------------------------------------------------------------------------------------

abbrev pub IsSmallPart : ExternalTree → Type 0
IsSmallPart prototype = ⊤
IsSmallPart (globals g) = ⊤
IsSmallPart (function f) = AreSmallItems f.body

abbrev pub HasSmallLiterals : FileTree → Type 0
HasSmallLiterals t = AllByRecursion IsSmallPart t.parts
