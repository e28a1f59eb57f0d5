-- The grammar (after ISO/IEC 9899:2011, 6.5, 6.7, 6.8, 6.9): which tokens a tree has, one case for each production.
-- l is the level of nesting at which a part stands, o the level that its first token opens. A function's body is level
-- 1; a block, the braces of a `switch`, a branch of an `if`, a loop's body, a grouping parenthesis, the bracket of an
-- index and a unary operator open one more, from their first to their last token. The bracket of a length opens none.
use Rattle.std.specs.Prelude.{◌≡◌, ℕ, ◌+◌, ◌≤◌, ◌⊎◌, pos, neg_ℤ, List, [], ◌∷◌, Option, Some, None, ⊤}
use Rattle.lra_base.specs.declared.case_labels.CaseLabel.TheVariants.{Case, Default}
use Rattle.lra_base.specs.declared.number_types.NumberType.{NumberType}
use Rattle.lra_base.specs.declared.number_types.NumberType.TheVariants.{Int, Long}
use Rattle.lra_base.specs.{declared.case_labels.CaseLabel.CaseLabel, declared.refusals.Place.Place}
use Rattle.lra_syntax.specs.Texts.{Texts, ◌⋅◌, ◌∣◌, empty, opens, mark, opens_at, name, literal_text, number_at, end_at}
use Rattle.lra_syntax.specs.Trees.{UnaryTree, negated, positive, literal, variable, input, group, element, TermTree}
use Rattle.lra_syntax.specs.Trees.{unary, times, over, modulo, ExprTree, term, plus, minus, NegationTree}
use Rattle.lra_syntax.specs.Trees.{opposite_again, value_of_unary, group_opposed, TestTree, opposite, value, compare}
use Rattle.lra_syntax.specs.Trees.{group_of, ConjunctionTree, test, and, CondTree, conjunction, or, CallTree}
use Rattle.lra_syntax.specs.Trees.{RvalueTree, expression, result, StepTree, increment, decrement, AssignTree, set}
use Rattle.lra_syntax.specs.Trees.{set_element, update, after, before, ScalarOrArrayTree, scalar, array, DeclaratorTree}
use Rattle.lra_syntax.specs.Trees.{DeclarationTree, InitTree, no_init, declared, assigned, StmtTree, block, nothing}
use Rattle.lra_syntax.specs.Trees.{assign, call, if_only, if_else, while, for, break, continue, return, assert, assume}
use Rattle.lra_syntax.specs.Trees.{switch, CasesTree, no_cases, labelled, stated, ItemsTree, no_items, declaration}
use Rattle.lra_syntax.specs.Trees.{statement, FunctionTree, GlobalTree, GlobalsTree, ExternalTree, prototype, globals}
use Rattle.lra_syntax.specs.{Lexeme.greatest_literal, Texts.separated, Trees.function, Trees.FileTree}
use Rattle.lra_syntax.specs.{declared.tokens.Mark.Mark, declared.trees.ArrayLength.ArrayLength}
use Rattle.lra_syntax.specs.{declared.trees.Identifier.Identifier, declared.trees.Parameter.Parameter}
use Rattle.lra_syntax.specs.{declared.trees.PlacedLabel.PlacedLabel, declared.trees.SignedLiteral.SignedLiteral}
use Rattle.lra_syntax.specs.declared.tokens.Mark.TheVariants as mark
use Rattle.lra_base.specs.Operators as operators

-- expressions ------------------------------------------------------------------------------------------------------
-- In the productions of unaries, whose first token may open a level, o is not needed: a name or a literal opens none.

-- an index in its brackets, which open the next level; R is to be the index on that level
abbrev pub in_brackets : ℕ → Texts → Texts
in_brackets l R = opens mark.OpenBracket (l + 1) ⋅ R ⋅ mark mark.CloseBracket

abbrev mutual
  pub IsUnary : ℕ → UnaryTree → Texts
  IsUnary l (negated u) = opens mark.Minus (l + 1) ⋅ IsUnary (l + 1) u
  IsUnary l (positive u) = opens mark.Plus (l + 1) ⋅ IsUnary (l + 1) u
  IsUnary l (literal t n) = literal_text t n
  IsUnary l (variable x) = name x 0
  IsUnary l input = mark mark.Input ⋅ mark mark.OpenParen ⋅ mark mark.CloseParen
  IsUnary l (group e) = opens mark.OpenParen (l + 1) ⋅ IsExpr (l + 1) e ⋅ mark mark.CloseParen
  IsUnary l (element x e) = name x 0 ⋅ in_brackets l (IsExpr (l + 1) e)

  pub IsTerm : ℕ → TermTree → Texts
  IsTerm l (unary u) = IsUnary l u
  IsTerm l (times t u) = IsTerm l t ⋅ mark mark.Star ⋅ IsUnary l u
  IsTerm l (over t u) = IsTerm l t ⋅ mark mark.Slash ⋅ IsUnary l u
  IsTerm l (modulo t u) = IsTerm l t ⋅ mark mark.Percent ⋅ IsUnary l u

  pub IsExpr : ℕ → ExprTree → Texts
  IsExpr l (term t) = IsTerm l t
  IsExpr l (plus e t) = IsExpr l e ⋅ mark mark.Plus ⋅ IsTerm l t
  IsExpr l (minus e t) = IsExpr l e ⋅ mark mark.Minus ⋅ IsTerm l t

-- conditions -------------------------------------------------------------------------------------------------------

abbrev pub comparison_mark : operators.Comparison → Mark
comparison_mark operators.below = mark.Less
comparison_mark operators.at_most = mark.AtMost
comparison_mark operators.above = mark.Greater
comparison_mark operators.at_least = mark.AtLeast
comparison_mark operators.equal = mark.Equal
comparison_mark operators.differs = mark.Differs

-- the condition isn't an expression alone
abbrev pub IsStrict : CondTree → Type 0
IsStrict (conjunction (test (value e))) = ⊥
IsStrict (conjunction (test (opposite n))) = ⊤
IsStrict (conjunction (test (compare a op b))) = ⊤
IsStrict (conjunction (test (group_of c))) = ⊤
IsStrict (conjunction (and c t)) = ⊤
IsStrict (or c d) = ⊤

abbrev pub strictly : CondTree → Texts → Texts
strictly c R z = R z × IsStrict c

abbrev mutual
  pub IsNegation : ℕ → NegationTree → Texts
  IsNegation l (opposite_again n) = opens mark.Not (l + 1) ⋅ IsNegation (l + 1) n
  IsNegation l (value_of_unary u) = IsUnary l u
  IsNegation l (group_opposed c) = strictly c (opens mark.OpenParen (l + 1) ⋅ IsCond (l + 1) c ⋅ mark mark.CloseParen)

  pub IsTest : ℕ → TestTree → Texts
  IsTest l (opposite n) = opens mark.Not (l + 1) ⋅ IsNegation (l + 1) n
  IsTest l (value e) = IsExpr l e
  IsTest l (compare a op b) = IsExpr l a ⋅ mark (comparison_mark op) ⋅ IsExpr l b
  IsTest l (group_of c) = strictly c (opens mark.OpenParen (l + 1) ⋅ IsCond (l + 1) c ⋅ mark mark.CloseParen)

  pub IsConjunction : ℕ → ConjunctionTree → Texts
  IsConjunction l (test t) = IsTest l t
  IsConjunction l (and c t) = IsConjunction l c ⋅ mark mark.And ⋅ IsTest l t

  pub IsCond : ℕ → CondTree → Texts
  IsCond l (conjunction c) = IsConjunction l c
  IsCond l (or c d) = IsCond l c ⋅ mark mark.Or ⋅ IsConjunction l d

-- a condition in parentheses that open no level: after `if`, `while`, `assert`, `assume`
abbrev pub InParens : ℕ → CondTree → Texts
InParens l c = mark mark.OpenParen ⋅ IsCond l c ⋅ mark mark.CloseParen

-- calls and assignments --------------------------------------------------------------------------------------------

abbrev pub IsCall : ℕ → ℕ → CallTree → Texts
IsCall o l c = name c.name o ⋅ mark mark.OpenParen ⋅ separated (IsExpr l) c.arguments ⋅ mark mark.CloseParen

abbrev pub IsRvalue : ℕ → RvalueTree → Texts
IsRvalue l (expression e) = IsExpr l e
IsRvalue l (result c) = IsCall 0 l c

abbrev pub update_mark : operators.Operator → Mark
update_mark operators.plus = mark.PlusAssign
update_mark operators.minus = mark.MinusAssign
update_mark operators.times = mark.StarAssign
update_mark operators.over = mark.SlashAssign
update_mark operators.modulo = mark.PercentAssign

abbrev pub step_mark : StepTree → Mark
step_mark increment = mark.Increment
step_mark decrement = mark.Decrement

abbrev pub IsAssign : ℕ → ℕ → AssignTree → Texts
IsAssign o l (set x e) = name x o ⋅ mark mark.Assign ⋅ IsRvalue l e
IsAssign o l (set_element x i e) = name x o ⋅ in_brackets l (IsExpr (l + 1) i) ⋅ mark mark.Assign ⋅ IsRvalue l e
IsAssign o l (update x op e) = name x o ⋅ mark (update_mark op) ⋅ IsExpr l e
IsAssign o l (after x s) = name x o ⋅ mark (step_mark s)
IsAssign o l (before at s x) = opens_at (step_mark s) at o ⋅ name x 0

-- declarations -----------------------------------------------------------------------------------------------------

-- `int`; `long`, `long long`, `long int`, `long long int`
abbrev pub IsType : NumberType → Texts
IsType Int = mark mark.Int
IsType Long = mark mark.Long ⋅ (mark mark.Long ∣ empty) ⋅ (mark mark.Int ∣ empty)

abbrev pub IsSomeType : Texts
IsSomeType z = (t : NumberType) × IsType t z

abbrev pub IsGiven : ℕ → Option RvalueTree → Texts
IsGiven l None = empty
IsGiven l (Some e) = mark mark.Assign ⋅ IsRvalue l e

-- a literal of any type
abbrev pub IsCount : ArrayLength → Texts
IsCount n z = (t : NumberType) × number_at t n.value n.place z

-- in brackets that open no level
abbrev pub IsLength : ArrayLength → Texts
IsLength n = mark mark.OpenBracket ⋅ IsCount n ⋅ mark mark.CloseBracket

-- after a name: a scalar's value, if it has one, or an array's length
abbrev pub IsScalarOrArray : {A : Type 0} → (Option A → Texts) → ScalarOrArrayTree A → Texts
IsScalarOrArray R (scalar e) = R e
IsScalarOrArray R (array n) = IsLength n

abbrev pub IsDeclarator : ℕ → DeclaratorTree → Texts
IsDeclarator l d = name d.name 0 ⋅ IsScalarOrArray (IsGiven l) d.shape

abbrev pub IsDeclaration : ℕ → DeclarationTree → Texts
IsDeclaration l d = IsType d.number_type ⋅ separated (IsDeclarator l) (d.first ∷ d.rest) ⋅ mark mark.Semicolon

-- a literal of any type, with or without a sign; as no literal is greater, it has 64 bits with a sign too
abbrev pub IsSigned : SignedLiteral → Texts
IsSigned v z = (t : NumberType) × (n : ℕ) × (n ≤ greatest_literal) × (((v.value ≡ pos n) × number_at t n v.place z) ⊎
    ((v.value ≡ neg_ℤ (pos n)) × (mark mark.Minus ⋅ number_at t n v.place) z))

-- statements -------------------------------------------------------------------------------------------------------

-- `case` and a literal, whose sign opens no level, or `default`
abbrev pub IsCase : CaseLabel → Place → Texts
IsCase (Case v) at = mark mark.Case ⋅ IsSigned (record { value = v; place = at })
IsCase Default at = opens_at mark.Default at 0

abbrev pub IsLabel : PlacedLabel → Texts
IsLabel l = IsCase l.label l.place ⋅ mark mark.Colon

-- what a `switch` looks for
abbrev pub IsSwitched : ℕ → ExprTree → Texts
IsSwitched l e = mark mark.OpenParen ⋅ IsExpr l e ⋅ mark mark.CloseParen

-- it ends in an `if` without `else`, which would take an `else` after it
abbrev pub TakesElse : StmtTree → Type 0
TakesElse (if_only at c t) = ⊤
TakesElse (if_else at c t e) = TakesElse e
TakesElse (while at c b) = TakesElse b
TakesElse (for at i c e b) = TakesElse b
TakesElse t = ⊥

-- an `else` belongs to the nearest `if`
abbrev pub closed : StmtTree → Texts → Texts
closed t R z = R z × (TakesElse t → ⊥)

abbrev pub IsInit : ℕ → InitTree → Texts
IsInit l no_init = mark mark.Semicolon
IsInit l (declared d) = IsDeclaration l d
IsInit l (assigned a) = IsAssign 0 l a ⋅ mark mark.Semicolon

abbrev pub IsForTest : ℕ → Option CondTree → Texts
IsForTest l None = empty
IsForTest l (Some c) = IsCond l c

abbrev pub IsForStep : ℕ → Option AssignTree → Texts
IsForStep l None = empty
IsForStep l (Some a) = IsAssign 0 l a

abbrev pub IsReturned : ℕ → Option RvalueTree → Texts
IsReturned l None = empty
IsReturned l (Some e) = IsRvalue l e

-- among other statements at level l: a block opens a level, another statement opens none
abbrev pub opened_by : StmtTree → ℕ → ℕ
opened_by (block items end) l = l + 1
opened_by t l = 0

abbrev pub level_of : StmtTree → ℕ → ℕ
level_of (block items end) l = l + 1
level_of t l = l

abbrev mutual
  pub IsStmt : ℕ → ℕ → StmtTree → Texts
  IsStmt o l (block items end) = opens mark.OpenBrace o ⋅ AreItems l items ⋅ opens_at mark.CloseBrace end 0
  IsStmt o l (nothing at) = opens_at mark.Semicolon at o
  IsStmt o l (assign a) = IsAssign o l a ⋅ mark mark.Semicolon
  IsStmt o l (call c) = IsCall o l c ⋅ mark mark.Semicolon
  IsStmt o l (if_only at c t) = opens_at mark.If at o ⋅ InParens l c ⋅ IsStmt (l + 1) (l + 1) t
  IsStmt o l (if_else at c t e) = closed t (opens_at mark.If at o ⋅ InParens l c ⋅ IsStmt (l + 1) (l + 1) t ⋅
      mark mark.Else ⋅ IsStmt (l + 1) (l + 1) e)
  IsStmt o l (while at c b) = opens_at mark.While at o ⋅ InParens l c ⋅ IsStmt (l + 1) (l + 1) b
  IsStmt o l (for at i c e b) =
      opens_at mark.For at o ⋅ mark mark.OpenParen ⋅ IsInit l i ⋅ IsForTest l c ⋅ mark mark.Semicolon ⋅ IsForStep l e ⋅
      mark mark.CloseParen ⋅ IsStmt (l + 1) (l + 1) b
  IsStmt o l (break at) = opens_at mark.Break at o ⋅ mark mark.Semicolon
  IsStmt o l (continue at) = opens_at mark.Continue at o ⋅ mark mark.Semicolon
  IsStmt o l (return at e) = opens_at mark.Return at o ⋅ IsReturned l e ⋅ mark mark.Semicolon
  IsStmt o l (assert at c) = opens_at mark.Assert at o ⋅ InParens l c ⋅ mark mark.Semicolon
  IsStmt o l (assume at c) = opens_at mark.Assume at o ⋅ InParens l c ⋅ mark mark.Semicolon
  IsStmt o l (switch at e cs) = opens_at mark.Switch at o ⋅ IsSwitched l e ⋅ opens mark.OpenBrace (l + 1) ⋅
      AreCases (l + 1) cs ⋅ mark mark.CloseBrace

  -- the labels and statements of a `switch`: none, or a label first; after a label a label or a statement; a
  -- declaration is none
  pub AreCases : ℕ → CasesTree → Texts
  AreCases l no_cases = empty
  AreCases l (labelled b cs) = IsLabel b ⋅ AreLabelled l cs
  AreCases l (stated t cs) = λ z. ⊥

  -- after a label
  pub AreLabelled : ℕ → CasesTree → Texts
  AreLabelled l no_cases = λ z. ⊥
  AreLabelled l (labelled b cs) = IsLabel b ⋅ AreLabelled l cs
  AreLabelled l (stated t cs) = IsStmt (opened_by t l) (level_of t l) t ⋅ AreStated l cs

  -- after a statement
  pub AreStated : ℕ → CasesTree → Texts
  AreStated l no_cases = empty
  AreStated l (labelled b cs) = IsLabel b ⋅ AreLabelled l cs
  AreStated l (stated t cs) = IsStmt (opened_by t l) (level_of t l) t ⋅ AreStated l cs

  pub AreItems : ℕ → ItemsTree → Texts
  AreItems l no_items = empty
  AreItems l (declaration d items) = IsDeclaration l d ⋅ AreItems l items
  AreItems l (statement t items) = IsStmt (opened_by t l) (level_of t l) t ⋅ AreItems l items

-- the whole --------------------------------------------------------------------------------------------------------

-- the type of the result, and the name
abbrev pub IsHead : Option NumberType → Identifier → Texts
IsHead (Some t) x = IsType t ⋅ name x 0
IsHead None x = mark mark.Void ⋅ name x 0

abbrev pub IsParameter : Parameter → Texts
IsParameter p = IsType p.number_type ⋅ name p.name 0

abbrev pub AreParameters : List Parameter → Texts
AreParameters [] = mark mark.Void ∣ empty
AreParameters (p ∷ ps) = separated IsParameter (p ∷ ps)

abbrev pub IsFunction : FunctionTree → Texts
IsFunction f =
    IsHead f.result_type f.name ⋅ mark mark.OpenParen ⋅ AreParameters f.parameters ⋅ mark mark.CloseParen
    ⋅ opens mark.OpenBrace 1 ⋅ AreItems 1 f.body ⋅ opens_at mark.CloseBrace f.end 0

abbrev pub IsGlobal : GlobalTree → Texts
IsGlobal g = name g.name 0 ⋅ IsScalarOrArray IsFirstValue g.shape
  where
    IsFirstValue : Option SignedLiteral → Texts
    IsFirstValue None = empty
    IsFirstValue (Some v) = mark mark.Assign ⋅ IsSigned v

abbrev pub AreGlobals : GlobalsTree → Texts
AreGlobals g = IsType g.number_type ⋅ separated IsGlobal (g.first ∷ g.rest) ⋅ mark mark.Semicolon

-- a prototype may leave names of parameters out, and may be one of `input`, `assert`, `assume`
abbrev pub IsReservedHead : Texts
IsReservedHead = (mark mark.Void ∣ IsSomeType) ⋅ (mark mark.Input ∣ mark mark.Assert ∣ mark mark.Assume)

abbrev pub IsSomeHead : Texts
IsSomeHead z = (t : Option NumberType) × (x : Identifier) × IsHead t x z

-- parameters with names or without
abbrev pub IsPrototypeParameter : Option Parameter → Texts
IsPrototypeParameter None = IsSomeType
IsPrototypeParameter (Some p) = IsParameter p

abbrev pub ArePrototypeParameters : Texts
ArePrototypeParameters z = (mark mark.Void ∣ empty) z ⊎
    ((first : Option Parameter) × (rest : List (Option Parameter)) × separated IsPrototypeParameter (first ∷ rest) z)

abbrev pub IsPrototype : Texts
IsPrototype = (mark mark.Extern ∣ empty) ⋅ (IsSomeHead ∣ IsReservedHead) ⋅ mark mark.OpenParen ⋅
    ArePrototypeParameters ⋅ mark mark.CloseParen ⋅ mark mark.Semicolon

abbrev pub IsExternalDeclaration : ExternalTree → Texts
IsExternalDeclaration prototype = IsPrototype
IsExternalDeclaration (globals g) = AreGlobals g
IsExternalDeclaration (function f) = IsFunction f

abbrev pub AreExternalDeclarations : List ExternalTree → Texts
AreExternalDeclarations [] = empty
AreExternalDeclarations (p ∷ ps) = IsExternalDeclaration p ⋅ AreExternalDeclarations ps

-- the pieces are those of this tree
abbrev pub Spells : FileTree → Texts
Spells t = AreExternalDeclarations t.parts ⋅ end_at t.end
