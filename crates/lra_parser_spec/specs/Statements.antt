-- Readers of calls, assignments, declarations and statements. d levels of nesting are left.
use Rattle.std.specs.Prelude.{ℕ, zero, suc, Bool, true, cond, ◌||◌, List, [], ◌∷◌, Option, Some, None, Ok, option_map}
use Rattle.std.specs.Prelude.{pos, neg_ℤ}
use Rattle.lra_base.specs.OperatorViews.{operator_view}
use Rattle.lra_base.specs.declared.case_labels.CaseLabel.TheVariants.{Case, Default}
use Rattle.lra_base.specs.declared.number_types.NumberType.{NumberType}
use Rattle.lra_base.specs.declared.number_types.NumberType.TheVariants.{Int, Long}
use Rattle.lra_base.specs.declared.refusals.Cause.TheVariants.{Syntax, TooDeep}
use Rattle.lra_base.specs.{declared.operators.Operator.Operator, declared.refusals.Place.Place}
use Rattle.lra_syntax.specs.Trees.{UnaryTree, unary, ExprTree, term, CondTree, CallTree, RvalueTree, expression, result}
use Rattle.lra_syntax.specs.Trees.{AssignTree, set, set_element, update, after, before, ScalarOrArrayTree, scalar}
use Rattle.lra_syntax.specs.Trees.{array, DeclaratorTree, DeclarationTree, InitTree, no_init, assigned}
use Rattle.lra_syntax.specs.Trees.{declared as declared_first, StmtTree, block, nothing, assign, call, if_only, if_else}
use Rattle.lra_syntax.specs.Trees.{while, for, break, continue, return, assert, assume, switch, CasesTree, no_cases}
use Rattle.lra_syntax.specs.Trees.{labelled, stated as stated_case, ItemsTree, no_items, declaration, statement}
use Rattle.lra_syntax.specs.declared.trees.SignedLiteral.{SignedLiteral}
use Rattle.lra_syntax.specs.{Views.step_view, declared.tokens.Mark.Mark, declared.tokens.Token.Token}
use Rattle.lra_syntax.specs.{declared.trees.ArrayLength.ArrayLength, declared.trees.Identifier.Identifier}
use Rattle.lra_syntax.specs.{declared.trees.PlacedLabel.PlacedLabel, declared.trees.Step.Step}
use Rattle.lra_syntax.specs.declared.tokens.Mark.TheVariants as mark
use Rattle.lra_base.specs.declared.operators.Operator.TheVariants as operator
use Rattle.lra_syntax.specs.declared.trees.Step.TheVariants as step
use Rattle.lra_parser_spec.specs.Expressions.{after_mark, ended, in_parens, brackets_parser, factors, summands}
use Rattle.lra_parser_spec.specs.Expressions.{unary_at, named_unary, expr_at, index_at, cond_at}
use Rattle.lra_parser_spec.specs.Reading.{Text, Parse, stop, seq, map_read, done_with, tail, expect, expect_at}
use Rattle.lra_parser_spec.specs.Reading.{place_of, take_by, next_name, Literal, next_literal, next_small, has, one_of}
use Rattle.lra_parser_spec.specs.Reading.{list_of}
use Rattle.lra_parser_spec.specs.Tests.{first, is_mark, begins_label}

-- the text after the mark, if it is there
abbrev pub skip : Mark → Text → Text
skip m T = cond (is_mark m (first T)) (tail T) T

-- items with commas between them; p reads the first
abbrev pub commas_from : {A : Type 0} → Parse A → Parse A → Parse (A × List A)
commas_from p q = seq p
    (λ a. map_read (λ further. (a, further)) (list_of (is_mark mark.Comma) (after_mark mark.Comma q)))

abbrev pub commas : {A : Type 0} → Parse A → Parse (A × List A)
commas p = commas_from p p

-- calls, and what a variable gets or a `return` gives ---------------------------------------------

abbrev pub listed : {A : Type 0} → A × List A → List A
listed es = es.0 ∷ es.1

-- after the opening parenthesis
abbrev pub arguments_at : ℕ → Parse (List ExprTree)
arguments_at d T = cond (is_mark mark.CloseParen (first T)) (expect mark.CloseParen [] T)
    (ended mark.CloseParen (map_read listed (commas (expr_at d))) T)

abbrev pub call_of : Identifier → List ExprTree → CallTree
call_of x es = record { name = x; arguments = es }

-- after the name of a function
abbrev pub call_rest : ℕ → Identifier → Parse CallTree
call_rest d x = after_mark mark.OpenParen (map_read (call_of x) (arguments_at d))

-- after a unary that an expression begins with
abbrev pub rvalue_from : ℕ → UnaryTree → Parse RvalueTree
rvalue_from d a = seq (factors (unary_at d) (unary a)) (λ t. map_read expression (summands (unary_at d) (term t)))

-- after a name
abbrev pub rvalue_rest : ℕ → Identifier → Parse RvalueTree
rvalue_rest d x T = cond (is_mark mark.OpenParen (first T)) (map_read result (call_rest d x) T)
    (seq (named_unary (index_at d) x) (rvalue_from d) T)

abbrev pub rvalue_at : ℕ → Parse RvalueTree
rvalue_at d T = cond (has (next_name (first T))) (seq (take_by next_name) (rvalue_rest d) T)
    (map_read expression (expr_at d) T)

-- assignments ------------------------------------------------------------------------------------------------------

abbrev pub update_operators : List (Mark × Operator)
update_operators = (mark.PlusAssign, operator.Plus) ∷ (mark.MinusAssign, operator.Minus) ∷
    (mark.StarAssign, operator.Times) ∷ (mark.SlashAssign, operator.Over)
    ∷ (mark.PercentAssign, operator.Modulo) ∷ []

abbrev pub update_operator : Option Token → Option Operator
update_operator o = one_of update_operators o

abbrev pub step_marks : List (Mark × Step)
step_marks = (mark.Increment, step.Increment) ∷ (mark.Decrement, step.Decrement) ∷ []

-- `++` or `--`, with its place
abbrev pub next_step : Option Token → Option (Step × Place)
next_step o = option_map (λ s. (s, place_of o)) (one_of step_marks o)

-- after the name of a variable
abbrev pub variable_rest : ℕ → Identifier → Parse AssignTree
variable_rest d x T =
    cond (is_mark mark.Assign (first T)) (after_mark mark.Assign (map_read (set x) (rvalue_at d)) T)
    (cond (has (update_operator (first T))) (seq (take_by update_operator)
    (λ op. map_read (update x (operator_view op)) (expr_at d)) T)
    (map_read (λ s. after x (step_view s.0)) (take_by next_step) T))

-- after an element
abbrev pub element_rest : ℕ → Identifier → ExprTree → Parse AssignTree
element_rest d x i = after_mark mark.Assign (map_read (set_element x i) (rvalue_at d))

-- after a name
abbrev pub assign_rest : ℕ → Identifier → Parse AssignTree
assign_rest d x T = cond (is_mark mark.OpenBracket (first T))
    (seq (index_at d) (element_rest d x) T)
    (variable_rest d x T)

abbrev pub step_first : Parse AssignTree
step_first = seq (take_by next_step) (λ s. map_read (before s.1 (step_view s.0)) (take_by next_name))

abbrev pub assign_at : ℕ → Parse AssignTree
assign_at d T = cond (has (next_step (first T))) (step_first T) (seq (take_by next_name) (assign_rest d) T)

-- declarations -----------------------------------------------------------------------------------------------------

-- the words with which types begin
abbrev pub begins_type : Option Token → Bool
begins_type o = is_mark mark.Int o || is_mark mark.Long o

-- `int`; `long`, `long long`, `long int`, `long long int`
abbrev pub type_words : Parse NumberType
type_words T = cond (is_mark mark.Int (first T)) (expect mark.Int Int T)
    (seq (expect mark.Long (tt {0})) (λ _ T. Ok (Long, skip mark.Int (skip mark.Long T))) T)

abbrev pub length_of : Literal → ArrayLength
length_of l = record { value = l.value; place = l.place }

-- a literal of any type in brackets
abbrev pub length_at : Parse ArrayLength
length_at = brackets_parser (map_read length_of (take_by next_literal))

-- what a scalar gets after `=`, or nothing
abbrev pub given_at : {A : Type 0} → Parse A → Parse (Option A)
given_at p T = cond (is_mark mark.Assign (first T)) (after_mark mark.Assign (map_read Some p) T)
    (done_with None T)

-- after a name that is declared; p reads a value
abbrev pub shape_at : {A : Type 0} → Parse A → Parse (ScalarOrArrayTree A)
shape_at p T = cond (is_mark mark.OpenBracket (first T)) (map_read array length_at T)
    (map_read scalar (given_at p) T)

abbrev pub declarator_of : Identifier → ScalarOrArrayTree RvalueTree → DeclaratorTree
declarator_of x s = record { name = x; shape = s }

abbrev pub declarator_rest : ℕ → Identifier → Parse DeclaratorTree
declarator_rest d x = map_read (declarator_of x) (shape_at (rvalue_at d))

abbrev pub declarator_at : ℕ → Parse DeclaratorTree
declarator_at d = seq (take_by next_name) (declarator_rest d)

abbrev pub declaration_of : NumberType → DeclaratorTree × List DeclaratorTree → DeclarationTree
declaration_of t ds = record { number_type = t; first = ds.0; rest = ds.1 }

abbrev pub declaration_at : ℕ → Parse DeclarationTree
declaration_at d = seq type_words (λ t. ended mark.Semicolon (map_read (declaration_of t) (commas (declarator_at d))))

-- labels of a `switch` ---------------------------------------------------------------------------------------------

abbrev pub positive : Literal → SignedLiteral
positive l = record { value = pos l.value; place = l.place }

abbrev pub negative : Literal → SignedLiteral
negative l = record { value = neg_ℤ (pos l.value); place = l.place }

-- a literal of any type, with or without a sign
abbrev pub signed_at : Parse SignedLiteral
signed_at T = cond (is_mark mark.Minus (first T)) (after_mark mark.Minus (map_read negative (take_by next_small)) T)
    (map_read positive (take_by next_small) T)

abbrev pub case_of : SignedLiteral → PlacedLabel
case_of v = record { label = Case v.value; place = v.place }

abbrev pub default_of : Place → PlacedLabel
default_of at = record { label = Default; place = at }

-- what a label has before its colon
abbrev pub case_at : Parse PlacedLabel
case_at T = cond (is_mark mark.Case (first T)) (after_mark mark.Case (map_read case_of signed_at) T)
    (map_read default_of (expect_at mark.Default) T)

abbrev pub label_parser : Parse PlacedLabel
label_parser = ended mark.Colon case_at

abbrev pub labels_at : Parse (List PlacedLabel)
labels_at = list_of begins_label label_parser

-- statements -------------------------------------------------------------------------------------------------------

-- the marks that begin a statement that is no block, no assignment and no call
pub data StmtMark : Type 0 where
  at_nothing : StmtMark
  at_if : StmtMark
  at_while : StmtMark
  at_for : StmtMark
  at_break : StmtMark
  at_continue : StmtMark
  at_return : StmtMark
  at_assert : StmtMark
  at_assume : StmtMark
  at_switch : StmtMark

abbrev pub stmt_marks : List (Mark × StmtMark)
stmt_marks = (mark.Semicolon, at_nothing) ∷ (mark.If, at_if) ∷ (mark.While, at_while) ∷ (mark.For, at_for) ∷
    (mark.Break, at_break)
    ∷ (mark.Continue, at_continue) ∷ (mark.Return, at_return) ∷ (mark.Assert, at_assert) ∷ (mark.Assume, at_assume) ∷
    (mark.Switch, at_switch) ∷ []

abbrev pub stmt_mark : Option Token → Option StmtMark
stmt_mark o = one_of stmt_marks o

abbrev pub begins_assign : Option Token → Bool
begins_assign o = cond (has (next_step o)) true (has (next_name o))

abbrev pub begins_stmt : Option Token → Bool
begins_stmt o = cond (is_mark mark.OpenBrace o) true (cond (has (stmt_mark o)) true (begins_assign o))

abbrev pub else_part : Parse StmtTree → Place → CondTree → StmtTree → Parse StmtTree
else_part branch at c t T =
    cond (is_mark mark.Else (first T)) (after_mark mark.Else (map_read (if_else at c t) branch) T)
    (done_with (if_only at c t) T)

abbrev pub read_if : ℕ → Parse StmtTree → Parse StmtTree
read_if d branch = seq (expect_at mark.If) (λ at. seq (in_parens (cond_at d)) (λ c. seq branch (else_part branch at c)))

abbrev pub read_while : ℕ → Parse StmtTree → Parse StmtTree
read_while d branch = seq (expect_at mark.While) (λ at. seq (in_parens (cond_at d)) (λ c. map_read (while at c) branch))

-- p up to the mark, or the mark alone
abbrev pub option_at : {A : Type 0} → Mark → Parse A → Parse (Option A)
option_at m p T = cond (is_mark m (first T)) (done_with None T) (map_read Some p T)

abbrev pub up_to : {A : Type 0} → Mark → Parse A → Parse (Option A)
up_to m p = ended m (option_at m p)

abbrev pub init_of : Option AssignTree → InitTree
init_of None = no_init
init_of (Some a) = assigned a

-- what a loop begins with, and the semicolon after it
abbrev pub init_at : ℕ → Parse InitTree
init_at d T = cond (begins_type (first T)) (map_read declared_first (declaration_at d) T)
    (map_read init_of (up_to mark.Semicolon (assign_at d)) T)

-- the parentheses of a `for`: its beginning, its test and its step
abbrev pub for_head_at : ℕ → Parse (InitTree × Option CondTree × Option AssignTree)
for_head_at d =
    after_mark mark.OpenParen (seq (init_at d) (λ i. seq (up_to mark.Semicolon (cond_at d))
    (λ c. map_read (λ e. (i, c, e)) (up_to mark.CloseParen (assign_at d)))))

abbrev pub for_of : Place → InitTree × Option CondTree × Option AssignTree → StmtTree → StmtTree
for_of at h b = for at h.0 h.1 h.2 b

abbrev pub read_for : ℕ → Parse StmtTree → Parse StmtTree
read_for d branch = seq (expect_at mark.For) (λ at. seq (for_head_at d) (λ h. map_read (for_of at h) branch))

-- `break;` and `continue;`
abbrev pub read_jump : Mark → (Place → StmtTree) → Parse StmtTree
read_jump m make = map_read make (ended mark.Semicolon (expect_at m))

abbrev pub read_return : ℕ → Parse StmtTree
read_return d = seq (expect_at mark.Return) (λ at. map_read (return at) (up_to mark.Semicolon (rvalue_at d)))

-- `assert` and `assume`
abbrev pub read_check : ℕ → Mark → (Place → CondTree → StmtTree) → Parse StmtTree
read_check d m make = seq (expect_at m) (λ at. map_read (make at) (ended mark.Semicolon (in_parens (cond_at d))))

-- a `switch`; cases reads its braces
abbrev pub read_switch : ℕ → Parse CasesTree → Parse StmtTree
read_switch d cases = seq (expect_at mark.Switch) (λ at. seq (in_parens (expr_at d))
    (λ e. map_read (switch at e) cases))

abbrev pub read_nothing : Parse StmtTree
read_nothing = map_read nothing (expect_at mark.Semicolon)

-- after a name that a statement begins with
abbrev pub named_rest : ℕ → Identifier → Parse StmtTree
named_rest d x T = cond (is_mark mark.OpenParen (first T)) (map_read call (ended mark.Semicolon (call_rest d x)) T)
    (map_read assign (ended mark.Semicolon (assign_rest d x)) T)

-- an assignment or a call
abbrev pub read_assigned : ℕ → Parse StmtTree
read_assigned d T = cond (has (next_name (first T))) (seq (take_by next_name) (named_rest d) T)
    (map_read assign (ended mark.Semicolon (assign_at d)) T)

-- the forms of a statement that is no block; branch reads a branch, cases the braces of a `switch`
abbrev pub simple_form : ℕ → Parse StmtTree → Parse CasesTree → Option StmtMark → Parse StmtTree
simple_form d branch cases (Some at_nothing) = read_nothing
simple_form d branch cases (Some at_if) = read_if d branch
simple_form d branch cases (Some at_while) = read_while d branch
simple_form d branch cases (Some at_for) = read_for d branch
simple_form d branch cases (Some at_break) = read_jump mark.Break break
simple_form d branch cases (Some at_continue) = read_jump mark.Continue continue
simple_form d branch cases (Some at_return) = read_return d
simple_form d branch cases (Some at_assert) = read_check d mark.Assert assert
simple_form d branch cases (Some at_assume) = read_check d mark.Assume assume
simple_form d branch cases (Some at_switch) = read_switch d cases
simple_form d branch cases None = read_assigned d

abbrev pub simple_of : ℕ → Parse StmtTree → Parse CasesTree → Parse StmtTree
simple_of d branch cases T = simple_form d branch cases (stmt_mark (first T)) T

-- an item of a block
pub data ItemTree : Type 0 where
  declared : DeclarationTree → ItemTree
  stated : StmtTree → ItemTree

abbrev pub put : ItemTree → ItemsTree → ItemsTree
put (declared d) items = declaration d items
put (stated t) items = statement t items

abbrev pub items_from : List ItemTree → ItemsTree
items_from [] = no_items
items_from (i ∷ is) = put i (items_from is)

abbrev pub begins_item : Option Token → Bool
begins_item o = begins_stmt o || begins_type o

abbrev pub stated_of : Parse StmtTree → Parse StmtTree → Parse StmtTree
stated_of simple inner T = cond (is_mark mark.OpenBrace (first T)) (inner T) (simple T)

-- inner reads a block
abbrev pub item_of : ℕ → Parse StmtTree → Parse StmtTree → Parse ItemTree
item_of d simple inner T = cond (begins_type (first T)) (map_read declared (declaration_at d) T)
    (map_read stated (stated_of simple inner) T)

abbrev pub items_parser : ℕ → Parse StmtTree → Parse StmtTree → Parse (List ItemTree)
items_parser d simple inner = list_of begins_item (item_of d simple inner)

abbrev pub body_of : Parse (List ItemTree) → Parse (ItemsTree × Place)
body_of items = after_mark mark.OpenBrace (seq items (λ is. map_read (λ end. (items_from is, end))
    (expect_at mark.CloseBrace)))

abbrev pub block_from : ItemsTree × Place → StmtTree
block_from b = block b.0 b.1

-- a statement of a `switch`, after its labels
abbrev pub LabelledTree : Type 0
LabelledTree = List PlacedLabel × StmtTree

abbrev pub with_labels : List PlacedLabel → CasesTree → CasesTree
with_labels [] cs = cs
with_labels (b ∷ bs) cs = labelled b (with_labels bs cs)

abbrev pub cases_from : List LabelledTree → CasesTree
cases_from [] = no_cases
cases_from (c ∷ cs) = with_labels c.0 (stated_case c.1 (cases_from cs))

abbrev pub begins_case : Option Token → Bool
begins_case o = begins_label o || begins_stmt o

abbrev pub labelled_of : Parse StmtTree → Parse StmtTree → Parse LabelledTree
labelled_of simple inner = seq labels_at (λ bs. map_read (λ t. (bs, t)) (stated_of simple inner))

abbrev pub add_label : PlacedLabel → LabelledTree → LabelledTree
add_label b c = (b ∷ c.0, c.1)

-- the first of them has a label
abbrev pub first_labelled : Parse StmtTree → Parse StmtTree → Parse LabelledTree
first_labelled simple inner = seq label_parser (λ b. map_read (add_label b) (labelled_of simple inner))

abbrev pub some_cases : Parse StmtTree → Parse StmtTree → Parse (List LabelledTree)
some_cases simple inner = seq (first_labelled simple inner)
    (λ c. map_read (λ cs. c ∷ cs) (list_of begins_case (labelled_of simple inner)))

abbrev pub cases_parser : Parse StmtTree → Parse StmtTree → Parse (List LabelledTree)
cases_parser simple inner T = cond (begins_label (first T)) (some_cases simple inner T) (done_with [] T)

abbrev pub braces_of : Parse (List LabelledTree) → Parse CasesTree
braces_of cases = after_mark mark.OpenBrace (map_read cases_from (ended mark.CloseBrace cases))

-- no level is left
abbrev pub too_deep : Parse StmtTree
too_deep T = cond (begins_stmt (first T)) (stop TooDeep T) (stop Syntax T)

abbrev pub braces_too_deep : Parse CasesTree
braces_too_deep T = cond (is_mark mark.OpenBrace (first T)) (stop TooDeep T) (stop Syntax T)

-- a branch, a block's items with its braces, and the braces of a `switch`, each opening one of d levels
unfoldable pub levels : ℕ → Parse StmtTree × Parse (ItemsTree × Place) × Parse CasesTree
levels zero = (too_deep, (λ T. stop TooDeep T), braces_too_deep)
levels (suc d) = (
  stated_of (simple_of d (levels d).0 (levels d).2) (map_read block_from
      (body_of (items_parser d (simple_of d (levels d).0 (levels d).2) (map_read block_from (levels d).1)))),
  body_of (items_parser d (simple_of d (levels d).0 (levels d).2) (map_read block_from (levels d).1)),
  braces_of (cases_parser (simple_of d (levels d).0 (levels d).2) (map_read block_from (levels d).1)),
)

abbrev pub branch_at : ℕ → Parse StmtTree
branch_at d = (levels d).0

abbrev pub block_at : ℕ → Parse (ItemsTree × Place)
block_at d = (levels d).1

abbrev pub braces_at : ℕ → Parse CasesTree
braces_at d = (levels d).2

abbrev pub simple_at : ℕ → Parse StmtTree
simple_at d = simple_of d (branch_at d) (braces_at d)

abbrev pub stated_at : ℕ → Parse StmtTree
stated_at d = stated_of (simple_at d) (map_read block_from (block_at d))

abbrev pub item_at : ℕ → Parse ItemTree
item_at d = item_of d (simple_at d) (map_read block_from (block_at d))

abbrev pub items_at : ℕ → Parse (List ItemTree)
items_at d = list_of begins_item (item_at d)

abbrev pub cases_at : ℕ → Parse (List LabelledTree)
cases_at d = cases_parser (simple_at d) (map_read block_from (block_at d))
