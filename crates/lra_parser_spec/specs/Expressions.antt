-- Readers of expressions and conditions. d levels of nesting are left.
use Rattle.std.specs.Prelude.{ℕ, zero, suc, cond, List, [], ◌∷◌, Option, Some, None}
use Rattle.lra_base.specs.OperatorViews.{comparison_view}
use Rattle.lra_base.specs.{declared.operators.Comparison.Comparison, declared.refusals.Cause.TheVariants.TooDeep}
use Rattle.lra_syntax.specs.Trees.{UnaryTree, negated, positive, literal, variable, input, group, element, TermTree}
use Rattle.lra_syntax.specs.Trees.{unary, ExprTree, term, NegationTree, opposite_again, value_of_unary, group_opposed}
use Rattle.lra_syntax.specs.Trees.{TestTree, opposite, value, compare, group_of, ConjunctionTree, test, and, CondTree}
use Rattle.lra_syntax.specs.Trees.{conjunction, or}
use Rattle.lra_syntax.specs.{Views.further_factor, Views.further_term, declared.tokens.Mark.Mark}
use Rattle.lra_syntax.specs.{declared.tokens.Token.Token, declared.trees.FactorOperator.FactorOperator}
use Rattle.lra_syntax.specs.{declared.trees.Identifier.Identifier, declared.trees.SumOperator.SumOperator}
use Rattle.lra_syntax.specs.declared.tokens.Mark.TheVariants as mark
use Rattle.lra_syntax.specs.declared.trees.FactorOperator.TheVariants as factor
use Rattle.lra_syntax.specs.declared.trees.SumOperator.TheVariants as sum
use Rattle.lra_base.specs.declared.operators.Comparison.TheVariants as comparison
use Rattle.lra_parser_spec.specs.Reading.{Parse, stop, seq, map_read, done_with, expect, take_by, next_name, Literal}
use Rattle.lra_parser_spec.specs.Reading.{next_literal, has, one_of, chain, chain_rest}
use Rattle.lra_parser_spec.specs.Tests.{first, is_mark}

-- operators --------------------------------------------------------------------------------------------------------

abbrev pub factor_operators : List (Mark × FactorOperator)
factor_operators = (mark.Star, factor.Times) ∷ (mark.Slash, factor.Over) ∷ (mark.Percent, factor.Modulo) ∷ []

abbrev pub factor_operator : Option Token → Option FactorOperator
factor_operator o = one_of factor_operators o

abbrev pub sum_operators : List (Mark × SumOperator)
sum_operators = (mark.Plus, sum.Plus) ∷ (mark.Minus, sum.Minus) ∷ []

abbrev pub sum_operator : Option Token → Option SumOperator
sum_operator o = one_of sum_operators o

abbrev pub comparisons : List (Mark × Comparison)
comparisons = (mark.Less, comparison.Below) ∷ (mark.AtMost, comparison.AtMost) ∷ (mark.Greater, comparison.Above) ∷
    (mark.AtLeast, comparison.AtLeast)
    ∷ (mark.Equal, comparison.Equal) ∷ (mark.Differs, comparison.Differs) ∷ []

abbrev pub next_comparison : Option Token → Option Comparison
next_comparison o = one_of comparisons o

abbrev pub next_and : Option Token → Option (Unit {0})
next_and o = one_of ((mark.And, tt {0}) ∷ []) o

abbrev pub next_or : Option Token → Option (Unit {0})
next_or o = one_of ((mark.Or, tt {0}) ∷ []) o

-- parts ------------------------------------------------------------------------------------------------------------

-- after a mark
abbrev pub after_mark : {A : Type 0} → Mark → Parse A → Parse A
after_mark m p = seq (expect m (tt {0})) (λ _. p)

-- up to a mark
abbrev pub ended : {A : Type 0} → Mark → Parse A → Parse A
ended m p = seq p (λ a. expect m a)

abbrev pub in_parens : {A : Type 0} → Parse A → Parse A
in_parens p = after_mark mark.OpenParen (ended mark.CloseParen p)

abbrev pub brackets_parser : {A : Type 0} → Parse A → Parse A
brackets_parser p = after_mark mark.OpenBracket (ended mark.CloseBracket p)

-- expressions ------------------------------------------------------------------------------------------------------

abbrev pub factors : Parse UnaryTree → TermTree → Parse TermTree
factors u t = chain_rest factor_operator further_factor u t

abbrev pub term_of : Parse UnaryTree → Parse TermTree
term_of u = seq u (λ a. factors u (unary a))

abbrev pub summands : Parse UnaryTree → ExprTree → Parse ExprTree
summands u e = chain_rest sum_operator further_term (term_of u) e

abbrev pub expr_of : Parse UnaryTree → Parse ExprTree
expr_of u = seq (term_of u) (λ t. summands u (term t))

-- the marks that begin a unary
pub data UnaryMark : Type 0 where
  at_minus : UnaryMark
  at_plus : UnaryMark
  at_group : UnaryMark
  at_input : UnaryMark

abbrev pub unary_marks : List (Mark × UnaryMark)
unary_marks = (mark.Minus, at_minus) ∷ (mark.Plus, at_plus) ∷ (mark.OpenParen, at_group) ∷ (mark.Input, at_input) ∷ []

abbrev pub unary_mark : Option Token → Option UnaryMark
unary_mark o = one_of unary_marks o

abbrev pub literal_tree : Literal → UnaryTree
literal_tree l = literal l.number_type l.value

abbrev pub read_literal : Parse UnaryTree
read_literal = map_read literal_tree (take_by next_literal)

-- after a name: an element, or else the variable; index reads an index with its brackets
abbrev pub named_unary : Parse ExprTree → Identifier → Parse UnaryTree
named_unary index x T = cond (is_mark mark.OpenBracket (first T)) (map_read (element x) index T)
    (done_with (variable x) T)

abbrev pub read_named : Parse ExprTree → Parse UnaryTree
read_named index = seq (take_by next_name) (named_unary index)

abbrev pub read_input : Parse UnaryTree
read_input = after_mark mark.Input (after_mark mark.OpenParen (expect mark.CloseParen input))

abbrev pub atom : Parse ExprTree → Parse UnaryTree
atom index T = cond (has (next_literal (first T))) (read_literal T) (read_named index T)

-- the forms of a unary
abbrev pub unary_form : Parse UnaryTree → Parse UnaryTree → Parse UnaryTree → Parse ExprTree →
    Option UnaryMark → Parse UnaryTree
unary_form minus plus grouped index (Some at_minus) = minus
unary_form minus plus grouped index (Some at_plus) = plus
unary_form minus plus grouped index (Some at_group) = grouped
unary_form minus plus grouped index (Some at_input) = read_input
unary_form minus plus grouped index None = atom index

unfoldable pub unary_at : ℕ → Parse UnaryTree
unary_at zero T =
    unary_form (stop TooDeep) (stop TooDeep) (stop TooDeep) (stop TooDeep) (unary_mark (first T)) T
unary_at (suc d) T =
    unary_form (after_mark mark.Minus (map_read negated (unary_at d)))
    (after_mark mark.Plus (map_read positive (unary_at d)))
    (map_read group (in_parens (expr_of (unary_at d))))
    (brackets_parser (expr_of (unary_at d)))
    (unary_mark (first T)) T

abbrev pub expr_at : ℕ → Parse ExprTree
expr_at d = expr_of (unary_at d)

-- conditions -------------------------------------------------------------------------------------------------------

-- after an expression: a comparison, or the expression alone
abbrev pub compared : Parse UnaryTree → ExprTree → Parse TestTree
compared u e T = cond (has (next_comparison (first T)))
    (seq (take_by next_comparison) (λ op. map_read (compare e (comparison_view op)) (expr_of u)) T)
    (done_with (value e) T)

-- after a unary that a condition begins with
abbrev pub from_unary : Parse UnaryTree → UnaryTree → Parse TestTree
from_unary u a = seq (factors u (unary a)) (λ t. seq (summands u (term t)) (compared u))

-- the condition is this expression alone
abbrev pub alone : CondTree → Option ExprTree
alone (conjunction (test (value e))) = Some e
alone (conjunction (test (opposite n))) = None
alone (conjunction (test (compare a op b))) = None
alone (conjunction (test (group_of c))) = None
alone (conjunction (and c t)) = None
alone (or c d) = None

abbrev pub after_alone : Parse UnaryTree → CondTree → Option ExprTree → Parse TestTree
after_alone u c (Some e) = from_unary u (group e)
after_alone u c None = done_with (group_of c)

-- after a condition in parentheses, which is the start of an expression if it is one itself
abbrev pub after_group : Parse UnaryTree → CondTree → Parse TestTree
after_group u c = after_alone u c (alone c)

abbrev pub negation_alone : CondTree → Option ExprTree → NegationTree
negation_alone c (Some e) = value_of_unary (group e)
negation_alone c None = group_opposed c

abbrev pub negation_of : CondTree → NegationTree
negation_of c = negation_alone c (alone c)

-- the marks that begin a test otherwise than an expression
pub data TestMark : Type 0 where
  at_not : TestMark
  at_open : TestMark

abbrev pub test_marks : List (Mark × TestMark)
test_marks = (mark.Not, at_not) ∷ (mark.OpenParen, at_open) ∷ []

abbrev pub test_mark : Option Token → Option TestMark
test_mark o = one_of test_marks o

abbrev pub test_form : Parse UnaryTree → Parse TestTree → Parse TestTree → Option TestMark → Parse TestTree
test_form u opposed grouped (Some at_not) = opposed
test_form u opposed grouped (Some at_open) = grouped
test_form u opposed grouped None = seq (expr_of u) (compared u)

abbrev pub negation_form : Parse UnaryTree → Parse NegationTree → Parse NegationTree → Option TestMark →
    Parse NegationTree
negation_form u opposed grouped (Some at_not) = opposed
negation_form u opposed grouped (Some at_open) = grouped
negation_form u opposed grouped None = map_read value_of_unary u

abbrev pub conjunction_of : Parse TestTree → Parse ConjunctionTree
conjunction_of p = chain next_and test (λ c k t. and c t) p

abbrev pub cond_of : Parse TestTree → Parse CondTree
cond_of p = chain next_or conjunction (λ c k d. or c d) (conjunction_of p)

-- a test, and what `!` stands before
unfoldable pub tests : ℕ → Parse TestTree × Parse NegationTree
tests zero = (
  (λ T. test_form (unary_at zero) (stop TooDeep) (stop TooDeep) (test_mark (first T)) T),
  (λ T. negation_form (unary_at zero) (stop TooDeep) (stop TooDeep) (test_mark (first T)) T),
)
tests (suc d) = (
  (λ T. test_form (unary_at (suc d)) (after_mark mark.Not (map_read opposite (tests d).1))
      (seq (in_parens (cond_of (tests d).0)) (after_group (unary_at (suc d)))) (test_mark (first T)) T),
  (λ T. negation_form (unary_at (suc d)) (after_mark mark.Not (map_read opposite_again (tests d).1))
      (map_read negation_of (in_parens (cond_of (tests d).0))) (test_mark (first T)) T),
)

abbrev pub test_at : ℕ → Parse TestTree
test_at d = (tests d).0

abbrev pub negation_at : ℕ → Parse NegationTree
negation_at d = (tests d).1

abbrev pub conjunction_at : ℕ → Parse ConjunctionTree
conjunction_at d = conjunction_of (test_at d)

abbrev pub cond_at : ℕ → Parse CondTree
cond_at d = cond_of (test_at d)

-- after a mark that opens a level, of which d are left ----------------------------------------------------------------

abbrev pub negated_at : ℕ → Parse UnaryTree
negated_at zero T = stop TooDeep T
negated_at (suc d) T = after_mark mark.Minus (map_read negated (unary_at d)) T

abbrev pub positive_at : ℕ → Parse UnaryTree
positive_at zero T = stop TooDeep T
positive_at (suc d) T = after_mark mark.Plus (map_read positive (unary_at d)) T

abbrev pub grouped_at : ℕ → Parse UnaryTree
grouped_at zero T = stop TooDeep T
grouped_at (suc d) T = map_read group (in_parens (expr_at d)) T

-- an index with its brackets
abbrev pub index_at : ℕ → Parse ExprTree
index_at zero T = stop TooDeep T
index_at (suc d) T = brackets_parser (expr_at d) T

abbrev pub opposed_at : ℕ → Parse NegationTree
opposed_at zero T = stop TooDeep T
opposed_at (suc d) T = after_mark mark.Not (negation_at d) T

abbrev pub closed_at : ℕ → Parse CondTree
closed_at zero T = stop TooDeep T
closed_at (suc d) T = in_parens (cond_at d) T
