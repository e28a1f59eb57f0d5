-- Trees and their tokens, and levels. Which slip an example would catch stands beside it.
use Rattle.std.proofs.Common.{ℕ, negsuc, [], ◌∷◌, refl, arith, inr}
use Rattle.std.specs.Prelude.{codes, None}
use Rattle.lra_base.specs.{Operators.below, declared.case_labels.CaseLabel.TheVariants.Case, declared.number_types.NumberType.TheVariants.Int, declared.number_types.NumberType.TheVariants.Long}
use Rattle.lra_syntax.specs.Grammar.{IsUnary, IsTest, IsAssign, IsDeclarator, IsStmt}
use Rattle.lra_syntax.specs.Trees.{element, expression, set_element, array, group, value, compare, group_of, CondTree, no_init, StmtTree, nothing, if_only, if_else, while, for, switch, no_cases}
use Rattle.lra_syntax.specs.declared.tokens.Kind.TheVariants.{Name, Number, Mark as MarkOf}
use Rattle.lra_syntax.specs.{Texts.Piece, Texts.Pieces, Trees.labelled, Trees.stated, declared.tokens.Kind.Kind, declared.tokens.Mark.Mark, declared.trees.PlacedLabel.PlacedLabel}
use Rattle.lra_syntax.specs.declared.tokens.Mark.TheVariants as mark
use Rattle.lra_syntax.proofs.TreeSamples.{at, name_at, x_at, alone, literal_text, use_of, tested}

abbrev piece : Kind → ℕ → ℕ → Piece
piece k c level = (record { kind = k; place = at c }, level)

abbrev marked : Mark → ℕ → ℕ → Piece
marked m c level = piece (MarkOf m) c level

-- the `else` of the nearest `if` -------------------------------------------------------------------------------------

abbrev one : CondTree
one = tested (value (literal_text 1))

abbrev nearest : StmtTree
nearest = if_only (at 1) one (if_else (at 7) one (nothing (at 13)) (nothing (at 20)))

abbrev farther : StmtTree
farther = if_else (at 1) one (if_only (at 7) one (nothing (at 13))) (nothing (at 20))

-- if(1) if(1) ; else ;
-- the levels: the outer branch is level 2, and those of the inner `if` level 3; the first token of a branch opens its level
abbrev dangling : Pieces
dangling = marked mark.If 1 0 ∷ marked mark.OpenParen 3 0 ∷ piece (Number Int 1) 4 0 ∷ marked mark.CloseParen 5 0
    ∷ marked mark.If 7 2 ∷ marked mark.OpenParen 9 0 ∷ piece (Number Int 1) 10 0 ∷ marked mark.CloseParen 11 0
    ∷ marked mark.Semicolon 13 3 ∷ marked mark.Else 15 0 ∷ marked mark.Semicolon 20 3 ∷ []

nearest_else : IsStmt 0 1 nearest dangling
nearest_else = (
  _,
  _,
  refl,
  refl,
  (
    _,
    _,
    refl,
    (_, _, refl, (at 3, refl), (_, _, refl, (at 4, refl), (at 5, refl))),
    ((_, _, refl, refl, (_, _, refl, (_, _, refl, (at 9, refl), (_, _, refl, (at 10, refl), (at 11, refl))), (_, _, refl, refl, (_, _, refl, (at 15, refl), refl)))), λ e. e),
  ),
)

-- catches an `else` that may belong to the outer `if`: no text has that tree
no_farther_else : (o l : ℕ) (z : Pieces) → IsStmt o l farther z → ⊥
no_farther_else o l z s = s.1 tt

-- and through loops
abbrev letter : ℕ → ℕ → CondTree
letter a c = tested (value (use_of (name_at (a ∷ []) c)))

-- catches loops that hide an `if` from the `else` after them: no text has the tree whose `else` belongs to the outer
-- `if`
no_else_past_loops : (o l : ℕ) (z : Pieces)
    → IsStmt o l (if_else (at 1) (letter 97 4) (while (at 7) (letter 98 13) (for (at 16) no_init None None (if_only (at 24) (letter 99 27) (nothing (at 30))))) (nothing (at 37))) z → ⊥
no_else_past_loops o l z s = s.1 tt

-- conditions in parentheses ------------------------------------------------------------------------------------------

-- (x) is an expression in parentheses, and not a condition
grouped_expression : IsTest 1 (value (alone (group (use_of (x_at 2))))) (marked mark.OpenParen 1 2 ∷ piece (Name (codes "x")) 2 0 ∷ marked mark.CloseParen 3 0 ∷ [])
grouped_expression = (_, _, refl, (at 1, refl), (_, _, refl, refl, (at 3, refl)))

not_a_condition : (l : ℕ) (z : Pieces) → IsTest l (group_of (tested (value (use_of (x_at 2))))) z → ⊥
not_a_condition l z s = s.1

-- (x<1) is a condition
grouped_condition : IsTest 1 (group_of (tested (compare (use_of (x_at 2)) below (literal_text 1))))
    (marked mark.OpenParen 1 2 ∷ piece (Name (codes "x")) 2 0 ∷ marked mark.Less 3 0 ∷ piece (Number Int 1) 4 0 ∷ marked mark.CloseParen 5 0 ∷ [])
grouped_condition = ((_, _, refl, (at 1, refl), (_, _, refl, (_, _, refl, refl, (_, _, refl, (at 3, refl), (at 4, refl))), (at 5, refl))), tt)

-- elements of arrays -------------------------------------------------------------------------------------------------

abbrev named_x : ℕ → ℕ → Piece
named_x c level = piece (Name (codes "x")) c level

-- x[x[1]]
-- catches brackets of indexes that open no level, in which any depth could stand
nested_index : IsUnary 1 (element (x_at 1) (alone (element (x_at 3) (literal_text 1))))
    (named_x 1 0 ∷ marked mark.OpenBracket 2 2 ∷ named_x 3 0 ∷ marked mark.OpenBracket 4 3 ∷ piece (Number Int 1) 5 0
    ∷ marked mark.CloseBracket 6 0 ∷ marked mark.CloseBracket 7 0 ∷ [])
nested_index = (
  _,
  _,
  refl,
  refl,
  (
    _,
    _,
    refl,
    (at 2, refl),
    (_, _, refl, (_, _, refl, refl, (_, _, refl, (at 4, refl), (_, _, refl, (at 5, refl), (at 6, refl)))), (at 7, refl)),
  ),
)

-- x[1]=2 in a branch, whose level the name opens
element_set : IsAssign 2 2 (set_element (x_at 1) (literal_text 1) (expression (literal_text 2)))
    (named_x 1 2 ∷ marked mark.OpenBracket 2 3 ∷ piece (Number Int 1) 3 0 ∷ marked mark.CloseBracket 4 0
    ∷ marked mark.Assign 5 0 ∷ piece (Number Int 2) 6 0 ∷ [])
element_set = (
  _,
  _,
  refl,
  refl,
  (
    _,
    _,
    refl,
    (_, _, refl, (at 2, refl), (_, _, refl, (at 3, refl), (at 4, refl))),
    (_, _, refl, (at 5, refl), (at 6, refl)),
  ),
)

-- x[3l] in a declaration: catches the bracket of a length that opens a level, and a length that has to be an `int`
array_declared : IsDeclarator 1 (record { name = x_at 1; shape = array (record { value = 3; place = at 3 }) })
    (named_x 1 0 ∷ marked mark.OpenBracket 2 0 ∷ piece (Number Long 3) 3 0 ∷ marked mark.CloseBracket 5 0 ∷ [])
array_declared = (_, _, refl, refl, (_, _, refl, (at 2, refl), (_, _, refl, (Long, refl), (at 5, refl))))

-- the braces of a `switch` ---------------------------------------------------------------------------------------------

abbrev minus_one : PlacedLabel
minus_one = record { label = Case (negsuc 0); place = at 17 }

-- switch(1){case -1:;}
-- the brace opens level 2; neither the sign nor the statement opens one
one_case : IsStmt 0 1 (switch (at 1) (literal_text 1) (labelled minus_one (stated (nothing (at 19)) no_cases)))
    (marked mark.Switch 1 0 ∷ marked mark.OpenParen 7 0 ∷ piece (Number Int 1) 8 0 ∷ marked mark.CloseParen 9 0
    ∷ marked mark.OpenBrace 10 2 ∷ marked mark.Case 11 0 ∷ marked mark.Minus 16 0 ∷ piece (Number Int 1) 17 0
    ∷ marked mark.Colon 18 0 ∷ marked mark.Semicolon 19 0 ∷ marked mark.CloseBrace 20 0 ∷ [])
one_case = (
  _,
  _,
  refl,
  refl,
  (
    _,
    _,
    refl,
    (_, _, refl, (at 7, refl), (_, _, refl, (at 8, refl), (at 9, refl))),
    (
      _,
      _,
      refl,
      (at 10, refl),
      (
        _,
        _,
        refl,
        (
          _,
          _,
          refl,
          (_, _, refl, (_, _, refl, (at 11, refl), (Int, 1, omega arith, inr (refl, (_, _, refl, (at 16, refl), refl)))), (at 18, refl)),
          (_, _, refl, refl, refl),
        ),
        (at 20, refl),
      ),
    ),
  ),
)

-- catches a statement before the first label: no text has that tree
no_statement_first : (o l : ℕ) (z : Pieces) → IsStmt o l (switch (at 1) (literal_text 1) (stated (nothing (at 11)) no_cases)) z → ⊥
no_statement_first o l z (x, y, e, word, (p, q, f, given, (r, s, g, opening, (t, u, h, none, closing)))) = none

-- and a label that no statement follows
no_label_last : (o l : ℕ) (z : Pieces) → IsStmt o l (switch (at 1) (literal_text 1) (labelled minus_one no_cases)) z → ⊥
no_label_last o l z (x, y, e, word, (p, q, f, given, (r, s, g, opening, (t, u, h, (v, w, i, label, none), closing)))) = none
