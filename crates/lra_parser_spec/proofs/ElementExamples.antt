-- Trees and first faults of sources with arrays, found by reading their tokens.
use Rattle.std.proofs.Common.{◌≡◌, ℕ, ◌+◌, zero, suc, List, [], ◌∷◌, codes, Ok, Err, refl}
use Rattle.lra_base.specs.declared.number_types.NumberType.TheVariants.{Int, Long}
use Rattle.lra_base.specs.declared.refusals.Cause.TheVariants.{Syntax, TooDeep}
use Rattle.lra_syntax.specs.declared.tokens.Mark.TheVariants as mark
use Rattle.lra_syntax.specs.Trees.{element, unary, term, ExprTree, expression, set_element, assign, array, no_items, declaration, statement, FileTree}
use Rattle.lra_syntax.specs.{Faults.IsTree, Faults.IsTextFault, Grammar.Spells, declared.tokens.Kind.TheVariants.Number}
use Rattle.lra_parser_spec.specs.{Expressions.unary_at, Expressions.tests, Files.file_at, Reading.Text, Reading.loop, Statements.levels}
use Rattle.lra_parser_spec.proofs.{Answered.tree_found, Answered.text_fault, CallExamples.word_at, CallExamples.named_at, FaultExamples.in_line, FaultExamples.token_at, FaultExamples.mark_token}
use Rattle.lra_parser_spec.proofs.{FaultExamples.main_head, LoopExamples.ended_at, LoopExamples.ends, LoopExamples.main_of, LoopExamples.number}

abbrev element_at : List ℕ → ℕ → ExprTree → ExprTree
element_at word column i = term (unary (element (named_at word column) i))

-- trees -------------------------------------------------------------------------------------------------------------

-- int main(void){ long a[4]; a[b[1]]=a[2]; }
abbrev stored : Text
stored = main_head (mark_token mark.Long 17 ∷ word_at (codes "a") 22 ∷ mark_token mark.OpenBracket 23 ∷ token_at (Number Int 4) 24 ∷ mark_token
    mark.CloseBracket 25 ∷
    mark_token mark.Semicolon 26 ∷ word_at (codes "a") 28 ∷ mark_token mark.OpenBracket 29 ∷ word_at (codes "b") 30 ∷ mark_token mark.OpenBracket 31 ∷
    token_at (Number Int 1) 32 ∷ mark_token mark.CloseBracket 33 ∷ mark_token mark.CloseBracket 34 ∷ mark_token mark.Assign 35 ∷ word_at (codes "a") 36 ∷
    mark_token mark.OpenBracket 37 ∷ token_at (Number Int 2) 38 ∷ mark_token mark.CloseBracket 39 ∷ mark_token mark.Semicolon 40 ∷ mark_token mark.CloseBrace
    42 ∷ [])

abbrev stored_tree : FileTree
stored_tree = main_of (declaration (record {
  number_type = Long;
  first = record { name = named_at (codes "a") 22; shape = array (record { value = 4; place = in_line 24 }) };
  rest = [];
})
    (statement (assign (set_element (named_at (codes "a") 28) (element_at (codes "b") 30 (number 1)) (expression (element_at (codes "a") 36 (number 2)))))
    no_items)) 42

stored_read : file_at 63 (ended_at stored 43) ≡ Ok (stored_tree, [])
unfolding loop unary_at tests levels
stored_read = refl

pub stored_found : IsTree Spells (ended_at stored 43) stored_tree
stored_found = tree_found (ended_at stored 43) [] stored_tree (ends stored 43 refl) stored_read

-- faults ------------------------------------------------------------------------------------------------------------

-- int main(void){ a[1]+=1; }: an element gets its value by `=` alone
abbrev updated : Text
updated = main_head (word_at (codes "a") 17 ∷ mark_token mark.OpenBracket 18 ∷ token_at (Number Int 1) 19 ∷ mark_token mark.CloseBracket 20 ∷ mark_token
    mark.PlusAssign 21 ∷
    token_at (Number Int 1) 23 ∷ mark_token mark.Semicolon 24 ∷ mark_token mark.CloseBrace 26 ∷ [])

updated_stops : file_at 63 (ended_at updated 27) ≡ Err (record { cause = Syntax; left = 5 })
unfolding loop unary_at tests levels
updated_stops = refl

pub updated_element : IsTextFault Spells (ended_at updated 27) Syntax (in_line 21)
updated_element = text_fault (ended_at updated 27) (record { cause = Syntax; left = 5 }) (ends updated 27 refl) updated_stops (mark_token mark.PlusAssign 21)
    refl

-- int main(void){ long a[1]=2; }: an array has no first value
abbrev valued : Text
valued = main_head (mark_token mark.Long 17 ∷ word_at (codes "a") 22 ∷ mark_token mark.OpenBracket 23 ∷ token_at (Number Int 1) 24 ∷ mark_token
    mark.CloseBracket 25 ∷
    mark_token mark.Assign 26 ∷ token_at (Number Int 2) 27 ∷ mark_token mark.Semicolon 28 ∷ mark_token mark.CloseBrace 30 ∷ [])

valued_stops : file_at 63 (ended_at valued 31) ≡ Err (record { cause = Syntax; left = 5 })
unfolding loop unary_at tests levels
valued_stops = refl

pub array_with_value : IsTextFault Spells (ended_at valued 31) Syntax (in_line 26)
array_with_value = text_fault (ended_at valued 31) (record { cause = Syntax; left = 5 }) (ends valued 31 refl) valued_stops (mark_token mark.Assign 26) refl

-- int main(void){ x=1[a]; }: a literal has no index
abbrev turned : Text
turned = main_head (word_at (codes "x") 17 ∷ mark_token mark.Assign 18 ∷ token_at (Number Int 1) 19 ∷ mark_token mark.OpenBracket 20 ∷ word_at (codes "a") 21 ∷
    mark_token mark.CloseBracket 22 ∷ mark_token mark.Semicolon 23 ∷ mark_token mark.CloseBrace 25 ∷ [])

turned_stops : file_at 63 (ended_at turned 26) ≡ Err (record { cause = Syntax; left = 6 })
unfolding loop unary_at tests levels
turned_stops = refl

pub index_of_literal : IsTextFault Spells (ended_at turned 26) Syntax (in_line 20)
index_of_literal = text_fault (ended_at turned 26) (record { cause = Syntax; left = 6 }) (ends turned 26 refl) turned_stops (mark_token mark.OpenBracket 20)
    refl

-- levels: the bracket of an index opens one, as a parenthesis does -------------------------------------------------------

-- `a[` so often, from this column on
abbrev indexed : ℕ → ℕ → Text
indexed zero column = []
indexed (suc n) column = word_at (codes "a") column ∷ mark_token mark.OpenBracket (column + 1) ∷ indexed n (column + 2)

-- int main(void){ x= and 64 times `a[`: the last bracket opens level 65
abbrev nested : Text
nested = main_head (word_at (codes "x") 17 ∷ mark_token mark.Assign 18 ∷ indexed 64 19)

nested_stops : file_at 63 (ended_at nested 147) ≡ Err (record { cause = TooDeep; left = 2 })
unfolding loop unary_at tests levels
nested_stops = refl

pub index_too_deep : IsTextFault Spells (ended_at nested 147) TooDeep (in_line 146)
index_too_deep = text_fault (ended_at nested 147) (record { cause = TooDeep; left = 2 }) (ends nested 147 refl) nested_stops
    (mark_token mark.OpenBracket 146) refl
