-- Trees and first faults of sources with calls, found by reading their tokens.
use Rattle.std.proofs.Common.{◌≡◌, ℕ, List, [], ◌∷◌, codes, Some, Ok, Err, refl}
use Rattle.lra_base.specs.{declared.number_types.NumberType.TheVariants.Int, declared.refusals.Cause.TheVariants.Syntax}
use Rattle.lra_syntax.specs.declared.tokens.Mark.TheVariants as mark
use Rattle.lra_syntax.specs.Faults.{IsTree, IsTextFault}
use Rattle.lra_syntax.specs.Trees.{variable, unary, term, result, set, assign, call, return, no_items, statement, FileTree}
use Rattle.lra_syntax.specs.{Grammar.Spells, declared.tokens.Kind.TheVariants.Name, declared.tokens.Kind.TheVariants.Number, declared.tokens.Token.Token, declared.trees.Identifier.Identifier}
use Rattle.lra_parser_spec.specs.{Expressions.unary_at, Expressions.tests, Files.file_at, Reading.Text, Reading.loop, Statements.levels}
use Rattle.lra_parser_spec.proofs.FaultExamples.{in_line, token_at, mark_token, main_head}
use Rattle.lra_parser_spec.proofs.{Answered.tree_found, Answered.text_fault, LoopExamples.ended_at, LoopExamples.ends, LoopExamples.main_of, LoopExamples.number}

abbrev pub word_at : List ℕ → ℕ → Token
word_at word column = token_at (Name word) column

abbrev pub named_at : List ℕ → ℕ → Identifier
named_at word column = record { word = word; place = in_line column }

-- trees -------------------------------------------------------------------------------------------------------------

-- int main(void){ f(1,x); x=g(); return f(2,x); }
abbrev called : Text
called = main_head (word_at (codes "f") 17 ∷ mark_token mark.OpenParen 18 ∷ token_at (Number Int 1) 19 ∷ mark_token mark.Comma 20 ∷ word_at (codes "x") 21 ∷ mark_token mark.CloseParen 22 ∷
    mark_token mark.Semicolon 23
    ∷ word_at (codes "x") 25 ∷ mark_token mark.Assign 26 ∷ word_at (codes "g") 27 ∷ mark_token mark.OpenParen 28 ∷ mark_token mark.CloseParen 29 ∷ mark_token mark.Semicolon 30 ∷
    mark_token mark.Return 32 ∷ word_at (codes "f") 39
    ∷ mark_token mark.OpenParen 40 ∷ token_at (Number Int 2) 41 ∷ mark_token mark.Comma 42 ∷ word_at (codes "x") 43 ∷ mark_token mark.CloseParen 44 ∷ mark_token mark.Semicolon 45 ∷
    mark_token mark.CloseBrace 47 ∷ [])

abbrev called_tree : FileTree
called_tree = main_of (statement (call (record { name = named_at (codes "f") 17; arguments = number 1 ∷ term (unary (variable (named_at (codes "x") 21))) ∷ [] }))
    (statement (assign (set (named_at (codes "x") 25) (result (record { name = named_at (codes "g") 27; arguments = [] }))))
    (statement (return (in_line 32) (Some (result (record { name = named_at (codes "f") 39; arguments = number 2 ∷ term (unary (variable (named_at (codes "x") 43))) ∷ [] })))) no_items))) 47

called_read : file_at 63 (ended_at called 48) ≡ Ok (called_tree, [])
unfolding loop unary_at tests levels
called_read = refl

pub called_found : IsTree Spells (ended_at called 48) called_tree
called_found = tree_found (ended_at called 48) [] called_tree (ends called 48 refl) called_read

-- faults ------------------------------------------------------------------------------------------------------------

-- int main(void){ x=f(y)+1; }: a call is no part of an expression
abbrev summed : Text
summed = main_head (word_at (codes "x") 17 ∷ mark_token mark.Assign 18 ∷ word_at (codes "f") 19 ∷ mark_token mark.OpenParen 20 ∷ word_at (codes "y") 21 ∷ mark_token mark.CloseParen 22 ∷
    mark_token mark.Plus 23 ∷ token_at (Number Int 1) 24
    ∷ mark_token mark.Semicolon 25 ∷ mark_token mark.CloseBrace 27 ∷ [])

summed_stops : file_at 63 (ended_at summed 28) ≡ Err (record { cause = Syntax; left = 5 })
unfolding loop unary_at tests levels
summed_stops = refl

pub call_in_sum : IsTextFault Spells (ended_at summed 28) Syntax (in_line 23)
call_in_sum = text_fault (ended_at summed 28) (record { cause = Syntax; left = 5 }) (ends summed 28 refl) summed_stops (mark_token mark.Plus 23) refl

-- int main(void){ x=y+f(1); }: nor after an operator
abbrev added : Text
added = main_head (word_at (codes "x") 17 ∷ mark_token mark.Assign 18 ∷ word_at (codes "y") 19 ∷ mark_token mark.Plus 20 ∷ word_at (codes "f") 21 ∷ mark_token mark.OpenParen 22 ∷
    token_at (Number Int 1) 23 ∷ mark_token mark.CloseParen 24
    ∷ mark_token mark.Semicolon 25 ∷ mark_token mark.CloseBrace 27 ∷ [])

added_stops : file_at 63 (ended_at added 28) ≡ Err (record { cause = Syntax; left = 6 })
unfolding loop unary_at tests levels
added_stops = refl

pub call_behind_sum : IsTextFault Spells (ended_at added 28) Syntax (in_line 22)
call_behind_sum = text_fault (ended_at added 28) (record { cause = Syntax; left = 6 }) (ends added 28 refl) added_stops (mark_token mark.OpenParen 22) refl

-- int main(void){ x+=f(1); }: what `+=` adds is an expression
abbrev updated : Text
updated = main_head (word_at (codes "x") 17 ∷ mark_token mark.PlusAssign 18 ∷ word_at (codes "f") 20 ∷ mark_token mark.OpenParen 21 ∷ token_at (Number Int 1) 22 ∷ mark_token mark.CloseParen 23 ∷
    mark_token mark.Semicolon 24 ∷ mark_token mark.CloseBrace 26 ∷ [])

updated_stops : file_at 63 (ended_at updated 27) ≡ Err (record { cause = Syntax; left = 6 })
unfolding loop unary_at tests levels
updated_stops = refl

pub call_in_update : IsTextFault Spells (ended_at updated 27) Syntax (in_line 21)
call_in_update = text_fault (ended_at updated 27) (record { cause = Syntax; left = 6 }) (ends updated 27 refl) updated_stops (mark_token mark.OpenParen 21) refl

-- int main(void){ f(1,); }: a comma asks for another argument
abbrev trailing : Text
trailing = main_head (word_at (codes "f") 17 ∷ mark_token mark.OpenParen 18 ∷ token_at (Number Int 1) 19 ∷ mark_token mark.Comma 20 ∷ mark_token mark.CloseParen 21 ∷ mark_token mark.Semicolon 22 ∷
    mark_token mark.CloseBrace 24 ∷ [])

trailing_stops : file_at 63 (ended_at trailing 25) ≡ Err (record { cause = Syntax; left = 4 })
unfolding loop unary_at tests levels
trailing_stops = refl

pub missing_argument : IsTextFault Spells (ended_at trailing 25) Syntax (in_line 21)
missing_argument = text_fault (ended_at trailing 25) (record { cause = Syntax; left = 4 }) (ends trailing 25 refl) trailing_stops (mark_token mark.CloseParen 21) refl

-- int main(void){ f(g(1)); }: an argument is an expression, and no call
abbrev inner_call : Text
inner_call = main_head (word_at (codes "f") 17 ∷ mark_token mark.OpenParen 18 ∷ word_at (codes "g") 19 ∷ mark_token mark.OpenParen 20 ∷ token_at (Number Int 1) 21 ∷ mark_token mark.CloseParen 22 ∷
    mark_token mark.CloseParen 23 ∷ mark_token mark.Semicolon 24
    ∷ mark_token mark.CloseBrace 26 ∷ [])

inner_call_stops : file_at 63 (ended_at inner_call 27) ≡ Err (record { cause = Syntax; left = 7 })
unfolding loop unary_at tests levels
inner_call_stops = refl

pub call_as_argument : IsTextFault Spells (ended_at inner_call 27) Syntax (in_line 20)
call_as_argument = text_fault (ended_at inner_call 27) (record { cause = Syntax; left = 7 }) (ends inner_call 27 refl) inner_call_stops (mark_token mark.OpenParen 20) refl

-- int main(void){ f; }: a name alone is no statement
abbrev alone : Text
alone = main_head (word_at (codes "f") 17 ∷ mark_token mark.Semicolon 18 ∷ mark_token mark.CloseBrace 20 ∷ [])

alone_stops : file_at 63 (ended_at alone 21) ≡ Err (record { cause = Syntax; left = 3 })
unfolding loop unary_at tests levels
alone_stops = refl

pub name_alone : IsTextFault Spells (ended_at alone 21) Syntax (in_line 18)
name_alone = text_fault (ended_at alone 21) (record { cause = Syntax; left = 3 }) (ends alone 21 refl) alone_stops (mark_token mark.Semicolon 18) refl
