-- Trees and first faults of sources with a `switch`, found by reading their tokens.
use Rattle.std.proofs.Common.{◌≡◌, negsuc, [], ◌∷◌, Ok, Err, refl}
use Rattle.lra_base.specs.declared.case_labels.CaseLabel.TheVariants.{Case, Default}
use Rattle.lra_base.specs.{declared.number_types.NumberType.TheVariants.Int, declared.refusals.Cause.TheVariants.Syntax}
use Rattle.lra_syntax.specs.declared.tokens.Mark.TheVariants as mark
use Rattle.lra_syntax.specs.Trees.{FileTree, nothing, break, switch, no_cases, labelled, stated, no_items, statement}
use Rattle.lra_syntax.specs.{Faults.IsTree, Faults.IsTextFault, Grammar.Spells, declared.tokens.Kind.TheVariants.Name, declared.tokens.Kind.TheVariants.Number}
use Rattle.lra_parser_spec.specs.{Expressions.unary_at, Expressions.tests, Files.file_at, Reading.Text, Reading.loop, Statements.levels}
use Rattle.lra_parser_spec.proofs.FaultExamples.{in_line, token_at, mark_token, main_head}
use Rattle.lra_parser_spec.proofs.{Answered.tree_found, Answered.text_fault, LoopExamples.ended_at, LoopExamples.ends, LoopExamples.main_of, LoopExamples.number}

-- int main(void){ switch(1){ and what the braces hold
abbrev braces : Text → Text
braces T = main_head (mark_token mark.Switch 17 ∷ mark_token mark.OpenParen 23 ∷ token_at (Number Int 1) 24 ∷ mark_token mark.CloseParen 25
    ∷ mark_token mark.OpenBrace 26 ∷ T)

-- switch(1){ ; } : catches a statement before the first label
abbrev no_label : Text
no_label = braces (mark_token mark.Semicolon 28 ∷ mark_token mark.CloseBrace 30 ∷ mark_token mark.CloseBrace 32 ∷ [])

no_label_stops : file_at 63 (ended_at no_label 33) ≡ Err (record { cause = Syntax; left = 4 })
unfolding loop unary_at tests levels
no_label_stops = refl

pub unlabelled_statement : IsTextFault Spells (ended_at no_label 33) Syntax (in_line 28)
unlabelled_statement = text_fault (ended_at no_label 33) (record { cause = Syntax; left = 4 }) (ends no_label 33 refl) no_label_stops
    (mark_token mark.Semicolon 28) refl

-- switch(1){ case 1: } : and a label that no statement follows
abbrev label_last : Text
label_last = braces (mark_token mark.Case 28 ∷ token_at (Number Int 1) 33 ∷ mark_token mark.Colon 34 ∷ mark_token mark.CloseBrace 36
    ∷ mark_token mark.CloseBrace 38 ∷ [])

label_last_stops : file_at 63 (ended_at label_last 39) ≡ Err (record { cause = Syntax; left = 3 })
unfolding loop unary_at tests levels
label_last_stops = refl

pub lone_label : IsTextFault Spells (ended_at label_last 39) Syntax (in_line 36)
lone_label = text_fault (ended_at label_last 39) (record { cause = Syntax; left = 3 }) (ends label_last 39 refl) label_last_stops
    (mark_token mark.CloseBrace 36) refl

-- switch(1){ case 1: long z; } : and a declaration after a label
abbrev declares : Text
declares = braces (mark_token mark.Case 28 ∷ token_at (Number Int 1) 33 ∷ mark_token mark.Colon 34 ∷ mark_token mark.Long 36 ∷ token_at (Name (122 ∷ [])) 41
    ∷ mark_token mark.Semicolon 42 ∷ mark_token mark.CloseBrace 44 ∷ mark_token mark.CloseBrace 46 ∷ [])

declares_stops : file_at 63 (ended_at declares 47) ≡ Err (record { cause = Syntax; left = 6 })
unfolding loop unary_at tests levels
declares_stops = refl

pub labelled_declaration : IsTextFault Spells (ended_at declares 47) Syntax (in_line 36)
labelled_declaration = text_fault (ended_at declares 47) (record { cause = Syntax; left = 6 }) (ends declares 47 refl) declares_stops
    (mark_token mark.Long 36) refl

-- switch(1){ case 1+1: ; } : and an expression in place of a literal
abbrev sum : Text
sum = braces (mark_token mark.Case 28 ∷ token_at (Number Int 1) 33 ∷ mark_token mark.Plus 34 ∷ token_at (Number Int 1) 35 ∷ mark_token mark.Colon 36
    ∷ mark_token mark.Semicolon 38
    ∷ mark_token mark.CloseBrace 40 ∷ mark_token mark.CloseBrace 42 ∷ [])

sum_stops : file_at 63 (ended_at sum 43) ≡ Err (record { cause = Syntax; left = 7 })
unfolding loop unary_at tests levels
sum_stops = refl

pub case_of_sum : IsTextFault Spells (ended_at sum 43) Syntax (in_line 34)
case_of_sum = text_fault (ended_at sum 43) (record { cause = Syntax; left = 7 }) (ends sum 43 refl) sum_stops (mark_token mark.Plus 34) refl

-- case 1: ; : and a label outside
abbrev outside : Text
outside = main_head (mark_token mark.Case 17 ∷ token_at (Number Int 1) 22 ∷ mark_token mark.Colon 23 ∷ mark_token mark.Semicolon 25
    ∷ mark_token mark.CloseBrace 27 ∷ [])

outside_stops : file_at 63 (ended_at outside 28) ≡ Err (record { cause = Syntax; left = 6 })
unfolding loop unary_at tests levels
outside_stops = refl

pub label_outside : IsTextFault Spells (ended_at outside 28) Syntax (in_line 17)
label_outside = text_fault (ended_at outside 28) (record { cause = Syntax; left = 6 }) (ends outside 28 refl) outside_stops (mark_token mark.Case 17) refl

-- switch(1){ case -1: default: ; break; } : two labels before one statement, and a second one after it
abbrev two_labels : Text
two_labels = braces (mark_token mark.Case 28 ∷ mark_token mark.Minus 33 ∷ token_at (Number Int 1) 34 ∷ mark_token mark.Colon 35 ∷ mark_token mark.Default 37
    ∷ mark_token mark.Colon 44
    ∷ mark_token mark.Semicolon 46 ∷ mark_token mark.Break 48 ∷ mark_token mark.Semicolon 53 ∷ mark_token mark.CloseBrace 55 ∷ mark_token mark.CloseBrace 57
    ∷ [])

abbrev two_labels_tree : FileTree
two_labels_tree = main_of (statement (switch (in_line 17) (number 1)
    (labelled (record { label = Case (negsuc 0); place = in_line 34 }) (labelled (record { label = Default; place = in_line 37 })
    (stated (nothing (in_line 46)) (stated (break (in_line 48)) no_cases))))) no_items) 57

two_labels_read : file_at 63 (ended_at two_labels 58) ≡ Ok (two_labels_tree, [])
unfolding loop unary_at tests levels
two_labels_read = refl

pub labels_together : IsTree Spells (ended_at two_labels 58) two_labels_tree
labels_together = tree_found (ended_at two_labels 58) [] two_labels_tree (ends two_labels 58 refl) two_labels_read
