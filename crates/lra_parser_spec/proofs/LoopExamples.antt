-- Trees and first faults of sources with loops, found by reading their tokens.
use Rattle.std.proofs.Common.{◌≡◌, ℕ, ◌+◌, zero, suc, true, List, [], ◌∷◌, ◌++◌, codes, Some, None, Ok, Err, refl}
use Rattle.lra_base.specs.declared.refusals.Cause.TheVariants.{Syntax, TooDeep}
use Rattle.lra_base.specs.{Operators.below, declared.number_types.NumberType.TheVariants.Int, declared.number_types.NumberType.TheVariants.Long}
use Rattle.lra_syntax.specs.declared.tokens.Mark.TheVariants as mark
use Rattle.lra_syntax.specs.Faults.{IsTree, IsTextFault}
use Rattle.lra_syntax.specs.Trees.{literal, unary, ExprTree, term, value, conjunction, test, CondTree, expression, DeclarationTree, no_init, declared, StmtTree, block, nothing, if_only, if_else}
use Rattle.lra_syntax.specs.Trees.{while, scalar, for, break, return, ItemsTree, no_items, declaration, statement, function, FileTree, variable, compare, set, increment, before, assigned, continue}
use Rattle.lra_syntax.specs.{Grammar.Spells, declared.tokens.Kind.TheVariants.Name, declared.tokens.Kind.TheVariants.Number, declared.tokens.Kind.TheVariants.End, declared.trees.Identifier.Identifier}
use Rattle.lra_parser_spec.specs.{Expressions.unary_at, Expressions.tests, Files.EndsOnce, Files.file_at, Reading.Text, Reading.loop, Statements.levels}
use Rattle.lra_parser_spec.proofs.Answered.{tree_found, text_fault}
use Rattle.lra_parser_spec.proofs.FaultExamples.{in_line, token_at, mark_token, all_inner, no_end, main_head}

-- the tokens, and the end
abbrev pub ended_at : Text → ℕ → Text
ended_at T column = T ++ token_at End column ∷ []

pub ends : (T : Text) (column : ℕ) → all_inner T ≡ true → EndsOnce (ended_at T column)
ends T column e = record { front = T; last = token_at End column; parts = refl; is_end = refl; no_other = no_end T e }

-- int main(void){ and the body, up to the `}` and the end
abbrev pub main_of : ItemsTree → ℕ → FileTree
main_of body column =
    record {
      parts = function (record { result_type = Some Int; name = record { word = codes "main"; place = in_line 5 }; parameters = []; body = body; end = in_line column }) ∷ [];
      end = in_line (column + 1);
    }

abbrev x_at : ℕ → Identifier
x_at column = record { word = codes "x"; place = in_line column }

abbrev pub number : ℕ → ExprTree
number n = term (unary (literal Int n))

abbrev nonzero : ℕ → CondTree
nonzero n = conjunction (test (value (number n)))

-- faults in heads ---------------------------------------------------------------------------------------------------

-- int main(void){ while 1) ; }
abbrev unopened : Text
unopened = main_head (mark_token mark.While 17 ∷ token_at (Number Int 1) 23 ∷ mark_token mark.CloseParen 24 ∷ mark_token mark.Semicolon 26 ∷ mark_token mark.CloseBrace 28 ∷ [])

unopened_stops : file_at 63 (ended_at unopened 29) ≡ Err (record { cause = Syntax; left = 5 })
unfolding loop unary_at tests levels
unopened_stops = refl

pub unopened_loop : IsTextFault Spells (ended_at unopened 29) Syntax (in_line 23)
unopened_loop = text_fault (ended_at unopened 29) (record { cause = Syntax; left = 5 }) (ends unopened 29 refl) unopened_stops (token_at (Number Int 1) 23) refl

-- int main(void){ for(;;
abbrev cut_off : Text
cut_off = main_head (mark_token mark.For 17 ∷ mark_token mark.OpenParen 20 ∷ mark_token mark.Semicolon 21 ∷ mark_token mark.Semicolon 22 ∷ [])

cut_off_stops : file_at 63 (ended_at cut_off 23) ≡ Err (record { cause = Syntax; left = 1 })
unfolding loop unary_at tests levels
cut_off_stops = refl

pub cut_off_head : IsTextFault Spells (ended_at cut_off 23) Syntax (in_line 23)
cut_off_head = text_fault (ended_at cut_off 23) (record { cause = Syntax; left = 1 }) (ends cut_off 23 refl) cut_off_stops (token_at End 23) refl

-- int main(void){ for(long i=0,;;) ; }: a comma asks for another name
abbrev declares : Text
declares = main_head (mark_token mark.For 17 ∷ mark_token mark.OpenParen 20 ∷ mark_token mark.Long 21 ∷ token_at (Name (codes "i")) 26 ∷ mark_token mark.Assign 27 ∷ token_at (Number Int 0) 28 ∷
    mark_token mark.Comma 29 ∷ mark_token mark.Semicolon 30
    ∷ mark_token mark.Semicolon 31 ∷ mark_token mark.CloseParen 32 ∷ mark_token mark.Semicolon 34 ∷ mark_token mark.CloseBrace 36 ∷ [])

declares_stops : file_at 63 (ended_at declares 37) ≡ Err (record { cause = Syntax; left = 6 })
unfolding loop unary_at tests levels
declares_stops = refl

pub unfinished_declaration : IsTextFault Spells (ended_at declares 37) Syntax (in_line 30)
unfinished_declaration = text_fault (ended_at declares 37) (record { cause = Syntax; left = 6 }) (ends declares 37 refl) declares_stops (mark_token mark.Semicolon 30) refl

-- int main(void){ if(1) long i; }: a branch is a statement, and a declaration is none
abbrev declared_branch : Text
declared_branch = main_head
    (mark_token mark.If 17 ∷ mark_token mark.OpenParen 19 ∷ token_at (Number Int 1) 20 ∷ mark_token mark.CloseParen 21 ∷ mark_token mark.Long 23 ∷ token_at (Name (codes "i")) 28 ∷
    mark_token mark.Semicolon 29 ∷ mark_token mark.CloseBrace 31 ∷ [])

declared_branch_stops : file_at 63 (ended_at declared_branch 32) ≡ Err (record { cause = Syntax; left = 5 })
unfolding loop unary_at tests levels
declared_branch_stops = refl

pub declaration_as_branch : IsTextFault Spells (ended_at declared_branch 32) Syntax (in_line 23)
declaration_as_branch = text_fault (ended_at declared_branch 32) (record { cause = Syntax; left = 5 }) (ends declared_branch 32 refl) declared_branch_stops (mark_token mark.Long 23) refl

-- int main(void){ for(;;1) ; }: an expression is no step
abbrev stepless : Text
stepless = main_head (mark_token mark.For 17 ∷ mark_token mark.OpenParen 20 ∷ mark_token mark.Semicolon 21 ∷ mark_token mark.Semicolon 22 ∷ token_at (Number Int 1) 23 ∷ mark_token mark.CloseParen 24 ∷
    mark_token mark.Semicolon 26 ∷ mark_token mark.CloseBrace 28 ∷ [])

stepless_stops : file_at 63 (ended_at stepless 29) ≡ Err (record { cause = Syntax; left = 5 })
unfolding loop unary_at tests levels
stepless_stops = refl

pub expression_as_step : IsTextFault Spells (ended_at stepless 29) Syntax (in_line 23)
expression_as_step = text_fault (ended_at stepless 29) (record { cause = Syntax; left = 5 }) (ends stepless 29 refl) stepless_stops (token_at (Number Int 1) 23) refl

-- int main(void){ while(1) ; else ; }: no `if` is near
abbrev lone_else : Text
lone_else = main_head (mark_token mark.While 17 ∷ mark_token mark.OpenParen 22 ∷ token_at (Number Int 1) 23 ∷ mark_token mark.CloseParen 24 ∷ mark_token mark.Semicolon 26 ∷ mark_token mark.Else 28 ∷
    mark_token mark.Semicolon 33 ∷ mark_token mark.CloseBrace 35 ∷ [])

lone_else_stops : file_at 63 (ended_at lone_else 36) ≡ Err (record { cause = Syntax; left = 4 })
unfolding loop unary_at tests levels
lone_else_stops = refl

pub else_behind_loop : IsTextFault Spells (ended_at lone_else 36) Syntax (in_line 28)
else_behind_loop = text_fault (ended_at lone_else 36) (record { cause = Syntax; left = 4 }) (ends lone_else 36 refl) lone_else_stops (mark_token mark.Else 28) refl

-- trees -------------------------------------------------------------------------------------------------------------

-- int main(void){ break; return 2; }: where a `break` may stand is no matter of the grammar
abbrev jumps : Text
jumps = main_head (mark_token mark.Break 17 ∷ mark_token mark.Semicolon 22 ∷ mark_token mark.Return 24 ∷ token_at (Number Int 2) 31 ∷ mark_token mark.Semicolon 32 ∷ mark_token mark.CloseBrace 34 ∷ [])

abbrev jumps_tree : FileTree
jumps_tree = main_of (statement (break (in_line 17)) (statement (return (in_line 24) (Some (expression (number 2)))) no_items)) 34

jumps_read : file_at 63 (ended_at jumps 35) ≡ Ok (jumps_tree, [])
unfolding loop unary_at tests levels
jumps_read = refl

pub jumps_found : IsTree Spells (ended_at jumps 35) jumps_tree
jumps_found = tree_found (ended_at jumps 35) [] jumps_tree (ends jumps 35 refl) jumps_read

-- int main(void){ for(long i;;) { long j; ; long k; } }
abbrev inner : Text
inner = main_head (mark_token mark.For 17 ∷ mark_token mark.OpenParen 20 ∷ mark_token mark.Long 21 ∷ token_at (Name (codes "i")) 26 ∷ mark_token mark.Semicolon 27 ∷ mark_token mark.Semicolon 28 ∷
    mark_token mark.CloseParen 29
    ∷ mark_token mark.OpenBrace 31 ∷ mark_token mark.Long 33 ∷ token_at (Name (codes "j")) 38 ∷ mark_token mark.Semicolon 39 ∷ mark_token mark.Semicolon 41 ∷ mark_token mark.Long 43 ∷
    token_at (Name (codes "k")) 48 ∷ mark_token mark.Semicolon 49
    ∷ mark_token mark.CloseBrace 51 ∷ mark_token mark.CloseBrace 53 ∷ [])

abbrev one_name : List ℕ → ℕ → DeclarationTree
one_name word column = record { number_type = Long; first = record { name = record { word = word; place = in_line column }; shape = scalar None }; rest = [] }

abbrev inner_tree : FileTree
inner_tree = main_of (statement (for (in_line 17) (declared (one_name (codes "i") 26)) None None
    (block (declaration (one_name (codes "j") 38) (statement (nothing (in_line 41)) (declaration (one_name (codes "k") 48) no_items))) (in_line 51))) no_items) 53

inner_read : file_at 63 (ended_at inner 54) ≡ Ok (inner_tree, [])
unfolding loop unary_at tests levels
inner_read = refl

pub inner_found : IsTree Spells (ended_at inner 54) inner_tree
inner_found = tree_found (ended_at inner 54) [] inner_tree (ends inner 54 refl) inner_read

-- int main(void){ for(x=0;x<9;++x) continue; return; }
abbrev whole_for : Text
whole_for = main_head (mark_token mark.For 17 ∷ mark_token mark.OpenParen 20 ∷ token_at (Name (codes "x")) 21 ∷ mark_token mark.Assign 22 ∷ token_at (Number Int 0) 23 ∷ mark_token mark.Semicolon 24 ∷
    token_at (Name (codes "x")) 25 ∷ mark_token mark.Less 26 ∷ token_at (Number Int 9) 27
    ∷ mark_token mark.Semicolon 28 ∷ mark_token mark.Increment 29 ∷ token_at (Name (codes "x")) 31 ∷ mark_token mark.CloseParen 32 ∷ mark_token mark.Continue 34 ∷ mark_token mark.Semicolon 42 ∷
    mark_token mark.Return 44 ∷ mark_token mark.Semicolon 50 ∷ mark_token mark.CloseBrace 52 ∷ [])

abbrev whole_for_tree : FileTree
whole_for_tree = main_of (statement (for (in_line 17) (assigned (set (x_at 21) (expression (number 0)))) (Some (conjunction (test (compare (term (unary (variable (x_at 25)))) below (number 9)))))
    (Some (before (in_line 29) increment (x_at 31))) (continue (in_line 34)))
    (statement (return (in_line 44) None) no_items)) 52

whole_for_read : file_at 63 (ended_at whole_for 53) ≡ Ok (whole_for_tree, [])
unfolding loop unary_at tests levels
whole_for_read = refl

pub whole_for_found : IsTree Spells (ended_at whole_for 53) whole_for_tree
whole_for_found = tree_found (ended_at whole_for 53) [] whole_for_tree (ends whole_for 53 refl) whole_for_read

-- int main(void){ if(1) while(2) for(;;) if(3) ; else ; }: the `else` belongs to the nearest `if`
abbrev nearest : Text
nearest = main_head (mark_token mark.If 17 ∷ mark_token mark.OpenParen 19 ∷ token_at (Number Int 1) 20 ∷ mark_token mark.CloseParen 21 ∷ mark_token mark.While 23 ∷ mark_token mark.OpenParen 28 ∷
    token_at (Number Int 2) 29 ∷ mark_token mark.CloseParen 30
    ∷ mark_token mark.For 32 ∷ mark_token mark.OpenParen 35 ∷ mark_token mark.Semicolon 36 ∷ mark_token mark.Semicolon 37 ∷ mark_token mark.CloseParen 38 ∷ mark_token mark.If 40 ∷
    mark_token mark.OpenParen 42 ∷ token_at (Number Int 3) 43 ∷ mark_token mark.CloseParen 44
    ∷ mark_token mark.Semicolon 46 ∷ mark_token mark.Else 48 ∷ mark_token mark.Semicolon 53 ∷ mark_token mark.CloseBrace 55 ∷ [])

abbrev nearest_tree : FileTree
nearest_tree = main_of (statement (if_only (in_line 17) (nonzero 1) (while (in_line 23) (nonzero 2)
    (for (in_line 32) no_init None None (if_else (in_line 40) (nonzero 3) (nothing (in_line 46)) (nothing (in_line 53)))))) no_items) 55

nearest_read : file_at 63 (ended_at nearest 56) ≡ Ok (nearest_tree, [])
unfolding loop unary_at tests levels
nearest_read = refl

pub nearest_found : IsTree Spells (ended_at nearest 56) nearest_tree
nearest_found = tree_found (ended_at nearest 56) [] nearest_tree (ends nearest 56 refl) nearest_read

-- int main(void){ if(1) { while(2) if(3) ; } else ; }: braces leave the `else` to the outer `if`
abbrev braced : Text
braced = main_head (mark_token mark.If 17 ∷ mark_token mark.OpenParen 19 ∷ token_at (Number Int 1) 20 ∷ mark_token mark.CloseParen 21 ∷ mark_token mark.OpenBrace 23
    ∷ mark_token mark.While 25 ∷ mark_token mark.OpenParen 30 ∷ token_at (Number Int 2) 31 ∷ mark_token mark.CloseParen 32
    ∷ mark_token mark.If 34 ∷ mark_token mark.OpenParen 36 ∷ token_at (Number Int 3) 37 ∷ mark_token mark.CloseParen 38 ∷ mark_token mark.Semicolon 40
    ∷ mark_token mark.CloseBrace 42 ∷ mark_token mark.Else 44 ∷ mark_token mark.Semicolon 49 ∷ mark_token mark.CloseBrace 51 ∷ [])

abbrev braced_tree : FileTree
braced_tree = main_of (statement (if_else (in_line 17) (nonzero 1)
    (block (statement (while (in_line 25) (nonzero 2) (if_only (in_line 34) (nonzero 3) (nothing (in_line 40)))) no_items) (in_line 42)) (nothing (in_line 49))) no_items) 51

braced_read : file_at 63 (ended_at braced 52) ≡ Ok (braced_tree, [])
unfolding loop unary_at tests levels
braced_read = refl

pub braced_found : IsTree Spells (ended_at braced 52) braced_tree
braced_found = tree_found (ended_at braced 52) [] braced_tree (ends braced 52 refl) braced_read

-- levels: a loop's body opens one, from its first token on -------------------------------------------------------------

-- `for(;;)` n times
abbrev loops : ℕ → ℕ → Text → Text
loops zero column T = T
loops (suc n) column T = mark_token mark.For column ∷ mark_token mark.OpenParen (column + 3) ∷ mark_token mark.Semicolon (column + 4) ∷ mark_token mark.Semicolon (column + 5) ∷
    mark_token mark.CloseParen (column + 6) ∷ loops n (column + 7) T

abbrev loops_tree : ℕ → ℕ → StmtTree → StmtTree
loops_tree zero column t = t
loops_tree (suc n) column t = for (in_line column) no_init None None (loops_tree n (column + 7) t)

-- int main(void){ 63 times `for(;;)`, and `;}`
abbrev lowest : Text
lowest = main_head (loops 63 17 (mark_token mark.Semicolon 458 ∷ mark_token mark.CloseBrace 459 ∷ []))

lowest_read : file_at 63 (ended_at lowest 460) ≡ Ok (main_of (statement (loops_tree 63 17 (nothing (in_line 458))) no_items) 459, [])
unfolding loop unary_at tests levels
lowest_read = refl

pub lowest_found : IsTree Spells (ended_at lowest 460) (main_of (statement (loops_tree 63 17 (nothing (in_line 458))) no_items) 459)
lowest_found = tree_found (ended_at lowest 460) [] (main_of (statement (loops_tree 63 17 (nothing (in_line 458))) no_items) 459) (ends lowest 460 refl) lowest_read

-- int main(void){ 64 times `for(;;)`, and `;}`: the `;` opens level 65
abbrev too_low : Text
too_low = main_head (loops 64 17 (mark_token mark.Semicolon 465 ∷ mark_token mark.CloseBrace 466 ∷ []))

too_low_stops : file_at 63 (ended_at too_low 467) ≡ Err (record { cause = TooDeep; left = 3 })
unfolding loop unary_at tests levels
too_low_stops = refl

pub body_too_deep : IsTextFault Spells (ended_at too_low 467) TooDeep (in_line 465)
body_too_deep = text_fault (ended_at too_low 467) (record { cause = TooDeep; left = 3 }) (ends too_low 467 refl) too_low_stops (mark_token mark.Semicolon 465) refl

-- so does a parenthesis: `(` n times
abbrev parens : ℕ → ℕ → Text
parens zero column = []
parens (suc n) column = mark_token mark.OpenParen column ∷ parens n (column + 1)

-- int main(void){ long x; x = and 64 times `(`: the last one opens level 65, since the body of `main` is level 1
abbrev too_nested : Text
too_nested =
    main_head (mark_token mark.Long 17 ∷ token_at (Name (codes "x")) 22 ∷ mark_token mark.Semicolon 23 ∷ token_at (Name (codes "x")) 25 ∷ mark_token mark.Assign 27 ∷ parens 64 29)

too_nested_stops : file_at 63 (ended_at too_nested 93) ≡ Err (record { cause = TooDeep; left = 2 })
unfolding loop unary_at tests levels
too_nested_stops = refl

pub expression_too_deep : IsTextFault Spells (ended_at too_nested 93) TooDeep (in_line 92)
expression_too_deep = text_fault (ended_at too_nested 93) (record { cause = TooDeep; left = 2 }) (ends too_nested 93 refl) too_nested_stops (mark_token mark.OpenParen 92) refl
