-- Refusals of whole sources, whose tokens and trees are found by reading them. Which slip an example would catch stands
-- beside it.
use Rattle.std.proofs.Common.{◌≡◌, ℕ, true, List, [], ◌∷◌, ◌++◌, codes, length, None, Ok, refl, arith}
use Rattle.std.specs.Prelude.{◌≤◌}
use Rattle.lra_base.specs.declared.refusals.Cause.TheVariants.{UnknownName, DuplicateName, Misplaced, BadCall, Recursive, NotArray}
use Rattle.lra_base.specs.{Places.greatest_length, declared.refusals.Cause.Cause, declared.refusals.Place.Place}
use Rattle.lra_front_end.specs.Crates.lra_syntax.declared.tokens.Mark.TheVariants as mark
use Rattle.lra_front_end.specs.Crates.lra_resolution_spec.EntryPoint.{EntryPoint, at_main}
use Rattle.lra_front_end.specs.Crates.lra_resolution_spec.Refuse.{Refuse, RefusesTree, bad_tree, bad_name, recursive, Accepts}
use Rattle.lra_front_end.specs.Crates.lra_syntax.Tokens.{tokens_of, end_token}
use Rattle.lra_front_end.specs.Crates.lra_syntax.Trees.{no_items, declaration, statement, FileTree, assign, break, set, set_element, expression}
use Rattle.lra_front_end.specs.Crates.{lra_parser_spec.Expressions.unary_at, lra_parser_spec.Expressions.tests, lra_parser_spec.Files.file_at, lra_parser_spec.Reading.Text}
use Rattle.lra_front_end.specs.Crates.{lra_parser_spec.Reading.loop, lra_parser_spec.Statements.levels, lra_syntax.Grammar.Spells, lra_syntax.declared.trees.Identifier.Identifier}
use Rattle.lra_front_end.proofs.Crates.lra_resolution_spec.NameExamples.{calls_with_one, itself, is_recursive}
use Rattle.lra_front_end.proofs.Crates.lra_syntax.LexedByTest.{space, sign, word_of, one, is_written, are_read_by}
use Rattle.lra_front_end.proofs.Crates.lra_syntax.Lexemes.{ExternalDeclaration, written, reading, all_lexed}
use Rattle.lra_front_end.proofs.Crates.lra_syntax.TreeSamples.{at, x_at, main_of, declared_as, literal_text}
use Rattle.lra_front_end.proofs.Crates.{lra_parser_spec.Answered.tree_found, lra_parser_spec.FaultExamples.all_inner, lra_parser_spec.FaultExamples.no_end}

-- reading a source that is written out -----------------------------------------------------------------------------

abbrev pub inner_tokens : List ExternalDeclaration → Text
inner_tokens xs = tokens_of (reading [] xs)

abbrev pub all_tokens : List ℕ → List ExternalDeclaration → Text
all_tokens source xs = inner_tokens xs ++ end_token source ∷ []

pub refused : (entry : EntryPoint) (source : List ℕ) (xs : List ExternalDeclaration) (t : FileTree) (c : Cause) (p : Place)
    → source ≡ written xs → is_written [] xs ≡ true → length source ≤ greatest_length
    → all_inner (inner_tokens xs) ≡ true → file_at 63 (all_tokens source xs) ≡ Ok (t, []) → RefusesTree entry t c p → Refuse entry Spells source c p
refused entry source xs t c p is so few inner parsed refuses =
    bad_tree (all_tokens source xs) t c p few (all_lexed source xs is (are_read_by [] xs so))
    (tree_found (all_tokens source xs) [] t
    (record { front = inner_tokens xs; last = end_token source; parts = refl; is_end = refl; no_other = no_end (inner_tokens xs) inner }) parsed)
    refuses

-- `int main(void){`, and what comes after it
abbrev main_head : List ExternalDeclaration → List ExternalDeclaration
main_head xs =
    sign mark.Int ∷ space ∷ word_of (codes "main") ∷ sign mark.OpenParen ∷ sign mark.Void ∷ sign mark.CloseParen ∷ sign mark.OpenBrace ∷ xs

-- an accepted source -----------------------------------------------------------------------------------------------

abbrev empty_main : List ExternalDeclaration
empty_main = main_head (sign mark.CloseBrace ∷ [])

abbrev empty_tree : FileTree
empty_tree = main_of no_items 16

empty_read : file_at 63 (all_tokens (codes "int main(void){}") empty_main) ≡ Ok (empty_tree, [])
unfolding loop unary_at tests levels
empty_read = refl

no_calls : (before after : List (List ℕ × Identifier)) (c : List ℕ × Identifier) → [] ≡ before ++ c ∷ after → ⊥
no_calls [] after c e = cc
no_calls (b ∷ before) after c e = cc

-- int main(void){}
empty_accepted : Accepts at_main Spells (codes "int main(void){}") empty_tree
unfolding greatest_length
empty_accepted = record {
  tokens = all_tokens (codes "int main(void){}") empty_main;
  not_long = omega arith;
  lexed = all_lexed (codes "int main(void){}") empty_main refl (are_read_by [] empty_main refl);
  parsed =
      tree_found (all_tokens (codes "int main(void){}") empty_main) [] empty_tree
      (record {
        front = inner_tokens empty_main;
        last = end_token (codes "int main(void){}");
        parts = refl;
        is_end = refl;
        no_other = no_end (inner_tokens empty_main) refl;
      }) empty_read;
  names = refl;
  not_recursive = λ at r. no_calls r.0 r.1 r.2 r.3;
  within = refl;
}

-- faults of names --------------------------------------------------------------------------------------------------

abbrev sets_unknown : List ExternalDeclaration
sets_unknown =
    main_head (space ∷ word_of (codes "x") ∷ space ∷ sign mark.Assign ∷ space ∷ one ∷ sign mark.Semicolon ∷ space ∷ sign mark.CloseBrace ∷ [])

abbrev unknown_tree : FileTree
unknown_tree = main_of (statement (assign (set (x_at 17) (expression (literal_text 1)))) no_items) 24

unknown_read : file_at 63 (all_tokens (codes "int main(void){ x = 1; }") sets_unknown) ≡ Ok (unknown_tree, [])
unfolding loop unary_at tests levels
unknown_read = refl

unknown_name_refused : Refuse at_main Spells (codes "int main(void){ x = 1; }") UnknownName (at 17)
unfolding greatest_length
unknown_name_refused =
    refused at_main (codes "int main(void){ x = 1; }") sets_unknown unknown_tree UnknownName (at 17) refl refl (omega arith) refl unknown_read
    (bad_name (record { cause = UnknownName; place = at 17 }) [] refl)

abbrev breaks_alone : List ExternalDeclaration
breaks_alone = main_head (space ∷ sign mark.Break ∷ sign mark.Semicolon ∷ space ∷ sign mark.CloseBrace ∷ [])

abbrev misplaced_tree : FileTree
misplaced_tree = main_of (statement (break (at 17)) no_items) 24

misplaced_read : file_at 63 (all_tokens (codes "int main(void){ break; }") breaks_alone) ≡ Ok (misplaced_tree, [])
unfolding loop unary_at tests levels
misplaced_read = refl

misplaced_refused : Refuse at_main Spells (codes "int main(void){ break; }") Misplaced (at 17)
unfolding greatest_length
misplaced_refused =
    refused at_main (codes "int main(void){ break; }") breaks_alone misplaced_tree Misplaced (at 17) refl refl (omega arith) refl misplaced_read
    (bad_name (record { cause = Misplaced; place = at 17 }) [] refl)

abbrev declares_twice : List ExternalDeclaration
declares_twice =
    main_head (space ∷ sign mark.Long ∷ space ∷ word_of (codes "x") ∷ sign mark.Semicolon ∷ space ∷ sign mark.Long ∷ space ∷ word_of (codes "x") ∷ sign mark.Semicolon ∷ space
    ∷ sign mark.CloseBrace ∷ [])

abbrev duplicate_tree : FileTree
duplicate_tree = main_of (declaration (declared_as (x_at 22) None) (declaration (declared_as (x_at 30) None) no_items)) 33

duplicate_read : file_at 63 (all_tokens (codes "int main(void){ long x; long x; }") declares_twice) ≡ Ok (duplicate_tree, [])
unfolding loop unary_at tests levels
duplicate_read = refl

-- the second name
duplicate_name_refused : Refuse at_main Spells (codes "int main(void){ long x; long x; }") DuplicateName (at 30)
unfolding greatest_length
duplicate_name_refused =
    refused at_main (codes "int main(void){ long x; long x; }") declares_twice duplicate_tree DuplicateName (at 30) refl refl (omega arith) refl duplicate_read
    (bad_name (record { cause = DuplicateName; place = at 30 }) [] refl)

abbrev indexes_scalar : List ExternalDeclaration
indexes_scalar =
    main_head (space ∷ sign mark.Long ∷ space ∷ word_of (codes "x") ∷ sign mark.Semicolon ∷ space ∷ word_of (codes "x") ∷ sign mark.OpenBracket ∷ one
    ∷ sign mark.CloseBracket ∷ sign mark.Assign ∷ one ∷ sign mark.Semicolon ∷ space ∷ sign mark.CloseBrace ∷ [])

abbrev indexed_tree : FileTree
indexed_tree =
    main_of (declaration (declared_as (x_at 22) None) (statement (assign (set_element (x_at 25) (literal_text 1) (expression (literal_text 1)))) no_items)) 33

indexed_read : file_at 63 (all_tokens (codes "int main(void){ long x; x[1]=1; }") indexes_scalar) ≡ Ok (indexed_tree, [])
unfolding loop unary_at tests levels
indexed_read = refl

-- the name, not its bracket
not_array_refused : Refuse at_main Spells (codes "int main(void){ long x; x[1]=1; }") NotArray (at 25)
unfolding greatest_length
not_array_refused =
    refused at_main (codes "int main(void){ long x; x[1]=1; }") indexes_scalar indexed_tree NotArray (at 25) refl refl (omega arith) refl indexed_read
    (bad_name (record { cause = NotArray; place = at 25 }) [] refl)

-- calls ------------------------------------------------------------------------------------------------------------

-- `void f(void){`, and what comes after it
abbrev f_head : List ExternalDeclaration → List ExternalDeclaration
f_head xs = sign mark.Void ∷ space ∷ word_of (codes "f") ∷ sign mark.OpenParen ∷ sign mark.Void ∷ sign mark.CloseParen ∷ sign mark.OpenBrace ∷ xs

abbrev one_too_many : List ExternalDeclaration
one_too_many =
    f_head (sign mark.CloseBrace ∷ space
    ∷ main_head (space ∷ word_of (codes "f") ∷ sign mark.OpenParen ∷ one ∷ sign mark.CloseParen ∷ sign mark.Semicolon ∷ space ∷ sign mark.CloseBrace ∷ []))

bad_call_read : file_at 63 (all_tokens (codes "void f(void){} int main(void){ f(1); }") one_too_many) ≡ Ok (calls_with_one, [])
unfolding loop unary_at tests levels
bad_call_read = refl

bad_call_refused : Refuse at_main Spells (codes "void f(void){} int main(void){ f(1); }") BadCall (at 32)
unfolding greatest_length
bad_call_refused =
    refused at_main (codes "void f(void){} int main(void){ f(1); }") one_too_many calls_with_one BadCall (at 32) refl refl (omega arith) refl bad_call_read
    (bad_name (record { cause = BadCall; place = at 32 }) [] refl)

abbrev calls_itself : List ExternalDeclaration
calls_itself =
    f_head (space ∷ word_of (codes "f") ∷ sign mark.OpenParen ∷ sign mark.CloseParen ∷ sign mark.Semicolon ∷ space ∷ sign mark.CloseBrace ∷ space
    ∷ main_head (sign mark.CloseBrace ∷ []))

recursive_read : file_at 63 (all_tokens (codes "void f(void){ f(); } int main(void){}") calls_itself) ≡ Ok (itself, [])
unfolding loop unary_at tests levels
recursive_read = refl

recursive_refused : Refuse at_main Spells (codes "void f(void){ f(); } int main(void){}") Recursive (at 15)
unfolding greatest_length
recursive_refused =
    refused at_main (codes "void f(void){ f(); } int main(void){}") calls_itself itself Recursive (at 15) refl refl (omega arith) refl recursive_read
    (recursive (at 15) refl is_recursive)
