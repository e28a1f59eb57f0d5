-- Refusals of whole sources of several threads, whose tokens and trees are found by reading them.
use Rattle.std.proofs.Common.{◌≡◌, ℕ, true, List, [], ◌∷◌, ◌++◌, ◌+◌, codes, length, Ok, refl, arith}
use Rattle.std.specs.Prelude.{◌≤◌}
use Rattle.lra_base.specs.declared.refusals.Cause.TheVariants.{NoThreads, UnknownName}
use Rattle.lra_base.specs.{Places.greatest_length, declared.refusals.Cause.Cause, declared.refusals.Place.Place}
use Rattle.lra_front_end.specs.Crates.lra_syntax.declared.tokens.Mark.TheVariants as mark
use Rattle.lra_front_end.specs.Crates.lra_resolution_spec.Refuse.{Refuse, bad_name}
use Rattle.lra_front_end.specs.Crates.lra_resolution_spec.EntryPoint.{at_threads}
use Rattle.lra_front_end.specs.Crates.lra_syntax.Trees.{no_items, statement, assign, set, expression, function, FileTree, ItemsTree}
use Rattle.lra_front_end.specs.Crates.{lra_parser_spec.Expressions.unary_at, lra_parser_spec.Expressions.tests, lra_parser_spec.Files.file_at, lra_parser_spec.Reading.Text}
use Rattle.lra_front_end.specs.Crates.{lra_parser_spec.Reading.loop, lra_parser_spec.Statements.levels, lra_syntax.Grammar.Spells, lra_syntax.Tokens.tokens_of, lra_syntax.Tokens.end_token}
use Rattle.lra_front_end.proofs.Crates.lra_syntax.LexedByTest.{space, sign, word_of, one, is_written, are_read_by}
use Rattle.lra_front_end.proofs.Crates.lra_syntax.Lexemes.{ExternalDeclaration, written, reading, all_lexed}
use Rattle.lra_front_end.proofs.Crates.lra_syntax.TreeSamples.{at, x_at, literal_text, void_of}
use Rattle.lra_front_end.proofs.Crates.{lra_parser_spec.Answered.tree_found, lra_parser_spec.FaultExamples.all_inner, lra_parser_spec.FaultExamples.no_end}
use Rattle.lra_front_end.proofs.RefuseExamples.{all_tokens, refused}

-- `void t1(void){`, and what comes after it
abbrev first_head : List ExternalDeclaration → List ExternalDeclaration
first_head xs = sign mark.Void ∷ space ∷ word_of (codes "t1") ∷ sign mark.OpenParen ∷ sign mark.Void ∷ sign mark.CloseParen ∷ sign mark.OpenBrace ∷ xs

-- with this body and a `}` at this column
abbrev first_alone : ItemsTree → ℕ → FileTree
first_alone body c = record { parts = function (void_of (codes "t1") 6 [] body c) ∷ []; end = at (c + 1) }

one_read : file_at 63 (all_tokens (codes "void t1(void){}") (first_head (sign mark.CloseBrace ∷ []))) ≡ Ok (first_alone no_items 15, [])
unfolding loop unary_at tests levels
one_read = refl

-- one thread
one_refused : Refuse at_threads Spells (codes "void t1(void){}") NoThreads (at 16)
unfolding greatest_length
one_refused =
    refused at_threads (codes "void t1(void){}") (first_head (sign mark.CloseBrace ∷ [])) (first_alone no_items 15) NoThreads (at 16) refl refl (omega arith) refl one_read
    (bad_name (record { cause = NoThreads; place = at 16 }) [] refl)

abbrev sets_unknown : List ExternalDeclaration
sets_unknown = first_head (word_of (codes "x") ∷ sign mark.Assign ∷ one ∷ sign mark.Semicolon ∷ sign mark.CloseBrace ∷ [])

abbrev unknown_tree : FileTree
unknown_tree = first_alone (statement (assign (set (x_at 15) (expression (literal_text 1)))) no_items) 19

unknown_read : file_at 63 (all_tokens (codes "void t1(void){x=1;}") sets_unknown) ≡ Ok (unknown_tree, [])
unfolding loop unary_at tests levels
unknown_read = refl

-- faults of names stand before it in the text
unknown_refused : Refuse at_threads Spells (codes "void t1(void){x=1;}") UnknownName (at 15)
unfolding greatest_length
unknown_refused =
    refused at_threads (codes "void t1(void){x=1;}") sets_unknown unknown_tree UnknownName (at 15) refl refl (omega arith) refl unknown_read
    (bad_name (record { cause = UnknownName; place = at 15 }) (record { cause = NoThreads; place = at 20 } ∷ []) refl)
