-- Trees and first faults of sources with functions, found by reading their tokens.
use Rattle.std.proofs.Common.{◌≡◌, [], ◌∷◌, codes, Some, None, Ok, Err, refl}
use Rattle.lra_base.specs.{declared.number_types.NumberType.TheVariants.Int, declared.number_types.NumberType.TheVariants.Long, declared.refusals.Cause.TheVariants.Syntax}
use Rattle.lra_syntax.specs.declared.tokens.Mark.TheVariants as mark
use Rattle.lra_syntax.specs.Trees.{call, no_items, statement, function, FileTree}
use Rattle.lra_syntax.specs.{Faults.IsTree, Faults.IsTextFault, Grammar.Spells, declared.tokens.Kind.TheVariants.Number, declared.trees.Identifier.Identifier, declared.trees.Parameter.Parameter}
use Rattle.lra_parser_spec.specs.{Expressions.unary_at, Expressions.tests, Files.file_at, Reading.Text, Reading.loop, Statements.levels}
use Rattle.lra_parser_spec.proofs.FaultExamples.{in_line, token_at, mark_token}
use Rattle.lra_parser_spec.proofs.{Answered.tree_found, Answered.text_fault, CallExamples.word_at, CallExamples.named_at, LoopExamples.ended_at, LoopExamples.ends, LoopExamples.number}

-- void f(long a,long long int b){} long g(){} int main(){f(1,2);}
abbrev three : Text
three = mark_token mark.Void 1 ∷ word_at (codes "f") 6 ∷ mark_token mark.OpenParen 7 ∷ mark_token mark.Long 8 ∷ word_at (codes "a") 13 ∷ mark_token mark.Comma 14 ∷ mark_token mark.Long 15 ∷
    mark_token mark.Long 20 ∷ mark_token mark.Int 25
    ∷ word_at (codes "b") 29 ∷ mark_token mark.CloseParen 30 ∷ mark_token mark.OpenBrace 31 ∷ mark_token mark.CloseBrace 32 ∷ mark_token mark.Long 34 ∷ word_at (codes "g") 39 ∷
    mark_token mark.OpenParen 40 ∷ mark_token mark.CloseParen 41
    ∷ mark_token mark.OpenBrace 42 ∷ mark_token mark.CloseBrace 43 ∷ mark_token mark.Int 45 ∷ word_at (codes "main") 49 ∷ mark_token mark.OpenParen 53 ∷ mark_token mark.CloseParen 54 ∷
    mark_token mark.OpenBrace 55 ∷ word_at (codes "f") 56
    ∷ mark_token mark.OpenParen 57 ∷ token_at (Number Int 1) 58 ∷ mark_token mark.Comma 59 ∷ token_at (Number Int 2) 60 ∷ mark_token mark.CloseParen 61 ∷ mark_token mark.Semicolon 62 ∷
    mark_token mark.CloseBrace 63 ∷ []

abbrev long_parameter : Identifier → Parameter
long_parameter x = record { number_type = Long; name = x }

abbrev three_tree : FileTree
three_tree = record {
  parts = function (record {
    result_type = None;
    name = named_at (codes "f") 6;
    parameters = long_parameter (named_at (codes "a") 13) ∷ long_parameter (named_at (codes "b") 29) ∷ [];
    body = no_items;
    end = in_line 32;
  })
      ∷ function (record { result_type = Some Long; name = named_at (codes "g") 39; parameters = []; body = no_items; end = in_line 43 })
      ∷ function (record {
        result_type = Some Int;
        name = named_at (codes "main") 49;
        parameters = [];
        body = statement (call (record { name = named_at (codes "f") 56; arguments = number 1 ∷ number 2 ∷ [] })) no_items;
        end = in_line 63;
      })
      ∷ [];
  end = in_line 64;
}

three_read : file_at 63 (ended_at three 64) ≡ Ok (three_tree, [])
unfolding loop unary_at tests levels
three_read = refl

pub three_found : IsTree Spells (ended_at three 64) three_tree
three_found = tree_found (ended_at three 64) [] three_tree (ends three 64 refl) three_read

-- int f(void){}: the type `int` is that of any function
abbrev int_result : Text
int_result = mark_token mark.Int 1 ∷ word_at (codes "f") 5 ∷ mark_token mark.OpenParen 6 ∷ mark_token mark.Void 7 ∷ mark_token mark.CloseParen 11 ∷ mark_token mark.OpenBrace 12 ∷
    mark_token mark.CloseBrace 13 ∷ []

abbrev int_tree : FileTree
int_tree = record {
  parts = function (record { result_type = Some Int; name = named_at (codes "f") 5; parameters = []; body = no_items; end = in_line 13 }) ∷ [];
  end = in_line 14;
}

int_result_read : file_at 63 (ended_at int_result 14) ≡ Ok (int_tree, [])
unfolding loop unary_at tests levels
int_result_read = refl

pub int_function : IsTree Spells (ended_at int_result 14) int_tree
int_function = tree_found (ended_at int_result 14) [] int_tree (ends int_result 14 refl) int_result_read

-- void f(void,long a){}: nothing stands beside `void`
abbrev void_more : Text
void_more = mark_token mark.Void 1 ∷ word_at (codes "f") 6 ∷ mark_token mark.OpenParen 7 ∷ mark_token mark.Void 8 ∷ mark_token mark.Comma 12 ∷ mark_token mark.Long 13 ∷ word_at (codes "a") 18 ∷
    mark_token mark.CloseParen 19 ∷ mark_token mark.OpenBrace 20
    ∷ mark_token mark.CloseBrace 21 ∷ []

void_more_stops : file_at 63 (ended_at void_more 22) ≡ Err (record { cause = Syntax; left = 7 })
unfolding loop unary_at tests levels
void_more_stops = refl

pub void_and_more : IsTextFault Spells (ended_at void_more 22) Syntax (in_line 12)
void_and_more = text_fault (ended_at void_more 22) (record { cause = Syntax; left = 7 }) (ends void_more 22 refl) void_more_stops (mark_token mark.Comma 12) refl
