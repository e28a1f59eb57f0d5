-- Trees and first faults of sources with globals, found by reading their tokens.
use Rattle.std.proofs.Common.{◌≡◌, [], ◌∷◌, codes, Some, None, Ok, Err, refl}
use Rattle.std.specs.Prelude.{negsuc}
use Rattle.lra_base.specs.{declared.number_types.NumberType.TheVariants.Int, declared.number_types.NumberType.TheVariants.Long, declared.refusals.Cause.TheVariants.Syntax}
use Rattle.lra_syntax.specs.declared.tokens.Mark.TheVariants as mark
use Rattle.lra_syntax.specs.Trees.{no_items, scalar, globals, function, FileTree}
use Rattle.lra_syntax.specs.{Faults.IsTree, Faults.IsTextFault, Grammar.Spells, declared.tokens.Kind.TheVariants.Number, declared.trees.SignedLiteral.SignedLiteral}
use Rattle.lra_parser_spec.specs.{Expressions.unary_at, Expressions.tests, Files.file_at, Reading.Text, Reading.loop, Statements.levels}
use Rattle.lra_parser_spec.proofs.FaultExamples.{in_line, token_at, mark_token}
use Rattle.lra_parser_spec.proofs.{Answered.tree_found, Answered.text_fault, CallExamples.word_at, CallExamples.named_at, LoopExamples.ended_at, LoopExamples.ends}

-- long g,h=-5;int main(){}
abbrev two : Text
two = mark_token mark.Long 1 ∷ word_at (codes "g") 6 ∷ mark_token mark.Comma 7 ∷ word_at (codes "h") 8 ∷ mark_token mark.Assign 9 ∷ mark_token mark.Minus 10 ∷ token_at (Number Int 5) 11 ∷
    mark_token mark.Semicolon 12
    ∷ mark_token mark.Int 13 ∷ word_at (codes "main") 17 ∷ mark_token mark.OpenParen 21 ∷ mark_token mark.CloseParen 22 ∷ mark_token mark.OpenBrace 23 ∷ mark_token mark.CloseBrace 24 ∷ []

abbrev minus_five : SignedLiteral
minus_five = record { value = negsuc 4; place = in_line 11 }

abbrev two_tree : FileTree
two_tree = record {
  parts = globals (record {
    number_type = Long;
    first = record { name = named_at (codes "g") 6; shape = scalar None };
    rest = record
        { name = named_at (codes "h") 8; shape = scalar (Some minus_five) } ∷ [];
  })
      ∷ function (record { result_type = Some Int; name = named_at (codes "main") 17; parameters = []; body = no_items; end = in_line 24 }) ∷ [];
  end = in_line 25;
}

two_read : file_at 63 (ended_at two 25) ≡ Ok (two_tree, [])
unfolding loop unary_at tests levels
two_read = refl

pub two_found : IsTree Spells (ended_at two 25) two_tree
two_found = tree_found (ended_at two 25) [] two_tree (ends two 25 refl) two_read

-- int g;int main(){}: catches `int` that is a type before `main` alone
abbrev short : Text
short = mark_token mark.Int 1 ∷ word_at (codes "g") 5 ∷ mark_token mark.Semicolon 6
    ∷ mark_token mark.Int 7 ∷ word_at (codes "main") 11 ∷ mark_token mark.OpenParen 15 ∷ mark_token mark.CloseParen 16 ∷ mark_token mark.OpenBrace 17 ∷ mark_token mark.CloseBrace 18 ∷ []

abbrev short_tree : FileTree
short_tree = record {
  parts = globals (record { number_type = Int; first = record { name = named_at (codes "g") 5; shape = scalar None }; rest = [] })
      ∷ function (record { result_type = Some Int; name = named_at (codes "main") 11; parameters = []; body = no_items; end = in_line 18 }) ∷ [];
  end = in_line 19;
}

short_read : file_at 63 (ended_at short 19) ≡ Ok (short_tree, [])
unfolding loop unary_at tests levels
short_read = refl

pub short_found : IsTree Spells (ended_at short 19) short_tree
short_found = tree_found (ended_at short 19) [] short_tree (ends short 19 refl) short_read

-- int long g;: `long` stands before `int`
abbrev int_long : Text
int_long = mark_token mark.Int 1 ∷ mark_token mark.Long 5 ∷ word_at (codes "g") 10 ∷ mark_token mark.Semicolon 11 ∷ []

int_long_stops : file_at 63 (ended_at int_long 12) ≡ Err (record { cause = Syntax; left = 4 })
unfolding loop unary_at tests levels
int_long_stops = refl

pub long_behind_int : IsTextFault Spells (ended_at int_long 12) Syntax (in_line 5)
long_behind_int = text_fault (ended_at int_long 12) (record { cause = Syntax; left = 4 }) (ends int_long 12 refl) int_long_stops (mark_token mark.Long 5) refl

-- long g=h;: a global gets a literal
abbrev by_name : Text
by_name = mark_token mark.Long 1 ∷ word_at (codes "g") 6 ∷ mark_token mark.Assign 7 ∷ word_at (codes "h") 8 ∷ mark_token mark.Semicolon 9 ∷ []

by_name_stops : file_at 63 (ended_at by_name 10) ≡ Err (record { cause = Syntax; left = 3 })
unfolding loop unary_at tests levels
by_name_stops = refl

pub named_value : IsTextFault Spells (ended_at by_name 10) Syntax (in_line 8)
named_value = text_fault (ended_at by_name 10) (record { cause = Syntax; left = 3 }) (ends by_name 10 refl) by_name_stops (word_at (codes "h") 8) refl

-- long g=- -1;: with one sign at most
abbrev two_signs : Text
two_signs = mark_token mark.Long 1 ∷ word_at (codes "g") 6 ∷ mark_token mark.Assign 7 ∷ mark_token mark.Minus 8 ∷ mark_token mark.Minus 10 ∷ token_at (Number Int 1) 11 ∷ mark_token mark.Semicolon 12
    ∷ []

two_signs_stop : file_at 63 (ended_at two_signs 13) ≡ Err (record { cause = Syntax; left = 4 })
unfolding loop unary_at tests levels
two_signs_stop = refl

pub second_sign : IsTextFault Spells (ended_at two_signs 13) Syntax (in_line 10)
second_sign = text_fault (ended_at two_signs 13) (record { cause = Syntax; left = 4 }) (ends two_signs 13 refl) two_signs_stop (mark_token mark.Minus 10) refl

-- void g;: no variable is `void`
abbrev void_variable : Text
void_variable = mark_token mark.Void 1 ∷ word_at (codes "g") 6 ∷ mark_token mark.Semicolon 7 ∷ []

void_variable_stops : file_at 63 (ended_at void_variable 8) ≡ Err (record { cause = Syntax; left = 2 })
unfolding loop unary_at tests levels
void_variable_stops = refl

pub void_global : IsTextFault Spells (ended_at void_variable 8) Syntax (in_line 7)
void_global = text_fault (ended_at void_variable 8) (record { cause = Syntax; left = 2 }) (ends void_variable 8 refl) void_variable_stops (mark_token mark.Semicolon 7) refl
