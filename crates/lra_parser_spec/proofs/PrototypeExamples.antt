-- Trees and first faults of sources with prototypes, found by reading their tokens.
use Rattle.std.proofs.Common.{◌≡◌, [], ◌∷◌, codes, Some, Ok, Err, refl}
use Rattle.lra_base.specs.{declared.number_types.NumberType.TheVariants.Int, declared.refusals.Cause.TheVariants.Syntax}
use Rattle.lra_syntax.specs.declared.tokens.Mark.TheVariants as mark
use Rattle.lra_syntax.specs.{Faults.IsTree, Faults.IsTextFault, Grammar.Spells, Trees.no_items, Trees.prototype, Trees.function, Trees.FileTree}
use Rattle.lra_parser_spec.specs.{Expressions.unary_at, Expressions.tests, Files.file_at, Reading.Text, Reading.loop, Statements.levels}
use Rattle.lra_parser_spec.proofs.Answered.{tree_found, text_fault}
use Rattle.lra_parser_spec.proofs.{CallExamples.word_at, CallExamples.named_at, FaultExamples.in_line, FaultExamples.mark_token, LoopExamples.ended_at, LoopExamples.ends}

-- extern long f(long,long a); void assert(long); int main(){}
abbrev declared : Text
declared = mark_token mark.Extern 1 ∷ mark_token mark.Long 8 ∷ word_at (codes "f") 13 ∷ mark_token mark.OpenParen 14 ∷ mark_token mark.Long 15 ∷ mark_token mark.Comma 19 ∷ mark_token mark.Long 20 ∷
    word_at (codes "a") 25
    ∷ mark_token mark.CloseParen 26 ∷ mark_token mark.Semicolon 27 ∷ mark_token mark.Void 29 ∷ mark_token mark.Assert 34 ∷ mark_token mark.OpenParen 40 ∷ mark_token mark.Long 41 ∷
    mark_token mark.CloseParen 45
    ∷ mark_token mark.Semicolon 46 ∷ mark_token mark.Int 48 ∷ word_at (codes "main") 52 ∷ mark_token mark.OpenParen 56 ∷ mark_token mark.CloseParen 57 ∷ mark_token mark.OpenBrace 58 ∷
    mark_token mark.CloseBrace 59 ∷ []

abbrev declared_tree : FileTree
declared_tree = record {
  parts = prototype ∷ prototype ∷ function (record { result_type = Some Int; name = named_at (codes "main") 52; parameters = []; body = no_items; end = in_line 59 }) ∷ [];
  end = in_line 60;
}

declared_read : file_at 63 (ended_at declared 60) ≡ Ok (declared_tree, [])
unfolding loop unary_at tests levels
declared_read = refl

pub declared_found : IsTree Spells (ended_at declared 60) declared_tree
declared_found = tree_found (ended_at declared 60) [] declared_tree (ends declared 60 refl) declared_read

-- void f(long){}: a function's parameters have names
abbrev unnamed : Text
unnamed = mark_token mark.Void 1 ∷ word_at (codes "f") 6 ∷ mark_token mark.OpenParen 7 ∷ mark_token mark.Long 8 ∷ mark_token mark.CloseParen 12 ∷ mark_token mark.OpenBrace 13 ∷
    mark_token mark.CloseBrace 14 ∷ []

unnamed_stops : file_at 63 (ended_at unnamed 15) ≡ Err (record { cause = Syntax; left = 3 })
unfolding loop unary_at tests levels
unnamed_stops = refl

pub unnamed_parameter : IsTextFault Spells (ended_at unnamed 15) Syntax (in_line 13)
unnamed_parameter = text_fault (ended_at unnamed 15) (record { cause = Syntax; left = 3 }) (ends unnamed 15 refl) unnamed_stops (mark_token mark.OpenBrace 13) refl

-- extern int main(){}: after `extern` stands no body
abbrev outer_body : Text
outer_body = mark_token mark.Extern 1 ∷ mark_token mark.Int 8 ∷ word_at (codes "main") 12 ∷ mark_token mark.OpenParen 16 ∷ mark_token mark.CloseParen 17 ∷ mark_token mark.OpenBrace 18 ∷
    mark_token mark.CloseBrace 19 ∷ []

outer_body_stops : file_at 63 (ended_at outer_body 20) ≡ Err (record { cause = Syntax; left = 3 })
unfolding loop unary_at tests levels
outer_body_stops = refl

pub body_of_extern : IsTextFault Spells (ended_at outer_body 20) Syntax (in_line 18)
body_of_extern = text_fault (ended_at outer_body 20) (record { cause = Syntax; left = 3 }) (ends outer_body 20 refl) outer_body_stops (mark_token mark.OpenBrace 18) refl

-- void f(long int int);: a parameter without a name ends after its type
abbrev two_ints : Text
two_ints = mark_token mark.Void 1 ∷ word_at (codes "f") 6 ∷ mark_token mark.OpenParen 7 ∷ mark_token mark.Long 8 ∷ mark_token mark.Int 13 ∷ mark_token mark.Int 17 ∷ mark_token mark.CloseParen 20 ∷
    mark_token mark.Semicolon 21 ∷ []

two_ints_stops : file_at 63 (ended_at two_ints 22) ≡ Err (record { cause = Syntax; left = 4 })
unfolding loop unary_at tests levels
two_ints_stops = refl

pub second_int : IsTextFault Spells (ended_at two_ints 22) Syntax (in_line 17)
second_int = text_fault (ended_at two_ints 22) (record { cause = Syntax; left = 4 }) (ends two_ints 22 refl) two_ints_stops (mark_token mark.Int 17) refl
