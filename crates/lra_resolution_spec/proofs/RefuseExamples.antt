-- Refusals at their places: limits and whole sources. Which slip an example would catch stands beside it.
use Rattle.std.proofs.Common.{◌≡◌, ℕ, zero, suc, ◌+◌, List, [], ◌∷◌, ◌++◌, Option, Some, None, refl, arith, take, replicate, ap, ◌∙◌, subst, true, length, sym, get_or}
use Rattle.std.proofs.lemmas.List.{take-replicate, length-replicate, length-append}
use Rattle.std.specs.Prelude.{codes, get_or, ◌≤◌}
use Rattle.lra_resolution_spec.specs.Crates.lra_base.Places.{place_after, place_from, greatest_length}
use Rattle.lra_resolution_spec.specs.Crates.lra_base.declared.refusals.Cause.TheVariants.{TooLong, BadByte, BadLiteral, Syntax, NoMain, TooManyVariables, TooManyPoints}
use Rattle.lra_resolution_spec.specs.Crates.{lra_base.declared.number_types.NumberType.TheVariants.Long, lra_base.declared.refusals.Refusal.Refusal}
use Rattle.lra_syntax.specs.Trees.{scalar, DeclaratorTree, nothing, call, ItemsTree, no_items, declaration, statement, ExternalTree, function, FileTree, for, declared, expression}
use Rattle.lra_syntax.specs.{Lexeme.IsOpen, Lexeme.unclosed, Lexeme.comment, Tokens.is_blank, Tokens.blank, Tokens.line_comment, Tokens.block_comment, Tokens.skipped_line, Tokens.NoGap, Tokens.token}
use Rattle.lra_syntax.specs.{Grammar.Spells, Labels.labels_of, declared.tokens.Kind.Kind, declared.tokens.Kind.TheVariants.Unclosed, declared.tokens.Kind.TheVariants.End, declared.tokens.Token.Token}
use Rattle.lra_syntax.specs.declared.tokens.Mark.TheVariants as mark
use Rattle.lra_resolution_spec.specs.{EntryPoint.EntryPoint, EntryPoint.at_main, Refuse.limit_fault, Refuse.NotParsed, Refuse.Refuse, Refuse.too_long, Refuse.bad_token, Refuse.bad_text, Refuse.not_parsed, Refuse.bad_tree, Refuse.bad_name, Resolve.resolve}
use Rattle.lra_program.specs.Sites.{events_of}
use Rattle.lra_syntax.proofs.LexedByTest.{space, sign, word_of, are_read_by}
use Rattle.lra_syntax.proofs.TreeSamples.{at, name_at, call_of, long_parameter, main_function, void_of, main_of, declared_as, literal_text as number_of}
use Rattle.lra_syntax.proofs.{FirstTokens.not_unclosed, Lexemes.ExternalDeclaration, Lexemes.faulty, LongestByTest.no_gap, LongestByTest.no_lexeme, LongestByTest.is_open, TokenExamples.too_large}

abbrev limits : FileTree → Option Refusal
limits t = limit_fault (labels_of t) 0 (events_of (resolve t))

-- limits -----------------------------------------------------------------------------------------------------------

-- so many variables, the last named last
abbrev variables : ℕ → List DeclaratorTree
variables zero = []
variables (suc n) = record { name = name_at (118 ∷ n ∷ []) 22; shape = scalar None } ∷ variables n

-- int main(void){ long v1,..,v33;} : all live at the `}`
abbrev with_variables : ℕ → FileTree
with_variables n = main_of (declaration (record { number_type = Long; first = record { name = name_at (codes "v") 22; shape = scalar None }; rest = variables n }) no_items) 145

too_many_variables : limits (with_variables 32) ≡ Some (record { cause = TooManyVariables; place = at 145 })
too_many_variables = refl

variables_enough : limits (with_variables 31) ≡ None
variables_enough = refl

-- int main(void){ long v1,..,vN; for(long i=0;;) ; }
abbrev with_for : ℕ → FileTree
with_for n = main_of (declaration (record { number_type = Long; first = record { name = name_at (codes "v") 22; shape = scalar None }; rest = variables n })
    (statement (for (at 146) (declared (declared_as (name_at (codes "i") 155) (Some (expression (number_of 0))))) None None (nothing (at 162))) no_items)) 164

-- i is the 33rd: the first point where it lives is that of the word `for`, which comes before its declarator's
too_many_in_for : limits (with_for 31) ≡ Some (record { cause = TooManyVariables; place = at 146 })
too_many_in_for = refl

enough_in_for : limits (with_for 30) ≡ None
enough_in_for = refl

-- void f(long d){;} int main(void){ long v1,..,vN; f(0); }
abbrev with_callee : ℕ → FileTree
with_callee n = record {
  parts = function (void_of (codes "f") 6 (long_parameter (name_at (codes "d") 13) ∷ []) (statement (nothing (at 16)) no_items) 17)
      ∷ function (main_function 23
      (declaration (record { number_type = Long; first = record { name = name_at (codes "v") 40; shape = scalar None }; rest = variables n })
      (statement (call (call_of (name_at (codes "f") 164) (number_of 0 ∷ []))) no_items)) 170)
      ∷ [];
  end = at 171;
}

-- d is the 33rd, at the callee's first point: main's variables count there
too_many_in_callee : limits (with_callee 31) ≡ Some (record { cause = TooManyVariables; place = at 16 })
too_many_in_callee = refl

enough_in_callee : limits (with_callee 30) ≡ None
enough_in_callee = refl

-- so many `;` from a column on
abbrev semicolons : ℕ → ℕ → ItemsTree
semicolons zero c = no_items
semicolons (suc n) c = statement (nothing (at c)) (semicolons n (suc c))

-- int main(void){;;..;} : the `}` is point 2,049
too_many_points : limits (main_of (semicolons 2048 16) 2064) ≡ Some (record { cause = TooManyPoints; place = at 2064 })
too_many_points = refl

points_enough : limits (main_of (semicolons 2047 16) 2063) ≡ None
points_enough = refl

-- function k calls function k - 1 at the column k
abbrev chain : ℕ → List ExternalTree
chain zero = function (void_of (97 ∷ 0 ∷ []) 6 [] no_items 14) ∷ []
chain (suc n) = function (void_of (97 ∷ suc n ∷ []) 6 [] (statement (call (call_of (name_at (97 ∷ n ∷ []) (suc n)) [])) no_items) 14) ∷ chain n

abbrev calling : ℕ → FileTree
calling n = record { parts = function (main_function 5 (statement (call (call_of (name_at (97 ∷ n ∷ []) 17) [])) no_items) 24) ∷ chain n; end = at 25 }

-- 32 calls on the longest path; with one function more the call of the last, in the last but one, is refused at its name
calls_enough : limits (calling 31) ≡ None
calls_enough = refl

one_call_too_many : limits (calling 32) ≡ Some (record { cause = TooManyPoints; place = at 1 })
one_call_too_many = refl

-- whole sources ----------------------------------------------------------------------------------------------------

no_bytes : Refuse at_main Spells [] NoMain (at 1)
unfolding greatest_length
no_bytes = bad_tree (record { kind = End; place = at 1 } ∷ []) (record { parts = []; end = at 1 }) NoMain (at 1) (omega arith) ([], refl, tt, refl)
    ((record { kind = End; place = at 1 }, 0) ∷ [], ([], _, refl, refl, refl), refl, (omega arith, tt)) (bad_name (record { cause = NoMain; place = at 1 }) [] refl)

-- spaces ------------------------------------------------------------------------------------------------------------

place_from_spaces : (n : ℕ) (l c : ℕ) → place_from (record { line = l; column = c }) (replicate n 32) ≡ record { line = l; column = c + n }
place_from_spaces zero l c = let e : c ≡ c + 0 = omega arith in ap (λ (k : ℕ). record { line = l; column = k }) e
place_from_spaces (suc n) l c =
    let e : c + 1 + n ≡ c + suc n = omega arith in
    place_from_spaces n l (c + 1) ∙ ap (λ (k : ℕ). record { line = l; column = k }) e

spaces_too_long : (n : ℕ) → greatest_length ≡ n → NotParsed Spells (replicate (n + 1) 32) TooLong (record { line = 1; column = 1 + n })
spaces_too_long n e =
    let f : place_after (take greatest_length (replicate (n + 1) 32)) ≡ record { line = 1; column = 1 + n } =
    ap (λ (k : ℕ). place_after (take k (replicate (n + 1) 32))) e ∙ ap place_after (take-replicate n (n + 1) 32 (omega arith)) ∙ place_from_spaces n 1 1 in
    subst (NotParsed Spells (replicate (n + 1) 32) TooLong) f (too_long (omega (arith, length-replicate {A = ℕ} (n + 1) 32, e)))

-- 65,537 spaces, wherever the runs begin: catches a limit of 65,535, and a place past the end
too_many_spaces : (entry : EntryPoint) → Refuse entry Spells (replicate (65536 + 1) 32) TooLong (at 65537)
unfolding greatest_length
too_many_spaces entry = not_parsed _ _ (spaces_too_long 65536 refl)

-- tokens ------------------------------------------------------------------------------------------------------------

abbrev token_at : Kind → ℕ → Token
token_at k c = record { kind = k; place = at c }

abbrev before_dollar : List ExternalDeclaration
before_dollar =
    sign mark.Int ∷ space ∷ word_of (codes "main") ∷ sign mark.OpenParen ∷ sign mark.Void ∷ sign mark.CloseParen ∷ sign mark.OpenBrace ∷ space ∷ []

dollar : NotParsed Spells (codes "int main(void){ $ }") BadByte (at 17)
unfolding greatest_length
dollar =
    bad_token BadByte (at 17) (omega arith)
    (faulty (codes "int main(void){ $ }") (codes "$ }") before_dollar BadByte refl (are_read_by (codes "$ }") before_dollar refl)
    (λ e. cc, no_gap (codes "int main(void){ ") (codes "$ }") refl, no_lexeme (codes "$ }") refl refl))

literal_refused : NotParsed Spells (codes "x=9223372036854775808;") BadLiteral (at 3)
unfolding greatest_length
literal_refused = bad_token BadLiteral (at 3) (omega arith) too_large

no_gap_here : NoGap [] (codes "/*")
no_gap_here bytes after e (blank c f b) =
    let g : codes "/*" ≡ c ∷ after = e ∙ ap (λ (z : List ℕ). z ++ after) f in
    let h : is_blank 47 ≡ true = subst (λ (k : ℕ). is_blank k ≡ true) (sym (ap (λ (z : List ℕ). get_or z 0 0) g)) b in
    cc
no_gap_here bytes after e (line_comment text f a l) =
    let g : codes "/*" ≡ 47 ∷ 47 ∷ text ++ after = e ∙ ap (λ (z : List ℕ). z ++ after) f in
    let h : 42 ≡ 47 = ap (λ (z : List ℕ). get_or z 1 0) g in
    omega (arith, h)
no_gap_here bytes after e (block_comment text f o) =
    let g : 2 ≡ length bytes + length after = ap (length {A = ℕ}) e ∙ length-append bytes after in
    let h : length bytes ≡ suc (suc (length (text ++ codes "*/"))) = ap (length {A = ℕ}) f in
    let k : length (text ++ codes "*/") ≡ length text + 2 = length-append text (codes "*/") in
    omega (arith, g, h, k)
no_gap_here bytes after e (skipped_line blanks text f b w t l i) =
    let h : 47 ≡ 35 = ap (λ (z : List ℕ). get_or z 0 0) (e ∙ ap (λ (z : List ℕ). z ++ after) f) in
    omega (arith, h)

unclosed_longest : (t after : List ℕ) → codes "/*" ≡ t ++ after → length t ≤ 2
unclosed_longest t after e =
    let g : 2 ≡ length t + length after = ap (length {A = ℕ}) e ∙ length-append t after in
    omega (arith, g)

unclosed_open : IsOpen []
unclosed_open = is_open [] refl

-- /* : catches a comment that need not be closed, and a fault at its end
unclosed_comment : NotParsed Spells (codes "/*") Syntax (at 1)
unfolding greatest_length
unclosed_comment = bad_text (token_at Unclosed 1 ∷ token_at End 3 ∷ []) Syntax (at 1) (omega arith) (
  token (codes "/*") (token_at Unclosed 1) ∷ [],
  refl,
  (
    record {
      no_gap = no_gap_here;
      longest = record { lexeme = unclosed ([], refl, unclosed_open); after = []; front = refl; longest = λ t after e l. unclosed_longest t after e };
      spells = comment ([], refl, unclosed_open);
      place = refl;
    },
    tt,
  ),
  refl,
)
    ([], token_at Unclosed 1, token_at End 3 ∷ [], refl, ((record { parts = []; end = at 1 }, [], (token_at End 1, 0) ∷ [], ([], _, refl, refl, refl), refl, tt), not_unclosed (at 1)), refl)
