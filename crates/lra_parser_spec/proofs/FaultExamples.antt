-- First faults of two sources, found by reading their tokens.
use Rattle.std.proofs.Common.{◌≡◌, ◌≢◌, ℕ, Bool, true, false, cond, [], ◌∷◌, ◌++◌, codes, Err, refl, inl, inr}
use Rattle.std.specs.List.{AllByRecursion}
use Rattle.lra_base.specs.{declared.number_types.NumberType.TheVariants.Int, declared.refusals.Cause.TheVariants.Syntax, declared.refusals.Place.Place}
use Rattle.lra_syntax.specs.declared.tokens.Kind.TheVariants.{Name, Number, Mark as MarkOf, Unclosed, End}
use Rattle.lra_syntax.specs.{Faults.IsTextFault, Grammar.Spells, declared.tokens.Kind.Kind, declared.tokens.Mark.Mark, declared.tokens.Token.Token}
use Rattle.lra_syntax.specs.declared.tokens.Mark.TheVariants as mark
use Rattle.lra_parser_spec.specs.{Expressions.unary_at, Expressions.tests, Files.EndsOnce, Files.file_at, Reading.Text, Reading.loop, Statements.levels}
use Rattle.lra_parser_spec.proofs.{Answered.text_fault, Exact.test}

abbrev pub in_line : ℕ → Place
in_line column = record { line = 1; column = column }

abbrev pub token_at : Kind → ℕ → Token
token_at k column = record { kind = k; place = in_line column }

abbrev pub mark_token : Mark → ℕ → Token
mark_token m column = token_at (MarkOf m) column

-- none of the tokens is the end
abbrev pub is_inner : Kind → Bool
is_inner End = false
is_inner k = true

inner : (k : Kind) → is_inner k ≡ true → k ≡ End → ⊥
inner End e f = cc
inner k e f = cc

abbrev pub all_inner : Text → Bool
all_inner [] = true
all_inner (t ∷ T) = cond (is_inner t.kind) (all_inner T) false

pub no_end : (T : Text) → all_inner T ≡ true → AllByRecursion (λ (t : Token). t.kind ≢ End) T
no_end [] e = tt
no_end (t ∷ T) e = elim (test (is_inner t.kind)) [
  | inl on ↦ let e' : all_inner T ≡ true = rw on at e in (inner t.kind on, no_end T e')
  | inr off ↦ let e' : false ≡ true = rw off at e in absurd cc
]

-- `int main(void){`
abbrev pub main_head : Text → Text
main_head T = mark_token mark.Int 1 ∷ token_at (Name (codes "main")) 5 ∷ mark_token mark.OpenParen 9 ∷ mark_token mark.Void 10 ∷ mark_token mark.CloseParen 14 ∷ mark_token mark.OpenBrace 15 ∷ T

-- `int main(void){ /*`: the comment isn't closed
abbrev unclosed_front : Text
unclosed_front = main_head (token_at Unclosed 17 ∷ [])

unclosed_ends : EndsOnce (unclosed_front ++ token_at End 19 ∷ [])
unclosed_ends = record { front = unclosed_front; last = token_at End 19; parts = refl; is_end = refl; no_other = no_end unclosed_front refl }

unclosed_stops : file_at 63 (unclosed_front ++ token_at End 19 ∷ []) ≡ Err (record { cause = Syntax; left = 2 })
unfolding loop unary_at tests levels
unclosed_stops = refl

pub unclosed_comment : IsTextFault Spells (unclosed_front ++ token_at End 19 ∷ []) Syntax (in_line 17)
unclosed_comment = text_fault (unclosed_front ++ token_at End 19 ∷ []) (record { cause = Syntax; left = 2 }) unclosed_ends unclosed_stops (token_at Unclosed 17) refl

-- `int main(void){ long x; x = (x<1)+1; }`: a condition in parentheses is no expression
abbrev compared_rest : Text
compared_rest = mark_token mark.OpenParen 29 ∷ token_at (Name (codes "x")) 30 ∷ mark_token mark.Less 31 ∷ token_at (Number Int 1) 32 ∷ mark_token mark.CloseParen 33 ∷ mark_token mark.Plus 34 ∷
    token_at (Number Int 1) 35 ∷ mark_token mark.Semicolon 36
    ∷ mark_token mark.CloseBrace 38 ∷ []

abbrev compared_front : Text
compared_front = main_head (mark_token mark.Long 17 ∷ token_at (Name (codes "x")) 22 ∷ mark_token mark.Semicolon 23 ∷ token_at (Name (codes "x")) 25 ∷ mark_token mark.Assign 27 ∷ compared_rest)

abbrev compared_tokens : Text
compared_tokens = compared_front ++ token_at End 39 ∷ []

compared_ends : EndsOnce compared_tokens
compared_ends = record { front = compared_front; last = token_at End 39; parts = refl; is_end = refl; no_other = no_end compared_front refl }

compared_stops : file_at 63 compared_tokens ≡ Err (record { cause = Syntax; left = 8 })
unfolding loop unary_at tests levels
compared_stops = refl

pub compared_expression : IsTextFault Spells compared_tokens Syntax (in_line 31)
compared_expression = text_fault compared_tokens (record { cause = Syntax; left = 8 }) compared_ends compared_stops (mark_token mark.Less 31) refl
