-- Readers with levels, one level unfolded.
use Rattle.std.proofs.Common.{◌≡◌, ℕ, zero, suc, ◌-◌, true, false, List, [], ◌∷◌, Option, Some, None, Ok, Err, refl, sym, ap, ◌∙◌, arith}
use Rattle.lra_base.specs.{declared.refusals.Cause.TheVariants.TooDeep, declared.refusals.Place.Place}
use Rattle.lra_syntax.specs.declared.tokens.Mark.TheVariants as mark
use Rattle.lra_syntax.specs.Trees.{UnaryTree, negated, positive, group, variable, element, ExprTree, NegationTree, opposite, opposite_again, value_of_unary, CondTree, result}
use Rattle.lra_syntax.specs.declared.tokens.Kind.TheVariants.{Name, Number, Mark as MarkOf, Reserved, Unclosed, End}
use Rattle.lra_syntax.specs.{declared.tokens.Kind.Kind, declared.tokens.Mark.Mark, declared.tokens.Token.Token, declared.trees.Identifier.Identifier}
use Rattle.lra_parser_spec.specs.Expressions.{after_mark, in_parens, unary_marks, unary_mark, unary_form, unary_at, expr_at, negated_at, positive_at, grouped_at, literal_tree, read_input, TestMark}
use Rattle.lra_parser_spec.specs.Expressions.{at_not, at_open, brackets_parser, named_unary, index_at, test_mark, test_form, compared, alone, from_unary, negation_form, tests, test_at, negation_at}
use Rattle.lra_parser_spec.specs.Expressions.{cond_at, opposed_at, closed_at, after_group, negation_of}
use Rattle.lra_parser_spec.specs.Reading.{Text, Read, Parse, stop, ◌>>=◌, seq, map_read, tail, expect, take_by, taken, next_name, next_literal, literal_of, identifier_of, one_of, ParsesAsErr}
use Rattle.lra_parser_spec.specs.Statements.{call_rest, rvalue_from, rvalue_rest}
use Rattle.lra_parser_spec.specs.{Tests.first, Tests.is_mark, Tests.is_kind, declared.reading.Literal.Literal, declared.reading.Stopped.Stopped}
use Rattle.lra_parser_spec.specs.declared.reading.Stopped.TheVariants as stopped
use Rattle.lra_parser_spec.proofs.Exact.{ok_is}
use Rattle.lra_parse_expressions.proofs.Turning.{expect_value, on_side, off_side, err_same, seq_exit, seq_handed, map_exit}

pub unary_is : (d : ℕ) (T : Text) → unary_at d T ≡ unary_form (negated_at d) (positive_at d) (grouped_at d) (index_at d) (unary_mark (first T)) T
unfolding unary_at
unary_is zero T = refl
unary_is (suc d) T = refl

pub negated_zero : (d : ℕ) (T : Text) → d ≡ 0 → negated_at d T ≡ stop TooDeep T
negated_zero d T h = rw h refl

pub negated_some : (d : ℕ) (T : Text) → (d ≡ 0 → ⊥) → negated_at d T ≡ after_mark mark.Minus (map_read negated (unary_at (d - 1))) T
negated_some zero T h = absurd (h refl)
negated_some (suc d) T h = let e : d ≡ suc d - 1 = omega arith in ap (λ (k : ℕ). after_mark mark.Minus (map_read negated (unary_at k)) T) e

pub positive_zero : (d : ℕ) (T : Text) → d ≡ 0 → positive_at d T ≡ stop TooDeep T
positive_zero d T h = rw h refl

pub positive_some : (d : ℕ) (T : Text) → (d ≡ 0 → ⊥) → positive_at d T ≡ after_mark mark.Plus (map_read positive (unary_at (d - 1))) T
positive_some zero T h = absurd (h refl)
positive_some (suc d) T h = let e : d ≡ suc d - 1 = omega arith in ap (λ (k : ℕ). after_mark mark.Plus (map_read positive (unary_at k)) T) e

pub grouped_zero : (d : ℕ) (T : Text) → d ≡ 0 → grouped_at d T ≡ stop TooDeep T
grouped_zero d T h = rw h refl

pub grouped_some : (d : ℕ) (T : Text) → (d ≡ 0 → ⊥) → grouped_at d T ≡ map_read group (in_parens (expr_at (d - 1))) T
grouped_some zero T h = absurd (h refl)
grouped_some (suc d) T h = let e : d ≡ suc d - 1 = omega arith in ap (λ (k : ℕ). map_read group (in_parens (expr_at k)) T) e

-- the forms of a unary: what is handed on, and the exit by `?`
pub minus_is : (d : ℕ) (T : Text) → true ≡ is_mark mark.Minus (first T) → unary_at d T ≡ negated_at d T
minus_is d T m = unary_is d T ∙ rw (sym m) refl

pub plus_is : (d : ℕ) (T : Text) → false ≡ is_mark mark.Minus (first T) → true ≡ is_mark mark.Plus (first T) → unary_at d T ≡ positive_at d T
plus_is d T m p = unary_is d T ∙ rw (sym m, sym p) refl

pub open_is : (d : ℕ) (T : Text) → false ≡ is_mark mark.Minus (first T) → false ≡ is_mark mark.Plus (first T) → true ≡ is_mark mark.OpenParen (first T) → unary_at d T ≡ grouped_at d T
open_is d T m p o = unary_is d T ∙ rw (sym m, sym p, sym o) refl

pub input_is : (d : ℕ) (T : Text) → false ≡ is_mark mark.Minus (first T) → false ≡ is_mark mark.Plus (first T) → false ≡ is_mark mark.OpenParen (first T) → true ≡ is_mark mark.Input (first T)
    → unary_at d T ≡ read_input T
input_is d T m p o i = unary_is d T ∙ rw (sym m, sym p, sym o, sym i) (rw (sym i) refl)

pub name_exit : (d : ℕ) (T : Text) (s : Stopped) → false ≡ is_mark mark.Minus (first T) → false ≡ is_mark mark.Plus (first T) → false ≡ is_mark mark.OpenParen (first T)
    → false ≡ is_mark mark.Input (first T) → next_literal (first T) ≡ None → ParsesAsErr s (take_by next_name T) → ParsesAsErr s (unary_at d T)
name_exit d T stopped.Memory m p o i n g = tt
name_exit d T (stopped.Fault f) m p o i n g = unary_is d T ∙ rw (sym m, sym p, sym o, sym i) (rw n (rw g refl))

-- the next token is a literal, or a name ------------------------------------------------------------------------------

literal_mark : (k : Kind) (at : Place) (l : Literal) (m : Mark) → literal_of k at ≡ Some l → is_kind m k ≡ false
literal_mark (Name w) at l m e = absurd cc
literal_mark (Number t n) at l m e = refl
literal_mark (MarkOf k) at l m e = absurd cc
literal_mark Reserved at l m e = absurd cc
literal_mark Unclosed at l m e = absurd cc
literal_mark End at l m e = absurd cc

name_mark : (k : Kind) (at : Place) (x : Identifier) (m : Mark) → identifier_of k at ≡ Some x → is_kind m k ≡ false
name_mark (Name w) at x m e = refl
name_mark (Number t n) at x m e = absurd cc
name_mark (MarkOf k) at x m e = absurd cc
name_mark Reserved at x m e = absurd cc
name_mark Unclosed at x m e = absurd cc
name_mark End at x m e = absurd cc

name_literal : (k : Kind) (at : Place) (x : Identifier) → identifier_of k at ≡ Some x → literal_of k at ≡ None
name_literal (Name w) at x e = refl
name_literal (Number t n) at x e = absurd cc
name_literal (MarkOf k) at x e = absurd cc
name_literal Reserved at x e = absurd cc
name_literal Unclosed at x e = absurd cc
name_literal End at x e = absurd cc

-- no mark of a table is a token that is no mark
pub no_table : {A : Type 0} (ks : List (Mark × A)) (o : Option Token) → ((m : Mark) → is_mark m o ≡ false) → one_of ks o ≡ None
no_table [] o h = refl
no_table (k ∷ ks) o h = rw (h k.0) (no_table ks o h)

pub literal_gives : (d : ℕ) (T : Text) (l : Literal) → next_literal (first T) ≡ Some l → unary_at d T ≡ Ok (literal_tree l, tail T)
literal_gives d [] l e = absurd cc
literal_gives d (t ∷ T) l e =
    let none : unary_mark (Some t) ≡ None = no_table unary_marks (Some t) (λ m. literal_mark t.kind t.place l m e) in
    rw (unary_is d (t ∷ T), none, e) refl

taken_name : (o : Option Identifier) (T R : Text) (x : Identifier) → taken o T ≡ Ok (x, R) → (o ≡ Some x)
taken_name None T R x e = absurd cc
taken_name (Some y) T R x e = let f : (y, tail T) ≡ (x, R) = ok_is (y, tail T) (x, R) e in ap (λ (r : Identifier × Text). Some r.0) f

pub named_gives : (d : ℕ) (T R : Text) (x : Identifier) → take_by next_name T ≡ Ok (x, R) → unary_at d T ≡ named_unary (index_at d) x R
named_gives d [] R x e = absurd cc
named_gives d (t ∷ T) R x e =
    let name : identifier_of t.kind t.place ≡ Some x = taken_name (identifier_of t.kind t.place) (t ∷ T) R x e in
    let none : unary_mark (Some t) ≡ None = no_table unary_marks (Some t) (λ m. name_mark t.kind t.place x m name) in
    let other : literal_of t.kind t.place ≡ None = name_literal t.kind t.place x name in
    rw (unary_is d (t ∷ T), none, other) (rw e refl)

-- after a name that is read
pub element_is : (d : ℕ) (x : Identifier) (T : Text) → true ≡ is_mark mark.OpenBracket (first T)
    → named_unary (index_at d) x T ≡ map_read (element x) (index_at d) T
element_is d x T on = on_side (is_mark mark.OpenBracket (first T)) _ _ on

pub element_gives : (d : ℕ) (x : Identifier) (T R : Text) (i : ExprTree) → true ≡ is_mark mark.OpenBracket (first T)
    → index_at d T ≡ Ok (i, R) → named_unary (index_at d) x T ≡ Ok (element x i, R)
element_gives d x T R i on e = element_is d x T on ∙ rw e refl

pub element_exit : (d : ℕ) (x : Identifier) (T : Text) (s : Stopped) → true ≡ is_mark mark.OpenBracket (first T)
    → ParsesAsErr s (index_at d T) → ParsesAsErr s (named_unary (index_at d) x T)
element_exit d x T s on g = err_same s _ _ (element_is d x T on) (map_exit (element x) (index_at d) T s g)

pub variable_gives : (d : ℕ) (x : Identifier) (T : Text) → false ≡ is_mark mark.OpenBracket (first T)
    → named_unary (index_at d) x T ≡ Ok (variable x, T)
variable_gives d x T off = off_side (is_mark mark.OpenBracket (first T)) _ _ off

pub index_zero : (d : ℕ) (T : Text) → d ≡ 0 → index_at d T ≡ stop TooDeep T
index_zero d T h = rw h refl

pub index_some : (d : ℕ) (T : Text) → (d ≡ 0 → ⊥) → index_at d T ≡ brackets_parser (expr_at (d - 1)) T
index_some zero T h = absurd (h refl)
index_some (suc d) T h = let e : d ≡ suc d - 1 = omega arith in ap (λ (k : ℕ). brackets_parser (expr_at k) T) e

pub grouped_gives : (d : ℕ) (T U R R' : Text) (e : ExprTree) → (d ≡ 0 → ⊥) → expect mark.OpenParen (tt {0}) T ≡ Ok (tt {0}, U) → expr_at (d - 1) U ≡ Ok (e, R) →
    expect mark.CloseParen (tt {0}) R ≡ Ok (tt {0}, R') → grouped_at d T ≡ Ok (group e, R')
grouped_gives d T U R R' e h o i c = rw (grouped_some d T h, o, i, expect_value mark.CloseParen (tt {0}) e R R' c) refl

-- conditions -------------------------------------------------------------------------------------------------------

bind_again : {A B C : Type 0} (r : Read A) (f : A × Text → Read B) (g : B × Text → Read C) → (r >>= (λ x. f x >>= g)) ≡ ((r >>= f) >>= g)
bind_again (Ok x) f g = refl
bind_again (Err e) f g = refl

test_zero : (T : Text) (k : Option TestMark) → test_form (unary_at zero) (stop TooDeep) (stop TooDeep) k T ≡
    test_form (unary_at zero) (map_read opposite (opposed_at zero)) (seq (closed_at zero) (after_group (unary_at zero))) k T
test_zero T (Some at_not) = refl
test_zero T (Some at_open) = refl
test_zero T None = refl

test_some : (d : ℕ) (T : Text) (k : Option TestMark) → test_form (unary_at (suc d)) (after_mark mark.Not (map_read opposite (negation_at d)))
    (seq (in_parens (cond_at d)) (after_group (unary_at (suc d)))) k T
    ≡ test_form (unary_at (suc d)) (map_read opposite (opposed_at (suc d))) (seq (closed_at (suc d)) (after_group (unary_at (suc d)))) k T
test_some d T (Some at_not) = bind_again (expect mark.Not (tt {0}) T) (λ r. negation_at d r.1) (λ r. Ok (opposite r.0, r.1))
test_some d T (Some at_open) = refl
test_some d T None = refl

negation_zero : (T : Text) (k : Option TestMark) → negation_form (unary_at zero) (stop TooDeep) (stop TooDeep) k T ≡
    negation_form (unary_at zero) (map_read opposite_again (opposed_at zero)) (map_read negation_of (closed_at zero)) k T
negation_zero T (Some at_not) = refl
negation_zero T (Some at_open) = refl
negation_zero T None = refl

negation_some : (d : ℕ) (T : Text) (k : Option TestMark) → negation_form (unary_at (suc d)) (after_mark mark.Not (map_read opposite_again (negation_at d)))
    (map_read negation_of (in_parens (cond_at d))) k T
    ≡ negation_form (unary_at (suc d)) (map_read opposite_again (opposed_at (suc d))) (map_read negation_of (closed_at (suc d))) k T
negation_some d T (Some at_not) = bind_again (expect mark.Not (tt {0}) T) (λ r. negation_at d r.1) (λ r. Ok (opposite_again r.0, r.1))
negation_some d T (Some at_open) = refl
negation_some d T None = refl

pub test_is : (d : ℕ) (T : Text) → test_at d T ≡ test_form (unary_at d) (map_read opposite (opposed_at d)) (seq (closed_at d) (after_group (unary_at d))) (test_mark (first T)) T
unfolding tests
test_is zero T = test_zero T (test_mark (first T))
test_is (suc d) T = test_some d T (test_mark (first T))

pub negation_is : (d : ℕ) (T : Text) → negation_at d T ≡ negation_form (unary_at d) (map_read opposite_again (opposed_at d)) (map_read negation_of (closed_at d)) (test_mark (first T)) T
unfolding tests
negation_is zero T = negation_zero T (test_mark (first T))
negation_is (suc d) T = negation_some d T (test_mark (first T))

pub opposed_zero : (d : ℕ) (T : Text) → d ≡ 0 → opposed_at d T ≡ stop TooDeep T
opposed_zero d T h = rw h refl

pub opposed_some : (d : ℕ) (T : Text) → (d ≡ 0 → ⊥) → opposed_at d T ≡ after_mark mark.Not (negation_at (d - 1)) T
opposed_some zero T h = absurd (h refl)
opposed_some (suc d) T h = let e : d ≡ suc d - 1 = omega arith in ap (λ (k : ℕ). after_mark mark.Not (negation_at k) T) e

pub closed_zero : (d : ℕ) (T : Text) → d ≡ 0 → closed_at d T ≡ stop TooDeep T
closed_zero d T h = rw h refl

pub closed_some : (d : ℕ) (T : Text) → (d ≡ 0 → ⊥) → closed_at d T ≡ in_parens (cond_at (d - 1)) T
closed_some zero T h = absurd (h refl)
closed_some (suc d) T h = let e : d ≡ suc d - 1 = omega arith in ap (λ (k : ℕ). in_parens (cond_at k) T) e

pub opposed_handed : (d : ℕ) (T U : Text) → (d ≡ 0 → ⊥) → expect mark.Not (tt {0}) T ≡ Ok (tt {0}, U) → opposed_at d T ≡ negation_at (d - 1) U
opposed_handed d T U h e = opposed_some d T h ∙ rw e refl

-- a table of one mark
pub one_on : (m : Mark) (o : Option Token) → true ≡ is_mark m o → one_of ((m, tt {0}) ∷ []) o ≡ Some (tt {0})
one_on m o e = rw (sym e) refl

pub one_off : (m : Mark) (o : Option Token) → false ≡ is_mark m o → one_of ((m, tt {0}) ∷ []) o ≡ None
one_off m o e = rw (sym e) refl

pub opposite_gives : (d : ℕ) (T R : Text) (n : NegationTree) → true ≡ is_mark mark.Not (first T) → opposed_at d T ≡ Ok (n, R) → test_at d T ≡ Ok (opposite n, R)
opposite_gives d T R n e f = test_is d T ∙ rw (sym e) (rw f refl)

pub again_gives : (d : ℕ) (T R : Text) (n : NegationTree) → true ≡ is_mark mark.Not (first T) → opposed_at d T ≡ Ok (n, R) → negation_at d T ≡ Ok (opposite_again n, R)
again_gives d T R n e f = negation_is d T ∙ rw (sym e) (rw f refl)

pub strict_gives : (d : ℕ) (T R : Text) (c : CondTree) → false ≡ is_mark mark.Not (first T) → true ≡ is_mark mark.OpenParen (first T) → closed_at d T ≡ Ok (c, R) →
    negation_at d T ≡ Ok (negation_of c, R)
strict_gives d T R c e o f = negation_is d T ∙ rw (sym e, sym o) (rw f refl)

pub operand_gives : (d : ℕ) (T R : Text) (u : UnaryTree) → false ≡ is_mark mark.Not (first T) → false ≡ is_mark mark.OpenParen (first T) → unary_at d T ≡ Ok (u, R) →
    negation_at d T ≡ Ok (value_of_unary u, R)
operand_gives d T R u e o f = negation_is d T ∙ rw (sym e, sym o) (rw f refl)

-- after a condition in parentheses that is an expression alone
pub group_from : (u : Parse UnaryTree) (c : CondTree) (x : ExprTree) (g : UnaryTree) (T : Text) → alone c ≡ Some x → g ≡ group x → after_group u c T ≡ from_unary u g T
group_from u c x g T a e = rw a (ap (λ (k : UnaryTree). from_unary u k T) (sym e))

-- the forms of a test and of a negation: what is handed on, and exits by `?`
pub group_gives : (d : ℕ) (T R : Text) (c : CondTree) → false ≡ is_mark mark.Not (first T) → true ≡ is_mark mark.OpenParen (first T) → closed_at d T ≡ Ok (c, R) →
    test_at d T ≡ after_group (unary_at d) c R
group_gives d T R c e o f = test_is d T ∙ rw (sym e, sym o) (rw f refl)

pub value_gives : (d : ℕ) (T : Text) → false ≡ is_mark mark.Not (first T) → false ≡ is_mark mark.OpenParen (first T) → test_at d T ≡ seq (expr_at d) (compared (unary_at d)) T
value_gives d T e o = test_is d T ∙ rw (sym e, sym o) refl

pub opposed_exit : (d : ℕ) (T : Text) (s : Stopped) → true ≡ is_mark mark.Not (first T) → ParsesAsErr s (opposed_at d T) → ParsesAsErr s (test_at d T)
opposed_exit d T stopped.Memory e g = tt
opposed_exit d T (stopped.Fault f) e g = test_is d T ∙ rw (sym e) (rw g refl)

pub closed_exit : (d : ℕ) (T : Text) (s : Stopped) → false ≡ is_mark mark.Not (first T) → true ≡ is_mark mark.OpenParen (first T) → ParsesAsErr s (closed_at d T) → ParsesAsErr s (test_at d T)
closed_exit d T stopped.Memory e o g = tt
closed_exit d T (stopped.Fault f) e o g = test_is d T ∙ rw (sym e, sym o) (rw g refl)

pub again_exit : (d : ℕ) (T : Text) (s : Stopped) → true ≡ is_mark mark.Not (first T) → ParsesAsErr s (opposed_at d T) → ParsesAsErr s (negation_at d T)
again_exit d T stopped.Memory e g = tt
again_exit d T (stopped.Fault f) e g = negation_is d T ∙ rw (sym e) (rw g refl)

pub strict_exit : (d : ℕ) (T : Text) (s : Stopped) → false ≡ is_mark mark.Not (first T) → true ≡ is_mark mark.OpenParen (first T) → ParsesAsErr s (closed_at d T) → ParsesAsErr s (negation_at d T)
strict_exit d T stopped.Memory e o g = tt
strict_exit d T (stopped.Fault f) e o g = negation_is d T ∙ rw (sym e, sym o) (rw g refl)

pub operand_exit : (d : ℕ) (T : Text) (s : Stopped) → false ≡ is_mark mark.Not (first T) → false ≡ is_mark mark.OpenParen (first T) → ParsesAsErr s (unary_at d T) → ParsesAsErr s (negation_at d T)
operand_exit d T stopped.Memory e o g = tt
operand_exit d T (stopped.Fault f) e o g = negation_is d T ∙ rw (sym e, sym o) (rw g refl)

-- after a name -------------------------------------------------------------------------------------------------------

pub call_is : (d : ℕ) (x : Identifier) (T : Text) → true ≡ is_mark mark.OpenParen (first T) → rvalue_rest d x T ≡ map_read result (call_rest d x) T
call_is d x T e = on_side (is_mark mark.OpenParen (first T)) _ _ e

module _ (d : ℕ) (x : Identifier) (T : Text) (off : false ≡ is_mark mark.OpenParen (first T)) where
  no_call : rvalue_rest d x T ≡ seq (named_unary (index_at d) x) (rvalue_from d) T
  no_call = off_side (is_mark mark.OpenParen (first T)) _ _ off

  pub no_call_is : (U : Text) (a : UnaryTree) → named_unary (index_at d) x T ≡ Ok (a, U) → rvalue_rest d x T ≡ rvalue_from d a U
  no_call_is U a e = no_call ∙ seq_handed (named_unary (index_at d) x) (rvalue_from d) T U a e

  pub no_call_exit : (s : Stopped) → ParsesAsErr s (named_unary (index_at d) x T) → ParsesAsErr s (rvalue_rest d x T)
  no_call_exit s g = err_same s _ _ no_call (seq_exit (named_unary (index_at d) x) (rvalue_from d) T s g)
