-- The readers of expressions are exact.
use Rattle.std.proofs.Common.{◌≡◌, ℕ, ◌+◌, zero, suc, ◌≤◌, ◌<◌, true, false, ◌⊎◌, [], ◌∷◌, ◌++◌, Option, Some, None, refl, sym, ap, subst, ◌∙◌, arith, inl, inr}
use Rattle.std.proofs.lemmas.List.{append-nil}
use Rattle.std.specs.Bool.{⊤}
use Rattle.lra_base.specs.{declared.refusals.Cause.TheVariants.TooDeep, declared.refusals.Place.Place}
use Rattle.lra_syntax.specs.Texts.{Piece, Pieces, Texts, ◌⋅◌, opens, mark as spells, name}
use Rattle.lra_syntax.specs.Trees.{UnaryTree, negated, positive, literal, variable, input, group, element, TermTree, unary, times, over, modulo, ExprTree, term, plus, minus}
use Rattle.lra_syntax.specs.{Grammar.in_brackets, Grammar.IsUnary, Grammar.IsTerm, Grammar.IsExpr, Views.further_factor, Views.further_term, declared.tokens.Mark.Mark, declared.tokens.Token.Token}
use Rattle.lra_syntax.specs.{declared.trees.FactorOperator.FactorOperator, declared.trees.Identifier.Identifier, declared.trees.SumOperator.SumOperator}
use Rattle.lra_syntax.specs.declared.tokens.Mark.TheVariants as mark
use Rattle.lra_syntax.specs.declared.trees.FactorOperator.TheVariants as factor
use Rattle.lra_syntax.specs.declared.trees.SumOperator.TheVariants as sum
use Rattle.lra_parser_spec.specs.Expressions.{factor_operators, factor_operator, sum_operators, sum_operator, factors, term_of, summands, expr_of, UnaryMark, at_minus, at_plus, at_group, at_input}
use Rattle.lra_parser_spec.specs.Expressions.{brackets_parser as reads_in_brackets, unary_marks, unary_mark, literal_tree, named_unary, read_named, read_input, atom, unary_form, unary_at, expr_at}
use Rattle.lra_parser_spec.specs.{Expressions.index_at, Reading.Parse, Reading.stop, Reading.next_literal, Reading.has, Tests.first, Tests.is_mark}
use Rattle.lra_parser_spec.proofs.Chain.{IsFollow, IsOperator, Step_to, Split, split_more, split_start, whole, steps_first, exact_rest, exact_chain}
use Rattle.lra_parser_spec.proofs.Forms.{rename, widen, entry, mapped, follows, noted, choose, branch, exact_done, exact_deep}
use Rattle.lra_parser_spec.proofs.Parts.{token, exact_behind, exact_ended, table_mark, by_table}
use Rattle.lra_parser_spec.proofs.Tokens.{IsInner, exact_expect, exact_name, LiteralText, exact_literal, exact_operator, some_place, some_name}
use Rattle.lra_parser_spec.proofs.{Exact.Exact, Exact.Any, Exact.Free, Exact.Both, Exact.first_or, Exact.then, Marks.is_mark_some, Turns.Steps}

-- operators --------------------------------------------------------------------------------------------------------

abbrev pub factor_mark : FactorOperator → Mark
factor_mark factor.Times = mark.Star
factor_mark factor.Over = mark.Slash
factor_mark factor.Modulo = mark.Percent

factor_self : (k : FactorOperator) (at : Place) → factor_operator (Some (token (factor_mark k) at)) ≡ Some k
factor_self factor.Times at = refl
factor_self factor.Over at = refl
factor_self factor.Modulo at = refl

abbrev pub sum_mark : SumOperator → Mark
sum_mark sum.Plus = mark.Plus
sum_mark sum.Minus = mark.Minus

sum_self : (k : SumOperator) (at : Place) → sum_operator (Some (token (sum_mark k) at)) ≡ Some k
sum_self sum.Plus at = refl
sum_self sum.Minus at = refl

factor_is : (n : ℕ) → IsOperator n factor_operator factor_mark
factor_is n = record { exact = exact_operator n factor_mark factor_operators (refl, (refl, (refl, tt))) factor_self refl factor.Times; at_end = refl; self = factor_self }

sum_is : (n : ℕ) → IsOperator n sum_operator sum_mark
sum_is n = record { exact = exact_operator n sum_mark sum_operators (refl, (refl, tt)) sum_self refl sum.Plus; at_end = refl; self = sum_self }

-- what may follow: no operator that goes on -------------------------------------------------------------------------

-- and after a name no bracket, which would make it an element
abbrev pub AfterUnary : UnaryTree → Option Token → Type 0
AfterUnary (negated u) o = AfterUnary u o
AfterUnary (positive u) o = AfterUnary u o
AfterUnary (literal t n) o = ⊤
AfterUnary (variable x) o = is_mark mark.OpenBracket o ≡ false
AfterUnary input o = ⊤
AfterUnary (group e) o = ⊤
AfterUnary (element x e) o = ⊤

-- after a term's last factor
abbrev pub AfterFactor : TermTree → Option Token → Type 0
AfterFactor (unary u) o = AfterUnary u o
AfterFactor (times t u) o = AfterUnary u o
AfterFactor (over t u) o = AfterUnary u o
AfterFactor (modulo t u) o = AfterUnary u o

abbrev pub AfterTerm : TermTree → Option Token → Type 0
AfterTerm t o = AfterFactor t o × (has (factor_operator o) ≡ false)

-- after an expression's last summand
abbrev pub AfterSummand : ExprTree → Option Token → Type 0
AfterSummand (term t) o = AfterTerm t o
AfterSummand (plus e t) o = AfterTerm t o
AfterSummand (minus e t) o = AfterTerm t o

abbrev pub AfterExpr : ExprTree → Option Token → Type 0
AfterExpr e o = AfterSummand e o × (has (sum_operator o) ≡ false)

-- if no bracket follows
pub after_unary : (u : UnaryTree) (o : Option Token) → is_mark mark.OpenBracket o ≡ false → AfterUnary u o
after_unary (negated u) o h = after_unary u o h
after_unary (positive u) o h = after_unary u o h
after_unary (literal t n) o h = tt
after_unary (variable x) o h = h
after_unary input o h = tt
after_unary (group e) o h = tt
after_unary (element x e) o h = tt

pub after_factor : (t : TermTree) (o : Option Token) → is_mark mark.OpenBracket o ≡ false → AfterFactor t o
after_factor (unary u) o h = after_unary u o h
after_factor (times t u) o h = after_unary u o h
after_factor (over t u) o h = after_unary u o h
after_factor (modulo t u) o h = after_unary u o h

after_summand : (e : ExprTree) (o : Option Token) → is_mark mark.OpenBracket o ≡ false → has (factor_operator o) ≡ false → AfterSummand e o
after_summand (term t) o h f = (after_factor t o h, f)
after_summand (plus e t) o h f = (after_factor t o h, f)
after_summand (minus e t) o h f = (after_factor t o h, f)

pub after_expr : (e : ExprTree) (o : Option Token) → is_mark mark.OpenBracket o ≡ false → has (factor_operator o) ≡ false → has (sum_operator o) ≡ false →
    AfterExpr e o
after_expr e o h f s = (after_summand e o h f, s)

factor_no_bracket : (k : FactorOperator) (at : Place) → is_mark mark.OpenBracket (Some (token (factor_mark k) at)) ≡ false
factor_no_bracket factor.Times at = refl
factor_no_bracket factor.Over at = refl
factor_no_bracket factor.Modulo at = refl

sum_no_bracket : (k : SumOperator) (at : Place) → is_mark mark.OpenBracket (Some (token (sum_mark k) at)) ≡ false
sum_no_bracket sum.Plus at = refl
sum_no_bracket sum.Minus at = refl

factor_behind : (t : TermTree) (o : Option Token) → has (factor_operator o) ≡ true → AfterFactor t o
factor_behind t o e = after_factor t o
    (by_table factor_mark factor_operators (refl, (refl, (refl, tt))) (λ k. is_mark mark.OpenBracket k ≡ false) factor_no_bracket o e)

sum_no_factor : (k : SumOperator) (at : Place) → has (factor_operator (Some (token (sum_mark k) at))) ≡ false
sum_no_factor sum.Plus at = refl
sum_no_factor sum.Minus at = refl

pub no_factor : (o : Option Token) → has (sum_operator o) ≡ true → has (factor_operator o) ≡ false
no_factor o e = by_table sum_mark sum_operators (refl, (refl, tt)) (λ k. has (factor_operator k) ≡ false) sum_no_factor o e

sum_behind : (e : ExprTree) (o : Option Token) → has (sum_operator o) ≡ true → AfterSummand e o
sum_behind e o h = after_summand e o (by_table sum_mark sum_operators (refl, (refl, tt)) (λ k. is_mark mark.OpenBracket k ≡ false) sum_no_bracket o h)
    (no_factor o h)

-- one unary, a variable
pub some_unary : (l : ℕ) → (a : UnaryTree) × (x : Pieces) × IsUnary l a x
some_unary l = (variable some_name, _, refl)

pub some_term : (l : ℕ) → (a : TermTree) × (x : Pieces) × IsTerm l a x
some_term l = (unary (variable some_name), _, refl)

pub some_expr : (l : ℕ) → (a : ExprTree) × (x : Pieces) × IsExpr l a x
some_expr l = (term (unary (variable some_name)), _, refl)

-- chains -----------------------------------------------------------------------------------------------------------

factor_out : (a : TermTree) (k : FactorOperator) (i : UnaryTree) (o : Option Token) → AfterFactor (further_factor a k i) o → AfterUnary i o
factor_out a factor.Times i o f = f
factor_out a factor.Over i o f = f
factor_out a factor.Modulo i o f = f

factor_in : (a : TermTree) (k : FactorOperator) (i : UnaryTree) (o : Option Token) → AfterUnary i o → AfterFactor (further_factor a k i) o
factor_in a factor.Times i o f = f
factor_in a factor.Over i o f = f
factor_in a factor.Modulo i o f = f

summand_out : (a : ExprTree) (k : SumOperator) (i : TermTree) (o : Option Token) → AfterSummand (further_term a k i) o → AfterTerm i o
summand_out a sum.Plus i o f = f
summand_out a sum.Minus i o f = f

summand_in : (a : ExprTree) (k : SumOperator) (i : TermTree) (o : Option Token) → AfterTerm i o → AfterSummand (further_term a k i) o
summand_in a sum.Plus i o f = f
summand_in a sum.Minus i o f = f

term_follow : IsFollow factor_operator unary further_factor AfterUnary AfterFactor
term_follow = record { start_out = λ i o f. f; start_in = λ i o f. f; grow_out = factor_out; grow_in = factor_in; allowed = factor_behind }

expr_follow : IsFollow sum_operator term further_term AfterTerm AfterSummand
expr_follow = record { start_out = λ i o f. f; start_in = λ i o f. f; grow_out = summand_out; grow_in = summand_in; allowed = sum_behind }

-- further factors, and further summands
abbrev pub TermSteps : ℕ → TermTree → TermTree → Pieces → Type 0
TermSteps l b a y = Steps (Step_to factor_mark unary further_factor (IsUnary l)) b a y

abbrev pub ExprSteps : ℕ → ExprTree → ExprTree → Pieces → Type 0
ExprSteps l b a y = Steps (Step_to sum_mark term further_term (IsTerm l)) b a y

pub term_follows : (n l : ℕ) (a b : TermTree) (y : Pieces) (o : Option Token) → TermSteps l b a y → (y ≡ [] → AfterTerm b o) → AfterFactor a (first_or y o)
term_follows n l = steps_first (factor_is n) term_follow (IsUnary l)

pub expr_follows : (n l : ℕ) (a b : ExprTree) (y : Pieces) (o : Option Token) → ExprSteps l b a y → (y ≡ [] → AfterExpr b o) → AfterSummand a (first_or y o)
expr_follows n l = steps_first (sum_is n) expr_follow (IsTerm l)

grows_term : (l : ℕ) (a : TermTree) (k : FactorOperator) (i : UnaryTree) (x y : Pieces) → IsTerm l a x → (spells (factor_mark k) ⋅ IsUnary l i) y → IsTerm l (further_factor a k i) (x ++ y)
grows_term l a factor.Times i x y h s = (x, y, refl, h, s)
grows_term l a factor.Over i x y h s = (x, y, refl, h, s)
grows_term l a factor.Modulo i x y h s = (x, y, refl, h, s)

pub whole_term : (l : ℕ) (b a : TermTree) (x y : Pieces) → IsTerm l a x → TermSteps l b a y → IsTerm l b (x ++ y)
whole_term l = whole factor_mark unary further_factor (IsUnary l) (IsTerm l) (grows_term l)

abbrev pub SplitTerm : ℕ → TermTree → Texts
SplitTerm l t = Split factor_mark unary further_factor (IsUnary l) t

pub split_term : (l : ℕ) (t : TermTree) (z : Pieces) → IsTerm l t z → SplitTerm l t z
split_term l (unary i) z h = split_start factor_mark unary further_factor (IsUnary l) i z h
split_term l (times t i) z (x, y, e, h, s) = split_more factor_mark unary further_factor (IsUnary l) t factor.Times i z x y (split_term l t x h) e s
split_term l (over t i) z (x, y, e, h, s) = split_more factor_mark unary further_factor (IsUnary l) t factor.Over i z x y (split_term l t x h) e s
split_term l (modulo t i) z (x, y, e, h, s) = split_more factor_mark unary further_factor (IsUnary l) t factor.Modulo i z x y (split_term l t x h) e s

grows_expr : (l : ℕ) (a : ExprTree) (k : SumOperator) (i : TermTree) (x y : Pieces) → IsExpr l a x → (spells (sum_mark k) ⋅ IsTerm l i) y → IsExpr l (further_term a k i) (x ++ y)
grows_expr l a sum.Plus i x y h s = (x, y, refl, h, s)
grows_expr l a sum.Minus i x y h s = (x, y, refl, h, s)

pub whole_expr : (l : ℕ) (b a : ExprTree) (x y : Pieces) → IsExpr l a x → ExprSteps l b a y → IsExpr l b (x ++ y)
whole_expr l = whole sum_mark term further_term (IsTerm l) (IsExpr l) (grows_expr l)

pub split_expr : (l : ℕ) (t : ExprTree) (z : Pieces) → IsExpr l t z → Split sum_mark term further_term (IsTerm l) t z
split_expr l (term i) z h = split_start sum_mark term further_term (IsTerm l) i z h
split_expr l (plus t i) z (x, y, e, h, s) = split_more sum_mark term further_term (IsTerm l) t sum.Plus i z x y (split_expr l t x h) e s
split_expr l (minus t i) z (x, y, e, h, s) = split_more sum_mark term further_term (IsTerm l) t sum.Minus i z x y (split_expr l t x h) e s

module _ (n l : ℕ) (u : Parse UnaryTree) (U : Exact n IsInner u Any (IsUnary l) (IsUnary l) AfterUnary) where
  pub exact_factors : (t : TermTree) → Exact n IsInner (factors u t) (AfterFactor t) (λ b x. TermSteps l b t x) (λ b x. TermSteps l b t x) AfterTerm
  exact_factors t = exact_rest (factor_is n) term_follow U (some_unary l) t

  pub exact_term : Exact n IsInner (term_of u) Any (IsTerm l) (IsTerm l) AfterTerm
  exact_term = exact_chain (factor_is n) term_follow U (some_unary l) (IsTerm l) (λ i z s. s) (grows_term l) (split_term l)

  pub exact_summands : (e : ExprTree) → Exact n IsInner (summands u e) (AfterSummand e) (λ b x. ExprSteps l b e x) (λ b x. ExprSteps l b e x) AfterExpr
  exact_summands e = exact_rest (sum_is n) expr_follow exact_term (some_term l) e

  pub exact_expr_of : Exact n IsInner (expr_of u) Any (IsExpr l) (IsExpr l) AfterExpr
  exact_expr_of = exact_chain (sum_is n) expr_follow exact_term (some_term l) (IsExpr l) (λ i z s. s) (grows_expr l) (split_expr l)

-- unaries ----------------------------------------------------------------------------------------------------------

abbrev pub mark_of_unary : UnaryMark → Mark
mark_of_unary at_minus = mark.Minus
mark_of_unary at_plus = mark.Plus
mark_of_unary at_group = mark.OpenParen
mark_of_unary at_input = mark.Input

-- a value made of another
abbrev pub Of : {A B : Type 0} → (A → B) → (A → Texts) → B → Texts
Of {A} f S b x = (a : A) × (f a ≡ b) × S a x

abbrev pub InputText : UnaryTree → Texts
InputText b = opens mark.Input 0 ⋅ (opens mark.OpenParen 0 ⋅ (λ z. (b ≡ input) × opens mark.CloseParen 0 z))

-- the brackets of an index, which open the next level
abbrev pub IndexText : ℕ → ExprTree → Texts
IndexText l e = in_brackets l (IsExpr (l + 1) e)

-- after a name
abbrev pub NamedUnary : ℕ → Identifier → UnaryTree → Texts
NamedUnary l x b z = Of (element x) (IndexText l) b z ⊎ ((b ≡ variable x) × (z ≡ []))

-- the forms, by what the next token is
abbrev pub UnaryAt : ℕ → Option UnaryMark → UnaryTree → Texts
UnaryAt l (Some at_minus) b = opens mark.Minus (l + 1) ⋅ Of negated (IsUnary (l + 1)) b
UnaryAt l (Some at_plus) b = opens mark.Plus (l + 1) ⋅ Of positive (IsUnary (l + 1)) b
UnaryAt l (Some at_group) b = Of group (λ e. opens mark.OpenParen (l + 1) ⋅ (IsExpr (l + 1) e ⋅ opens mark.CloseParen 0)) b
UnaryAt l (Some at_input) b = InputText b
UnaryAt l None b = λ z. Of literal_tree LiteralText b z ⊎ Both (λ x. name x 0) (NamedUnary l) b z

to_input : (l : ℕ) (b : UnaryTree) (z : Pieces) → InputText b z → IsUnary l b z
to_input l b z (x, y, e, s, (u, v, f, t, (g, h))) = subst (λ (c : UnaryTree). IsUnary l c z) (sym g) (x, y, e, s, (u, v, f, t, h))

pub named_out : (l : ℕ) (x : Identifier) (b : UnaryTree) (u v z : Pieces) → z ≡ u ++ v → name x 0 u → NamedUnary l x b v → IsUnary l b z
named_out l x b u v z e s (inl (i, f, t)) = subst (λ (c : UnaryTree). IsUnary l c z) f (u, v, e, s, t)
named_out l x b u v z e s (inr (f, t)) = subst (λ (c : UnaryTree). IsUnary l c z) (sym f) (e ∙ ap (λ (w : Pieces). u ++ w) t ∙ append-nil u ∙ s)

pub to_unary : (l : ℕ) (k : Option UnaryMark) (b : UnaryTree) (z : Pieces) → UnaryAt l k b z → IsUnary l b z
to_unary l (Some at_minus) b z (x, y, e, s, (a, f, t)) = subst (λ (c : UnaryTree). IsUnary l c z) f (x, y, e, s, t)
to_unary l (Some at_plus) b z (x, y, e, s, (a, f, t)) = subst (λ (c : UnaryTree). IsUnary l c z) f (x, y, e, s, t)
to_unary l (Some at_group) b z (a, f, t) = subst (λ (c : UnaryTree). IsUnary l c z) f t
to_unary l (Some at_input) b z s = to_input l b z s
to_unary l None b z (inl (a, f, t)) = subst (λ (c : UnaryTree). IsUnary l c z) f (a.place, t)
to_unary l None b z (inr (x, (u, v, e, s, t))) = named_out l x b u v z e s t

pub from_unary : (l : ℕ) (b : UnaryTree) (z : Pieces) → IsUnary l b z → (k : Option UnaryMark) × UnaryAt l k b z
from_unary l (negated u) z (x, y, e, s, t) = (Some at_minus, (x, y, e, s, (u, refl, t)))
from_unary l (positive u) z (x, y, e, s, t) = (Some at_plus, (x, y, e, s, (u, refl, t)))
from_unary l (literal t n) z (at, s) = (None, inl (record { number_type = t; value = n; place = at }, refl, s))
from_unary l (variable x) z s = (None, inr (x, (z, [], sym (append-nil z), s, inr (refl, refl))))
from_unary l input z (x, y, e, s, (u, v, f, t, h)) = (Some at_input, (x, y, e, s, (u, v, f, t, (refl, h))))
from_unary l (group e) z s = (Some at_group, (e, refl, s))
from_unary l (element x e) z (u, v, f, s, t) = (None, inr (x, (u, v, f, s, inl (e, refl, t))))

-- the first token of a text that a mark begins
pub first_opened : (P : Option Token → Type 0) (m : Mark) (o : ℕ) (x y z : Pieces) (k : Option Token) → z ≡ x ++ y → opens m o x → ((at : Place) → P (Some (token m at))) → P (first_or z k)
first_opened P m o x y z k e s f = subst (λ (w : Pieces). P (first_or w k)) (sym (e ∙ ap (λ (v : Pieces). v ++ y) s.1)) (f s.0)

pub unary_begins : (l : ℕ) (k : Option UnaryMark) (b : UnaryTree) (z : Pieces) (o : Option Token) → UnaryAt l k b z → unary_mark (first_or z o) ≡ k
unary_begins l (Some at_minus) b z o (x, y, e, s, t) = first_opened (λ i. unary_mark i ≡ Some at_minus) mark.Minus (l + 1) x y z o e s (λ at. refl)
unary_begins l (Some at_plus) b z o (x, y, e, s, t) = first_opened (λ i. unary_mark i ≡ Some at_plus) mark.Plus (l + 1) x y z o e s (λ at. refl)
unary_begins l (Some at_group) b z o (a, f, (x, y, e, s, t)) = first_opened (λ i. unary_mark i ≡ Some at_group) mark.OpenParen (l + 1) x y z o e s (λ at. refl)
unary_begins l (Some at_input) b z o (x, y, e, s, t) = first_opened (λ i. unary_mark i ≡ Some at_input) mark.Input 0 x y z o e s (λ at. refl)
unary_begins l None b z o (inl (a, f, e)) = subst (λ (w : Pieces). unary_mark (first_or w o) ≡ None) (sym e) refl
unary_begins l None b z o (inr (x, (u, v, e, s, t))) = rw (e, s) refl

exact_input : (n : ℕ) → Exact n IsInner read_input Any InputText InputText Free
exact_input n = exact_behind mark.Input 0 (omega arith) (exact_behind mark.OpenParen 0 (omega arith) (exact_expect n mark.CloseParen 0 (omega arith) input) (input, _, (refl, (some_place, refl))))
    (input, _, (_, _, refl, (some_place, refl), (refl, (some_place, refl))))

literal_begins : (b : UnaryTree) (z : Pieces) (o : Option Token) → Of literal_tree LiteralText b z → has (next_literal (first_or z o)) ≡ true
literal_begins b z o (a, f, e) = rw e refl

named_begins : (l : ℕ) (b : UnaryTree) (z : Pieces) (o : Option Token) → Both (λ x. name x 0) (NamedUnary l) b z → has (next_literal (first_or z o)) ≡ false
named_begins l b z o (x, (u, v, e, s, t)) = rw (e, s) refl

-- an input ends in no name
input_noted : (b : UnaryTree) (z : Pieces) (o : Option Token) → InputText b z → AfterUnary b o
input_noted b z o (x, y, e, s, (u, v, f, t, (g, h))) = subst (λ (c : UnaryTree). AfterUnary c o) (sym g) tt

no_index : (x : Identifier) (b : UnaryTree) (z : Pieces) (o : Option Token) → b ≡ variable x → z ≡ [] → (z ≡ [] → AfterUnary b o) →
    is_mark mark.OpenBracket (first_or z o) ≡ false
no_index x b z o e f h = rw f (let g : AfterUnary (variable x) o = subst (λ (c : UnaryTree). AfterUnary c o) e (h f) in g)

-- if a bracket is next
abbrev pub AtIndex : Option Token → Type 0
AtIndex o = ⊤ × (is_mark mark.OpenBracket o ≡ true)

module _ (n l : ℕ) (index : Parse ExprTree) (I : Exact n IsInner index AtIndex (IndexText l) (IndexText l) Free) where
  pub exact_named_unary : (x : Identifier) → Exact n IsInner (named_unary index x) Any (NamedUnary l x) (NamedUnary l x) AfterUnary
  exact_named_unary x =
      branch (is_mark mark.OpenBracket) (widen (mapped I (element x) AfterUnary (λ e o f. tt) (λ e o f. tt)) (NamedUnary l x) (λ b z s. inl s))
      (widen (exact_done n IsInner (variable x) (λ o. ⊤ × (is_mark mark.OpenBracket o ≡ false)) (λ b z. (b ≡ variable x) × (z ≡ [])) AfterUnary (λ o i. i.1))
      (NamedUnary l x) (λ b z s. inr s))
      (λ b z o s f. first_opened (λ i. is_mark mark.OpenBracket i ≡ true) mark.OpenBracket (l + 1) s.2.0 s.2.1 z o s.2.2 s.2.3 (λ at. refl))
      (λ b z o s f. no_index x b z o s.0 s.1 f)

  exact_read_named : Exact n IsInner (read_named index) Any (λ b z. Both (λ x. name x 0) (NamedUnary l) b z) (λ b z. Both (λ x. name x 0) (NamedUnary l) b z)
      AfterUnary
  exact_read_named = then (exact_name n 0 (omega arith)) exact_named_unary (λ b z. Both (λ x. name x 0) (NamedUnary l) b z)
      (λ x b y o s f. tt) (λ x z v. (variable x, [], (x, (z, [], refl, v, inr (refl, refl))))) (λ x b u v s r. (x, (u, v, refl, s, r)))

  exact_atom : Exact n IsInner (atom index) Any (UnaryAt l None) (UnaryAt l None) AfterUnary
  exact_atom =
      let p = mapped (exact_literal n) literal_tree AfterUnary (λ a o f. tt) (λ a o f. tt) in
      branch (λ o. has (next_literal o)) (entry (widen p (UnaryAt l None) (λ b z s. inl s)) (λ o. ⊤ × (has (next_literal o) ≡ true)) (λ o i. tt))
      (entry (widen exact_read_named (UnaryAt l None) (λ b z s. inr s)) (λ o. ⊤ × (has (next_literal o) ≡ false)) (λ o i. tt))
      (λ b z o s f. literal_begins b z o s) (λ b z o s f. named_begins l b z o s)

abbrev pub At : Option UnaryMark → Option Token → Type 0
At k o = (unary_mark o ≡ k) × Any o

module _ (n l : ℕ) (minus plus grouped : Parse UnaryTree) (index : Parse ExprTree)
    (M : Exact n IsInner minus (At (Some at_minus)) (UnaryAt l (Some at_minus)) (IsUnary l) AfterUnary)
    (P : Exact n IsInner plus (At (Some at_plus)) (UnaryAt l (Some at_plus)) (IsUnary l) AfterUnary)
    (G : Exact n IsInner grouped (At (Some at_group)) (UnaryAt l (Some at_group)) (IsUnary l) AfterUnary)
    (I : Exact n IsInner index AtIndex (IndexText l) (IndexText l) Free) where
  each : (k : Option UnaryMark) → Exact n IsInner (unary_form minus plus grouped index k) (At k) (UnaryAt l k) (IsUnary l) AfterUnary
  each (Some at_minus) = M
  each (Some at_plus) = P
  each (Some at_group) = G
  each (Some at_input) = follows (noted (widen (entry (exact_input n) (At (Some at_input)) (λ o i. tt)) (IsUnary l) (λ b z s. to_input l b z s)) AfterUnary
      (λ b z o s i. input_noted b z o s)) AfterUnary (λ b o f. f.1) (λ b o f. (tt, f))
  each None = widen (entry (exact_atom n l index I) (At None) (λ o i. tt)) (IsUnary l) (λ b z s. to_unary l None b z s)

  pub exact_unary_form : Exact n IsInner (λ T. unary_form minus plus grouped index (unary_mark (first T)) T) Any (IsUnary l) (IsUnary l) AfterUnary
  exact_unary_form = rename (choose unary_mark each (λ k b z o s f. unary_begins l k b z o s)) (IsUnary l) (λ b z s. to_unary l s.0 b z s.1) (λ b z s. from_unary l b z s)

-- a text whose first token opens a level too deep
pub opened_over : (n o : ℕ) (m : Mark) (x y z : Pieces) → n < o → z ≡ x ++ y → opens m o x → (t : Piece) × (w : Pieces) × (z ≡ t ∷ w) × (n < t.1)
opened_over n o m x y z h e s = ((token m s.0, o), y, e ∙ ap (λ (v : Pieces). v ++ y) s.1, h)

over_at : (n l : ℕ) (k : UnaryMark) → n < l + 1 → (k ≡ at_input → ⊥) → (b : UnaryTree) (z : Pieces) → UnaryAt l (Some k) b z → (t : Piece) × (w : Pieces) × (z ≡ t ∷ w) × (n < t.1)
over_at n l at_minus h f b z (x, y, e, s, t) = opened_over n (l + 1) mark.Minus x y z h e s
over_at n l at_plus h f b z (x, y, e, s, t) = opened_over n (l + 1) mark.Plus x y z h e s
over_at n l at_group h f b z (a, g, (x, y, e, s, t)) = opened_over n (l + 1) mark.OpenParen x y z h e s
over_at n l at_input h f b z s = absurd (f refl)

unary_at_mark : (k : UnaryMark) (t : Token) → unary_mark (Some t) ≡ Some k → (at : Place) × (t ≡ token (mark_of_unary k) at)
unary_at_mark k t e = let s = table_mark mark_of_unary unary_marks (refl, (refl, (refl, (refl, tt)))) (Some t) k e in (s.0, (let f = s.1 in cc))

some_over : (n l : ℕ) (k : UnaryMark) → n < l + 1 → (k ≡ at_input → ⊥) → (t : Token) → At (Some k) (Some t) → (a : UnaryTree) × (o : ℕ) × (w : Pieces) × IsUnary l a ((t, o) ∷ w) × (n < o)
some_over n l at_minus h f t i =
    let s = unary_at_mark at_minus t i.0 in
    subst (λ (u : Token). (a : UnaryTree) × (o : ℕ) × (w : Pieces) × IsUnary l a ((u, o) ∷ w) × (n < o)) (sym s.1) (negated (variable some_name), l + 1, _, (_, _, refl, (s.0, refl), refl), h)
some_over n l at_plus h f t i =
    let s = unary_at_mark at_plus t i.0 in
    subst (λ (u : Token). (a : UnaryTree) × (o : ℕ) × (w : Pieces) × IsUnary l a ((u, o) ∷ w) × (n < o)) (sym s.1) (positive (variable some_name), l + 1, _, (_, _, refl, (s.0, refl), refl), h)
some_over n l at_group h f t i =
    let s = unary_at_mark at_group t i.0 in
    subst (λ (u : Token). (a : UnaryTree) × (o : ℕ) × (w : Pieces) × IsUnary l a ((u, o) ∷ w) × (n < o)) (sym s.1)
    (group (term (unary (variable some_name))), l + 1, _, (_, _, refl, (s.0, refl), (_, _, refl, refl, (some_place, refl))), h)
some_over n l at_input h f t i = absurd (f refl)

none_over : (k : UnaryMark) → At (Some k) None → ⊥
none_over k i = let e = i.0 in cc

exact_over : (n l : ℕ) (k : UnaryMark) → n < l + 1 → (k ≡ at_input → ⊥) →
    Exact n IsInner (stop TooDeep) (At (Some k)) (UnaryAt l (Some k)) (IsUnary l) AfterUnary
exact_over n l k h f = exact_deep n IsInner (At (Some k)) (UnaryAt l (Some k)) (IsUnary l) AfterUnary (over_at n l k h f) (some_over n l k h f) (none_over k)

pub at_close : (e : ExprTree) (at : Place) → AfterExpr e (Some (token mark.CloseParen at))
at_close e at = after_expr e (Some (token mark.CloseParen at)) refl refl refl

at_bracket : (e : ExprTree) (at : Place) → AfterExpr e (Some (token mark.CloseBracket at))
at_bracket e at = after_expr e (Some (token mark.CloseBracket at)) refl refl refl

some_index : (l : ℕ) (at : Place) → IndexText l (some_expr (l + 1)).0
    ((token mark.OpenBracket at, l + 1) ∷ ((some_expr (l + 1)).1 ++ (token mark.CloseBracket some_place, 0) ∷ []))
some_index l at = (_, _, refl, (at, refl), (_, _, refl, (some_expr (l + 1)).2, (some_place, refl)))

index_over : (n l : ℕ) → n < l + 1 → (t : Token) → AtIndex (Some t) → (e : ExprTree) × (o : ℕ) × (w : Pieces) × IndexText l e ((t, o) ∷ w) × (n < o)
index_over n l h t i = subst (λ (u : Token). (e : ExprTree) × (o : ℕ) × (w : Pieces) × IndexText l e ((u, o) ∷ w) × (n < o))
    (sym (is_mark_some mark.OpenBracket t i.1))
    ((some_expr (l + 1)).0, l + 1, _, some_index l t.place, h)

-- no level is left
exact_deep_index : (n l : ℕ) → n < l + 1 → Exact n IsInner (stop TooDeep) AtIndex (IndexText l) (IndexText l) Free
exact_deep_index n l h = exact_deep n IsInner AtIndex (IndexText l) (IndexText l) Free (λ e z s. opened_over n (l + 1) mark.OpenBracket s.0 s.1 z h s.2 s.3)
    (index_over n l h)
    (λ i. let e = i.1 in cc)

exact_inner_index : (n l : ℕ) (u : Parse UnaryTree) → l + 1 ≤ n → Exact n IsInner u Any (IsUnary (l + 1)) (IsUnary (l + 1)) AfterUnary →
    Exact n IsInner (reads_in_brackets (expr_of u)) AtIndex (IndexText l) (IndexText l) Free
exact_inner_index n l u low U = entry (exact_behind mark.OpenBracket (l + 1) low (exact_ended mark.CloseBracket (exact_expr_of n (l + 1) u U) at_bracket)
    ((some_expr (l + 1)).0, _, (_, _, refl, (some_expr (l + 1)).2, (some_place, refl)))) AtIndex (λ o i. tt)

-- if d levels are left
pub exact_unary : (n d l : ℕ) → d + l ≡ n → Exact n IsInner (unary_at d) Any (IsUnary l) (IsUnary l) AfterUnary
unfolding unary_at
exact_unary n zero l h =
    let deep : n < l + 1 = omega arith in
    exact_unary_form n l (stop TooDeep) (stop TooDeep) (stop TooDeep) (stop TooDeep) (exact_over n l at_minus deep (λ e. cc))
    (exact_over n l at_plus deep (λ e. cc)) (exact_over n l at_group deep (λ e. cc))
    (exact_deep_index n l deep)
exact_unary n (suc d) l h =
    let U = exact_unary n d (l + 1) (omega arith) in
    let low : l + 1 ≤ n = omega arith in
    let G = exact_behind mark.OpenParen (l + 1) low (exact_ended mark.CloseParen (exact_expr_of n (l + 1) (unary_at d) U) at_close)
    ((some_expr (l + 1)).0, _, (_, _, refl, (some_expr (l + 1)).2, (some_place, refl))) in
    exact_unary_form n l _ _ _ _
    (entry (widen (exact_behind mark.Minus (l + 1) low (mapped U negated AfterUnary (λ a o f. f) (λ a o f. f))
    (negated (variable some_name), _, (variable some_name, refl, refl))) (IsUnary l)
    (λ b z s. to_unary l (Some at_minus) b z s)) (At (Some at_minus)) (λ o i. tt))
    (entry (widen (exact_behind mark.Plus (l + 1) low (mapped U positive AfterUnary (λ a o f. f) (λ a o f. f))
    (positive (variable some_name), _, (variable some_name, refl, refl))) (IsUnary l)
    (λ b z s. to_unary l (Some at_plus) b z s)) (At (Some at_plus)) (λ o i. tt))
    (entry (widen (mapped G group AfterUnary (λ a o f. tt) (λ a o f. tt)) (IsUnary l) (λ b z s. to_unary l (Some at_group) b z s)) (At (Some at_group))
    (λ o i. tt))
    (exact_inner_index n l (unary_at d) low U)

pub exact_index : (n d l : ℕ) → d + l ≡ n → Exact n IsInner (index_at d) AtIndex (IndexText l) (IndexText l) Free
exact_index n zero l h = exact_deep_index n l (omega arith)
exact_index n (suc d) l h = exact_inner_index n l (unary_at d) (omega arith) (exact_unary n d (l + 1) (omega arith))

pub exact_expr : (n d l : ℕ) → d + l ≡ n → Exact n IsInner (expr_at d) Any (IsExpr l) (IsExpr l) AfterExpr
exact_expr n d l h = exact_expr_of n l (unary_at d) (exact_unary n d l h)
