-- The readers of calls, and of what a variable gets or a `return` gives, are exact.
use Rattle.std.proofs.Common.{◌≡◌, ℕ, ◌+◌, true, false, ◌⊎◌, List, [], ◌∷◌, ◌++◌, Option, Some, None, refl, sym, ap, subst, ◌∙◌, append_assoc, arith, inl, inr}
use Rattle.std.proofs.lemmas.List.{append-nil}
use Rattle.std.specs.Bool.{⊤}
use Rattle.lra_base.specs.declared.refusals.Place.{Place}
use Rattle.lra_syntax.specs.declared.tokens.Mark.TheVariants as mark
use Rattle.lra_syntax.specs.Texts.{Pieces, Texts, ◌⋅◌, opens, mark as spells, name, separated}
use Rattle.lra_syntax.specs.Trees.{UnaryTree, negated, positive, literal, variable, input, group, element, TermTree, unary, times, over, modulo, ExprTree, term, plus, minus, CallTree, RvalueTree}
use Rattle.lra_syntax.specs.{Grammar.IsUnary, Grammar.IsTerm, Grammar.IsExpr, Grammar.IsCall, Grammar.IsRvalue, Trees.expression, Trees.result, Views.further_factor, Views.further_term}
use Rattle.lra_syntax.specs.{declared.tokens.Token.Token, declared.trees.FactorOperator.FactorOperator, declared.trees.Identifier.Identifier, declared.trees.SumOperator.SumOperator}
use Rattle.lra_syntax.specs.declared.trees.FactorOperator.TheVariants as factor
use Rattle.lra_syntax.specs.declared.trees.SumOperator.TheVariants as sum
use Rattle.lra_parser_spec.specs.Statements.{listed, arguments_at, call_of, call_rest, rvalue_from, rvalue_rest, rvalue_at}
use Rattle.lra_parser_spec.specs.{Expressions.named_unary, Expressions.unary_at, Expressions.index_at, Reading.seq, Reading.next_name, Reading.has, Tests.is_mark}
use Rattle.lra_parser_spec.proofs.ExactExpressions.{factor_mark, sum_mark, AfterTerm, AfterExpr, some_expr, TermSteps, ExprSteps, expr_follows, whole_term, whole_expr, split_term, split_expr}
use Rattle.lra_parser_spec.proofs.ExactExpressions.{AfterUnary, after_expr, term_follows, NamedUnary, named_out as unary_out, exact_factors, exact_named_unary, exact_index, exact_summands, Of}
use Rattle.lra_parser_spec.proofs.ExactExpressions.{first_opened, exact_unary, exact_expr}
use Rattle.lra_parser_spec.proofs.Forms.{rename, widen, entry, follows, noted, mapped, branch, where_told}
use Rattle.lra_parser_spec.proofs.{Chain.regroup, Chain.AfterLast, Chain.no_steps, Chain.first_of_steps, Exact.Exact, Exact.Any, Exact.Free, Exact.Both, Exact.first_or, Exact.first_or-both}
use Rattle.lra_parser_spec.proofs.{Exact.then, ExactConditions.expr_begun, ExactConditions.begun_long, ExactConditions.begun_first, ExactLists.AfterCommas, ExactLists.exact_commas, Parts.token}
use Rattle.lra_parser_spec.proofs.{Parts.exact_behind, Parts.exact_ended, Tokens.IsInner, Tokens.exact_expect, Tokens.exact_name, Tokens.some_place, Turns.none}

-- first tokens: no expression begins with `;` or `)` -------------------------------------------------------------------

abbrev pub Inside : Option Token → Type 0
Inside o = (is_mark mark.Semicolon o ≡ false) × (is_mark mark.CloseParen o ≡ false)

pub front : (x y z : Pieces) (k : Option Token) → z ≡ x ++ y → Inside (first_or x (first_or y k)) → Inside (first_or z k)
front x y z k e f = subst (λ (w : Pieces). Inside (first_or w k)) (sym e) (subst Inside (sym (first_or-both x y k)) f)

unary_inside : (l : ℕ) (a : UnaryTree) (z : Pieces) (k : Option Token) → IsUnary l a z → Inside (first_or z k)
unary_inside l (negated u) z k (x, y, e, s, t) = first_opened Inside mark.Minus (l + 1) x y z k e s (λ at. (refl, refl))
unary_inside l (positive u) z k (x, y, e, s, t) = first_opened Inside mark.Plus (l + 1) x y z k e s (λ at. (refl, refl))
unary_inside l (literal t i) z k s = rw (s.1) (refl, refl)
unary_inside l (variable x) z k s = rw s (refl, refl)
unary_inside l input z k (x, y, e, s, t) = first_opened Inside mark.Input 0 x y z k e s (λ at. (refl, refl))
unary_inside l (group a) z k (x, y, e, s, t) = first_opened Inside mark.OpenParen (l + 1) x y z k e s (λ at. (refl, refl))
unary_inside l (element i a) z k (x, y, e, s, t) = rw (e, s) (refl, refl)

term_inside : (l : ℕ) (a : TermTree) (z : Pieces) (k : Option Token) → IsTerm l a z → Inside (first_or z k)
term_inside l (unary u) z k h = unary_inside l u z k h
term_inside l (times t u) z k (x, y, e, h, s) = front x y z k e (term_inside l t x (first_or y k) h)
term_inside l (over t u) z k (x, y, e, h, s) = front x y z k e (term_inside l t x (first_or y k) h)
term_inside l (modulo t u) z k (x, y, e, h, s) = front x y z k e (term_inside l t x (first_or y k) h)

pub expr_inside : (l : ℕ) (a : ExprTree) (z : Pieces) (k : Option Token) → IsExpr l a z → Inside (first_or z k)
expr_inside l (term t) z k h = term_inside l t z k h
expr_inside l (plus a t) z k (x, y, e, h, s) = front x y z k e (expr_inside l a x (first_or y k) h)
expr_inside l (minus a t) z k (x, y, e, h, s) = front x y z k e (expr_inside l a x (first_or y k) h)

-- calls ----------------------------------------------------------------------------------------------------------------

abbrev ManyText : ℕ → ExprTree × List ExprTree → Texts
ManyText l es z = separated (IsExpr l) (es.0 ∷ es.1) z

abbrev pub ArgumentsText : ℕ → List ExprTree → Texts
ArgumentsText l es = separated (IsExpr l) es ⋅ spells mark.CloseParen

last_closes : (e : ExprTree) (es : List ExprTree) (at : Place) → AfterLast AfterExpr (AfterExpr e) es (Some (token mark.CloseParen at))
last_closes e [] at = after_expr e _ refl refl refl
last_closes e (f ∷ es) at = last_closes f es at

abbrev AfterMany : List ExprTree → Option Token → Type 0
AfterMany [] o = ⊤
AfterMany (e ∷ es) o = AfterCommas AfterExpr (e, es) o

many_closes : (es : List ExprTree) (at : Place) → AfterMany es (Some (token mark.CloseParen at))
many_closes [] at = tt
many_closes (e ∷ es) at = (last_closes e es at, refl)

abbrev NoArguments : List ExprTree → Texts
NoArguments all z = (all ≡ []) × spells mark.CloseParen z

abbrev SomeArguments : ℕ → List ExprTree → Texts
SomeArguments l all = Of listed (ManyText l) all ⋅ spells mark.CloseParen

none_out : (l : ℕ) (all : List ExprTree) (z : Pieces) → NoArguments all z → ArgumentsText l all z
none_out l all z (e, s) = subst (λ (es : List ExprTree). ArgumentsText l es z) (sym e) ([], z, refl, refl, s)

some_out : (l : ℕ) (all : List ExprTree) (z : Pieces) → SomeArguments l all z → ArgumentsText l all z
some_out l all z (x, y, e, (es, f, s), t) = subst (λ (is : List ExprTree). ArgumentsText l is z) f (x, y, e, s, t)

arguments_sides : (l : ℕ) (all : List ExprTree) (z : Pieces) → ArgumentsText l all z → NoArguments all z ⊎ SomeArguments l all z
arguments_sides l [] z (x, y, e, s, t) = inl (refl, subst (λ (w : Pieces). spells mark.CloseParen w) (sym (e ∙ ap (λ (w : Pieces). w ++ y) s)) t)
arguments_sides l (i ∷ is) z (x, y, e, s, t) = inr (x, y, e, ((i, is), refl, s), t)

some_inside : (l : ℕ) (all : List ExprTree) (z : Pieces) (k : Option Token) → SomeArguments l all z → is_mark mark.CloseParen (first_or z k) ≡ false
some_inside l all z k (x, y, e, (es, f, (p, q, g, s, r)), t) = (front x y z k e (front p q x (first_or y k) g (expr_inside l es.0 p (first_or q (first_or y k)) s))).1

exact_arguments : (n d l : ℕ) → d + l ≡ n → Exact n IsInner (arguments_at d) Any (ArgumentsText l) (ArgumentsText l) Free
exact_arguments n d l h =
    let none = exact_expect n mark.CloseParen 0 (omega arith) [] in
    let list = mapped (exact_commas (exact_expr n d l h) (some_expr l) (λ a at. after_expr a _ refl refl refl)) listed AfterMany (λ es o f. f) (λ es o f. f) in
    let b = branch (is_mark mark.CloseParen) (entry (widen none (ArgumentsText l) (λ all z s. none_out l all z s)) (λ o. ⊤ × (is_mark mark.CloseParen o ≡ true)) (λ o i. tt))
    (entry (widen (exact_ended mark.CloseParen list many_closes) (ArgumentsText l) (λ all z s. some_out l all z s)) (λ o. ⊤ × (is_mark mark.CloseParen o ≡ false)) (λ o i. tt))
    (λ all z o s f. first_opened (λ i. is_mark mark.CloseParen i ≡ true) mark.CloseParen 0 z [] z o (sym (append-nil z)) s.1 (λ at. refl))
    (λ all z o s f. some_inside l all z o s) in
    rename b (ArgumentsText l) (λ all z s. elim s [ inl k ↦ none_out l all z k | inr k ↦ some_out l all z k ]) (λ all z s. arguments_sides l all z s)

-- after the name
abbrev pub CallText : ℕ → Identifier → CallTree → Texts
CallText l x c = opens mark.OpenParen 0 ⋅ Of (call_of x) (ArgumentsText l) c

pub some_call : (l : ℕ) (x : Identifier) → (c : CallTree) × (z : Pieces) × CallText l x c z
some_call l x = (call_of x [], _, (_, _, refl, (some_place, refl), ([], refl, ([], _, refl, refl, (some_place, refl)))))

pub exact_call_rest : (n d l : ℕ) → d + l ≡ n → (x : Identifier) → Exact n IsInner (call_rest d x) Any (CallText l x) (CallText l x) Free
exact_call_rest n d l h x =
    exact_behind mark.OpenParen 0 (omega arith) (mapped (exact_arguments n d l h) (call_of x) Free (λ es o f. tt) (λ es o f. tt)) (call_of x [], _, ([], refl, ([], _, refl, refl, (some_place, refl))))

pub call_out : (o l : ℕ) (x : Identifier) (c : CallTree) (u v : Pieces) → name x o u → CallText l x c v → IsCall o l c (u ++ v)
call_out o l x c u v m (p, q, e, s, (es, f, t)) = subst (λ (k : CallTree). IsCall o l k (u ++ v)) f (u, v, refl, m, (p, q, e, s, t))

pub call_in : (l : ℕ) (c : CallTree) (v : Pieces) → (spells mark.OpenParen ⋅ ArgumentsText l c.arguments) v → CallText l c.name c v
call_in l c v (p, q, e, s, t) = (p, q, e, s, (c.arguments, refl, t))

-- rvalues --------------------------------------------------------------------------------------------------------------

abbrev IsName : TermTree → Type 0
IsName (unary (variable x)) = ⊤
IsName (unary (negated u)) = ⊥
IsName (unary (positive u)) = ⊥
IsName (unary (literal t i)) = ⊥
IsName (unary input) = ⊥
IsName (unary (group e)) = ⊥
IsName (unary (element x e)) = ⊥
IsName (times t u) = ⊥
IsName (over t u) = ⊥
IsName (modulo t u) = ⊥

-- an expression that is a name alone, which a parenthesis after it would make a call
abbrev pub IsNameAlone : ExprTree → Type 0
IsNameAlone (term t) = IsName t
IsNameAlone (plus e t) = ⊥
IsNameAlone (minus e t) = ⊥

abbrev pub AfterRvalue : RvalueTree → Option Token → Type 0
AfterRvalue (expression e) o = AfterExpr e o × (IsNameAlone e → is_mark mark.OpenParen o ≡ false)
AfterRvalue (result c) o = ⊤

-- what may follow an expression, and what its beginning says of that
abbrev AfterPlain : RvalueTree → Option Token → Type 0
AfterPlain (expression e) o = AfterExpr e o
AfterPlain (result c) o = ⊤

abbrev Noted : RvalueTree → Option Token → Type 0
Noted (expression e) o = IsNameAlone e → is_mark mark.OpenParen o ≡ false
Noted (result c) o = ⊤

both_after : (b : RvalueTree) (o : Option Token) → AfterPlain b o × Noted b o → AfterRvalue b o
both_after (expression e) o f = f
both_after (result c) o f = tt

after_both : (b : RvalueTree) (o : Option Token) → AfterRvalue b o → AfterPlain b o × Noted b o
after_both (expression e) o f = f
after_both (result c) o f = (tt, tt)

grown_term : (t : TermTree) (k : FactorOperator) (i : UnaryTree) → IsName (further_factor t k i) → ⊥
grown_term t factor.Times i h = h
grown_term t factor.Over i h = h
grown_term t factor.Modulo i h = h

grown_expr : (e : ExprTree) (k : SumOperator) (i : TermTree) → IsNameAlone (further_term e k i) → ⊥
grown_expr e sum.Plus i h = h
grown_expr e sum.Minus i h = h

term_alone : (l : ℕ) (b a : TermTree) (y : Pieces) → TermSteps l b a y → IsName b → (y ≡ []) × (b ≡ a)
term_alone l = no_steps factor_mark unary further_factor (IsUnary l) IsName grown_term

expr_alone : (l : ℕ) (b a : ExprTree) (y : Pieces) → ExprSteps l b a y → IsNameAlone b → (y ≡ []) × (b ≡ a)
expr_alone l = no_steps sum_mark term further_term (IsTerm l) IsNameAlone grown_expr

factor_no_open : (k : FactorOperator) (at : Place) → is_mark mark.OpenParen (Some (token (factor_mark k) at)) ≡ false
factor_no_open factor.Times at = refl
factor_no_open factor.Over at = refl
factor_no_open factor.Modulo at = refl

sum_no_open : (k : SumOperator) (at : Place) → is_mark mark.OpenParen (Some (token (sum_mark k) at)) ≡ false
sum_no_open sum.Plus at = refl
sum_no_open sum.Minus at = refl

abbrev FromTerm : ℕ → TermTree → RvalueTree → Texts
FromTerm l t b = Of expression (λ e z. ExprSteps l e (term t) z) b

-- after a unary that an expression begins with
abbrev FromUnary : ℕ → UnaryTree → RvalueTree → Texts
FromUnary l a b z = Both (λ t z. TermSteps l t (unary a) z) (FromTerm l) b z

-- after a name that an expression begins with
abbrev FromName : ℕ → Identifier → RvalueTree → Texts
FromName l x b z = Both (NamedUnary l x) (FromUnary l) b z

abbrev RvalueRest : ℕ → Identifier → RvalueTree → Texts
RvalueRest l x b z = Of result (CallText l x) b z ⊎ FromName l x b z

abbrev NotOpen : Option Token → Type 0
NotOpen o = is_mark mark.OpenParen o ≡ false

no_more : (u v z : Pieces) → z ≡ u ++ v → u ≡ [] → v ≡ [] → z ≡ []
no_more u v z e f g = e ∙ ap (λ (w : Pieces). w ++ v) f ∙ g

-- a name alone has no index
no_element : (l : ℕ) (x : Identifier) (a : UnaryTree) (z : Pieces) → NamedUnary l x a z → IsName (unary a) → z ≡ []
no_element l x a z (inl (i, f, t)) j = let k : IsName (unary (element x i)) = subst (λ (c : UnaryTree). IsName (unary c)) (sym f) j in absurd k
no_element l x a z (inr (f, t)) j = t

name_noted : (l : ℕ) (x : Identifier) (b : RvalueTree) (z : Pieces) (o : Option Token) → FromName l x b z → NotOpen (first_or z o) → Noted b o
name_noted l x b z o (c, (p, w, f, named, (t, (u, v, e, s, (a, g, r))))) i = subst (λ (k : RvalueTree). Noted k o) g (λ j.
    let q = expr_alone l a (term t) v r j in
    let k : IsName t = subst IsNameAlone q.1 j in
    let m = term_alone l t (unary c) u s k in
    let first : p ≡ [] = no_element l x c p named (subst IsName m.1 k) in
    subst (λ (k : Pieces). NotOpen (first_or k o)) (no_more p w z f first (no_more u v w e m.0 q.0)) i)

plain_after : (e : ExprTree) (b : RvalueTree) (o : Option Token) → expression e ≡ b → AfterPlain b o → AfterExpr e o
plain_after e b o g f = let r : AfterPlain (expression e) o = subst (λ (c : RvalueTree). AfterPlain c o) (sym g) f in r

-- an expression that is a name alone is followed by no parenthesis
alone_after : (e : ExprTree) (b : RvalueTree) (o : Option Token) → expression e ≡ b → AfterRvalue b o → IsNameAlone e → NotOpen o
alone_after e b o g f = let r : AfterRvalue (expression e) o = subst (λ (c : RvalueTree). AfterRvalue c o) (sym g) f in r.1

variable_no_open : (l : ℕ) (x : Identifier) (b : RvalueTree) (z : Pieces) (o : Option Token) → FromUnary l (variable x) b z → (z ≡ [] → AfterRvalue b o) →
    NotOpen (first_or z o)
variable_no_open l x b z o (t, (u, v, e, s, (a, g, r))) f =
    let behind_terms : u ≡ [] → t ≡ unary (variable x) → NotOpen (first_or v o) = λ i j.
    first_of_steps sum_mark term further_term (IsTerm l) a (term t) v o NotOpen r sum_no_open
    (λ i' j'. alone_after a b o g (f (no_more u v z e i i')) (subst IsNameAlone (sym (j' ∙ ap term j)) tt)) in
    let whole : NotOpen (first_or u (first_or v o)) = first_of_steps factor_mark unary further_factor (IsUnary l) t (unary (variable x)) u (first_or v o) NotOpen s factor_no_open behind_terms in
    subst NotOpen (sym (ap (λ (k : Pieces). first_or k o) e ∙ first_or-both u v o)) whole

from_no_open : (l : ℕ) (x : Identifier) (b : RvalueTree) (z : Pieces) (o : Option Token) → FromName l x b z → (z ≡ [] → AfterRvalue b o) →
    NotOpen (first_or z o)
from_no_open l x b z o (c, (p, w, e, inl (i, g, (u, v, f, s, t)), r)) h = first_opened NotOpen mark.OpenBracket (l + 1) u (v ++ w) z o (e ∙ regroup p w u v f)
    s (λ at. refl)
from_no_open l x b z o (c, (p, w, e, inr (g, f), r)) h =
    let same : z ≡ w = e ∙ ap (λ (k : Pieces). k ++ w) f in
    let plain : FromUnary l (variable x) b w = subst (λ (k : UnaryTree). FromUnary l k b w) g r in
    subst (λ (k : Pieces). NotOpen (first_or k o)) (sym same) (variable_no_open l x b w o plain (λ i. h (same ∙ i)))

module _ (n d l : ℕ) (h : d + l ≡ n) where
  behind_term : (t : TermTree) (b : RvalueTree) (y : Pieces) (o : Option Token) → FromTerm l t b y → (y ≡ [] → AfterPlain b o) → AfterTerm t (first_or y o)
  behind_term t b y o (e, g, s) f = expr_follows n l (term t) e y o s (λ i. plain_after e b o g (f i))

  behind_unary : (a : UnaryTree) (b : RvalueTree) (z : Pieces) (o : Option Token) → FromUnary l a b z → (z ≡ [] → AfterPlain b o) → AfterUnary a (first_or z o)
  behind_unary a b z o (t, (u, v, e, s, r)) f =
      let k : AfterUnary a (first_or u (first_or v o)) = term_follows n l (unary a) t u (first_or v o) s
      (λ i. behind_term t b v o r (λ j. f (no_more u v z e i j))) in
      subst (AfterUnary a) (sym (ap (λ (w : Pieces). first_or w o) e ∙ first_or-both u v o)) k

  exact_from_unary : (a : UnaryTree) → Exact n IsInner (rvalue_from d a) (AfterUnary a) (FromUnary l a) (FromUnary l a) AfterPlain
  exact_from_unary a =
      let U = exact_unary n d l h in
      then (exact_factors n l (unary_at d) U (unary a))
      (λ t. mapped (exact_summands n l (unary_at d) U (term t)) expression AfterPlain (λ e o f. f) (λ e o f. f)) (FromUnary l a)
      (λ t b y o s f. behind_term t b y o s f)
      (λ t z v. (expression (term t), [], (t, (z, [], refl, v, (term t, refl, none)))))
      (λ t b u v s r. (t, (u, v, refl, s, r)))

  exact_from : (x : Identifier) → Exact n IsInner (seq (named_unary (index_at d) x) (rvalue_from d)) Any (FromName l x) (FromName l x) AfterPlain
  exact_from x = then (exact_named_unary n l (index_at d) (exact_index n d l h) x) exact_from_unary (FromName l x)
      (λ a b y o s f. behind_unary a b y o s f)
      (λ a z v. (expression (term (unary a)), [], (a, (z, [], refl, v, (unary a, ([], [], refl, none, (term (unary a), refl, none)))))))
      (λ a b u v s r. (a, (u, v, refl, s, r)))

  exact_rvalue_rest : (x : Identifier) → Exact n IsInner (rvalue_rest d x) Any (RvalueRest l x) (RvalueRest l x) AfterRvalue
  exact_rvalue_rest x =
      let calls = mapped (exact_call_rest n d l h x) result AfterRvalue (λ c o f. tt) (λ c o f. tt) in
      let from = noted (entry (exact_from x) (λ o. ⊤ × NotOpen o) (λ o i. tt)) Noted (λ b z o s i. name_noted l x b z o s i.1) in
      branch (is_mark mark.OpenParen) (entry (widen calls (RvalueRest l x) (λ b z s. inl s)) (λ o. ⊤ × (is_mark mark.OpenParen o ≡ true)) (λ o i. tt))
      (widen (follows from AfterRvalue both_after after_both) (RvalueRest l x) (λ b z s. inr s))
      (λ b z o s f. first_opened (λ i. is_mark mark.OpenParen i ≡ true) mark.OpenParen 0 s.2.0 s.2.1 z o s.2.2 s.2.3 (λ at. refl))
      (λ b z o s f. from_no_open l x b z o s f)

abbrev NamedRvalue : ℕ → RvalueTree → Texts
NamedRvalue l b z = Both (λ x. name x 0) (RvalueRest l) b z

-- an expression that begins with no name
abbrev OtherRvalue : ℕ → RvalueTree → Texts
OtherRvalue l b z = Of expression (IsExpr l) b z × (has (next_name (first_or z None)) ≡ false)

from_out : (l : ℕ) (c : UnaryTree) (b : RvalueTree) (u v z : Pieces) → z ≡ u ++ v → IsUnary l c u → FromUnary l c b v → IsRvalue l b z
from_out l c b u v z e s (t, (p, q, f, m, (a, g, r))) =
    let first : IsTerm l t (u ++ p) = whole_term l t (unary c) u p s m in
    let all : IsExpr l a ((u ++ p) ++ q) = whole_expr l a (term t) (u ++ p) q first r in
    subst (λ (k : RvalueTree). IsRvalue l k z) g (subst (IsExpr l a) (sym (e ∙ ap (λ (w : Pieces). u ++ w) f ∙ sym (append_assoc u p q))) all)

named_out : (l : ℕ) (b : RvalueTree) (z : Pieces) → NamedRvalue l b z → IsRvalue l b z
named_out l b z (x, (u, v, e, s, inl (c, g, t))) = subst (λ (k : RvalueTree). IsRvalue l k z) g (subst (IsCall 0 l c) (sym e) (call_out 0 l x c u v s t))
named_out l b z (x, (u, v, e, s, inr (c, (i, j, k, named, r)))) =
    from_out l c b (u ++ i) j z (e ∙ ap (λ (w : Pieces). u ++ w) k ∙ sym (append_assoc u i j)) (unary_out l x c u i (u ++ i) refl s named) r

-- it begins with a name
abbrev IsNamed : UnaryTree → Type 0
IsNamed (variable x) = ⊤
IsNamed (element x e) = ⊤
IsNamed (negated u) = ⊥
IsNamed (positive u) = ⊥
IsNamed (literal t i) = ⊥
IsNamed input = ⊥
IsNamed (group e) = ⊥

-- another unary begins with none
unary_no_name : (l : ℕ) (a : UnaryTree) (v w z : Pieces) → z ≡ v ++ w → IsUnary l a v → (IsNamed a → ⊥) → has (next_name (first_or z None)) ≡ false
unary_no_name l (negated u) v w z e (x, y, f, s, t) g = first_opened (λ i. has (next_name i) ≡ false) mark.Minus (l + 1) x (y ++ w) z None (e ∙ regroup v w x y f) s (λ at. refl)
unary_no_name l (positive u) v w z e (x, y, f, s, t) g = first_opened (λ i. has (next_name i) ≡ false) mark.Plus (l + 1) x (y ++ w) z None (e ∙ regroup v w x y f) s (λ at. refl)
unary_no_name l (literal t i) v w z e s g = rw (e, s.1) refl
unary_no_name l (variable i) v w z e s g = absurd (g tt)
unary_no_name l (element i a) v w z e s g = absurd (g tt)
unary_no_name l input v w z e (x, y, f, s, t) g = first_opened (λ i. has (next_name i) ≡ false) mark.Input 0 x (y ++ w) z None (e ∙ regroup v w x y f) s (λ at. refl)
unary_no_name l (group i) v w z e (x, y, f, s, t) g = first_opened (λ i. has (next_name i) ≡ false) mark.OpenParen (l + 1) x (y ++ w) z None (e ∙ regroup v w x y f) s (λ at. refl)

by_first : (l : ℕ) (e : ExprTree) (a : UnaryTree) (z p q : Pieces) → IsExpr l e z → z ≡ p ++ q → IsUnary l a p → FromUnary l a (expression e) q
    → NamedRvalue l (expression e) z ⊎ OtherRvalue l (expression e) z
by_first l e (variable x) z p q h f s r = inl (x, (p, q, f, s, inr (variable x, ([], q, refl, inr (refl, refl), r))))
by_first l e (element x i) z p q h f (u, v, g, s, t) r = inl (x, (u, v ++ q, f ∙ regroup p q u v g, s, inr (element x i, (v, q, refl, inl (i, refl, t), r))))
by_first l e (negated u) z p q h f s r = inr ((e, refl, h), unary_no_name l (negated u) p q z f s (λ g. g))
by_first l e (positive u) z p q h f s r = inr ((e, refl, h), unary_no_name l (positive u) p q z f s (λ g. g))
by_first l e (literal t i) z p q h f s r = inr ((e, refl, h), unary_no_name l (literal t i) p q z f s (λ g. g))
by_first l e input z p q h f s r = inr ((e, refl, h), unary_no_name l input p q z f s (λ g. g))
by_first l e (group i) z p q h f s r = inr ((e, refl, h), unary_no_name l (group i) p q z f s (λ g. g))

rvalue_sides : (l : ℕ) (b : RvalueTree) (z : Pieces) → IsRvalue l b z → NamedRvalue l b z ⊎ OtherRvalue l b z
rvalue_sides l (result c) z (u, v, e, m, t) = inl (c.name, (u, v, e, m, inl (c, refl, call_in l c v t)))
rvalue_sides l (expression e) z h =
    let p = split_expr l e z h in
    let q = split_term l p.0 p.1.0 p.1.3 in
    by_first l e q.0 z q.1.0 (q.1.1 ++ p.1.1) h (p.1.2 ∙ regroup p.1.0 p.1.1 q.1.0 q.1.1 q.1.2) q.1.3 (p.0, (q.1.1, p.1.1, refl, q.1.4, (e, refl, p.1.4)))

-- a name alone begins with a name
alone_begins : (l : ℕ) (t : TermTree) (z : Pieces) → IsName t → IsTerm l t z → has (next_name (first_or z None)) ≡ true
alone_begins l (unary (variable x)) z j s = rw s refl
alone_begins l (unary (negated u)) z j s = absurd j
alone_begins l (unary (positive u)) z j s = absurd j
alone_begins l (unary (literal t i)) z j s = absurd j
alone_begins l (unary input) z j s = absurd j
alone_begins l (unary (group e)) z j s = absurd j
alone_begins l (unary (element x e)) z j s = absurd j
alone_begins l (times t u) z j s = absurd j
alone_begins l (over t u) z j s = absurd j
alone_begins l (modulo t u) z j s = absurd j

not_alone : (l : ℕ) (e : ExprTree) (z : Pieces) → IsExpr l e z → has (next_name (first_or z None)) ≡ false → IsNameAlone e → ⊥
not_alone l (term t) z s k j = let f = alone_begins l t z j s in cc
not_alone l (plus e t) z s k j = absurd j
not_alone l (minus e t) z s k j = absurd j

other_noted : (l : ℕ) (b : RvalueTree) (z : Pieces) (o : Option Token) → OtherRvalue l b z → Noted b o
other_noted l b z o ((e, g, s), k) = subst (λ (c : RvalueTree). Noted c o) g (λ j. absurd (not_alone l e z s k j))

other_begins : (l : ℕ) (b : RvalueTree) (z : Pieces) (o : Option Token) → OtherRvalue l b z → has (next_name (first_or z o)) ≡ false
other_begins l b z o ((e, g, s), k) = ap (λ (i : Option Token). has (next_name i)) (begun_first z o (expr_begun l e z s)) ∙ k

named_begins : (l : ℕ) (b : RvalueTree) (z : Pieces) (o : Option Token) → NamedRvalue l b z → has (next_name (first_or z o)) ≡ true
named_begins l b z o (x, (u, v, e, s, r)) = rw (e, s) refl

pub some_rvalue : (l : ℕ) → (e : RvalueTree) × (x : Pieces) × IsRvalue l e x
some_rvalue l = (expression (some_expr l).0, (some_expr l).1, (some_expr l).2)

pub exact_rvalue : (n d l : ℕ) → d + l ≡ n → Exact n IsInner (rvalue_at d) Any (IsRvalue l) (IsRvalue l) AfterRvalue
exact_rvalue n d l h =
    let named = then (exact_name n 0 (omega arith)) (exact_rvalue_rest n d l h) (NamedRvalue l)
    (λ x b y o s f. tt)
    (λ x z v. (
      expression (term (unary (variable x))),
      [],
      (
        x,
        (
          z,
          [],
          refl,
          v,
          inr (
            variable x,
            ([], [], refl, inr (refl, refl), (unary (variable x), ([], [], refl, none, (term (unary (variable x)), refl, none)))),
          ),
        ),
      ),
    ))
    (λ x b u v s r. (x, (u, v, refl, s, r))) in
    let exprs = where_told (mapped (exact_expr n d l h) expression AfterPlain (λ e o f. f) (λ e o f. f)) (λ o. has (next_name o)) false (λ b z s. begun_long z (expr_begun l s.0 z s.2)) in
    let others = follows (noted exprs Noted (λ b z o s i. other_noted l b z o s)) AfterRvalue both_after after_both in
    let t = branch (λ o. has (next_name o)) (entry (widen named (IsRvalue l) (λ b z s. named_out l b z s)) (λ o. ⊤ × (has (next_name o) ≡ true)) (λ o i. tt))
    (entry (widen others (IsRvalue l) (λ b z s. subst (λ (k : RvalueTree). IsRvalue l k z) s.1 s.2)) (λ o. ⊤ × (has (next_name o) ≡ false)) (λ o i. (i.1, tt)))
    (λ b z o s f. named_begins l b z o s) (λ b z o s f. other_begins l b z o s) in
    rename t (IsRvalue l) (λ b z s. elim s [ inl k ↦ named_out l b z k | inr k ↦ subst (λ (c : RvalueTree). IsRvalue l c z) k.0.1 k.0.2 ]) (λ b z s. rvalue_sides l b z s)

pub rvalue_stops : (e : RvalueTree) (at : Place) → AfterRvalue e (Some (token mark.Semicolon at))
rvalue_stops (expression e) at = (after_expr e _ refl refl refl, (λ i. refl))
rvalue_stops (result c) at = tt

pub rvalue_no_stop : (l : ℕ) (a : RvalueTree) (z : Pieces) (k : Option Token) → IsRvalue l a z → is_mark mark.Semicolon (first_or z k) ≡ false
rvalue_no_stop l (expression a) z k s = (expr_inside l a z k s).0
rvalue_no_stop l (result c) z k (x, y, e, s, t) = rw (e, s) refl
