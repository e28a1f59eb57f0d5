-- The readers of conditions are exact.
use Rattle.std.proofs.Common.{◌≡◌, ℕ, ◌+◌, zero, suc, ◌≤◌, ◌<◌, true, false, ◌⊎◌, [], ◌∷◌, ◌++◌, Option, Some, None, refl, sym, ap, subst, ◌∙◌, append_assoc, arith, inl, inr}
use Rattle.std.proofs.lemmas.List.{append-nil}
use Rattle.std.specs.Bool.{⊤}
use Rattle.lra_base.specs.{OperatorViews.comparison_view, declared.operators.Comparison.Comparison, declared.refusals.Cause.TheVariants.TooDeep, declared.refusals.Place.Place}
use Rattle.lra_syntax.specs.Grammar.{IsUnary, IsTerm, IsExpr, comparison_mark, IsStrict, IsNegation, IsTest, IsConjunction, IsCond}
use Rattle.lra_syntax.specs.Trees.{UnaryTree, negated, positive, literal, variable, input, group, element, TermTree, unary, ExprTree, term, NegationTree, opposite_again, value_of_unary, group_opposed}
use Rattle.lra_syntax.specs.Trees.{TestTree, opposite, value, compare, group_of, ConjunctionTree, test as one_test, and, CondTree, conjunction, or}
use Rattle.lra_syntax.specs.{Texts.Piece, Texts.Pieces, Texts.Texts, Texts.◌⋅◌, Texts.opens, Texts.mark as spells, declared.tokens.Mark.Mark, declared.tokens.Token.Token}
use Rattle.lra_syntax.specs.declared.tokens.Mark.TheVariants as mark
use Rattle.lra_base.specs.declared.operators.Comparison.TheVariants as comparison
use Rattle.lra_base.specs.Operators as operators
use Rattle.lra_parser_spec.specs.Expressions.{factor_operator, sum_operator, comparisons, next_comparison, next_and, next_or, in_parens, summands, expr_of, unary_at, compared, from_unary, alone}
use Rattle.lra_parser_spec.specs.Expressions.{after_alone, after_group, negation_of, TestMark, at_not, at_open, test_marks, test_mark, test_form, negation_form, conjunction_of, cond_of, tests}
use Rattle.lra_parser_spec.specs.{Expressions.test_at, Expressions.negation_at, Expressions.cond_at, Reading.Parse, Reading.stop, Reading.seq, Reading.has, Tests.first, Tests.is_mark}
use Rattle.lra_parser_spec.proofs.Chain.{regroup, IsFollow, IsOperator, Split, split_more, split_start, exact_chain}
use Rattle.lra_parser_spec.proofs.ExactExpressions.{AfterUnary, AfterTerm, AfterExpr, after_unary, after_expr, some_expr, TermSteps, ExprSteps, expr_follows, whole_term, whole_expr, split_term}
use Rattle.lra_parser_spec.proofs.ExactExpressions.{split_expr, exact_factors, exact_summands, exact_expr_of, Of, first_opened, opened_over, exact_unary}
use Rattle.lra_parser_spec.proofs.Forms.{rename, widen, entry, mapped, choose, branch, where_told, exact_done, exact_deep}
use Rattle.lra_parser_spec.proofs.{Exact.Exact, Exact.Any, Exact.Free, Exact.Both, Exact.first_or, Exact.first_or-both, Exact.then, Parts.token, Parts.exact_behind, Parts.exact_ended}
use Rattle.lra_parser_spec.proofs.{Parts.table_mark, Parts.by_table, Tokens.IsInner, Tokens.exact_operator, Tokens.some_place, Tokens.some_name, Turns.none}

-- operators --------------------------------------------------------------------------------------------------------

abbrev pub mark_of_comparison : Comparison → Mark
mark_of_comparison op = comparison_mark (comparison_view op)

comparison_self : (k : Comparison) (at : Place) → next_comparison (Some (token (mark_of_comparison k) at)) ≡ Some k
comparison_self comparison.Below at = refl
comparison_self comparison.AtMost at = refl
comparison_self comparison.Above at = refl
comparison_self comparison.AtLeast at = refl
comparison_self comparison.Equal at = refl
comparison_self comparison.Differs at = refl

comparison_is : (n : ℕ) → IsOperator n next_comparison mark_of_comparison
comparison_is n = record {
  exact = exact_operator n mark_of_comparison comparisons (refl, (refl, (refl, (refl, (refl, (refl, tt)))))) comparison_self refl comparison.Below;
  at_end = refl;
  self = comparison_self;
}

-- it continues no expression
after_comparison : (k : Comparison) (e : ExprTree) (at : Place) → AfterExpr e (Some (token (mark_of_comparison k) at))
after_comparison comparison.Below e at = after_expr e _ refl refl refl
after_comparison comparison.AtMost e at = after_expr e _ refl refl refl
after_comparison comparison.Above e at = after_expr e _ refl refl refl
after_comparison comparison.AtLeast e at = after_expr e _ refl refl refl
after_comparison comparison.Equal e at = after_expr e _ refl refl refl
after_comparison comparison.Differs e at = after_expr e _ refl refl refl

comparison_of : (op : operators.Comparison) → (k : Comparison) × (comparison_view k ≡ op)
comparison_of operators.below = (comparison.Below, refl)
comparison_of operators.at_most = (comparison.AtMost, refl)
comparison_of operators.above = (comparison.Above, refl)
comparison_of operators.at_least = (comparison.AtLeast, refl)
comparison_of operators.equal = (comparison.Equal, refl)
comparison_of operators.differs = (comparison.Differs, refl)

abbrev and_mark : Unit {0} → Mark
and_mark k = mark.And

abbrev or_mark : Unit {0} → Mark
or_mark k = mark.Or

and_is : (n : ℕ) → IsOperator n next_and and_mark
and_is n = record { exact = exact_operator n and_mark ((mark.And, tt {0}) ∷ []) (refl, tt) (λ k at. refl) refl (tt {0}); at_end = refl; self = λ k at. refl }

or_is : (n : ℕ) → IsOperator n next_or or_mark
or_is n = record { exact = exact_operator n or_mark ((mark.Or, tt {0}) ∷ []) (refl, tt) (λ k at. refl) refl (tt {0}); at_end = refl; self = λ k at. refl }

-- what may follow --------------------------------------------------------------------------------------------------

abbrev AfterNegation : NegationTree → Option Token → Type 0
AfterNegation (opposite_again a) o = AfterNegation a o
AfterNegation (value_of_unary u) o = AfterUnary u o
AfterNegation (group_opposed c) o = ⊤

abbrev pub AfterTest : TestTree → Option Token → Type 0
AfterTest (opposite a) o = AfterNegation a o
AfterTest (value e) o = AfterExpr e o × (has (next_comparison o) ≡ false)
AfterTest (compare a op b) o = AfterExpr b o
AfterTest (group_of c) o = ⊤

-- the first token of an expression ---------------------------------------------------------------------------------

abbrev pub Begun : Pieces → Type 0
Begun z = (t : Piece) × (w : Pieces) × (z ≡ t ∷ w)

begun_by : (m : Mark) (o : ℕ) (x y z : Pieces) → z ≡ x ++ y → opens m o x → Begun z
begun_by m o x y z e s = ((token m s.0, o), y, e ∙ ap (λ (v : Pieces). v ++ y) s.1)

unary_begun : (l : ℕ) (a : UnaryTree) (z : Pieces) → IsUnary l a z → Begun z
unary_begun l (negated u) z (x, y, e, s, t) = begun_by mark.Minus (l + 1) x y z e s
unary_begun l (positive u) z (x, y, e, s, t) = begun_by mark.Plus (l + 1) x y z e s
unary_begun l (literal t i) z s = (_, [], s.1)
unary_begun l (variable x) z s = (_, [], s)
unary_begun l input z (x, y, e, s, t) = begun_by mark.Input 0 x y z e s
unary_begun l (group e) z (x, y, f, s, t) = begun_by mark.OpenParen (l + 1) x y z f s
unary_begun l (element i e) z (x, y, f, s, t) = (_, y, f ∙ ap (λ (v : Pieces). v ++ y) s)

begun_front : (x y z : Pieces) → z ≡ x ++ y → Begun x → Begun z
begun_front x y z e b = (b.0, b.1 ++ y, e ∙ ap (λ (v : Pieces). v ++ y) b.2)

pub expr_begun : (l : ℕ) (e : ExprTree) (z : Pieces) → IsExpr l e z → Begun z
expr_begun l e z h =
    let p = split_expr l e z h in
    let q = split_term l p.0 p.1.0 p.1.3 in
    begun_front p.1.0 p.1.1 z p.1.2 (begun_front q.1.0 q.1.1 p.1.0 q.1.2 (unary_begun l q.0 q.1.0 q.1.3))

pub begun_long : (z : Pieces) → Begun z → z ≡ [] → ⊥
begun_long z b e = let f = b.2 in cc

pub begun_first : (z : Pieces) (o : Option Token) → Begun z → first_or z o ≡ first_or z None
begun_first z o b = rw (b.2) refl

-- after an expression ----------------------------------------------------------------------------------------------

abbrev Compared : ℕ → ExprTree → TestTree → Texts
Compared l e b z = ((k : Comparison) × (spells (mark_of_comparison k) ⋅ Of (compare e (comparison_view k)) (IsExpr l) b) z) ⊎ ((b ≡ value e) × (z ≡ []))

alone_begins : (e : ExprTree) (b : TestTree) (z : Pieces) (o : Option Token) → b ≡ value e → z ≡ [] → (z ≡ [] → AfterTest b o) → has (next_comparison (first_or z o)) ≡ false
alone_begins e b z o h k f = rw k (let g : AfterTest (value e) o = subst (λ (c : TestTree). AfterTest c o) h (f k) in g.1)

compared_follows : (l : ℕ) (e : ExprTree) (b : TestTree) (y : Pieces) (o : Option Token) → Compared l e b y → (y ≡ [] → AfterTest b o) → AfterExpr e (first_or y o)
compared_follows l e b y o (inl (k, (u, v, f, s, r))) g = first_opened (λ i. AfterExpr e i) (mark_of_comparison k) 0 u v y o f s (λ at. after_comparison k e at)
compared_follows l e b y o (inr s) f = rw s.1 (let g : AfterTest (value e) o = subst (λ (c : TestTree). AfterTest c o) s.0 (f s.1) in g.0)

compared_test : (l : ℕ) (e : ExprTree) (b : TestTree) (x y : Pieces) → IsExpr l e x → Compared l e b y → IsTest l b (x ++ y)
compared_test l e b x y h (inl (k, (u, v, f, s, (i, g, r)))) = subst (λ (c : TestTree). IsTest l c (x ++ y)) g (x, y, refl, h, (u, v, f, s, r))
compared_test l e b x y h (inr s) = rw s.0 (subst (IsExpr l e) (sym (append-nil x) ∙ ap (λ (k : Pieces). x ++ k) (sym s.1)) h)

abbrev Plain : ℕ → TestTree → Texts
Plain l b z = Both (IsExpr l) (Compared l) b z

abbrev FromTerm : ℕ → TermTree → TestTree → Texts
FromTerm l t b z = Both (λ e x. ExprSteps l e (term t) x) (Compared l) b z

abbrev FromUnary : ℕ → UnaryTree → TestTree → Texts
FromUnary l a b z = Both (λ t x. TermSteps l t (unary a) x) (FromTerm l) b z

module _ (n l : ℕ) (u : Parse UnaryTree) (U : Exact n IsInner u Any (IsUnary l) (IsUnary l) AfterUnary) where
  exact_compared : (e : ExprTree) → Exact n IsInner (compared u e) (AfterExpr e) (Compared l e) (Compared l e) AfterTest
  exact_compared e =
      let k = then ((comparison_is n).exact) (λ k. mapped (exact_expr_of n l u U) (compare e (comparison_view k)) AfterTest (λ i o f. f) (λ i o f. f)) (Compared l e)
      (λ k b y o s f. tt)
      (λ k z v. (compare e (comparison_view k) (some_expr l).0, (some_expr l).1, inl (k, (z, (some_expr l).1, refl, v, ((some_expr l).0, refl, (some_expr l).2)))))
      (λ k b x y s r. inl (k, (x, y, refl, s, r))) in
      branch (λ o. has (next_comparison o))
      (entry k (λ o. AfterExpr e o × (has (next_comparison o) ≡ true)) (λ o h. tt))
      (exact_done n IsInner (value e) (λ o. AfterExpr e o × (has (next_comparison o) ≡ false)) (Compared l e) AfterTest (λ o h. h))
      (λ b z o s f. first_opened (λ i. has (next_comparison i) ≡ true) (mark_of_comparison s.0) 0 s.1.0 s.1.1 z o s.1.2 s.1.3 (λ at. rw (comparison_self s.0 at) refl))
      (λ b z o s f. alone_begins e b z o s.0 s.1 f)

  exact_plain : Exact n IsInner (seq (expr_of u) (compared u)) Any (Plain l) (IsTest l) AfterTest
  exact_plain = then (exact_expr_of n l u U) exact_compared (IsTest l)
      (λ e b y o s f. compared_follows l e b y o s f) (λ e z v. (value e, [], subst (IsExpr l e) (sym (append-nil z)) v)) (λ e b x y s k. compared_test l e b x y s k)

  exact_from_term : (t : TermTree) → Exact n IsInner (seq (summands u (term t)) (compared u)) (AfterTerm t) (FromTerm l t) (FromTerm l t) AfterTest
  exact_from_term t = then (exact_summands n l u U (term t)) exact_compared (FromTerm l t)
      (λ e b y o s f. compared_follows l e b y o s f) (λ e z v. (value e, [], (e, (z, [], refl, v, inr (refl, refl))))) (λ e b x y s k. (e, (x, y, refl, s, k)))

  term_follows : (t : TermTree) (b : TestTree) (y : Pieces) (o : Option Token) → FromTerm l t b y → (y ≡ [] → AfterTest b o) → AfterTerm t (first_or y o)
  term_follows t b y o (e, (u, v, f, s, k)) g =
      let r : AfterTerm t (first_or u (first_or v o)) = expr_follows n l (term t) e u (first_or v o) s (λ i. compared_follows l e b v o k (λ i'. g (f ∙ ap (λ (k : Pieces). k ++ v) i ∙ i'))) in
      subst (AfterTerm t) (sym (ap (λ (k : Pieces). first_or k o) f ∙ first_or-both u v o)) r

  exact_from_unary : (a : UnaryTree) → Exact n IsInner (from_unary u a) (AfterUnary a) (FromUnary l a) (FromUnary l a) AfterTest
  exact_from_unary a = then (exact_factors n l u U (unary a)) exact_from_term (FromUnary l a)
      (λ t b y o s f. term_follows t b y o s f) (λ t z v. (value (term t), [], (t, (z, [], refl, v, (term t, ([], [], refl, none, inr (refl, refl))))))) (λ t b x y s k. (t, (x, y, refl, s, k)))

from_unary_test : (l : ℕ) (a : UnaryTree) (b : TestTree) (x y : Pieces) → IsUnary l a x → FromUnary l a b y → IsTest l b (x ++ y)
from_unary_test l a b x y h (t, (u, v, f, s, (e, (p, q, g, r, k)))) =
    let h1 : IsTerm l t (x ++ u) = whole_term l t (unary a) x u h s in
    let h2 : IsExpr l e ((x ++ u) ++ p) = whole_expr l e (term t) (x ++ u) p h1 r in
    let h3 : IsTest l b (((x ++ u) ++ p) ++ q) = compared_test l e b ((x ++ u) ++ p) q h2 k in
    subst (IsTest l b) (rw (f, g) (simp append_assoc)) h3

three : (x y a b c d : Pieces) → x ≡ a ++ b → a ≡ c ++ d → x ++ y ≡ c ++ (d ++ (b ++ y))
three x y a b c d e f = rw (e, f) (simp append_assoc)

-- the unary that a test begins with
leads : (l : ℕ) (b : TestTree) (z : Pieces) → Plain l b z → (a : UnaryTree) × (IsUnary l a ⋅ FromUnary l a b) z
leads l b z (e, (x, y, f, h, k)) =
    let p = split_expr l e x h in
    let q = split_term l p.0 p.1.0 p.1.3 in
    let parts : z ≡ q.1.0 ++ (q.1.1 ++ (p.1.1 ++ y)) = f ∙ three x y p.1.0 p.1.1 q.1.0 q.1.1 p.1.2 q.1.2 in
    (q.0, (q.1.0, q.1.1 ++ (p.1.1 ++ y), parts, q.1.3, (p.0, (q.1.1, p.1.1 ++ y, refl, q.1.4, (e, (p.1.1, y, refl, p.1.4, k))))))

-- conditions in parentheses ----------------------------------------------------------------------------------------

abbrev pub Grouped : ℕ → CondTree → Texts
Grouped l c = opens mark.OpenParen (l + 1) ⋅ (IsCond (l + 1) c ⋅ opens mark.CloseParen 0)

abbrev AfterAlone : ℕ → CondTree → Option ExprTree → TestTree → Texts
AfterAlone l c (Some e) b = FromUnary l (group e) b
AfterAlone l c None b = λ z. (b ≡ group_of c) × (z ≡ [])

-- the forms of a test, by what the next token is
abbrev TestAt : ℕ → Option TestMark → TestTree → Texts
TestAt l (Some at_not) b = opens mark.Not (l + 1) ⋅ Of opposite (IsNegation (l + 1)) b
TestAt l (Some at_open) b = λ z. Both (Grouped l) (λ c. AfterAlone l c (alone c)) b z
TestAt l None b = λ z. Plain l b z × (test_mark (first_or z None) ≡ None)

strict_test : (l : ℕ) (c : CondTree) (b : TestTree) (x y : Pieces) → IsStrict c → Grouped l c x → b ≡ group_of c → y ≡ [] → IsTest l b (x ++ y)
strict_test l c b x y s h e f = rw e (subst (Grouped l c) (sym (ap (λ (k : Pieces). x ++ k) f ∙ append-nil x)) h, s)

joined : (l : ℕ) (c : CondTree) (b : TestTree) (x y : Pieces) → Grouped l c x → AfterAlone l c (alone c) b y → IsTest l b (x ++ y)
joined l (conjunction (one_test (value e))) b x y h s = from_unary_test l (group e) b x y h s
joined l (conjunction (one_test (opposite a))) b x y h s = strict_test l _ b x y tt h s.0 s.1
joined l (conjunction (one_test (compare a op c))) b x y h s = strict_test l _ b x y tt h s.0 s.1
joined l (conjunction (one_test (group_of c))) b x y h s = strict_test l _ b x y tt h s.0 s.1
joined l (conjunction (and c t)) b x y h s = strict_test l _ b x y tt h s.0 s.1
joined l (or c d) b x y h s = strict_test l _ b x y tt h s.0 s.1

-- each condition in parentheses is the start of a test
group_some : (l : ℕ) (c : CondTree) (z : Pieces) (m : Option ExprTree) → (b : TestTree) × (y : Pieces) × AfterAlone l c m b y
group_some l c z (Some e) = (value (term (unary (group e))), [], (unary (group e), ([], [], refl, none, (term (unary (group e)), ([], [], refl, none, inr (refl, refl))))))
group_some l c z None = (group_of c, [], (refl, refl))

to_test : (l : ℕ) (k : Option TestMark) (b : TestTree) (z : Pieces) → TestAt l k b z → IsTest l b z
to_test l (Some at_not) b z (x, y, e, s, (a, f, t)) = subst (λ (c : TestTree). IsTest l c z) f (x, y, e, s, t)
to_test l (Some at_open) b z (c, (x, y, e, h, s)) = subst (IsTest l b) (sym e) (joined l c b x y h s)
to_test l None b z ((e, (x, y, f, h, k)), i) = subst (IsTest l b) (sym f) (compared_test l e b x y h k)

abbrev IsGroup : UnaryTree → Type 0
IsGroup (group e) = ⊤
IsGroup (negated u) = ⊥
IsGroup (positive u) = ⊥
IsGroup (literal t i) = ⊥
IsGroup (variable x) = ⊥
IsGroup input = ⊥
IsGroup (element x e) = ⊥

-- a unary that is no group begins with no `!` and no `(`
unary_key : (l : ℕ) (a : UnaryTree) (v w z : Pieces) → z ≡ v ++ w → IsUnary l a v → (IsGroup a → ⊥) → test_mark (first_or z None) ≡ None
unary_key l (negated u) v w z e (x, y, f, s, t) g = first_opened (λ i. test_mark i ≡ None) mark.Minus (l + 1) x (y ++ w) z None (e ∙ regroup v w x y f) s (λ at. refl)
unary_key l (positive u) v w z e (x, y, f, s, t) g = first_opened (λ i. test_mark i ≡ None) mark.Plus (l + 1) x (y ++ w) z None (e ∙ regroup v w x y f) s (λ at. refl)
unary_key l (literal t i) v w z e s g = rw (e, s.1) refl
unary_key l (variable i) v w z e s g = rw (e, s) refl
unary_key l input v w z e (x, y, f, s, t) g = first_opened (λ i. test_mark i ≡ None) mark.Input 0 x (y ++ w) z None (e ∙ regroup v w x y f) s (λ at. refl)
unary_key l (group i) v w z e s g = absurd (g tt)
unary_key l (element i a) v w z e (x, y, f, s, t) g = rw (e, f, s) refl

by_unary : (l : ℕ) (b : TestTree) (z : Pieces) → Plain l b z → (a : UnaryTree) → (IsUnary l a ⋅ FromUnary l a b) z → (k : Option TestMark) × TestAt l k b z
by_unary l b z p (group e) (v, w, f, h, k) = (Some at_open, (conjunction (one_test (value e)), (v, w, f, h, k)))
by_unary l b z p (negated u) (v, w, f, h, k) = (None, (p, unary_key l (negated u) v w z f h (λ g. g)))
by_unary l b z p (positive u) (v, w, f, h, k) = (None, (p, unary_key l (positive u) v w z f h (λ g. g)))
by_unary l b z p (literal t i) (v, w, f, h, k) = (None, (p, unary_key l (literal t i) v w z f h (λ g. g)))
by_unary l b z p (variable x) (v, w, f, h, k) = (None, (p, unary_key l (variable x) v w z f h (λ g. g)))
by_unary l b z p input (v, w, f, h, k) = (None, (p, unary_key l input v w z f h (λ g. g)))
by_unary l b z p (element x e) (v, w, f, h, k) = (None, (p, unary_key l (element x e) v w z f h (λ g. g)))

by_leads : (l : ℕ) (b : TestTree) (z : Pieces) → Plain l b z → (k : Option TestMark) × TestAt l k b z
by_leads l b z p = let a = leads l b z p in by_unary l b z p a.0 a.1

grouped_strict : (l : ℕ) (c : CondTree) (z : Pieces) → Grouped l c z → IsStrict c → TestAt l (Some at_open) (group_of c) z
grouped_strict l (conjunction (one_test (value e))) z h s = absurd s
grouped_strict l (conjunction (one_test (opposite a))) z h s = (conjunction (one_test (opposite a)), (z, [], sym (append-nil z), h, (refl, refl)))
grouped_strict l (conjunction (one_test (compare a op c))) z h s = (conjunction (one_test (compare a op c)), (z, [], sym (append-nil z), h, (refl, refl)))
grouped_strict l (conjunction (one_test (group_of c))) z h s = (conjunction (one_test (group_of c)), (z, [], sym (append-nil z), h, (refl, refl)))
grouped_strict l (conjunction (and c t)) z h s = (conjunction (and c t), (z, [], sym (append-nil z), h, (refl, refl)))
grouped_strict l (or c d) z h s = (or c d, (z, [], sym (append-nil z), h, (refl, refl)))

compared_of : (l : ℕ) (a : ExprTree) (op : operators.Comparison) (b : ExprTree) (y : Pieces) → (spells (comparison_mark op) ⋅ IsExpr l b) y → Compared l a (compare a op b) y
compared_of l a op b y (u, v, f, s, r) =
    let k = comparison_of op in
    inl (k.0, (u, v, f, subst (λ (c : operators.Comparison). spells (comparison_mark c) u) (sym k.1) s, (b, ap (λ (c : operators.Comparison). compare a c b) k.1, r)))

from_test : (l : ℕ) (b : TestTree) (z : Pieces) → IsTest l b z → (k : Option TestMark) × TestAt l k b z
from_test l (opposite a) z (x, y, e, s, t) = (Some at_not, (x, y, e, s, (a, refl, t)))
from_test l (value e) z h = by_leads l (value e) z (e, (z, [], sym (append-nil z), h, inr (refl, refl)))
from_test l (compare a op b) z (x, y, e, s, t) = by_leads l (compare a op b) z (a, (x, y, e, s, compared_of l a op b y t))
from_test l (group_of c) z h = (Some at_open, grouped_strict l c z h.0 h.1)

plain_begun : (l : ℕ) (b : TestTree) (z : Pieces) → Plain l b z → Begun z
plain_begun l b z (e, (x, y, f, h, k)) = begun_front x y z f (expr_begun l e x h)

grouped_begins : (l : ℕ) (c : CondTree) (x y z : Pieces) (o : Option Token) → z ≡ x ++ y → Grouped l c x → test_mark (first_or z o) ≡ Some at_open
grouped_begins l c x y z o e (u, v, f, s, t) = first_opened (λ i. test_mark i ≡ Some at_open) mark.OpenParen (l + 1) u (v ++ y) z o (e ∙ regroup x y u v f) s (λ at. refl)

test_begins : (l : ℕ) (k : Option TestMark) (b : TestTree) (z : Pieces) (o : Option Token) → TestAt l k b z → test_mark (first_or z o) ≡ k
test_begins l (Some at_not) b z o (x, y, e, s, t) = first_opened (λ i. test_mark i ≡ Some at_not) mark.Not (l + 1) x y z o e s (λ at. refl)
test_begins l (Some at_open) b z o (c, (x, y, e, h, s)) = grouped_begins l c x y z o e h
test_begins l None b z o (p, i) = ap test_mark (begun_first z o (plain_begun l b z p)) ∙ i

abbrev At : Option TestMark → Option Token → Type 0
At k o = (test_mark o ≡ k) × Any o

module _ (n l : ℕ) (u : Parse UnaryTree) (U : Exact n IsInner u Any (IsUnary l) (IsUnary l) AfterUnary) where
  exact_after_alone : (c : CondTree) (m : Option ExprTree) → Exact n IsInner (after_alone u c m) Any (AfterAlone l c m) (AfterAlone l c m) AfterTest
  exact_after_alone c (Some e) = exact_from_unary n l u U (group e)
  exact_after_alone c None = exact_done n IsInner (group_of c) Any (AfterAlone l c None) AfterTest (λ o h. tt)

  -- after a parenthesis
  exact_grouped : (p : Parse CondTree) → Exact n IsInner (in_parens p) Any (Grouped l) (Grouped l) Free →
      Exact n IsInner (seq (in_parens p) (after_group u)) Any (TestAt l (Some at_open)) (TestAt l (Some at_open)) AfterTest
  exact_grouped p P = then P (λ c. exact_after_alone c (alone c)) (TestAt l (Some at_open))
      (λ c b y o s f. tt)
      (λ c z v. let g = group_some l c z (alone c) in (g.0, g.1, (c, (z, g.1, refl, v, g.2))))
      (λ c b x y s r. (c, (x, y, refl, s, r)))

  module _ (opposed grouped : Parse TestTree) (N : Exact n IsInner opposed (At (Some at_not)) (TestAt l (Some at_not)) (IsTest l) AfterTest)
      (G : Exact n IsInner grouped (At (Some at_open)) (TestAt l (Some at_open)) (IsTest l) AfterTest) where
    each_test : (k : Option TestMark) → Exact n IsInner (test_form u opposed grouped k) (At k) (TestAt l k) (IsTest l) AfterTest
    each_test (Some at_not) = N
    each_test (Some at_open) = G
    each_test None = where_told (exact_plain n l u U) test_mark None (λ b z s. begun_long z (plain_begun l b z s))

    exact_test_form : Exact n IsInner (λ T. test_form u opposed grouped (test_mark (first T)) T) Any (IsTest l) (IsTest l) AfterTest
    exact_test_form = rename (choose test_mark each_test (λ k b z o s f. test_begins l k b z o s)) (IsTest l) (λ b z s. to_test l s.0 b z s.1) (λ b z s. from_test l b z s)

-- what `!` stands before -------------------------------------------------------------------------------------------

abbrev NegationAt : ℕ → Option TestMark → NegationTree → Texts
NegationAt l (Some at_not) b = opens mark.Not (l + 1) ⋅ Of opposite_again (IsNegation (l + 1)) b
NegationAt l (Some at_open) b = Of negation_of (Grouped l) b
NegationAt l None b = λ z. Of value_of_unary (IsUnary l) b z × (test_mark (first_or z None) ≡ None)

group_negated : (l : ℕ) (c : CondTree) (z : Pieces) → Grouped l c z → IsNegation l (negation_of c) z
group_negated l (conjunction (one_test (value e))) z h = h
group_negated l (conjunction (one_test (opposite a))) z h = (h, tt)
group_negated l (conjunction (one_test (compare a op c))) z h = (h, tt)
group_negated l (conjunction (one_test (group_of c))) z h = (h, tt)
group_negated l (conjunction (and c t)) z h = (h, tt)
group_negated l (or c d) z h = (h, tt)

strict_negated : (c : CondTree) → IsStrict c → negation_of c ≡ group_opposed c
strict_negated (conjunction (one_test (value e))) s = absurd s
strict_negated (conjunction (one_test (opposite a))) s = refl
strict_negated (conjunction (one_test (compare a op c))) s = refl
strict_negated (conjunction (one_test (group_of c))) s = refl
strict_negated (conjunction (and c t)) s = refl
strict_negated (or c d) s = refl

-- a parenthesis ends in no name
after_group_negation : (c : CondTree) (o : Option Token) → AfterNegation (negation_of c) o
after_group_negation (conjunction (one_test (value e))) o = tt
after_group_negation (conjunction (one_test (opposite a))) o = tt
after_group_negation (conjunction (one_test (compare a op c))) o = tt
after_group_negation (conjunction (one_test (group_of c))) o = tt
after_group_negation (conjunction (and c t)) o = tt
after_group_negation (or c d) o = tt

to_negation : (l : ℕ) (k : Option TestMark) (b : NegationTree) (z : Pieces) → NegationAt l k b z → IsNegation l b z
to_negation l (Some at_not) b z (x, y, e, s, (a, f, t)) = subst (λ (c : NegationTree). IsNegation l c z) f (x, y, e, s, t)
to_negation l (Some at_open) b z (c, f, h) = subst (λ (a : NegationTree). IsNegation l a z) f (group_negated l c z h)
to_negation l None b z ((a, f, h), i) = subst (λ (c : NegationTree). IsNegation l c z) f h

from_negation : (l : ℕ) (b : NegationTree) (z : Pieces) → IsNegation l b z → (k : Option TestMark) × NegationAt l k b z
from_negation l (opposite_again a) z (x, y, e, s, t) = (Some at_not, (x, y, e, s, (a, refl, t)))
from_negation l (value_of_unary (group e)) z h = (Some at_open, (conjunction (one_test (value e)), refl, h))
from_negation l (value_of_unary (negated u)) z h = (None, ((_, refl, h), unary_key l (negated u) z [] z (sym (append-nil z)) h (λ g. g)))
from_negation l (value_of_unary (positive u)) z h = (None, ((_, refl, h), unary_key l (positive u) z [] z (sym (append-nil z)) h (λ g. g)))
from_negation l (value_of_unary (literal t i)) z h = (None, ((_, refl, h), unary_key l (literal t i) z [] z (sym (append-nil z)) h (λ g. g)))
from_negation l (value_of_unary (variable x)) z h = (None, ((_, refl, h), unary_key l (variable x) z [] z (sym (append-nil z)) h (λ g. g)))
from_negation l (value_of_unary input) z h = (None, ((_, refl, h), unary_key l input z [] z (sym (append-nil z)) h (λ g. g)))
from_negation l (value_of_unary (element x e)) z h = (None, ((_, refl, h), unary_key l (element x e) z [] z (sym (append-nil z)) h (λ g. g)))
from_negation l (group_opposed c) z h = (Some at_open, (c, strict_negated c h.1, h.0))

negation_begins : (l : ℕ) (k : Option TestMark) (b : NegationTree) (z : Pieces) (o : Option Token) → NegationAt l k b z → test_mark (first_or z o) ≡ k
negation_begins l (Some at_not) b z o (x, y, e, s, t) = first_opened (λ i. test_mark i ≡ Some at_not) mark.Not (l + 1) x y z o e s (λ at. refl)
negation_begins l (Some at_open) b z o (c, f, h) = grouped_begins l c z [] z o (sym (append-nil z)) h
negation_begins l None b z o ((a, f, h), i) = ap test_mark (begun_first z o (unary_begun l a z h)) ∙ i

module _ (n l : ℕ) (u : Parse UnaryTree) (U : Exact n IsInner u Any (IsUnary l) (IsUnary l) AfterUnary) (opposed grouped : Parse NegationTree)
    (N : Exact n IsInner opposed (At (Some at_not)) (NegationAt l (Some at_not)) (IsNegation l) AfterNegation)
    (G : Exact n IsInner grouped (At (Some at_open)) (NegationAt l (Some at_open)) (IsNegation l) AfterNegation) where
  each_negation : (k : Option TestMark) → Exact n IsInner (negation_form u opposed grouped k) (At k) (NegationAt l k) (IsNegation l) AfterNegation
  each_negation (Some at_not) = N
  each_negation (Some at_open) = G
  each_negation None =
      where_told (widen (mapped U value_of_unary AfterNegation (λ a o f. f) (λ a o f. f)) (IsNegation l)
      (λ b z s. subst (λ (c : NegationTree). IsNegation l c z) s.1 s.2)) test_mark None
      (λ b z s. begun_long z (unary_begun l s.0 z s.2))

  exact_negation_form : Exact n IsInner (λ T. negation_form u opposed grouped (test_mark (first T)) T) Any (IsNegation l) (IsNegation l) AfterNegation
  exact_negation_form = rename (choose test_mark each_negation (λ k b z o s f. negation_begins l k b z o s)) (IsNegation l) (λ b z s. to_negation l s.0 b z s.1) (λ b z s. from_negation l b z s)

-- chains -----------------------------------------------------------------------------------------------------------

abbrev LastTest : ConjunctionTree → Option Token → Type 0
LastTest (one_test t) o = AfterTest t o
LastTest (and c t) o = AfterTest t o

abbrev pub AfterConjunction : ConjunctionTree → Option Token → Type 0
AfterConjunction c o = LastTest c o × (has (next_and o) ≡ false)

abbrev LastConjunction : CondTree → Option Token → Type 0
LastConjunction (conjunction c) o = AfterConjunction c o
LastConjunction (or d c) o = AfterConjunction c o

abbrev pub AfterCond : CondTree → Option Token → Type 0
AfterCond c o = LastConjunction c o × (has (next_or o) ≡ false)

after_negation : (a : NegationTree) (o : Option Token) → is_mark mark.OpenBracket o ≡ false → AfterNegation a o
after_negation (opposite_again a) o h = after_negation a o h
after_negation (value_of_unary u) o h = after_unary u o h
after_negation (group_opposed c) o h = tt

-- a token that continues no test may follow each
test_then : (a : TestTree) (o : Option Token) → is_mark mark.OpenBracket o ≡ false → has (factor_operator o) ≡ false → has (sum_operator o) ≡ false →
    has (next_comparison o) ≡ false → AfterTest a o
test_then (opposite a) o h s p q = after_negation a o h
test_then (value e) o h s p q = (after_expr e o h s p, q)
test_then (compare a op b) o h s p q = after_expr b o h s p
test_then (group_of c) o h s p q = tt

last_test : (c : ConjunctionTree) (o : Option Token) → is_mark mark.OpenBracket o ≡ false → has (factor_operator o) ≡ false → has (sum_operator o) ≡ false →
    has (next_comparison o) ≡ false → LastTest c o
last_test (one_test a) o h s p q = test_then a o h s p q
last_test (and c a) o h s p q = test_then a o h s p q

last_conjunction : (c : CondTree) (o : Option Token) → is_mark mark.OpenBracket o ≡ false → has (factor_operator o) ≡ false → has (sum_operator o) ≡ false →
    has (next_comparison o) ≡ false → has (next_and o) ≡ false → LastConjunction c o
last_conjunction (conjunction a) o h s p q r = (last_test a o h s p q, r)
last_conjunction (or c a) o h s p q r = (last_test a o h s p q, r)

pub cond_closes : (c : CondTree) (at : Place) → AfterCond c (Some (token mark.CloseParen at))
cond_closes c at = (last_conjunction c _ refl refl refl refl refl, refl)

pub cond_stops : (c : CondTree) (at : Place) → AfterCond c (Some (token mark.Semicolon at))
cond_stops c at = (last_conjunction c _ refl refl refl refl refl, refl)

conjunction_follow : IsFollow next_and one_test (λ (c : ConjunctionTree) (k : Unit {0}) (t : TestTree). and c t) AfterTest LastTest
conjunction_follow = record {
  start_out = λ i o f. f;
  start_in = λ i o f. f;
  grow_out = λ a k i o f. f;
  grow_in = λ a k i o f. f;
  allowed = λ a o e. by_table and_mark ((mark.And, tt {0}) ∷ []) (refl, tt) (λ o. LastTest a o)
      (λ k at. last_test a (Some (token mark.And at)) refl refl refl refl) o e;
}

cond_follow : IsFollow next_or conjunction (λ (c : CondTree) (k : Unit {0}) (d : ConjunctionTree). or c d) AfterConjunction LastConjunction
cond_follow = record {
  start_out = λ i o f. f;
  start_in = λ i o f. f;
  grow_out = λ a k i o f. f;
  grow_in = λ a k i o f. f;
  allowed = λ a o e. by_table or_mark ((mark.Or, tt {0}) ∷ []) (refl, tt) (λ o. LastConjunction a o)
      (λ k at. last_conjunction a (Some (token mark.Or at)) refl refl refl refl refl) o e;
}

split_conjunction : (l : ℕ) (c : ConjunctionTree) (z : Pieces) → IsConjunction l c z → Split and_mark one_test (λ c k t. and c t) (IsTest l) c z
split_conjunction l (one_test t) z h = split_start and_mark one_test (λ c k t. and c t) (IsTest l) t z h
split_conjunction l (and c t) z (x, y, e, h, s) = split_more and_mark one_test (λ c k t. and c t) (IsTest l) c (tt {0}) t z x y (split_conjunction l c x h) e s

split_cond : (l : ℕ) (c : CondTree) (z : Pieces) → IsCond l c z → Split or_mark conjunction (λ c k d. or c d) (IsConjunction l) c z
split_cond l (conjunction t) z h = split_start or_mark conjunction (λ c k d. or c d) (IsConjunction l) t z h
split_cond l (or c t) z (x, y, e, h, s) = split_more or_mark conjunction (λ c k d. or c d) (IsConjunction l) c (tt {0}) t z x y (split_cond l c x h) e s

some_test : (l : ℕ) → (t : TestTree) × (x : Pieces) × IsTest l t x
some_test l = (value (some_expr l).0, (some_expr l).1, (some_expr l).2)

some_conjunction : (l : ℕ) → (t : ConjunctionTree) × (x : Pieces) × IsConjunction l t x
some_conjunction l = (one_test (some_test l).0, (some_test l).1, (some_test l).2)

pub some_cond : (l : ℕ) → (t : CondTree) × (x : Pieces) × IsCond l t x
some_cond l = (conjunction (some_conjunction l).0, (some_conjunction l).1, (some_conjunction l).2)

module _ (n l : ℕ) (p : Parse TestTree) (P : Exact n IsInner p Any (IsTest l) (IsTest l) AfterTest) where
  exact_conjunction_of : Exact n IsInner (conjunction_of p) Any (IsConjunction l) (IsConjunction l) AfterConjunction
  exact_conjunction_of = exact_chain (and_is n) conjunction_follow P (some_test l) (IsConjunction l) (λ i z s. s) (λ a k i x y h s. (x, y, refl, h, s)) (split_conjunction l)

  pub exact_cond_of : Exact n IsInner (cond_of p) Any (IsCond l) (IsCond l) AfterCond
  exact_cond_of = exact_chain (or_is n) cond_follow exact_conjunction_of (some_conjunction l) (IsCond l) (λ i z s. s) (λ a k i x y h s. (x, y, refl, h, s)) (split_cond l)

-- levels -----------------------------------------------------------------------------------------------------------

abbrev pub mark_of_test : TestMark → Mark
mark_of_test at_not = mark.Not
mark_of_test at_open = mark.OpenParen

test_at_mark : (k : TestMark) (t : Token) → test_mark (Some t) ≡ Some k → (at : Place) × (t ≡ token (mark_of_test k) at)
test_at_mark k t e = let s = table_mark mark_of_test test_marks (refl, (refl, tt)) (Some t) k e in (s.0, (let f = s.1 in cc))

none_over : (k : TestMark) → At (Some k) None → ⊥
none_over k i = let e = i.0 in cc

over_test : (n l : ℕ) (k : TestMark) → n < l + 1 → (b : TestTree) (z : Pieces) → TestAt l (Some k) b z → (t : Piece) × (w : Pieces) × (z ≡ t ∷ w) × (n < t.1)
over_test n l at_not h b z (x, y, e, s, t) = opened_over n (l + 1) mark.Not x y z h e s
over_test n l at_open h b z (c, (x, y, e, (u, v, f, s, t), k)) = opened_over n (l + 1) mark.OpenParen u (v ++ y) z h (e ∙ regroup x y u v f) s

abbrev Over : {A : Type 0} → ℕ → (A → Texts) → Token → Type 0
Over {A} n S t = (a : A) × (o : ℕ) × (w : Pieces) × S a ((t, o) ∷ w) × (n < o)

some_over_test : (n l : ℕ) (k : TestMark) → n < l + 1 → (t : Token) → At (Some k) (Some t) → Over n (IsTest l) t
some_over_test n l at_not h t i =
    let s = test_at_mark at_not t i.0 in
    subst (Over n (IsTest l)) (sym s.1) (opposite (value_of_unary (variable some_name)), l + 1, _, (_, _, refl, (s.0, refl), refl), h)
some_over_test n l at_open h t i =
    let s = test_at_mark at_open t i.0 in
    subst (Over n (IsTest l)) (sym s.1) (value (term (unary (group (some_expr (l + 1)).0))), l + 1, _, (_, _, refl, (s.0, refl), (_, _, refl, (some_expr (l + 1)).2, (some_place, refl))), h)

over_negation : (n l : ℕ) (k : TestMark) → n < l + 1 → (b : NegationTree) (z : Pieces) → NegationAt l (Some k) b z → (t : Piece) × (w : Pieces) × (z ≡ t ∷ w) × (n < t.1)
over_negation n l at_not h b z (x, y, e, s, t) = opened_over n (l + 1) mark.Not x y z h e s
over_negation n l at_open h b z (c, g, (u, v, f, s, t)) = opened_over n (l + 1) mark.OpenParen u v z h f s

some_over_negation : (n l : ℕ) (k : TestMark) → n < l + 1 → (t : Token) → At (Some k) (Some t) → Over n (IsNegation l) t
some_over_negation n l at_not h t i =
    let s = test_at_mark at_not t i.0 in
    subst (Over n (IsNegation l)) (sym s.1) (opposite_again (value_of_unary (variable some_name)), l + 1, _, (_, _, refl, (s.0, refl), refl), h)
some_over_negation n l at_open h t i =
    let s = test_at_mark at_open t i.0 in
    subst (Over n (IsNegation l)) (sym s.1) (value_of_unary (group (some_expr (l + 1)).0), l + 1, _, (_, _, refl, (s.0, refl), (_, _, refl, (some_expr (l + 1)).2, (some_place, refl))), h)

pub exact_parens : (n l o : ℕ) (p : Parse CondTree) → o ≤ n → Exact n IsInner p Any (IsCond l) (IsCond l) AfterCond
    → Exact n IsInner (in_parens p) Any (λ c. opens mark.OpenParen o ⋅ (IsCond l c ⋅ opens mark.CloseParen 0)) (λ c. opens mark.OpenParen o ⋅ (IsCond l c ⋅ opens mark.CloseParen 0)) Free
exact_parens n l o p low P = exact_behind mark.OpenParen o low (exact_ended mark.CloseParen P cond_closes) ((some_cond l).0, _, (_, _, refl, (some_cond l).2, (some_place, refl)))

-- the readers of tests and of negations
abbrev AreExact : ℕ → ℕ → ℕ → Type 0
AreExact n d l = Exact n IsInner (test_at d) Any (IsTest l) (IsTest l) AfterTest × Exact n IsInner (negation_at d) Any (IsNegation l) (IsNegation l)
    AfterNegation

exact_tests : (n d l : ℕ) → d + l ≡ n → AreExact n d l
unfolding tests
exact_tests n zero l h =
    let deep : n < l + 1 = omega arith in
    let U = exact_unary n zero l h in (
      exact_test_form n l (unary_at zero) U (stop TooDeep) (stop TooDeep)
          (exact_deep n IsInner (At (Some at_not)) (TestAt l (Some at_not)) (IsTest l) AfterTest (over_test n l at_not deep) (some_over_test n l at_not deep) (none_over at_not))
          (exact_deep n IsInner (At (Some at_open)) (TestAt l (Some at_open)) (IsTest l) AfterTest (over_test n l at_open deep) (some_over_test n l at_open deep) (none_over at_open)),
      exact_negation_form n l (unary_at zero) U (stop TooDeep) (stop TooDeep)
          (exact_deep n IsInner (At (Some at_not)) (NegationAt l (Some at_not)) (IsNegation l) AfterNegation (over_negation n l at_not deep)
          (some_over_negation n l at_not deep) (none_over at_not))
          (exact_deep n IsInner (At (Some at_open)) (NegationAt l (Some at_open)) (IsNegation l) AfterNegation (over_negation n l at_open deep)
          (some_over_negation n l at_open deep) (none_over at_open)),
    )
exact_tests n (suc d) l h =
    let low : l + 1 ≤ n = omega arith in
    let U = exact_unary n (suc d) l h in
    let inner = exact_tests n d (l + 1) (omega arith) in
    let G = exact_parens n (l + 1) (l + 1) (cond_of (test_at d)) low (exact_cond_of n (l + 1) (test_at d) inner.0) in
    let some : (a : NegationTree) × (x : Pieces) × IsNegation (l + 1) a x = (value_of_unary (variable some_name), _, refl) in (
      exact_test_form n l (unary_at (suc d)) U _ _
          (entry (widen (exact_behind mark.Not (l + 1) low (mapped inner.1 opposite AfterTest (λ a o f. f) (λ a o f. f))
          (opposite some.0, some.1, (some.0, refl, some.2))) (IsTest l)
          (λ b z s. to_test l (Some at_not) b z s)) (At (Some at_not)) (λ o i. tt))
          (entry (widen (exact_grouped n l (unary_at (suc d)) U (cond_of (test_at d)) G) (IsTest l) (λ b z s. to_test l (Some at_open) b z s)) (At (Some at_open)) (λ o i. tt)),
      exact_negation_form n l (unary_at (suc d)) U _ _
          (entry (widen (exact_behind mark.Not (l + 1) low (mapped inner.1 opposite_again AfterNegation (λ a o f. f) (λ a o f. f))
          (opposite_again some.0, some.1, (some.0, refl, some.2))) (IsNegation l)
          (λ b z s. to_negation l (Some at_not) b z s)) (At (Some at_not)) (λ o i. tt))
          (entry (widen (mapped G negation_of AfterNegation (λ c o f. after_group_negation c o) (λ c o f. tt)) (IsNegation l)
          (λ b z s. to_negation l (Some at_open) b z s)) (At (Some at_open)) (λ o i. tt)),
    )

pub exact_cond : (n d l : ℕ) → d + l ≡ n → Exact n IsInner (cond_at d) Any (IsCond l) (IsCond l) AfterCond
exact_cond n d l h = exact_cond_of n l (test_at d) (exact_tests n d l h).0
