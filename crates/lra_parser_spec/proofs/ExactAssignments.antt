-- The readers of assignments and declarations are exact.
use Rattle.std.proofs.Common.{◌≡◌, ℕ, ◌+◌, ◌≤◌, Bool, true, false, cond, ◌⊎◌, List, [], ◌∷◌, ◌++◌, Option, Some, None, Ok, Err, refl, sym, ap, subst, ◌∙◌, arith, inl, inr, option_map}
use Rattle.std.proofs.lemmas.List.{append-nil}
use Rattle.std.specs.Bool.{⊤}
use Rattle.lra_base.specs.{OperatorViews.operator_view, declared.number_types.NumberType.NumberType, declared.number_types.NumberType.TheVariants.Int}
use Rattle.lra_base.specs.{declared.number_types.NumberType.TheVariants.Long, declared.operators.Operator.Operator, declared.refusals.Cause.TheVariants.Syntax, declared.refusals.Place.Place}
use Rattle.lra_syntax.specs.Grammar.{IsExpr, IsRvalue, update_mark, step_mark, IsAssign, IsType, IsGiven, IsScalarOrArray, IsDeclarator, IsDeclaration}
use Rattle.lra_syntax.specs.Texts.{Pieces, Texts, ◌⋅◌, ◌∣◌, empty, opens, mark as spells, opens_at, name, separated}
use Rattle.lra_syntax.specs.Trees.{RvalueTree, expression, result, StepTree, increment, decrement, AssignTree, set, set_element, update, after, before, ScalarOrArrayTree, scalar, array}
use Rattle.lra_syntax.specs.{Trees.DeclaratorTree, Trees.DeclarationTree, Views.step_view, declared.tokens.Kind.TheVariants.Name, declared.tokens.Kind.TheVariants.Mark as MarkOf}
use Rattle.lra_syntax.specs.{declared.tokens.Mark.Mark, declared.tokens.Token.Token, declared.trees.Identifier.Identifier, declared.trees.Step.Step}
use Rattle.lra_syntax.specs.declared.tokens.Mark.TheVariants as mark
use Rattle.lra_base.specs.declared.operators.Operator.TheVariants as operator
use Rattle.lra_syntax.specs.declared.trees.Step.TheVariants as step
use Rattle.lra_base.specs.Operators as operators
use Rattle.lra_parser_spec.specs.Reading.{Text, Read, Parse, stop, ◌>>=◌, seq, map_read, tail, expect, take_by, has, one_of}
use Rattle.lra_parser_spec.specs.Statements.{skip, update_operators, update_operator, step_marks, next_step, variable_rest, element_rest, assign_rest, assign_at, begins_type, type_words}
use Rattle.lra_parser_spec.specs.Statements.{declarator_of, declarator_rest, declarator_at, declaration_of, commas, declaration_at}
use Rattle.lra_parser_spec.specs.{Expressions.ended, Expressions.index_at, Tests.first, Tests.is_mark}
use Rattle.lra_parser_spec.proofs.ExactExpressions.{AfterExpr, after_expr, some_expr, Of, IndexText, AtIndex, first_opened, exact_expr, exact_index}
use Rattle.lra_parser_spec.proofs.Forms.{widen, retell, entry, mapped, branch, same_where, exact_take}
use Rattle.lra_parser_spec.proofs.Tokens.{IsInner, table_is, exact_name, exact_operator, some_place, some_name}
use Rattle.lra_parser_spec.proofs.{Chain.regroup, Chain.joined_left, Chain.joined_right, Chain.AfterLast, Exact.Exact, Exact.Any, Exact.Free, Exact.Both, Exact.first_or, Exact.then}
use Rattle.lra_parser_spec.proofs.{ExactLists.exact_skip, ExactLists.AfterCommas, ExactLists.exact_commas, ExactRvalues.AfterRvalue, ExactRvalues.some_rvalue, ExactRvalues.exact_rvalue}
use Rattle.lra_parser_spec.proofs.{ExactShapes.AfterShape, ExactShapes.GivenText, ExactShapes.exact_shape, Marks.is_mark_some, Parts.token, Parts.exact_behind, Parts.exact_ended}

-- operators --------------------------------------------------------------------------------------------------------

abbrev pub mark_of_update : Operator → Mark
mark_of_update op = update_mark (operator_view op)

update_self : (k : Operator) (at : Place) → update_operator (Some (token (mark_of_update k) at)) ≡ Some k
update_self operator.Plus at = refl
update_self operator.Minus at = refl
update_self operator.Times at = refl
update_self operator.Over at = refl
update_self operator.Modulo at = refl

exact_update : (n : ℕ) → Exact n IsInner (take_by update_operator) Any (λ k z. spells (mark_of_update k) z) (λ k z. spells (mark_of_update k) z) Free
exact_update n = exact_operator n mark_of_update update_operators (refl, (refl, (refl, (refl, (refl, tt))))) update_self refl operator.Plus

operator_of : (op : operators.Operator) → (k : Operator) × (operator_view k ≡ op)
operator_of operators.plus = (operator.Plus, refl)
operator_of operators.minus = (operator.Minus, refl)
operator_of operators.times = (operator.Times, refl)
operator_of operators.over = (operator.Over, refl)
operator_of operators.modulo = (operator.Modulo, refl)

abbrev pub mark_of_step : Step → Mark
mark_of_step s = step_mark (step_view s)

step_of : (s : StepTree) → (k : Step) × (step_view k ≡ s)
step_of increment = (step.Increment, refl)
step_of decrement = (step.Decrement, refl)

pub step_self : (k : Step) (at : Place) → next_step (Some (token (mark_of_step k) at)) ≡ Some (k, at)
step_self step.Increment at = refl
step_self step.Decrement at = refl

mapped_some : (at : Place) (m : Option Step) (a : Step × Place) → option_map (λ s. (s, at)) m ≡ Some a → (m ≡ Some a.0) × (at ≡ a.1)
mapped_some at None a e = absurd cc
mapped_some at (Some s) a e = let f : (s, at) ≡ a = cc in (ap (λ (p : Step × Place). Some p.0) f, ap (λ (p : Step × Place). p.1) f)

step_token : (t : Token) (a : Step × Place) → next_step (Some t) ≡ Some a → t ≡ token (mark_of_step a.0) a.1
step_token t a e =
    let m = mapped_some t.place (one_of step_marks (Some t)) a e in
    let k = is_mark_some (mark_of_step a.0) t (table_is mark_of_step step_marks (refl, (refl, tt)) (Some t) a.0 m.0) in
    k ∙ ap (λ (p : Place). token (mark_of_step a.0) p) m.1

abbrev pub StepText : ℕ → Step × Place → Texts
StepText o s z = opens_at (mark_of_step s.0) s.1 o z

exact_step : (n o : ℕ) → o ≤ n → Exact n IsInner (take_by next_step) Any (StepText o) (StepText o) Free
exact_step n o low =
    let t = exact_take n IsInner next_step o low refl (λ t a e f. let k = ap (λ (u : Token). u.kind) (step_token t a e) in let g : MarkOf (mark_of_step a.0) ≡ _ = sym k ∙ f in cc)
    (step.Increment, some_place) (token mark.Increment some_place) refl in
    retell t (StepText o) (λ a z s. s.1 ∙ ap (λ (u : Token). (u, o) ∷ []) (step_token s.0 a s.2)) (λ a z s. (token (mark_of_step a.0) a.1, s, step_self a.0 a.1))

-- assignments ------------------------------------------------------------------------------------------------------

abbrev pub AfterAssign : AssignTree → Option Token → Type 0
AfterAssign (set x e) o = AfterRvalue e o
AfterAssign (set_element x i e) o = AfterRvalue e o
AfterAssign (update x op e) o = AfterExpr e o
AfterAssign (after x s) o = ⊤
AfterAssign (before at s x) o = ⊤

abbrev SetText : ℕ → Identifier → AssignTree → Texts
SetText l x b = opens mark.Assign 0 ⋅ Of (set x) (IsRvalue l) b

abbrev UpdateText : ℕ → Identifier → AssignTree → Texts
UpdateText l x b z = Both (λ op z. spells (mark_of_update op) z) (λ op b. Of (update x (operator_view op)) (IsExpr l) b) b z

abbrev AfterText : Identifier → AssignTree → Texts
AfterText x b z = Of (λ (s : Step × Place). after x (step_view s.0)) (StepText 0) b z

abbrev ElementText : ℕ → Identifier → AssignTree → Texts
ElementText l x b z = Both (IndexText l) (λ i b. opens mark.Assign 0 ⋅ Of (set_element x i) (IsRvalue l) b) b z

-- after the name of a variable
abbrev VariableText : ℕ → Identifier → AssignTree → Texts
VariableText l x b z = SetText l x b z ⊎ (UpdateText l x b z ⊎ AfterText x b z)

-- after the name
abbrev pub RestText : ℕ → Identifier → AssignTree → Texts
RestText l x b z = ElementText l x b z ⊎ VariableText l x b z

update_begins : (l : ℕ) (x : Identifier) (b : AssignTree) (z : Pieces) (o : Option Token) → UpdateText l x b z → has (update_operator (first_or z o)) ≡ true
update_begins l x b z o (op, (u, v, e, s, r)) = first_opened (λ i. has (update_operator i) ≡ true) (mark_of_update op) 0 u v z o e s (λ at. rw (update_self op at) refl)

update_not_set : (op : Operator) (at : Place) → is_mark mark.Assign (Some (token (mark_of_update op) at)) ≡ false
update_not_set operator.Plus at = refl
update_not_set operator.Minus at = refl
update_not_set operator.Times at = refl
update_not_set operator.Over at = refl
update_not_set operator.Modulo at = refl

update_no_set : (l : ℕ) (x : Identifier) (b : AssignTree) (z : Pieces) (o : Option Token) → UpdateText l x b z → is_mark mark.Assign (first_or z o) ≡ false
update_no_set l x b z o (op, (u, v, e, s, r)) = first_opened (λ i. is_mark mark.Assign i ≡ false) (mark_of_update op) 0 u v z o e s (λ at. update_not_set op at)

step_not : (s : Step) (at : Place) → (has (update_operator (Some (token (mark_of_step s) at))) ≡ false) × (is_mark mark.Assign (Some (token (mark_of_step s) at)) ≡ false)
step_not step.Increment at = (refl, refl)
step_not step.Decrement at = (refl, refl)

step_no_update : (x : Identifier) (b : AssignTree) (z : Pieces) (o : Option Token) → AfterText x b z → has (update_operator (first_or z o)) ≡ false
step_no_update x b z o (s, f, e) = rw e (step_not s.0 s.1).0

step_no_set : (x : Identifier) (b : AssignTree) (z : Pieces) (o : Option Token) → AfterText x b z → is_mark mark.Assign (first_or z o) ≡ false
step_no_set x b z o (s, f, e) = rw e (step_not s.0 s.1).1

exact_variable_rest : (n d l : ℕ) → d + l ≡ n → (x : Identifier) → Exact n IsInner (variable_rest d x) Any (VariableText l x) (VariableText l x) AfterAssign
exact_variable_rest n d l h x =
    let sets = exact_behind mark.Assign 0 (omega arith) (mapped (exact_rvalue n d l h) (set x) AfterAssign (λ e o f. f) (λ e o f. f))
    (set x (some_rvalue l).0, (some_rvalue l).1, ((some_rvalue l).0, refl, (some_rvalue l).2)) in
    let updates = then (exact_update n) (λ op. mapped (exact_expr n d l h) (update x (operator_view op)) AfterAssign (λ e o f. f) (λ e o f. f)) (UpdateText l x)
    (λ op b y o s f. tt)
    (λ op z v. (update x (operator_view op) (some_expr l).0, (some_expr l).1, (op, (z, (some_expr l).1, refl, v, ((some_expr l).0, refl, (some_expr l).2)))))
    (λ op b u v s r. (op, (u, v, refl, s, r))) in
    let steps = mapped (exact_step n 0 (omega arith)) (λ (s : Step × Place). after x (step_view s.0)) AfterAssign (λ s o f. tt) (λ s o f. tt) in
    let b1 = branch (λ o. has (update_operator o)) {E = λ o. ⊤ × (is_mark mark.Assign o ≡ false)}
    (entry (widen updates (λ b z. UpdateText l x b z ⊎ AfterText x b z) (λ b z s. inl s)) (λ o. (⊤ × (is_mark mark.Assign o ≡ false)) × (has (update_operator o) ≡ true)) (λ o i. tt))
    (entry (widen steps (λ b z. UpdateText l x b z ⊎ AfterText x b z) (λ b z s. inr s)) (λ o. (⊤ × (is_mark mark.Assign o ≡ false)) × (has (update_operator o) ≡ false)) (λ o i. tt))
    (λ b z o s f. update_begins l x b z o s) (λ b z o s f. step_no_update x b z o s) in
    branch (is_mark mark.Assign) (entry (widen sets (VariableText l x) (λ b z s. inl s)) (λ o. ⊤ × (is_mark mark.Assign o ≡ true)) (λ o i. tt))
    (widen b1 (VariableText l x) (λ b z s. inr s))
    (λ b z o s f. first_opened (λ i. is_mark mark.Assign i ≡ true) mark.Assign 0 s.0 s.1 z o s.2 s.3 (λ at. refl))
    (λ b z o s f. elim s [ inl u ↦ update_no_set l x b z o u | inr u ↦ step_no_set x b z o u ])

update_no_open : (op : Operator) (at : Place) → is_mark mark.OpenParen (Some (token (mark_of_update op) at)) ≡ false
update_no_open operator.Plus at = refl
update_no_open operator.Minus at = refl
update_no_open operator.Times at = refl
update_no_open operator.Over at = refl
update_no_open operator.Modulo at = refl

step_no_open : (s : Step) (at : Place) → is_mark mark.OpenParen (Some (token (mark_of_step s) at)) ≡ false
step_no_open step.Increment at = refl
step_no_open step.Decrement at = refl

-- what holds of each mark after the name of a variable holds of the first token
variable_first : (P : Option Token → Type 0) → ((at : Place) → P (Some (token mark.Assign at))) →
    ((op : Operator) (at : Place) → P (Some (token (mark_of_update op) at))) →
    ((s : Step) (at : Place) → P (Some (token (mark_of_step s) at)))
    → (l : ℕ) (x : Identifier) (b : AssignTree) (u v z : Pieces) (o : Option Token) → z ≡ u ++ v → VariableText l x b u → P (first_or z o)
variable_first P sets updates steps l x b u v z o e (inl (p, q, f, m, r)) = first_opened P mark.Assign 0 p (q ++ v) z o (e ∙ regroup u v p q f) m sets
variable_first P sets updates steps l x b u v z o e (inr (inl (op, (p, q, f, m, r)))) = first_opened P (mark_of_update op) 0 p (q ++ v) z o
    (e ∙ regroup u v p q f) m (updates op)
variable_first P sets updates steps l x b u v z o e (inr (inr (s, g, f))) = rw (e, f) (steps s.0 s.1)

-- what holds of an opening bracket holds of the first token of an index
element_first : (P : Option Token → Type 0) → ((at : Place) → P (Some (token mark.OpenBracket at))) →
    (l : ℕ) (x : Identifier) (b : AssignTree) (u v z : Pieces) (o : Option Token) →
    z ≡ u ++ v → ElementText l x b u → P (first_or z o)
element_first P h l x b u v z o e (i, (p, q, f, (c, d, g, m, t), r)) =
    first_opened P mark.OpenBracket (l + 1) c (d ++ (q ++ v)) z o (e ∙ regroup u v p q f ∙ regroup p (q ++ v) c d g) m h

-- no parenthesis comes after the name
pub rest_no_open : (l : ℕ) (x : Identifier) (b : AssignTree) (u v z : Pieces) (o : Option Token) → z ≡ u ++ v → RestText l x b u → is_mark mark.OpenParen (first_or z o) ≡ false
rest_no_open l x b u v z o e (inl s) = element_first (λ i. is_mark mark.OpenParen i ≡ false) (λ at. refl) l x b u v z o e s
rest_no_open l x b u v z o e (inr s) = variable_first (λ i. is_mark mark.OpenParen i ≡ false) (λ at. refl) update_no_open step_no_open l x b u v z o e s

update_no_bracket : (op : Operator) (at : Place) → is_mark mark.OpenBracket (Some (token (mark_of_update op) at)) ≡ false
update_no_bracket operator.Plus at = refl
update_no_bracket operator.Minus at = refl
update_no_bracket operator.Times at = refl
update_no_bracket operator.Over at = refl
update_no_bracket operator.Modulo at = refl

step_no_bracket : (s : Step) (at : Place) → is_mark mark.OpenBracket (Some (token (mark_of_step s) at)) ≡ false
step_no_bracket step.Increment at = refl
step_no_bracket step.Decrement at = refl

exact_element_rest : (n d l : ℕ) → d + l ≡ n → (x : Identifier) →
    Exact n IsInner (seq (index_at d) (element_rest d x)) AtIndex (ElementText l x) (ElementText l x) AfterAssign
exact_element_rest n d l h x =
    let some = some_rvalue l in
    then (exact_index n d l h)
    (λ i. exact_behind mark.Assign 0 (omega arith) (mapped (exact_rvalue n d l h) (set_element x i) AfterAssign (λ e o f. f) (λ e o f. f))
    (set_element x i some.0, some.1, (some.0, refl, some.2)))
    (ElementText l x)
    (λ i b y o s f. tt)
    (λ i z v. (
      set_element x i some.0,
      (token mark.Assign some_place, 0) ∷ some.1,
      (i, (z, _, refl, v, ((token mark.Assign some_place, 0) ∷ [], some.1, refl, (some_place, refl), (some.0, refl, some.2)))),
    ))
    (λ i b u v s r. (i, (u, v, refl, s, r)))

pub exact_assign_rest : (n d l : ℕ) → d + l ≡ n → (x : Identifier) → Exact n IsInner (assign_rest d x) Any (RestText l x) (RestText l x) AfterAssign
exact_assign_rest n d l h x =
    branch (is_mark mark.OpenBracket) (widen (exact_element_rest n d l h x) (RestText l x) (λ b z s. inl s))
    (entry (widen (exact_variable_rest n d l h x) (RestText l x) (λ b z s. inr s)) (λ o. ⊤ × (is_mark mark.OpenBracket o ≡ false)) (λ o i. tt))
    (λ b z o s f. element_first (λ i. is_mark mark.OpenBracket i ≡ true) (λ at. refl) l x b z [] z o (sym (append-nil z)) s)
    (λ b z o s f. variable_first (λ i. is_mark mark.OpenBracket i ≡ false) (λ at. refl) update_no_bracket step_no_bracket l x b z [] z o (sym (append-nil z)) s)

abbrev pub BeforeText : ℕ → AssignTree → Texts
BeforeText o b z = Both (StepText o) (λ s b. Of (before s.1 (step_view s.0)) (λ x. name x 0) b) b z

abbrev pub NamedText : ℕ → ℕ → AssignTree → Texts
NamedText o l b z = Both (λ x. name x o) (RestText l) b z

pub rest_assign : (o l : ℕ) (x : Identifier) (b : AssignTree) (u v z : Pieces) → z ≡ u ++ v → name x o u → RestText l x b v → IsAssign o l b z
rest_assign o l x b u v z e s (inl (i, (p, q, f, m, (c, d, k, w, (a, g, t))))) = subst (λ (c : AssignTree). IsAssign o l c z) g
    (u, v, e, s, (p, q, f, m, (c, d, k, w, t)))
rest_assign o l x b u v z e s (inr (inl (p, q, f, m, (a, g, t)))) = subst (λ (c : AssignTree). IsAssign o l c z) g (u, v, e, s, (p, q, f, m, t))
rest_assign o l x b u v z e s (inr (inr (inl (op, (p, q, f, m, (a, g, t)))))) = subst (λ (c : AssignTree). IsAssign o l c z) g (u, v, e, s, (p, q, f, m, t))
rest_assign o l x b u v z e s (inr (inr (inr (k, g, t)))) = subst (λ (c : AssignTree). IsAssign o l c z) g (u, v, e, s, (k.1, t))

pub to_assign : (o l : ℕ) (b : AssignTree) (z : Pieces) → BeforeText o b z ⊎ NamedText o l b z → IsAssign o l b z
to_assign o l b z (inl (s, (u, v, e, m, (x, g, t)))) = subst (λ (c : AssignTree). IsAssign o l c z) g (u, v, e, m, t)
to_assign o l b z (inr (x, (u, v, e, s, r))) = rest_assign o l x b u v z e s r

pub from_assign : (o l : ℕ) (b : AssignTree) (z : Pieces) → IsAssign o l b z → BeforeText o b z ⊎ NamedText o l b z
from_assign o l (set x a) z (u, v, e, s, (p, q, f, m, t)) = inr (x, (u, v, e, s, inr (inl (p, q, f, m, (a, refl, t)))))
from_assign o l (set_element x i a) z (u, v, e, s, (p, q, f, m, (c, d, k, w, t))) = inr (x, (u, v, e, s, inl (i, (p, q, f, m, (c, d, k, w, (a, refl, t))))))
from_assign o l (update x op a) z (u, v, e, s, (p, q, f, m, t)) =
    let c = operator_of op in
    inr (
      x,
      (
        u,
        v,
        e,
        s,
        inr (inr (inl (
          c.0,
          (
            p,
            q,
            f,
            subst (λ (i : operators.Operator). spells (update_mark i) p) (sym c.1) m,
            (a, ap (λ (i : operators.Operator). update x i a) c.1, t),
          ),
        ))),
      ),
    )
from_assign o l (after x s) z (u, v, e, m, (at, t)) =
    let c = step_of s in
    inr (
      x,
      (
        u,
        v,
        e,
        m,
        inr (inr (inr
            ((c.0, at), ap (λ (i : StepTree). after x i) c.1, subst (λ (i : StepTree). opens_at (step_mark i) at 0 v) (sym c.1) t))),
      ),
    )
from_assign o l (before at s x) z (u, v, e, m, t) =
    let c = step_of s in
    inl ((c.0, at), (u, v, e, subst (λ (i : StepTree). opens_at (step_mark i) at o u) (sym c.1) m, (x, ap (λ (i : StepTree). before at i x) c.1, t)))

before_begins : (o : ℕ) (b : AssignTree) (z : Pieces) (k : Option Token) → BeforeText o b z → has (next_step (first_or z k)) ≡ true
before_begins o b z k (s, (u, v, e, m, r)) = rw (e, m) (rw (step_self s.0 s.1) refl)

named_begins : (o l : ℕ) (b : AssignTree) (z : Pieces) (k : Option Token) → NamedText o l b z → has (next_step (first_or z k)) ≡ false
named_begins o l b z k (x, (u, v, e, s, r)) = rw (e, s) refl

pub some_assign : (o l : ℕ) → (a : AssignTree) × (x : Pieces) × IsAssign o l a x
some_assign o l = (after some_name increment, _, (_, _, refl, refl, (some_place, refl)))

pub exact_assign : (n d l o : ℕ) → d + l ≡ n → o ≤ n → Exact n IsInner (assign_at d) Any (IsAssign o l) (IsAssign o l) AfterAssign
exact_assign n d l o h low =
    let befores = then (exact_step n o low) (λ s. mapped (exact_name n 0 (omega arith)) (before s.1 (step_view s.0)) AfterAssign (λ x k f. tt) (λ x k f. tt)) (BeforeText o)
    (λ s b y k t f. tt)
    (λ s z v. (before s.1 (step_view s.0) some_name, _, (s, (z, _, refl, v, (some_name, refl, refl)))))
    (λ s b u v t r. (s, (u, v, refl, t, r))) in
    let named = then (exact_name n o low) (exact_assign_rest n d l h) (NamedText o l)
    (λ x b y k s f. tt)
    (λ x z v. (after x increment, _, (x, (z, _, refl, v, inr (inr (inr ((step.Increment, some_place), refl, refl)))))))
    (λ x b u v s r. (x, (u, v, refl, s, r))) in
    let t = branch (λ k. has (next_step k)) (entry (widen befores (λ b z. BeforeText o b z ⊎ NamedText o l b z) (λ b z s. inl s)) (λ k. ⊤ × (has (next_step k) ≡ true)) (λ k i. tt))
    (entry (widen named (λ b z. BeforeText o b z ⊎ NamedText o l b z) (λ b z s. inr s)) (λ k. ⊤ × (has (next_step k) ≡ false)) (λ k i. tt))
    (λ b z k s f. before_begins o b z k s) (λ b z k s f. named_begins o l b z k s) in
    retell t (IsAssign o l) (λ b z s. to_assign o l b z s) (λ b z s. from_assign o l b z s)

-- a text that begins with a mark at a place
pub placed_first : (P : Option Token → Type 0) (m : Mark) (at : Place) (o : ℕ) (x y z : Pieces) (k : Option Token) → z ≡ x ++ y → opens_at m at o x → P (Some (token m at)) → P (first_or z k)
placed_first P m at o x y z k e s f = subst (λ (w : Pieces). P (first_or w k)) (sym (e ∙ ap (λ (v : Pieces). v ++ y) s)) f

pub assign_no_mark : (o l : ℕ) (a : AssignTree) (x y z : Pieces) (k : Option Token) → z ≡ x ++ y → IsAssign o l a x → (P : Option Token → Type 0) →
    ((i : Identifier) → P (Some (record { kind = Name i.word; place = i.place })))
    → ((s : Step) (at : Place) → P (Some (token (mark_of_step s) at))) → P (first_or z k)
assign_no_mark o l a x y z k e s P named stepped = elim (from_assign o l a x s) [
  | inl (j, (u, v, f, m, r)) ↦ subst (λ (w : Pieces). P (first_or w k)) (sym (e ∙ regroup x y u v f ∙ ap (λ (w : Pieces). w ++ (v ++ y)) m)) (stepped j.0 j.1)
  | inr (i, (u, v, f, m, r)) ↦ subst (λ (w : Pieces). P (first_or w k)) (sym (e ∙ regroup x y u v f ∙ ap (λ (w : Pieces). w ++ (v ++ y)) m)) (named i)
]

pub assign_stops : (a : AssignTree) (at : Place) → AfterAssign a (Some (token mark.Semicolon at))
assign_stops (set x (expression e)) at = (after_expr e _ refl refl refl, (λ i. refl))
assign_stops (set x (result c)) at = tt
assign_stops (set_element x i (expression e)) at = (after_expr e _ refl refl refl, (λ i. refl))
assign_stops (set_element x i (result c)) at = tt
assign_stops (update x op e) at = after_expr e _ refl refl refl
assign_stops (after x s) at = tt
assign_stops (before p s x) at = tt

pub assign_closes : (a : AssignTree) (at : Place) → AfterAssign a (Some (token mark.CloseParen at))
assign_closes (set x (expression e)) at = (after_expr e _ refl refl refl, (λ i. refl))
assign_closes (set x (result c)) at = tt
assign_closes (set_element x i (expression e)) at = (after_expr e _ refl refl refl, (λ i. refl))
assign_closes (set_element x i (result c)) at = tt
assign_closes (update x op e) at = after_expr e _ refl refl refl
assign_closes (after x s) at = tt
assign_closes (before p s x) at = tt

-- declarations -----------------------------------------------------------------------------------------------------

twice : {A : Type 0} (r : Read (Unit {0})) (f : Text → Text) (p : NumberType → Parse A) → ((r >>= (λ x. Ok (Long, f x.1))) >>= (λ x. p x.0 x.1)) ≡ (r >>= (λ x. p Long (f x.1)))
twice (Ok x) f p = refl
twice (Err e) f p = refl

type_out : (R : Texts) (z : Pieces) → (opens mark.Long 0 ⋅ ((spells mark.Long ∣ empty) ⋅ ((spells mark.Int ∣ empty) ⋅ R))) z → (IsType Long ⋅ R) z
type_out R z (x, y, e, s, t) = joined_left (opens mark.Long 0) ((spells mark.Long ∣ empty) ⋅ (spells mark.Int ∣ empty)) R z
    (x, y, e, s, joined_left (spells mark.Long ∣ empty) (spells mark.Int ∣ empty) R y t)

type_in : (R : Texts) (z : Pieces) → (IsType Long ⋅ R) z → (opens mark.Long 0 ⋅ ((spells mark.Long ∣ empty) ⋅ ((spells mark.Int ∣ empty) ⋅ R))) z
type_in R z s = let k = joined_right (opens mark.Long 0) ((spells mark.Long ∣ empty) ⋅ (spells mark.Int ∣ empty)) R z s in
    (k.0, k.1, k.2, k.3, joined_right (spells mark.Long ∣ empty) (spells mark.Int ∣ empty) R k.1 k.4)

skipped_first : {A : Type 0} (S : A → Texts) (F : A → Option Token → Type 0) (m k : Mark) → ((at : Place) → is_mark m (Some (token k at)) ≡ false) →
    (begins : (a : A) (x : Pieces) (o : Option Token) → S a x → (x ≡ [] → F a o) → is_mark m (first_or x o) ≡ false)
    → (a : A) (x : Pieces) (o : Option Token) → ((spells k ∣ empty) ⋅ S a) x → (x ≡ [] → F a o) → is_mark m (first_or x o) ≡ false
skipped_first S F m k other begins a x o (u, v, e, inl s, t) f = first_opened (λ i. is_mark m i ≡ false) k 0 u v x o e s other
skipped_first S F m k other begins a x o (u, v, e, inr s, t) f =
    let same : x ≡ v = e ∙ ap (λ (w : Pieces). w ++ v) s in
    subst (λ (w : Pieces). is_mark m (first_or w o) ≡ false) (sym same) (begins a v o t (λ i. f (same ∙ i)))

-- a type, and what comes after it
abbrev pub TypedText : {A : Type 0} → (NumberType → A → Pieces → Type 0) → A → Texts
TypedText S b z = (t : NumberType) × (IsType t ⋅ S t b) z

-- `int`, or `long` with what may come after it
abbrev EitherType : {A : Type 0} → (NumberType → A → Pieces → Type 0) → A → Texts
EitherType S b z = (opens mark.Int 0 ⋅ S Int b) z ⊎ (opens mark.Long 0 ⋅ ((spells mark.Long ∣ empty) ⋅ ((spells mark.Int ∣ empty) ⋅ S Long b))) z

to_typed : {A : Type 0} (S : NumberType → A → Pieces → Type 0) (b : A) (z : Pieces) → EitherType S b z → TypedText S b z
to_typed S b z (inl s) = (Int, s)
to_typed S b z (inr s) = (Long, type_out (S Long b) z s)

from_typed : {A : Type 0} (S : NumberType → A → Pieces → Type 0) (b : A) (z : Pieces) → TypedText S b z → EitherType S b z
from_typed S b z (Int, s) = inl s
from_typed S b z (Long, s) = inr (type_in (S Long b) z s)

pub type_first : (t : NumberType) (x y z : Pieces) (o : Option Token) (P : Option Token → Type 0) → z ≡ x ++ y → IsType t x → ((at : Place) → P (Some (token mark.Long at))) →
    ((at : Place) → P (Some (token mark.Int at))) → P (first_or z o)
type_first Int x y z o P e s long int = first_opened P mark.Int 0 x y z o e s int
type_first Long x y z o P e (a, b, f, s, t) long int = first_opened P mark.Long 0 a (b ++ y) z o (e ∙ regroup x y a b f) s long

abbrev LongBegins : {A : Type 0} → Mark → (NumberType → A → Pieces → Type 0) → (A → Option Token → Type 0) → Type 0
LongBegins {A} m S F = (a : A) (x : Pieces) (o : Option Token) → S Long a x → (x ≡ [] → F a o) → is_mark m (first_or x o) ≡ false

valued : {A : Type 0} (b : Bool) (T : Text) (p : NumberType → Parse A) →
    ((let r : Read NumberType = cond b (Ok (Int, tail T)) (stop Syntax T) in r) >>= (λ x. p x.0 x.1)) ≡
    ((let r : Read (Unit {0}) = cond b (Ok (tt {0}, tail T)) (stop Syntax T) in r) >>= (λ x. p Int x.1))
valued true T p = refl
valued false T p = refl

either_word : {A : Type 0} (b : Bool) (r q : Read NumberType) (f : NumberType × Text → Read A) → (cond b r q >>= f) ≡ cond b (r >>= f) (q >>= f)
either_word true r q f = refl
either_word false r q f = refl

sides_same : {A : Type 0} (b : Bool) (r s q u : Read A) → r ≡ s → q ≡ u → cond b r q ≡ cond b s u
sides_same true r s q u e f = e
sides_same false r s q u e f = f

-- after a type
pub exact_type : {n : ℕ} {A : Type 0} {F : A → Option Token → Type 0} (p : NumberType → Parse A) (S : NumberType → A → Pieces → Type 0)
    → ((t : NumberType) → Exact n IsInner (p t) Any (S t) (S t) F) → ((t : NumberType) → (a : A) × (x : Pieces) × S t a x)
    → LongBegins mark.Int S F → LongBegins mark.Long S F → Exact n IsInner (seq type_words p) Any (TypedText S) (TypedText S) F
exact_type {n} {A} {F = F} p S each every no_int no_long =
    let some : (a : A) × (x : Pieces) × S Long a x = every Long in
    let ints = exact_skip mark.Int (each Long) some no_int in
    let some_int : (a : A) × (x : Pieces) × ((spells mark.Int ∣ empty) ⋅ S Long a) x = (some.0, some.1, ([], some.1, refl, inr refl, some.2)) in
    let longs = exact_skip mark.Long ints some_int (λ a x o s f. skipped_first (S Long) F mark.Long mark.Int (λ at. refl) no_long a x o s f) in
    let some_long : (a : A) × (x : Pieces) × ((spells mark.Long ∣ empty) ⋅ ((spells mark.Int ∣ empty) ⋅ S Long a)) x = (some.0, some.1, ([], some.1, refl, inr refl, some_int.2)) in
    let long = exact_behind mark.Long 0 (omega arith) longs some_long in
    let int = exact_behind mark.Int 0 (omega arith) (each Int) (every Int) in
    let W = EitherType S in
    let b = branch (is_mark mark.Int) (entry (widen int W (λ b z s. inl s)) (λ o. ⊤ × (is_mark mark.Int o ≡ true)) (λ o i. tt))
    (entry (widen long W (λ b z s. inr s)) (λ o. ⊤ × (is_mark mark.Int o ≡ false)) (λ o i. tt))
    (λ b z o s f. first_opened (λ i. is_mark mark.Int i ≡ true) mark.Int 0 s.0 s.1 z o s.2 s.3 (λ at. refl))
    (λ b z o s f. first_opened (λ i. is_mark mark.Int i ≡ false) mark.Long 0 s.0 s.1 z o s.2 s.3 (λ at. refl)) in
    let rest : Text → Text = λ T. skip mark.Int (skip mark.Long T) in
    let whole = same_where b (seq type_words p) (λ T i. sym (
    either_word (is_mark mark.Int (first T)) (expect mark.Int Int T) (expect mark.Long (tt {0}) T >>= (λ x. Ok (Long, rest x.1))) (λ x. p x.0 x.1) ∙
    sides_same (is_mark mark.Int (first T)) _ _ _ _ (valued (is_mark mark.Int (first T)) T p) (twice (expect mark.Long (tt {0}) T) rest p))) in
    retell whole (TypedText S) (λ b z s. to_typed S b z s) (λ b z s. from_typed S b z s)

abbrev AfterDeclarator : DeclaratorTree → Option Token → Type 0
AfterDeclarator d o = AfterShape AfterRvalue d.shape o

given_out : (l : ℕ) (m : Option RvalueTree) (z : Pieces) → GivenText (IsRvalue l) m z → IsGiven l m z
given_out l m z (inl (u, v, e, s, (a, f, t))) = subst (λ (c : Option RvalueTree). IsGiven l c z) f (u, v, e, s, t)
given_out l m z (inr (e, f)) = subst (λ (c : Option RvalueTree). IsGiven l c z) (sym e) f

given_in : (l : ℕ) (m : Option RvalueTree) (z : Pieces) → IsGiven l m z → GivenText (IsRvalue l) m z
given_in l None z s = inr (refl, s)
given_in l (Some a) z (u, v, e, s, t) = inl (u, v, e, s, (a, refl, t))

-- after the name
abbrev ShapedText : ℕ → Identifier → DeclaratorTree → Texts
ShapedText l x b = Of (declarator_of x) (IsScalarOrArray (IsGiven l)) b

exact_declarator_rest : (n d l : ℕ) → d + l ≡ n → (x : Identifier) → Exact n IsInner (declarator_rest d x) Any (ShapedText l x) (ShapedText l x) AfterDeclarator
exact_declarator_rest n d l h x = mapped (exact_shape (exact_rvalue n d l h) (some_rvalue l) (IsGiven l) (given_out l) (given_in l)) (declarator_of x)
    AfterDeclarator (λ s o f. f) (λ s o f. f)

to_declarator : (l : ℕ) (b : DeclaratorTree) (z : Pieces) → Both (λ x. name x 0) (ShapedText l) b z → IsDeclarator l b z
to_declarator l b z (x, (u, v, e, s, (k, g, t))) = subst (λ (c : DeclaratorTree). IsDeclarator l c z) g (u, v, e, s, t)

from_declarator : (l : ℕ) (b : DeclaratorTree) (z : Pieces) → IsDeclarator l b z → Both (λ x. name x 0) (ShapedText l) b z
from_declarator l b z (u, v, e, s, t) = (b.name, (u, v, e, s, (b.shape, refl, t)))

some_declarator : (l : ℕ) → (d : DeclaratorTree) × (x : Pieces) × IsDeclarator l d x
some_declarator l = (declarator_of some_name (scalar None), _, (_, _, refl, refl, refl))

exact_declarator : (n d l : ℕ) → d + l ≡ n → Exact n IsInner (declarator_at d) Any (IsDeclarator l) (IsDeclarator l) AfterDeclarator
exact_declarator n d l h =
    let t = then (exact_name n 0 (omega arith)) (exact_declarator_rest n d l h) (λ b z. Both (λ x. name x 0) (ShapedText l) b z)
    (λ x b y o s f. tt) (λ x z v. (declarator_of x (scalar None), [], (x, (z, [], refl, v, (scalar None, refl, refl)))))
    (λ x b u v s r. (x, (u, v, refl, s, r))) in
    retell t (IsDeclarator l) (λ b z s. to_declarator l b z s) (λ b z s. from_declarator l b z s)

abbrev Declared : ℕ → NumberType → DeclarationTree → Texts
Declared l k b = Of (declaration_of k) (λ ds. separated (IsDeclarator l) (ds.0 ∷ ds.1)) b

abbrev DeclaredEnd : ℕ → NumberType → DeclarationTree → Texts
DeclaredEnd l k b = Declared l k b ⋅ spells mark.Semicolon

to_declaration : (l : ℕ) (b : DeclarationTree) (z : Pieces) → TypedText (DeclaredEnd l) b z → IsDeclaration l b z
to_declaration l b z (k, (x, y, e, s, (u, v, f, (ds, g, t), m))) = subst (λ (c : DeclarationTree). IsDeclaration l c z) g (x, y, e, s, (u, v, f, t, m))

from_declaration : (l : ℕ) (b : DeclarationTree) (z : Pieces) → IsDeclaration l b z → TypedText (DeclaredEnd l) b z
from_declaration l b z (x, y, e, s, (u, v, f, t, m)) = (b.number_type, (x, y, e, s, (u, v, f, ((b.first, b.rest), refl, t), m)))

shape_stops : (s : ScalarOrArrayTree RvalueTree) (at : Place) → AfterShape AfterRvalue s (Some (token mark.Semicolon at)) × AfterShape AfterRvalue s
    (Some (token mark.Comma at))
shape_stops (array n) at = (tt, tt)
shape_stops (scalar None) at = ((refl, refl), (refl, refl))
shape_stops (scalar (Some (expression e))) at = ((after_expr e _ refl refl refl, (λ i. refl)), (after_expr e _ refl refl refl, (λ i. refl)))
shape_stops (scalar (Some (result c))) at = (tt, tt)

last_stops : (ds : List DeclaratorTree) (d : DeclaratorTree) (at : Place) → AfterLast AfterDeclarator (AfterDeclarator d) ds (Some (token mark.Semicolon at))
last_stops [] d at = (shape_stops d.shape at).0
last_stops (e ∷ ds) d at = last_stops ds e at

declared_begins : (l : ℕ) (m : Mark) (b : DeclarationTree) (x : Pieces) (o : Option Token) → DeclaredEnd l Long b x → is_mark m (first_or x o) ≡ false
declared_begins l m b x o (u, v, f, (ds, g, (p, q, i, (a, c, j, s, t), r)), w) = rw (f, i, j, s) refl

pub declaration_first : (l : ℕ) (d : DeclarationTree) (z : Pieces) (k : Option Token) → IsDeclaration l d z → begins_type (first_or z k) ≡ true
declaration_first l d z k (x, y, e, s, t) = type_first d.number_type x y z k (λ i. begins_type i ≡ true) e s (λ at. refl) (λ at. refl)

pub exact_declaration : (n d l : ℕ) → d + l ≡ n → Exact n IsInner (declaration_at d) Any (IsDeclaration l) (IsDeclaration l) Free
exact_declaration n d l h =
    let list = exact_commas (exact_declarator n d l h) (some_declarator l) (λ a at. (shape_stops a.shape at).1) in
    let made = λ (k : NumberType). mapped list (declaration_of k) (λ b o. AfterCommas AfterDeclarator (b.first, b.rest) o) (λ i o f. f) (λ i o f. f) in
    let whole = λ (k : NumberType). exact_ended mark.Semicolon (made k) (λ b at. (last_stops b.rest b.first at, refl)) in
    let some = some_declarator l in
    let t = exact_type (λ k. ended mark.Semicolon (map_read (declaration_of k) (commas (declarator_at d)))) (DeclaredEnd l) whole (λ k. (
      declaration_of k (some.0, []),
      _,
      (
        _,
        _,
        refl,
        ((some.0, []), refl, (_, _, refl, some.2, refl)),
        (some_place, refl),
      ),
    )) (λ b x o s f. declared_begins l mark.Int b x o s)
    (λ b x o s f. declared_begins l mark.Long b x o s) in
    retell t (IsDeclaration l) (λ b z s. to_declaration l b z s) (λ b z s. from_declaration l b z s)
