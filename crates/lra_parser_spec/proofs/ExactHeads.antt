-- The readers of parts that may be missing are exact: of what stands in the head of a `for`, and of what a `return` gives.
use Rattle.std.proofs.Common.{◌≡◌, ℕ, ◌+◌, ◌≤◌, true, false, ◌⊎◌, [], ◌++◌, Option, Some, None, refl, sym, ap, subst, ◌∙◌, append_assoc, arith, inl, inr}
use Rattle.std.proofs.lemmas.List.{append-nil}
use Rattle.std.specs.Bool.{⊤}
use Rattle.lra_base.specs.declared.refusals.Place.{Place}
use Rattle.lra_syntax.specs.Grammar.{IsTest, IsConjunction, IsCond, IsRvalue, IsAssign, IsDeclaration, IsInit, IsForTest, IsForStep, IsReturned}
use Rattle.lra_syntax.specs.Trees.{TestTree, opposite, value, compare, group_of, ConjunctionTree, test, and, CondTree, conjunction, or, RvalueTree, AssignTree, InitTree, no_init, declared, assigned}
use Rattle.lra_syntax.specs.{Texts.Pieces, Texts.Texts, Texts.◌⋅◌, Texts.empty, Texts.opens, Texts.mark as spells, declared.tokens.Mark.Mark, declared.tokens.Token.Token, declared.trees.Step.Step}
use Rattle.lra_syntax.specs.declared.tokens.Mark.TheVariants as mark
use Rattle.lra_syntax.specs.declared.trees.Step.TheVariants as step
use Rattle.lra_parser_spec.specs.{Reading.Parse, Statements.begins_type, Statements.rvalue_at, Statements.up_to, Statements.init_of, Statements.init_at, Statements.for_head_at, Tests.is_mark}
use Rattle.lra_parser_spec.proofs.Exact.{Exact, Any, Free, Both, first_or, first_or-both, then}
use Rattle.lra_parser_spec.proofs.ExactAssignments.{mark_of_step, assign_no_mark, assign_stops, assign_closes, exact_assign, declaration_first, exact_declaration}
use Rattle.lra_parser_spec.proofs.ExactRvalues.{Inside, front, expr_inside, rvalue_stops, rvalue_no_stop, exact_rvalue}
use Rattle.lra_parser_spec.proofs.{Chain.regroup, ExactConditions.cond_stops, ExactConditions.exact_cond, ExactExpressions.Of, ExactExpressions.first_opened, Forms.rename, Forms.widen, Forms.retell}
use Rattle.lra_parser_spec.proofs.{Forms.entry, Forms.mapped, Forms.branch, Forms.exact_done, Marks.is_mark_self, Parts.token, Parts.exact_behind, Parts.exact_ended, Tokens.IsInner, Tokens.some_place}

-- first tokens -------------------------------------------------------------------------------------------------------

test_inside : (l : ℕ) (a : TestTree) (z : Pieces) (k : Option Token) → IsTest l a z → Inside (first_or z k)
test_inside l (opposite a) z k (x, y, e, s, t) = first_opened Inside mark.Not (l + 1) x y z k e s (λ at. (refl, refl))
test_inside l (value a) z k h = expr_inside l a z k h
test_inside l (compare a op b) z k (x, y, e, h, s) = front x y z k e (expr_inside l a x (first_or y k) h)
test_inside l (group_of c) z k ((x, y, e, s, t), h) = first_opened Inside mark.OpenParen (l + 1) x y z k e s (λ at. (refl, refl))

conjunction_inside : (l : ℕ) (a : ConjunctionTree) (z : Pieces) (k : Option Token) → IsConjunction l a z → Inside (first_or z k)
conjunction_inside l (test t) z k h = test_inside l t z k h
conjunction_inside l (and c t) z k (x, y, e, h, s) = front x y z k e (conjunction_inside l c x (first_or y k) h)

cond_inside : (l : ℕ) (a : CondTree) (z : Pieces) (k : Option Token) → IsCond l a z → Inside (first_or z k)
cond_inside l (conjunction c) z k h = conjunction_inside l c z k h
cond_inside l (or c d) z k (x, y, e, h, s) = front x y z k e (cond_inside l c x (first_or y k) h)

step_is_not : (m : Mark) → is_mark m (Some (token mark.Increment some_place)) ≡ false → is_mark m (Some (token mark.Decrement some_place)) ≡ false → (s : Step) (at : Place) →
    is_mark m (Some (token (mark_of_step s) at)) ≡ false
step_is_not m e f step.Increment at = e
step_is_not m e f step.Decrement at = f

assign_is_not : (m : Mark) → is_mark m (Some (token mark.Increment some_place)) ≡ false → is_mark m (Some (token mark.Decrement some_place)) ≡ false →
    (l : ℕ) (a : AssignTree) (z : Pieces) (k : Option Token) → IsAssign 0 l a z → is_mark m (first_or z k) ≡ false
assign_is_not m e f l a z k s = assign_no_mark 0 l a z [] z k (sym (append-nil z)) s (λ i. is_mark m i ≡ false) (λ x. refl) (step_is_not m e f)

-- a part up to a mark, or the mark alone --------------------------------------------------------------------------------

abbrev pub OptionText : {A : Type 0} → (A → Texts) → Option A → Texts
OptionText S None = empty
OptionText S (Some a) = S a

abbrev AfterOption : {A : Type 0} → Mark → (A → Option Token → Type 0) → Option A → Option Token → Type 0
AfterOption m F None o = is_mark m o ≡ true
AfterOption m F (Some a) o = F a o

none_ends : {A : Type 0} (m : Mark) (F : A → Option Token → Type 0) (b : Option A) (z : Pieces) (o : Option Token) → b ≡ None → z ≡ [] → (z ≡ [] → AfterOption m F b o) →
    is_mark m (first_or z o) ≡ true
none_ends {A} m F b z o e f h = rw f (let g : AfterOption m F None o = subst (λ (c : Option A). AfterOption m F c o) e (h f) in g)

abbrev NoneOrSome : {A : Type 0} → (A → Texts) → Option A → Texts
NoneOrSome S b z = ((b ≡ None) × (z ≡ [])) ⊎ Of Some S b z

to_option : {A : Type 0} (S : A → Texts) (b : Option A) (z : Pieces) → NoneOrSome S b z → OptionText S b z
to_option {A} S b z (inl (e, f)) = subst (λ (c : Option A). OptionText S c z) (sym e) f
to_option {A} S b z (inr (a, g, s)) = subst (λ (c : Option A). OptionText S c z) g s

from_option : {A : Type 0} (S : A → Texts) (b : Option A) (z : Pieces) → OptionText S b z → NoneOrSome S b z
from_option S None z s = inl (refl, s)
from_option S (Some a) z s = inr (a, refl, s)

option_ends : {A : Type 0} (m : Mark) (F : A → Option Token → Type 0) → ((a : A) (at : Place) → F a (Some (token m at))) → (b : Option A) (at : Place) → AfterOption m F b (Some (token m at))
option_ends m F fine None at = is_mark_self m (token m at) refl
option_ends m F fine (Some a) at = fine a at

pub exact_up_to : {n : ℕ} {A : Type 0} {p : Parse A} {S : A → Pieces → Type 0} {F : A → Option Token → Type 0} (m : Mark) → Exact n IsInner p Any S S F
    → ((a : A) (z : Pieces) (o : Option Token) → S a z → is_mark m (first_or z o) ≡ false) → ((a : A) (at : Place) → F a (Some (token m at)))
    → Exact n IsInner (up_to m p) Any (λ b. OptionText S b ⋅ spells m) (λ b. OptionText S b ⋅ spells m) Free
exact_up_to {n} {A} {p} {S = S} {F = F} m P inside fine =
    let t = branch (is_mark m) (exact_done n IsInner None (λ o. ⊤ × (is_mark m o ≡ true)) (NoneOrSome S) (AfterOption m F) (λ o i. i.1))
    (entry (widen (mapped P Some (AfterOption m F) (λ a o f. f) (λ a o f. f)) (NoneOrSome S) (λ b z s. inr s)) (λ o. ⊤ × (is_mark m o ≡ false)) (λ o i. tt))
    (λ b z o s f. none_ends m F b z o s.0 s.1 f) (λ b z o s f. inside s.0 z o s.2) in
    exact_ended m (retell t (OptionText S) (to_option S) (from_option S)) (option_ends m F fine)

-- what a `return` gives -------------------------------------------------------------------------------------------------

pub exact_returned : (n d l : ℕ) → d + l ≡ n → Exact n IsInner (up_to mark.Semicolon (rvalue_at d)) Any (λ e. OptionText (IsRvalue l) e ⋅ spells mark.Semicolon)
    (λ e. OptionText (IsRvalue l) e ⋅ spells mark.Semicolon) Free
exact_returned n d l h = exact_up_to mark.Semicolon (exact_rvalue n d l h) (rvalue_no_stop l) rvalue_stops

pub to_returned : (l : ℕ) (e : Option RvalueTree) (z : Pieces) → OptionText (IsRvalue l) e z → IsReturned l e z
to_returned l None z s = s
to_returned l (Some a) z s = s

pub from_returned : (l : ℕ) (e : Option RvalueTree) (z : Pieces) → IsReturned l e z → OptionText (IsRvalue l) e z
from_returned l None z s = s
from_returned l (Some a) z s = s

-- the head of a `for` ---------------------------------------------------------------------------------------------------

abbrev pub ForHeadTree : Type 0
ForHeadTree = InitTree × Option CondTree × Option AssignTree

abbrev FirstAssign : ℕ → Option AssignTree → Texts
FirstAssign l i = OptionText (IsAssign 0 l) i ⋅ spells mark.Semicolon

first_assign : (l : ℕ) (i : Option AssignTree) (z : Pieces) → FirstAssign l i z → IsInit l (init_of i) z
first_assign l None z (x, y, e, s, m) = subst (λ (w : Pieces). spells mark.Semicolon w) (sym (e ∙ ap (λ (w : Pieces). w ++ y) s)) m
first_assign l (Some a) z s = s

neither_type : (o : Option Token) → is_mark mark.Int o ≡ false → is_mark mark.Long o ≡ false → begins_type o ≡ false
neither_type o e f = rw (e, f) refl

first_no_type : (l : ℕ) (i : Option AssignTree) (z : Pieces) (k : Option Token) → FirstAssign l i z → begins_type (first_or z k) ≡ false
first_no_type l None z k s = let w : spells mark.Semicolon z = first_assign l None z s in first_opened (λ o. begins_type o ≡ false) mark.Semicolon 0 z [] z k (sym (append-nil z)) w (λ at. refl)
first_no_type l (Some a) z k (x, y, e, s, m) =
    let other = neither_type (first_or x (first_or y k)) (assign_is_not mark.Int refl refl l a x (first_or y k) s) (assign_is_not mark.Long refl refl l a x (first_or y k) s) in
    subst (λ (w : Pieces). begins_type (first_or w k) ≡ false) (sym e) (subst (λ (o : Option Token). begins_type o ≡ false) (sym (first_or-both x y k)) other)

init_sides : (l : ℕ) (i : InitTree) (z : Pieces) → IsInit l i z → Of declared (IsDeclaration l) i z ⊎ Of init_of (FirstAssign l) i z
init_sides l no_init z s = inr (None, refl, ([], z, refl, refl, s))
init_sides l (declared d) z s = inl (d, refl, s)
init_sides l (assigned a) z s = inr (Some a, refl, s)

exact_init : (n d l : ℕ) → d + l ≡ n → Exact n IsInner (init_at d) Any (IsInit l) (IsInit l) Free
exact_init n d l h =
    let low : 0 ≤ n = omega arith in
    let W = IsInit l in
    let D = entry (mapped (exact_declaration n d l h) declared Free (λ i o f. tt) (λ i o f. tt)) (λ k. ⊤ × (begins_type k ≡ true)) (λ k i. tt) in
    let A = mapped (exact_up_to mark.Semicolon (exact_assign n d l 0 h low) (assign_is_not mark.Semicolon refl refl l) assign_stops) init_of Free (λ i o f. tt) (λ i o f. tt) in
    let b = branch begins_type (widen D W (λ i z s. subst (λ (c : InitTree). W c z) s.1 s.2))
    (entry (widen A W (λ i z s. subst (λ (c : InitTree). W c z) s.1 (first_assign l s.0 z s.2))) (λ k. ⊤ × (begins_type k ≡ false)) (λ k i. tt))
    (λ i z k s f. declaration_first l s.0 z k s.2)
    (λ i z k s f. first_no_type l s.0 z k s.2) in
    rename b W (λ i z s. elim s [ inl k ↦ subst (λ (c : InitTree). W c z) k.1 k.2 | inr k ↦ subst (λ (c : InitTree). W c z) k.1 (first_assign l k.0 z k.2) ]) (λ i z s. init_sides l i z s)

abbrev pub StepText : ℕ → InitTree → Option CondTree → ForHeadTree → Texts
StepText l i c h = Of (λ (e : Option AssignTree). (i, c, e)) (λ e. OptionText (IsAssign 0 l) e ⋅ spells mark.CloseParen) h

abbrev pub TestText : ℕ → InitTree → ForHeadTree → Texts
TestText l i h z = Both (λ c. OptionText (IsCond l) c ⋅ spells mark.Semicolon) (StepText l i) h z

abbrev pub HeadText : ℕ → ForHeadTree → Texts
HeadText l h = opens mark.OpenParen 0 ⋅ (λ z. Both (IsInit l) (TestText l) h z)

-- `(;;)`
pub some_head : (l : ℕ) → (h : ForHeadTree) × (z : Pieces) × HeadText l h z
some_head l = (
  (no_init, None, None),
  _,
  (
    _,
    _,
    refl,
    (some_place, refl),
    (
      no_init,
      (
        _,
        _,
        refl,
        (some_place, refl),
        (None, (_, _, refl, ([], _, refl, refl, (some_place, refl)), (None, refl, ([], _, refl, refl, (some_place, refl))))),
      ),
    ),
  ),
)

pub exact_head : (n d l : ℕ) → d + l ≡ n → Exact n IsInner (for_head_at d) Any (HeadText l) (HeadText l) Free
exact_head n d l h =
    let low : 0 ≤ n = omega arith in
    let A = exact_assign n d l 0 h low in
    let steps = λ (i : InitTree) (c : Option CondTree). mapped (exact_up_to mark.CloseParen A (assign_is_not mark.CloseParen refl refl l) assign_closes) (λ (e : Option AssignTree). (i, c, e)) Free
    (λ e o f. tt) (λ e o f. tt) in
    let tests = λ (i : InitTree). then (exact_up_to mark.Semicolon (exact_cond n d l h) (λ c z o s. (cond_inside l c z o s).0) cond_stops) (steps i) (TestText l i)
    (λ c b y o s f. tt)
    (λ c z v. ((i, c, None), _, (c, (z, _, refl, v, (None, refl, ([], _, refl, refl, (some_place, refl)))))))
    (λ c b x y s r. (c, (x, y, refl, s, r))) in
    let all = then (exact_init n d l h) tests (λ b z. Both (IsInit l) (TestText l) b z)
    (λ i b y o s f. tt)
    (λ i z v. ((i, None, None), _, (i, (z, _, refl, v, (None, (_, _, refl, ([], _, refl, refl, (some_place, refl)), (None, refl, ([], _, refl, refl, (some_place, refl)))))))))
    (λ i b x y s r. (i, (x, y, refl, s, r))) in
    exact_behind mark.OpenParen 0 low all ((some_head l).0, _, (some_head l).2.4)

pub to_test : (l : ℕ) (c : Option CondTree) (z : Pieces) → OptionText (IsCond l) c z → IsForTest l c z
to_test l None z s = s
to_test l (Some c) z s = s

pub from_test : (l : ℕ) (c : Option CondTree) (z : Pieces) → IsForTest l c z → OptionText (IsCond l) c z
from_test l None z s = s
from_test l (Some c) z s = s

pub to_step : (l : ℕ) (e : Option AssignTree) (z : Pieces) → OptionText (IsAssign 0 l) e z → IsForStep l e z
to_step l None z s = s
to_step l (Some a) z s = s

pub from_step : (l : ℕ) (e : Option AssignTree) (z : Pieces) → IsForStep l e z → OptionText (IsAssign 0 l) e z
from_step l None z s = s
from_step l (Some a) z s = s

-- the parentheses of a `for`, and what comes after them
abbrev pub ForRest : ℕ → InitTree → Option CondTree → Option AssignTree → Texts → Texts
ForRest l i c e R = spells mark.OpenParen ⋅ IsInit l i ⋅ IsForTest l c ⋅ spells mark.Semicolon ⋅ IsForStep l e ⋅ spells mark.CloseParen ⋅ R

pub head_rest : (l : ℕ) (h : ForHeadTree) (R : Texts) (z : Pieces) → (HeadText l h ⋅ R) z → ForRest l h.0 h.1 h.2 R z
head_rest l h R z (u, v, k, (p, q, f, s, (i, (a, b, g, si, (c, (x, y, w, (x1, x2, w1, sc, m), (e, same, (y1, y2, w2, se, n))))))), r) =
    subst (λ (k : ForHeadTree). ForRest l k.0 k.1 k.2 R z) same (
      p,
      q ++ v,
      k ∙ regroup u v p q f,
      s,
      (
        a,
        b ++ v,
        regroup q v a b g,
        si,
        (
          x1,
          (x2 ++ y) ++ v,
          regroup b v x1 (x2 ++ y) (w ∙ regroup x y x1 x2 w1),
          to_test l c x1 sc,
          (x2, y ++ v, append_assoc x2 y v, m, (y1, y2 ++ v, regroup y v y1 y2 w2, to_step l e y1 se, (y2, v, refl, n, r))),
        ),
      ),
    )

pub rest_head : (l : ℕ) (i : InitTree) (c : Option CondTree) (e : Option AssignTree) (R : Texts) (z : Pieces) → ForRest l i c e R z → (HeadText l (i, c, e) ⋅ R) z
rest_head l i c e R z (p, q, f, s, (a, b, g, si, (x1, x2, w1, sc, (y1, y2, w2, m, (x3, x4, w3, se, (y3, v, w4, n, r)))))) =
    let t : TestText l i (i, c, e) ((x1 ++ y1) ++ (x3 ++ y3)) = (c, (x1 ++ y1, x3 ++ y3, refl, (x1, y1, refl, from_test l c x1 sc, m), (e, refl, (x3, y3, refl, from_step l e x3 se, n)))) in
    let head : HeadText l (i, c, e) (p ++ (a ++ ((x1 ++ y1) ++ (x3 ++ y3)))) = (p, a ++ ((x1 ++ y1) ++ (x3 ++ y3)), refl, s, (i, (a, (x1 ++ y1) ++ (x3 ++ y3), refl, si, t))) in
    let whole : z ≡ (p ++ (a ++ ((x1 ++ y1) ++ (x3 ++ y3)))) ++ v = rw (f, g, w1, w2, w3, w4) (simp append_assoc) in
    (p ++ (a ++ ((x1 ++ y1) ++ (x3 ++ y3))), v, whole, head, r)
