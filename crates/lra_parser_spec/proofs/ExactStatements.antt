-- The readers of statements that are no block are exact.
use Rattle.std.proofs.Common.{◌≡◌, ℕ, ◌+◌, ◌≤◌, true, false, ◌⊎◌, [], ◌∷◌, ◌++◌, Option, Some, None, refl, sym, ap, subst, ◌∙◌, append_assoc, arith, inl, inr}
use Rattle.std.proofs.lemmas.List.{append-nil}
use Rattle.std.specs.Bool.{⊤}
use Rattle.lra_base.specs.declared.refusals.Place.{Place}
use Rattle.lra_syntax.specs.Grammar.{InParens, IsRvalue, IsAssign, TakesElse, IsSwitched, IsStmt, AreCases}
use Rattle.lra_syntax.specs.Trees.{CondTree, CallTree, AssignTree, increment, after, InitTree, StmtTree, block, nothing, assign, call, if_only, if_else, while, for, break, continue, return, assert}
use Rattle.lra_syntax.specs.{Texts.Pieces, Texts.Texts, Texts.◌⋅◌, Texts.opens, Texts.mark as spells, Texts.opens_at, Texts.name, Trees.assume, Trees.switch, Trees.CasesTree, Trees.no_cases}
use Rattle.lra_syntax.specs.{declared.tokens.Mark.Mark, declared.tokens.Token.Token, declared.trees.Identifier.Identifier, declared.trees.Step.Step}
use Rattle.lra_syntax.specs.declared.tokens.Mark.TheVariants as mark
use Rattle.lra_syntax.specs.declared.trees.Step.TheVariants as step
use Rattle.lra_parser_spec.specs.Statements.{StmtMark, at_nothing, at_if, at_while, at_for, at_break, at_continue, at_return, at_assert, at_assume, at_switch, stmt_mark, else_part, read_if}
use Rattle.lra_parser_spec.specs.Statements.{read_while, for_of, read_for, read_jump, read_return, read_check, read_switch, named_rest, read_assigned, simple_form, simple_of}
use Rattle.lra_parser_spec.specs.{Expressions.in_parens, Expressions.expr_at, Expressions.cond_at, Reading.Parse, Reading.seq, Reading.next_name, Reading.has, Tests.is_mark}
use Rattle.lra_parser_spec.proofs.ExactAssignments.{mark_of_step, RestText, rest_assign, rest_no_open, BeforeText, NamedText, from_assign, exact_assign_rest, exact_assign, placed_first}
use Rattle.lra_parser_spec.proofs.ExactExpressions.{Of, first_opened, at_close, some_expr, exact_expr}
use Rattle.lra_parser_spec.proofs.ExactHeads.{OptionText, exact_returned, to_returned, from_returned, HeadText, some_head, exact_head, head_rest, rest_head}
use Rattle.lra_parser_spec.proofs.Forms.{rename, widen, entry, given as given_fact, mapped, choose, branch, where_told, exact_done}
use Rattle.lra_parser_spec.proofs.{Chain.regroup, Exact.Exact, Exact.Any, Exact.Free, Exact.Both, Exact.first_or, Exact.then, ExactAssignments.assign_no_mark, ExactAssignments.assign_stops}
use Rattle.lra_parser_spec.proofs.{ExactConditions.some_cond, ExactConditions.exact_cond, ExactConditions.exact_parens, ExactRvalues.CallText, ExactRvalues.exact_call_rest, ExactRvalues.call_out}
use Rattle.lra_parser_spec.proofs.{ExactRvalues.call_in, Parts.token, Parts.exact_behind, Parts.exact_ended, Tokens.IsInner, Tokens.exact_expect_at, Tokens.exact_name, Tokens.some_place}

-- statements -------------------------------------------------------------------------------------------------------

abbrev pub AfterStmt : StmtTree → Option Token → Type 0
AfterStmt t o = TakesElse t → is_mark mark.Else o ≡ false

abbrev pub IsBlock : StmtTree → Type 0
IsBlock (block is end) = ⊤
IsBlock (nothing at) = ⊥
IsBlock (assign a) = ⊥
IsBlock (call c) = ⊥
IsBlock (if_only at c t) = ⊥
IsBlock (if_else at c t e) = ⊥
IsBlock (while at c b) = ⊥
IsBlock (for at i c e b) = ⊥
IsBlock (break at) = ⊥
IsBlock (continue at) = ⊥
IsBlock (return at e) = ⊥
IsBlock (assert at c) = ⊥
IsBlock (assume at c) = ⊥
IsBlock (switch at e cs) = ⊥

abbrev pub SimpleText : ℕ → ℕ → StmtTree → Texts
SimpleText o l t z = IsStmt o l t z × (IsBlock t → ⊥)

abbrev pub mark_of_stmt : StmtMark → Mark
mark_of_stmt at_nothing = mark.Semicolon
mark_of_stmt at_if = mark.If
mark_of_stmt at_while = mark.While
mark_of_stmt at_for = mark.For
mark_of_stmt at_break = mark.Break
mark_of_stmt at_continue = mark.Continue
mark_of_stmt at_return = mark.Return
mark_of_stmt at_assert = mark.Assert
mark_of_stmt at_assume = mark.Assume
mark_of_stmt at_switch = mark.Switch

abbrev pub BranchText : ℕ → StmtTree → Texts
BranchText l t = IsStmt (l + 1) (l + 1) t

abbrev pub ElseText : ℕ → Place → CondTree → StmtTree → StmtTree → Texts
ElseText l at c t b z = ((opens mark.Else 0 ⋅ Of (if_else at c t) (BranchText l) b) z × (TakesElse t → ⊥)) ⊎ ((b ≡ if_only at c t) × (z ≡ []))

abbrev pub BranchedText : ℕ → Place → CondTree → StmtTree → Texts
BranchedText l at c b z = Both (BranchText l) (ElseText l at c) b z

abbrev pub IfText : ℕ → ℕ → StmtTree → Texts
IfText o l b z = Both (λ at z. opens_at mark.If at o z) (λ at b z. Both (InParens l) (BranchedText l at) b z) b z

abbrev pub WhileText : ℕ → ℕ → StmtTree → Texts
WhileText o l b z = Both (λ at z. opens_at mark.While at o z) (λ at b z. Both (InParens l) (λ c b. Of (while at c) (BranchText l) b) b z) b z

abbrev pub ForText : ℕ → ℕ → StmtTree → Texts
ForText o l b z = Both (λ at z. opens_at mark.For at o z) (λ at b z. Both (HeadText l) (λ h b. Of (for_of at h) (BranchText l) b) b z) b z

abbrev pub JumpText : ℕ → Mark → (Place → StmtTree) → StmtTree → Texts
JumpText o m make b = Of make (λ at. opens_at m at o ⋅ spells mark.Semicolon) b

abbrev pub ReturnText : ℕ → ℕ → StmtTree → Texts
ReturnText o l b z = Both (λ at z. opens_at mark.Return at o z) (λ at b. Of (return at) (λ e. OptionText (IsRvalue l) e ⋅ spells mark.Semicolon) b) b z

abbrev pub CheckText : ℕ → ℕ → Mark → (Place → CondTree → StmtTree) → StmtTree → Texts
CheckText o l m make b z = Both (λ at z. opens_at m at o z) (λ at b. Of (make at) (λ c. InParens l c ⋅ spells mark.Semicolon) b) b z

-- the braces of a `switch`, which open a level, with what they hold
abbrev pub BracesText : ℕ → ℕ → CasesTree → Texts
BracesText o l cs = opens mark.OpenBrace o ⋅ AreCases l cs ⋅ spells mark.CloseBrace

abbrev pub SwitchText : ℕ → ℕ → StmtTree → Texts
SwitchText o l b z = Both (λ at z. opens_at mark.Switch at o z) (λ at b z. Both (IsSwitched l) (λ e b. Of (switch at e) (BracesText (l + 1) (l + 1)) b) b z) b z

-- after a name that a statement begins with
abbrev NamedRest : ℕ → Identifier → StmtTree → Texts
NamedRest l x b z = Of call (λ c. CallText l x c ⋅ spells mark.Semicolon) b z ⊎ Of assign (λ a. RestText l x a ⋅ spells mark.Semicolon) b z

abbrev NamedStmt : ℕ → ℕ → StmtTree → Texts
NamedStmt o l b z = Both (λ x. name x o) (NamedRest l) b z

-- an assignment that begins with no name
abbrev SteppedStmt : ℕ → ℕ → StmtTree → Texts
SteppedStmt o l b z = Of assign (λ a. IsAssign o l a ⋅ spells mark.Semicolon) b z × (has (next_name (first_or z None)) ≡ false)

-- the forms, by what the next token is
abbrev pub SimpleAt : ℕ → ℕ → Option StmtMark → StmtTree → Texts
SimpleAt o l (Some at_nothing) b = Of nothing (λ at z. opens_at mark.Semicolon at o z) b
SimpleAt o l (Some at_if) b = IfText o l b
SimpleAt o l (Some at_while) b = WhileText o l b
SimpleAt o l (Some at_for) b = ForText o l b
SimpleAt o l (Some at_break) b = JumpText o mark.Break break b
SimpleAt o l (Some at_continue) b = JumpText o mark.Continue continue b
SimpleAt o l (Some at_return) b = ReturnText o l b
SimpleAt o l (Some at_assert) b = CheckText o l mark.Assert assert b
SimpleAt o l (Some at_assume) b = CheckText o l mark.Assume assume b
SimpleAt o l (Some at_switch) b = SwitchText o l b
SimpleAt o l None b = λ z. NamedStmt o l b z ⊎ SteppedStmt o l b z

if_simple : (o l : ℕ) (at : Place) (c : CondTree) (t b : StmtTree) (x y u v p q z : Pieces) → z ≡ x ++ y → opens_at mark.If at o x → y ≡ u ++ v → InParens l c u → v ≡ p ++ q → BranchText l t p →
    ElseText l at c t b q → SimpleText o l b z
if_simple o l at c t b x y u v p q z e s f h g k (inl ((i, j, n, m, (a, w, r)), shut)) =
    subst (λ (d : StmtTree). SimpleText o l d z) w (((x, y, e, s, (u, v, f, h, (p, q, g, k, (i, j, n, m, r)))), shut), (λ d. d))
if_simple o l at c t b x y u v p q z e s f h g k (inr (w, n)) =
    let whole : v ≡ p = g ∙ ap (λ (i : Pieces). p ++ i) n ∙ append-nil p in
    subst (λ (d : StmtTree). SimpleText o l d z) (sym w) ((x, y, e, s, (u, v, f, h, subst (λ (i : Pieces). IsStmt (l + 1) (l + 1) t i) (sym whole) k)), (λ d. d))

while_simple : (o l : ℕ) (b : StmtTree) (z : Pieces) → WhileText o l b z → SimpleText o l b z
while_simple o l b z (at, (x, y, e, s, (c, (u, v, f, h, (t, g, r))))) = subst (λ (d : StmtTree). SimpleText o l d z) g ((x, y, e, s, (u, v, f, h, r)), (λ d. d))

for_simple : (o l : ℕ) (b : StmtTree) (z : Pieces) → ForText o l b z → SimpleText o l b z
for_simple o l b z (at, (x, y, e, s, (h, (u, v, f, k, (t, g, r))))) =
    subst (λ (d : StmtTree). SimpleText o l d z) g ((x, y, e, s, head_rest l h (λ w. IsStmt (l + 1) (l + 1) t w) y (u, v, f, k, r)), (λ d. d))

jump_simple : (o l : ℕ) (m : Mark) (make : Place → StmtTree) → ((at : Place) (z : Pieces) → (opens_at m at o ⋅ spells mark.Semicolon) z → SimpleText o l (make at) z) → (b : StmtTree) (z : Pieces) →
    JumpText o m make b z → SimpleText o l b z
jump_simple o l m make whole b z (at, g, t) = subst (λ (d : StmtTree). SimpleText o l d z) g (whole at z t)

return_simple : (o l : ℕ) (b : StmtTree) (z : Pieces) → ReturnText o l b z → SimpleText o l b z
return_simple o l b z (at, (x, y, e, s, (a, g, (u, v, f, r, t)))) = subst (λ (d : StmtTree). SimpleText o l d z) g ((x, y, e, s, (u, v, f, to_returned l a u r, t)), (λ d. d))

named_simple : (o l : ℕ) (b : StmtTree) (z : Pieces) → NamedStmt o l b z → SimpleText o l b z
named_simple o l b z (x, (u, v, e, s, inl (c, g, (p, q, f, r, t)))) =
    subst (λ (d : StmtTree). SimpleText o l d z) g ((u ++ p, q, e ∙ ap (λ (w : Pieces). u ++ w) f ∙ sym (append_assoc u p q), call_out o l x c u p s r, t), (λ d. d))
named_simple o l b z (x, (u, v, e, s, inr (a, g, (p, q, f, r, t)))) =
    subst (λ (d : StmtTree). SimpleText o l d z) g ((u ++ p, q, e ∙ ap (λ (w : Pieces). u ++ w) f ∙ sym (append_assoc u p q), rest_assign o l x a u p (u ++ p) refl s r, t), (λ d. d))

assign_simple : (o l : ℕ) (b : StmtTree) (z : Pieces) → Of assign (λ a. IsAssign o l a ⋅ spells mark.Semicolon) b z → SimpleText o l b z
assign_simple o l b z (a, g, t) = subst (λ (d : StmtTree). SimpleText o l d z) g (t, (λ d. d))

to_simple : (o l : ℕ) (k : Option StmtMark) (b : StmtTree) (z : Pieces) → SimpleAt o l k b z → SimpleText o l b z
to_simple o l (Some at_nothing) b z (at, f, s) = subst (λ (d : StmtTree). SimpleText o l d z) f (s, (λ d. d))
to_simple o l (Some at_if) b z (at, (x, y, e, s, (c, (u, v, f, h, (t, (p, q, g, k, r)))))) = if_simple o l at c t b x y u v p q z e s f h g k r
to_simple o l (Some at_while) b z s = while_simple o l b z s
to_simple o l (Some at_for) b z s = for_simple o l b z s
to_simple o l (Some at_break) b z s = jump_simple o l mark.Break break (λ at w t. (t, (λ d. d))) b z s
to_simple o l (Some at_continue) b z s = jump_simple o l mark.Continue continue (λ at w t. (t, (λ d. d))) b z s
to_simple o l (Some at_return) b z s = return_simple o l b z s
to_simple o l (Some at_assert) b z (at, (x, y, e, s, (c, f, t))) = subst (λ (d : StmtTree). SimpleText o l d z) f ((x, y, e, s, t), (λ d. d))
to_simple o l (Some at_assume) b z (at, (x, y, e, s, (c, f, t))) = subst (λ (d : StmtTree). SimpleText o l d z) f ((x, y, e, s, t), (λ d. d))
to_simple o l (Some at_switch) b z (at, (x, y, e, s, (v, (u, w, f, h, (cs, g, r))))) = subst (λ (d : StmtTree). SimpleText o l d z) g ((x, y, e, s, (u, w, f, h, r)), (λ d. d))
to_simple o l None b z (inl s) = named_simple o l b z s
to_simple o l None b z (inr s) = assign_simple o l b z s.0

simple_for : (o l : ℕ) (at : Place) (i : InitTree) (c : Option CondTree) (a : Option AssignTree) (t : StmtTree) (z : Pieces) → IsStmt o l (for at i c a t) z → ForText o l (for at i c a t) z
simple_for o l at i c a t z (x, y, e, s, r) =
    let w = rest_head l i c a (λ w. IsStmt (l + 1) (l + 1) t w) y r in
    (at, (x, y, e, s, ((i, c, a), (w.0, w.1, w.2, w.3, (t, refl, w.4)))))

simple_call : (o l : ℕ) (c : CallTree) (z : Pieces) → IsStmt o l (call c) z → NamedStmt o l (call c) z
simple_call o l c z (x, y, e, (p, q, f, m, r), t) = (c.name, (p, q ++ y, e ∙ regroup x y p q f, m, inl (c, refl, (q, y, refl, call_in l c q r, t))))

simple_assign : (o l : ℕ) (a : AssignTree) (x y z : Pieces) → z ≡ x ++ y → IsAssign o l a x → spells mark.Semicolon y → BeforeText o a x ⊎ NamedText o l a x → SimpleAt o l None (assign a) z
simple_assign o l a x y z e s t (inl (j, (u, v, f, m, r))) = inr ((a, refl, (x, y, e, s, t)), rw (e, f, m) refl)
simple_assign o l a x y z e s t (inr (i, (u, v, f, m, r))) = inl (i, (u, v ++ y, e ∙ regroup x y u v f, m, inr (a, refl, (v, y, refl, r, t))))

pub from_simple : (o l : ℕ) (b : StmtTree) (z : Pieces) → SimpleText o l b z → (k : Option StmtMark) × SimpleAt o l k b z
from_simple o l (block is end) z (s, n) = absurd (n tt)
from_simple o l (nothing at) z (s, n) = (Some at_nothing, (at, refl, s))
from_simple o l (assign a) z ((x, y, e, s, t), n) = (None, simple_assign o l a x y z e s t (from_assign o l a x s))
from_simple o l (call c) z (s, n) = (None, inl (simple_call o l c z s))
from_simple o l (if_only at c t) z ((x, y, e, s, (u, v, f, h, r)), n) = (Some at_if, (at, (x, y, e, s, (c, (u, v, f, h, (t, (v, [], sym (append-nil v), r, inr (refl, refl))))))))
from_simple o l (if_else at c t d) z (((x, y, e, s, (u, v, f, h, (p, q, g, r, (i, j, w, m, a)))), shut), n) =
    (Some at_if, (at, (x, y, e, s, (c, (u, v, f, h, (t, (p, q, g, r, inl ((i, j, w, m, (d, refl, a)), shut))))))))
from_simple o l (while at c t) z ((x, y, e, s, (u, v, f, h, r)), n) = (Some at_while, (at, (x, y, e, s, (c, (u, v, f, h, (t, refl, r))))))
from_simple o l (for at i c a t) z (s, n) = (Some at_for, simple_for o l at i c a t z s)
from_simple o l (break at) z ((x, y, e, s, t), n) = (Some at_break, (at, refl, (x, y, e, s, t)))
from_simple o l (continue at) z ((x, y, e, s, t), n) = (Some at_continue, (at, refl, (x, y, e, s, t)))
from_simple o l (return at a) z ((x, y, e, s, (u, v, f, r, t)), n) = (Some at_return, (at, (x, y, e, s, (a, refl, (u, v, f, from_returned l a u r, t)))))
from_simple o l (assert at c) z ((x, y, e, s, t), n) = (Some at_assert, (at, (x, y, e, s, (c, refl, t))))
from_simple o l (assume at c) z ((x, y, e, s, t), n) = (Some at_assume, (at, (x, y, e, s, (c, refl, t))))
from_simple o l (switch at v cs) z ((x, y, e, s, (u, w, f, h, r)), n) = (Some at_switch, (at, (x, y, e, s, (v, (u, w, f, h, (cs, refl, r))))))

some_none : {A : Type 0} {a : A} → (let o : Option A = Some a in o) ≡ None → ⊥
some_none e = cc

same_first : (z : Pieces) (k : Option Token) → (z ≡ [] → ⊥) → first_or z k ≡ first_or z None
same_first [] k h = absurd (h refl)
same_first (t ∷ z) k h = refl

step_stmt : (s : Step) (at : Place) → stmt_mark (Some (token (mark_of_step s) at)) ≡ None
step_stmt step.Increment at = refl
step_stmt step.Decrement at = refl

simple_begins : (o l : ℕ) (k : Option StmtMark) (b : StmtTree) (z : Pieces) (i : Option Token) → SimpleAt o l k b z → stmt_mark (first_or z i) ≡ k
simple_begins o l (Some at_nothing) b z i (at, f, s) = placed_first (λ j. stmt_mark j ≡ Some at_nothing) mark.Semicolon at o z [] z i (sym (append-nil z)) s refl
simple_begins o l (Some at_if) b z i (at, (x, y, e, s, t)) = placed_first (λ j. stmt_mark j ≡ Some at_if) mark.If at o x y z i e s refl
simple_begins o l (Some at_while) b z i (at, (x, y, e, s, t)) = placed_first (λ j. stmt_mark j ≡ Some at_while) mark.While at o x y z i e s refl
simple_begins o l (Some at_for) b z i (at, (x, y, e, s, t)) = placed_first (λ j. stmt_mark j ≡ Some at_for) mark.For at o x y z i e s refl
simple_begins o l (Some at_break) b z i (at, f, (x, y, e, s, t)) = placed_first (λ j. stmt_mark j ≡ Some at_break) mark.Break at o x y z i e s refl
simple_begins o l (Some at_continue) b z i (at, f, (x, y, e, s, t)) = placed_first (λ j. stmt_mark j ≡ Some at_continue) mark.Continue at o x y z i e s refl
simple_begins o l (Some at_return) b z i (at, (x, y, e, s, t)) = placed_first (λ j. stmt_mark j ≡ Some at_return) mark.Return at o x y z i e s refl
simple_begins o l (Some at_assert) b z i (at, (x, y, e, s, t)) = placed_first (λ j. stmt_mark j ≡ Some at_assert) mark.Assert at o x y z i e s refl
simple_begins o l (Some at_assume) b z i (at, (x, y, e, s, t)) = placed_first (λ j. stmt_mark j ≡ Some at_assume) mark.Assume at o x y z i e s refl
simple_begins o l (Some at_switch) b z i (at, (x, y, e, s, t)) = placed_first (λ j. stmt_mark j ≡ Some at_switch) mark.Switch at o x y z i e s refl
simple_begins o l None b z i (inl (x, (u, v, e, s, r))) = rw (e, s) refl
simple_begins o l None b z i (inr ((a, f, (x, y, e, s, t)), k)) = assign_no_mark o l a x y z i e s (λ j. stmt_mark j ≡ None) (λ n. refl) step_stmt

call_open : (l : ℕ) (x : Identifier) (c : CallTree) (u v z : Pieces) (k : Option Token) → z ≡ u ++ v → CallText l x c u → is_mark mark.OpenParen (first_or z k) ≡ true
call_open l x c u v z k e (p, q, f, s, r) = first_opened (λ i. is_mark mark.OpenParen i ≡ true) mark.OpenParen 0 p (q ++ v) z k (e ∙ regroup u v p q f) s (λ at. refl)

-- an assignment has a first token
assign_long : (o l : ℕ) (a : AssignTree) (x y z : Pieces) → z ≡ x ++ y → IsAssign o l a x → z ≡ [] → ⊥
assign_long o l a x y z e s n =
    let f : (first_or z None ≡ None) → ⊥ = assign_no_mark o l a x y z None e s (λ i. (i ≡ None) → ⊥) (λ i. some_none) (λ i at. some_none) in
    f (ap (λ (w : Pieces). first_or w None) n)

assign_again : (o l : ℕ) (a : AssignTree) (x y z : Pieces) (k : Option Token) → z ≡ x ++ y → IsAssign o l a x → has (next_name (first_or z None)) ≡ false → has (next_name (first_or z k)) ≡ false
assign_again o l a x y z k e s f = ap (λ (i : Option Token). has (next_name i)) (same_first z k (assign_long o l a x y z e s)) ∙ f

some_stmt : (o l : ℕ) → (t : StmtTree) × (x : Pieces) × IsStmt o l t x
some_stmt o l = (nothing some_place, _, refl)

module _ (n d l o : ℕ) (h : d + l ≡ n) (low : o ≤ n) (branches : Parse StmtTree) (B : Exact n IsInner branches Any (BranchText l) (BranchText l) AfterStmt)
    (cases : Parse CasesTree) (C : Exact n IsInner cases Any (BracesText (l + 1) (l + 1)) (BracesText (l + 1) (l + 1)) Free) where
  conds : Exact n IsInner (in_parens (cond_at d)) Any (InParens l) (InParens l) Free
  conds = exact_parens n l 0 (cond_at d) (omega arith) (exact_cond n d l h)

  -- after the first branch
  closed_before : (t : StmtTree) (k : Option Token) → AfterStmt t k → is_mark mark.Else k ≡ true → TakesElse t → ⊥
  closed_before t k a e i = let f = a i in cc

  no_else : (at : Place) (c : CondTree) (t b : StmtTree) (z : Pieces) (k : Option Token) → b ≡ if_only at c t → z ≡ [] → (z ≡ [] → AfterStmt b k) → is_mark mark.Else (first_or z k) ≡ false
  no_else at c t b z k e f g = rw f (let r : AfterStmt (if_only at c t) k = subst (λ (q : StmtTree). AfterStmt q k) e (g f) in r tt)

  exact_else : (at : Place) (c : CondTree) (t : StmtTree) → Exact n IsInner (else_part branches at c t) (AfterStmt t) (ElseText l at c t) (ElseText l at c t) AfterStmt
  exact_else at c t =
      let some = some_stmt (l + 1) (l + 1) in
      let whole = exact_behind mark.Else 0 (omega arith) (mapped B (if_else at c t) AfterStmt (λ i k f. f) (λ i k f. f)) (if_else at c t some.0, some.1, (some.0, refl, some.2)) in
      let told = given_fact (entry whole (λ k. AfterStmt t k × (is_mark mark.Else k ≡ true)) (λ k i. tt)) (TakesElse t → ⊥) (λ k i. closed_before t k i.0 i.1) in
      branch (is_mark mark.Else) (widen told (ElseText l at c t) (λ b z s. inl s))
      (widen (exact_done n IsInner (if_only at c t) (λ k. AfterStmt t k × (is_mark mark.Else k ≡ false)) (λ b z. (b ≡ if_only at c t) × (z ≡ [])) AfterStmt (λ k i j. i.1)) (ElseText l at c t)
      (λ b z s. inr s))
      (λ b z k s f. first_opened (λ i. is_mark mark.Else i ≡ true) mark.Else 0 s.0.0 s.0.1 z k s.0.2 s.0.3 (λ at. refl))
      (λ b z k s f. no_else at c t b z k s.0 s.1 f)

  else_follows : (at : Place) (c : CondTree) (t b : StmtTree) (y : Pieces) (k : Option Token) → ElseText l at c t b y → (y ≡ [] → AfterStmt b k) → AfterStmt t (first_or y k)
  else_follows at c t b y k (inl s) f = λ i. absurd (s.1 i)
  else_follows at c t b y k (inr s) f = λ i. no_else at c t b y k s.0 s.1 f

  exact_branched : (at : Place) (c : CondTree) → Exact n IsInner (seq branches (else_part branches at c)) Any (BranchedText l at c) (BranchedText l at c) AfterStmt
  exact_branched at c = then B (exact_else at c) (BranchedText l at c)
      (λ t b y k s f. else_follows at c t b y k s f)
      (λ t z v. (if_only at c t, [], (t, (z, [], refl, v, inr (refl, refl)))))
      (λ t b x y s r. (t, (x, y, refl, s, r)))

  exact_if : Exact n IsInner (read_if d branches) Any (IfText o l) (IfText o l) AfterStmt
  exact_if =
      let some : (at : Place) (c : CondTree) → (b : StmtTree) × (y : Pieces) × BranchedText l at c b y =
      λ at c. let t = some_stmt (l + 1) (l + 1) in (if_only at c t.0, t.1, (t.0, (t.1, [], sym (append-nil t.1), t.2, inr (refl, refl)))) in
      let inner = λ (at : Place). then conds (λ c. exact_branched at c) (λ b z. Both (InParens l) (BranchedText l at) b z)
      (λ c b y k s f. tt)
      (λ c z v. let t = some at c in (t.0, t.1, (c, (z, t.1, refl, v, t.2))))
      (λ c b x y s r. (c, (x, y, refl, s, r))) in
      then (exact_expect_at n mark.If o low) inner (IfText o l)
      (λ at b y k s f. tt)
      (λ at z v. let c = some_cond l in let t = some at c.0 in (t.0, _, (at, (z, _, refl, v, (c.0, (_, t.1, refl, (_, _, refl, (some_place, refl), (_, _, refl, c.2, (some_place, refl))), t.2))))))
      (λ at b x y s r. (at, (x, y, refl, s, r)))

  exact_while : Exact n IsInner (read_while d branches) Any (WhileText o l) (WhileText o l) AfterStmt
  exact_while =
      let some = some_stmt (l + 1) (l + 1) in
      let inner = λ (at : Place). then conds (λ c. mapped B (while at c) AfterStmt (λ t k f. f) (λ t k f. f)) (λ b z. Both (InParens l) (λ c b. Of (while at c) (BranchText l) b) b z)
      (λ c b y k s f. tt)
      (λ c z v. (while at c some.0, _, (c, (z, _, refl, v, (some.0, refl, some.2)))))
      (λ c b x y s r. (c, (x, y, refl, s, r))) in
      then (exact_expect_at n mark.While o low) inner (WhileText o l)
      (λ at b y k s f. tt)
      (λ at z v. let c = some_cond l in (
        while at c.0 some.0,
        _,
        (
          at,
          (
            z,
            _,
            refl,
            v,
            (
              c.0,
              (_, _, refl, (_, _, refl, (some_place, refl), (_, _, refl, c.2, (some_place, refl))), (some.0, refl, some.2)),
            ),
          ),
        ),
      ))
      (λ at b x y s r. (at, (x, y, refl, s, r)))

  exact_for : Exact n IsInner (read_for d branches) Any (ForText o l) (ForText o l) AfterStmt
  exact_for =
      let some = some_stmt (l + 1) (l + 1) in
      let inner = λ (at : Place). then (exact_head n d l h) (λ k. mapped B (for_of at k) AfterStmt (λ t i f. f) (λ t i f. f)) (λ b z. Both (HeadText l) (λ k b. Of (for_of at k) (BranchText l) b) b z)
      (λ k b y i s f. tt)
      (λ k z v. (for_of at k some.0, _, (k, (z, _, refl, v, (some.0, refl, some.2)))))
      (λ k b x y s r. (k, (x, y, refl, s, r))) in
      then (exact_expect_at n mark.For o low) inner (ForText o l)
      (λ at b y k s f. tt)
      (λ at z v. let k = some_head l in (for_of at k.0 some.0, _, (at, (z, _, refl, v, (k.0, (_, _, refl, k.2, (some.0, refl, some.2)))))))
      (λ at b x y s r. (at, (x, y, refl, s, r)))

  exact_jump : (m : Mark) (make : Place → StmtTree) → ((at : Place) → TakesElse (make at) → ⊥) → Exact n IsInner (read_jump m make) Any (JumpText o m make) (JumpText o m make) AfterStmt
  exact_jump m make closes = mapped (exact_ended mark.Semicolon (exact_expect_at n m o low) (λ at p. tt)) make AfterStmt (λ at k f t. absurd (closes at t)) (λ at k f. tt)

  exact_return : Exact n IsInner (read_return d) Any (ReturnText o l) (ReturnText o l) AfterStmt
  exact_return =
      then (exact_expect_at n mark.Return o low) (λ at. mapped (exact_returned n d l h) (return at) AfterStmt (λ e k f t. absurd t) (λ e k f. tt)) (ReturnText o l)
      (λ at b y k s f. tt)
      (λ at z v. (return at None, _, (at, (z, _, refl, v, (None, refl, ([], _, refl, refl, (some_place, refl)))))))
      (λ at b x y s r. (at, (x, y, refl, s, r)))

  exact_check : (m : Mark) (make : Place → CondTree → StmtTree) → ((at : Place) (c : CondTree) → TakesElse (make at c) → ⊥) →
      Exact n IsInner (read_check d m make) Any (CheckText o l m make) (CheckText o l m make) AfterStmt
  exact_check m make closes =
      let c = some_cond l in
      then (exact_expect_at n m o low) (λ at. mapped (exact_ended mark.Semicolon conds (λ c at. tt)) (make at) AfterStmt (λ c k f t. absurd (closes at c t)) (λ c k f. tt)) (CheckText o l m make)
      (λ at b y k s f. tt)
      (λ at z v. (make at c.0, _, (at, (z, _, refl, v, (c.0, refl, (_, _, refl, (_, _, refl, (some_place, refl), (_, _, refl, c.2, (some_place, refl))), (some_place, refl)))))))
      (λ at b x y s r. (at, (x, y, refl, s, r)))

  values : Exact n IsInner (in_parens (expr_at d)) Any (IsSwitched l) (IsSwitched l) Free
  values =
      let e = some_expr l in
      exact_behind mark.OpenParen 0 (omega arith) (exact_ended mark.CloseParen (exact_expr n d l h) at_close) (e.0, _, (_, _, refl, e.2, (some_place, refl)))

  exact_switch : Exact n IsInner (read_switch d cases) Any (SwitchText o l) (SwitchText o l) AfterStmt
  exact_switch =
      let e = some_expr l in
      let some : (cs : CasesTree) × (x : Pieces) × BracesText (l + 1) (l + 1) cs x = (no_cases, _, (_, _, refl, (some_place, refl), (_, _, refl, refl, (some_place, refl)))) in
      let inner = λ (at : Place). then values (λ v. mapped C (switch at v) AfterStmt (λ cs k f t. absurd t) (λ cs k f. tt))
      (λ b z. Both (IsSwitched l) (λ v b. Of (switch at v) (BracesText (l + 1) (l + 1)) b) b z)
      (λ v b y k s f. tt)
      (λ v z w. (switch at v some.0, _, (v, (z, _, refl, w, (some.0, refl, some.2)))))
      (λ v b x y s r. (v, (x, y, refl, s, r))) in
      then (exact_expect_at n mark.Switch o low) inner (SwitchText o l)
      (λ at b y k s f. tt)
      (λ at z v. (switch at e.0 some.0, _, (at, (z, _, refl, v, (e.0, (_, _, refl, (_, _, refl, (some_place, refl), (_, _, refl, e.2, (some_place, refl))), (some.0, refl, some.2)))))))
      (λ at b x y s r. (at, (x, y, refl, s, r)))

  exact_named : (x : Identifier) → Exact n IsInner (named_rest d x) Any (NamedRest l x) (NamedRest l x) AfterStmt
  exact_named x =
      let calls = mapped (exact_ended mark.Semicolon (exact_call_rest n d l h x) (λ c at. tt)) call AfterStmt (λ c k f t. absurd t) (λ c k f. tt) in
      let assigns = mapped (exact_ended mark.Semicolon (exact_assign_rest n d l h x) assign_stops) assign AfterStmt (λ a k f t. absurd t) (λ a k f. tt) in
      branch (is_mark mark.OpenParen) (entry (widen calls (NamedRest l x) (λ b z s. inl s)) (λ k. ⊤ × (is_mark mark.OpenParen k ≡ true)) (λ k i. tt))
      (entry (widen assigns (NamedRest l x) (λ b z s. inr s)) (λ k. ⊤ × (is_mark mark.OpenParen k ≡ false)) (λ k i. tt))
      (λ b z k s f. call_open l x s.0 s.2.0 s.2.1 z k s.2.2 s.2.3)
      (λ b z k s f. rest_no_open l x s.0 s.2.0 s.2.1 z k s.2.2 s.2.3)

  -- an assignment or a call, with its semicolon
  exact_assigned : Exact n IsInner (read_assigned d) Any (SimpleAt o l None) (SimpleText o l) AfterStmt
  exact_assigned =
      let named = then (exact_name n o low) exact_named (NamedStmt o l)
      (λ x b y k s f. tt)
      (λ x z v. (
        assign (after x increment),
        _,
        (x, (z, _, refl, v, inr (after x increment, refl, (_, _, refl, inr (inr (inr ((step.Increment, some_place), refl, refl))), (some_place, refl))))),
      ))
      (λ x b u v s r. (x, (u, v, refl, s, r))) in
      let assigns = mapped (exact_ended mark.Semicolon (exact_assign n d l o h low) assign_stops) assign AfterStmt (λ a k f t. absurd t) (λ a k f. tt) in
      let stepped = where_told assigns (λ k. has (next_name k)) false (λ b z s. assign_long o l s.0 s.2.0 s.2.1 z s.2.2 s.2.3) in
      branch (λ k. has (next_name k)) (entry (widen named (SimpleText o l) (λ b z s. named_simple o l b z s)) (λ k. ⊤ × (has (next_name k) ≡ true)) (λ k i. tt))
      (entry (widen stepped (SimpleText o l) (λ b z s. assign_simple o l b z s)) (λ k. ⊤ × (has (next_name k) ≡ false)) (λ k i. (i.1, tt)))
      (λ b z k s f. rw (s.1.2, s.1.3) refl)
      (λ b z k s f. assign_again o l s.0.0 s.0.2.0 s.0.2.1 z k s.0.2.2 s.0.2.3 s.1)

  abbrev SimpleKey : Option StmtMark → Option Token → Type 0
  SimpleKey k i = (stmt_mark i ≡ k) × Any i

  each_simple : (k : Option StmtMark) → Exact n IsInner (simple_form d branches cases k) (SimpleKey k) (SimpleAt o l k) (SimpleText o l) AfterStmt
  each_simple (Some at_nothing) = entry (widen (mapped (exact_expect_at n mark.Semicolon o low) nothing AfterStmt (λ at k f t. absurd t) (λ at k f. tt)) (SimpleText o l)
      (λ b z s. to_simple o l (Some at_nothing) b z s)) (SimpleKey (Some at_nothing)) (λ k i. tt)
  each_simple (Some at_if) = entry (widen exact_if (SimpleText o l) (λ b z s. to_simple o l (Some at_if) b z s)) (SimpleKey (Some at_if)) (λ k i. tt)
  each_simple (Some at_while) = entry (widen exact_while (SimpleText o l) (λ b z s. while_simple o l b z s)) (SimpleKey (Some at_while)) (λ k i. tt)
  each_simple (Some at_for) = entry (widen exact_for (SimpleText o l) (λ b z s. for_simple o l b z s)) (SimpleKey (Some at_for)) (λ k i. tt)
  each_simple (Some at_break) = entry (widen (exact_jump mark.Break break (λ at t. t)) (SimpleText o l) (λ b z s. to_simple o l (Some at_break) b z s)) (SimpleKey (Some at_break)) (λ k i. tt)
  each_simple (Some at_continue) = entry (widen (exact_jump mark.Continue continue (λ at t. t)) (SimpleText o l) (λ b z s. to_simple o l (Some at_continue) b z s)) (SimpleKey (Some at_continue))
      (λ k i. tt)
  each_simple (Some at_return) = entry (widen exact_return (SimpleText o l) (λ b z s. return_simple o l b z s)) (SimpleKey (Some at_return)) (λ k i. tt)
  each_simple (Some at_assert) = entry (widen (exact_check mark.Assert assert (λ at c t. t)) (SimpleText o l) (λ b z s. to_simple o l (Some at_assert) b z s)) (SimpleKey (Some at_assert)) (λ k i. tt)
  each_simple (Some at_assume) = entry (widen (exact_check mark.Assume assume (λ at c t. t)) (SimpleText o l) (λ b z s. to_simple o l (Some at_assume) b z s)) (SimpleKey (Some at_assume)) (λ k i. tt)
  each_simple (Some at_switch) = entry (widen exact_switch (SimpleText o l) (λ b z s. to_simple o l (Some at_switch) b z s)) (SimpleKey (Some at_switch)) (λ k i. tt)
  each_simple None = entry exact_assigned (SimpleKey None) (λ k i. tt)

  pub exact_simple : Exact n IsInner (simple_of d branches cases) Any (SimpleText o l) (SimpleText o l) AfterStmt
  exact_simple = rename (choose stmt_mark each_simple (λ k b z i s f. simple_begins o l k b z i s)) (SimpleText o l) (λ b z s. to_simple o l s.0 b z s.1) (λ b z s. from_simple o l b z s)
