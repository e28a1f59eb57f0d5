-- The readers of branches, blocks and the braces of a `switch` are exact, level by level.
use Rattle.std.proofs.Common.{◌≡◌, ℕ, ◌+◌, zero, suc, ◌≤◌, ◌<◌, true, false, [], ◌∷◌, ◌++◌, Option, refl, sym, ap, subst, ◌∙◌, arith, inl, inr}
use Rattle.std.proofs.lemmas.List.{append-nil}
use Rattle.std.specs.Bool.{⊤}
use Rattle.lra_base.specs.{declared.refusals.Cause.TheVariants.TooDeep, declared.refusals.Place.Place}
use Rattle.lra_syntax.specs.Trees.{StmtTree, block, nothing, assign, call, if_only, if_else, while, for, break, continue, return, assert, assume, no_items, switch, no_cases}
use Rattle.lra_syntax.specs.{Grammar.IsAssign, Grammar.IsStmt, Texts.Piece, Texts.Pieces, Texts.Texts, Texts.opens_at, declared.tokens.Mark.Mark, declared.tokens.Token.Token}
use Rattle.lra_syntax.specs.declared.tokens.Mark.TheVariants as mark
use Rattle.lra_parser_spec.specs.Statements.{begins_stmt, body_of, block_from, too_deep, braces_too_deep, levels, branch_at, block_at, braces_at, simple_at, items_at}
use Rattle.lra_parser_spec.specs.{Reading.stop, Reading.map_read, Tests.is_mark}
use Rattle.lra_parser_spec.proofs.ExactBlocks.{BlockText, block_first, stmt_begins, all_begin, starts, exact_stated, either_stmt, stmt_either, BodyText, exact_statement, exact_body}
use Rattle.lra_parser_spec.proofs.{Chain.regroup, Exact.Exact, Exact.Any, Exact.Free, ExactAssignments.from_assign, ExactCases.exact_braces, ExactExpressions.Of, ExactExpressions.first_opened}
use Rattle.lra_parser_spec.proofs.{ExactExpressions.opened_over, ExactStatements.AfterStmt, ExactStatements.exact_simple, ExactStatements.BracesText, Forms.rename, Forms.retell, Forms.entry}
use Rattle.lra_parser_spec.proofs.{Forms.mapped, Forms.branch, Forms.exact_stop, Forms.exact_deep, Marks.is_mark_some, Parts.token, Tokens.IsInner, Tokens.some_place}

abbrev AtBrace : Option Token → Type 0
AtBrace k = is_mark mark.OpenBrace k ≡ true

-- a statement's first token opens its level
abbrev Opened : ℕ → Pieces → Type 0
Opened o z = (t : Piece) × (w : Pieces) × (z ≡ t ∷ w) × (t.1 ≡ o)

abbrev Over : {A : Type 0} → ℕ → (A → Texts) → Token → Type 0
Over {A} n S t = (a : A) × (o : ℕ) × (w : Pieces) × S a ((t, o) ∷ w) × (n < o)

to_block : (o l : ℕ) (t : StmtTree) (z : Pieces) → Of block_from (BodyText o l) t z → BlockText o l t z
to_block o l t z (b, f, s) = subst (λ (c : StmtTree). BlockText o l c z) f (s, tt)

from_block : (o l : ℕ) (t : StmtTree) (z : Pieces) → BlockText o l t z → Of block_from (BodyText o l) t z
from_block o l (block is end) z (s, b) = ((is, end), refl, s)
from_block o l (nothing at) z s = absurd s.1
from_block o l (assign a) z s = absurd s.1
from_block o l (call c) z s = absurd s.1
from_block o l (if_only at c t) z s = absurd s.1
from_block o l (if_else at c t e) z s = absurd s.1
from_block o l (while at c b) z s = absurd s.1
from_block o l (for at i c e b) z s = absurd s.1
from_block o l (break at) z s = absurd s.1
from_block o l (continue at) z s = absurd s.1
from_block o l (return at e) z s = absurd s.1
from_block o l (assert at c) z s = absurd s.1
from_block o l (assume at c) z s = absurd s.1
from_block o l (switch at e cs) z s = absurd s.1

placed_over : (n o : ℕ) (m : Mark) (at : Place) (x y z : Pieces) → n < o → z ≡ x ++ y → opens_at m at o x → (t : Piece) × (w : Pieces) × (z ≡ t ∷ w) × (n < t.1)
placed_over n o m at x y z h e s = ((token m at, o), y, e ∙ ap (λ (v : Pieces). v ++ y) s, h)

assign_over : (n o l : ℕ) (a : _) (x y z : Pieces) → n < o → z ≡ x ++ y → IsAssign o l a x → (t : Piece) × (w : Pieces) × (z ≡ t ∷ w) × (n < t.1)
assign_over n o l a x y z h e s = elim (from_assign o l a x s) [
  | inl (j, (u, v, f, m, r)) ↦ (_, v ++ y, e ∙ regroup x y u v f ∙ ap (λ (w : Pieces). w ++ (v ++ y)) m, h)
  | inr (i, (u, v, f, m, r)) ↦ (_, v ++ y, e ∙ regroup x y u v f ∙ ap (λ (w : Pieces). w ++ (v ++ y)) m, h)
]

stmt_over : (n o l : ℕ) (t : StmtTree) (z : Pieces) → n < o → IsStmt o l t z → (p : Piece) × (w : Pieces) × (z ≡ p ∷ w) × (n < p.1)
stmt_over n o l (block is end) z h (x, y, e, s, r) = opened_over n o mark.OpenBrace x y z h e s
stmt_over n o l (nothing at) z h s = placed_over n o mark.Semicolon at z [] z h (sym (append-nil z)) s
stmt_over n o l (assign a) z h (x, y, e, s, r) = assign_over n o l a x y z h e s
stmt_over n o l (call c) z h (x, y, e, (p, q, f, m, r), t) = (_, q ++ y, e ∙ regroup x y p q f ∙ ap (λ (w : Pieces). w ++ (q ++ y)) m, h)
stmt_over n o l (if_only at c t) z h (x, y, e, s, r) = placed_over n o mark.If at x y z h e s
stmt_over n o l (if_else at c t d) z h ((x, y, e, s, r), k) = placed_over n o mark.If at x y z h e s
stmt_over n o l (while at c b) z h (x, y, f, s, r) = placed_over n o mark.While at x y z h f s
stmt_over n o l (for at i c e b) z h (x, y, f, s, r) = placed_over n o mark.For at x y z h f s
stmt_over n o l (break at) z h (x, y, f, s, r) = placed_over n o mark.Break at x y z h f s
stmt_over n o l (continue at) z h (x, y, f, s, r) = placed_over n o mark.Continue at x y z h f s
stmt_over n o l (return at e) z h (x, y, f, s, r) = placed_over n o mark.Return at x y z h f s
stmt_over n o l (assert at c) z h (x, y, e, s, r) = placed_over n o mark.Assert at x y z h e s
stmt_over n o l (assume at c) z h (x, y, e, s, r) = placed_over n o mark.Assume at x y z h e s
stmt_over n o l (switch at v cs) z h (x, y, e, s, r) = placed_over n o mark.Switch at x y z h e s

exact_too_deep : (n o : ℕ) → n < o → Exact n IsInner too_deep Any (IsStmt o o) (IsStmt o o) AfterStmt
exact_too_deep n o h =
    let deep = exact_deep n IsInner (λ k. ⊤ × (begins_stmt k ≡ true)) (IsStmt o o) (IsStmt o o) AfterStmt (λ t z s. stmt_over n o o t z h s)
    (λ t i. let s = starts o t i.1 in (s.0, o, s.1, s.2, h)) (λ i. let e = i.1 in cc) in
    let none = exact_stop {n = n} {Q = IsInner} (λ k. ⊤ × (begins_stmt k ≡ false)) (IsStmt o o) AfterStmt (nothing some_place)
    ((token mark.Semicolon some_place, o) ∷ []) refl in
    let b = branch begins_stmt deep none (λ t z k s f. stmt_begins (λ i. begins_stmt i ≡ true) all_begin o o t z k s) (λ t z k s f. absurd s) in
    rename b (IsStmt o o) (λ t z s. elim s [ inl k ↦ k | inr k ↦ absurd k ]) (λ t z s. inl s)

exact_deep_block : (n o : ℕ) → n < o → Exact n IsInner (λ T. stop TooDeep T) AtBrace (BodyText o o) (BodyText o o) Free
exact_deep_block n o h = exact_deep n IsInner AtBrace (BodyText o o) (BodyText o o) Free
    (λ b z s. opened_over n o mark.OpenBrace s.0 s.1 z h s.2 s.3)
    (λ t i. subst (Over n (BodyText o o)) (sym (is_mark_some mark.OpenBrace t i))
    ((no_items, some_place), o, _, (_, _, refl, (t.place, refl), (_, _, refl, refl, refl)), h))
    (λ i. cc)

exact_deep_braces : (n o l : ℕ) → n < o → Exact n IsInner braces_too_deep Any (BracesText o l) (BracesText o l) Free
exact_deep_braces n o l h =
    let deep = exact_deep n IsInner (λ k. ⊤ × (is_mark mark.OpenBrace k ≡ true)) (BracesText o l) (BracesText o l) Free
    (λ b z s. opened_over n o mark.OpenBrace s.0 s.1 z h s.2 s.3)
    (λ t i. subst (Over n (BracesText o l)) (sym (is_mark_some mark.OpenBrace t i.1))
    (no_cases, o, _, (_, _, refl, (t.place, refl), (_, _, refl, refl, (some_place, refl))), h))
    (λ i. let e = i.1 in cc) in
    let none = exact_stop {n = n} {Q = IsInner} (λ k. ⊤ × (is_mark mark.OpenBrace k ≡ false)) (BracesText o l) Free no_cases
    ((token mark.OpenBrace some_place, o) ∷ (token mark.CloseBrace some_place, 0) ∷ [])
    (_, _, refl, (some_place, refl), (_, _, refl, refl, (some_place, refl))) in
    let b = branch (is_mark mark.OpenBrace) deep none
    (λ c z k s f. first_opened (λ i. is_mark mark.OpenBrace i ≡ true) mark.OpenBrace o s.0 s.1 z k s.2 s.3 (λ at. refl)) (λ c z k s f. absurd s) in
    rename b (BracesText o l) (λ c z s. elim s [ inl k ↦ k | inr k ↦ absurd k ]) (λ c z s. inl s)

abbrev pub AreExact : ℕ → ℕ → ℕ → Type 0
AreExact n d l = Exact n IsInner (branch_at d) Any (IsStmt (l + 1) (l + 1)) (IsStmt (l + 1) (l + 1)) AfterStmt ×
    Exact n IsInner (block_at d) AtBrace (BodyText (l + 1) (l + 1)) (BodyText (l + 1) (l + 1)) Free ×
    Exact n IsInner (braces_at d) Any (BracesText (l + 1) (l + 1)) (BracesText (l + 1) (l + 1)) Free

exact_block_stmt : (n d l : ℕ) → Exact n IsInner (block_at d) AtBrace (BodyText (l + 1) (l + 1)) (BodyText (l + 1) (l + 1)) Free
    → Exact n IsInner (map_read block_from (block_at d)) (λ k. ⊤ × (is_mark mark.OpenBrace k ≡ true)) (BlockText (l + 1) (l + 1)) (BlockText (l + 1) (l + 1))
    AfterStmt
exact_block_stmt n d l B =
    entry (retell (mapped B block_from AfterStmt (λ b k f t. absurd t) (λ b k f. tt)) (BlockText (l + 1) (l + 1)) (λ t z s. to_block (l + 1) (l + 1) t z s)
    (λ t z s. from_block (l + 1) (l + 1) t z s))
    (λ k. ⊤ × (is_mark mark.OpenBrace k ≡ true)) (λ k i. i.1)

pub exact_levels : (n d l : ℕ) → d + l ≡ n → AreExact n d l
unfolding levels
exact_levels n zero l h = (exact_too_deep n (l + 1) (omega arith), exact_deep_block n (l + 1) (omega arith), exact_deep_braces n (l + 1) (l + 1) (omega arith))
exact_levels n (suc d) l h =
    let k : d + (l + 1) ≡ n = omega arith in
    let low : l + 1 ≤ n = omega arith in
    let inner = exact_levels n d (l + 1) k in
    let simple = λ (o : ℕ) (j : o ≤ n). exact_simple n d (l + 1) o k j (branch_at d) inner.0 (braces_at d) inner.2 in
    let I = exact_block_stmt n d (l + 1) inner.1 in
    let S = simple 0 (omega arith) in
    let B = exact_body n d (l + 1) (simple_at d) (map_read block_from (block_at d)) k I S (l + 1) low in
    let blocks = entry B AtBrace (λ k i. tt) in
    let T = exact_stated {o = l + 1} {l = l + 1} (exact_block_stmt n (suc d) l blocks)
    (λ t z k s. block_first (l + 1) (l + 1) t z k s (λ i. is_mark mark.OpenBrace i ≡ true) (λ at. refl))
    (simple (l + 1) low) in
    let among = exact_statement n d (l + 1) (simple_at d) (map_read block_from (block_at d)) k I S in
    let C = exact_braces n (l + 1) (simple_at d) (map_read block_from (block_at d)) among (l + 1) low in
    (retell T (IsStmt (l + 1) (l + 1)) (λ t z s. either_stmt (l + 1) (l + 1) t z s) (λ t z s. stmt_either (l + 1) (l + 1) t z s), blocks, C)

-- the body of a function, at its level
pub exact_function_body : (n d : ℕ) → d + 1 ≡ n → Exact n IsInner (body_of (items_at d)) Any (BodyText 1 1) (BodyText 1 1) Free
exact_function_body n d h =
    let inner = exact_levels n d 1 h in
    let S = exact_simple n d 1 0 h (omega arith) (branch_at d) inner.0 (braces_at d) inner.2 in
    exact_body n d 1 (simple_at d) (map_read block_from (block_at d)) h (exact_block_stmt n d 1 inner.1) S 1 (omega arith)
