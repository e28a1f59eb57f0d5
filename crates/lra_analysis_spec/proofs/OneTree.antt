-- A program has one tree of operations: the statement, where it stands and the points after it leave no choice.
use Rattle.std.proofs.Common.{◌≡◌, ◌∙◌, ℕ, suc, List, length, Option, Some, None, refl, sym, ap, subst}
use Rattle.std.proofs.lemmas.Option.{same_Some, none-some}
use Rattle.lra_analysis_spec.specs.Crates.lra_program.Program.{Call, Rvalue, Stmt, Cases, BlockItems, Function, Program}
use Rattle.lra_analysis_spec.specs.Crates.lra_program.Step.{ReturnFrame, Op, push, push_for}
use Rattle.lra_analysis_spec.specs.Crates.{lra_base.declared.number_types.NumberType.NumberType, lra_program.Receivers.variable_at, lra_program.Receivers.result_receiver, lra_program.Sites.Site}
use Rattle.lra_analysis_spec.specs.Crates.{lra_program.Sites.sites_of, lra_program.Value.Argument, lra_program.Value.index_of, lra_program.declared.receivers.Receiver.Receiver}
use Rattle.lra_operations.specs.Inlined.{InlineState, move, at_point, within, among_cases, into_callee, InlineStmt, InlineCases, InlineItems, InlineDeclarator, InlineLoop, InlineRvalue, InlineCall}
use Rattle.lra_operations.specs.Inlined.{as_nothing, as_block, as_absent, as_assign, as_write, as_write_call, as_call, as_if, as_loop, as_for, as_break, as_continue, as_return, as_return_value}
use Rattle.lra_operations.specs.Inlined.{as_return_call, as_end, as_end_value, as_end_call, as_assert, as_assume, as_switch, as_no_cases, as_labelled, as_stated, as_none, as_declaration, as_array}
use Rattle.lra_operations.specs.Inlined.{as_statement, as_fresh, as_given, is_loop, as_value, as_result, is_call}
use Rattle.lra_operations.specs.{Agree.IsInlinedTree, Tree.Node, Tree.Arms}

-- the same tree, and the same number after it
abbrev Same : Node → Node → ℕ → ℕ → Type 0
Same g h q r = (g ≡ h) × (q ≡ r)

moved : (s t : InlineState) (n m q r : ℕ) → s ≡ t → n ≡ m → q ≡ r → move s n q ≡ move t m r
moved s t n m q r a b c = rw (a, b, c) refl

inside : (s t : InlineState) (l : Option ℕ) (q r : ℕ) → s ≡ t → q ≡ r → within s l q ≡ within t l r
inside s t l q r a b = rw (a, b) refl

inside_live : (s t : InlineState) (q r : ℕ) → s ≡ t → q ≡ r → within s (Some s.live) q ≡ within t (Some t.live) r
inside_live s t q r a b = rw (a, b) refl

called : (s t : InlineState) (x y : Receiver) (i j : ℕ) (c : Call) (f g : Function) → s ≡ t → x ≡ y → i ≡ j → f ≡ g
    → into_callee s (result_receiver f.result_type x) c (length f.parameters) i ≡ into_callee t (result_receiver g.result_type y) c (length g.parameters) j
called s t x y i j c f g a b d e = rw (a, b, d, e) refl

module _ (P : Program) (T : List Site) where
  mutual
    one_statement : {s t : InlineState} {a : Stmt} {g h : Node} {q r : ℕ} → s ≡ t → InlineStmt P T s a g q → InlineStmt P T t a h r → Same g h q r
    one_statement z (as_nothing i) (as_nothing j) = rw z (refl, refl)
    one_statement z (as_block d i) (as_block e j) = let (x, y, w) = one_list z d e in rw (z, x, w) (refl, refl)
    one_statement z as_absent as_absent = rw z (refl, refl)
    one_statement z (as_assign {s = s} {x = x} i d) (as_assign {s = t} j e) =
        let (k, l) = one_value z (ap (λ (u : InlineState). suc u.next) z) (ap (λ (u : InlineState). variable_at (index_of u.frame.here.base x.slot) x.number_type) z) d e in rw (z, k, l) (refl, refl)
    one_statement z (as_write i) (as_write j) = rw z (refl, refl)
    one_statement z (as_write_call {s = s} {x = x} i d) (as_write_call {s = t} j e) =
        let (k, l) = one_call z (ap (λ (u : InlineState). suc u.next) z) refl (ap (λ (u : InlineState). push_for u.frame.here.base x) z) d e in
        rw (z, k, l) (refl, refl)
    one_statement z (as_call i d) (as_call j e) = let (k, l) = one_value z (ap (λ (u : InlineState). suc u.next) z) refl d e in rw (z, k, l) (refl, refl)
    one_statement z (as_if {s = s} i d k) (as_if {s = t} j e l) =
        let (x, y) = one_statement (ap (λ (u : InlineState). at_point u (suc u.next)) z) d e in
        let (v, w) = one_statement (moved _ _ _ _ _ _ z (ap (λ (u : InlineState). u.live) z) y) k l in
        rw (z, x, v, w) (refl, refl)
    one_statement z (as_loop d) (as_loop e) = one_loop z (ap (λ (u : InlineState). suc u.next) z) d e
    one_statement z (as_for d k) (as_for e l) =
        let (x, y, v) = one_list (ap (λ (u : InlineState). at_point u (suc u.next)) z) d e in
        let (w, o) = one_loop (moved _ _ _ _ _ _ z y (ap (λ (u : InlineState). u.next) z)) v k l in
        rw (z, x, w, o) (refl, refl)
    one_statement z (as_break i k d) (as_break j l e) = rw (same_Some _ _ (sym i ∙ ap (λ (u : InlineState). u.frame.breaks) z ∙ j), z) (refl, refl)
    one_statement z (as_continue i k d) (as_continue j l e) = rw (same_Some _ _ (sym i ∙ ap (λ (u : InlineState). u.frame.continues) z ∙ j), z) (refl, refl)
    one_statement z (as_return i k d) (as_return j l e) = rw (same_Some _ _ (sym i ∙ ap (λ (u : InlineState). u.frame.back) z ∙ j), z) (refl, refl)
    one_statement z (as_return_value i k d) (as_return_value j l e) = rw (same_Some _ _ (sym i ∙ ap (λ (u : InlineState). u.frame.back) z ∙ j), z) (refl, refl)
    one_statement z (as_return_call i k d u) (as_return_call j l e v) =
        let b = same_Some _ _ (sym i ∙ ap (λ (u : InlineState). u.frame.back) z ∙ j) in
        let (x, y) = one_value z (ap (λ (u : InlineState). suc u.next) z) (ap (λ (r : ReturnFrame). r.receiver) b) u v in
        rw (z, b, x, y) (refl, refl)
    one_statement z (as_end i d) (as_end j e) = rw z (refl, refl)
    one_statement z (as_end_value i d) (as_end_value j e) = rw z (refl, refl)
    one_statement z (as_end_call i d u) (as_end_call j e v) = let (x, y) = one_value z (ap (λ (u : InlineState). suc u.next) z) refl u v in
        rw (z, x, y) (refl, refl)
    one_statement z (as_assert i) (as_assert j) = rw z (refl, refl)
    one_statement z (as_assume i) (as_assume j) = rw z (refl, refl)
    one_statement z (as_switch i d) (as_switch j e) = let (x, y) = one_cases (ap (λ (u : InlineState). among_cases u (suc u.next)) z) d e in
        rw (z, x, y) (refl, refl)
    -- a loop is no other statement, and what has a call to go back to isn't main
    one_statement z (as_nothing d) (as_loop e) = elim e [ ]
    one_statement z (as_block d k) (as_loop e) = elim e [ ]
    one_statement z as_absent (as_loop e) = elim e [ ]
    one_statement z (as_assign d k) (as_loop e) = elim e [ ]
    one_statement z (as_write d) (as_loop e) = elim e [ ]
    one_statement z (as_write_call d k) (as_loop e) = elim e [ ]
    one_statement z (as_call d k) (as_loop e) = elim e [ ]
    one_statement z (as_if d k l) (as_loop e) = elim e [ ]
    one_statement z (as_for d k) (as_loop e) = elim e [ ]
    one_statement z (as_break d k l) (as_loop e) = elim e [ ]
    one_statement z (as_continue d k l) (as_loop e) = elim e [ ]
    one_statement z (as_return d k l) (as_loop e) = elim e [ ]
    one_statement z (as_return_value d k l) (as_loop e) = elim e [ ]
    one_statement z (as_return_call d k l m) (as_loop e) = elim e [ ]
    one_statement z (as_end d k) (as_loop e) = elim e [ ]
    one_statement z (as_end_value d k) (as_loop e) = elim e [ ]
    one_statement z (as_end_call d k l) (as_loop e) = elim e [ ]
    one_statement z (as_assert d) (as_loop e) = elim e [ ]
    one_statement z (as_assume d) (as_loop e) = elim e [ ]
    one_statement z (as_switch d k) (as_loop e) = elim e [ ]
    one_statement z (as_loop e) (as_nothing d) = elim e [ ]
    one_statement z (as_loop e) (as_block d k) = elim e [ ]
    one_statement z (as_loop e) as_absent = elim e [ ]
    one_statement z (as_loop e) (as_assign d k) = elim e [ ]
    one_statement z (as_loop e) (as_write d) = elim e [ ]
    one_statement z (as_loop e) (as_write_call d k) = elim e [ ]
    one_statement z (as_loop e) (as_call d k) = elim e [ ]
    one_statement z (as_loop e) (as_if d k l) = elim e [ ]
    one_statement z (as_loop e) (as_for d k) = elim e [ ]
    one_statement z (as_loop e) (as_break d k l) = elim e [ ]
    one_statement z (as_loop e) (as_continue d k l) = elim e [ ]
    one_statement z (as_loop e) (as_return d k l) = elim e [ ]
    one_statement z (as_loop e) (as_return_value d k l) = elim e [ ]
    one_statement z (as_loop e) (as_return_call d k l m) = elim e [ ]
    one_statement z (as_loop e) (as_end d k) = elim e [ ]
    one_statement z (as_loop e) (as_end_value d k) = elim e [ ]
    one_statement z (as_loop e) (as_end_call d k l) = elim e [ ]
    one_statement z (as_loop e) (as_assert d) = elim e [ ]
    one_statement z (as_loop e) (as_assume d) = elim e [ ]
    one_statement z (as_loop e) (as_switch d k) = elim e [ ]
    one_statement z (as_return i k d) (as_end j e) = absurd (none-some _ (sym j ∙ ap (λ (u : InlineState). u.frame.back) (sym z) ∙ i))
    one_statement z (as_end j e) (as_return i k d) = absurd (none-some _ (sym j ∙ ap (λ (u : InlineState). u.frame.back) z ∙ i))
    one_statement z (as_return_value i k d) (as_end_value j e) = absurd (none-some _ (sym j ∙ ap (λ (u : InlineState). u.frame.back) (sym z) ∙ i))
    one_statement z (as_end_value j e) (as_return_value i k d) = absurd (none-some _ (sym j ∙ ap (λ (u : InlineState). u.frame.back) z ∙ i))
    one_statement z (as_return_call i k d u) (as_end_call j e v) = absurd (none-some _ (sym j ∙ ap (λ (u : InlineState). u.frame.back) (sym z) ∙ i))
    one_statement z (as_end_call j e v) (as_return_call i k d u) = absurd (none-some _ (sym j ∙ ap (λ (u : InlineState). u.frame.back) z ∙ i))

    one_list : {s t : InlineState} {b : BlockItems} {g h : Node} {n m q r : ℕ} → s ≡ t → InlineItems P T s b g n q → InlineItems P T t b h m r →
        (g ≡ h) × (n ≡ m) × (q ≡ r)
    one_list z as_none as_none = rw z (refl, refl, refl)
    one_list z (as_declaration i d k) (as_declaration j e l) =
        let (x, y) = one_declarator z (ap (λ (u : InlineState). suc u.next) z) d e in
        let (v, n, w) = one_list (moved _ _ _ _ _ _ z (ap (λ (u : InlineState). suc u.live) z) y) k l in
        rw (z, x, v, n, w) (refl, refl, refl)
    one_list z (as_array i k) (as_array j l) =
        let (v, n, w) = one_list (ap (λ (u : InlineState). at_point u (suc u.next)) z) k l in
        rw (z, v, n, w) (refl, refl, refl)
    one_list z (as_statement d k) (as_statement e l) =
        let (x, y) = one_statement z d e in
        let (v, n, w) = one_list (moved _ _ _ _ _ _ z (ap (λ (u : InlineState). u.live) z) y) k l in
        rw (x, v, n, w) (refl, refl, refl)

    one_cases : {s t : InlineState} {cs : Cases} {g h : Arms} {q r : ℕ} → s ≡ t → InlineCases P T s cs g q → InlineCases P T t cs h r → (g ≡ h) × (q ≡ r)
    one_cases z as_no_cases as_no_cases = rw z (refl, refl)
    one_cases z (as_labelled d) (as_labelled e) = let (x, y) = one_cases z d e in rw (x, y) (refl, refl)
    one_cases z (as_stated d k) (as_stated e l) =
        let (x, y) = one_statement z d e in
        let (v, w) = one_cases (moved _ _ _ _ _ _ z (ap (λ (u : InlineState). u.live) z) y) k l in
        rw (x, v, w) (refl, refl)

    one_declarator : {s t : InlineState} {i j : ℕ} {o : NumberType} {e : Option Rvalue} {g h : Node} {q r : ℕ} → s ≡ t → i ≡ j → InlineDeclarator P T s i o e g q → InlineDeclarator P T t j o e h r →
        Same g h q r
    one_declarator z n as_fresh as_fresh = rw (z, n) (refl, refl)
    one_declarator z n (as_given {t = o} d) (as_given e) =
        let (x, y) = one_value (moved _ _ _ _ _ _ z (ap (λ (u : InlineState). suc u.live) z) (ap (λ (u : InlineState). u.next) z)) n (ap (λ (u : InlineState). variable_at u.live o) z) d e in
        rw (z, x, y) (refl, refl)

    one_loop : {s t : InlineState} {i j : ℕ} {a : Stmt} {g h : Node} {q r : ℕ} → s ≡ t → i ≡ j → InlineLoop P T s i a g q → InlineLoop P T t j a h r →
        Same g h q r
    one_loop z n (is_loop i d k) (is_loop j e l) =
        let (x, y) = one_statement (inside _ _ None _ _ z n) d e in
        let (v, w) = one_statement (inside_live _ _ _ _ z y) k l in
        rw (z, x, v, w) (refl, refl)

    one_value : {s t : InlineState} {i j : ℕ} {x y : Receiver} {e : Rvalue} {g h : Node} {q r : ℕ} → s ≡ t → i ≡ j → x ≡ y → InlineRvalue P T s i x e g q → InlineRvalue P T t j y e h r → Same g h q r
    one_value z n k as_value as_value = rw (z, n, k) (refl, refl)
    one_value z n k (as_result d) (as_result e) = one_call z n k (ap (λ (u : InlineState). push u.frame.here.base) z) d e

    one_call : {s t : InlineState} {i j : ℕ} {x y : Receiver} {gives others : List Argument → Op} {c : Call} {g h : Node} {q r : ℕ} → s ≡ t → i ≡ j → x ≡ y
        → gives ≡ others → InlineCall P T s i x gives c g q → InlineCall P T t j y others c h r → Same g h q r
    one_call z n k p (is_call {s = s} {r = i} {x = x} {c = c} {fn = fn} f a d l) (is_call {s = t} {r = j} {x = y} {fn = fn'} {g = g'} {n = n'} {q = q'} f' a' e l') =
        let m : fn ≡ fn' = same_Some _ _ (sym f ∙ f') in
        let (o, v, w) = one_list (called s t x y i j c fn fn' z k n m) d
        (subst (λ (u : Function). InlineItems P T (into_callee t (result_receiver fn'.result_type y) c (length fn'.parameters) j) u.body g' n' q') (sym m) e) in
        rw (z, k, p, m, o, w) (refl, refl)

pub one_tree : (P : Program) (g h : Node) → IsInlinedTree P g → IsInlinedTree P h → g ≡ h
one_tree P g h a b =
    let (body, live, last) = one_list P (sites_of P) refl a.inlined b.inlined in
    a.parts ∙ rw (body, last) refl ∙ sym b.parts
