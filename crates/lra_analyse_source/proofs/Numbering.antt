-- The tree of a program has each number of a point once.
use Rattle.std.proofs.Common.{◌≡◌, ℕ, zero, suc, ◌+◌, ◌≤◌, ◌<◌, List, [], ◌∷◌, length, Option, Some, None, Bool, true, false, inl, inr, refl, sym, ap, ◌∙◌, subst, arith}
use Rattle.std.proofs.{lemmas.Bool.cases_lt, lemmas.Option.none-some, lemmas.Option.slice_get_within}
use Rattle.std.specs.Prelude.{slice_get, cond}
use Rattle.lra_analyse_source.specs.Crates.lra_operations.Inlined.{InlineState, spot_of, move, callee, IsSiteAt, IsSiteWith, InlineStmt, InlineItems, InlineDeclarator, InlineLoop, InlineRvalue}
use Rattle.lra_analyse_source.specs.Crates.lra_operations.Inlined.{as_nothing, as_block, as_absent, as_assign, as_call, as_if, as_loop, as_for, as_break, InlineCases, as_switch, as_no_cases}
use Rattle.lra_analyse_source.specs.Crates.lra_operations.Inlined.{as_labelled, as_stated, as_continue, as_return, as_return_value, as_return_call, as_end, as_end_value, as_end_call, as_assert}
use Rattle.lra_analyse_source.specs.Crates.lra_operations.Inlined.{as_assume, as_none, as_declaration, as_statement, as_fresh, as_given, is_loop, as_value, as_result, is_call, InlineCall, as_array}
use Rattle.lra_analyse_source.specs.Crates.lra_operations.Inlined.{as_write, as_write_call, main_inline_state}
use Rattle.lra_analyse_source.specs.Crates.lra_operations.Tree.{Node, Arms, seq, point}
use Rattle.lra_analyse_source.specs.Crates.lra_program.Program.{Call, Rvalue, Stmt, Cases, BlockItems, Program}
use Rattle.lra_analyse_source.specs.Crates.{lra_base.declared.number_types.NumberType.NumberType, lra_operations.Agree.IsInlinedTree, lra_program.Receivers.result_receiver, lra_program.Sites.Site}
use Rattle.lra_analyse_source.specs.Crates.{lra_program.Sites.sites_of, lra_program.Step.Op, lra_program.Value.Argument, lra_program.declared.receivers.Receiver.Receiver}
use Rattle.lra_fixpoint.specs.Numbers.{one_if, values_in, values_in_arms, checks_in, checks_in_arms, asserts_of, IsNumbered}
use Rattle.lra_fixpoint.proofs.Counting.{one_same, one_other}

-- c is w for a number k from a on that is below b, and 0 for another
pub record Counts (w c a b k : ℕ) : Type 0 where
  pub inside : a ≤ k → k < b → c ≡ w
  pub before : k < a → c ≡ 0
  pub behind : b ≤ k → c ≡ 0

no_count : (w a k : ℕ) → Counts w 0 a a k
no_count w a k = record { inside = λ h i. absurd (omega (arith, h, i)); before = λ h. refl; behind = λ h. refl }

both_counts : (w c d x a m b k : ℕ) → a ≤ m → m ≤ b → Counts w c a m k → Counts w d m b k → x ≡ c + d → Counts w x a b k
both_counts w c d x a m b k l h p q e = record {
  inside = λ i j. elim (cases_lt k m)
      [ inl n ↦ (let f = p.inside i n in let g = q.before n in omega (arith, f, g, e)) | inr n ↦ (let f = p.behind n in let g = q.inside n j in omega (arith, f, g, e)) ];
  before = λ i. let f = p.before i in let g = q.before (omega (arith, i, l)) in omega (arith, f, g, e);
  behind = λ i. let f = p.behind (omega (arith, i, h)) in let g = q.behind i in omega (arith, f, g, e);
}

one_counts : (q k : ℕ) → Counts 1 (one_if q k) q (suc q) k
one_counts q k = record {
  inside = λ h i. let same : q ≡ k = omega (arith, h, i) in subst (λ (j : ℕ). one_if q j ≡ 1) same (one_same q);
  before = λ h. one_other q k (λ e. omega (arith, h, e));
  behind = λ h. one_other q k (λ e. omega (arith, h, e));
}

module _ (T : List Site) (k : ℕ) where
  -- values and assertions with the numbers from a on that are below b
  pub record Numbers (c d a b : ℕ) : Type 0 where
    pub low : a ≤ b
    pub values : Counts 1 c a b k
    pub checks : Counts (asserts_of (slice_get T k)) d a b k

  none : (a : ℕ) → Numbers 0 0 a a
  none a = record { low = omega arith; values = no_count 1 a k; checks = no_count (asserts_of (slice_get T k)) a k }

  then : (c d c' d' x y a m b : ℕ) → Numbers c d a m → Numbers c' d' m b → x ≡ c + c' → y ≡ d + d' → Numbers x y a b
  then c d c' d' x y a m b p q e f = record {
    low = let l = p.low in let h = q.low in omega arith;
    values = both_counts 1 c c' x a m b k p.low q.low p.values q.values e;
    checks = both_counts (asserts_of (slice_get T k)) d d' y a m b k p.low q.low p.checks q.checks f;
  }

  same : (c d x y a b : ℕ) → Numbers c d a b → x ≡ c → y ≡ d → Numbers x y a b
  same c d x y a b p e f = subst (λ (z : ℕ). Numbers x z a b) (sym f) (subst (λ (z : ℕ). Numbers z d a b) (sym e) p)

  asserts_there : (s : InlineState) (at : ℕ) (b : Bool) → IsSiteWith T s at b → s.next ≡ k → asserts_of (slice_get T k) ≡ cond b 1 0
  asserts_there s at b has e = subst (λ (j : ℕ). asserts_of (slice_get T j) ≡ cond b 1 0) e (ap asserts_of has)

  -- a point that is no assertion
  plain : (s : InlineState) (at : ℕ) → IsSiteAt T s at → Numbers (one_if s.next k) 0 s.next (suc s.next)
  plain s at has = record {
    low = omega arith;
    values = one_counts s.next k;
    checks = record { inside = λ h i. sym (asserts_there s at false has (omega (arith, h, i))); before = λ h. refl; behind = λ h. refl };
  }

  -- and one that is
  asserted : (s : InlineState) (at : ℕ) → IsSiteWith T s at true → Numbers (one_if s.next k) (one_if s.next k) s.next (suc s.next)
  asserted s at has = record {
    low = omega arith;
    values = one_counts s.next k;
    checks = record {
      inside = λ h i. (one_counts s.next k).inside h i ∙ sym (asserts_there s at true has (omega (arith, h, i)));
      before = (one_counts s.next k).before;
      behind = (one_counts s.next k).behind;
    };
  }

  abbrev pub In : Node → ℕ → ℕ → Type 0
  In g a b = Numbers (values_in g k) (checks_in g k) a b

  -- a loop: its own point, and the others
  pub record Loop (g : Node) (q r b : ℕ) : Type 0 where
    pub others : ℕ
    pub own : Numbers (one_if q k) 0 q (suc q)
    pub rest : Numbers others (checks_in g k) r b
    pub is : values_in g k ≡ one_if q k + others

  point_then : (q b c d x y : ℕ) → Numbers (one_if q k) 0 q (suc q) → Numbers c d (suc q) b → x ≡ one_if q k + c → y ≡ d → Numbers x y q b
  point_then q b c d x y p h e f = then (one_if q k) 0 c d x y q (suc q) b p h e (omega (arith, f))

  module _ (P : Program) where
    mutual
      in_one : {spot : InlineState} {s : Stmt} {g : Node} {q : ℕ} → InlineStmt P T spot s g q → In g spot.next q
      in_one (as_nothing {s = spot} {at = at} i) = plain spot at i
      in_one (as_block {s = spot} {end = end} {g = g} {n = n'} {q = q'} d i) = then (values_in g k) (checks_in g k) (one_if q' k) 0 _ _ spot.next q' (suc q') (in_all d) (plain (move spot n' q') end i)
          (omega arith) (omega arith)
      in_one (as_absent {s = spot}) = none spot.next
      in_one (as_assign {s = spot} {at = at} {g = g} {q = q'} i d) = point_then spot.next q' (values_in g k) (checks_in g k) _ _ (plain spot at i) (in_gives d) refl (omega arith)
      in_one (as_write {s = spot} {at = at} i) = same (one_if spot.next k) 0 _ _ spot.next (suc spot.next) (plain spot at i) (omega arith) (omega arith)
      in_one (as_write_call {s = spot} {at = at} {g = g} {q = q'} i d) = point_then spot.next q' (values_in g k) (checks_in g k) _ _ (plain spot at i) (in_calls d) refl (omega arith)
      in_one (as_call {s = spot} {at = at} {g = g} {q = q'} i d) = point_then spot.next q' (values_in g k) (checks_in g k) _ _ (plain spot at i) (in_gives d) refl (omega arith)
      in_one (as_if {s = spot} {at = at} {g = g} {h = h} {r = r} {q = q'} i d e) =
          point_then spot.next q' (values_in g k + values_in h k) (checks_in g k + checks_in h k) _ _ (plain spot at i)
          (then (values_in g k) (checks_in g k) (values_in h k) (checks_in h k) _ _ (suc spot.next) r q' (in_one d) (in_one e) refl refl) refl (omega arith)
      in_one (as_loop {s = spot} {g = g} {q = q'} d) = let l = in_loop d in point_then spot.next q' l.others (checks_in g k) _ _ l.own l.rest l.is refl
      in_one (as_for {s = spot} {g = g} {h = h} {r = r} {q = q'} d e) =
          let l = in_loop e in
          point_then spot.next q' (values_in g k + l.others) (checks_in g k + checks_in h k) _ _ l.own
          (then (values_in g k) (checks_in g k) l.others (checks_in h k) _ _ (suc spot.next) r q' (in_all d) l.rest refl refl) (let is = l.is in omega (arith, is)) (omega arith)
      in_one (as_break {s = spot} {at = at} i l j) = same (one_if spot.next k) 0 _ _ spot.next (suc spot.next) (plain spot at j) (omega arith) (omega arith)
      in_one (as_continue {s = spot} {at = at} i l j) = same (one_if spot.next k) 0 _ _ spot.next (suc spot.next) (plain spot at j) (omega arith) (omega arith)
      in_one (as_return {s = spot} {at = at} i l j) = same (one_if spot.next k) 0 _ _ spot.next (suc spot.next) (plain spot at j) (omega arith) (omega arith)
      in_one (as_return_value {s = spot} {at = at} i l j) = same (one_if spot.next k) 0 _ _ spot.next (suc spot.next) (plain spot at j) (omega arith) (omega arith)
      in_one (as_return_call {s = spot} {at = at} {g = g} {q = q'} i l j d) = point_then spot.next q' (values_in g k) (checks_in g k) _ _ (plain spot at j) (in_gives d) (omega arith) (omega arith)
      in_one (as_end {s = spot} {at = at} i j) = same (one_if spot.next k) 0 _ _ spot.next (suc spot.next) (plain spot at j) (omega arith) (omega arith)
      in_one (as_end_value {s = spot} {at = at} i j) = same (one_if spot.next k) 0 _ _ spot.next (suc spot.next) (plain spot at j) (omega arith) (omega arith)
      in_one (as_end_call {s = spot} {at = at} {g = g} {q = q'} i j d) = point_then spot.next q' (values_in g k) (checks_in g k) _ _ (plain spot at j) (in_gives d) (omega arith) (omega arith)
      in_one (as_assert {s = spot} {at = at} i) = same (one_if spot.next k) (one_if spot.next k) _ _ spot.next (suc spot.next) (asserted spot at i) (omega arith) (omega arith)
      in_one (as_assume {s = spot} {at = at} i) = same (one_if spot.next k) 0 _ _ spot.next (suc spot.next) (plain spot at i) (omega arith) (omega arith)
      in_one (as_switch {s = spot} {at = at} {arms = arms} {q = q'} i d) =
          point_then spot.next q' (values_in_arms arms k) (checks_in_arms arms k) _ _ (plain spot at i) (in_cases d) refl (omega arith)

      in_cases : {spot : InlineState} {cs : Cases} {arms : Arms} {q : ℕ} → InlineCases P T spot cs arms q
          → Numbers (values_in_arms arms k) (checks_in_arms arms k) spot.next q
      in_cases (as_no_cases {s = spot}) = none spot.next
      in_cases (as_labelled d) = in_cases d
      in_cases (as_stated {s = spot} {g = g} {arms = arms} {r = r} {q = q'} d e) =
          then (values_in g k) (checks_in g k) (values_in_arms arms k) (checks_in_arms arms k) _ _ spot.next r q' (in_one d) (in_cases e) refl refl

      in_all : {spot : InlineState} {s : BlockItems} {g : Node} {n q : ℕ} → InlineItems P T spot s g n q → In g spot.next q
      in_all (as_none {s = spot}) = none spot.next
      in_all (as_declaration {s = spot} {d = d} {g = g} {h = h} {r = r} {q = q'} i j e) =
          point_then spot.next q' (values_in g k + values_in h k) (checks_in g k + checks_in h k) _ _ (plain spot d.label i)
          (then (values_in g k) (checks_in g k) (values_in h k) (checks_in h k) _ _ (suc spot.next) r q' (in_declares j) (in_all e) refl refl) (omega arith) (omega arith)
      in_all (as_array {s = spot} {at = at} {h = h} {q = q'} i e) =
          point_then spot.next q' (values_in h k) (checks_in h k) _ _ (plain spot at i) (in_all e) (omega arith) (omega arith)
      in_all (as_statement {s = spot} {g = g} {h = h} {r = r} {q = q'} d e) = then (values_in g k) (checks_in g k) (values_in h k) (checks_in h k) _ _ spot.next r q' (in_one d) (in_all e) refl refl

      in_declares : {spot : InlineState} {r : ℕ} {t : NumberType} {e : Option Rvalue} {g : Node} {q : ℕ} → InlineDeclarator P T spot r t e g q → In g r q
      in_declares (as_fresh {r = r}) = none r
      in_declares (as_given {r = r} {g = g} {q = q'} d) = same (values_in g k) (checks_in g k) _ _ r q' (in_gives d) (omega arith) (omega arith)

      in_loop : {spot : InlineState} {r : ℕ} {s : Stmt} {g : Node} {q : ℕ} → InlineLoop P T spot r s g q → Loop g spot.next r q
      in_loop (is_loop {s = spot} {r = r} {at = at} {g = g} {h = h} {m = r'} {q = q'} i d e) = record {
        others = values_in g k + values_in h k;
        own = plain spot at i;
        rest = then (values_in h k) (checks_in h k) (values_in g k) (checks_in g k) _ _ r r' q' (in_one d) (in_one e) (omega arith) (omega arith);
        is = refl;
      }

      in_gives : {spot : InlineState} {r : ℕ} {x : Receiver} {e : Rvalue} {g : Node} {q : ℕ} → InlineRvalue P T spot r x e g q → In g r q
      in_gives (as_value {r = r}) = none r
      in_gives (as_result d) = in_calls d

      in_calls : {spot : InlineState} {r : ℕ} {x : Receiver} {gives : List Argument → Op} {c : Call} {g : Node} {q : ℕ} → InlineCall P T spot r x gives c g q →
          In g r q
      in_calls (is_call {s = spot} {r = r} {x = x} {c = c} {fn = fn} {g = g} {n = n'} {q = r'} i j d l) =
          then (values_in g k) (checks_in g k) (one_if r' k) 0 _ _ r r' (suc r') (in_all d) (plain (spot_of (callee spot.frame spot.live (result_receiver fn.result_type x) c) n' r') fn.end l)
          (omega arith) (omega arith)

past_none : {A : Type 0} (xs : List A) (k : ℕ) → slice_get xs k ≡ None → length xs ≤ k
past_none [] k e = omega arith
past_none (x ∷ xs) zero e = absurd (none-some x (sym e))
past_none (x ∷ xs) (suc k) e = let h = past_none xs k e in omega (arith, h)

pub numbered : (P : Program) (g : Node) → IsInlinedTree P g → IsNumbered (sites_of P) g
numbered P g graph = subst (λ (h : Node). IsNumbered (sites_of P) h) (sym graph.parts) (record {
  values = λ k s there. let n = all k in let inside = slice_get_within (sites_of P) k s there in n.values.inside (omega arith) (omega (arith, inside, graph.all));
  no_values = λ k there. let n = all k in let past = past_none (sites_of P) k there in n.values.behind (omega (arith, past, graph.all));
  checks = λ k. checked k (slice_get (sites_of P) k) refl;
})
  where
    all : (k : ℕ) → Numbers (sites_of P) k (values_in (seq graph.body (point graph.last)) k) (checks_in (seq graph.body (point graph.last)) k) 0 (suc graph.last)
    all k = then (sites_of P) k (values_in graph.body k) (checks_in graph.body k) (one_if graph.last k) 0 _ _ 0 graph.last (suc graph.last)
        (in_all (sites_of P) k P graph.inlined) (plain (sites_of P) k (move (main_inline_state P) graph.live graph.last) P.main.end graph.ends) refl refl

    checked : (k : ℕ) (o : Option Site) → slice_get (sites_of P) k ≡ o → checks_in (seq graph.body (point graph.last)) k ≡ asserts_of (slice_get (sites_of P) k)
    checked k (Some s) there = let n = all k in let inside = slice_get_within (sites_of P) k s there in n.checks.inside (omega arith) (omega (arith, inside, graph.all))
    checked k None there = let n = all k in let past = past_none (sites_of P) k there in n.checks.behind (omega (arith, past, graph.all)) ∙ sym (ap asserts_of there)
