-- A tree asks at each point once at most: what a part's tree asks stands at the part's own points.
use Rattle.std.proofs.Common.{◌≡◌, ℕ, zero, suc, ◌+◌, ◌<◌, ◌≤◌, List, [], ◌∷◌, ◌++◌, Option, Some, None, Bool, true, false, ◌⊎◌, inl, inr, refl, sym, ap, ◌∙◌, slice_get, arith}
use Rattle.std.proofs.lemmas.Option.{same_Some, none-some}
use Rattle.std.specs.Prelude.{if◌then◌else◌}
use Rattle.lra_inline_sound.specs.Crates.lra_base.declared.number_types.NumberType.{NumberType}
use Rattle.lra_inline_sound.specs.Crates.lra_program.Program.{Call, Rvalue, Stmt, Cases, BlockItems, Program}
use Rattle.lra_inline_sound.specs.Crates.lra_program.Step.{Op, append, fill, store_value, store_element, havoc, truncate_to, test, main_receiver}
use Rattle.lra_inline_sound.specs.Crates.{lra_program.Receivers.nobody, lra_program.Sites.Site, lra_program.Value.Argument, lra_program.declared.receivers.Receiver.Receiver}
use Rattle.lra_operations.specs.CheckedOperations.{OpAtPoint, op_where, ops_where, ops_where_in_arms, fresh_after, AreOncePerPoint}
use Rattle.lra_operations.specs.Inlined.{InlineState, InlineStmt, InlineItems, InlineDeclarator, InlineLoop, InlineRvalue, InlineCall, as_nothing, as_block, as_absent, as_assign, as_call, as_if}
use Rattle.lra_operations.specs.Inlined.{as_loop, as_for, as_break, as_continue, as_return, as_return_value, as_return_call, as_end, as_end_value, as_end_call, as_assert, as_assume, as_switch}
use Rattle.lra_operations.specs.Inlined.{as_no_cases, as_labelled, as_stated, InlineCases, as_none, as_declaration, as_statement, as_fresh, as_given, is_loop, as_value, as_result, is_call, as_array}
use Rattle.lra_operations.specs.Inlined.{as_write, as_write_call, return_node}
use Rattle.lra_operations.specs.{Agree.IsInlinedTree, Tree.Exit, Tree.broken, Tree.continued, Tree.returned, Tree.Node, Tree.point, Tree.act, Tree.seq, Tree.leave, Tree.Arms}
use Rattle.lra_inline_sound.proofs.DistinctLists.{IsIn, AllDiffer, in_either, differ_join, one_place}
use Rattle.lra_inline_sound.proofs.Shapes.{inner, given, width, tail_node}

abbrev points_of : List OpAtPoint → List ℕ
points_of [] = []
points_of (x ∷ xs) = x.point ∷ points_of xs

points_append : (xs ys : List OpAtPoint) → points_of (xs ++ ys) ≡ points_of xs ++ points_of ys
points_append [] ys = refl
points_append (x ∷ xs) ys = ap (λ qs. x.point ∷ qs) (points_append xs ys)

point_at : (xs : List OpAtPoint) (i : ℕ) (x : OpAtPoint) → slice_get xs i ≡ Some x → slice_get (points_of xs) i ≡ Some x.point
point_at [] i x e = absurd (none-some x e)
point_at (y ∷ xs) zero x e = ap (λ (z : OpAtPoint). Some z.point) (same_Some y x e)
point_at (y ∷ xs) (suc i) x e = point_at xs i x e

-- from here to there, or the one of its own before them
abbrev LiesIn : Option ℕ → ℕ → ℕ → ℕ → Type 0
LiesIn own low high q = (own ≡ Some q) ⊎ ((low ≤ q) × (q < high))

-- what is asked at points that differ
pub record Once (own : Option ℕ) (low high : ℕ) (xs : List OpAtPoint) : Type 0 where
  pub up : low ≤ high
  pub before : (q : ℕ) → own ≡ Some q → q < low
  pub differ : AllDiffer (points_of xs)
  pub among : (q : ℕ) → IsIn q (points_of xs) → LiesIn own low high q

once_none : (low high : ℕ) → low ≤ high → Once None low high []
once_none low high up = record { up = up; before = λ q e. absurd (none-some q e); differ = tt; among = λ q i. absurd i }

once_if : (b : Bool) (low : ℕ) (x : OpAtPoint) → x.point < low → Once (Some x.point) low low (if b then x ∷ [] else [])
once_if true low x less = record {
  up = omega arith;
  before = λ q e. let same = same_Some x.point q e in omega arith;
  differ = (λ i. i, tt);
  among = λ q i. elim i [ inl e ↦ inl (ap Some (sym e)) | inr j ↦ absurd j ];
}
once_if false low x less = record { up = omega arith; before = λ q e. let same = same_Some x.point q e in omega arith; differ = tt; among = λ q i. absurd i }

once_op : (asks : Op → Bool) (q low : ℕ) (fresh : Option NumberType) (op : Op) → q < low → Once (Some q) low low (op_where asks q fresh op)
once_op asks q low fresh op less = once_if (asks op) low (record { point = q; fresh = fresh; op = op }) less

-- the own one is the first of all
once_from : (q low high : ℕ) (xs : List OpAtPoint) → Once (Some q) low high xs → Once None q high xs
once_from q low high xs x = let less = x.before q refl in record {
  up = omega arith;
  before = λ p e. absurd (none-some p e);
  differ = x.differ;
  among = λ p i. by p (x.among p i);
}
  where
    by : (p : ℕ) → LiesIn (Some q) low high p → LiesIn None q high p
    by p (inl e) = let less = x.before q refl in let same = same_Some q p e in inr (omega arith, omega arith)
    by p (inr h) = let less = x.before q refl in inr (omega (arith, h), h.1)

-- those of one part, and then those of another
once_join : (own one two : Option ℕ) (low high l h l' h' : ℕ) (xs ys : List OpAtPoint) → low ≤ high → ((q : ℕ) → own ≡ Some q → q < low) → Once one l h xs →
    Once
    two l' h' ys
    → ((q : ℕ) → LiesIn one l h q → LiesIn own low high q) → ((q : ℕ) → LiesIn two l' h' q → LiesIn own low high q) →
    ((q : ℕ) → LiesIn one l h q → LiesIn two l' h' q → ⊥)
    → Once own low high (xs ++ ys)
once_join own one two low high l h l' h' xs ys up before x y left right apart = record {
  up = up;
  before = before;
  differ = rw (points_append xs ys) (differ_join (points_of xs) (points_of ys) x.differ y.differ (λ q i j. apart q (x.among q i) (y.among q j)));
  among = rw (points_append xs ys) (λ q i. elim (in_either q (points_of xs) (points_of ys) i) [ inl j ↦ left q (x.among q j) | inr j ↦ right q (y.among q j) ]);
}

-- whose points lie after
once_both : (own : Option ℕ) (low mid high : ℕ) (xs ys : List OpAtPoint) → Once own low mid xs → Once None mid high ys → Once own low high (xs ++ ys)
once_both own low mid high xs ys x y = once_join own own None low high low mid mid high xs ys (omega arith) x.before x y left right apart
  where
    left : (q : ℕ) → LiesIn own low mid q → LiesIn own low high q
    left q (inl e) = inl e
    left q (inr r) = let last = y.up in inr (r.0, omega (arith, r))

    right : (q : ℕ) → LiesIn None mid high q → LiesIn own low high q
    right q (inl e) = absurd (none-some q e)
    right q (inr r) = let first = x.up in inr (omega (arith, r), r.1)

    apart : (q : ℕ) → LiesIn own low mid q → LiesIn None mid high q → ⊥
    apart q i (inl e) = absurd (none-some q e)
    apart q (inl e) (inr r) = let less = x.before q e in let first = x.up in absurd (omega (arith, r))
    apart q (inr i) (inr r) = absurd (omega (arith, i, r))

-- before
once_swapped : (low mid high : ℕ) (xs ys : List OpAtPoint) → Once None mid high xs → Once None low mid ys → Once None low high (xs ++ ys)
once_swapped low mid high xs ys x y = once_join None None None low high mid high low mid xs ys (omega arith) (λ p e. absurd (none-some p e)) x y left right
    apart
  where
    left : (q : ℕ) → LiesIn None mid high q → LiesIn None low high q
    left q (inl e) = absurd (none-some q e)
    left q (inr r) = let first = y.up in inr (omega (arith, r), r.1)

    right : (q : ℕ) → LiesIn None low mid q → LiesIn None low high q
    right q (inl e) = absurd (none-some q e)
    right q (inr r) = let last = x.up in inr (r.0, omega (arith, r))

    apart : (q : ℕ) → LiesIn None mid high q → LiesIn None low mid q → ⊥
    apart q (inl e) j = absurd (none-some q e)
    apart q (inr i) (inl e) = absurd (none-some q e)
    apart q (inr i) (inr j) = absurd (omega (arith, i, j))

-- after, but for the own one before all
once_around : (own low mid high : ℕ) (xs ys : List OpAtPoint) → own < low → Once None low mid xs → Once (Some own) mid high ys → Once None own high (xs ++ ys)
once_around own low mid high xs ys less x y = once_join None None (Some own) own high low mid mid high xs ys (omega arith) (λ p e. absurd (none-some p e)) x y
    left right apart
  where
    left : (q : ℕ) → LiesIn None low mid q → LiesIn None own high q
    left q (inl e) = absurd (none-some q e)
    left q (inr r) = let last = y.up in inr (omega (arith, r), omega (arith, r))

    right : (q : ℕ) → LiesIn (Some own) mid high q → LiesIn None own high q
    right q (inl e) = let same = same_Some own q e in let first = x.up in let last = y.up in inr (omega arith, omega arith)
    right q (inr r) = let first = x.up in inr (omega (arith, r), r.1)

    apart : (q : ℕ) → LiesIn None low mid q → LiesIn (Some own) mid high q → ⊥
    apart q (inl e) j = absurd (none-some q e)
    apart q (inr i) (inl e) = let same = same_Some own q e in absurd (omega (arith, i))
    apart q (inr i) (inr j) = absurd (omega (arith, i, j))

-- an operation at the statement's own point, and nothing else
once_alone : (asks : Op → Bool) (q : ℕ) (fresh : Option NumberType) (op : Op) → Once None q (suc q) (op_where asks q fresh op)
once_alone asks q fresh op = once_from q (suc q) (suc q) (op_where asks q fresh op) (once_op asks q (suc q) fresh op (omega arith))

-- what stands beside others at a point isn't asked
pub record Unasked (asks : Op → Bool) : Type 0 where
  pub appends : (t : NumberType) → asks (append t) ≡ false
  pub anys : (x : Receiver) → asks (havoc x) ≡ false
  pub keeps : (n : ℕ) → asks (truncate_to n) ≡ false

module _ (asks : Op → Bool) (un : Unasked asks) where
  abbrev own_asks : ℕ → Option NumberType → Op → List OpAtPoint
  own_asks q fresh op = op_where asks q fresh op

  abbrev all_ask : Option NumberType → Node → List OpAtPoint
  all_ask fresh g = ops_where asks fresh g

  abbrev arms_ask : Option NumberType → Arms → List OpAtPoint
  arms_ask fresh arms = ops_where_in_arms asks fresh arms

  -- a tree that asks nothing
  abbrev Silent : Node → Type 0
  Silent g = (fresh : Option NumberType) → all_ask fresh g ≡ []

  silent_act : (q : ℕ) (op : Op) → asks op ≡ false → Silent (act q op)
  silent_act q op e fresh = rw e refl

  silent_seq : (g h : Node) → Silent g → Silent h → Silent (seq g h)
  silent_seq g h x y fresh = rw (x fresh, y (fresh_after fresh g)) refl

  -- after the point, and a change
  silent_leave : (q : ℕ) (op : Op) (n : ℕ) (k : Exit) → asks op ≡ false → Silent (seq (act q op) (leave n k))
  silent_leave q op n k e = silent_seq (act q op) (leave n k) (silent_act q op e) (λ fresh. refl)

  silent_tail : (r n : ℕ) (x : Receiver) (params : ℕ) → Silent (tail_node r n x params)
  silent_tail r n x params fresh = silent_seq (act r (truncate_to (n + params))) (seq (act r (havoc x)) (act r (truncate_to n)))
      (silent_act r (truncate_to (n + params)) (un.keeps (n + params)))
      (silent_seq (act r (havoc x)) (act r (truncate_to n)) (silent_act r (havoc x) (un.anys x)) (silent_act r (truncate_to n) (un.keeps n))) None

  once_silent : (low high : ℕ) (fresh : Option NumberType) (g : Node) → Silent g → low ≤ high → Once None low high (all_ask fresh g)
  once_silent low high fresh g x up = rw (x fresh) (once_none low high up)

  -- one after others
  once_end : (own : Option ℕ) (low mid high : ℕ) (xs : List OpAtPoint) (fresh : Option NumberType) (g : Node) → Silent g → mid ≤ high → Once own low mid xs
      → Once own low high (xs ++ all_ask fresh g)
  once_end own low mid high xs fresh g y up x = once_both own low mid high xs (all_ask fresh g) x (once_silent mid high fresh g y up)

  mutual
    once_one : {P : Program} {T : List Site} {spot : InlineState} {s : Stmt} {g : Node} {q : ℕ} → InlineStmt P T spot s g q → (fresh : Option NumberType)
        → Once None spot.next
        q (all_ask fresh g)
    once_one (as_nothing {s = spot} i) fresh = once_none spot.next (suc spot.next) (omega arith)
    once_one (as_block {s = spot} {g = g} {q = q'} d i) fresh = once_end None spot.next q' (suc q') (all_ask fresh g) (fresh_after fresh g)
        (seq (point q') (act q' (truncate_to spot.live))) (λ before. silent_act q' (truncate_to spot.live) (un.keeps spot.live) None) (omega arith)
        (once_all d fresh)
    once_one (as_absent {s = spot}) fresh = once_none spot.next spot.next (omega arith)
    once_one (as_assign {s = spot} {g = g} {q = q'} i d) fresh = once_from spot.next (suc spot.next) q' (all_ask None g) (once_gives d (omega arith) None)
    once_one (as_write {s = spot} {x = x} {e = e} i) fresh = once_alone asks spot.next None (store_element spot.frame.here.base x e)
    once_one (as_write_call {s = spot} {g = g} {q = q'} i d) fresh = once_from spot.next (suc spot.next) q' (all_ask None g) (once_calls d (omega arith) None)
    once_one (as_call {s = spot} {g = g} {q = q'} i d) fresh = once_from spot.next (suc spot.next) q' (all_ask None g) (once_gives d (omega arith) None)
    once_one (as_if {s = spot} {c = c} {g = g} {h = h} {r = r} {q = q'} i d e) fresh =
        let own : List OpAtPoint = own_asks spot.next None (test spot.frame.here.base c true) in
        once_from spot.next (suc spot.next) q' (own ++ all_ask None g ++ all_ask None h)
        (once_both (Some spot.next) (suc spot.next) r q' (own ++ all_ask None g) (all_ask None h)
        (once_both (Some spot.next) (suc spot.next) (suc spot.next) r own (all_ask None g)
        (once_op asks spot.next (suc spot.next) None (test spot.frame.here.base c true) (omega arith)) (once_one d None))
        (once_one e None))
    once_one (as_loop {s = spot} {g = g} {q = q'} d) fresh = once_from spot.next (suc spot.next) q' (all_ask fresh g) (once_loops d (omega arith) fresh)
    once_one (as_for {s = spot} {g = g} {h = h} {r = r} {q = q'} d e) fresh =
        let init = once_all d fresh in
        let less : spot.next < r = omega (arith, init.up) in
        let cut : Node = act spot.next (truncate_to spot.live) in
        once_around spot.next (suc spot.next) r q' (all_ask fresh g) (all_ask (fresh_after fresh g) (seq h cut)) (omega arith) init
        (once_end (Some spot.next) r q' q' (all_ask (fresh_after fresh g) h) (fresh_after (fresh_after fresh g) h) cut
        (silent_act spot.next (truncate_to spot.live) (un.keeps spot.live)) (omega arith) (once_loops e less (fresh_after fresh g)))
    once_one (as_break {s = spot} {m = m} i k j) fresh =
        once_silent spot.next (suc spot.next) None (seq (act spot.next (truncate_to m)) (leave spot.live broken))
        (silent_leave spot.next (truncate_to m) spot.live broken (un.keeps m)) (omega arith)
    once_one (as_continue {s = spot} {m = m} i k j) fresh = once_silent spot.next (suc spot.next) None
        (seq (act spot.next (truncate_to m)) (leave spot.live continued))
        (silent_leave spot.next (truncate_to m) spot.live continued (un.keeps m)) (omega arith)
    once_one (as_return {s = spot} {b = b} i k j) fresh = once_silent spot.next (suc spot.next) None
        (return_node spot.next (havoc b.receiver) b.length spot.live)
        (silent_seq (act spot.next (havoc b.receiver)) (seq (act spot.next (truncate_to b.length)) (leave spot.live returned))
        (silent_act spot.next (havoc b.receiver) (un.anys b.receiver)) (silent_leave spot.next (truncate_to b.length) spot.live returned (un.keeps b.length)))
        (omega arith)
    once_one (as_return_value {s = spot} {e = e} {b = b} i k j) fresh =
        let op : Op = store_value spot.frame.here.base b.receiver e in
        once_end None spot.next (suc spot.next) (suc spot.next) (own_asks spot.next None op) None
        (seq (act spot.next (truncate_to b.length)) (leave spot.live returned))
        (silent_leave spot.next (truncate_to b.length) spot.live returned (un.keeps b.length)) (omega arith) (once_alone asks spot.next None op)
    once_one (as_return_call {s = spot} {b = b} {g = g} {q = q'} i k j d) fresh =
        once_end None spot.next q' q' (all_ask None g) (fresh_after None g) (seq (act spot.next (truncate_to b.length)) (leave spot.live returned))
        (silent_leave spot.next (truncate_to b.length) spot.live returned (un.keeps b.length)) (omega arith)
        (once_from spot.next (suc spot.next) q' (all_ask None g) (once_gives d (omega arith) None))
    once_one (as_end {s = spot} i j) fresh = once_none spot.next (suc spot.next) (omega arith)
    once_one {P = P} (as_end_value {s = spot} {e = e} i j) fresh =
        let op : Op = store_value spot.frame.here.base (main_receiver P) e in
        once_end None spot.next (suc spot.next) (suc spot.next) (own_asks spot.next None op) None (leave spot.live returned) (λ fresh. refl) (omega arith)
        (once_alone asks spot.next None op)
    once_one (as_end_call {s = spot} {g = g} {q = q'} i j d) fresh =
        once_end None spot.next q' q' (all_ask None g) (fresh_after None g) (leave spot.live returned) (λ fresh. refl) (omega arith)
        (once_from spot.next (suc spot.next) q' (all_ask None g) (once_gives d (omega arith) None))
    once_one (as_assert {s = spot} {c = c} i) fresh = once_alone asks spot.next None (test spot.frame.here.base c true)
    once_one (as_assume {s = spot} {c = c} i) fresh = once_alone asks spot.next None (test spot.frame.here.base c true)
    once_one (as_switch {s = spot} {e = e} {arms = arms} {q = q'} i d) fresh =
        let own : List OpAtPoint = own_asks spot.next None (store_value spot.frame.here.base nobody e) in
        once_from spot.next (suc spot.next) q' (own ++ arms_ask None arms)
        (once_both (Some spot.next) (suc spot.next) (suc spot.next) q' own (arms_ask None arms)
        (once_op asks spot.next (suc spot.next) None (store_value spot.frame.here.base nobody e) (omega arith)) (once_cases d None))

    once_cases : {P : Program} {T : List Site} {spot : InlineState} {cs : Cases} {arms : Arms} {q : ℕ} → InlineCases P T spot cs arms q →
        (fresh : Option NumberType)
        → Once None spot.next q (arms_ask fresh arms)
    once_cases (as_no_cases {s = spot}) fresh = once_none spot.next spot.next (omega arith)
    once_cases (as_labelled d) fresh = once_cases d fresh
    once_cases (as_stated {s = spot} {g = g} {arms = arms} {r = r} {q = q'} d e) fresh =
        once_both None spot.next r q' (all_ask fresh g) (arms_ask (fresh_after fresh g) arms) (once_one d fresh) (once_cases e (fresh_after fresh g))

    once_all : {P : Program} {T : List Site} {spot : InlineState} {b : BlockItems} {g : Node} {n q : ℕ} → InlineItems P T spot b g n q →
        (fresh : Option NumberType) → Once
        None spot.next q (all_ask fresh g)
    once_all (as_none {s = spot}) fresh = once_none spot.next spot.next (omega arith)
    once_all (as_declaration {s = spot} {g = g} {h = h} {r = r} {q = q'} i j e) fresh =
        once_both None spot.next r q' (all_ask None g) (all_ask (fresh_after None g) h)
        (once_from spot.next (suc spot.next) r (all_ask None g) (once_declares j (omega arith) None))
        (once_all e (fresh_after None g))
    once_all (as_array {s = spot} {a = a} {h = h} {q = q'} i e) fresh =
        once_both None spot.next (suc spot.next) q' (own_asks spot.next None (fill a)) (all_ask None h) (once_alone asks spot.next None (fill a))
        (once_all e None)
    once_all (as_statement {s = spot} {g = g} {h = h} {r = r} {q = q'} d e) fresh =
        once_both None spot.next r q' (all_ask fresh g) (all_ask (fresh_after fresh g) h) (once_one d fresh) (once_all e (fresh_after fresh g))

    once_declares : {P : Program} {T : List Site} {spot : InlineState} {r : ℕ} {t : NumberType} {o : Option Rvalue} {g : Node} {q : ℕ} →
        InlineDeclarator P T spot r t o g q →
        spot.next < r → (fresh : Option NumberType)
        → Once (Some spot.next) r q (all_ask fresh g)
    once_declares (as_fresh {s = spot} {r = r} {t = t}) less fresh = once_op asks spot.next r fresh (append t) less
    once_declares (as_given {s = spot} {t = t} d) less fresh = rw (un.appends t) (once_gives d less (Some t))

    once_loops : {P : Program} {T : List Site} {spot : InlineState} {r : ℕ} {s : Stmt} {g : Node} {q : ℕ} → InlineLoop P T spot r s g q → spot.next < r →
        (fresh : Option NumberType) → Once (Some spot.next) r q (all_ask fresh g)
    once_loops (is_loop {s = spot} {r = r} {c = c} {g = g} {h = h} {m = m} {q = q'} i d e) less fresh =
        once_both (Some spot.next) r r q' (own_asks spot.next None (test spot.frame.here.base c true)) (all_ask None g ++ all_ask None h)
        (once_op asks spot.next r None (test spot.frame.here.base c true) less)
        (once_swapped r m q' (all_ask None g) (all_ask None h) (once_one e None) (once_one d None))

    once_gives : {P : Program} {T : List Site} {spot : InlineState} {r : ℕ} {x : Receiver} {e : Rvalue} {g : Node} {q : ℕ} → InlineRvalue P T spot r x e g q →
        spot.next < r →
        (fresh : Option NumberType)
        → Once (Some spot.next) r q (all_ask fresh g)
    once_gives (as_value {s = spot} {r = r} {x = x} {e = e}) less fresh = once_op asks spot.next r fresh (store_value spot.frame.here.base x e) less
    once_gives (as_result d) less fresh = once_calls d less fresh

    once_calls : {P : Program} {T : List Site} {spot : InlineState} {r : ℕ} {x : Receiver} {gives : List Argument → Op} {c : Call} {g : Node} {q : ℕ}
        → InlineCall P T spot r x gives c g q → spot.next < r → (fresh : Option NumberType) → Once (Some spot.next) r q (all_ask fresh g)
    once_calls (is_call {s = spot} {r = r} {x = x} {gives = gives} {c = c} {fn = fn} {g = g} {q = q'} found i d has) less fresh =
        let op : Op = gives (given fn c) in
        let tail : Node = tail_node q' spot.live (inner fn x) (width fn) in
        once_both (Some spot.next) r r (suc q') (own_asks spot.next fresh op) (all_ask None (seq g tail)) (once_op asks spot.next r fresh op less)
        (once_end None r q' (suc q') (all_ask None g) (fresh_after None g) tail (silent_tail q' spot.live (inner fn x) (width fn)) (omega arith)
        (once_all d None))

pub asked_once : (asks : Op → Bool) → Unasked asks → (P : Program) (g : Node) → IsInlinedTree P g → AreOncePerPoint asks g
asked_once asks un P g is i j a b x y same =
    let whole : List OpAtPoint = ops_where asks None g in
    let differ : AllDiffer (points_of whole) = rw is.parts (once_end asks un None 0 is.last is.last (ops_where asks None is.body)
    (fresh_after None is.body) (point is.last) (λ fresh. refl) (omega arith) (once_all asks un is.inlined None)).differ in
    one_place (points_of whole) i j a.point differ (point_at whole i a x) (point_at whole j b y ∙ ap Some (sym same))
