-- If each operation has one result, the same values report one thing of accesses; and what is judged of them with
-- drops is what is defined, as far as nothing is flagged.
use Rattle.std.proofs.Common.{◌≡◌, ◌∙◌, ℕ, List, [], ◌∷◌, ◌++◌, Option, Some, None, Bool, refl, sym, subst}
use Rattle.lra_analysis_spec.specs.Crates.lra_program.Accesses.{expr_accesses, arguments_accesses, aim_accesses}
use Rattle.lra_analysis_spec.specs.Crates.lra_program.Step.{Op, append, fill, store_value, store_element, havoc, push, push_for, truncate_to, test}
use Rattle.lra_analysis_spec.specs.Crates.{lra_base.declared.refusals.Place.Place, lra_linear_forms.declared.test.Test.Test, lra_program.Program.Expr, lra_program.Program.Element}
use Rattle.lra_domain.specs.{Abstraction.Abstraction, Laws.Laws, declared.Exactness.Exactness, declared.Exactness.TheVariants.Exact}
use Rattle.lra_operations.specs.{CheckedOperations.OpAtPoint, CheckedOperations.accessing_ops, Tree.Node}
use Rattle.lra_analysis_spec.specs.Accesses.{outside_of, IndexJudged, EachJudged, BothInside, OneInside, OpInside, InsideAtPoint, JudgesAccesses}
use Rattle.lra_analysis_spec.specs.Operations.{Operations, exact_operations, lossy_operations, straining_operations}
use Rattle.lra_analysis_spec.specs.{Analysis.IsUnreachable, Judging.AnswersUnlessUnreachable, Linear.form_of, MovesOf.test_action}
use Rattle.lra_analysis_spec.proofs.{OneIteration.Single, OneJudgement.one_answer, OneJudging.one_cond, OneJudging.one_asked_told, OneJudging.cond_moved, OneJudging.finds_moved, Transfer.Matters}
use Rattle.lra_analysis_spec.proofs.{Transfer.Transfers, Unflagged.none_flagged, Unflagged.any_matters, Unflagged.exact_ones, Unflagged.strained_ones}

abbrev Told : Type 0
Told = List (Place × Bool)

module _ {V H : Type 0} (m : Abstraction V H) (ops : Operations V H) (single : Single ops) where
  one_index : (v : V) (o : Option (Test × Test)) (b c : Bool) (e f : Exactness) → IndexJudged m ops v o b e → IndexJudged m ops v o c f → b ≡ c
  one_index v None b c e f (x, exact) (y, also) = one_answer m v ⊥ b c x y
  one_index v (Some tests) b c e f (u, w, g, h, one, two, answer, flags) (x, y, i, j, first, second, other, same) =
      let p : u ≡ x = (single.changed (test_action tests.0) v g i u x one first).1 in
      let q : w ≡ y = (single.changed (test_action tests.1) v h j w y two second).1 in
      one_answer m v (IsUnreachable m u × IsUnreachable m w) b c answer
      (subst (λ (k : V). AnswersUnlessUnreachable m v c (IsUnreachable m k × IsUnreachable m w)) (sym p)
      (subst (λ (k : V). AnswersUnlessUnreachable m v c (IsUnreachable m x × IsUnreachable m k)) (sym q) other))

  one_each : (v : V) (base : ℕ) (xs : List Element) (js ks : Told) (e f : Exactness) → EachJudged m ops v base xs js e →
      EachJudged m ops v base xs ks f → js ≡ ks
  one_each v base [] js ks e f x y = x.0 ∙ sym y.0
  one_each v base (x ∷ xs) js ks e f (b, us, g, h, one, two, is, flags) (c, ws, i, j, first, second, same, also) =
      is ∙ rw (one_index v (outside_of (form_of (ops.dims v) base x.index) x.array.length) b c g i one first, one_each v base xs us ws h j two second) refl ∙
      sym same

  both_one : (base : ℕ) (a b : Expr) (v : V) (js ks : Told) (e f : Exactness) → BothInside m ops base a b v js e → BothInside m ops base a b v ks f → js ≡ ks
  both_one base a b v js ks e f x y = one_each v base (expr_accesses a ++ expr_accesses b) js ks e f x y

  one_one : (base : ℕ) (a : Expr) (v : V) (js ks : Told) (e f : Exactness) → OneInside m ops base a v js e → OneInside m ops base a v ks f → js ≡ ks
  one_one base a v js ks e f x y = one_each v base (expr_accesses a) js ks e f x y

  one_op : (op : Op) (v : V) (js ks : Told) (e f : Exactness) → OpInside m ops op v js e → OpInside m ops op v ks f → js ≡ ks
  one_op (append t) v js ks e f x y = one_each v 0 [] js ks e f x y
  one_op (fill a) v js ks e f x y = one_each v 0 [] js ks e f x y
  one_op (store_value base z a) v js ks e f x y = one_each v base (expr_accesses a) js ks e f x y
  one_op (store_element base z a) v js ks e f x y = one_each v base (aim_accesses z ++ expr_accesses a) js ks e f x y
  one_op (havoc z) v js ks e f x y = one_each v 0 [] js ks e f x y
  one_op (push base given) v js ks e f x y = one_each v base (arguments_accesses given) js ks e f x y
  one_op (push_for base z given) v js ks e f x y = one_each v base (aim_accesses z ++ arguments_accesses given) js ks e f x y
  one_op (truncate_to n) v js ks e f x y = one_each v 0 [] js ks e f x y
  one_op (test base c wanted) v js ks e f x y = one_cond ops single (BothInside m ops) (OneInside m ops) both_one one_one base c v js ks e f x y

  pub one_asked_inside : (values : List V) (a : OpAtPoint) (js ks : Told) (e f : Exactness) → InsideAtPoint m ops values a js e →
      InsideAtPoint m ops values a ks f
      → js ≡ ks
  one_asked_inside values a js ks e f x y = one_asked_told ops single (OpInside m ops) one_op values a js ks e f x y

-- from drops to what is defined --------------------------------------------------------------------------------------------

module _ {V H : Type 0} (m : Abstraction V H) (b : Operations V H) (Keeps : Exactness → Type 0) (Fine : Option ℕ → Type 0) (matters : Matters Keeps Fine)
    (moves : Transfers Keeps (lossy_operations m) b)
    (same_dims : (p : Operations V H → Type 0) → p (record b { dims = m.dims }) → p b) where
  index_moved : (v : V) (o : Option (Test × Test)) (so : Bool) (e : Exactness) → Keeps e → IndexJudged m (lossy_operations m) v o so e →
      IndexJudged m (record b { dims = m.dims }) v o so e
  index_moved v None so e k h = h
  index_moved v (Some tests) so e k (u, w, c, d, one, two, answer, flags) =
      let parts = matters.parts c d (subst Keeps flags k) in
      (u, w, c, d, moves.changed (test_action tests.0) v c u parts.0 one, moves.changed (test_action tests.1) v d w parts.1 two, answer, flags)

  each_aligned : (v : V) (base : ℕ) (xs : List Element) (js : Told) (e : Exactness) → Keeps e → EachJudged m (lossy_operations m) v base xs js e →
      EachJudged m (record b { dims = m.dims }) v base xs js e
  each_aligned v base [] js e k h = h
  each_aligned v base (x ∷ xs) js e k (so, later, c, d, one, rest, is, flags) =
      let parts = matters.parts c d (subst Keeps flags k) in (
        so,
        later,
        c,
        d,
        index_moved v (outside_of (form_of (m.dims v) base x.index) x.array.length) so c parts.0 one,
        each_aligned v base xs later d parts.1 rest,
        is,
        flags,
      )

  each_moved : (v : V) (base : ℕ) (xs : List Element) (js : Told) (e : Exactness) → Keeps e → EachJudged m (lossy_operations m) v base xs js e →
      EachJudged m b v base xs js e
  each_moved v base xs js e k h = same_dims (λ ops. EachJudged m ops v base xs js e) (each_aligned v base xs js e k h)

  op_moved : (op : Op) (v : V) (js : Told) (e : Exactness) → Keeps e → OpInside m (lossy_operations m) op v js e → OpInside m b op v js e
  op_moved (append t) v js e k h = each_moved v 0 [] js e k h
  op_moved (fill a) v js e k h = each_moved v 0 [] js e k h
  op_moved (store_value base x a) v js e k h = each_moved v base (expr_accesses a) js e k h
  op_moved (store_element base x a) v js e k h = each_moved v base (aim_accesses x ++ expr_accesses a) js e k h
  op_moved (havoc x) v js e k h = each_moved v 0 [] js e k h
  op_moved (push base given) v js e k h = each_moved v base (arguments_accesses given) js e k h
  op_moved (push_for base x given) v js e k h = each_moved v base (aim_accesses x ++ arguments_accesses given) js e k h
  op_moved (truncate_to n) v js e k h = each_moved v 0 [] js e k h
  op_moved (test base c wanted) v js e k h =
      cond_moved m b Keeps Fine matters moves same_dims (BothInside m (lossy_operations m)) (BothInside m b) (OneInside m (lossy_operations m)) (OneInside m b)
      (λ base x y v js e k h. each_moved v base (expr_accesses x ++ expr_accesses y) js e k h)
      (λ base x v js e k h. each_moved v base (expr_accesses x) js e k h) base c v js e k h

  accesses_moved : (g : Node) (values : List V) (flagged : Option ℕ) (inside : List (ℕ × Told)) (behind : Option ℕ) → Fine behind →
      JudgesAccesses m (lossy_operations m) g values flagged inside behind → JudgesAccesses m b g values flagged inside behind
  accesses_moved g values flagged inside behind fine j =
      finds_moved m b Keeps Fine matters moves same_dims (OpInside m (lossy_operations m)) (OpInside m b) op_moved (accessing_ops None g) values flagged inside
      behind
      fine j

-- without a flag what is judged is so by the written iteration's operations; a first flag is where one of them exceeds
-- a limit
pub accesses_written : {V H : Type 0} (m : Abstraction V H) → Laws m → (g : Node) (values : List V) (flagged : Option ℕ) (inside : List (ℕ × Told))
    (behind : Option ℕ) → behind ≡ None → JudgesAccesses m (lossy_operations m) g values flagged inside behind →
    JudgesAccesses m (exact_operations m) g values flagged inside behind
accesses_written m laws g values flagged inside behind none j =
    accesses_moved m (exact_operations m) (λ e. e ≡ Exact) (λ f. f ≡ None) none_flagged (exact_ones m laws) (λ p h. h) g values flagged inside behind none j

pub accesses_strained : {V H : Type 0} (m : Abstraction V H) → Laws m → (g : Node) (values : List V) (flagged : Option ℕ) (inside : List (ℕ × Told))
    (behind : Option ℕ) → JudgesAccesses m (lossy_operations m) g values flagged inside behind →
    JudgesAccesses m (straining_operations m) g values flagged inside behind
accesses_strained m laws g values flagged inside behind j =
    accesses_moved m (straining_operations m) (λ e. Unit {0}) (λ f. Unit {0}) any_matters (strained_ones m laws) (λ p h. h) g values flagged inside behind tt j
