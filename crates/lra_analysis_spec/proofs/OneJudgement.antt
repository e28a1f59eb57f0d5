-- If each operation has one result, the same values report one thing of what fits; and what is judged with drops is
-- what is defined, as far as nothing is flagged.
use Rattle.std.proofs.Common.{◌≡◌, ◌∙◌, ℕ, List, [], ◌∷◌, Option, None, Bool, true, false, refl, sym, ap}
use Rattle.std.specs.{List.list_all, Prelude.◌↔◌, Prelude.IsTrue}
use Rattle.lra_domain.specs.{Abstraction.Abstraction, Laws.Laws, declared.Exactness.Exactness, declared.Exactness.TheVariants.Exact}
use Rattle.lra_analysis_spec.specs.Crates.lra_program.Program.{Expr, literal, read, input, negate, binary, element, type_of}
use Rattle.lra_analysis_spec.specs.Crates.lra_program.Receivers.{waiting_in, parameter_of, converts_to}
use Rattle.lra_analysis_spec.specs.Crates.lra_program.Step.{Op, append, fill, store_value, store_element, havoc, push, push_for, truncate_to, test}
use Rattle.lra_analysis_spec.specs.Crates.{lra_program.Value.Argument, lra_program.declared.receivers.Receiver.Receiver}
use Rattle.lra_operations.specs.{CheckedOperations.OpAtPoint, CheckedOperations.computing_ops, Tree.Node}
use Rattle.lra_analysis_spec.specs.Fits.{ExprJudged, ConversionJudged, GivenJudged, ArgumentsJudged, BothJudged, OneJudged, OpJudged, OpFits, JudgedAtPoint, Judges, JudgesIf}
use Rattle.lra_analysis_spec.specs.{Judging.AnswersUnlessUnreachable, Operations.Operations, Operations.exact_operations, Operations.lossy_operations, Operations.straining_operations}
use Rattle.lra_analysis_spec.proofs.Unflagged.{none_flagged, any_matters, exact_ones, strained_ones}
use Rattle.lra_analysis_spec.proofs.{OneIteration.Single, OneJudging.one_cond, OneJudging.one_asked_told, OneJudging.cond_moved, OneJudging.finds_moved, Transfer.Matters, Transfer.Transfers}

-- one answer -------------------------------------------------------------------------------------------------------------

one_truth : (a b : Bool) → IsTrue a ↔ IsTrue b → a ≡ b
one_truth true true e = refl
one_truth true false e = sym (e.0 refl)
one_truth false true e = e.1 refl
one_truth false false e = refl

module _ {V H : Type 0} (m : Abstraction V H) where
  pub one_answer : (v : V) (so : Type 0) (a b : Bool) → AnswersUnlessUnreachable m v a so → AnswersUnlessUnreachable m v b so → a ≡ b
  one_answer v so a b x y = one_truth a b (λ h. y.1 (x.0 h), λ h. x.1 (y.0 h))

  module _ (v : V) (base : ℕ) where
    one_expr : (e : Expr) (bs cs : List Bool) → ExprJudged m v base e bs → ExprJudged m v base e cs → bs ≡ cs
    one_expr (literal t n) bs cs x y = x ∙ sym y
    one_expr (read k) bs cs x y = x ∙ sym y
    one_expr input bs cs x y = x ∙ sym y
    one_expr (negate e) bs cs (xs, b, one, so, is) (ys, c, two, too, same) =
        is ∙ rw (one_expr e xs ys one two, one_answer v _ b c so too) refl ∙ sym same
    one_expr (binary op e f) bs cs (xs, us, b, one, two, so, is) (ys, ws, c, first, second, too, same) =
        is ∙ rw (one_expr e xs ys one first, one_expr f us ws two second, one_answer v _ b c so too) refl ∙ sym same
    one_expr (element a at e) bs cs x y = one_expr e bs cs x y

    one_conversion : (k : Bool) (e : Expr) (bs cs : List Bool) → ConversionJudged m v base k e bs → ConversionJudged m v base k e cs → bs ≡ cs
    one_conversion false e bs cs x y = x ∙ sym y
    one_conversion true e bs cs (b, so, is) (c, too, same) = is ∙ rw (one_answer v _ b c so too) refl ∙ sym same

    one_given : (x : Receiver) (e : Expr) (bs cs : List Bool) → GivenJudged m v base x e bs → GivenJudged m v base x e cs → bs ≡ cs
    one_given x e bs cs (xs, us, one, two, is) (ys, ws, first, second, same) =
        is ∙ rw (one_expr e xs ys one first, one_conversion (converts_to (type_of e) x) e us ws two second) refl ∙ sym same

    one_arguments : (given : List Argument) (bs cs : List Bool) → ArgumentsJudged m v base given bs → ArgumentsJudged m v base given cs → bs ≡ cs
    one_arguments [] bs cs x y = x ∙ sym y
    one_arguments (a ∷ rest) bs cs (xs, us, one, two, is) (ys, ws, first, second, same) =
        is ∙ rw (one_given (parameter_of a.number_type) a.value xs ys one first, one_arguments rest us ws two second) refl ∙ sym same

  both_one : (base : ℕ) (a b : Expr) (v : V) (bs cs : List Bool) (e f : Exactness) → BothJudged m base a b v bs e → BothJudged m base a b v cs f → bs ≡ cs
  both_one base a b v bs cs e f (xs, us, one, two, is, exact) (ys, ws, first, second, same, also) =
      is ∙ rw (one_expr v base a xs ys one first, one_expr v base b us ws two second) refl ∙ sym same

  one_one : (base : ℕ) (a : Expr) (v : V) (bs cs : List Bool) (e f : Exactness) → OneJudged m base a v bs e → OneJudged m base a v cs f → bs ≡ cs
  one_one base a v bs cs e f (x, exact) (y, also) = one_expr v base a bs cs x y

  module _ (ops : Operations V H) (single : Single ops) where
    one_op : (op : Op) (v : V) (bs cs : List Bool) (e f : Exactness) → OpJudged m ops op v bs e → OpJudged m ops op v cs f → bs ≡ cs
    one_op (append t) v bs cs e f x y = x.0 ∙ sym y.0
    one_op (fill a) v bs cs e f x y = x.0 ∙ sym y.0
    one_op (store_value base x a) v bs cs e f k l = one_given v base x a bs cs k.0 l.0
    one_op (store_element base x a) v bs cs e f ((xs, us, one, two, is), exact) ((ys, ws, first, second, same), also) =
        is ∙ rw (one_expr v base x.index xs ys one first, one_given v base (waiting_in x.array) a us ws two second) refl ∙ sym same
    one_op (havoc x) v bs cs e f k l = k.0 ∙ sym l.0
    one_op (push base given) v bs cs e f k l = one_arguments v base given bs cs k.0 l.0
    one_op (push_for base x given) v bs cs e f ((xs, us, one, two, is), exact) ((ys, ws, first, second, same), also) =
        is ∙ rw (one_expr v base x.index xs ys one first, one_arguments v base given us ws two second) refl ∙ sym same
    one_op (truncate_to n) v bs cs e f x y = x.0 ∙ sym y.0
    one_op (test base c wanted) v bs cs e f x y = one_cond ops single (BothJudged m) (OneJudged m) both_one one_one base c v bs cs e f x y

    one_fits : (op : Op) (v : V) (b c : Bool) (e f : Exactness) → OpFits m ops op v b e → OpFits m ops op v c f → b ≡ c
    one_fits op v b c e f (bs, judged, is) (cs, also, same) = is ∙ ap (list_all (λ x. x)) (one_op op v bs cs e f judged also) ∙ sym same

    pub one_asked : (values : List V) (a : OpAtPoint) (b c : Bool) (e f : Exactness) → JudgedAtPoint m ops values a b e → JudgedAtPoint m ops values a c f →
        b ≡ c
    one_asked values a b c e f x y = one_asked_told ops single (OpFits m ops) one_fits values a b c e f x y

-- from drops to what is defined --------------------------------------------------------------------------------------------

module _ {V H : Type 0} (m : Abstraction V H) (b : Operations V H) (Keeps : Exactness → Type 0) (Fine : Option ℕ → Type 0) (matters : Matters Keeps Fine)
    (moves : Transfers Keeps (lossy_operations m) b)
    (same_dims : (p : Operations V H → Type 0) → p (record b { dims = m.dims }) → p b) where
  op_moved : (op : Op) (v : V) (bs : List Bool) (e : Exactness) → Keeps e → OpJudged m (lossy_operations m) op v bs e → OpJudged m b op v bs e
  op_moved (append t) v bs e k h = h
  op_moved (fill a) v bs e k h = h
  op_moved (store_value base x a) v bs e k h = h
  op_moved (store_element base x a) v bs e k h = h
  op_moved (havoc x) v bs e k h = h
  op_moved (push base given) v bs e k h = h
  op_moved (push_for base x given) v bs e k h = h
  op_moved (truncate_to n) v bs e k h = h
  op_moved (test base c wanted) v bs e k h = cond_moved m b Keeps Fine matters moves same_dims (BothJudged m) (BothJudged m) (OneJudged m) (OneJudged m)
      (λ base x y v bs e k h. h) (λ base x v bs e k h. h) base c v bs e k h

  fits_moved : (op : Op) (v : V) (so : Bool) (e : Exactness) → Keeps e → OpFits m (lossy_operations m) op v so e → OpFits m b op v so e
  fits_moved op v so e k (bs, judged, is) = (bs, op_moved op v bs e k judged, is)

  judges_moved : (g : Node) (values : List V) (flagged : Option ℕ) (fitting : List (ℕ × Bool)) (behind : Option ℕ) → Fine behind →
      Judges m (lossy_operations m) g
      values flagged fitting behind → Judges m b g values flagged fitting behind
  judges_moved g values flagged fitting behind fine j =
      finds_moved m b Keeps Fine matters moves same_dims (OpFits m (lossy_operations m)) (OpFits m b) fits_moved (computing_ops None g) values flagged fitting
      behind fine j

-- without a flag what is judged is so by the written iteration's operations; a first flag is where one of them exceeds
-- a limit
pub judged_written : {V H : Type 0} (m : Abstraction V H) → Laws m → (b : Bool) (g : Node) (values : List V) (flagged : Option ℕ) (fitting : List (ℕ × Bool))
    (behind : Option ℕ) → behind ≡ None
    → JudgesIf m (lossy_operations m) b g values flagged fitting behind → JudgesIf m (exact_operations m) b g values flagged fitting behind
judged_written m laws true g values flagged fitting behind none j =
    judges_moved m (exact_operations m) (λ e. e ≡ Exact) (λ f. f ≡ None) none_flagged (exact_ones m laws) (λ p h. h) g values flagged fitting behind none j
judged_written m laws false g values flagged fitting behind none j = j

pub judged_strained : {V H : Type 0} (m : Abstraction V H) → Laws m → (b : Bool) (g : Node) (values : List V) (flagged : Option ℕ) (fitting : List (ℕ × Bool))
    (behind : Option ℕ)
    → JudgesIf m (lossy_operations m) b g values flagged fitting behind → JudgesIf m (straining_operations m) b g values flagged fitting behind
judged_strained m laws true g values flagged fitting behind j =
    judges_moved m (straining_operations m) (λ e. Unit {0}) (λ f. Unit {0}) any_matters (strained_ones m laws) (λ p h. h) g values flagged fitting behind tt j
judged_strained m laws false g values flagged fitting behind j = j
