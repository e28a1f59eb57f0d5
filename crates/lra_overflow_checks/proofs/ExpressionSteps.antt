-- Steps of the proofs on the answers on expressions.
use Rattle.std.proofs.Common.{◌≡◌, ◌∙◌, ◌+◌, ◌<◌, ◌≤◌, ℕ, List, [], ◌∷◌, ◌++◌, Option, Some, None, Bool, true, false, length, map, take, get_or, rules, Box, Global, refl, sym, ap, subst, append_assoc}
use Rattle.std.proofs.{Common.append-nil, Common.negsuc, lemmas.List.map_more, lemmas.List.take_all}
use Rattle.std.specs.Prelude.{Result, Ok, Err, IfOk, OnOk}
use Rattle.lra_overflow_checks.specs.Crates.lra_analysis_spec.Fits.{LiesIn, OperatorFits, ExprJudged, ConversionJudged, GivenJudged, ArgumentsJudged, IndexJudged}
use Rattle.lra_overflow_checks.specs.Crates.{lra_analysis_spec.Judging.AnswersUnlessUnreachable, lra_analysis_spec.Linear.form_of, lra_base.NumberTypes.wider, lra_base.OperatorViews.operator_view}
use Rattle.lra_overflow_checks.specs.Crates.{lra_base.Operators.Operator, lra_base.declared.number_types.NumberType.NumberType, lra_base.declared.number_types.NumberType.TheVariants.Int}
use Rattle.lra_overflow_checks.specs.Crates.{lra_base.declared.refusals.Place.Place, lra_domain.Abstraction.Abstraction, lra_linear_forms.Form.Form}
use Rattle.lra_program.specs.Program.{Expr, literal, read, input, negate, binary, element, type_of}
use Rattle.lra_program.specs.ProgramViews.{argument_view, chained, expr_view, operation_view, variable_view}
use Rattle.lra_program.specs.Receivers.{parameter_of, converts_to}
use Rattle.lra_program.specs.declared.program.Expr.{Literal, Read, Input, Negate, Element, the_lemmas}
use Rattle.lra_program.specs.{Value.Argument, declared.arrays.Array.Array, declared.program.Operation.Operation, declared.program.Variable.Variable, declared.receivers.Receiver.Receiver}
use Rattle.lra_program.specs.declared.program.Argument as declared_argument
use Rattle.lra_program.specs.declared.program.Expr as declared
use Rattle.lra_overflow_checks.proofs.Crates.lra_analysis_spec.FormLemmas.{form_wide, operator_wide, scaled_wide}
use Rattle.lra_overflow_checks.proofs.Crates.{lra_linearize.FormSteps.operation_is, lra_linearize.LinearizationSteps.chained_last}
use Rattle.lra_overflow_checks.specs.{Judged.IsWide, Judged.HasAnswers, Judged.IsComputed, Sides.between_sides, Sides.with_other_sign, declared.expressions.Computed.Computed}

-- a form has a coefficient for each variable
pub form_is_wide : (live base : ℕ) (e : Expr) (o : Option Form) → o ≡ form_of live base e → IsWide live o
form_is_wide live base e None is = tt
form_is_wide live base e (Some f) is = (form_wide live base e f (sym is)).width

pub negated_is_wide : (live : ℕ) (f o : Option Form) → IsWide live f → o ≡ with_other_sign f → IsWide live o
negated_is_wide live f None wide is = tt
negated_is_wide live None (Some o) wide is = cc
negated_is_wide live (Some f) (Some o) wide is = (scaled_wide live (negsuc 0) f o (sym is) (record { width = wide })).width

pub combined_is_wide : (live : ℕ) (op : Operator) (f g o : Option Form) → IsWide live f → IsWide live g
    → o ≡ between_sides op f g → IsWide live o
combined_is_wide live op f g None left right is = tt
combined_is_wide live op None g (Some o) left right is = cc
combined_is_wide live op (Some f) None (Some o) left right is = cc
combined_is_wide live op (Some f) (Some g) (Some o) left right is =
    (operator_wide live op f g o (sym is) (record { width = left }) (record { width = right })).width

-- what the code's expressions are seen as
pub literal_view : (t : NumberType) (n : ℕ) → expr_view (Literal t n) ≡ literal t n
literal_view t n = search (rules, the_lemmas)

pub read_view : (x : Variable) → expr_view (Read x) ≡ read (variable_view x)
read_view x = search (rules, the_lemmas)

pub input_view : expr_view Input ≡ input
input_view = search (rules, the_lemmas)

pub negate_view : (e : Box declared.Expr Global) → expr_view (Negate e) ≡ negate (expr_view e.value)
negate_view e = search (rules, the_lemmas)

pub element_seen : (a : Array) (p : Place) (e : Box declared.Expr Global) → expr_view (Element a p e) ≡ element a p (expr_view e.value)
element_seen a p e = search (rules, the_lemmas)

-- an operation more at the end of a chain
chained_more : (e : Expr) (os : List Operation) (i : ℕ) (o : Operation) → i < length os → o ≡ get_or os i o
    → chained e (map operation_view (take (i + 1) os))
    ≡ binary (operator_view o.operator) (chained e (map operation_view (take i os))) (expr_view o.operand)
chained_more e os i o h is =
    let so_many = map operation_view (take i os) in
    ap (chained e) (map_more operation_view os i o h ∙ ap (λ (x : Operation). so_many ++ operation_view x ∷ []) (sym is)) ∙
    chained_last e so_many (operation_view o) ∙ ap (λ (p : Operator × Expr). binary p.0 (chained e so_many) p.1) (operation_is o)

module _ {V H : Type 0} (m : Abstraction V H) (v : V) (base : ℕ) where
  -- a sign after what is computed
  pub sign_computed : (e : Expr) (before old new : List Bool) (inner c : Computed) (b : Bool) → c.number_type ≡ inner.number_type
      → c.form ≡ with_other_sign inner.form → AnswersUnlessUnreachable m v b (LiesIn m v inner.number_type c.form) → new ≡ old ++ b ∷ []
      → IsComputed m v base e before inner old → IsComputed m v base (negate e) before c new
  sign_computed e before old new inner c b same form so pushed one =
      let is : c.form ≡ form_of (m.dims v) base (negate e) = form ∙ ap with_other_sign one.form in
      let (bs, judged, behind) = one.answers in
      let so_too = subst (λ (o : Option Form). AnswersUnlessUnreachable m v b (LiesIn m v (type_of e) o)) is
      (subst (λ (t : NumberType). AnswersUnlessUnreachable m v b (LiesIn m v t c.form)) one.number_type so) in
      record {
        answers = (
          bs ++ b ∷ [],
          (bs, b, judged, so_too, refl),
          pushed ∙ ap (λ (xs : List Bool). xs ++ b ∷ []) behind ∙ append_assoc before bs (b ∷ []),
        );
        number_type = same ∙ one.number_type;
        form = is;
      }

  -- an operator after both sides
  pub operator_computed : (op : Operator) (d e : Expr) (before between old new : List Bool) (left right c : Computed) (b : Bool)
      → c.number_type ≡ wider left.number_type right.number_type → c.form ≡ between_sides op left.form right.form
      → AnswersUnlessUnreachable m v b (OperatorFits m v c.number_type op c.form right.form) → new ≡ old ++ b ∷ []
      → IsComputed m v base d before left between → IsComputed m v base e between right old → IsComputed m v base (binary op d e) before c new
  operator_computed op d e before between old new left right c b same form so pushed one other =
      let n = m.dims v in
      let types : wider left.number_type right.number_type ≡ wider (type_of d) (type_of e) =
      ap (λ (t : NumberType). wider t right.number_type) one.number_type ∙ ap (wider (type_of d)) other.number_type in
      let is : c.form ≡ form_of n base (binary op d e) =
      form ∙ ap (λ (o : Option Form). between_sides op o right.form) one.form ∙
      ap (between_sides op (form_of n base d)) other.form in
      let (xs, first, there) = one.answers in
      let (ys, second, behind) = other.answers in
      let so_typed = subst (λ (t : NumberType). AnswersUnlessUnreachable m v b (OperatorFits m v t op c.form right.form)) (same ∙ types) so in
      let whole = wider (type_of d) (type_of e) in
      let so_formed = subst (λ (o : Option Form). AnswersUnlessUnreachable m v b (OperatorFits m v whole op o right.form)) is so_typed in
      let so_too = subst (λ (o : Option Form). AnswersUnlessUnreachable m v b (OperatorFits m v whole op (form_of n base (binary op d e)) o)) other.form
      so_formed in
      record {
        answers = (
          (xs ++ ys) ++ b ∷ [],
          (xs, ys, b, first, second, so_too, refl),
          pushed ∙ ap (λ (zs : List Bool). zs ++ b ∷ []) (behind ∙ ap (λ (zs : List Bool). zs ++ ys) there ∙ append_assoc before xs ys) ∙
              append_assoc before (xs ++ ys) (b ∷ []),
        );
        number_type = same ∙ types;
        form = is;
      }

  -- what computes nothing
  pub leaf_computed : {E : Type 0} (R : Result Computed E) (x e : Expr) (old : List Bool) (t : NumberType) → x ≡ e
      → ExprJudged m v base e [] → t ≡ type_of e
      → IfOk R (λ c. (c.number_type ≡ t) × (c.form ≡ form_of (m.dims v) base x)) → IfOk R (λ c. IsComputed m v base x old c old)
  leaf_computed (Ok c) x e old t is judged typed told =
      let none : HasAnswers (ExprJudged m v base x) old old = ([], subst (λ (y : Expr). ExprJudged m v base y []) (sym is) judged, sym (append-nil old)) in
      record { answers = none; number_type = told.0 ∙ typed ∙ ap type_of (sym is); form = told.1 }
  leaf_computed (Err e) x y old t is judged typed told = tt

  pub sign_behind : {E : Type 0} (R : Result Computed E) (x e : Expr) (old now new : List Bool) (inner : Computed) → x ≡ negate e
      → IsComputed m v base e old inner now
      → IfOk R (λ c. (k : ℕ) → (y : Expr) → (before : List Bool) → IsComputed m v k y before inner now → IsComputed m v k (negate y) before c new)
      → IfOk R (λ c. IsComputed m v base x old c new)
  sign_behind (Ok c) x e old now new inner is one told = subst (λ (y : Expr). IsComputed m v base y old c new) (sym is) (told base e old one)
  sign_behind (Err k) x e old now new inner is one told = tt

  pub chain_behind : {E : Type 0} (R : Result Computed E) (x e : Expr) (os : List (Operator × Expr)) (old now new : List Bool) (first : Computed)
      → x ≡ chained e os → IsComputed m v base e old first now
      → IfOk R (λ c. (y : Expr) → (before : List Bool) → IsComputed m v base y before first now → IsComputed m v base (chained y os) before c new)
      → IfOk R (λ c. IsComputed m v base x old c new)
  chain_behind (Ok c) x e os old now new first is one told = subst (λ (y : Expr). IsComputed m v base y old c new) (sym is) (told e old one)
  chain_behind (Err k) x e os old now new first is one told = tt

  -- an element has no form, whatever its index has
  pub element_behind : (x e : Expr) (a : Array) (p : Place) (old new : List Bool) (inner : Computed) → x ≡ element a p e
      → IsComputed m v base e old inner new → IsComputed m v base x old (record { number_type = a.number_type; form = None }) new
  element_behind x e a p old new inner is one =
      subst (λ (y : Expr). IsComputed m v base y old (record { number_type = a.number_type; form = None }) new) (sym is)
      (record { answers = one.answers; number_type = refl; form = refl })

  -- what is computed after an index
  pub behind_index : {T E : Type 0} (R : Result T E) (e : Expr) (behind : List Bool → Type 0) (old now new : List Bool) (c : Computed)
      → IsComputed m v base e old c now → OnOk R (HasAnswers behind now new) → OnOk R (HasAnswers (IndexJudged m v base e behind) old new)
  behind_index (Ok r) e behind old now new c one told =
      let (xs, first, there) = one.answers in
      let (ys, later, is) = told in
      (xs ++ ys, (xs, ys, first, later, refl), is ∙ ap (λ (zs : List Bool). zs ++ ys) there ∙ append_assoc old xs ys)
  behind_index (Err k) e behind old now new c one told = tt

  -- a chain of which the first operand is computed, as far as these operations
  abbrev pub ChainComputed : Computed → List Bool → List (Operator × Expr) → Computed → List Bool → Type 0
  ChainComputed first old os c new = (e : Expr) (before : List Bool)
      → IsComputed m v base e before first old → IsComputed m v base (chained e os) before c new

  pub chain_computed : (first so_far right next : Computed) (os : List Operation) (i : ℕ) (o : Operation) (old now between new : List Bool)
      → i < length os → o ≡ get_or os i o
      → ChainComputed first old (map operation_view (take i os)) so_far now → IsComputed m v base (expr_view o.operand) now right between
      → ((a b : Expr) (start middle : List Bool) → IsComputed m v base a start so_far middle → IsComputed m v base b middle right between
      → IsComputed m v base (binary (operator_view o.operator) a b) start next new)
      → ChainComputed first old (map operation_view (take (i + 1) os)) next new
  chain_computed first so_far right next os i o old now between new h is done operand joined e before start =
      subst (λ (x : Expr). IsComputed m v base x before next new) (sym (chained_more e os i o h is))
      (joined (chained e (map operation_view (take i os))) (expr_view o.operand) before now (done e before start) operand)

  pub chain_whole : (first c : Computed) (os : List Operation) (i : ℕ) (old new : List Bool) → length os ≤ i
      → ChainComputed first old (map operation_view (take i os)) c new → ChainComputed first old (map operation_view os) c new
  chain_whole first c os i old new past done =
      subst (λ (xs : List Operation). ChainComputed first old (map operation_view xs) c new) (take_all i os past) done

  -- a value that is given, without a conversion and with one
  pub given_plain : (x : Receiver) (e : Expr) (old new : List Bool) (c : Computed) → IsComputed m v base e old c new → converts_to c.number_type x ≡ false
      → HasAnswers (GivenJudged m v base x e) old new
  given_plain x e old new c one stays =
      let (bs, judged, behind) = one.answers in
      let none : converts_to (type_of e) x ≡ false = ap (λ (t : NumberType). converts_to t x) (sym one.number_type) ∙ stays in
      (bs, (bs, [], judged, subst (λ (k : Bool). ConversionJudged m v base k e []) (sym none) refl, sym (append-nil bs)), behind)

  pub given_converted : (x : Receiver) (e : Expr) (old between new : List Bool) (c : Computed) (b : Bool) → IsComputed m v base e old c between
      → converts_to c.number_type x ≡ true → AnswersUnlessUnreachable m v b (LiesIn m v Int c.form) → new ≡ between ++ b ∷ []
      → HasAnswers (GivenJudged m v base x e) old new
  given_converted x e old between new c b one goes so pushed =
      let (bs, judged, behind) = one.answers in
      let some : converts_to (type_of e) x ≡ true = ap (λ (t : NumberType). converts_to t x) (sym one.number_type) ∙ goes in
      let so_too = subst (λ (o : Option Form). AnswersUnlessUnreachable m v b (LiesIn m v Int o)) one.form so in (
        bs ++ b ∷ [],
        (bs, b ∷ [], judged, subst (λ (k : Bool). ConversionJudged m v base k e (b ∷ [])) (sym some) (b, so_too, refl), refl),
        pushed ∙ ap (λ (xs : List Bool). xs ++ b ∷ []) behind ∙ append_assoc old bs (b ∷ []),
      )

  -- an argument more
  arguments_behind : (given : List Argument) (a : Argument) (xs ys : List Bool) → ArgumentsJudged m v base given xs
      → GivenJudged m v base (parameter_of a.number_type) a.value ys → ArgumentsJudged m v base (given ++ a ∷ []) (xs ++ ys)
  arguments_behind [] a xs ys none one = (ys, [], one, refl, ap (λ (zs : List Bool). zs ++ ys) none ∙ sym (append-nil ys))
  arguments_behind (b ∷ rest) a xs ys (us, ws, first, others, is) one =
      (us, ws ++ ys, first, arguments_behind rest a ws ys others one, ap (λ (zs : List Bool). zs ++ ys) is ∙ append_assoc us ws ys)

  pub arguments_more : (given : List declared_argument.Argument) (i : ℕ) (a : declared_argument.Argument) (x : Receiver) (old now new : List Bool)
      → i < length given → a ≡ get_or given i a
      → HasAnswers (ArgumentsJudged m v base (map argument_view (take i given))) old now
      → x ≡ parameter_of a.number_type → HasAnswers (GivenJudged m v base x (expr_view a.value)) now new
      → HasAnswers (ArgumentsJudged m v base (map argument_view (take (i + 1) given))) old new
  arguments_more given i a x old now new h is (xs, before, there) typed (ys, one, behind) =
      let so_many = map argument_view (take i given) in
      let all : map argument_view (take (i + 1) given) ≡ so_many ++ argument_view a ∷ [] =
      map_more argument_view given i a h ∙ ap (λ (x : declared_argument.Argument). so_many ++ argument_view x ∷ []) (sym is) in (
        xs ++ ys,
        subst (λ (so : List Argument). ArgumentsJudged m v base so (xs ++ ys)) (sym all)
            (arguments_behind so_many (argument_view a) xs ys before (subst (λ (r : Receiver). GivenJudged m v base r (expr_view a.value) ys) typed one)),
        behind ∙ ap (λ (zs : List Bool). zs ++ ys) there ∙ append_assoc old xs ys,
      )

  pub arguments_whole : (given : List declared_argument.Argument) (i : ℕ) (old new : List Bool) → length given ≤ i
      → HasAnswers (ArgumentsJudged m v base (map argument_view (take i given))) old new
      → HasAnswers (ArgumentsJudged m v base (map argument_view given)) old new
  arguments_whole given i old new past done =
      subst (λ (so : List declared_argument.Argument). HasAnswers (ArgumentsJudged m v base (map argument_view so)) old new) (take_all i given past) done

  pub no_arguments : (old : List Bool) → HasAnswers (ArgumentsJudged m v base []) old old
  no_arguments old = ([], refl, sym (append-nil old))
