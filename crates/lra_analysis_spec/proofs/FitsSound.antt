-- What is judged to fit by a value with a run's store doesn't stop that run by a number.
use Rattle.std.proofs.Common.{◌≡◌, ◌≢◌, ℕ, zero, suc, ◌*◌, ◌≤◌, ◌++◌, ℤ, pos, negsuc, List, [], ◌∷◌, Option, Some, None, Bool, true, false, length, refl, sym, ap, subst, ◌∙◌, arith, inl, inr}
use Rattle.std.proofs.{Math.Nat.div-le_self, Math.Nat.div-mul-le_self, Math.Nat.mul-le-mul, Math.Nat.mod-le, lemmas.Bool.and_parts, lemmas.Int.ints, lemmas.Option.same_Some}
use Rattle.std.specs.{Cmp.Derive.both_true, List.list_all, Prelude.◌-ℤ◌, Prelude.◌≤ℤ◌, Prelude.◌/◌, Prelude.unsigned_abs, Prelude.int_div, Prelude.int_rem, Prelude.if◌then◌else◌}
use Rattle.lra_analysis_spec.specs.Crates.lra_base.Operators.{Operator, plus, minus, times, over, modulo}
use Rattle.lra_analysis_spec.specs.Crates.lra_base.declared.number_types.NumberType.TheVariants.{Int, Long}
use Rattle.lra_analysis_spec.specs.Crates.lra_program.Overflow.{ExprOverflows, EitherOverflows, CondOverflows, GivenOverflows, ArgumentsOverflow, OpOverflows}
use Rattle.lra_analysis_spec.specs.Crates.lra_program.Program.{Expr, literal, read, input, negate, binary, element, type_of, Element, Cond, compare, nonzero, opposite, both_of, either_of}
use Rattle.lra_analysis_spec.specs.Crates.lra_program.Receivers.{waiting_in, lets_through, parameter_of, converts_to, target_accepts, accepts}
use Rattle.lra_analysis_spec.specs.Crates.lra_program.Step.{State, environment_at, Op, append, fill, store_value, store_element, havoc, push, push_for, truncate_to, test, aim}
use Rattle.lra_analysis_spec.specs.Crates.lra_program.Value.{◌>>=◌, number, is_zero, quotient, apply, Environment, value_of, truth_of, Argument}
use Rattle.lra_analysis_spec.specs.Crates.lra_program.declared.receivers.ConversionChain.TheVariants.{Wide, Short, Shortened}
use Rattle.lra_analysis_spec.specs.Crates.{lra_base.NumberTypes.fits, lra_base.NumberTypes.wider, lra_base.declared.number_types.NumberType.NumberType, lra_linear_forms.Form.Form}
use Rattle.lra_analysis_spec.specs.Crates.{lra_linear_forms.Form.form_value, lra_program.declared.receivers.ConversionChain.ConversionChain, lra_program.declared.receivers.Receiver.Receiver}
use Rattle.lra_analysis_spec.specs.Crates.{lra_program.declared.receivers.Target.Target}
use Rattle.lra_domain.specs.{Abstraction.Abstraction, Laws.Laws, Moves.MayLead, declared.Exactness.Exactness}
use Rattle.lra_analysis_spec.proofs.Crates.lra_base.TypeLimits.{limits_of, fits_between, int_is_long, fits_long, fits_wider}
use Rattle.lra_analysis_spec.proofs.Crates.{lra_program.StepLaws.aim_keeps, lra_program.TypeLaws.bind_some, lra_program.TypeLaws.value_has_its_type, lra_program.TypeLaws.refused_converts}
use Rattle.lra_operations.specs.CheckedOperations.{FreshOverflows}
use Rattle.lra_analysis_spec.specs.Fits.{LiesIn, IsDivisor, OperatorFits, ExprJudged, ConversionJudged, GivenJudged, ArgumentsJudged, CondJudged, OpJudged, FittingNeverOverflow}
use Rattle.lra_analysis_spec.specs.Linear.{scaled, operator_form, form_of, form_in, exactly}
use Rattle.lra_analysis_spec.specs.{Judging.AnswersUnlessUnreachable, Judging.Declares, MovesOf.guard, Operations.lossy_operations, Pass.Filters}
use Rattle.lra_analysis_spec.proofs.FormLemmas.{form_wide, constant_value, negated_value, exact_forms, forms_are_right}
use Rattle.lra_analysis_spec.proofs.{CondKeeping.cond_leads, Covers.Has, Keeps.moves_keep, Keeps.changes_keep}

-- numbers of a type ----------------------------------------------------------------------------------------------------

there : (t : NumberType) (z : ℤ) → fits t z ≡ true → number t z ≡ Some z
there t z e = ap (λ (b : Bool). if b then Some z else None) e

some_none : (o : Option ℤ) (z : ℤ) → o ≡ Some z → o ≡ None → ⊥
some_none o z a b = cc

not_both : (b : Bool) → b ≡ true → b ≡ false → ⊥
not_both true a b = cc
not_both false a b = cc

-- the least number of a type is -(m + 1), the greatest m
quotient_lies : (m : ℕ) (x y : ℤ) → 1 ≤ m → negsuc m ≤ℤ x → x ≤ℤ pos m → y ≢ pos 0 → y ≢ negsuc 0 → (negsuc m ≤ℤ int_div x y) × (int_div x y ≤ℤ pos m)
quotient_lies m (pos a) (pos b) some l h zero_no one_no = let q = div-le_self a b in (omega (arith, ints, q, h), omega (arith, ints, q, h))
quotient_lies m (pos a) (negsuc b) some l h zero_no one_no = let q = div-le_self a (suc b) in (omega (arith, ints, q, h), omega (arith, ints, q, h))
quotient_lies m (negsuc a) (pos b) some l h zero_no one_no = let q = div-le_self (suc a) b in (omega (arith, ints, q, l), omega (arith, ints, q, l))
quotient_lies m (negsuc a) (negsuc zero) some l h zero_no one_no = absurd (one_no refl)
quotient_lies m (negsuc a) (negsuc (suc b)) some l h zero_no one_no =
    let q = div-mul-le_self (suc a) (suc (suc b)) in
    let less : suc a / suc (suc b) * 2 ≤ suc a / suc (suc b) * suc (suc b) = mul-le-mul (omega arith) (omega arith) in
    (omega (arith, ints, q, less, l), omega (arith, ints, q, less, l))

remainder_lies : (m : ℕ) (x y : ℤ) → negsuc m ≤ℤ x → x ≤ℤ pos m → (negsuc m ≤ℤ int_rem x y) × (int_rem x y ≤ℤ pos m)
remainder_lies m (pos a) y l h = let q = mod-le a (unsigned_abs y) in (omega (arith, ints, q, h), omega (arith, ints, q, h))
remainder_lies m (negsuc a) y l h = let q = mod-le (suc a) (unsigned_abs y) in (omega (arith, ints, q, l), omega (arith, ints, q, l))

quotient_fits : (t : NumberType) (x y : ℤ) → fits t x ≡ true → y ≢ pos 0 → y ≢ negsuc 0 → fits t (int_div x y) ≡ true
quotient_fits Int x y e a b = let s = limits_of Int x e in let q = quotient_lies 2147483647 x y (omega arith) s.0 s.1 a b in fits_between Int (int_div x y) q.0
    q.1
quotient_fits Long x y e a b = let s = limits_of Long x e in let q = quotient_lies 9223372036854775807 x y (omega arith) s.0 s.1 a b in fits_between Long
    (int_div x y) q.0 q.1

remainder_fits : (t : NumberType) (x y : ℤ) → fits t x ≡ true → fits t (int_rem x y) ≡ true
remainder_fits Int x y e = let s = limits_of Int x e in let q = remainder_lies 2147483647 x y s.0 s.1 in fits_between Int (int_rem x y) q.0 q.1
remainder_fits Long x y e = let s = limits_of Long x e in let q = remainder_lies 9223372036854775807 x y s.0 s.1 in fits_between Long (int_rem x y) q.0 q.1

not_zero : (y : ℤ) → y ≢ pos 0 → is_zero y ≡ false
not_zero (pos zero) n = absurd (n refl)
not_zero (pos (suc k)) n = refl
not_zero (negsuc k) n = refl

-- a quotient or remainder that fits is there
has_quotient : (t : NumberType) (f : ℤ → ℤ → ℤ) (x y : ℤ) → y ≢ pos 0 → fits t (int_div x y) ≡ true → fits t (f x y) ≡ true → quotient t f x y ≡ Some (f x y)
has_quotient t f x y n q r =
    ap (λ (b : Bool). if b then None else number t (int_div x y) >>= λ _. number t (f x y)) (not_zero y n) ∙
    ap (λ (o : Option ℤ). o >>= λ _. number t (f x y)) (there t (int_div x y) q) ∙ there t (f x y) r

-- a number of 32 bits reaches every receiver
way_open : (w : ConversionChain) (z : ℤ) → fits Int z ≡ true → lets_through w z ≡ true
way_open Wide z e = refl
way_open Short z e = e
way_open Shortened z e = e

target_open : (o : Option Target) (z : ℤ) → fits Int z ≡ true → target_accepts o z ≡ true
target_open None z e = refl
target_open (Some t) z e = by t.number_type
  where
    by : (t : NumberType) → fits t z ≡ true
    by Int = e
    by Long = int_is_long z e

given_goes : (x : Receiver) (t : NumberType) (z : ℤ) → fits t z ≡ true → (converts_to t x ≡ true → fits Int z ≡ true) → accepts x z ≡ false → ⊥
given_goes x t z fit converted refused =
    let short = converted (refused_converts t x z fit refused) in
    not_both (accepts x z) (both_true (way_open x.conversions z short) (target_open x.target z short)) refused

argument_goes : (t u : NumberType) (z : ℤ) → fits u z ≡ true → (converts_to u (parameter_of t) ≡ true → fits Int z ≡ true) → number t z ≡ None → ⊥
argument_goes Int Int z fit converted stop = some_none (number Int z) z (there Int z fit) stop
argument_goes Int Long z fit converted stop = some_none (number Int z) z (there Int z (converted refl)) stop
argument_goes Long u z fit converted stop = some_none (number Long z) z (there Long z (fits_long u z fit)) stop

-- answers --------------------------------------------------------------------------------------------------------------

abbrev AllSo : List Bool → Type 0
AllSo bs = list_all (λ x. x) bs ≡ true

all_parts : (xs ys : List Bool) → AllSo (xs ++ ys) → AllSo xs × AllSo ys
all_parts [] ys e = (refl, e)
all_parts (x ∷ xs) ys e =
    let both = and_parts x (list_all (λ x. x) (xs ++ ys)) e in
    let rest = all_parts xs ys both.1 in
    (both_true both.0 rest.0, rest.1)

split_so : (bs xs ys : List Bool) → bs ≡ xs ++ ys → AllSo bs → AllSo xs × AllSo ys
split_so bs xs ys is all = all_parts xs ys (subst AllSo is all)

last_so : (b : Bool) → AllSo (b ∷ []) → b ≡ true
last_so b e = (and_parts b true e).0

-- one value ------------------------------------------------------------------------------------------------------------

module _ {V H : Type 0} (m : Abstraction V H) (laws : Laws m) (s : Environment) where
  module _ (v : V) (held : Has m v s.store) where
    sized : m.dims v ≡ length s.store
    sized = sym (laws.sized v s.store held.0 held.1)

    -- an answer, if the value has a store
    answered : (so : Type 0) (b : Bool) → AnswersUnlessUnreachable m v b so → b ≡ true → so
    answered so b answer is = elim (answer.0 is) [ inl none ↦ absurd (laws.partless v held.0 none s.store held.1) | inr it ↦ it ]

    lies_there : (t : NumberType) (o : Option Form) → LiesIn m v t o → (f : Form) × (o ≡ Some f)
    lies_there t None lies = absurd lies
    lies_there t (Some f) lies = (f, refl)

    -- a form whose values lie in the type has such a value
    form_lies : (t : NumberType) (o : Option Form) (f : Form) → o ≡ Some f → length f.coefficients ≡ length s.store → LiesIn m v t o → fits t
        (form_value f s.store) ≡ true
    form_lies t None f is wide lies = absurd lies
    form_lies t (Some g) f is wide (l, h, bounded, low, high) =
        let same : g ≡ f = same_Some g f is in
        let wide_too : length g.coefficients ≡ m.dims v = ap (λ (x : Form). length x.coefficients) same ∙ wide ∙ sym sized in
        let within = laws.bounded_stores v g (Some l) (Some h) s.store held.0 wide_too bounded held.1 in
        let a = limits_of t l low in
        let b = limits_of t h high in
        let least = a.0 in
        let greatest = b.1 in
        let from = within.0 in
        let to = within.1 in
        subst (λ (x : Form). fits t (form_value x s.store) ≡ true) same
        (fits_between t (form_value g s.store) (omega (arith, ints, least, from)) (omega (arith, ints, to, greatest)))

    -- over the store's own length
    abbrev Here : NumberType → Expr → Type 0
    Here t e = LiesIn m v t (form_of (m.dims v) s.base e)

    expr_lies : (t : NumberType) (e : Expr) (f : Form) → form_in s e ≡ Some f → Here t e → fits t (form_value f s.store) ≡ true
    expr_lies t e f is lies = form_lies t (form_in s e) f is (form_wide (length s.store) s.base e f is).width
        (subst (λ (n : ℕ). LiesIn m v t (form_of n s.base e)) sized lies)

    expr_form : (t : NumberType) (e : Expr) → Here t e → (f : Form) × (form_in s e ≡ Some f)
    expr_form t e lies = lies_there t (form_in s e) (subst (λ (n : ℕ). LiesIn m v t (form_of n s.base e)) sized lies)

    -- the value of an expression whose form lies in a type is one of it
    value_lies : (t : NumberType) (e : Expr) (draws : List ℤ) (r : ℤ × List ℤ) → value_of e s draws ≡ Some r → Here t e → fits t r.0 ≡ true
    value_lies t e draws r ran lies =
        let (f, is) = expr_form t e lies in
        subst (λ (z : ℤ). fits t z ≡ true) (forms_are_right s e f draws r.1 r.0 is ran) (expr_lies t e f is lies)

    -- and so is an operator's exact value
    exact_goes : (t : NumberType) (op : Operator) (a b : Expr) (draws : List ℤ) (r q : ℤ × List ℤ) → value_of a s draws ≡ Some r → value_of b s r.1 ≡ Some q →
        Here t (binary op a b)
        → fits t (exactly op r.0 q.0) ≡ true
    exact_goes t op a b draws r q ran ran_too lies =
        let (f, is) = expr_form t (binary op a b) lies in
        let (g, of, to) = bind_some (form_in s a) (λ x. form_in s b >>= λ y. operator_form op x y) f is in
        let (h, of_too, result) = bind_some (form_in s b) (λ y. operator_form op g y) f to in
        let exact = exact_forms op g h f s.store (form_wide (length s.store) s.base a g of).width (form_wide (length s.store) s.base b h of_too).width result in
        let left = forms_are_right s a g draws r.1 r.0 of ran in
        let right = forms_are_right s b h r.1 q.1 q.0 of_too ran_too in
        let same : form_value f s.store ≡ exactly op r.0 q.0 = exact ∙ ap (λ (x : ℤ). exactly op x (form_value h s.store)) left ∙ ap
        (λ (y : ℤ). exactly op r.0 y) right in
        subst (λ (z : ℤ). fits t z ≡ true) same (expr_lies t (binary op a b) f is lies)

    -- a divisor is neither 0 nor -1
    divisor_is : (b : Expr) (draws : List ℤ) (q : ℤ × List ℤ) → value_of b s draws ≡ Some q → (o : Option Form) → form_in s b ≡ o → IsDivisor o → (q.0 ≢ pos 0)
        × (q.0 ≢ negsuc 0)
    divisor_is b draws q ran None is d = absurd d
    divisor_is b draws q ran (Some g) is (constant, zero_no, one_no) =
        let same : g.constant ≡ q.0 = sym (constant_value g s.store constant) ∙ forms_are_right s b g draws q.1 q.0 is ran in
        (λ e. zero_no (same ∙ e), λ e. one_no (same ∙ e))

    divides : (t : NumberType) (b : Expr) (draws : List ℤ) (q : ℤ × List ℤ) → value_of b s draws ≡ Some q → IsDivisor (form_of (m.dims v) s.base b) →
        (q.0 ≢ pos 0) × (q.0 ≢ negsuc 0)
    divides t b draws q ran d = divisor_is b draws q ran (form_in s b) refl (subst (λ (n : ℕ). IsDivisor (form_of n s.base b)) sized d)

    operator_goes : (t : NumberType) (op : Operator) (a b : Expr) (draws : List ℤ) (r q : ℤ × List ℤ) → value_of a s draws ≡ Some r → value_of b s r.1 ≡ Some q
        → fits t r.0 ≡ true
        → OperatorFits m v t op (form_of (m.dims v) s.base (binary op a b)) (form_of (m.dims v) s.base b) → apply t op r.0 q.0 ≡ None → ⊥
    operator_goes t plus a b draws r q ran ran_too fit lies stop = some_none (apply t plus r.0 q.0) _
        (there t (exactly plus r.0 q.0) (exact_goes t plus a b draws r q ran ran_too lies)) stop
    operator_goes t minus a b draws r q ran ran_too fit lies stop = some_none (apply t minus r.0 q.0) _
        (there t (exactly minus r.0 q.0) (exact_goes t minus a b draws r q ran ran_too lies)) stop
    operator_goes t times a b draws r q ran ran_too fit lies stop = some_none (apply t times r.0 q.0) _
        (there t (exactly times r.0 q.0) (exact_goes t times a b draws r q ran ran_too lies)) stop
    operator_goes t over a b draws r q ran ran_too fit d stop =
        let no = divides t b r.1 q ran_too d in
        let k = quotient_fits t r.0 q.0 fit no.0 no.1 in
        some_none (apply t over r.0 q.0) (int_div r.0 q.0) (has_quotient t int_div r.0 q.0 no.0 k k) stop
    operator_goes t modulo a b draws r q ran ran_too fit d stop =
        let no = divides t b r.1 q ran_too d in
        some_none (apply t modulo r.0 q.0) (int_rem r.0 q.0) (has_quotient t int_rem r.0 q.0 no.0 (quotient_fits t r.0 q.0 fit no.0 no.1)
        (remainder_fits t r.0 q.0 fit)) stop

    negation_goes : (e : Expr) (draws : List ℤ) (r : ℤ × List ℤ) → value_of e s draws ≡ Some r → Here (type_of e) (negate e) → number (type_of e)
        (pos 0 -ℤ r.0) ≡ None → ⊥
    negation_goes e draws r ran lies stop =
        let (f, is) = expr_form (type_of e) (negate e) lies in
        let (g, of, to) = bind_some (form_in s e) (λ h. scaled (negsuc 0) h) f is in
        let value = negated_value g f s.store r.0 to (forms_are_right s e g draws r.1 r.0 of ran) in
        some_none (number (type_of e) (pos 0 -ℤ r.0)) (pos 0 -ℤ r.0) (there (type_of e) (pos 0 -ℤ r.0)
        (subst (λ (z : ℤ). fits (type_of e) z ≡ true) value (expr_lies (type_of e) (negate e) f is lies))) stop

    -- if all of it fits, no number stops an expression
    expr_goes : (e : Expr) (bs : List Bool) (draws : List ℤ) → ExprJudged m v s.base e bs → AllSo bs → ExprOverflows e s draws → ⊥
    expr_goes (literal t n) bs draws judged all stops = stops
    expr_goes (read x) bs draws judged all stops = stops
    expr_goes input bs draws judged all stops = stops
    expr_goes (negate e) bs draws (xs, b, inner, answer, is) all (inl stops) = expr_goes e xs draws inner (split_so bs xs (b ∷ []) is all).0 stops
    expr_goes (negate e) bs draws (xs, b, inner, answer, is) all (inr (r, ran, stop)) =
        negation_goes e draws r ran (answered (Here (type_of e) (negate e)) b answer (last_so b (split_so bs xs (b ∷ []) is all).1)) stop
    expr_goes (binary op a b) bs draws (xs, ys, c, one, two, answer, is) all (inl stops) = expr_goes a xs draws one
        (all_parts xs ys (split_so bs (xs ++ ys) (c ∷ []) is all).0).0 stops
    expr_goes (binary op a b) bs draws (xs, ys, c, one, two, answer, is) all (inr (r, ran, inl stops)) = expr_goes b ys r.1 two
        (all_parts xs ys (split_so bs (xs ++ ys) (c ∷ []) is all).0).1 stops
    expr_goes (binary op a b) bs draws (xs, ys, c, one, two, answer, is) all (inr (r, ran, inr (q, ran_too, stop))) =
        let t = wider (type_of a) (type_of b) in
        operator_goes t op a b draws r q ran ran_too (fits_wider (type_of a) (type_of b) r.0 (value_has_its_type a s draws r ran))
        (answered (OperatorFits m v t op (form_of (m.dims v) s.base (binary op a b)) (form_of (m.dims v) s.base b)) c answer
        (last_so c (split_so bs (xs ++ ys) (c ∷ []) is all).1)) stop
    expr_goes (element a at e) bs draws judged all stops = expr_goes e bs draws judged all stops

    -- nor the conversion after it
    conversion_goes : (b : Bool) (e : Expr) (ys : List Bool) (draws : List ℤ) (r : ℤ × List ℤ) → ConversionJudged m v s.base b e ys → AllSo ys → value_of e s
        draws ≡ Some r → b ≡ true → fits Int r.0 ≡ true
    conversion_goes false e ys draws r judged all ran is = cc
    conversion_goes true e ys draws r (b, answer, same) all ran is =
        value_lies Int e draws r ran (answered (Here Int e) b answer (last_so b (subst AllSo same all)))

    receiver_goes : (x : Receiver) (e : Expr) (bs : List Bool) (draws : List ℤ) → GivenJudged m v s.base x e bs → AllSo bs → GivenOverflows x e s draws → ⊥
    receiver_goes x e bs draws (xs, ys, inner, converted, is) all (inl stops) = expr_goes e xs draws inner (split_so bs xs ys is all).0 stops
    receiver_goes x e bs draws (xs, ys, inner, converted, is) all (inr (r, ran, refused)) =
        given_goes x (type_of e) r.0 (value_has_its_type e s draws r ran)
        (λ c. conversion_goes (converts_to (type_of e) x) e ys draws r converted (split_so bs xs ys is all).1 ran c) refused

    arguments_go : (given : List Argument) (bs : List Bool) (draws : List ℤ) → ArgumentsJudged m v s.base given bs → AllSo bs → ArgumentsOverflow given s draws
        → ⊥
    arguments_go [] bs draws judged all stops = stops
    arguments_go (a ∷ rest) bs draws (xs, ys, (us, ws, inner, converted, of), later, is) all (inl stops) =
        expr_goes a.value us draws inner (split_so xs us ws of (split_so bs xs ys is all).0).0 stops
    arguments_go (a ∷ rest) bs draws (xs, ys, (us, ws, inner, converted, of), later, is) all (inr (r, ran, inl none)) =
        argument_goes a.number_type (type_of a.value) r.0 (value_has_its_type a.value s draws r ran)
        (λ c. conversion_goes (converts_to (type_of a.value) (parameter_of a.number_type)) a.value ws draws r converted
        (split_so xs us ws of (split_so bs xs ys is all).0).1 ran c) none
    arguments_go (a ∷ rest) bs draws (xs, ys, first, later, is) all (inr (r, ran, inr (z, got, stops))) = arguments_go rest ys r.1 later
        (split_so bs xs ys is all).1 stops

  -- conditions -----------------------------------------------------------------------------------------------------------

  -- what a left side leaves has the store at which it is so
  pub left_behind : (c : Cond) (wanted : Bool) (v w : V) (e : Exactness) (draws left : List ℤ) → Has m v s.store →
      Filters (lossy_operations m) s.base c wanted v e w →
      truth_of c s draws ≡ Some (wanted, left) → Has m w s.store
  left_behind c wanted v w e draws left held leaves ran =
      moves_keep V H m laws (guard (m.dims v) s.base wanted c) v e w leaves s.store s.store held
      (subst (λ (n : ℕ). MayLead (guard n s.base wanted c) s.store s.store) (laws.sized v s.store held.0 held.1) (cond_leads s c wanted draws left ran))

  either_goes : (a b : Expr) (v : V) (bs xs ys : List Bool) (draws : List ℤ) → Has m v s.store → ExprJudged m v s.base a xs → ExprJudged m v s.base b ys → bs ≡
      xs ++ ys → AllSo bs
      → EitherOverflows a b s draws → ⊥
  either_goes a b v bs xs ys draws held one two is all (inl stops) = expr_goes v held a xs draws one (split_so bs xs ys is all).0 stops
  either_goes a b v bs xs ys draws held one two is all (inr (r, ran, stops)) = expr_goes v held b ys r.1 two (split_so bs xs ys is all).1 stops

  cond_goes : (c : Cond) (v : V) (bs : List Bool) (e : Exactness) (draws : List ℤ) → Has m v s.store → CondJudged m (lossy_operations m) s.base c v bs e →
      AllSo bs →
      CondOverflows c s draws → ⊥
  cond_goes (compare op a b) v bs e draws held (xs, ys, one, two, is, exact) all stops = either_goes a b v bs xs ys draws held one two is all stops
  cond_goes (nonzero a) v bs e draws held (judged, exact) all stops = expr_goes v held a bs draws judged all stops
  cond_goes (opposite c) v bs e draws held judged all stops = cond_goes c v bs e draws held judged all stops
  cond_goes (both_of c d) v bs e draws held (xs, ys, w, f, g, h, one, leaves, two, is, flags) all (inl stops) = cond_goes c v xs f draws held one
      (split_so bs xs ys is all).0 stops
  cond_goes (both_of c d) v bs e draws held (xs, ys, w, f, g, h, one, leaves, two, is, flags) all (inr (left, ran, stops)) =
      cond_goes d w ys h left (left_behind c true v w g draws left held leaves ran) two (split_so bs xs ys is all).1 stops
  cond_goes (either_of c d) v bs e draws held (xs, ys, w, f, g, h, one, leaves, two, is, flags) all (inl stops) = cond_goes c v xs f draws held one
      (split_so bs xs ys is all).0 stops
  cond_goes (either_of c d) v bs e draws held (xs, ys, w, f, g, h, one, leaves, two, is, flags) all (inr (left, ran, stops)) =
      cond_goes d w ys h left (left_behind c false v w g draws left held leaves ran) two (split_so bs xs ys is all).1 stops

-- operations -------------------------------------------------------------------------------------------------------------

module _ {V H : Type 0} (m : Abstraction V H) (laws : Laws m) where
  -- after an element's index
  still_held : (base : ℕ) (x : Element) (v : V) (s n : State) → Has m v s.store → aim base x s ≡ Some n → Has m v n.store
  still_held base x v s n held aimed = subst (λ (xs : List ℤ). Has m v xs) (sym (aim_keeps base x s n aimed)) held

  op_goes : (op : Op) (v : V) (bs : List Bool) (e : Exactness) (s : State) → Has m v s.store → OpJudged m (lossy_operations m) op v bs e → AllSo bs →
      OpOverflows op s
      → ⊥
  op_goes (append t) v bs e s held judged all stops = stops
  op_goes (fill a) v bs e s held judged all stops = stops
  op_goes (store_value base x a) v bs e s held judged all stops = receiver_goes m laws (environment_at base s) v held x a bs s.draws judged.0 all stops
  op_goes (store_element base x a) v bs e s held ((xs, ys, first, later, is), exact) all (inl stops) =
      expr_goes m laws (environment_at base s) v held x.index xs s.draws first (split_so bs xs ys is all).0 stops
  op_goes (store_element base x a) v bs e s held ((xs, ys, first, later, is), exact) all (inr (n, aimed, stops)) =
      receiver_goes m laws (environment_at base n) v (still_held base x v s n held aimed) (waiting_in x.array) a ys n.draws later (split_so bs xs ys is all).1
      stops
  op_goes (havoc x) v bs e s held judged all stops = stops
  op_goes (push base given) v bs e s held judged all stops = arguments_go m laws (environment_at base s) v held given bs s.draws judged.0 all stops
  op_goes (push_for base x given) v bs e s held ((xs, ys, first, later, is), exact) all (inl stops) =
      expr_goes m laws (environment_at base s) v held x.index xs s.draws first (split_so bs xs ys is all).0 stops
  op_goes (push_for base x given) v bs e s held ((xs, ys, first, later, is), exact) all (inr (n, aimed, stops)) =
      arguments_go m laws (environment_at base n) v (still_held base x v s n held aimed) given ys n.draws later (split_so bs xs ys is all).1 stops
  op_goes (truncate_to n) v bs e s held judged all stops = stops
  op_goes (test base c wanted) v bs e s held judged all stops = cond_goes m laws (environment_at base s) c v bs e s.draws held judged all stops

  asked_goes : (fresh : Option NumberType) (op : Op) (v w : V) (bs : List Bool) (c d : Exactness) (s : State) → Has m v s.store →
      Declares (lossy_operations m) fresh
      v c w
      → OpJudged m (lossy_operations m) op w bs d → AllSo bs → FreshOverflows fresh op s → ⊥
  asked_goes None op v w bs c d s held (same, exact) judged all stops = op_goes op w bs d s (subst (λ (x : V). Has m x s.store) (sym same) held) judged all
      stops
  asked_goes (Some t) op v w bs c d s held made judged all (n, ran, stops) = op_goes op w bs d n (changes_keep V H m laws (append t) v c w made s n held ran)
      judged all stops

  pub fitting_never_overflows : FittingNeverOverflow m
  fitting_never_overflows values a e v s at formed has (u, w, c, d, found, made, (bs, judged, all), flags) stops =
      let same : v ≡ u = same_Some v u (sym at ∙ found) in
      let held : Has m u s.store = subst (λ (x : V). Has m x s.store) same (formed, has) in
      asked_goes a.fresh a.op u w bs c d s held made judged (sym all) stops
