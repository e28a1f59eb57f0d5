-- The moves of a least change of a program lead where the change leads.
use Rattle.std.proofs.Common.{◌≡◌, ℕ, zero, suc, ◌+◌, ◌-◌, ◌≤◌, ◌++◌, ℤ, pos, List, [], ◌∷◌, Option, Some, None, Bool, true, false, length, take, refl, sym, ap, subst, ◌∙◌, arith, inl, inr}
use Rattle.std.proofs.{lemmas.List.length-set, lemmas.Option.same_Some}
use Rattle.std.proofs.{Common.append_assoc, Common.append-nil, Common.length-append, lemmas.Bool.and_parts, lemmas.Int.ints}
use Rattle.std.specs.Prelude.{map, ◌-ℤ◌, ◌+ℤ◌, ◌*ℤ◌, ◌≤ℤ◌, negsuc, ◌⊎◌, replicate, slice_set, slice_get}
use Rattle.lra_domain.specs.{Actions.embed, Moves.Moves, Moves.make, Moves.MayLead}
use Rattle.lra_analysis_spec.specs.Crates.lra_base.declared.number_types.NumberType.TheVariants.{Int, Long}
use Rattle.lra_analysis_spec.specs.Crates.lra_program.Program.{Expr, literal, read, input, negate, binary, element, type_of, Cond}
use Rattle.lra_analysis_spec.specs.Crates.lra_program.Receivers.{waiting_in, lets_through, target_accepts, accepts}
use Rattle.lra_analysis_spec.specs.Crates.lra_program.Step.{State, Op, append, fill, store_value, store_element, havoc, push, push_for, truncate_to, put, put_in, put_waiting, receive, kept_if}
use Rattle.lra_analysis_spec.specs.Crates.lra_program.Step.{drawn_for, pushed, filled, aim, environment_at, run_op}
use Rattle.lra_analysis_spec.specs.Crates.lra_program.Value.{◌>>=◌, number, index_of, Environment, apply, Argument, Drawn, first_draw, draws_of, value_of, values_of, truth_of}
use Rattle.lra_analysis_spec.specs.Crates.lra_program.declared.receivers.Cell.TheVariants.{Variable, Waiting}
use Rattle.lra_analysis_spec.specs.Crates.{lra_base.NumberTypes.fits, lra_base.NumberTypes.wider, lra_base.NumberTypes.least_of, lra_base.declared.number_types.NumberType.NumberType}
use Rattle.lra_analysis_spec.specs.Crates.{lra_linear_forms.Form.Form, lra_linear_forms.Form.form_value, lra_program.Arrays.elements_of, lra_program.Arrays.place_among}
use Rattle.lra_analysis_spec.specs.Crates.{lra_program.WellFormed.AreGoodGlobals, lra_program.declared.arrays.Array.Array, lra_program.declared.program.GlobalVariable.GlobalVariable}
use Rattle.lra_analysis_spec.specs.Crates.{lra_program.declared.receivers.Cell.Cell, lra_program.declared.receivers.Receiver.Receiver, lra_program.declared.receivers.Target.Target}
use Rattle.lra_analysis_spec.proofs.Crates.{lra_base.TypeLimits.limits_of, lra_linear_spec.Ring.ring, lra_linear_spec.Ring.v, lra_linear_spec.Ring.◌⊗◌, lra_program.StepLaws.aim_keeps}
use Rattle.lra_analysis_spec.proofs.Crates.{lra_program.StepLaws.store_waiting, lra_program.TypeLaws.bind_some, lra_program.TypeLaws.number_fits}
use Rattle.lra_analysis_spec.specs.Crates.lra_program.Step as step
use Rattle.lra_analysis_spec.specs.Linear as linear
use Rattle.lra_analysis_spec.specs.MovesOf.{above_least, below_greatest, within_type, set_to, append_set, push_all, set_target, drop_last, moves_of, set_cell, first_values, guard}
use Rattle.lra_analysis_spec.specs.declared.linearization.Linearized.TheVariants.{Linear, Unseen}
use Rattle.lra_analysis_spec.specs.{Linearization.linearized, declared.linearization.Linearized.Linearized}
use Rattle.lra_analysis_spec.proofs.FormLemmas.{number_same, pair_first, product_at, product_out, minus_is, constant_form_value}
use Rattle.lra_analysis_spec.proofs.{CondKeeping.cond_leads, DivisionLemmas.seen_set, DivisionLemmas.seen_right}

-- values with more variables -------------------------------------------------------------------------------------------

then_is : {A B : Type 0} (o : Option A) (f : A → Option B) (x : A) (r : Option B) → o ≡ Some x → f x ≡ r → (o >>= f) ≡ r
then_is {A} {B} o f x r e h = subst (λ (p : Option A). (p >>= f) ≡ r) (sym e) h

get_longer : (xs more : List ℤ) (k : ℕ) (z : ℤ) → slice_get xs k ≡ Some z → slice_get (xs ++ more) k ≡ Some z
get_longer [] more k z e = cc
get_longer (x ∷ xs) more zero z e = e
get_longer (x ∷ xs) more (suc k) z e = get_longer xs more k z e

-- with more variables after
abbrev longer : Environment → List ℤ → Environment
longer s more = record s { store = s.store ++ more }

-- these change no value
value_longer : (e : Expr) (s : Environment) (more draws : List ℤ) (r : ℤ × List ℤ) → value_of e s draws ≡ Some r → value_of e (longer s more) draws ≡ Some r
value_longer (literal t n) s more draws r is = is
value_longer (read x) s more draws r is =
    let (y, got, to) = bind_some (slice_get s.store (index_of s.base x.slot)) (λ y. number x.number_type y >>= λ z. Some (z, draws)) r is in
    then_is (slice_get (s.store ++ more) (index_of s.base x.slot)) (λ y. number x.number_type y >>= λ z. Some (z, draws)) y (Some r) (get_longer s.store more (index_of s.base x.slot) y got) to
value_longer input s more draws r is = is
value_longer (negate e) s more draws r is =
    let (p, got, to) = bind_some (value_of e s draws) (λ p. number (type_of e) (pos 0 -ℤ p.0) >>= λ z. Some (z, p.1)) r is in
    then_is (value_of e (longer s more) draws) (λ p. number (type_of e) (pos 0 -ℤ p.0) >>= λ z. Some (z, p.1)) p (Some r) (value_longer e s more draws p got) to
value_longer (binary op a b) s more draws r is =
    let t = wider (type_of a) (type_of b) in
    let (p, got, to) = bind_some (value_of a s draws) (λ p. value_of b s p.1 >>= λ q. apply t op p.0 q.0 >>= λ z. Some (z, q.1)) r is in
    let (q, got_too, last) = bind_some (value_of b s p.1) (λ q. apply t op p.0 q.0 >>= λ z. Some (z, q.1)) r to in
    then_is (value_of a (longer s more) draws) (λ p. value_of b (longer s more) p.1 >>= λ q. apply t op p.0 q.0 >>= λ z. Some (z, q.1)) p (Some r) (value_longer a s more draws p got)
    (then_is (value_of b (longer s more) p.1) (λ q. apply t op p.0 q.0 >>= λ z. Some (z, q.1)) q (Some r) (value_longer b s more p.1 q got_too) last)
value_longer (element a at e) s more draws r is =
    let found : ℤ × List ℤ → Drawn ℤ = λ p. place_among a.length p.0 >>= λ k.
    slice_get (elements_of a.declared s.arrays) k >>= λ y. number a.number_type y >>= λ z. Some (z, p.1) in
    let (p, got, to) = bind_some (value_of e s draws) found r is in
    then_is (value_of e (longer s more) draws) found p (Some r) (value_longer e s more draws p got) to

pub store_is : (s t : State) → Some s ≡ Some t → s.store ≡ t.store
store_is s t e = ap (λ (x : State). x.store) (same_Some s t e)

-- types -----------------------------------------------------------------------------------------------------------------

-- the number at the place, or no such place
abbrev MayBeAt : List ℤ → ℕ → ℤ → Type 0
MayBeAt xs k z = (slice_get xs k ≡ Some z) ⊎ (slice_get xs k ≡ None)

get_last : (xs : List ℤ) (z : ℤ) → slice_get (xs ++ z ∷ []) (length xs) ≡ Some z
get_last [] z = refl
get_last (x ∷ xs) z = get_last xs z

get_set : (xs : List ℤ) (k : ℕ) (z : ℤ) → MayBeAt (slice_set xs k z) k z
get_set [] k z = inr refl
get_set (x ∷ xs) zero z = inl refl
get_set (x ∷ xs) (suc k) z = get_set xs k z

-- a form of one variable alone
alone_value : (c k : ℤ) (n x : ℕ) (u : List ℤ) (z : ℤ) → n ≡ length u → MayBeAt u x z
    → (let f : Form = record { constant = k; coefficients = slice_set (replicate n (pos 0)) x c } in (form_value f u ≡ k +ℤ (c *ℤ z)) ⊎ (form_value f u ≡ k +ℤ pos 0))
alone_value c k n x u z e (inl there) = inl (ap (λ (y : ℤ). k +ℤ y) (product_at c n x u z e there))
alone_value c k n x u z e (inr out) = inr (ap (λ (y : ℤ). k +ℤ y) (product_out c n x u out))

above_holds : (w z : ℤ) → least_of Int ≤ℤ z → (w ≡ pos 2147483648 +ℤ (pos 1 *ℤ z)) ⊎ (w ≡ pos 2147483648 +ℤ pos 0) → pos 0 ≤ℤ w
above_holds w z low (inl e) = let one : pos 1 *ℤ z ≡ z = ring (v (pos 1) ⊗ v z) (v z) (omega arith) in rw (e, one) (omega (arith, ints, low))
above_holds w z low (inr e) = rw e (omega (arith, ints))

below_holds : (w z : ℤ) → z ≤ℤ pos 2147483647 → (w ≡ pos 2147483647 +ℤ (negsuc 0 *ℤ z)) ⊎ (w ≡ pos 2147483647 +ℤ pos 0) → pos 0 ≤ℤ w
below_holds w z high (inl e) = rw (e, ← minus_is (pos 2147483647) z) (omega (arith, ints, high))
below_holds w z high (inr e) = rw e (omega (arith, ints))

-- what gives a variable a number of its type passes the tests after it
within_type_keeps : (t : NumberType) (p : Moves) (n : ℕ) (s u : List ℤ) (x : ℕ) (z : ℤ) → n ≡ length u → MayBeAt u x z → fits t z ≡ true → MayLead p s u → MayLead (within_type t n x p) s u
within_type_keeps Long p n s u x z e there fit led = led
within_type_keeps Int p n s u x z e there fit led =
    let between = limits_of Int z fit in
    let low = above_holds (form_value (above_least Int n x) u) z between.0 (alone_value (pos 1) (pos 2147483648) n x u z e there) in
    let high = below_holds (form_value (below_greatest Int n x) u) z between.1 (alone_value (negsuc 0) (pos 2147483647) n x u z e there) in
    (u, led, (u, (low, refl), (high, refl)))

last_long : (xs : List ℤ) (z : ℤ) → suc (length xs) ≡ length (xs ++ z ∷ [])
last_long xs z = let one : suc (length xs) ≡ length xs + 1 = omega arith in one ∙ sym (length-append xs (z ∷ []))

-- least changes ---------------------------------------------------------------------------------------------------------

-- the variable gets the expression's value
set_leads : (s : Environment) (x : ℕ) (e : Expr) (draws left : List ℤ) (z : ℤ) → value_of e s draws ≡ Some (z, left)
    → MayLead (set_to (length s.store) x (linearized (length s.store) s.base e)) s.store (slice_set s.store x z)
set_leads s x e draws left z ran = seen_set (linearized (length s.store) s.base e) s.store x z (seen_right s e draws left z ran)

set_last : (xs : List ℤ) (z : ℤ) → slice_set (xs ++ z ∷ []) (length xs) z ≡ xs ++ z ∷ []
set_last [] z = refl
set_last (x ∷ xs) z = ap (λ (ys : List ℤ). x ∷ ys) (set_last xs z)

-- a new variable with the value of an argument that is evaluated without the variables after
argument_leads : (s : Environment) (t : NumberType) (e : Expr) (more draws left : List ℤ) (z : ℤ) → value_of e s draws ≡ Some (z, left) → fits t z ≡ true
    → (let all : List ℤ = s.store ++ more in
    MayLead (within_type t (suc (length all)) (length all) (append_set (length all) (linearized (suc (length all)) s.base e))) all (all ++ z ∷ []))
argument_leads s t e more draws left z ran fit =
    let all = s.store ++ more in
    let next = all ++ z ∷ [] in
    let long : length next ≡ suc (length all) = sym (last_long all z) in
    let longer_yet : value_of e (record s { store = next }) draws ≡ Some (z, left) =
    subst (λ (xs : List ℤ). value_of e (record s { store = xs }) draws ≡ Some (z, left)) (sym (append_assoc s.store more (z ∷ []))) (value_longer e s (more ++ z ∷ []) draws (z, left) ran) in
    let led : MayLead (set_to (length next) (length all) (linearized (length next) s.base e)) next (slice_set next (length all) z) =
    set_leads (record s { store = next }) (length all) e draws left z longer_yet in
    let there : MayLead (set_to (suc (length all)) (length all) (linearized (suc (length all)) s.base e)) next (slice_set next (length all) z) =
    subst (λ (n : ℕ). MayLead (set_to n (length all) (linearized n s.base e)) next (slice_set next (length all) z)) long led in
    within_type_keeps t (append_set (length all) (linearized (suc (length all)) s.base e)) (suc (length all)) all next (length all) z
    (last_long all z) (inl (get_last all z)) fit (
      next,
      (z ∷ [], refl, refl),
      subst (λ (xs : List ℤ). MayLead (set_to (suc (length all)) (length all) (linearized (suc (length all)) s.base e)) next xs) (set_last all z) there,
    )

arguments_lead : (s : Environment) (given : List Argument) (more draws : List ℤ) (r : List ℤ × List ℤ) → values_of given s draws ≡ Some r
    → (let all : List ℤ = s.store ++ more in MayLead (push_all (length all) s.base given) all (all ++ r.0))
arguments_lead s [] more draws r is =
    let p : List ℤ × List ℤ = ([], draws) in
    let none : [] ≡ r.0 = pair_first p r is in
    subst (λ (xs : List ℤ). (s.store ++ more) ++ xs ≡ s.store ++ more) none (append-nil (s.store ++ more))
arguments_lead s (a ∷ rest) more draws r is =
    let (p, got, on) = bind_some (value_of a.value s draws) (λ p. number a.number_type p.0 >>= λ z. values_of rest s p.1 >>= λ q. Some (z ∷ q.0, q.1)) r is in
    let (z, held, to) = bind_some (number a.number_type p.0) (λ z. values_of rest s p.1 >>= λ q. Some (z ∷ q.0, q.1)) r on in
    let (q, got_too, last) = bind_some (values_of rest s p.1) (λ q. Some (z ∷ q.0, q.1)) r to in
    let both : List ℤ × List ℤ = (z ∷ q.0, q.1) in
    let is_z : p.0 ≡ z = number_same a.number_type p.0 z held in
    let same : p.0 ∷ q.0 ≡ r.0 = ap (λ (y : ℤ). y ∷ q.0) is_z ∙ pair_first both r last in
    let fit : fits a.number_type p.0 ≡ true = subst (λ (y : ℤ). fits a.number_type y ≡ true) (sym is_z) (number_fits a.number_type p.0 z held) in
    let all = s.store ++ more in
    let next = all ++ p.0 ∷ [] in
    let long : length next ≡ suc (length all) = sym (last_long all p.0) in
    let later : MayLead (push_all (length next) s.base rest) next (next ++ q.0) =
    subst (λ (xs : List ℤ). MayLead (push_all (length xs) s.base rest) xs (xs ++ q.0)) (sym (append_assoc s.store more (p.0 ∷ []))) (arguments_lead s rest (more ++ p.0 ∷ []) p.1 q got_too) in
    let then_later : MayLead (push_all (suc (length all)) s.base rest) next (next ++ q.0) = subst (λ (n : ℕ). MayLead (push_all n s.base rest) next (next ++ q.0)) long later in
    let ended : next ++ q.0 ≡ all ++ r.0 = append_assoc all (p.0 ∷ []) q.0 ∙ ap (λ (xs : List ℤ). all ++ xs) same in
    (next, argument_leads s a.number_type a.value more draws p.1 p.0 got fit, subst (λ (xs : List ℤ). MayLead (push_all (suc (length all)) s.base rest) next xs) ended then_later)

-- what a receiver takes
record Received (x : Receiver) (s t : State) (o : Drawn ℤ) : Type 0 where
  drawn : ℤ × List ℤ
  is : o ≡ Some drawn
  accepted : target_accepts x.target drawn.0 ≡ true
  stored : (put x.target drawn.0 (record s { draws = drawn.1 })).store ≡ t.store

received : (x : Receiver) (s t : State) (o : Drawn ℤ) → receive x s o ≡ Some t → Received x s t o
received x s t None e = cc
received x s t (Some r) e = by (accepts x r.0) refl e
  where
    by : (b : Bool) → accepts x r.0 ≡ b → kept_if true b (put x.target r.0 (record s { draws = r.1 })) ≡ Some t → Received x s t (Some r)
    by true ok h = record {
      drawn = r;
      is = refl;
      accepted = (and_parts (lets_through x.conversions r.0) (target_accepts x.target r.0) ok).1;
      stored = store_is (put x.target r.0 (record s { draws = r.1 })) t h;
    }
    by false ok h = cc

-- a variable gets a number of its type
cell_leads : (t : NumberType) (c : Cell) (w : Linearized) (s : State) (z : ℤ) → fits t z ≡ true
    → ((x : ℕ) → MayLead (set_to (length s.store) x w) s.store (slice_set s.store x z))
    → MayLead (set_cell (length s.store) t c w) s.store (put_in c z s).store
cell_leads t (Variable x) w s z ok led =
    within_type_keeps t (set_to (length s.store) x w) (length s.store) s.store (slice_set s.store x z) x z
    (sym (length-set s.store x z)) (get_set s.store x z) ok (led x)
cell_leads t (Waiting p) w s z ok led = store_waiting p z s.waiting s

-- the target, if there is one, gets a number of its type
target_leads : (o : Option Target) (w : Linearized) (s : State) (z : ℤ) → target_accepts o z ≡ true
    → ((x : ℕ) → MayLead (set_to (length s.store) x w) s.store (slice_set s.store x z))
    → MayLead (set_target (length s.store) o w) s.store (put o z s).store
target_leads None w s z ok led = refl
target_leads (Some t) w s z ok led = cell_leads t.number_type t.cell w s z ok led

given_leads : (base : ℕ) (x : Receiver) (e : Expr) (s t : State) → receive x s (value_of e (environment_at base s) s.draws) ≡ Some t
    → MayLead (set_target (length s.store) x.target (linearized (length s.store) base e)) s.store t.store
given_leads base x e s t is =
    let r = received x s t (value_of e (environment_at base s) s.draws) is in
    let w = linearized (length s.store) base e in
    subst (λ (xs : List ℤ). MayLead (set_target (length s.store) x.target w) s.store xs) r.stored
    (target_leads x.target w (record s { draws = r.drawn.1 }) r.drawn.0 r.accepted
    (λ k. set_leads (environment_at base s) k e s.draws r.drawn.1 r.drawn.0 r.is))

any_leads : (o : Option Target) (x : Receiver) (s t : State) → x.target ≡ o → drawn_for o x s ≡ Some t
    → MayLead (set_target (length s.store) o Unseen) s.store t.store
any_leads None x s t same is = sym (store_is s t is)
any_leads (Some y) x s t same is =
    let r = received x s t (first_draw s.draws) is in
    let left : State = record s { draws = r.drawn.1 } in
    let stored : (put (Some y) r.drawn.0 left).store ≡ t.store = subst (λ (o : Option Target). (put o r.drawn.0 left).store ≡ t.store) same r.stored in
    subst (λ (xs : List ℤ). MayLead (set_target (length s.store) (Some y) Unseen) s.store xs) stored
    (target_leads (Some y) Unseen left r.drawn.0 (subst (λ (o : Option Target). target_accepts o r.drawn.0 ≡ true) same r.accepted)
    (λ k. (r.drawn.0, refl)))

pushed_leads : (base : ℕ) (given : List Argument) (s t : State) (o : Drawn (List ℤ)) → values_of given (environment_at base s) s.draws ≡ o → pushed s o ≡ Some t
    → MayLead (push_all (length s.store) base given) s.store t.store
pushed_leads base given s t None ran is = cc
pushed_leads base given s t (Some r) ran is =
    let store = s.store in
    let lead : MayLead (push_all (length (store ++ [])) base given) (store ++ []) ((store ++ []) ++ r.0) = arguments_lead (environment_at base s) given [] s.draws r ran in
    let same : MayLead (push_all (length store) base given) store (store ++ r.0) = subst (λ (xs : List ℤ). MayLead (push_all (length xs) base given) xs (xs ++ r.0)) (append-nil store) lead in
    subst (λ (xs : List ℤ). MayLead (push_all (length store) base given) store xs) (store_is (record s { store = store ++ r.0; draws = r.1 }) t is) same

take_all : (xs : List ℤ) (n : ℕ) → length xs ≤ n → take n xs ≡ xs
take_all [] zero h = refl
take_all [] (suc n) h = refl
take_all (x ∷ xs) zero h = absurd (omega (arith, h))
take_all (x ∷ xs) (suc n) h = ap (λ (ys : List ℤ). x ∷ ys) (take_all xs n (omega (arith, h)))

dropped_leads : (store : List ℤ) (n k : ℕ) → length store - n ≡ k → MayLead (drop_last k) store (take n store)
dropped_leads store n zero e = take_all store n (omega (arith, e))
dropped_leads store n (suc k) e =
    let kept : length store - suc k ≡ n = omega (arith, e) in
    ap (λ (i : ℕ). take i store) (sym kept)

-- a condition that was as wanted leaves the store
tested_leads : (base : ℕ) (c : Cond) (wanted : Bool) (s t : State) (left : List ℤ) → truth_of c (environment_at base s) s.draws ≡ Some (wanted, left) → Some (record s { draws = left }) ≡ Some t
    → MayLead (guard (length s.store) base wanted c) s.store t.store
tested_leads base c wanted s t left ran is =
    subst (λ (xs : List ℤ). MayLead (guard (length s.store) base wanted c) s.store xs) (store_is (record s { draws = left }) t is) (cond_leads (environment_at base s) c wanted s.draws left ran)

test_leads : (base : ℕ) (c : Cond) (wanted : Bool) (s t : State) (o : Drawn Bool) → truth_of c (environment_at base s) s.draws ≡ o →
    step.tested wanted s o ≡ Some t
    → MayLead (guard (length s.store) base wanted c) s.store t.store
test_leads base c wanted s t None ran is = cc
test_leads base c true s t (Some (true, left)) ran is = tested_leads base c true s t left ran is
test_leads base c false s t (Some (false, left)) ran is = tested_leads base c false s t left ran is
test_leads base c true s t (Some (false, left)) ran is = cc
test_leads base c false s t (Some (true, left)) ran is = cc

-- nor do an array's new elements, or an index that waits from now on
filled_keeps : (a : Array) (s t : State) (o : Drawn (List ℤ)) → filled a s o ≡ Some t → t.store ≡ s.store
filled_keeps a s t None is = cc
filled_keeps a s t (Some r) is = sym (store_is (record s { arrays = (a.declared, r.0) ∷ s.arrays; draws = r.1 }) t is)

-- the moves of a least change lead where it leads
pub op_leads : (op : Op) (s t : State) → run_op op s ≡ Some t → MayLead (moves_of (length s.store) op) s.store t.store
op_leads (append x) s t is =
    let (r, got, on) = bind_some (first_draw s.draws) (λ r. number x r.0 >>= λ z. Some (record s { store = s.store ++ z ∷ []; draws = r.1 })) t is in
    let (z, held, to) = bind_some (number x r.0) (λ z. Some (record s { store = s.store ++ z ∷ []; draws = r.1 })) t on in
    let next = s.store ++ z ∷ [] in
    subst (λ (xs : List ℤ). MayLead (moves_of (length s.store) (append x)) s.store xs) (store_is (record s { store = next; draws = r.1 }) t to)
    (within_type_keeps x (make (embed 1)) (suc (length s.store)) s.store next (length s.store) z (last_long s.store z) (inl (get_last s.store z)) (number_fits x r.0 z held) (z ∷ [], refl, refl))
op_leads (fill a) s t is = filled_keeps a s t (draws_of a.number_type a.length s.draws) is
op_leads (store_value base x e) s t is = given_leads base x e s t is
op_leads (store_element base x e) s t is =
    let (m, aimed, on) = bind_some (aim base x s) (λ m. receive (waiting_in x.array) m (value_of e (environment_at base m) m.draws)) t is in
    given_leads base (waiting_in x.array) e m t on ∙ aim_keeps base x s m aimed
op_leads (havoc x) s t is = any_leads x.target x s t refl is
op_leads (push base given) s t is = pushed_leads base given s t (values_of given (environment_at base s) s.draws) refl is
op_leads (push_for base x given) s t is =
    let (m, aimed, on) = bind_some (aim base x s) (λ m. pushed m (values_of given (environment_at base m) m.draws)) t is in
    subst (λ (xs : List ℤ). MayLead (push_all (length xs) base given) xs t.store) (aim_keeps base x s m aimed)
    (pushed_leads base given m t (values_of given (environment_at base m) m.draws) refl on)
op_leads (truncate_to n) s t is =
    subst (λ (xs : List ℤ). MayLead (drop_last (length s.store - n)) s.store xs) (store_is (record s { store = take n s.store }) t is)
    (dropped_leads s.store n (length s.store - n) refl)
op_leads (step.test base c wanted) s t is = test_leads base c wanted s t (truth_of c (environment_at base s) s.draws) refl is

-- globals ----------------------------------------------------------------------------------------------------------------

constant_is : (s : List ℤ) (z : ℤ) → (let next : List ℤ = s ++ z ∷ [] in next ≡ slice_set next (length s) (form_value (linear.constant_form (suc (length s)) z) next))
constant_is s z = let next = s ++ z ∷ [] in
    sym (ap (λ (y : ℤ). slice_set next (length s) y) (constant_form_value (suc (length s)) z next) ∙ set_last s z)

-- from any store the first values follow it
pub first_lead : (gs : List GlobalVariable) → AreGoodGlobals gs → (s : List ℤ) → MayLead (first_values (length s) gs) s (s ++ map (λ (g : GlobalVariable). g.value) gs)
first_lead [] good s = append-nil s
first_lead (g ∷ gs) good s =
    let z = g.value in
    let next = s ++ z ∷ [] in
    let rest : List ℤ = map (λ (g : GlobalVariable). g.value) gs in
    let p = append_set (length s) (Linear (linear.constant_form (suc (length s)) z)) in
    let later : MayLead (first_values (suc (length s)) gs) next (next ++ rest) =
    subst (λ (n : ℕ). MayLead (first_values n gs) next (next ++ rest)) (sym (last_long s z)) (first_lead gs good.1 next) in (
      next,
      within_type_keeps g.number_type p (suc (length s)) s next (length s) z (last_long s z) (inl (get_last s z)) good.0 (next, (z ∷ [], refl, refl), constant_is s z),
      subst (λ (xs : List ℤ). MayLead (first_values (suc (length s)) gs) next xs) (append_assoc s (z ∷ []) rest) later,
    )
