-- A value, if there is one, has its expression's type; and what stops by a number computes something.
use Rattle.std.proofs.Common.{◌≡◌, ℤ, pos, List, [], ◌∷◌, Option, Some, None, Bool, true, false, refl, ap, subst, inl, inr}
use Rattle.std.proofs.lemmas.Bool.{or_left, or_right}
use Rattle.std.specs.Prelude.{◌-ℤ◌, slice_get, if◌then◌else◌, int_div, int_rem, ◌&&◌, ◌||◌, ◌⊎◌}
use Rattle.lra_base.specs.{NumberTypes.fits, NumberTypes.wider, Operators.Operator, Operators.plus, Operators.minus, Operators.times, Operators.over, Operators.modulo}
use Rattle.lra_base.specs.{declared.number_types.NumberType.NumberType, declared.number_types.NumberType.TheVariants.Int, declared.number_types.NumberType.TheVariants.Long}
use Rattle.lra_base.proofs.TypeLimits.{int_is_long}
use Rattle.lra_program.specs.Arrays.{elements_of, place_among}
use Rattle.lra_program.specs.Overflow.{ExprOverflows, EitherOverflows, CondOverflows, GivenOverflows, ArgumentsOverflow, expr_computes, cond_computes, given_computes, arguments_compute}
use Rattle.lra_program.specs.Program.{Expr, literal, read, input, negate, binary, element, type_of, Cond, compare, nonzero, opposite, both_of, either_of}
use Rattle.lra_program.specs.Receivers.{waiting_in, lets_through, converts, parameter_of, is_shorter, shortens, converts_to, target_accepts, accepts}
use Rattle.lra_program.specs.Step.{environment_at, append, fill, store_value, store_element, havoc, push, push_for, truncate_to, test}
use Rattle.lra_program.specs.Value.{◌>>=◌, number, is_zero, apply, index_of, Environment, first_draw, value_of, ValuesHaveTypes, Argument}
use Rattle.lra_program.specs.declared.receivers.ConversionChain.TheVariants.{Wide, Short, Shortened}
use Rattle.lra_program.specs.{Overflow.OverflowingCompute, declared.receivers.ConversionChain.ConversionChain, declared.receivers.Receiver.Receiver, declared.receivers.Target.Target}

-- values have their types --------------------------------------------------------------------------------------------

-- what led to something
pub bind_some : {A B : Type 0} (o : Option A) (f : A → Option B) (y : B) → (o >>= f) ≡ Some y → (x : A) × (o ≡ Some x) × (f x ≡ Some y)
bind_some None f y e = cc
bind_some (Some x) f y e = (x, refl, e)

first_of_pair : {A B : Type 0} (x : A) (u : B) (r : A × B) → (let p : A × B = (x, u) in Some p) ≡ Some r → x ≡ r.0
first_of_pair {A} {B} x u r e =
    let p : A × B = (x, u) in
    let same : p ≡ r = cc in
    ap (λ (q : A × B). q.0) same

pub number_fits : (t : NumberType) (z y : ℤ) → number t z ≡ Some y → fits t y ≡ true
number_fits t z y e = by_test (fits t z) refl e
  where
    by_test : (b : Bool) → fits t z ≡ b → (if b then Some z else None) ≡ Some y → fits t y ≡ true
    by_test true is h = let same : z ≡ y = cc in subst (λ (x : ℤ). fits t x ≡ true) same is
    by_test false is h = cc

quotient_fits : (t : NumberType) (f : ℤ → ℤ → ℤ) (x y z : ℤ) (b : Bool) → (if b then None else number t (int_div x y) >>= λ _. number t (f x y)) ≡ Some z → fits t z ≡ true
quotient_fits t f x y z true e = cc
quotient_fits t f x y z false e = let (q, got, to) = bind_some (number t (int_div x y)) (λ _. number t (f x y)) z e in number_fits t (f x y) z to

pub apply_fits : (t : NumberType) (op : Operator) (x y z : ℤ) → apply t op x y ≡ Some z → fits t z ≡ true
apply_fits t plus x y z e = number_fits t _ z e
apply_fits t minus x y z e = number_fits t _ z e
apply_fits t times x y z e = number_fits t _ z e
apply_fits t over x y z e = quotient_fits t int_div x y z (is_zero y) e
apply_fits t modulo x y z e = quotient_fits t int_rem x y z (is_zero y) e

drawn_fits : (draws : List ℤ) (r : ℤ × List ℤ) → first_draw draws ≡ Some r → fits Long r.0 ≡ true
drawn_fits [] r e = cc
drawn_fits (d ∷ ds) r e =
    let (z, got, to) = bind_some (number Long d) (λ z. Some (z, ds)) r e in
    subst (λ (x : ℤ). fits Long x ≡ true) (first_of_pair z ds r to) (number_fits Long d z got)

pub value_has_its_type : (e : Expr) (s : Environment) (draws : List ℤ) (r : ℤ × List ℤ) → value_of e s draws ≡ Some r → fits (type_of e) r.0 ≡ true
value_has_its_type (literal t n) s draws r is =
    let (z, got, to) = bind_some (number t (pos n)) (λ z. Some (z, draws)) r is in
    subst (λ (x : ℤ). fits t x ≡ true) (first_of_pair z draws r to) (number_fits t (pos n) z got)
value_has_its_type (read v) s draws r is =
    let (y, there, on) = bind_some (slice_get s.store (index_of s.base v.slot)) (λ y. number v.number_type y >>= λ z. Some (z, draws)) r is in
    let (z, got, to) = bind_some (number v.number_type y) (λ z. Some (z, draws)) r on in
    subst (λ (x : ℤ). fits v.number_type x ≡ true) (first_of_pair z draws r to) (number_fits v.number_type y z got)
value_has_its_type input s draws r is = drawn_fits draws r is
value_has_its_type (negate e) s draws r is =
    let (q, there, on) = bind_some (value_of e s draws) (λ q. number (type_of e) (pos 0 -ℤ q.0) >>= λ z. Some (z, q.1)) r is in
    let (z, got, to) = bind_some (number (type_of e) (pos 0 -ℤ q.0)) (λ z. Some (z, q.1)) r on in
    subst (λ (x : ℤ). fits (type_of e) x ≡ true) (first_of_pair z q.1 r to) (number_fits (type_of e) (pos 0 -ℤ q.0) z got)
value_has_its_type (binary op a b) s draws r is =
    let t = wider (type_of a) (type_of b) in
    let (p, there, on) = bind_some (value_of a s draws) (λ p. value_of b s p.1 >>= λ q. apply (wider (type_of a) (type_of b)) op p.0 q.0 >>= λ z. Some (z, q.1)) r is in
    let (q, there_too, on_too) = bind_some (value_of b s p.1) (λ q. apply (wider (type_of a) (type_of b)) op p.0 q.0 >>= λ z. Some (z, q.1)) r on in
    let (z, got, to) = bind_some (apply (wider (type_of a) (type_of b)) op p.0 q.0) (λ z. Some (z, q.1)) r on_too in
    subst (λ (x : ℤ). fits t x ≡ true) (first_of_pair z q.1 r to) (apply_fits t op p.0 q.0 z got)
value_has_its_type (element a at e) s draws r is =
    let (q, there, on) = bind_some (value_of e s draws)
    (λ q. place_among a.length q.0 >>= λ k. slice_get (elements_of a.declared s.arrays) k >>= λ y. number a.number_type y >>= λ z. Some (z, q.1)) r is in
    let (k, inside, on_too) = bind_some (place_among a.length q.0)
    (λ k. slice_get (elements_of a.declared s.arrays) k >>= λ y. number a.number_type y >>= λ z. Some (z, q.1)) r on in
    let (y, held, last) = bind_some (slice_get (elements_of a.declared s.arrays) k) (λ y. number a.number_type y >>= λ z. Some (z, q.1)) r on_too in
    let (z, got, to) = bind_some (number a.number_type y) (λ z. Some (z, q.1)) r last in
    subst (λ (x : ℤ). fits a.number_type x ≡ true) {x = z} {y = r.0} (first_of_pair z q.1 r to) (number_fits a.number_type y z got)

pub values_have_types : ValuesHaveTypes
values_have_types e s draws left z is = value_has_its_type e s draws (z, left) is

-- what stops by a number computes ------------------------------------------------------------------------------------

and_is_false : (a b : Bool) → (a && b) ≡ false → (a ≡ false) ⊎ (b ≡ false)
and_is_false true b e = inr e
and_is_false false b e = inl refl

not_both : (b : Bool) → b ≡ true → b ≡ false → ⊥
not_both true e f = cc
not_both false e f = cc

way_converts : (t : NumberType) (w : ConversionChain) (z : ℤ) → fits t z ≡ true → lets_through w z ≡ false → converts t w ≡ true
way_converts t Wide z f e = cc
way_converts Int Short z f e = absurd (not_both (fits Int z) f e)
way_converts Long Short z f e = refl
way_converts Int Shortened z f e = refl
way_converts Long Shortened z f e = refl

type_is_shorter : (t u : NumberType) (z : ℤ) → fits t z ≡ true → fits u z ≡ false → is_shorter t u ≡ true
type_is_shorter Int Int z f e = absurd (not_both (fits Int z) f e)
type_is_shorter Int Long z f e = absurd (not_both (fits Long z) (int_is_long z f) e)
type_is_shorter Long Int z f e = refl
type_is_shorter Long Long z f e = absurd (not_both (fits Long z) f e)

target_shortens : (t : NumberType) (o : Option Target) (z : ℤ) → fits t z ≡ true → target_accepts o z ≡ false → shortens t o ≡ true
target_shortens t None z f e = cc
target_shortens t (Some g) z f e = type_is_shorter t g.number_type z f e

-- a value that isn't accepted is converted from 64 bits to 32
pub refused_converts : (t : NumberType) (x : Receiver) (z : ℤ) → fits t z ≡ true → accepts x z ≡ false → converts_to t x ≡ true
refused_converts t x z f e = elim (and_is_false (lets_through x.conversions z) (target_accepts x.target z) e) as (λ _. converts_to t x ≡ true) [
  | inl way ↦ or_left (converts t x.conversions) (shortens t x.target) (way_converts t x.conversions z f way)
  | inr target ↦ or_right (converts t x.conversions) (shortens t x.target) (target_shortens t x.target z f target)
]

number_is_none : (t : NumberType) (z : ℤ) → number t z ≡ None → fits t z ≡ false
number_is_none t z e = by_test (fits t z) e
  where
    by_test : (b : Bool) → (if b then Some z else None) ≡ None → b ≡ false
    by_test true h = cc
    by_test false h = refl

parameter_converts : (t u : NumberType) (z : ℤ) → fits u z ≡ true → fits t z ≡ false → converts_to u (parameter_of t) ≡ true
parameter_converts Int Int z f e = absurd (not_both (fits Int z) f e)
parameter_converts Int Long z f e = refl
parameter_converts Long Int z f e = absurd (not_both (fits Long z) (int_is_long z f) e)
parameter_converts Long Long z f e = absurd (not_both (fits Long z) f e)

expr_computing : (e : Expr) (s : Environment) (draws : List ℤ) → ExprOverflows e s draws → expr_computes e ≡ true
expr_computing (literal t n) s draws h = absurd h
expr_computing (read v) s draws h = absurd h
expr_computing input s draws h = absurd h
expr_computing (negate e) s draws h = refl
expr_computing (binary op a b) s draws h = refl
expr_computing (element a at e) s draws h = expr_computing e s draws h

either_computing : (a b : Expr) (s : Environment) (draws : List ℤ) → EitherOverflows a b s draws → (expr_computes a || expr_computes b) ≡ true
either_computing a b s draws (inl h) = or_left (expr_computes a) (expr_computes b) (expr_computing a s draws h)
either_computing a b s draws (inr (r, is, h)) = or_right (expr_computes a) (expr_computes b) (expr_computing b s r.1 h)

cond_computing : (c : Cond) (s : Environment) (draws : List ℤ) → CondOverflows c s draws → cond_computes c ≡ true
cond_computing (compare op a b) s draws h = either_computing a b s draws h
cond_computing (nonzero e) s draws h = expr_computing e s draws h
cond_computing (opposite c) s draws h = cond_computing c s draws h
cond_computing (both_of c d) s draws (inl h) = or_left (cond_computes c) (cond_computes d) (cond_computing c s draws h)
cond_computing (both_of c d) s draws (inr (left, is, h)) = or_right (cond_computes c) (cond_computes d) (cond_computing d s left h)
cond_computing (either_of c d) s draws (inl h) = or_left (cond_computes c) (cond_computes d) (cond_computing c s draws h)
cond_computing (either_of c d) s draws (inr (left, is, h)) = or_right (cond_computes c) (cond_computes d) (cond_computing d s left h)

given_computing : (x : Receiver) (e : Expr) (s : Environment) (draws : List ℤ) → GivenOverflows x e s draws → given_computes x e ≡ true
given_computing x e s draws (inl h) = or_left (expr_computes e) (converts_to (type_of e) x) (expr_computing e s draws h)
given_computing x e s draws (inr (r, is, refused)) =
    or_right (expr_computes e) (converts_to (type_of e) x) (refused_converts (type_of e) x r.0 (value_has_its_type e s draws r is) refused)

arguments_computing : (given : List Argument) (s : Environment) (draws : List ℤ) → ArgumentsOverflow given s draws → arguments_compute given ≡ true
arguments_computing [] s draws h = absurd h
arguments_computing (a ∷ rest) s draws (inl h) =
    let here = or_left (expr_computes a.value) (converts_to (type_of a.value) (parameter_of a.number_type)) (expr_computing a.value s draws h) in
    or_left (given_computes (parameter_of a.number_type) a.value) (arguments_compute rest) here
arguments_computing (a ∷ rest) s draws (inr (r, is, inl none)) =
    let converted = parameter_converts a.number_type (type_of a.value) r.0 (value_has_its_type a.value s draws r is) (number_is_none a.number_type r.0 none) in
    let here = or_right (expr_computes a.value) (converts_to (type_of a.value) (parameter_of a.number_type)) converted in
    or_left (given_computes (parameter_of a.number_type) a.value) (arguments_compute rest) here
arguments_computing (a ∷ rest) s draws (inr (r, is, inr (z, got, h))) =
    or_right (given_computes (parameter_of a.number_type) a.value) (arguments_compute rest) (arguments_computing rest s r.1 h)

pub overflowing_compute : OverflowingCompute
overflowing_compute (append t) s h = absurd h
overflowing_compute (store_value base x e) s h = given_computing x e (environment_at base s) s.draws h
overflowing_compute (fill a) s h = absurd h
overflowing_compute (store_element base x e) s (inl h) =
    or_left (expr_computes x.index) (given_computes (waiting_in x.array) e) (expr_computing x.index (environment_at base s) s.draws h)
overflowing_compute (store_element base x e) s (inr (m, aimed, h)) =
    or_right (expr_computes x.index) (given_computes (waiting_in x.array) e) (given_computing (waiting_in x.array) e (environment_at base m) m.draws h)
overflowing_compute (havoc x) s h = absurd h
overflowing_compute (push base given) s h = arguments_computing given (environment_at base s) s.draws h
overflowing_compute (push_for base x given) s (inl h) =
    or_left (expr_computes x.index) (arguments_compute given) (expr_computing x.index (environment_at base s) s.draws h)
overflowing_compute (push_for base x given) s (inr (m, aimed, h)) =
    or_right (expr_computes x.index) (arguments_compute given) (arguments_computing given (environment_at base m) m.draws h)
overflowing_compute (truncate_to n) s h = absurd h
overflowing_compute (test base c wanted) s h = cond_computing c (environment_at base s) s.draws h
