-- An access that is evaluated outside its array is that one of the operation's accesses, and ends the run.
use Rattle.std.proofs.Common.{◌≡◌, ℕ, zero, suc, ◌+◌, ℤ, List, [], ◌∷◌, ◌++◌, length, Option, Some, None, true, false, inl, inr, refl, ap, sym, subst, ◌∙◌, arith}
use Rattle.std.specs.Prelude.{pos, ◌-ℤ◌, slice_get, not, if◌then◌else◌}
use Rattle.lra_base.specs.{NumberTypes.wider, declared.refusals.Place.Place}
use Rattle.lra_program.specs.Accesses.{expr_accesses, cond_accesses, arguments_accesses, aim_accesses, IsNthAfter, ExprOutOfBounds, CondOutOfBounds, ArgumentsOutOfBounds, AimedOutOfBounds, IsOutside}
use Rattle.lra_program.specs.Program.{Expr, literal, read, input, negate, binary, element, type_of, Element, read_of, Cond, compare, nonzero, opposite, both_of, either_of}
use Rattle.lra_program.specs.Step.{State, environment_at, append, fill, store_value, store_element, havoc, push, push_for, truncate_to, test, receive, pushed, tested, aim}
use Rattle.lra_program.specs.Value.{◌>>=◌, number, is_zero, apply, compares, Environment, value_of, Argument, values_of, truth_of}
use Rattle.lra_program.specs.{Accesses.OutOfBoundsHasAccess, Accesses.OutOfBoundsEndsRun, Arrays.elements_of, Arrays.place_among, Receivers.waiting_in, declared.arrays.Array.Array}

-- one of its accesses ------------------------------------------------------------------------------------------------

-- the n-th of them is outside in this scene
abbrev pub HasOutside : List Element → Environment → ℕ → Type 0
HasOutside xs s n = (x : Element) × (slice_get xs n ≡ Some x) × IsOutside s x

pub get_left : {A : Type 0} (xs ys : List A) (n : ℕ) (x : A) → slice_get xs n ≡ Some x → slice_get (xs ++ ys) n ≡ Some x
get_left [] ys n x e = absurd cc
get_left (y ∷ xs) ys zero x e = e
get_left (y ∷ xs) ys (suc n) x e = get_left xs ys n x e

none_more : (m : ℕ) → 0 + m ≡ m
none_more m = omega arith

one_more : (n m : ℕ) → suc n + m ≡ suc (n + m)
one_more n m = omega arith

pub get_right : {A : Type 0} (xs ys : List A) (m : ℕ) → slice_get (xs ++ ys) (length xs + m) ≡ slice_get ys m
get_right [] ys m = ap (slice_get ys) (none_more m)
get_right (x ∷ xs) ys m = ap (slice_get (x ∷ xs ++ ys)) (one_more (length xs) m) ∙ get_right xs ys m

pub left_of : (xs ys : List Element) (s : Environment) (n : ℕ) → HasOutside xs s n → HasOutside (xs ++ ys) s n
left_of xs ys s n (x, e, h) = (x, get_left xs ys n x e, h)

pub right_of : (xs ys : List Element) (s : Environment) (m n : ℕ) → IsNthAfter xs m n → HasOutside ys s m → HasOutside (xs ++ ys) s n
right_of xs ys s m n b (x, e, h) = (x, ap (slice_get (xs ++ ys)) b ∙ get_right xs ys m ∙ e, h)

abbrev itself : Array → Place → Expr → Element
itself a at e = record { array = a; place = at; index = e }

pub expr_outside : (e : Expr) (s : Environment) (draws : List ℤ) (n : ℕ) → ExprOutOfBounds e s draws n → HasOutside (expr_accesses e) s n
expr_outside (literal t k) s draws n h = absurd h
expr_outside (read v) s draws n h = absurd h
expr_outside input s draws n h = absurd h
expr_outside (negate e) s draws n h = expr_outside e s draws n h
expr_outside (binary op a b) s draws n (inl h) = left_of (expr_accesses a) (expr_accesses b) s n (expr_outside a s draws n h)
expr_outside (binary op a b) s draws n (inr (m, behind, r, is, h)) =
    right_of (expr_accesses a) (expr_accesses b) s m n behind (expr_outside b s r.1 m h)
expr_outside (element a at e) s draws n (inl h) =
    left_of (expr_accesses e) (itself a at e ∷ []) s n (expr_outside e s draws n h)
expr_outside (element a at e) s draws n (inr (r, behind, is, outside)) =
    right_of (expr_accesses e) (itself a at e ∷ []) s 0 n behind (itself a at e, refl, (draws, r, is, outside))

pub cond_outside : (c : Cond) (s : Environment) (draws : List ℤ) (n : ℕ) → CondOutOfBounds c s draws n → HasOutside (cond_accesses c) s n
cond_outside (compare op a b) s draws n (inl h) = left_of (expr_accesses a) (expr_accesses b) s n (expr_outside a s draws n h)
cond_outside (compare op a b) s draws n (inr (m, behind, r, is, h)) =
    right_of (expr_accesses a) (expr_accesses b) s m n behind (expr_outside b s r.1 m h)
cond_outside (nonzero e) s draws n h = expr_outside e s draws n h
cond_outside (opposite c) s draws n h = cond_outside c s draws n h
cond_outside (both_of c d) s draws n (inl h) = left_of (cond_accesses c) (cond_accesses d) s n (cond_outside c s draws n h)
cond_outside (both_of c d) s draws n (inr (m, behind, left, is, h)) =
    right_of (cond_accesses c) (cond_accesses d) s m n behind (cond_outside d s left m h)
cond_outside (either_of c d) s draws n (inl h) = left_of (cond_accesses c) (cond_accesses d) s n (cond_outside c s draws n h)
cond_outside (either_of c d) s draws n (inr (m, behind, left, is, h)) =
    right_of (cond_accesses c) (cond_accesses d) s m n behind (cond_outside d s left m h)

pub arguments_outside : (given : List Argument) (s : Environment) (draws : List ℤ) (n : ℕ) → ArgumentsOutOfBounds given s draws n →
    HasOutside (arguments_accesses given) s n
arguments_outside [] s draws n h = absurd h
arguments_outside (a ∷ rest) s draws n (inl h) =
    left_of (expr_accesses a.value) (arguments_accesses rest) s n (expr_outside a.value s draws n h)
arguments_outside (a ∷ rest) s draws n (inr (m, behind, r, is, z, got, h)) =
    right_of (expr_accesses a.value) (arguments_accesses rest) s m n behind (arguments_outside rest s r.1 m h)

unwrapped : (x y : State) → Some x ≡ Some y → x ≡ y
unwrapped x y e = cc

-- an index that waits changes nothing that expressions read
placed_scene : (base : ℕ) (o : Option ℕ) (left : List ℤ) (s t : State) →
    (o >>= λ k. Some (record s { waiting = k ∷ s.waiting; draws = left })) ≡ Some t → environment_at base s ≡ environment_at base t
placed_scene base None left s t e = absurd cc
placed_scene base (Some k) left s t e = ap (environment_at base) (unwrapped (record s { waiting = k ∷ s.waiting; draws = left }) t e)

aimed_scene : (base n : ℕ) (o : Option (ℤ × List ℤ)) (s t : State) →
    (o >>= λ r. place_among n r.0 >>= λ k. Some (record s { waiting = k ∷ s.waiting; draws = r.1 })) ≡ Some t →
    environment_at base s ≡ environment_at base t
aimed_scene base n None s t e = absurd cc
aimed_scene base n (Some r) s t e = placed_scene base (place_among n r.0) r.1 s t e

behind_aim : (xs : List Element) (m base : ℕ) (x : Element) (s t : State) → aim base x s ≡ Some t →
    HasOutside xs (environment_at base t) m → HasOutside xs (environment_at base s) m
behind_aim xs m base x s t e h =
    subst (λ (c : Environment). HasOutside xs c m) (sym (aimed_scene base x.array.length (value_of x.index (environment_at base s) s.draws) s t e)) h

pub aimed_outside : (base : ℕ) (x : Element) (xs : List Element) (Behind : State → ℕ → Type 0) →
    ((t : State) (m : ℕ) → Behind t m → HasOutside xs (environment_at base t) m) → (s : State) (n : ℕ) → AimedOutOfBounds base x Behind s n →
    HasOutside (aim_accesses x ++ xs) (environment_at base s) n
aimed_outside base x xs Behind later s n (inl h) =
    left_of (aim_accesses x) xs (environment_at base s) n (expr_outside (read_of x) (environment_at base s) s.draws n h)
aimed_outside base x xs Behind later s n (inr (m, behind, t, is, h)) =
    right_of (aim_accesses x) xs (environment_at base s) m n behind (behind_aim xs m base x s t is (later t m h))

pub straying_access : OutOfBoundsHasAccess
straying_access (append t) s n h = absurd h
straying_access (fill a) s n h = absurd h
straying_access (store_value base x e) s n h = expr_outside e (environment_at base s) s.draws n h
straying_access (store_element base x e) s n h = aimed_outside base x (expr_accesses e) (λ t m. ExprOutOfBounds e (environment_at base t) t.draws m)
    (λ t m. expr_outside e (environment_at base t) t.draws m) s n h
straying_access (havoc x) s n h = absurd h
straying_access (push base given) s n h = arguments_outside given (environment_at base s) s.draws n h
straying_access (push_for base x given) s n h =
    aimed_outside base x (arguments_accesses given) (λ t m. ArgumentsOutOfBounds given (environment_at base t) t.draws m)
    (λ t m. arguments_outside given (environment_at base t) t.draws m) s n h
straying_access (truncate_to k) s n h = absurd h
straying_access (test base c wanted) s n h = cond_outside c (environment_at base s) s.draws n h

-- the run ends -------------------------------------------------------------------------------------------------------

none_first : {A B : Type 0} (o : Option A) (f : A → Option B) → o ≡ None → (o >>= f) ≡ None
none_first None f e = refl
none_first (Some x) f e = absurd cc

none_behind : {A B : Type 0} (o : Option A) (x : A) (f : A → Option B) → o ≡ Some x → f x ≡ None → (o >>= f) ≡ None
none_behind {A} o x f e h = ap (λ (p : Option A). p >>= f) e ∙ h

expr_ends : (e : Expr) (s : Environment) (draws : List ℤ) (n : ℕ) → ExprOutOfBounds e s draws n → value_of e s draws ≡ None
expr_ends (literal t k) s draws n h = absurd h
expr_ends (read v) s draws n h = absurd h
expr_ends input s draws n h = absurd h
expr_ends (negate e) s draws n h =
    none_first (value_of e s draws) (λ r. number (type_of e) (pos 0 -ℤ r.0) >>= λ z. Some (z, r.1)) (expr_ends e s draws n h)
expr_ends (binary op a b) s draws n (inl h) =
    none_first (value_of a s draws) (λ r. value_of b s r.1 >>= λ q. apply (wider (type_of a) (type_of b)) op r.0 q.0 >>= λ z. Some (z, q.1)) (expr_ends a s draws n h)
expr_ends (binary op a b) s draws n (inr (m, behind, r, is, h)) =
    none_behind (value_of a s draws) r (λ r. value_of b s r.1 >>= λ q. apply (wider (type_of a) (type_of b)) op r.0 q.0 >>= λ z. Some (z, q.1)) is
    (none_first (value_of b s r.1) (λ q. apply (wider (type_of a) (type_of b)) op r.0 q.0 >>= λ z. Some (z, q.1)) (expr_ends b s r.1 m h))
expr_ends (element a at e) s draws n (inl h) =
    none_first (value_of e s draws)
    (λ r. place_among a.length r.0 >>= λ k. slice_get (elements_of a.declared s.arrays) k >>= λ y. number a.number_type y >>= λ z. Some (z, r.1))
    (expr_ends e s draws n h)
expr_ends (element a at e) s draws n (inr (r, behind, is, outside)) =
    none_behind (value_of e s draws) r
    (λ r. place_among a.length r.0 >>= λ k. slice_get (elements_of a.declared s.arrays) k >>= λ y. number a.number_type y >>= λ z. Some (z, r.1)) is
    (none_first (place_among a.length r.0)
    (λ k. slice_get (elements_of a.declared s.arrays) k >>= λ y. number a.number_type y >>= λ z. Some (z, r.1)) outside)

cond_ends : (c : Cond) (s : Environment) (draws : List ℤ) (n : ℕ) → CondOutOfBounds c s draws n → truth_of c s draws ≡ None
cond_ends (compare op a b) s draws n (inl h) =
    none_first (value_of a s draws) (λ r. value_of b s r.1 >>= λ q. Some (compares op r.0 q.0, q.1)) (expr_ends a s draws n h)
cond_ends (compare op a b) s draws n (inr (m, behind, r, is, h)) =
    none_behind (value_of a s draws) r (λ r. value_of b s r.1 >>= λ q. Some (compares op r.0 q.0, q.1)) is
    (none_first (value_of b s r.1) (λ q. Some (compares op r.0 q.0, q.1)) (expr_ends b s r.1 m h))
cond_ends (nonzero e) s draws n h = none_first (value_of e s draws) (λ r. Some (not (is_zero r.0), r.1)) (expr_ends e s draws n h)
cond_ends (opposite c) s draws n h = none_first (truth_of c s draws) (λ r. Some (not r.0, r.1)) (cond_ends c s draws n h)
cond_ends (both_of c d) s draws n (inl h) =
    none_first (truth_of c s draws) (λ r. if r.0 then truth_of d s r.1 else Some (false, r.1)) (cond_ends c s draws n h)
cond_ends (both_of c d) s draws n (inr (m, behind, left, is, h)) =
    none_behind (truth_of c s draws) (true, left) (λ r. if r.0 then truth_of d s r.1 else Some (false, r.1)) is (cond_ends d s left m h)
cond_ends (either_of c d) s draws n (inl h) =
    none_first (truth_of c s draws) (λ r. if r.0 then Some (true, r.1) else truth_of d s r.1) (cond_ends c s draws n h)
cond_ends (either_of c d) s draws n (inr (m, behind, left, is, h)) =
    none_behind (truth_of c s draws) (false, left) (λ r. if r.0 then Some (true, r.1) else truth_of d s r.1) is (cond_ends d s left m h)

arguments_end : (given : List Argument) (s : Environment) (draws : List ℤ) (n : ℕ) → ArgumentsOutOfBounds given s draws n → values_of given s draws ≡ None
arguments_end [] s draws n h = absurd h
arguments_end (a ∷ rest) s draws n (inl h) =
    none_first (value_of a.value s draws) (λ r. number a.number_type r.0 >>= λ z. values_of rest s r.1 >>= λ q. Some (z ∷ q.0, q.1))
    (expr_ends a.value s draws n h)
arguments_end (a ∷ rest) s draws n (inr (m, behind, r, is, z, got, h)) =
    none_behind (value_of a.value s draws) r (λ r. number a.number_type r.0 >>= λ z. values_of rest s r.1 >>= λ q. Some (z ∷ q.0, q.1)) is
    (none_behind (number a.number_type r.0) z (λ z. values_of rest s r.1 >>= λ q. Some (z ∷ q.0, q.1)) got
    (none_first (values_of rest s r.1) (λ q. Some (z ∷ q.0, q.1)) (arguments_end rest s r.1 m h)))

aim_ends : (base : ℕ) (x : Element) (s : State) (n : ℕ) → ExprOutOfBounds (read_of x) (environment_at base s) s.draws n → aim base x s ≡ None
aim_ends base x s n (inl h) =
    none_first (value_of x.index (environment_at base s) s.draws)
    (λ r. place_among x.array.length r.0 >>= λ k. Some (record s { waiting = k ∷ s.waiting; draws = r.1 }))
    (expr_ends x.index (environment_at base s) s.draws n h)
aim_ends base x s n (inr (r, behind, is, outside)) =
    none_behind (value_of x.index (environment_at base s) s.draws) r
    (λ r. place_among x.array.length r.0 >>= λ k. Some (record s { waiting = k ∷ s.waiting; draws = r.1 })) is
    (none_first (place_among x.array.length r.0) (λ k. Some (record s { waiting = k ∷ s.waiting; draws = r.1 })) outside)

pub straying_end : OutOfBoundsEndsRun
straying_end (append t) s n h = absurd h
straying_end (fill a) s n h = absurd h
straying_end (store_value base x e) s n h = ap (receive x s) (expr_ends e (environment_at base s) s.draws n h)
straying_end (store_element base x e) s n (inl h) =
    none_first (aim base x s) (λ m. receive (waiting_in x.array) m (value_of e (environment_at base m) m.draws)) (aim_ends base x s n h)
straying_end (store_element base x e) s n (inr (m, behind, t, is, h)) =
    none_behind (aim base x s) t (λ m. receive (waiting_in x.array) m (value_of e (environment_at base m) m.draws)) is
    (ap (receive (waiting_in x.array) t) (expr_ends e (environment_at base t) t.draws m h))
straying_end (havoc x) s n h = absurd h
straying_end (push base given) s n h = ap (pushed s) (arguments_end given (environment_at base s) s.draws n h)
straying_end (push_for base x given) s n (inl h) =
    none_first (aim base x s) (λ m. pushed m (values_of given (environment_at base m) m.draws)) (aim_ends base x s n h)
straying_end (push_for base x given) s n (inr (m, behind, t, is, h)) =
    none_behind (aim base x s) t (λ m. pushed m (values_of given (environment_at base m) m.draws)) is
    (ap (pushed t) (arguments_end given (environment_at base t) t.draws m h))
straying_end (truncate_to k) s n h = absurd h
straying_end (test base c wanted) s n h = ap (tested wanted s) (cond_ends c (environment_at base s) s.draws n h)
