-- What an operation does to the first n variables of a store: nothing, or it gives one of them a value.
use Rattle.std.proofs.Common.{◌≡◌, ℕ, ℤ, ◌≤◌, ◌<◌, List, [], ◌∷◌, ◌++◌, length, take, set, Option, Some, None, Bool, true, ◌⊎◌, inl, inr, refl, sym, ap, ◌∙◌, arith, slice_get, length-append, subst}
use Rattle.std.proofs.lemmas.List.{length-set, take-set-le, take-append-le, get_or-set_same, length-take-le, take_all, take-take}
use Rattle.std.proofs.{Math.Seq.take-set-lt, lemmas.Bool.cases_lt, lemmas.Option.same_Some, lemmas.Option.none-some, lemmas.Option.slice_get-get_or}
use Rattle.std.specs.Prelude.{⊤}
use Rattle.lra_program.specs.Step.{State, environment_at, Op, append, fill, store_value, store_element, havoc, push, push_for, truncate_to, test, run_op, drawn_for, put_waiting, put_in, put, receive}
use Rattle.lra_program.specs.Value.{◌>>=◌, number, Drawn, first_draw, draws_of, value_of, values_of, truth_of}
use Rattle.lra_program.specs.WrittenVariables.{cell_variable, target_variable, written_variable}
use Rattle.lra_program.specs.{Program.Element, Receivers.waiting_in, Receivers.accepts, Step.pushed, Step.filled, Step.aim, Step.tested, declared.arrays.Array.Array, declared.receivers.Cell.Cell}
use Rattle.lra_program.specs.{declared.receivers.Cell.TheVariants.Variable, declared.receivers.Cell.TheVariants.Waiting, declared.receivers.Receiver.Receiver, declared.receivers.Target.Target}
use Rattle.lra_interleavings.specs.Crates.{lra_base.declared.number_types.NumberType.NumberType, lra_base.declared.refusals.Place.Place}
use Rattle.lra_program.proofs.{StepLaws.aim_keeps, StepLaws.is_kept, StepLaws.store_waiting, TypeLaws.bind_some}

-- lists --------------------------------------------------------------------------------------------------------------

pub set_there : {A : Type 0} (xs : List A) (x : ℕ) (z : A) → x < length xs → slice_get (set xs x z) x ≡ Some z
set_there xs x z h =
    let long : x < length (set xs x z) = rw length-set h in
    slice_get-get_or (set xs x z) x z long ∙ ap Some (get_or-set_same xs x z z h)

take_still : (n m k : ℕ) (xs : List ℤ) → n ≤ m → n ≤ length xs → (length xs < m) ⊎ (m ≤ length xs) → n ≤ length (take m xs)
take_still n m k xs h l (inl more) =
    let all : take m xs ≡ xs = take_all m xs (omega (arith, more)) in
    rw all l
take_still n m k xs h l (inr fewer) = rw (length-take-le m xs fewer) h

-- of a store as long as the first variables, or longer
pub kept_long : (n m : ℕ) (xs : List ℤ) → n ≤ m → n ≤ length xs → n ≤ length (take m xs)
kept_long n m xs h l = take_still n m 0 xs h l (cases_lt (length xs) m)

append_long : (n : ℕ) (xs ys : List ℤ) → n ≤ length xs → n ≤ length (xs ++ ys)
append_long n xs ys l = rw (length-append xs ys) (omega (arith, l))

-- what is written ----------------------------------------------------------------------------------------------------

-- the second store has the first variables of the first one, but for one that is given a value, if one may be
abbrev pub Wrote : ℕ → Option ℕ → List ℤ → List ℤ → Type 0
Wrote n o a b = (n ≤ length b) × ((take n b ≡ take n a) ⊎
    ((x : ℕ) × (z : ℤ) × (x < n) × (o ≡ Some x) × (slice_get b x ≡ Some z) × (take n b ≡ set (take n a) x z)))

nothing : (n : ℕ) (o : Option ℕ) (a b : List ℤ) → n ≤ length b → take n b ≡ take n a → Wrote n o a b
nothing n o a b l e = (l, inl e)

as_it_was : (n : ℕ) (o : Option ℕ) (a b : List ℤ) → n ≤ length a → b ≡ a → Wrote n o a b
as_it_was n o a b l e = (subst (λ (c : List ℤ). n ≤ length c) (sym e) l, inl (ap (take n) e))

wrote_waiting : (n : ℕ) (p : Place) (z : ℤ) (ks : List ℕ) (s : State) → n ≤ length s.store → Wrote n None s.store (put_waiting p z ks s).store
wrote_waiting n p z ks s l = as_it_was n None s.store (put_waiting p z ks s).store l (store_waiting p z ks s)

wrote_at : (n k : ℕ) (z : ℤ) (a : List ℤ) → n ≤ length a → (k < n) ⊎ (n ≤ k) → Wrote n (Some k) a (set a k z)
wrote_at n k z a l (inl h) =
    (rw length-set l, inr (k, z, h, refl, set_there a k z (omega (arith, h, l)), take-set-lt n a k z h))
wrote_at n k z a l (inr h) = (rw length-set l, inl (take-set-le n a k z h))

wrote_in : (n : ℕ) (c : Cell) (z : ℤ) (s : State) → n ≤ length s.store → Wrote n (cell_variable c) s.store (put_in c z s).store
wrote_in n (Variable k) z s l = wrote_at n k z s.store l (cases_lt k n)
wrote_in n (Waiting p) z s l = wrote_waiting n p z s.waiting s l

wrote_to : (n : ℕ) (o : Option Target) (z : ℤ) (s : State) → n ≤ length s.store
    → Wrote n (target_variable o) s.store (put o z s).store
wrote_to n None z s l = as_it_was n None s.store s.store l refl
wrote_to n (Some t) z s l = wrote_in n t.cell z s l

wrote_received : (n : ℕ) (x : Receiver) (s : State) (v : Drawn ℤ) (t : State) → n ≤ length s.store → receive x s v ≡ Some t
    → Wrote n (target_variable x.target) s.store t.store
wrote_received n x s None t l e = absurd (none-some t e)
wrote_received n x s (Some r) t l e =
    let there : State = record s { draws = r.1 } in
    subst (λ (u : State). Wrote n (target_variable x.target) s.store u.store) (sym (is_kept true (accepts x r.0) (put x.target r.0 there) t e))
    (wrote_to n x.target r.0 there l)

wrote_drawn : (n : ℕ) (o : Option Target) (x : Receiver) (s t : State) → n ≤ length s.store → drawn_for o x s ≡ Some t
    → Wrote n (target_variable x.target) s.store t.store
wrote_drawn n None x s t l e = as_it_was n (target_variable x.target) s.store t.store l (ap (λ (u : State). u.store) (sym (same_Some s t e)))
wrote_drawn n (Some y) x s t l e = wrote_received n x s (first_draw s.draws) t l e

-- one of the store's variables more, or several
longer : (n : ℕ) (a new : List ℤ) (o : Option ℕ) (t : State) → n ≤ length a → a ++ new ≡ t.store → Wrote n o a t.store
longer n a new o t l e = subst (λ (b : List ℤ). Wrote n o a b) e (append_long n a new l, inl (take-append-le n a new l))

wrote_appended : (n : ℕ) (y : NumberType) (s : State) (v : Drawn ℤ) (t : State) → n ≤ length s.store
    → (v >>= λ r. number y r.0 >>= λ z. Some (record s { store = s.store ++ z ∷ []; draws = r.1 })) ≡ Some t → Wrote n None s.store t.store
wrote_appended n y s v t l e =
    let (r, is, rest) = bind_some v (λ r. number y r.0 >>= λ z. Some (record s { store = s.store ++ z ∷ []; draws = r.1 })) t e in
    let (z, fits, last) = bind_some (number y r.0) (λ z. Some (record s { store = s.store ++ z ∷ []; draws = r.1 })) t rest in
    longer n s.store (z ∷ []) None t l (ap (λ (u : State). u.store) (same_Some (record s { store = s.store ++ z ∷ []; draws = r.1 }) t last))

wrote_filled : (n : ℕ) (a : Array) (s : State) (v : Drawn (List ℤ)) (t : State) → n ≤ length s.store → filled a s v ≡ Some t → Wrote n None s.store t.store
wrote_filled n a s None t l e = absurd (none-some t e)
wrote_filled n a s (Some r) t l e =
    as_it_was n None s.store t.store l (ap (λ (u : State). u.store) (sym (same_Some (record s { arrays = (a.declared, r.0) ∷ s.arrays; draws = r.1 }) t e)))

wrote_pushed : (n : ℕ) (s : State) (v : Drawn (List ℤ)) (t : State) → n ≤ length s.store → pushed s v ≡ Some t → Wrote n None s.store t.store
wrote_pushed n s None t l e = absurd (none-some t e)
wrote_pushed n s (Some r) t l e =
    longer n s.store r.0 None t l (ap (λ (u : State). u.store) (same_Some (record s { store = s.store ++ r.0; draws = r.1 }) t e))

wrote_tested : (n : ℕ) (b : Bool) (s : State) (v : Drawn Bool) (t : State) → n ≤ length s.store → tested b s v ≡ Some t → Wrote n None s.store t.store
wrote_tested n b s None t l e = absurd (none-some t e)
wrote_tested n b s (Some r) t l e = as_it_was n None s.store t.store l (ap (λ (u : State). u.store) (is_kept b r.0 (record s { draws = r.1 }) t e))

-- after an index that waits
behind_aim : (n base : ℕ) (x : Element) (s t u : State) (o : Option ℕ) → aim base x s ≡ Some t → (n ≤ length t.store → Wrote n o t.store u.store)
    → n ≤ length s.store → Wrote n o s.store u.store
behind_aim n base x s t u o e later l =
    let same = aim_keeps base x s t e in
    subst (λ (a : List ℤ). Wrote n o a u.store) same (later (subst (λ (a : List ℤ). n ≤ length a) (sym same) l))

-- no operation takes the first n variables away
abbrev pub KeepsMany : ℕ → Op → Type 0
KeepsMany n (append t) = ⊤
KeepsMany n (fill a) = ⊤
KeepsMany n (store_value base x e) = ⊤
KeepsMany n (havoc x) = ⊤
KeepsMany n (store_element base x e) = ⊤
KeepsMany n (push base given) = ⊤
KeepsMany n (push_for base x given) = ⊤
KeepsMany n (truncate_to m) = n ≤ m
KeepsMany n (test base c wanted) = ⊤

pub wrote : (n : ℕ) (op : Op) (s t : State) → n ≤ length s.store → KeepsMany n op → run_op op s ≡ Some t → Wrote n (written_variable op) s.store t.store
wrote n (append y) s t l k e = wrote_appended n y s (first_draw s.draws) t l e
wrote n (fill a) s t l k e = wrote_filled n a s (draws_of a.number_type a.length s.draws) t l e
wrote n (store_value base x v) s t l k e = wrote_received n x s (value_of v (environment_at base s) s.draws) t l e
wrote n (havoc x) s t l k e = wrote_drawn n x.target x s t l e
wrote n (store_element base x v) s t l k e =
    let (m, is, rest) = bind_some (aim base x s) (λ m. receive (waiting_in x.array) m (value_of v (environment_at base m) m.draws)) t e in
    behind_aim n base x s m t None is (λ h. wrote_received n (waiting_in x.array) m (value_of v (environment_at base m) m.draws) t h rest) l
wrote n (push base given) s t l k e = wrote_pushed n s (values_of given (environment_at base s) s.draws) t l e
wrote n (push_for base x given) s t l k e =
    let (m, is, rest) = bind_some (aim base x s) (λ m. pushed m (values_of given (environment_at base m) m.draws)) t e in
    behind_aim n base x s m t None is (λ h. wrote_pushed n m (values_of given (environment_at base m) m.draws) t h rest) l
wrote n (truncate_to m) s t l k e =
    let same : take m s.store ≡ t.store = ap (λ (u : State). u.store) (same_Some (record s { store = take m s.store }) t e) in
    subst (λ (b : List ℤ). Wrote n None s.store b) same (kept_long n m s.store k l, inl (take-take n m s.store k))
wrote n (test base c wanted) s t l k e = wrote_tested n wanted s (truth_of c (environment_at base s) s.draws) t l e
