-- What parts of an operation leave as it is: a test that holds, what an element gets, an index that waits.
use Rattle.std.proofs.Common.{◌≡◌, ℕ, ℤ, List, [], ◌∷◌, Some, Bool, true, false, refl, sym, ap}
use Rattle.std.proofs.lemmas.Option.{same_Some, none-some}
use Rattle.lra_base.specs.declared.refusals.Place.{Place}
use Rattle.lra_program.specs.{Arrays.place_among, Program.Element, Step.State, Step.environment_at, Step.aim, Step.kept_if, Step.put_waiting, Value.◌>>=◌, Value.value_of}
use Rattle.lra_program.proofs.TypeLaws.{bind_some}

pub is_kept : (b d : Bool) (s t : State) → kept_if b d s ≡ Some t → t ≡ s
is_kept true true s t e = sym (same_Some s t e)
is_kept false false s t e = sym (same_Some s t e)
is_kept true false s t e = absurd (none-some t e)
is_kept false true s t e = absurd (none-some t e)

pub store_waiting : (p : Place) (z : ℤ) (ks : List ℕ) (s : State) → (put_waiting p z ks s).store ≡ s.store
store_waiting p z [] s = refl
store_waiting p z (k ∷ ks) s = refl

pub aim_keeps : (base : ℕ) (x : Element) (s t : State) → aim base x s ≡ Some t → t.store ≡ s.store
aim_keeps base x s t is =
    let waits : ℤ × List ℤ → ℕ → State = λ r k. record s { waiting = k ∷ s.waiting; draws = r.1 } in
    let (r, got, on) = bind_some (value_of x.index (environment_at base s) s.draws) (λ r. place_among x.array.length r.0 >>= λ k. Some (waits r k)) t is in
    let (k, there, to) = bind_some (place_among x.array.length r.0) (λ k. Some (waits r k)) t on in
    sym (ap (λ (u : State). u.store) (same_Some (waits r k) t to))
