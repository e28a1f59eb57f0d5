-- A tightly closed matrix has a store that attains each entry, or passes each number if it is infinite.
use Rattle.std.proofs.Common.{◌≡◌, ℕ, zero, suc, ◌+◌, ◌*◌, ◌/◌, ◌%◌, ◌<◌, ◌⊎◌, inl, inr, ℤ, pos, List, [], ◌∷◌, length, Option, None, Some, refl, sym, ap, ◌∙◌, arith}
use Rattle.std.proofs.lemmas.Int.{ints, clamps, by_lt_z}
use Rattle.std.specs.{Int.int_div_euclid, Int.int_min, Int.int_max, Prelude.◌+ℤ◌, Prelude.◌-ℤ◌, Prelude.◌≤ℤ◌, Prelude.◌<ℤ◌, Prelude.neg_ℤ}
use Rattle.lra_dbm.specs.Crates.lra_linear_spec.Vectors.{entry}
use Rattle.lra_dbm.specs.{Entry.◌⊑◌, Entry.◌⊞◌, Entry.lesser, Tight.Entries, Tight.opposite, Tight.signed_value, Tight.with_sign, Tight.IsStore, Tight.IsTight}
use Rattle.lra_dbm.proofs.EntryLemmas.{le_refl, le_same, le_trans, sum_grows, sum_swap, lesser_left, lesser_right, lesser_is, le_lesser}
use Rattle.lra_dbm.proofs.{Strong.opposite_twice, Strong.half_bounds, Ways.IsTightlyClosed}
use borrow.Author.Count.{below_more}

pub parity_of : (r : ℕ) → r < 2 → (r ≡ 0) ⊎ (r ≡ 1)
parity_of zero h = inl refl
parity_of (suc zero) h = inr refl
parity_of (suc (suc r)) h = absurd (omega arith)

-- some signed variables with their values
record Given : Type 0 where
  variable : ℕ
  value : ℤ

abbrev Has : List Given → ℕ → ℤ → Type 0
Has [] i z = ⊥
Has (g ∷ gs) i z = ((i ≡ g.variable) × (z ≡ g.value)) ⊎ Has gs i z

record Fits (m : Entries) (gs : List Given) : Type 0 where
  below : (i j : ℕ) (y z : ℤ) → Has gs i y → Has gs j z → Some (z -ℤ y) ⊑ m i j
  both : (i : ℕ) (y : ℤ) → Has gs i y → Has gs (opposite i) (neg_ℤ y)

-- the number nearest to w that is at most u and at least the opposite of d
abbrev raised : ℤ → Option ℤ → ℤ
raised w None = w
raised w (Some d) = int_max w (neg_ℤ d)

abbrev pick : ℤ → Option ℤ → Option ℤ → ℤ
pick w None d = raised w d
pick w (Some u) d = int_min (raised w d) u

pick_up : (w : ℤ) (u d : Option ℤ) → Some (pick w u d) ⊑ u
pick_up w None d = record { at_most = tt }
pick_up w (Some u) d = record { at_most = omega (arith, ints, clamps) }

pick_down : (w : ℤ) (u d : Option ℤ) → Some (pos 0) ⊑ u ⊞ d → Some (neg_ℤ (pick w u d)) ⊑ d
pick_down w u None h = record { at_most = tt }
pick_down w None (Some d) h = record { at_most = omega (arith, ints, clamps) }
pick_down w (Some u) (Some d) h = let p = h.at_most in record { at_most = omega (arith, ints, clamps) }

pick_wanted : (w : ℤ) (u d : Option ℤ) → Some w ⊑ u → w ≤ℤ pick w u d
pick_wanted w None None h = omega (arith, ints)
pick_wanted w None (Some d) h = omega (arith, ints, clamps)
pick_wanted w (Some u) None h = let p = h.at_most in omega (arith, ints, clamps)
pick_wanted w (Some u) (Some d) h = let p = h.at_most in omega (arith, ints, clamps)

-- the number is at most the wanted one, or the least that is allowed
pick_near : (w : ℤ) (u d : Option ℤ) → (pick w u d ≤ℤ w) ⊎ (d ⊑ Some (neg_ℤ (pick w u d)))
pick_near w None None = inl (omega (arith, ints))
pick_near w (Some u) None = inl (omega (arith, ints, clamps))
pick_near w None (Some d) =
    by_lt_z w (neg_ℤ d) (λ (h : w <ℤ neg_ℤ d). inr (record { at_most = omega (arith, ints, clamps) })) (λ (h : neg_ℤ d ≤ℤ w). inl (omega (arith, ints, clamps)))
pick_near w (Some u) (Some d) =
    by_lt_z w (neg_ℤ d) (λ (h : w <ℤ neg_ℤ d). inr (record { at_most = omega (arith, ints, clamps) })) (λ (h : neg_ℤ d ≤ℤ w). inl (omega (arith, ints, clamps)))

-- the greatest value that k may have beside those that are given
abbrev upper : Entries → (ℕ → Option ℤ) → List Given → ℕ → Option ℤ
upper m half [] k = half (opposite k)
upper m half (g ∷ gs) k = lesser (Some g.value ⊞ m g.variable k) (upper m half gs k)

meet_values : (y z : ℤ) (a b : Option ℤ) → Some (neg_ℤ z -ℤ y) ⊑ a ⊞ b → Some (pos 0) ⊑ (Some y ⊞ a) ⊞ (Some z ⊞ b)
meet_values y z None b h = record { at_most = tt }
meet_values y z (Some a) None h = record { at_most = tt }
meet_values y z (Some a) (Some b) h = let p = h.at_most in record { at_most = omega (arith, ints) }

meet_value : (y : ℤ) (a b : Option ℤ) → Some (neg_ℤ y) ⊑ a ⊞ b → Some (pos 0) ⊑ (Some y ⊞ a) ⊞ b
meet_value y None b h = record { at_most = tt }
meet_value y (Some a) None h = record { at_most = tt }
meet_value y (Some a) (Some b) h = let p = h.at_most in record { at_most = omega (arith, ints) }

-- of twice a bound, and of a bound by way of another
halved : (y : ℤ) (h : Option ℤ) → Some (neg_ℤ y -ℤ y) ⊑ h ⊞ h → Some (neg_ℤ y) ⊑ h
halved y None k = record { at_most = tt }
halved y (Some h) k = let p = k.at_most in record { at_most = omega (arith, ints) }

halved_way : (h a b : Option ℤ) → h ⊞ h ⊑ (a ⊞ (b ⊞ b)) ⊞ a → h ⊑ a ⊞ b
halved_way h None b k = record { at_most = tt }
halved_way h (Some a) None k = record { at_most = tt }
halved_way None (Some a) (Some b) k = absurd k.at_most
halved_way (Some h) (Some a) (Some b) k = let p = k.at_most in record { at_most = omega (arith, ints) }

shift_up : (y z : ℤ) (a : Option ℤ) → Some z ⊑ Some y ⊞ a → Some (z -ℤ y) ⊑ a
shift_up y z None h = record { at_most = tt }
shift_up y z (Some a) h = let p = h.at_most in record { at_most = omega (arith, ints) }

twice_up : (x : ℤ) (h : Option ℤ) → Some x ⊑ h → Some (x -ℤ neg_ℤ x) ⊑ h ⊞ h
twice_up x None k = record { at_most = tt }
twice_up x (Some h) k = let p = k.at_most in record { at_most = omega (arith, ints) }

twice_down : (x : ℤ) (h : Option ℤ) → Some (neg_ℤ x) ⊑ h → Some (neg_ℤ x -ℤ x) ⊑ h ⊞ h
twice_down x None k = record { at_most = tt }
twice_down x (Some h) k = let p = k.at_most in record { at_most = omega (arith, ints) }

-- a number a with a + c at most h, and 2a + c at most q
abbrev short_of_half : ℤ → Option ℤ → ℤ
short_of_half c None = pos 0
short_of_half c (Some h) = h -ℤ c

abbrev short_of_sum : ℤ → Option ℤ → ℤ
short_of_sum c None = pos 0
short_of_sum c (Some q) = int_div_euclid (q -ℤ c) (pos 2)

wanted_half : (c a r : ℤ) (h : Option ℤ) → a ≤ℤ int_min r (short_of_half c h) → Some (a +ℤ c) ⊑ h
wanted_half c a r None k = record { at_most = tt }
wanted_half c a r (Some h) k = record { at_most = omega (arith, ints, clamps) }

wanted_sum : (c a r : ℤ) (q : Option ℤ) → a ≤ℤ int_min (short_of_sum c q) r → Some (a +ℤ c) ⊑ Some (neg_ℤ a) ⊞ q
wanted_sum c a r None k = record { at_most = tt }
wanted_sum c a r (Some q) k = let b = half_bounds (q -ℤ c) in let b0 = b.0 in record { at_most = omega (arith, ints, clamps) }

-- the same, from the least number that is allowed
least_half : (c a : ℤ) (h g e : Option ℤ) → h ⊑ Some (neg_ℤ a) → Some c ⊑ e → e ⊑ h ⊞ g → Some (a +ℤ c) ⊑ g
least_half c a h None e k d s = record { at_most = tt }
least_half c a None (Some g) e k d s = absurd k.at_most
least_half c a (Some h) (Some g) None k d s = absurd s.at_most
least_half c a (Some h) (Some g) (Some e) k d s = let p = k.at_most in let q = d.at_most in let r = s.at_most in record { at_most = omega (arith, ints) }

least_sum : (c a : ℤ) (h g e : Option ℤ) → h ⊑ Some (neg_ℤ a) → Some c ⊑ e → e ⊑ (h ⊞ h) ⊞ g → Some (a +ℤ c) ⊑ Some (neg_ℤ a) ⊞ g
least_sum c a h None e k d s = record { at_most = tt }
least_sum c a None (Some g) e k d s = absurd k.at_most
least_sum c a (Some h) (Some g) None k d s = absurd s.at_most
least_sum c a (Some h) (Some g) (Some e) k d s = let p = k.at_most in let q = d.at_most in let r = s.at_most in record { at_most = omega (arith, ints) }

shift_both : (a c : ℤ) (e : Option ℤ) → Some c ⊑ e → Some (a +ℤ c) ⊑ Some a ⊞ e
shift_both a c None h = record { at_most = tt }
shift_both a c (Some e) h = let p = h.at_most in record { at_most = omega (arith, ints) }

-- the values of +x_0 to +x_(n-1), of which each is given
values : (gs : List Given) (n a : ℕ) → ((t : ℕ) → t < n → (x : ℤ) × Has gs (2 * (a + t)) x) → (s : List ℤ) × (length s ≡ n) × ((t : ℕ) → t < n → Has gs (2 * (a + t)) (entry s t))
values gs zero a f = ([], refl, λ t h. absurd (omega arith))
values gs (suc n) a f =
    let first = f 0 (omega arith) in
    let shifted : (t : ℕ) → 2 * (a + suc t) ≡ 2 * (suc a + t) = λ t. omega arith in
    let rest = values gs n (suc a) (λ t h. let r = f (suc t) (omega arith) in (r.0, rw (← shifted t) r.1)) in
    (first.0 ∷ rest.0, omega (arith, rest.1), each first.0 first.1 rest.0 rest.2)
  where
    each : (x : ℤ) → Has gs (2 * (a + 0)) x → (s : List ℤ) → ((t : ℕ) → t < n → Has gs (2 * (suc a + t)) (entry s t)) → (t : ℕ) → t < suc n → Has gs (2 * (a + t)) (entry (x ∷ s) t)
    each x h s g zero k = h
    each x h s g (suc t) k = let e : 2 * (a + suc t) ≡ 2 * (suc a + t) = omega arith in rw e (g t (omega arith))

module _ (m : Entries) (half : ℕ → Option ℤ) (tight : IsTightlyClosed m half) where
  by_way : (i p : ℕ) → half i ⊑ m i p ⊞ half p
  by_way i p = halved_way (half i) (m i p) (half p)
      (le_trans (le_same (sym (tight.twice i))) (le_trans (tight.triangle i (opposite p) (opposite i))
      (sum_grows (le_trans (tight.triangle i p (opposite p)) (sum_grows (le_refl (m i p)) (le_same (tight.twice p)))) (le_same (sym (tight.coherent i p))))))

  upper_half : (gs : List Given) (k : ℕ) → upper m half gs k ⊑ half (opposite k)
  upper_half [] k = le_refl (half (opposite k))
  upper_half (g ∷ gs) k = le_trans (lesser_right (Some g.value ⊞ m g.variable k) (upper m half gs k)) (upper_half gs k)

  upper_given : (gs : List Given) (k i : ℕ) (y : ℤ) → Has gs i y → upper m half gs k ⊑ Some y ⊞ m i k
  upper_given [] k i y h = absurd h
  upper_given (g ∷ gs) k i y (inl h) = rw (h.0, h.1) (lesser_left (Some g.value ⊞ m g.variable k) (upper m half gs k))
  upper_given (g ∷ gs) k i y (inr h) = le_trans (lesser_right (Some g.value ⊞ m g.variable k) (upper m half gs k)) (upper_given gs k i y h)

  upper_cases : (P : Option ℤ → Type 0) (gs : List Given) (k : ℕ) → P (half (opposite k)) → ((i : ℕ) (y : ℤ) → Has gs i y → P (Some y ⊞ m i k)) → P (upper m half gs k)
  upper_cases P [] k h f = h
  upper_cases P (g ∷ gs) k h f =
      elim (lesser_is (Some g.value ⊞ m g.variable k) (upper m half gs k)) as (λ _. P (lesser (Some g.value ⊞ m g.variable k) (upper m half gs k))) [
        | inl e ↦ rw e (f g.variable g.value (inl (refl, refl)))
        | inr e ↦ rw e (upper_cases P gs k h (λ i y q. f i y (inr q)))
      ]

  low_value : (gs : List Given) → Fits m gs → (i : ℕ) (y : ℤ) → Has gs i y → Some (neg_ℤ y) ⊑ half i
  low_value gs f i y h = halved y (half i) (le_trans (f.below i (opposite i) y (neg_ℤ y) h (f.both i y h)) (le_same (tight.twice i)))

  beside_half : (gs : List Given) → Fits m gs → (k i : ℕ) (y : ℤ) → Has gs i y → Some (pos 0) ⊑ (Some y ⊞ m i k) ⊞ half k
  beside_half gs f k i y h = meet_value y (m i k) (half k) (le_trans (low_value gs f i y h) (by_way i k))

  beside_given : (gs : List Given) → Fits m gs → (k i j : ℕ) (y z : ℤ) → Has gs i y → Has gs j z → Some (pos 0) ⊑ (Some y ⊞ m i k) ⊞ (Some z ⊞ m j (opposite k))
  beside_given gs f k i j y z h g =
      meet_values y z (m i k) (m j (opposite k)) (le_trans (f.below i (opposite j) y (neg_ℤ z) h (f.both j z g))
      (le_trans (tight.triangle i k (opposite j)) (sum_grows (le_refl (m i k)) (le_same (ap (λ v. m v (opposite j)) (sym (opposite_twice k)) ∙ sym (tight.coherent j (opposite k)))))))

  -- some value is left for k
  room : (gs : List Given) → Fits m gs → (k : ℕ) → Some (pos 0) ⊑ upper m half gs k ⊞ upper m half gs (opposite k)
  room gs f k =
      upper_cases (λ u. Some (pos 0) ⊑ u ⊞ upper m half gs (opposite k)) gs k
      (upper_cases (λ w. Some (pos 0) ⊑ half (opposite k) ⊞ w) gs (opposite k)
      (le_trans (le_same (sym (tight.diagonal (opposite k)))) (tight.strong (opposite k) (opposite k)))
      (λ j z g. le_trans (beside_half gs f (opposite k) j z g) (le_same (sum_swap (Some z ⊞ m j (opposite k)) (half (opposite k))))))
      (λ i y h. upper_cases (λ w. Some (pos 0) ⊑ (Some y ⊞ m i k) ⊞ w) gs (opposite k)
      (rw (opposite_twice k) (beside_half gs f k i y h))
      (λ j z g. beside_given gs f k i j y z h g))

  abbrev extended : (gs : List Given) → ℕ → ℤ → List Given
  extended gs k x = record { variable = k; value = x } ∷ (record { variable = opposite k; value = neg_ℤ x } ∷ gs)

  module _ (gs : List Given) (f : Fits m gs) (k : ℕ) (x : ℤ) (up : Some x ⊑ upper m half gs k) (down : Some (neg_ℤ x) ⊑ upper m half gs (opposite k)) where
    new_old : (i : ℕ) (y : ℤ) → Has gs i y → Some (x -ℤ y) ⊑ m i k
    new_old i y h = shift_up y x (m i k) (le_trans up (upper_given gs k i y h))

    new_old_down : (i : ℕ) (y : ℤ) → Has gs i y → Some (neg_ℤ x -ℤ y) ⊑ m i (opposite k)
    new_old_down i y h = shift_up y (neg_ℤ x) (m i (opposite k)) (le_trans down (upper_given gs (opposite k) i y h))

    old_new : (i : ℕ) (y : ℤ) → Has gs i y → Some (y -ℤ x) ⊑ m k i
    old_new i y h =
        let e : neg_ℤ x -ℤ neg_ℤ y ≡ y -ℤ x = omega (arith, ints) in
        rw (← e) (le_trans (new_old_down (opposite i) (neg_ℤ y) (f.both i y h)) (le_same (sym (tight.coherent k i))))

    old_new_down : (i : ℕ) (y : ℤ) → Has gs i y → Some (y -ℤ neg_ℤ x) ⊑ m (opposite k) i
    old_new_down i y h =
        let e : x -ℤ neg_ℤ y ≡ y -ℤ neg_ℤ x = omega (arith, ints) in
        rw (← e) (le_trans (new_old (opposite i) (neg_ℤ y) (f.both i y h)) (le_same (ap (m (opposite i)) (sym (opposite_twice k)) ∙ sym (tight.coherent (opposite k) i))))

    extend_below : (i j : ℕ) (y z : ℤ) → Has (extended gs k x) i y → Has (extended gs k x) j z → Some (z -ℤ y) ⊑ m i j
    extend_below i j y z (inl a) (inl b) = rw (a.0, a.1, b.0, b.1, tight.diagonal k) (record { at_most = omega (arith, ints) })
    extend_below i j y z (inl a) (inr (inl b)) =
        rw (a.0, a.1, b.0, b.1, tight.twice k) (twice_down x (half k) (le_trans down (le_trans (upper_half gs (opposite k)) (le_same (ap half (opposite_twice k))))))
    extend_below i j y z (inl a) (inr (inr b)) = rw (a.0, a.1) (old_new j z b)
    extend_below i j y z (inr (inl a)) (inl b) =
        rw (a.0, a.1, b.0, b.1) (le_trans (twice_up x (half (opposite k)) (le_trans up (upper_half gs k))) (le_same (sym (tight.twice (opposite k)) ∙ ap (m (opposite k)) (opposite_twice k))))
    extend_below i j y z (inr (inl a)) (inr (inl b)) = rw (a.0, a.1, b.0, b.1, tight.diagonal (opposite k)) (record { at_most = omega (arith, ints) })
    extend_below i j y z (inr (inl a)) (inr (inr b)) = rw (a.0, a.1) (old_new_down j z b)
    extend_below i j y z (inr (inr a)) (inl b) = rw (b.0, b.1) (new_old i y a)
    extend_below i j y z (inr (inr a)) (inr (inl b)) = rw (b.0, b.1) (new_old_down i y a)
    extend_below i j y z (inr (inr a)) (inr (inr b)) = f.below i j y z a b

    extend_both : (i : ℕ) (y : ℤ) → Has (extended gs k x) i y → Has (extended gs k x) (opposite i) (neg_ℤ y)
    extend_both i y (inl a) = inr (inl (ap opposite a.0, ap neg_ℤ a.1))
    extend_both i y (inr (inl a)) = inl (ap opposite a.0 ∙ opposite_twice k, ap neg_ℤ a.1 ∙ omega (arith, ints))
    extend_both i y (inr (inr a)) = inr (inr (f.both i y a))

    extend_fits : Fits m (extended gs k x)
    extend_fits = record { below = extend_below; both = extend_both }

  covered : (n : ℕ) (gs : List Given) → Fits m gs → (all : List Given) × Fits m all × ((i : ℕ) (y : ℤ) → Has gs i y → Has all i y) × ((t : ℕ) → t < n → (x : ℤ) × Has all (2 * t) x)
  covered zero gs f = (gs, f, λ i y h. h, λ t h. absurd (omega arith))
  covered (suc n) gs f =
      let r = covered n gs f in
      let up = upper m half r.0 (2 * n) in
      let down = upper m half r.0 (opposite (2 * n)) in
      let x = pick (pos 0) up down in
      let more = extend_fits r.0 r.1 (2 * n) x (pick_up (pos 0) up down) (pick_down (pos 0) up down (room r.0 r.1 (2 * n))) in
      (extended r.0 (2 * n) x, more, λ i y h. inr (inr (r.2 i y h)), each r.0 x r.3)
    where
      each : (all : List Given) (x : ℤ) → ((t : ℕ) → t < n → (z : ℤ) × Has all (2 * t) z) → (t : ℕ) → t < suc n → (z : ℤ) × Has (extended all (2 * n) x) (2 * t) z
      each all x g t h =
          below_more (λ t. (z : ℤ) × Has (extended all (2 * n) x) (2 * t) z) n (λ t k. let r = g t k in (r.0, inr (inr r.1))) (x, inl (refl, refl)) t (omega arith)

  has_signed : (gs : List Given) → Fits m gs → (s : List ℤ) (n : ℕ) → ((t : ℕ) → t < n → Has gs (2 * t) (entry s t)) → (i : ℕ) → i < 2 * n → Has gs i (signed_value s i)
  unfolding signed_value opposite
  has_signed gs f s n h i k =
      let negative_absurd : i / 2 < n = omega arith in
      elim (parity_of (i % 2) (omega arith)) as (λ _. Has gs i (with_sign (i % 2) (entry s (i / 2)))) [
        | inl e ↦ (let back : 2 * (i / 2) ≡ i = omega arith in rw e (rw back at (h (i / 2) negative_absurd)))
        | inr e ↦ (let back : opposite (2 * (i / 2)) ≡ i = omega arith in rw e (rw back at (f.both (2 * (i / 2)) (entry s (i / 2)) (h (i / 2) negative_absurd))))
      ]

  -- the values that are given are those of a store
  store_of : (n : ℕ) (gs : List Given) → Fits m gs → (s : List ℤ) × IsStore n m s × ((i : ℕ) (y : ℤ) → i < 2 * n → Has gs i y → signed_value s i ≡ y)
  store_of n gs f =
      let r = covered n gs f in
      let vals = values r.0 n 0 (λ t h. let e : 2 * (0 + t) ≡ 2 * t = omega arith in rw e (r.3 t h)) in
      let there : (t : ℕ) → t < n → Has r.0 (2 * t) (entry vals.0 t) = λ t h. let e : 2 * (0 + t) ≡ 2 * t = omega arith in rw e at (vals.2 t h) in
      let has : (i : ℕ) → i < 2 * n → Has r.0 i (signed_value vals.0 i) = has_signed r.0 r.1 vals.0 n there in (
        vals.0,
        record { width = vals.1; below = λ i j a b. r.1.below i j (signed_value vals.0 i) (signed_value vals.0 j) (has i a) (has j b) },
        λ i y a h. same_value i y (signed_value vals.0 i) (r.1.below i i y (signed_value vals.0 i) (r.2 i y h) (has i a)) (r.1.below i i (signed_value vals.0 i) y (has i a) (r.2 i y h)),
      )
    where
      same_value : (i : ℕ) (y z : ℤ) → Some (z -ℤ y) ⊑ m i i → Some (y -ℤ z) ⊑ m i i → z ≡ y
      same_value i y z a b =
          let p = rw (tight.diagonal i) at a in
          let q = rw (tight.diagonal i) at b in
          let p' = p.at_most in let q' = q.at_most in omega (arith, ints)

  -- two values with the difference c, in a list that fits
  pair_of : (i j : ℕ) (c : ℤ) → Some c ⊑ m i j → (gs : List Given) × Fits m gs × ((a : ℤ) × (b : ℤ) × Has gs i a × Has gs j b × (c ≤ℤ (b -ℤ a)))
  pair_of i j c le =
      let w = int_min (short_of_sum c (m (opposite i) j)) (short_of_half c (half (opposite j))) in
      let none : Fits m [] = record { below = λ i j y z h g. absurd h; both = λ i y h. absurd h } in
      let up = upper m half [] i in
      let down = upper m half [] (opposite i) in
      let a = pick w up down in
      let near = pick_near w up down in
      let one = extend_fits [] none i a (pick_up w up down) (pick_down w up down (room [] none i)) in
      let gs = extended [] i a in
      let up2 = upper m half gs j in
      let down2 = upper m half gs (opposite j) in
      let fits_sum : Some (a +ℤ c) ⊑ Some (neg_ℤ a) ⊞ m (opposite i) j = elim near as (λ _. Some (a +ℤ c) ⊑ Some (neg_ℤ a) ⊞ m (opposite i) j) [
        | inl q ↦ wanted_sum c a (short_of_half c (half (opposite j))) (m (opposite i) j) q
        | inr q ↦ least_sum c a (half i) (m (opposite i) j) (m i j) (le_trans (le_same (ap half (sym (opposite_twice i)))) q) le
            (le_trans (tight.triangle i (opposite i) j) (sum_grows (le_same (tight.twice i)) (le_refl (m (opposite i) j))))
      ] in
      let fits_half : Some (a +ℤ c) ⊑ half (opposite j) = elim near as (λ _. Some (a +ℤ c) ⊑ half (opposite j)) [
        | inl q ↦ wanted_half c a (short_of_sum c (m (opposite i) j)) (half (opposite j)) q
        | inr q ↦ least_half c a (half i) (half (opposite j)) (m i j) (le_trans (le_same (ap half (sym (opposite_twice i)))) q) le (tight.strong i j)
      ] in
      let wanted : Some (a +ℤ c) ⊑ up2 = le_lesser (shift_both a c (m i j) le) (le_lesser fits_sum fits_half) in
      let b = pick (a +ℤ c) up2 down2 in
      let more = pick_wanted (a +ℤ c) up2 down2 wanted in
      let two = extend_fits gs one j b (pick_up (a +ℤ c) up2 down2) (pick_down (a +ℤ c) up2 down2 (room gs one j)) in
      (extended gs j b, two, (a, b, inr (inr (inl (refl, refl))), inl (refl, refl), omega (arith, ints)))

  pub tightly_closed_is_tight : (n : ℕ) → IsTight n m
  tightly_closed_is_tight n = record {
    attained = λ i j h k c le.
        let p = pair_of i j c le in
        let q = store_of n p.0 p.1 in
        (q.0, q.1, rw (q.2 i p.2.0 h p.2.2, q.2 j p.2.1 k p.2.3) p.2.4);
  }
