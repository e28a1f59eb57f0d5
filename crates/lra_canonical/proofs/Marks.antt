-- Lists without the elements that are marked: one more mark, and the places of what is left.
use Rattle.std.proofs.Common.{◌≡◌, ◌≢◌, ℕ, zero, suc, ◌<◌, Bool, true, false, List, [], ◌∷◌, ◌++◌, length, get_or, slice_set, refl, ap, sym, ◌∙◌, subst, arith, inl, inr, true≢false}
use Rattle.std.specs.List.{Contains}
use Rattle.lra_bits.specs.{Matrix.unmarked, TruthValues.value_at}
use Rattle.lra_canonical.proofs.Crates.lra_linear_spec.Membership.{contains_cases, contains_head, contains_none, contains_tail}

-- ---- one more mark takes one element out
pub record Marked {A : Type 0} (marks : List Bool) (xs : List A) (i : ℕ) (d : A) : Type 0 where
  pub front : List A
  pub back : List A
  pub before : unmarked marks xs ≡ front ++ get_or xs i d ∷ back
  pub after : unmarked (slice_set marks i true) xs ≡ front ++ back
  pub others : (k : ℕ) → k < length xs → k ≢ i → value_at marks k ≡ false → Contains (front ++ back) (get_or xs k d)

-- an element that isn't marked is left
pub stays_left : {A : Type 0} (marks : List Bool) (xs : List A) (k : ℕ) (d : A) → length marks ≡ length xs → k < length xs → value_at marks k ≡ false → Contains (unmarked marks xs) (get_or xs k d)
stays_left marks [] k d n h v = absurd (omega (arith, h))
stays_left [] (x ∷ xs) k d n h v = absurd (omega (arith, n))
stays_left (true ∷ marks) (x ∷ xs) zero d n h v = absurd (true≢false v)
stays_left (false ∷ marks) (x ∷ xs) zero d n h v = contains_head x (unmarked marks xs)
stays_left (true ∷ marks) (x ∷ xs) (suc k) d n h v = stays_left marks xs k d (omega (arith, n)) (omega (arith, h)) v
stays_left (false ∷ marks) (x ∷ xs) (suc k) d n h v = contains_tail x (get_or xs k d) (unmarked marks xs) (stays_left marks xs k d (omega (arith, n)) (omega (arith, h)) v)

pub one_mark : {A : Type 0} (marks : List Bool) (xs : List A) (i : ℕ) (d : A) → length marks ≡ length xs → i < length xs → value_at marks i ≡ false → Marked marks xs i d
one_mark marks [] i d n h v = absurd (omega (arith, h))
one_mark [] (x ∷ xs) i d n h v = absurd (omega (arith, n))
one_mark (true ∷ marks) (x ∷ xs) zero d n h v = absurd (true≢false v)
one_mark {A = A} (false ∷ marks) (x ∷ xs) zero d n h v = record {
  front = [];
  back = unmarked marks xs;
  before = refl;
  after = refl;
  others = λ k l a u. other k l a u;
}
  where
    other : (k : ℕ) → k < length (x ∷ xs) → k ≢ 0 → value_at (false ∷ marks) k ≡ false → Contains (unmarked marks xs) (get_or (x ∷ xs) k d)
    other zero l a u = absurd (a refl)
    other (suc k) l a u = stays_left marks xs k d (omega (arith, n)) (omega (arith, l)) u
one_mark {A = A} (true ∷ marks) (x ∷ xs) (suc i) d n h v =
    let m = one_mark marks xs i d (omega (arith, n)) (omega (arith, h)) v in
    record { front = m.front; back = m.back; before = m.before; after = m.after; others = λ k l a u. other (m.front ++ m.back) k l a u m.others }
  where
    other : (B : List A) (k : ℕ) → k < length (x ∷ xs) → k ≢ suc i → value_at (true ∷ marks) k ≡ false → ((k : ℕ) → k < length xs → k ≢ i → value_at marks k ≡ false → Contains B (get_or xs k d)) →
        Contains B (get_or (x ∷ xs) k d)
    other B zero l a u f = absurd (true≢false u)
    other B (suc k) l a u f = f k (omega (arith, l)) (λ e. a (ap suc e)) u
one_mark {A = A} (false ∷ marks) (x ∷ xs) (suc i) d n h v =
    let m = one_mark marks xs i d (omega (arith, n)) (omega (arith, h)) v in
    record { front = x ∷ m.front; back = m.back; before = ap (λ ys. x ∷ ys) m.before; after = ap (λ ys. x ∷ ys) m.after; others = λ k l a u. other (m.front ++ m.back) k l a u m.others }
  where
    other : (B : List A) (k : ℕ) → k < length (x ∷ xs) → k ≢ suc i → value_at (false ∷ marks) k ≡ false → ((k : ℕ) → k < length xs → k ≢ i → value_at marks k ≡ false → Contains B (get_or xs k d)) →
        Contains (x ∷ B) (get_or (x ∷ xs) k d)
    other B zero l a u f = contains_head x B
    other B (suc k) l a u f = contains_tail x (get_or xs k d) B (f k (omega (arith, l)) (λ e. a (ap suc e)) u)

-- ---- the places of what is left
pub record Place {A : Type 0} (marks : List Bool) (xs : List A) (d t : A) : Type 0 where
  pub place : ℕ
  pub inside : place < length xs
  pub stays : value_at marks place ≡ false
  pub at : get_or xs place d ≡ t

pub left_place : {A : Type 0} (marks : List Bool) (xs : List A) (d t : A) → length marks ≡ length xs → Contains (unmarked marks xs) t → Place marks xs d t
left_place marks [] d t n k = absurd (contains_none t k)
left_place [] (x ∷ xs) d t n k = absurd (omega (arith, n))
left_place (true ∷ marks) (x ∷ xs) d t n k = let i = left_place marks xs d t (omega (arith, n)) k in record { place = suc i.place; inside = omega (arith, i.inside); stays = i.stays; at = i.at }
left_place (false ∷ marks) (x ∷ xs) d t n k = elim (contains_cases x t (unmarked marks xs) k) [
  | inl e ↦ record { place = 0; inside = omega arith; stays = refl; at = e }
  | inr m ↦ let i = left_place marks xs d t (omega (arith, n)) m in record { place = suc i.place; inside = omega (arith, i.inside); stays = i.stays; at = i.at }
]

-- two different places of what is left
pub record TwoPlaces {A : Type 0} (marks : List Bool) (xs : List A) (d r t : A) : Type 0 where
  pub first : Place marks xs d r
  pub second : Place marks xs d t
  pub apart : second.place ≢ first.place

abbrev later : {A : Type 0} (m : Bool) (marks : List Bool) (x : A) (xs : List A) (d t : A) → Place marks xs d t → Place (m ∷ marks) (x ∷ xs) d t
later m marks x xs d t p = record { place = suc p.place; inside = omega (arith, p.inside); stays = p.stays; at = p.at }

abbrev first_of : {A : Type 0} → A → List A → A
first_of d [] = d
first_of d (x ∷ xs) = x

abbrev rest_of : {A : Type 0} → List A → List A
rest_of [] = []
rest_of (x ∷ xs) = xs

pub two_places : {A : Type 0} (marks : List Bool) (xs : List A) (d : A) (front : List A) (r : A) (back : List A) → length marks ≡ length xs → unmarked marks xs ≡ front ++ r ∷ back → (t : A) →
    Contains (front ++ back) t → TwoPlaces marks xs d r t
two_places marks [] d [] r back n e t k = absurd (let l = ap length e in omega (arith, l))
two_places marks [] d (y ∷ front) r back n e t k = absurd (let l = ap length e in omega (arith, l))
two_places [] (x ∷ xs) d front r back n e t k = absurd (omega (arith, n))
two_places (true ∷ marks) (x ∷ xs) d front r back n e t k =
    let i = two_places marks xs d front r back (omega (arith, n)) e t k in
    record { first = later true marks x xs d r i.first; second = later true marks x xs d t i.second; apart = λ s. i.apart (omega (arith, s)) }
two_places {A = A} (false ∷ marks) (x ∷ xs) d [] r back n e t k =
    let h : x ≡ r = ap (first_of x) e in
    let q : unmarked marks xs ≡ back = ap rest_of e in
    let j = left_place marks xs d t (omega (arith, n)) (subst (λ (ys : List A). Contains ys t) (sym q) k) in
    record { first = record { place = 0; inside = omega arith; stays = refl; at = h }; second = later false marks x xs d t j; apart = λ s. absurd (omega (arith, s)) }
two_places {A = A} (false ∷ marks) (x ∷ xs) d (y ∷ front) r back n e t k =
    let h : x ≡ y = ap (first_of x) e in
    let q : unmarked marks xs ≡ front ++ r ∷ back = ap rest_of e in
    elim (contains_cases y t (front ++ back) k) [
      | inl s ↦
          let j = left_place marks xs d r (omega (arith, n)) (subst (λ (ys : List A). Contains ys r) (sym q) (in_middle front)) in
          record { first = later false marks x xs d r j; second = record { place = 0; inside = omega arith; stays = refl; at = h ∙ s }; apart = λ a. absurd (omega (arith, a)) }
      | inr m ↦
          let i = two_places marks xs d front r back (omega (arith, n)) q t m in
          record { first = later false marks x xs d r i.first; second = later false marks x xs d t i.second; apart = λ a. i.apart (omega (arith, a)) }
    ]
  where
    in_middle : (ys : List A) → Contains (ys ++ r ∷ back) r
    in_middle [] = contains_head r back
    in_middle (z ∷ ys) = contains_tail z r (ys ++ r ∷ back) (in_middle ys)
