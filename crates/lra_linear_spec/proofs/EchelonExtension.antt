-- An echelon form with one more row: the row takes its place by its pivot, and the rows before it are cleared at that pivot.
use Rattle.std.proofs.Common.{List, [], ap, arith, inl, inr, length, neg_ℤ, pos, refl, subst, sym, ℕ, ℤ, ◌*ℤ◌, ◌++◌, ◌+ℤ◌, ◌<ℤ◌, ◌<◌, ◌∙◌, ◌∷◌, ◌≡◌, ◌⊎◌}
use Rattle.std.proofs.lemmas.List.Elements.{Contains-append_cases, Contains-append_left, Contains-append_right}
use Rattle.std.specs.List.{Contains}
use Rattle.lra_linear_spec.specs.{Echelon.Before, Echelon.IsEchelon, Echelon.HasPivot, Echelon.Spanned, LowestTerms.IsPrimitive, Vectors.entry}
use Rattle.lra_linear_spec.proofs.Signs.{as_nat, no_product, not_both, positive_is_nonnegative, positive_nat, positive_part, times_positive}
use Rattle.lra_linear_spec.proofs.{LowestTerms.lowest_exists, Membership.contains_cases, Membership.contains_head, Membership.contains_none, Membership.contains_tail, Ring.ring, Ring.v, Ring.⊖}
use Rattle.lra_linear_spec.proofs.{Ring.◌⊕◌, Ring.◌⊗◌, Spans.spanned_divided, Spans.spanned_head, Spans.spanned_linear, Spans.spanned_row, Spans.spanned_same, Spans.spanned_through}

-- ---- one more row: t is e with 0 at the pivot p of r
pub record ClearedRow (r : List ℤ) (p : ℕ) (e t : List ℤ) : Type 0 where
  pub times : ℕ
  pub positive : 0 < times
  pub is : (j : ℕ) → pos times *ℤ entry t j ≡ (entry r p *ℤ entry e j) +ℤ (neg_ℤ (entry e p) *ℤ entry r j)
  pub lowest : IsPrimitive t ⊎ ((j : ℕ) → entry t j ≡ pos 0)

-- row by row
abbrev pub ClearedRows : List ℤ → ℕ → List (List ℤ) → List (List ℤ) → Type 0
ClearedRows r p [] [] = Unit {0}
ClearedRows r p [] (t ∷ ts) = ⊥
ClearedRows r p (e ∷ es) [] = ⊥
ClearedRows r p (e ∷ es) (t ∷ ts) = ClearedRow r p e t × ClearedRows r p es ts

-- if both are 0, the cleared row is 0
cleared_zero : (r : List ℤ) (p : ℕ) (e t : List ℤ) → ClearedRow r p e t → (j : ℕ) → entry e j ≡ pos 0 → entry r j ≡ pos 0 → entry t j ≡ pos 0
cleared_zero r p e t x j h k =
    let a = entry r p in
    let b = entry e p in
    no_product x.times (entry t j) x.positive
    (x.is j ∙ ap (λ z. (a *ℤ z) +ℤ (neg_ℤ b *ℤ entry r j)) h ∙ ap (λ z. (a *ℤ pos 0) +ℤ (neg_ℤ b *ℤ z)) k ∙ ring (v a ⊗ v (pos 0) ⊕ ⊖ (v b) ⊗ v (pos 0)) (v (pos 0)) (omega arith))

-- which row a cleared one comes from
cleared_from : (r : List ℤ) (p : ℕ) (es ts : List (List ℤ)) → ClearedRows r p es ts → (t : List ℤ) → Contains ts t → (e : List ℤ) × Contains es e × ClearedRow r p e t
cleared_from r p [] [] f t k = absurd (omega (arith, k.1))
cleared_from r p [] (x ∷ ts) f t k = absurd f
cleared_from r p (e ∷ es) [] f t k = absurd f
cleared_from r p (e ∷ es) (x ∷ ts) f t k = elim (contains_cases x t ts k) [
  | inl q ↦ (e, contains_head e es, subst (λ (y : List ℤ). ClearedRow r p e y) q f.0)
  | inr d ↦ let i = cleared_from r p es ts f.1 t d in (i.0, contains_tail e i.0 es i.1, i.2)
]

-- the order of the columns is transitive
pub before_trans : (i j k : ℕ) → Before i j → Before j k → Before i k
before_trans i j k h l = (h.0, elim l.1 [ inl m ↦ inl (elim h.1 [ inl n ↦ omega arith | inr n ↦ absurd (let z = l.0 in omega arith) ]) | inr m ↦ inr m ])

-- the form with the row in its place, and the rows before it cleared, is an echelon form
pub echelon_insert : (r : List ℤ) (p : ℕ) (low new high : List (List ℤ)) (lows highs : List ℕ) → HasPivot r p → IsPrimitive r → ((q : ℕ) → Contains (lows ++ highs) q → entry r q ≡ pos 0) →
    ((q : ℕ) → Contains lows q → Before q p) →
    ((t : List ℤ) → Contains high t → (j : ℕ) → Before j p ⊎ (j ≡ p) → entry t j ≡ pos 0) → length low ≡ length lows → ClearedRows r p low new → IsEchelon (low ++ high) (lows ++ highs) →
    IsEchelon (new ++ r ∷ high) (lows ++ p ∷ highs)
echelon_insert r p [] [] high [] highs l pr z b hz e f ech = (l, pr, hz, z, ech)
echelon_insert r p [] [] high (q ∷ lows) highs l pr z b hz e f ech = absurd (omega (arith, e))
echelon_insert r p [] (t ∷ new) high lows highs l pr z b hz e f ech = absurd f
echelon_insert r p (k ∷ low) [] high lows highs l pr z b hz e f ech = absurd f
echelon_insert r p (k ∷ low) (t ∷ new) high [] highs l pr z b hz e f ech = absurd (omega (arith, e))
echelon_insert r p (k ∷ low) (t ∷ new) high (q ∷ lows) highs l pr z b hz e f ech =
    let i = echelon_insert r p low new high lows highs l pr (λ s m. z s (contains_tail q s (lows ++ highs) m)) (λ s m. b s (contains_tail q s lows m)) hz (omega (arith, e)) f.1 ech.4 in
    let qp : Before q p = b q (contains_head q lows) in
    let r_early : (j : ℕ) → Before j q ⊎ (j ≡ q) → entry r j ≡ pos 0 = λ j h. elim h [ inl m ↦ l.before j (before_trans j q p m qp) | inr m ↦ ap (entry r) m ∙ z q (contains_head q (lows ++ highs)) ]
    in
    let a = entry r p in
    let c = entry k p in
    let here : pos 0 <ℤ entry t q =
    positive_part f.0.times (entry t q) (a *ℤ entry k q) f.0.positive
    (f.0.is q ∙ ap (λ y. (a *ℤ entry k q) +ℤ (neg_ℤ c *ℤ y)) (r_early q (inr refl)) ∙ ring (v a ⊗ v (entry k q) ⊕ ⊖ (v c) ⊗ v (pos 0)) (v a ⊗ v (entry k q)) (omega arith))
    (times_positive a (entry k q) l.here ech.0.here) in (
      record { before = λ j h. cleared_zero r p k t f.0 j (ech.0.before j h) (r_early j (inl h)); here = here },
      elim f.0.lowest [ inl y ↦ y | inr y ↦ absurd (not_both (entry t q) here (y q)) ],
      λ s m j h. elim (Contains-append_cases new (r ∷ high) s m) [
        | inl n ↦ let o = cleared_from r p low new f.1 s n in cleared_zero r p o.0 s o.2 j (ech.2 o.0 (Contains-append_left low high o.0 o.1) j h) (r_early j h)
        | inr n ↦ elim (contains_cases r s high n) [
          | inl y ↦ ap (λ (x : List ℤ). entry x j) (sym y) ∙ r_early j h
          | inr y ↦ ech.2 s (Contains-append_right low high s y) j h
        ]
      ],
      λ s m. elim (Contains-append_cases lows (p ∷ highs) s m) [
        | inl n ↦ cleared_zero r p k t f.0 s (ech.3 s (Contains-append_left lows highs s n)) (z s (contains_tail q s (lows ++ highs) (Contains-append_left lows highs s n)))
        | inr n ↦ elim (contains_cases p s highs n) [
          | inl y ↦ ap (entry t) (sym y) ∙ no_product f.0.times (entry t p) f.0.positive (f.0.is p ∙ ring (v a ⊗ v c ⊕ ⊖ (v c) ⊗ v a) (v (pos 0)) (omega arith))
          | inr y ↦ cleared_zero r p k t f.0 s (ech.3 s (Contains-append_right lows highs s y)) (z s (contains_tail q s (lows ++ highs) (Contains-append_right lows highs s y)))
        ]
      ],
      i,
    )

-- the images exist, in lowest terms, whatever passes as they are computed
pub cleared_exist : (r : List ℤ) (p : ℕ) (es : List (List ℤ)) → ((e : List ℤ) → Contains es e → (s : List ℤ) × ((j : ℕ) → entry s j ≡ (entry r p *ℤ entry e j) +ℤ (neg_ℤ (entry e p) *ℤ entry r j))) →
    (ts : List (List ℤ)) × ClearedRows r p es ts
cleared_exist r p [] f = ([], tt)
cleared_exist r p (e ∷ es) f =
    let s = f e (contains_head e es) in
    let t = lowest_exists s.0 in
    let i = cleared_exist r p es (λ x k. f x (contains_tail e x es k)) in
    (t.0 ∷ i.0, (record { times = t.1.times; positive = t.1.positive; is = λ j. t.1.is_multiple j ∙ s.1 j; lowest = t.1.lowest }, i.1))

-- ---- the span is that of the row and the form
-- a cleared row is spanned by its row and r, and the other way round
cleared_spanned : (rows : List (List ℤ)) (r : List ℤ) (p : ℕ) (e t : List ℤ) → ClearedRow r p e t → Spanned rows (entry r) → Spanned rows (entry e) → Spanned rows (entry t)
cleared_spanned rows r p e t x gr ge =
    spanned_divided rows x.times (entry t) x.positive
    (spanned_same rows (λ j. (entry r p *ℤ entry e j) +ℤ (neg_ℤ (entry e p) *ℤ entry r j)) (λ j. pos x.times *ℤ entry t j) (λ j. sym (x.is j))
    (spanned_linear rows (entry r p) (neg_ℤ (entry e p)) (entry e) (entry r) ge gr))

uncleared_spanned : (rows : List (List ℤ)) (r : List ℤ) (p : ℕ) (e t : List ℤ) → pos 0 <ℤ entry r p → ClearedRow r p e t → Spanned rows (entry r) → Spanned rows (entry t) → Spanned rows (entry e)
uncleared_spanned rows r p e t h x gr gt =
    let a = as_nat (entry r p) (positive_is_nonnegative (entry r p) h) in
    spanned_divided rows a.0 (entry e) (positive_nat (entry r p) a.0 h a.1)
    (spanned_same rows (λ j. (pos x.times *ℤ entry t j) +ℤ (entry e p *ℤ entry r j)) (λ j. pos a.0 *ℤ entry e j)
    (λ j. ap (λ z. z +ℤ (entry e p *ℤ entry r j)) (x.is j) ∙
    ring ((v (entry r p) ⊗ v (entry e j) ⊕ ⊖ (v (entry e p)) ⊗ v (entry r j)) ⊕ v (entry e p) ⊗ v (entry r j)) (v (entry r p) ⊗ v (entry e j)) (omega arith) ∙ ap (λ z. z *ℤ entry e j) a.1)
    (spanned_linear rows (pos x.times) (entry e p) (entry t) (entry r) gt gr))

-- what a row becomes
cleared_to : (r : List ℤ) (p : ℕ) (es ts : List (List ℤ)) → ClearedRows r p es ts → (e : List ℤ) → Contains es e → (t : List ℤ) × Contains ts t × ClearedRow r p e t
cleared_to r p [] ts f e k = absurd (contains_none e k)
cleared_to r p (x ∷ es) [] f e k = absurd f
cleared_to r p (x ∷ es) (t ∷ ts) f e k = elim (contains_cases x e es k) [
  | inl q ↦ (t, contains_head t ts, subst (λ (y : List ℤ). ClearedRow r p y t) q f.0)
  | inr d ↦ let i = cleared_to r p es ts f.1 e d in (i.0, contains_tail t i.0 ts i.1, i.2)
]

pub extension_span : (r : List ℤ) (p : ℕ) (low new high : List (List ℤ)) → pos 0 <ℤ entry r p → ClearedRows r p low new →
    (u : ℕ → ℤ) → (Spanned (new ++ r ∷ high) u → Spanned (r ∷ low ++ high) u) × (Spanned (r ∷ low ++ high) u → Spanned (new ++ r ∷ high) u)
extension_span r p low new high h f u = (
  spanned_through (new ++ r ∷ high) (r ∷ low ++ high) u (λ t k. elim (Contains-append_cases new (r ∷ high) t k) [
    | inl n ↦ let o = cleared_from r p low new f t n in cleared_spanned (r ∷ low ++ high) r p o.0 t o.2 (spanned_head r (low ++ high)) (old o.0 (Contains-append_left low high o.0 o.1))
    | inr n ↦ elim (contains_cases r t high n) [
      | inl e ↦ subst (λ y. Spanned (r ∷ low ++ high) (entry y)) e (spanned_head r (low ++ high))
      | inr m ↦ old t (Contains-append_right low high t m)
    ]
  ]),
  spanned_through (r ∷ low ++ high) (new ++ r ∷ high) u (λ t k. elim (contains_cases r t (low ++ high) k) [
    | inl e ↦ subst (λ y. Spanned (new ++ r ∷ high) (entry y)) e row
    | inr n ↦ elim (Contains-append_cases low high t n) [
      | inl m ↦ let o = cleared_to r p low new f t m in uncleared_spanned (new ++ r ∷ high) r p t o.0 h o.2 row (spanned_row (new ++ r ∷ high) o.0 (Contains-append_left new (r ∷ high) o.0 o.1))
      | inr m ↦ spanned_row (new ++ r ∷ high) t (Contains-append_right new (r ∷ high) t (contains_tail r t high m))
    ]
  ]),
)
  where
    row : Spanned (new ++ r ∷ high) (entry r)
    row = spanned_row (new ++ r ∷ high) r (Contains-append_right new (r ∷ high) r (contains_head r high))

    old : (t : List ℤ) → Contains (low ++ high) t → Spanned (r ∷ low ++ high) (entry t)
    old t k = spanned_row (r ∷ low ++ high) t (contains_tail r t (low ++ high) k)
