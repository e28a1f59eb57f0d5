-- Third rays, as rows of the matrix that are true wherever two others are.
use Rattle.std.proofs.Common.{◌≡◌, ℕ, ◌+◌, ◌-◌, ◌<◌, ◌≤◌, Bool, false, List, [], length, get_or, Option, Some, None, ap, sym, subst, ◌∙◌, arith, inl, inr}
use Rattle.std.proofs.lemmas.Bool.{cases_lt}
use Rattle.std.specs.{List.ReversedBelow, Prelude.IsTrue}
use Rattle.lra_bits.specs.{Matrix.Matrix, Matrix.TellsWithin, TruthValues.value_at, TruthValues.both, TruthValues.true_count, TruthValues.ArePlaces}
use Rattle.lra_bits.proofs.WithinRows.{not_said}
use Rattle.lra_double_description.specs.{Pairs.HasThird, Pairs.both_tight, Steps.IsFilled, Thirds.TellsThird, Thirds.FewHaveThird}

-- ---- a value that stays false
pub filled_skip : (f : ℕ → Bool) (n k : ℕ) (values : List Bool) (b : Bool) → b ≡ f k → b ≡ false → IsFilled f n k values → IsFilled f n (k + 1) values
filled_skip f n k values b e z h = (
  h.0,
  λ j l. elim (cases_lt j k) [
    | inl m ↦ h.1 j m
    | inr g ↦
        let q : k ≡ j = omega (arith, g, l) in
        subst (λ (x : ℕ). value_at values x ≡ f x) q (h.2 k (omega arith) ∙ sym z ∙ e)
  ],
  λ j l. h.2 j (omega (arith, l)),
)

pub within_told : (m : Matrix) (up down : ℕ) (r : Option ℕ) → TellsWithin m up down r → TellsThird m.rows up down (both_tight m.rows up down) r
within_told m up down None none = none
within_told m up down (Some k) h = record { third = k; inside = h.0; not_up = h.1; not_down = h.2; covers = h.3 }

-- two rays of which it is reported that they don't share so many rows have a third
pub few_told : (rows : List (List Bool)) (up down least : ℕ) (first second : List Bool) (b : Bool) → first ≡ get_or rows up [] → second ≡ get_or rows down [] →
    (least ≤ true_count (both first second) → IsTrue b) → b ≡ false → FewHaveThird rows least → up < length rows → down < length rows → HasThird rows up down (both_tight rows up down)
few_told rows up down least first second b ef es told e few hu hd =
    let is : both first second ≡ both_tight rows up down = ap (λ (x : List Bool). both x second) ef ∙ ap (both (get_or rows up [])) es in
    few up down hu hd (elim (cases_lt (true_count (both_tight rows up down)) least) [
      | inl h ↦ h
      | inr g ↦ absurd (not_said b e told (subst (λ (x : List Bool). least ≤ true_count x) (sym is) g))
    ])

-- the same places, the last first
last_first_all : (values : List Bool) (n : ℕ) (places turned : List ℕ) → length turned ≡ length places → ReversedBelow places turned (length places) →
    ArePlaces values n places → ArePlaces values n turned
last_first_all values n places turned same by a = record {
  inside = λ k d l. omega (arith, by k d (omega (arith, l, same)), a.inside (length places - 1 - k) d (omega (arith, l, same)));
  each = λ i l. ap (value_at values) (by i 0 (omega (arith, l, same))) ∙ a.each (length places - 1 - i) (omega (arith, l, same));
  whole = λ c l v.
      let w = a.whole c l v in
      let at = length places - 1 - w.0 in
      let back : length places - 1 - at ≡ w.0 = omega (arith, w.1) in
      (at, omega (arith, same, w.1), by at 0 (omega (arith, w.1)) ∙ ap (λ i. get_or places i 0) back ∙ w.2);
}

pub last_first : (values : List Bool) (n : ℕ) (places turned : List ℕ) (count : ℕ) → count ≡ length places → length turned ≡ length places →
    ReversedBelow places turned count → ArePlaces values n places → ArePlaces values n turned
last_first values n places turned count all same by a = last_first_all values n places turned same (subst (λ k. ReversedBelow places turned k) all by) a
