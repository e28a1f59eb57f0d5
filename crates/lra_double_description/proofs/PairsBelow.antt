-- Pairs whose second ray goes through the places with a product below 0.
use Rattle.std.proofs.Common.{◌≡◌, ℕ, zero, suc, ◌+◌, ◌-◌, ◌<◌, ◌≤◌, Bool, List, [], ◌∷◌, ◌++◌, length, get_or, drop, sym, subst, arith, pos, ℤ, ◌<ℤ◌, ◌≤ℤ◌, inl, inr}
use Rattle.std.proofs.{lemmas.Bool.cases_lt, lemmas.List.drop_more, lemmas.List.drop_all}
use Rattle.std.specs.List.{All}
use Rattle.lra_double_description.specs.{Below.NoneBelow, Below.AreBelow, Pairs.ArePairs, declared.pairs.Pair.Pair}
use Rattle.lra_double_description.proofs.PairLists.{pairs_skip_side, pairs_next}

-- ---- place by place
pub below_start : (products : List ℤ) (places : List ℕ) → places ≡ [] → AreBelow products 0 0 places
below_start products places e = subst (AreBelow products 0 0) (sym e) (omega arith, λ k h l. absurd (omega (arith, l)))

below_end : (products : List ℤ) (from n : ℕ) (places : List ℕ) → get_or products n (pos 0) <ℤ pos 0 → AreBelow products from n places → AreBelow products from (n + 1) (places ++ n ∷ [])
below_end products from n [] b a = (a.0, a.1, b, (omega arith, λ k h l. absurd (omega (arith, h, l))))
below_end products from n (c ∷ places) b a = (a.0, a.1, a.2, below_end products (c + 1) n places b a.3)

pub below_more : (products : List ℤ) (n : ℕ) (places new : List ℕ) → get_or products n (pos 0) <ℤ pos 0 → new ≡ places ++ n ∷ [] → AreBelow products 0 n places → AreBelow products 0 (n + 1) new
below_more products n places new b e a = subst (AreBelow products 0 (n + 1)) (sym e) (below_end products 0 n places b a)

pub below_skip : (products : List ℤ) (from n : ℕ) (places : List ℕ) → pos 0 ≤ℤ get_or products n (pos 0) → AreBelow products from n places → AreBelow products from (n + 1) places
below_skip products from n [] b a = (
  omega (arith, a.0),
  λ k h l. elim (cases_lt k n) [
    | inl m ↦ a.1 k h m
    | inr g ↦
        let q : n ≡ k = omega (arith, g, l) in
        subst (λ (x : ℕ). pos 0 ≤ℤ get_or products x (pos 0)) q b
  ],
)
below_skip products from n (c ∷ places) b a = (a.0, a.1, a.2, below_skip products (c + 1) n places b a.3)

below_most : (products : List ℤ) (from n : ℕ) (places : List ℕ) → AreBelow products from n places → from ≤ n
below_most products from n [] a = a.0
below_most products from n (c ∷ places) a = omega (arith, a.0, below_most products (c + 1) n places a.3)

pub below_inside : (products : List ℤ) (from n : ℕ) (places : List ℕ) → AreBelow products from n places → All (λ c. c < n) places
below_inside products from n [] a k d l = absurd (omega (arith, l))
below_inside products from n (c ∷ places) a zero d l = omega (arith, below_most products (c + 1) n places a.3)
below_inside products from n (c ∷ places) a (suc k) d l = below_inside products (c + 1) n places a.3 k d (omega (arith, l))

-- ---- pairs
module _ (products : List ℤ) (rows : List (List Bool)) (up : ℕ) where
  skip_by : (n from to : ℕ) (ps : List Pair) → to ≡ n + from → NoneBelow products from to → ArePairs products rows up from ps → ArePairs products rows up to ps
  skip_by zero from to ps e h a =
      let q : from ≡ to = omega (arith, e) in
      subst (λ (x : ℕ). ArePairs products rows up x ps) q a
  skip_by (suc n) from to ps e h a =
      skip_by n (from + 1) to ps (omega (arith, e)) (λ k g l. h k (omega (arith, g)) l) (pairs_skip_side products rows up from ps (h from (omega arith) (omega (arith, e))) a)

  skip_to : (from to : ℕ) (ps : List Pair) → from ≤ to → NoneBelow products from to → ArePairs products rows up from ps → ArePairs products rows up to ps
  skip_to from to ps l h a = skip_by (to - from) from to ps (omega (arith, l)) h a

  -- the pairs before some place, and the places from there on
  pub record GoesOn (downs : List ℕ) (i : ℕ) (ps : List Pair) : Type 0 where
    pub from : ℕ
    pub are_below : AreBelow products from (length products) (drop i downs)
    pub are_pairs : ArePairs products rows up from ps

  pub goes_first : (downs : List ℕ) (ps : List Pair) → AreBelow products 0 (length products) downs → ArePairs products rows up 0 ps → GoesOn downs 0 ps
  goes_first downs ps b a = record { from = 0; are_below = b; are_pairs = a }

  module _ (downs : List ℕ) (i : ℕ) (ps : List Pair) (h : i < length downs) (g : GoesOn downs i ps) where
    here : AreBelow products g.from (length products) (get_or downs i 0 ∷ drop (i + 1) downs)
    here = subst (AreBelow products g.from (length products)) (drop_more downs i 0 h) g.are_below

    pub pairs_here : ArePairs products rows up (get_or downs i 0) ps
    pairs_here = skip_to g.from (get_or downs i 0) ps here.0 here.1 g.are_pairs

    pub below_here : get_or products (get_or downs i 0) (pos 0) <ℤ pos 0
    below_here = here.2

    pub goes_next : (new : List Pair) → ArePairs products rows up (get_or downs i 0 + 1) new → GoesOn downs (i + 1) new
    goes_next new a = record { from = get_or downs i 0 + 1; are_below = here.3; are_pairs = a }

  pub goes_end : (downs : List ℕ) (i : ℕ) (ps : List Pair) → length downs ≤ i → GoesOn downs i ps → ArePairs products rows (up + 1) 0 ps
  goes_end downs i ps h g =
      let last : AreBelow products g.from (length products) [] = subst (AreBelow products g.from (length products)) (drop_all i downs h) g.are_below in
      pairs_next products rows up (length products) ps (omega arith) (skip_to g.from (length products) ps last.0 last.1 g.are_pairs)
