-- Lists of adjacent pairs, place by place, and lists of what pairs give.
use Rattle.std.proofs.Common.{◌≡◌, ℕ, suc, ◌+◌, ◌<◌, ◌≤◌, Bool, true, false, cond, List, [], ◌∷◌, ◌++◌, length, get_or, take, refl, ap, sym, ◌∙◌, subst, arith, pos, ℤ, ◌<ℤ◌, ◌≤ℤ◌, inl, inr, ◌⊎◌}
use Rattle.std.proofs.lemmas.List.Elements.{Contains-append_cases, Contains-append_left, Contains-append_right}
use Rattle.std.proofs.{Common.int_lt, lemmas.Bool.cases_lt, lemmas.Bool.Decides.Decides-int_eq, lemmas.Int.ints, lemmas.List.take_more, lemmas.List.get_or_past}
use Rattle.std.specs.List.{Contains}
use Rattle.lra_bits.specs.TruthValues.{both}
use Rattle.lra_double_description.specs.Crates.{lra_linear_spec.Descriptions.HoldsWith, lra_linear_spec.LowestTerms.IsLowest}
use Rattle.lra_double_description.proofs.Crates.lra_linear_spec.Membership.{contains_none, contains_cases, contains_head, contains_tail}
use Rattle.lra_double_description.proofs.Crates.lra_linear_spec.Signs.{le_yes, le_said}
use Rattle.lra_bits.proofs.Pairs.{both_length}
use Rattle.lra_double_description.specs.Pairs.{HasThird, NoThird, TellsAdjacent, both_tight, IsAdjacentPair, AreApart, IsBefore, ArePairs, pair_sum, AreCombined}
use Rattle.lra_double_description.specs.{Steps.is_inside, Steps.inside_count, Strains.IsPairError, Strains.ArePairsError, declared.pairs.Pair.Pair}
use Rattle.lra_double_description.specs.declared.strained.ConeError as C
use Rattle.lra_double_description.specs.declared.strained.ConeError.TheVariants as of_cone

pub tight_width : (n : ℕ) (u d t : List Bool) → length u ≡ n → length d ≡ n → t ≡ both u d → length t ≡ n
tight_width n u d t hu hd e = ap length e ∙ both_length u d (hu ∙ sym hd) ∙ hu

-- ---- one place after the other
pub pairs_start : (products : List ℤ) (rows : List (List Bool)) → ArePairs products rows 0 0 []
pairs_start products rows = record {
  each = λ p k. absurd (contains_none p k);
  before = λ p k. absurd (contains_none p k);
  apart = tt;
  whole = λ i j b. absurd (nothing i j b);
}
  where
    nothing : (i j : ℕ) → IsBefore 0 0 i j → ⊥
    nothing i j (inl h) = omega (arith, h)
    nothing i j (inr h) = omega (arith, h.1)

before_more : (up down i j : ℕ) → IsBefore up down i j → IsBefore up (down + 1) i j
before_more up down i j (inl h) = inl h
before_more up down i j (inr h) = inr (h.0, omega (arith, h.1))

before_split : (up down i j : ℕ) → IsBefore up (down + 1) i j → IsBefore up down i j ⊎ ((i ≡ up) × (j ≡ down))
before_split up down i j (inl h) = inl (inl h)
before_split up down i j (inr h) = elim (cases_lt j down) [ inl l ↦ inl (inr (h.0, l)) | inr g ↦ inr (h.0, omega (arith, g, h.1)) ]

-- no pair at this place
pub pairs_skip : (products : List ℤ) (rows : List (List Bool)) (up down : ℕ) (ps : List Pair) →
    (pos 0 <ℤ get_or products up (pos 0) → get_or products down (pos 0) <ℤ pos 0 → HasThird rows up down (both_tight rows up down)) →
    ArePairs products rows up down ps → ArePairs products rows up (down + 1) ps
pairs_skip products rows up down ps h a = record {
  each = a.each;
  before = λ p k. before_more up down p.up p.down (a.before p k);
  apart = a.apart;
  whole = λ i j b above below. elim (before_split up down i j b) [
    | inl l ↦ a.whole i j l above below
    | inr e ↦ inr (subst (λ (n : ℕ). HasThird rows n j (both_tight rows n j)) (sym e.0) (subst (λ (n : ℕ). HasThird rows up n (both_tight rows up n)) (sym e.1)
        (h (subst (λ (n : ℕ). pos 0 <ℤ get_or products n (pos 0)) e.0 above) (subst (λ (n : ℕ). get_or products n (pos 0) <ℤ pos 0) e.1 below))))
  ];
}

pub not_below : (z : ℤ) → pos 0 ≤ℤ z → z <ℤ pos 0 → ⊥
not_below z h k = omega (arith, ints, h, k)

pub pairs_skip_side : (products : List ℤ) (rows : List (List Bool)) (up down : ℕ) (ps : List Pair) → pos 0 ≤ℤ get_or products down (pos 0) → ArePairs products rows up down ps →
    ArePairs products rows up (down + 1) ps
pairs_skip_side products rows up down ps h a = pairs_skip products rows up down ps (λ x y. absurd (not_below (get_or products down (pos 0)) h y)) a

pub pairs_skip_third : (products : List ℤ) (rows : List (List Bool)) (up down : ℕ) (ps : List Pair) (b : Bool) → TellsAdjacent rows up down (both_tight rows up down) b → b ≡ false →
    ArePairs products rows up down ps → ArePairs products rows up (down + 1) ps
pairs_skip_third products rows up down ps b h eb a = pairs_skip products rows up down ps (λ x y. subst (TellsAdjacent rows up down (both_tight rows up down)) eb h) a

apart_end : (ps : List Pair) (p : Pair) → AreApart ps → ((q : Pair) → Contains ps q → p.up ≡ q.up → p.down ≡ q.down → ⊥) → AreApart (ps ++ p ∷ [])
apart_end [] p a h = ((λ q k e f. contains_none q k), tt)
apart_end (x ∷ ps) p a h = (
  (λ q k e f. elim (Contains-append_cases ps (p ∷ []) q k) [
    | inl i ↦ a.0 q i e f
    | inr i ↦ elim (contains_cases p q [] i) [ inl s ↦ h x (contains_head x ps) (ap (λ (y : Pair). y.up) s ∙ e) (ap (λ (y : Pair). y.down) s ∙ f) | inr n ↦ contains_none q n ]
  ]),
  apart_end ps p a.1 (λ q k. h q (contains_tail x q ps k)),
)

-- a pair at this place
pub pairs_push : (products : List ℤ) (rows : List (List Bool)) (up down : ℕ) (ps new : List Pair) (p : Pair) (u d : List Bool) (b : Bool) → p.up ≡ up → p.down ≡ down → new ≡ ps ++ p ∷ [] →
    pos 0 <ℤ get_or products up (pos 0) → get_or products down (pos 0) <ℤ pos 0 →
    u ≡ get_or rows up [] → d ≡ get_or rows down [] → p.tight ≡ both u d → TellsAdjacent rows up down (both_tight rows up down) b → b ≡ true → ArePairs products rows up down ps →
    ArePairs products rows up (down + 1) new
pairs_push products rows up down ps new p u d b pu pd en above below eu ed et h eb a =
    subst (λ (x : List Pair). ArePairs products rows up (down + 1) x) (sym en)
    (record {
      each = λ q k. elim (Contains-append_cases ps (p ∷ []) q k) [
        | inl i ↦ a.each q i
        | inr i ↦ elim (contains_cases p q [] i) [ inl s ↦ subst (IsAdjacentPair products rows) s here | inr n ↦ absurd (contains_none q n) ]
      ];
      before = λ q k. elim (Contains-append_cases ps (p ∷ []) q k) [
        | inl i ↦ before_more up down q.up q.down (a.before q i)
        | inr i ↦ elim (contains_cases p q [] i) [ inl s ↦ subst (λ (y : Pair). IsBefore up (down + 1) y.up y.down) s (inr (pu, omega (arith, pd))) | inr n ↦ absurd (contains_none q n) ]
      ];
      apart = apart_end ps p a.apart (λ q k e f. late (a.before q k) (sym pu ∙ e) (sym pd ∙ f));
      whole = λ i j m hi hj. elim (before_split up down i j m) [
        | inl l ↦ elim (a.whole i j l hi hj) [ inl x ↦ inl (x.0, Contains-append_left ps (p ∷ []) x.0 x.1, x.2, x.3) | inr x ↦ inr x ]
        | inr e ↦ inl (p, Contains-append_right ps (p ∷ []) p (contains_head p []), pu ∙ sym e.0, pd ∙ sym e.1)
      ];
    })
  where
    told : p.tight ≡ both_tight rows up down
    told = et ∙ ap (λ (x : List Bool). both x d) eu ∙ ap (λ (x : List Bool). both (get_or rows up []) x) ed

    same : p.tight ≡ both_tight rows p.up p.down
    same = told ∙ ap (λ (n : ℕ). both_tight rows n down) (sym pu) ∙ ap (λ (n : ℕ). both_tight rows p.up n) (sym pd)

    alone : NoThird rows up down p.tight (length rows)
    alone = subst (λ (t : List Bool). NoThird rows up down t (length rows)) (sym told) (subst (TellsAdjacent rows up down (both_tight rows up down)) eb h)

    here : IsAdjacentPair products rows p
    here = record {
      above = subst (λ (n : ℕ). pos 0 <ℤ get_or products n (pos 0)) (sym pu) above;
      below = subst (λ (n : ℕ). get_or products n (pos 0) <ℤ pos 0) (sym pd) below;
      is_tight = same;
      alone = subst (λ (n : ℕ). NoThird rows n p.down p.tight (length rows)) (sym pu) (subst (λ (n : ℕ). NoThird rows up n p.tight (length rows)) (sym pd) alone);
    }

    late : {i j : ℕ} → IsBefore up down i j → up ≡ i → down ≡ j → ⊥
    late (inl l) e f = omega (arith, l, e)
    late (inr l) e f = omega (arith, l.1, f)

-- on to the next first ray
pub pairs_next : (products : List ℤ) (rows : List (List Bool)) (up down : ℕ) (ps : List Pair) → length products ≤ down → ArePairs products rows up down ps → ArePairs products rows (up + 1) 0 ps
pairs_next products rows up down ps h a = record {
  each = a.each;
  before = λ p k. inl (up_to p.up (a.before p k));
  apart = a.apart;
  whole = λ i j m hi hj. a.whole i j (back i j m (inside (get_or products j (pos 0)) j refl hj)) hi hj;
}
  where
    up_to : (i : ℕ) {j : ℕ} → IsBefore up down i j → i < up + 1
    up_to i (inl l) = omega (arith, l)
    up_to i (inr l) = omega (arith, l.0)

    inside : (z : ℤ) (j : ℕ) → z ≡ get_or products j (pos 0) → z <ℤ pos 0 → j < down
    inside z j e l = elim (cases_lt j down) [
      | inl i ↦ i
      | inr g ↦ absurd (zero_not z (e ∙ get_or_past products j (pos 0) (omega (arith, h, g))) l)
    ]
      where
        zero_not : (z : ℤ) → z ≡ pos 0 → z <ℤ pos 0 → ⊥
        zero_not z e l = omega (arith, ints, e, l)

    back : (i j : ℕ) → IsBefore (up + 1) 0 i j → j < down → IsBefore up down i j
    back i j (inl l) b = elim (cases_lt i up) [ inl k ↦ inl k | inr g ↦ inr (omega (arith, g, l), b) ]
    back i j (inr l) b = absurd (omega (arith, l.1))

-- no pair with a first ray on this side
pub pairs_skip_row : (products : List ℤ) (rows : List (List Bool)) (up : ℕ) (ps : List Pair) → get_or products up (pos 0) ≤ℤ pos 0 → ArePairs products rows up 0 ps →
    ArePairs products rows (up + 1) 0 ps
pairs_skip_row products rows up ps h a = record {
  each = a.each;
  before = λ p k. inl (up_to p.up (a.before p k));
  apart = a.apart;
  whole = λ i j m hi hj. a.whole i j (back i j m hi) hi hj;
}
  where
    up_to : (i : ℕ) {j : ℕ} → IsBefore up 0 i j → i < up + 1
    up_to i (inl l) = omega (arith, l)
    up_to i (inr l) = omega (arith, l.0)

    not_above : (z : ℤ) → z ≤ℤ pos 0 → pos 0 <ℤ z → ⊥
    not_above z l k = omega (arith, ints, l, k)

    back : (i j : ℕ) → IsBefore (up + 1) 0 i j → pos 0 <ℤ get_or products i (pos 0) → IsBefore up 0 i j
    back i j (inl l) k = elim (cases_lt i up) [
      | inl b ↦ inl b
      | inr g ↦
          let e : i ≡ up = omega (arith, g, l) in
          absurd (not_above (get_or products up (pos 0)) h (subst (λ (n : ℕ). pos 0 <ℤ get_or products n (pos 0)) e k))
    ]
    back i j (inr l) k = absurd (omega (arith, l.1))

-- ---- what the pairs give
combined_end : (products : List ℤ) (rays : List (List ℤ)) (ps : List Pair) (ts : List (List ℤ)) (p : Pair) (t : List ℤ) → AreCombined products rays ps ts → IsLowest (pair_sum products rays p) t →
    AreCombined products rays (ps ++ p ∷ []) (ts ++ t ∷ [])
combined_end products rays [] [] p t a h = (h, tt)
combined_end products rays [] (x ∷ ts) p t a h = absurd a
combined_end products rays (q ∷ ps) [] p t a h = absurd a
combined_end products rays (q ∷ ps) (x ∷ ts) p t a h = (a.0, combined_end products rays ps ts p t a.1 h)

pub combined_more : (products : List ℤ) (rays : List (List ℤ)) (pairs : List Pair) (k : ℕ) (p : Pair) (ts new : List (List ℤ)) (t : List ℤ) → k < length pairs → p ≡ get_or pairs k p →
    new ≡ ts ++ t ∷ [] → IsLowest (pair_sum products rays p) t →
    AreCombined products rays (take k pairs) ts → AreCombined products rays (take (k + 1) pairs) new
combined_more products rays pairs k p ts new t h e n l a =
    subst (λ (ps : List Pair). AreCombined products rays ps new) (sym (take_more pairs k p h ∙ ap (λ (q : Pair). take k pairs ++ q ∷ []) (sym e)))
    (subst (λ (x : List (List ℤ)). AreCombined products rays (take k pairs ++ p ∷ []) x) (sym n) (combined_end products rays (take k pairs) ts p t a l))

-- ---- counting
count_push : (equal : Bool) (ps : List ℤ) (p : ℤ) → inside_count equal (ps ++ p ∷ []) ≡ inside_count equal ps + cond (is_inside equal p) 1 0
count_push equal [] p = omega arith
count_push equal (x ∷ ps) p = by_test (is_inside equal x) (inside_count equal (ps ++ p ∷ [])) (inside_count equal ps) (cond (is_inside equal p) 1 0) (count_push equal ps p)
  where
    by_test : (b : Bool) (n m k : ℕ) → n ≡ m + k → cond b (suc n) n ≡ cond b (suc m) m + k
    by_test true n m k e = omega (arith, e)
    by_test false n m k e = e

pub count_more : (equal : Bool) (products : List ℤ) (k : ℕ) → k < length products → inside_count equal (take (k + 1) products) ≡
    inside_count equal (take k products) + cond (is_inside equal (get_or products k (pos 0))) 1 0
count_more equal products k h = ap (inside_count equal) (take_more products k (pos 0) h) ∙ count_push equal (take k products) (get_or products k (pos 0))

-- ---- tests
pub less_said : (z y : ℤ) → int_lt z y ≡ true → z <ℤ y
less_said z y h = said z y (sym h)
  where
    said : (z y : ℤ) → true ≡ int_lt z y → z <ℤ y
    said z y h = omega (arith, ints)

pub not_less_said : (z y : ℤ) → int_lt z y ≡ false → y ≤ℤ z
not_less_said z y h = said z y (sym h)
  where
    said : (z y : ℤ) → false ≡ int_lt z y → y ≤ℤ z
    said z y h = omega (arith, ints)

pub inside_yes : (equal : Bool) (p : ℤ) → HoldsWith equal p → is_inside equal p ≡ true
inside_yes true p h = (Decides-int_eq p (pos 0)).1 h
inside_yes false p h = sym (le_yes p h)

pub inside_said : (equal : Bool) (p : ℤ) → is_inside equal p ≡ true → HoldsWith equal p
inside_said true p h = (Decides-int_eq p (pos 0)).0 h
inside_said false p h = le_said p (sym h)

-- what the test of a kind answers
pub accepted : (b equal : Bool) (p : ℤ) → (b ≡ true → HoldsWith equal p) × (HoldsWith equal p → b ≡ true) → b ≡ is_inside equal p
accepted true equal p h = sym (inside_yes equal p (h.0 refl))
accepted false equal p h = go (is_inside equal p) refl
  where
    go : (x : Bool) → is_inside equal p ≡ x → false ≡ x
    go true e = absurd (let k : false ≡ true = h.1 (inside_said equal p e) in cc)
    go false e = refl

pub counted : (equal : Bool) (products : List ℤ) (k count new : ℕ) (b : Bool) → k < length products → (b ≡ true → HoldsWith equal (get_or products k (pos 0))) ×
    (HoldsWith equal (get_or products k (pos 0)) → b ≡ true) → new ≡ count + cond b 1 0 →
    (count ≡ inside_count equal (take k products)) × (count ≤ k) → (new ≡ inside_count equal (take (k + 1) products)) × (new ≤ k + 1)
counted equal products k count new b h a e i =
    let t = accepted b equal (get_or products k (pos 0)) a in
    let m = count_more equal products k h in
    (e ∙ ap (λ (x : Bool). count + cond x 1 0) t ∙ ap (λ (n : ℕ). n + cond (is_inside equal (get_or products k (pos 0))) 1 0) i.0 ∙ sym m, at_most_one b new count e i.1)
  where
    at_most_one : (b : Bool) (new count : ℕ) → new ≡ count + cond b 1 0 → count ≤ k → new ≤ k + 1
    at_most_one true new count e h = omega (arith, e, h)
    at_most_one false new count e h = omega (arith, e, h)

pub plus_none : (n : ℕ) → n ≡ n + 0
plus_none n = omega arith

-- ---- what passes in one of the pairs
pub pair_error : (products : List ℤ) (rays : List (List ℤ)) (pairs : List Pair) (k : ℕ) (p : Pair) (e : C.ConeError) → k < length pairs → p ≡ get_or pairs k p → IsPairError products rays p e →
    ArePairsError products rays pairs e
pair_error products rays pairs k p of_cone.Memory h is x = tt
pair_error products rays pairs k p (of_cone.Strained strained) h is x = (p, (k, h, sym is), x)
