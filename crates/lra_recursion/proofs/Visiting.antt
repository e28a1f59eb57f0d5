-- How a search goes on, and what it has found at its end.
use Rattle.std.proofs.Common.{◌≡◌, ℕ, zero, suc, ◌+◌, ◌<◌, Bool, true, false, List, [], ◌∷◌, ◌++◌, length, replicate, Some, slice_get, get_or, set, ◌⊎◌, inl, inr, refl, sym, ap, ◌∙◌, subst, arith}
use Rattle.std.proofs.lemmas.List.Elements.{Contains-push, Contains-push_cases, Contains-append_left, Contains-append_right, Contains-append_cases}
use Rattle.std.proofs.{Common.length-append, lemmas.List.length-set, lemmas.List.get_or-set_same, lemmas.List.length-replicate, lemmas.List.Sums.sum_by-set}
use Rattle.std.specs.List.{Contains}
use Rattle.lra_recursion.specs.Search.{IsReachableFrom, begins, goes_on, IsVisited, missing, MarksVisited}
use Rattle.lra_recursion.proofs.Elements.{only_one, has_one, nothing_in, same_at}

-- All that is met is reached; what a search begins with is met, and so is the row of each place that is met, unless the
-- place is still open.
pub record IsUnderWay (rows : List (List ℕ)) (start : ℕ) (met : List Bool) (open_ones : List ℕ) : Type 0 where
  pub size : length met ≡ length rows
  pub sound : (k : ℕ) → IsVisited met k → IsReachableFrom rows start k
  pub begun : start < length rows → IsVisited met start
  pub closed : (j : ℕ) → IsVisited met j
      → Contains open_ones j ⊎ ((row : List ℕ) (k : ℕ) → slice_get rows j ≡ Some row → k < length rows →
      Contains row k → IsVisited met k)
  pub open_met : (k : ℕ) → Contains open_ones k → IsVisited met k

met_within : (met : List Bool) (k : ℕ) → IsVisited met k → k < length met
met_within [] k m = absurd cc
met_within (b ∷ met) zero m = omega arith
met_within (b ∷ met) (suc k) m = let h = met_within met k m in omega (arith, h)

none_met : (n k : ℕ) → IsVisited (replicate n false) k → ⊥
none_met zero k m = cc
none_met (suc n) zero m = cc
none_met (suc n) (suc k) m = none_met n k m

-- a further place is marked
marked_or : (met : List Bool) (k p : ℕ) → IsVisited (set met p true) k → IsVisited met k ⊎ (p ≡ k)
marked_or [] k p m = inl m
marked_or (b ∷ met) zero zero m = inr refl
marked_or (b ∷ met) zero (suc p) m = inl m
marked_or (b ∷ met) (suc k) zero m = inl m
marked_or (b ∷ met) (suc k) (suc p) m = elim (marked_or met k p m) [ inl a ↦ inl a | inr e ↦ inr (ap suc e) ]

still_marked : (met : List Bool) (k p : ℕ) → IsVisited met k → IsVisited (set met p true) k
still_marked [] k p m = m
still_marked (b ∷ met) zero zero m = refl
still_marked (b ∷ met) zero (suc p) m = m
still_marked (b ∷ met) (suc k) zero m = m
still_marked (b ∷ met) (suc k) (suc p) m = still_marked met k p m

pub meets_one : (met : List Bool) (before after : List ℕ) (p : ℕ) → p < length met → get_or met p false ≡ false → after ≡ before ++ p ∷ []
    → MarksVisited (p ∷ []) met before (set met p true) after
meets_one met before after p l clear e =
    let marked : IsVisited (set met p true) p = get_or-set_same met p true false l in
    record {
      size = length-set met p true;
      kept = λ k m. still_marked met k p m;
      meets = λ k h c. subst (IsVisited (set met p true)) (only_one p k c) marked;
      only = λ k m. elim (marked_or met k p m) [ inl a ↦ inl a | inr s ↦ inr (has_one p k s) ];
      still_open = λ k c. rw e (Contains-append_left before (p ∷ []) k c);
      opens = λ k m. elim (marked_or met k p m) [ inl a ↦ inl a | inr s ↦ inr (rw e (subst (Contains (before ++ p ∷ [])) s (Contains-push before p))) ];
      open_met = λ k c. elim (Contains-push_cases before p k (rw e at c)) [ inl a ↦ inl a | inr s ↦ inr (subst (IsVisited (set met p true)) s marked) ];
      work =
          let a = sum_by-set missing met p true false l in
          let b : missing (get_or met p false) ≡ 1 = ap missing clear in
          let d : length after ≡ length before + 1 = ap (length {A = ℕ}) e ∙ length-append before (p ∷ []) in
          omega (arith, a, b, d);
    }

pub grows_then : (ps : List ℕ) (p : ℕ) (m0 m1 m2 : List Bool) (o0 o1 o2 : List ℕ)
    → MarksVisited ps m0 o0 m1 o1 → MarksVisited (p ∷ []) m1 o1 m2 o2 → MarksVisited (ps ++ p ∷ []) m0 o0 m2 o2
grows_then ps p m0 m1 m2 o0 o1 o2 a b = record {
  size = b.size ∙ a.size;
  kept = λ k m. b.kept k (a.kept k m);
  meets = λ k l c. elim (Contains-append_cases ps (p ∷ []) k c) [ inl x ↦ b.kept k (a.meets k l x) | inr y ↦ b.meets k (rw a.size l) y ];
  only = λ k m. elim (b.only k m) [
    | inl x ↦ elim (a.only k x) [ inl y ↦ inl y | inr z ↦ inr (Contains-append_left ps (p ∷ []) k z) ]
    | inr c ↦ inr (Contains-append_right ps (p ∷ []) k c)
  ];
  still_open = λ k c. b.still_open k (a.still_open k c);
  opens = λ k m. elim (b.opens k m) [ inl x ↦ elim (a.opens k x) [ inl y ↦ inl y | inr z ↦ inr (b.still_open k z) ] | inr c ↦ inr c ];
  open_met = λ k c. elim (b.open_met k c) [ inl x ↦ elim (a.open_met k x) [ inl y ↦ inl y | inr z ↦ inr (b.kept k z) ] | inr m ↦ inr m ];
  work = b.work ∙ a.work;
}

-- the search begins
pub begun_search : (rows : List (List ℕ)) (start : ℕ) (n : ℕ) (none met : List Bool) (no_open open_ones : List ℕ)
    → n ≡ length rows → none ≡ replicate n false → no_open ≡ [] → MarksVisited (start ∷ []) none no_open met open_ones → IsUnderWay rows start met open_ones
begun_search rows start n none met no_open open_ones size is nil g =
    let long : length none ≡ length rows = ap (length {A = Bool}) is ∙ length-replicate n false ∙ size in
    let unmarked : (k : ℕ) → IsVisited none k → ⊥ = λ k m. none_met n k (subst (λ xs. IsVisited xs k) is m) in
    let begun_at : (k : ℕ) → start ≡ k → IsVisited met k → IsReachableFrom rows start k =
    λ k e m. subst (IsReachableFrom rows start) e (begins (subst (λ n. start < n) (g.size ∙ long) (met_within met start (subst (IsVisited met) (sym e) m)))) in
    record {
      size = g.size ∙ long;
      sound = λ k m. elim (g.only k m) [ inl x ↦ absurd (unmarked k x) | inr c ↦ begun_at k (only_one start k c) m ];
      begun = λ l. g.meets start (rw long l) (has_one start start refl);
      closed = λ j m. elim (g.opens j m) [ inl x ↦ absurd (unmarked j x) | inr c ↦ inl c ];
      open_met = λ k c. elim (g.open_met k c) [ inl x ↦ absurd (nothing_in k (subst (λ xs. Contains xs k) nil x)) | inr m ↦ m ];
    }

-- an open place is in range
pub open_within : (rows : List (List ℕ)) (start : ℕ) (met : List Bool) (before open_ones : List ℕ) (j : ℕ)
    → before ≡ open_ones ++ j ∷ [] → IsUnderWay rows start met before → j < length rows
open_within rows start met before open_ones j e u =
    subst (λ n. j < n) u.size (met_within met j (u.open_met j (rw e (Contains-push open_ones j))))

-- the row of an open place is gone through
pub further_search : (rows : List (List ℕ)) (start : ℕ) (met met_then : List Bool) (before open_ones open_then : List ℕ) (j : ℕ) (row : List ℕ)
    → IsUnderWay rows start met before → before ≡ open_ones ++ j ∷ [] → slice_get rows j ≡ Some row → MarksVisited row met open_ones met_then open_then
    → IsUnderWay rows start met_then open_then
further_search rows start met met_then before open_ones open_then j row u e is g =
    let here : IsReachableFrom rows start j = u.sound j (u.open_met j (rw e (Contains-push open_ones j))) in
    record {
      size = g.size ∙ u.size;
      sound = λ k m. elim (g.only k m) [
        | inl x ↦ u.sound k x
        | inr c ↦ goes_on j k row (subst (λ n. k < n) (g.size ∙ u.size) (met_within met_then k m)) here is c
      ];
      begun = λ l. g.kept start (u.begun l);
      closed = λ i m. elim (g.opens i m) [
        | inl x ↦ elim (u.closed i x) [
          | inl c ↦ elim (Contains-push_cases open_ones j i (rw e at c)) [
            | inl a ↦ inl (g.still_open i a)
            | inr s ↦ inr (λ r k f l d.
                let same : row ≡ r = same_at rows j row r is (rw s f) in
                g.meets k (rw u.size l) (rw same d))
          ]
          | inr f ↦ inr (λ r k q l d. g.kept k (f r k q l d))
        ]
        | inr c ↦ inl c
      ];
      open_met = λ k c. elim (g.open_met k c) [ inl x ↦ g.kept k (u.open_met k (rw e (Contains-append_left open_ones (j ∷ []) k x))) | inr m ↦ m ];
    }

-- nothing is open at the end
come_met : (rows : List (List ℕ)) (start : ℕ) (met : List Bool) → IsUnderWay rows start met [] → (k : ℕ) → IsReachableFrom rows start k → IsVisited met k
come_met rows start met u _ (begins l) = u.begun l
come_met rows start met u _ (goes_on j k row l h is c) =
    elim (u.closed j (come_met rows start met u j h)) [ inl x ↦ absurd (nothing_in j x) | inr f ↦ f row k is l c ]

pub ended_search : (rows : List (List ℕ)) (start : ℕ) (met : List Bool) (open_ones : List ℕ) → open_ones ≡ [] → IsUnderWay rows start met open_ones
    → (k : ℕ) → (IsVisited met k → IsReachableFrom rows start k) × (IsReachableFrom rows start k → IsVisited met k)
ended_search rows start met open_ones nil u k = (u.sound k, come_met rows start met (subst (IsUnderWay rows start met) nil u) k)
