-- A list of rows with their kinds, gone through place by place.
use Rattle.std.proofs.Common.{◌≡◌, ℕ, zero, suc, ◌<◌, ◌≤◌, ◌+◌, add-one, Bool, List, [], ◌∷◌, ◌++◌, length, take, drop, get_or, arith, ap, refl, sym, subst, ℤ, Result, Ok, Err, IsErr, IsOk}
use Rattle.std.proofs.{lemmas.List.take_all, lemmas.List.Elements.All-nil, lemmas.List.Elements.All-push, lemmas.List.Elements.All-contains, lemmas.List.Elements.Contains-append_right}
use Rattle.std.specs.List.{All, Contains}
use Rattle.lra_linear_spec.specs.Descriptions.{LinearRow}
use Rattle.lra_linear_spec.proofs.Membership.{contains_head}
use Rattle.lra_systems.specs.{FirstPlaces.FirstAt, LinearSystems.rows_by_kind}

-- the member at a place, and those before it
abbrev pub front : {K : Type 0} → (K → Bool) → List (List ℤ) → List K → ℕ → List LinearRow
front equal rows kinds i = rows_by_kind equal (take i rows) (take i kinds)

abbrev pub member : {K : Type 0} → (K → Bool) → List K → ℕ → List ℤ → K → LinearRow
member equal kinds i r k = record { row = r; equal = equal (get_or kinds i k) }

pub given_split : {K : Type 0} (equal : K → Bool) (rows : List (List ℤ)) (kinds : List K) (i : ℕ) (r : List ℤ) (k : K) →
    length kinds ≡ length rows → i < length rows → r ≡ get_or rows i r →
    rows_by_kind equal rows kinds ≡ front equal rows kinds i ++ member equal kinds i r k ∷
    rows_by_kind equal (drop (suc i) rows) (drop (suc i) kinds)
given_split equal [] kinds i r k n h e = absurd (omega (arith, h))
given_split equal (x ∷ rows) [] i r k n h e = absurd (omega (arith, n))
given_split equal (x ∷ rows) (kind ∷ kinds) zero r k n h e =
    ap (λ (y : List ℤ). (let g : LinearRow = record { row = y; equal = equal kind } in g) ∷ rows_by_kind equal rows kinds)
    (sym e)
given_split equal (x ∷ rows) (kind ∷ kinds) (suc i) r k n h e =
    ap (λ (l : List LinearRow). (let g : LinearRow = record { row = x; equal = equal kind } in g) ∷ l)
    (given_split equal rows kinds i r k (omega (arith, n)) (omega (arith, h)) e)

pub given_more : {K : Type 0} (equal : K → Bool) (rows : List (List ℤ)) (kinds : List K) (i : ℕ) (r : List ℤ) (k : K) →
    length kinds ≡ length rows → i < length rows → r ≡ get_or rows i r →
    front equal rows kinds (suc i) ≡ front equal rows kinds i ++ member equal kinds i r k ∷ []
given_more equal [] kinds i r k n h e = absurd (omega (arith, h))
given_more equal (x ∷ rows) [] i r k n h e = absurd (omega (arith, n))
given_more equal (x ∷ rows) (kind ∷ kinds) zero r k n h e =
    ap (λ (y : List ℤ). (let g : LinearRow = record { row = y; equal = equal kind } in g) ∷ []) (sym e)
given_more equal (x ∷ rows) (kind ∷ kinds) (suc i) r k n h e =
    ap (λ (l : List LinearRow). (let g : LinearRow = record { row = x; equal = equal kind } in g) ∷ l)
    (given_more equal rows kinds i r k (omega (arith, n)) (omega (arith, h)) e)

pub front_length : {K : Type 0} (equal : K → Bool) (rows : List (List ℤ)) (kinds : List K) (i : ℕ) →
    length kinds ≡ length rows → i < length rows → length (front equal rows kinds i) ≡ i
front_length equal rows kinds zero n h = refl
front_length equal [] kinds (suc i) n h = absurd (omega (arith, h))
front_length equal (x ∷ rows) [] (suc i) n h = absurd (omega (arith, n))
front_length equal (x ∷ rows) (kind ∷ kinds) (suc i) n h =
    ap suc (front_length equal rows kinds i (omega (arith, n)) (omega (arith, h)))

pub first_at : {K : Type 0} (Before Here : LinearRow → Type 0) (equal : K → Bool) (rows : List (List ℤ)) (kinds : List K)
    (i : ℕ) (r : List ℤ) (k : K) → length kinds ≡ length rows → i < length rows →
    r ≡ get_or rows i r → All Before (front equal rows kinds i) → Here (member equal kinds i r k) →
    FirstAt Before Here (rows_by_kind equal rows kinds) i
first_at Before Here equal rows kinds i r k n h e before here = record {
  earlier = front equal rows kinds i;
  member = member equal kinds i r k;
  later = rows_by_kind equal (drop (suc i) rows) (drop (suc i) kinds);
  is = given_split equal rows kinds i r k n h e;
  at = front_length equal rows kinds i n h;
  before = before;
  here = here;
}

pub none_yet : {K : Type 0} (Before : LinearRow → Type 0) (equal : K → Bool) (rows : List (List ℤ)) (kinds : List K) →
    All Before (front equal rows kinds 0)
none_yet Before equal rows kinds = All-nil Before

pub one_more : {K : Type 0} (Before : LinearRow → Type 0) (equal : K → Bool) (rows : List (List ℤ)) (kinds : List K) (i : ℕ)
    (r : List ℤ) (k : K) → length kinds ≡ length rows → i < length rows →
    r ≡ get_or rows i r → All Before (front equal rows kinds i) → Before (member equal kinds i r k) →
    All Before (front equal rows kinds (i + 1))
one_more Before equal rows kinds i r k n h e before here =
    subst (λ (j : ℕ). All Before (front equal rows kinds j)) (sym (add-one i))
    (subst (All Before) (sym (given_more equal rows kinds i r k n h e))
    (All-push Before (front equal rows kinds i) (member equal kinds i r k) before here))

pub all_gone_through : {K : Type 0} (Before : LinearRow → Type 0) (equal : K → Bool) (rows : List (List ℤ)) (kinds : List K)
    (i : ℕ) → length kinds ≡ length rows → length rows ≤ i →
    All Before (front equal rows kinds i) → All Before (rows_by_kind equal rows kinds)
all_gone_through {K = K} Before equal rows kinds i n h before =
    subst (λ (ks : List K). All Before (rows_by_kind equal rows ks)) (take_all i kinds (omega (arith, n, h)))
    (subst (λ (rs : List (List ℤ)). All Before (rows_by_kind equal rs (take i kinds))) (take_all i rows h) before)

-- what a checked number says
pub ok_of : {A E : Type 0} (x : A) (q : Result A E) → Ok x ≡ q → IsOk q
ok_of {A = A} {E = E} x q e = subst (λ (z : Result A E). IsOk z) e refl

pub err_of : {A E : Type 0} (f : E) (q : Result A E) → Err f ≡ q → IsErr q
err_of {A = A} {E = E} f q e = subst (λ (z : Result A E). IsErr z) e refl

pub err_from : {A E : Type 0} (q : Result A E) → IsErr q → (e : E) × (q ≡ Err e)
err_from (Ok x) h = cc
err_from (Err f) h = (f, refl)

-- what all members have, the one at the place has
pub at_member : {K : Type 0} (P : LinearRow → Type 0) (equal : K → Bool) (rows : List (List ℤ)) (kinds : List K) (i : ℕ)
    (r : List ℤ) (k : K) → length kinds ≡ length rows → i < length rows →
    r ≡ get_or rows i r → All P (rows_by_kind equal rows kinds) → P (member equal kinds i r k)
at_member P equal rows kinds i r k n h e all =
    All-contains P (rows_by_kind equal rows kinds) (member equal kinds i r k) all
    (subst (λ (l : List LinearRow). Contains l (member equal kinds i r k)) (sym (given_split equal rows kinds i r k n h e))
    (Contains-append_right (front equal rows kinds i)
    (member equal kinds i r k ∷ rows_by_kind equal (drop (suc i) rows) (drop (suc i) kinds)) (member equal kinds i r k)
    (contains_head (member equal kinds i r k) (rows_by_kind equal (drop (suc i) rows) (drop (suc i) kinds)))))
