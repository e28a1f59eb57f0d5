-- Of the orders of one list of rows one is sorted, if only equal rows tie.
use Rattle.std.proofs.Common.{◌≡◌, ◌==◌, ℕ, suc, ◌+◌, ◌<◌, Bool, false, cond, List, [], ◌∷◌, length, get_or, refl, ap, sym, ◌∙◌, subst, ℤ, arith, Bor}
use Rattle.std.proofs.lemmas.List.Sorted.{sorted_far, sum_by-IsPermutation, length_permutation, Contains-permutation, IsPermutation-sym}
use Rattle.std.proofs.{lemmas.Fn.always_returns_same, lemmas.List.MinMax.ranks_by, lemmas.List.Sums.sum_by-cons}
use Rattle.std.specs.Cmp.{IsTotalOrder, IsStrictWeakOrder, on_total, then_total, bool_cmp_total, nat_cmp_total}
use Rattle.std.specs.Ordering.{is_lt, is_eq, ordering_reverse, ordering_then, bool_cmp, nat_cmp}
use Rattle.std.specs.{FinMap.nat_cmp-IsAntisymmetric, Fn.Called, Fn.Mut, Fn.ComparesAs, List.Contains, List.sum_by, List.Sorted.IsSorted, List.Sorted.IsSortedBy, List.Sorted.IsPermutation}
use Rattle.std.specs.{declared.cmp.Ordering.Ordering, declared.cmp.Ordering.TheVariants.Less, declared.cmp.Ordering.TheVariants.Equal, declared.cmp.Ordering.TheVariants.Greater}
use Rattle.lra_canonical.specs.Crates.{lra_linear_spec.Echelon.pivot, lra_linear_spec.RowOrder.row_cmp, lra_linear_spec.RowOrder.Ascends}
use Rattle.lra_canonical.proofs.Crates.lra_linear_spec.Membership.{contains_head, contains_tail, NoRepeat}
use Rattle.lra_canonical.proofs.Crates.lra_linear_spec.RowOrder.{row_cmp_total, inequality_cmp_total}
use Rattle.lra_row.proofs.OrderLemmas.{row_cmp_ties}
use Rattle.lra_canonical.specs.declared.order.Order.TheVariants.{Inequalities, Generators, Pivots}
use Rattle.lra_canonical.specs.{Ordered.cmp_by, Ordered.TiesAreEqual, Ordered.IsOneOrder, declared.order.Order.Order}

-- ---- sorted lists
-- 1 if z ties with x
abbrev tie : {A : Type 0} → (A → A → Ordering) → A → A → ℕ
tie cmp x z = cond (is_eq (cmp z x)) 1 0

-- an element that ties with x
tied_in : {A : Type 0} (cmp : A → A → Ordering) (x : A) (ys : List A) → 0 < sum_by (tie cmp x) ys → (y : A) × Contains ys y × (cmp y x ≡ Equal)
tied_in cmp x [] h = absurd (omega (arith, h))
tied_in {A = A} cmp x (y ∷ ys) h = step y (cmp y x) refl (λ z. tied_in cmp x ys (omega (arith, h, z, sum_by-cons (tie cmp x) y ys)))
  where
    step : (y : A) (o : Ordering) → cmp y x ≡ o → (tie cmp x y ≡ 0 → (y' : A) × Contains ys y' × (cmp y' x ≡ Equal)) → (y' : A) × Contains (y ∷ ys) y' × (cmp y' x ≡ Equal)
    step y Equal e later = (y, contains_head y ys, e)
    step y Less e later = let i = later (ap (λ o. cond (is_eq o) 1 0) e) in (i.0, contains_tail y i.0 ys i.1, i.2)
    step y Greater e later = let i = later (ap (λ o. cond (is_eq o) 1 0) e) in (i.0, contains_tail y i.0 ys i.1, i.2)

-- each element ties with itself
pub tied_itself : {A : Type 0} (cmp : A → A → Ordering) → IsTotalOrder cmp → (x : A) → cmp x x ≡ Equal
tied_itself cmp total x = alone (cmp x x) (total.antisymm x x)
  where
    alone : (o : Ordering) → o ≡ ordering_reverse o → o ≡ Equal
    alone Equal e = refl
    alone Less e = cc
    alone Greater e = cc

tie_itself : {A : Type 0} (cmp : A → A → Ordering) → IsTotalOrder cmp → (x : A) → tie cmp x x ≡ 1
tie_itself cmp total x = ap (λ o. cond (is_eq o) 1 0) (tied_itself cmp total x)

-- in a sorted list none comes before the first
first_least : {A : Type 0} (cmp : A → A → Ordering) → IsTotalOrder cmp → (x : A) (xs : List A) → IsSorted cmp (x ∷ xs) → (y : A) → Contains (x ∷ xs) y → is_lt (cmp y x) ≡ false
first_least {A = A} cmp total x xs up y k =
    let far = sorted_far (λ a b. is_lt (cmp a b)) (ranks_by total (λ (a : A). a)) (x ∷ xs) up 0 k.0 y (omega arith) k.1 in
    ap (λ a. is_lt (cmp a x)) (sym k.2) ∙ far

rest_sorted : {A : Type 0} (cmp : A → A → Ordering) (x : A) (xs : List A) → IsSorted cmp (x ∷ xs) → IsSorted cmp xs
rest_sorted cmp x xs up k d l h =
    let e : suc (k + 1) ≡ suc k + 1 = omega arith in
    ap (λ n. is_lt (cmp (get_or (x ∷ xs) n d) (get_or xs k d))) e ∙ up (suc k) d (omega arith) (omega (arith, h))

-- the first elements of two sorted lists that have the same elements
same_first : {A : Type 0} (cmp : A → A → Ordering) → IsTotalOrder cmp → (x y : A) → is_lt (cmp x y) ≡ false → is_lt (cmp y x) ≡ false → cmp x y ≡ Equal
same_first cmp total x y h k = decide (cmp x y) (cmp y x) (total.antisymm x y) h k
  where
    decide : (o p : Ordering) → o ≡ ordering_reverse p → is_lt o ≡ false → is_lt p ≡ false → o ≡ Equal
    decide Equal p e h k = refl
    decide Less p e h k = cc
    decide Greater Less e h k = cc
    decide Greater Equal e h k = cc
    decide Greater Greater e h k = cc

-- two sorted lists with the same elements, each as often, if only equal elements tie
same_sorted : {A : Type 0} (cmp : A → A → Ordering) → IsTotalOrder cmp → (xs ys : List A) → IsSorted cmp xs → IsSorted cmp ys → ((x y : A) → Contains xs x → Contains ys y → cmp x y ≡ Equal → x ≡ y) →
    length xs ≡ length ys → ((f : A → ℕ) → sum_by f xs ≡ sum_by f ys) → xs ≡ ys
same_sorted cmp total [] [] su sv ties n sums = refl
same_sorted cmp total [] (y ∷ ys) su sv ties n sums = absurd (omega (arith, n))
same_sorted cmp total (x ∷ xs) [] su sv ties n sums = absurd (omega (arith, n))
same_sorted {A = A} cmp total (x ∷ xs) (y ∷ ys) su sv ties n sums =
    let z = tied_in cmp x (y ∷ ys) (omega (arith, tie_itself cmp total x, sums (tie cmp x), sum_by-cons (tie cmp x) x xs)) in
    let ex : x ≡ z.0 = ties x z.0 (contains_head x xs) z.1 (total.antisymm x z.0 ∙ ap ordering_reverse z.2) in
    let w = tied_in cmp y (x ∷ xs) (omega (arith, tie_itself cmp total y, sums (tie cmp y), sum_by-cons (tie cmp y) y ys)) in
    let ey : w.0 ≡ y = ties w.0 y w.1 (contains_head y ys) w.2 in
    let no_less : is_lt (cmp x y) ≡ false = ap (λ a. is_lt (cmp a y)) ex ∙ first_least cmp total y ys sv z.0 z.1 in
    let no_more : is_lt (cmp y x) ≡ false = ap (λ a. is_lt (cmp a x)) (sym ey) ∙ first_least cmp total x xs su w.0 w.1 in
    let same : x ≡ y = ties x y (contains_head x xs) (contains_head y ys) (same_first cmp total x y no_less no_more) in
    let rest : xs ≡ ys = same_sorted cmp total xs ys (rest_sorted cmp x xs su) (rest_sorted cmp y ys sv) (λ a b k l. ties a b (contains_tail x a xs k) (contains_tail y b ys l)) (omega (arith, n))
    (λ f. let s = sums f in let h = ap f same in omega (arith, s, h, sum_by-cons f x xs, sum_by-cons f y ys)) in
    cc

-- ---- what a sort ensures whose closure answers by the order
pub sorted_by : {X F : Type 0} {g : Mut F (Bor X × (Bor X × Unit {0})) Ordering} {f : F} (cmp : X → X → Ordering) → IsTotalOrder cmp → (xs : List X) →
    ((lt : X → X → Bool) → IsStrictWeakOrder lt → ComparesAs g lt f → IsSortedBy lt xs) →
    ((a : Bor X × (Bor X × Unit {0})) (r : Ordering) (f' : F) → Called g f a r f' → (r ≡ cmp a.0.now a.1.0.now) × (f' ≡ f)) → IsSorted cmp xs
sorted_by {X = X} {g = g} {f = f} cmp total xs up h =
    up (λ x y. is_lt (cmp x y)) (ranks_by total (λ (x : X). x)) (always_returns_same g (λ a r. is_lt r ≡ is_lt (cmp a.0.now a.1.0.now)) f (λ a r f' k. (ap is_lt (h a r f' k).0, (h a r f' k).1)))

-- ---- the orders of rows
pub cmp_by_total : (order : Order) → IsTotalOrder (cmp_by order)
cmp_by_total Inequalities = inequality_cmp_total
cmp_by_total Generators = row_cmp_total
cmp_by_total Pivots = then_total (on_total (λ (r : List ℤ). pivot r == 0) bool_cmp_total) (on_total pivot nat_cmp_total)

-- of two orders one after the other neither decides a tie
then_ties : (o p : Ordering) → ordering_then o p ≡ Equal → (o ≡ Equal) × (p ≡ Equal)
then_ties Less p e = cc
then_ties Greater p e = cc
then_ties Equal p e = (refl, e)

ties_equal : (order : Order) (rows : List (List ℤ)) → TiesAreEqual order rows → (x y : List ℤ) → Contains rows x → Contains rows y → cmp_by order x y ≡ Equal → x ≡ y
ties_equal Inequalities rows t x y k l e = sym (row_cmp_ties y x (then_ties (nat_cmp (pivot x) (pivot y)) (row_cmp y x) e).1)
ties_equal Generators rows t x y k l e = row_cmp_ties x y e
ties_equal Pivots rows t x y k l e = t x y k l (nat_cmp-IsAntisymmetric (pivot x) (pivot y) (then_ties (bool_cmp (pivot x == 0) (pivot y == 0)) (nat_cmp (pivot x) (pivot y)) e).1)

-- a list in order is the only one
pub one_order : (order : Order) (rows sorted : List (List ℤ)) → IsPermutation rows sorted → IsSorted (cmp_by order) sorted → IsOneOrder order rows sorted
one_order order rows sorted p up t other q other_up =
    same_sorted (cmp_by order) (cmp_by_total order) other sorted other_up up
    (λ x y k l. ties_equal order rows t x y (Contains-permutation other rows x (IsPermutation-sym rows other q) k) (Contains-permutation sorted rows y (IsPermutation-sym rows sorted p) l))
    (length_permutation rows other q ∙ sym (length_permutation rows sorted p)) (λ f. sum_by-IsPermutation f rows other q ∙ sym (sum_by-IsPermutation f rows sorted p))

-- a sorted list with no element twice, if only equal elements tie
pub ascends : (order : Order) (rows : List (List ℤ)) → TiesAreEqual order rows → NoRepeat rows → IsSorted (cmp_by order) rows → Ascends (cmp_by order) rows
ascends order [] ties once up = tt
ascends order (x ∷ xs) ties once up = (
  (λ y k.
      let far = first_least (cmp_by order) (cmp_by_total order) x xs up y (contains_tail x y xs k) in
      less (cmp_by order x y) (cmp_by order y x) ((cmp_by_total order).antisymm x y) far
      (λ e. once.0 (subst (Contains xs) (sym (ties_equal order (x ∷ xs) ties x y (contains_head x xs) (contains_tail x y xs k) e)) k))),
  ascends order xs (fewer order ties) once.1 (rest_sorted (cmp_by order) x xs up),
)
  where
    less : (o p : Ordering) → o ≡ ordering_reverse p → is_lt p ≡ false → (o ≡ Equal → ⊥) → o ≡ Less
    less Less p e h n = refl
    less Equal p e h n = absurd (n refl)
    less Greater Less e h n = cc
    less Greater Equal e h n = cc
    less Greater Greater e h n = cc

    fewer : (order : Order) → TiesAreEqual order (x ∷ xs) → TiesAreEqual order xs
    fewer Inequalities t = tt
    fewer Generators t = tt
    fewer Pivots t = λ a b k l e. t a b (contains_tail x a xs k) (contains_tail x b xs l) e
