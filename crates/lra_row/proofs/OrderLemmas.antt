-- The order of rows is found place by place.
use Rattle.std.proofs.Common.{◌≡◌, ℕ, List, [], ◌∷◌, ◌++◌, length, drop, ap, sym, ◌∙◌, refl, ℤ, pos, get_or, arith, min, ◌-◌, ◌+◌, ◌<◌, ◌≢◌, ◌<ℤ◌}
use Rattle.std.proofs.{lemmas.Bool.Decides.nat_tests, lemmas.Cmp.int_ranked, lemmas.Int.ints, lemmas.List.length-drop, lemmas.List.drop_more, lemmas.List.drop_all}
use Rattle.std.specs.declared.cmp.Ordering.TheVariants.{Less, Equal, Greater}
use Rattle.std.specs.{Cmp.Lexicographic.slice_cmp, Ordering.int_cmp, Ordering.nat_cmp, Ordering.ordering_then, Ordering.MatchOrdering, declared.cmp.Ordering.Ordering}
use Rattle.lra_linear_spec.specs.RowOrder.{constant_last, row_cmp}
pub use Rattle.lra_row.specs.RowTies.{constant_last_length, row_cmp_ties}

abbrev rest_cmp : ℕ → List ℤ → List ℤ → Ordering
rest_cmp i xs ys = slice_cmp int_cmp (drop i (constant_last xs)) (drop i (constant_last ys))

-- if one row has no further place, the lengths decide
pub places_end : (i : ℕ) (xs ys : List ℤ) → i ≡ min (length xs) (length ys) → nat_cmp (length xs) (length ys) ≡ rest_cmp i xs ys
places_end i xs ys e =
    sym (ends (drop i (constant_last xs)) (drop i (constant_last ys)) (length xs) (length ys) i e
    (length-drop i (constant_last xs) ∙ ap (λ n. n - i) (constant_last_length xs)) (length-drop i (constant_last ys) ∙ ap (λ n. n - i) (constant_last_length ys)))
  where
    ends : (us vs : List ℤ) (m n i : ℕ) → i ≡ min m n → length us ≡ m - i → length vs ≡ n - i → slice_cmp int_cmp us vs ≡ nat_cmp m n
    ends [] [] m n i e h k = grind (arith, nat_tests)
    ends [] (y ∷ vs) m n i e h k = grind (arith, nat_tests)
    ends (x ∷ us) [] m n i e h k = grind (arith, nat_tests)
    ends (x ∷ us) (y ∷ vs) m n i e h k = absurd (omega (arith, e, h, k))

-- ---- rows of one width: the columns from i on, and then column 0
abbrev pub column_cmp : ℕ → List ℤ → List ℤ → Ordering
column_cmp i xs ys = slice_cmp int_cmp (drop i xs ++ get_or xs 0 (pos 0) ∷ []) (drop i ys ++ get_or ys 0 (pos 0) ∷ [])

pub columns_start : (xs ys : List ℤ) → 0 < length xs → length xs ≡ length ys → column_cmp 1 xs ys ≡ row_cmp xs ys
columns_start [] ys l e = absurd (omega (arith, l))
columns_start (x ∷ xs) [] l e = absurd (omega (arith, e))
columns_start (x ∷ xs) (y ∷ ys) l e = refl

then_next : (x y : ℤ) (r o : Ordering) → MatchOrdering r (x <ℤ y) (x ≡ y) (y <ℤ x) → x ≡ y → ordering_then r o ≡ o
then_next x y Less o m e = absurd (omega (arith, ints, m, e))
then_next x y Equal o m e = refl
then_next x y Greater o m e = absurd (omega (arith, ints, m, e))

then_this : (x y : ℤ) (r o : Ordering) → MatchOrdering r (x <ℤ y) (x ≡ y) (y <ℤ x) → x ≢ y → ordering_then r o ≡ r
then_this x y Less o m n = refl
then_this x y Equal o m n = absurd (n m)
then_this x y Greater o m n = refl

then_equal : (r : Ordering) → ordering_then r Equal ≡ r
then_equal Less = refl
then_equal Equal = refl
then_equal Greater = refl

-- the column at hand, with those after it
column_first : (i : ℕ) (xs ys : List ℤ) → i < length xs → length xs ≡ length ys →
    column_cmp i xs ys ≡ ordering_then (int_cmp (get_or xs i (pos 0)) (get_or ys i (pos 0))) (column_cmp (i + 1) xs ys)
column_first i xs ys l e = rw (drop_more xs i (pos 0) l, drop_more ys i (pos 0) (omega (arith, l, e))) refl

pub column_same : (i : ℕ) (xs ys : List ℤ) → i < length xs → length xs ≡ length ys → get_or xs i (pos 0) ≡ get_or ys i (pos 0) → column_cmp (i + 1) xs ys ≡ column_cmp i xs ys
column_same i xs ys l e h =
    let x = get_or xs i (pos 0) in
    let y = get_or ys i (pos 0) in
    sym (column_first i xs ys l e ∙ then_next x y (int_cmp x y) (column_cmp (i + 1) xs ys) (int_ranked x y (int_cmp x y) refl) h)

pub column_differs : (i : ℕ) (xs ys : List ℤ) → i < length xs → length xs ≡ length ys → get_or xs i (pos 0) ≢ get_or ys i (pos 0) →
    int_cmp (get_or xs i (pos 0)) (get_or ys i (pos 0)) ≡ column_cmp i xs ys
column_differs i xs ys l e n =
    let x = get_or xs i (pos 0) in
    let y = get_or ys i (pos 0) in
    sym (column_first i xs ys l e ∙ then_this x y (int_cmp x y) (column_cmp (i + 1) xs ys) (int_ranked x y (int_cmp x y) refl) n)

pub columns_end : (i : ℕ) (xs ys : List ℤ) → length xs ≡ i → length ys ≡ i → int_cmp (get_or xs 0 (pos 0)) (get_or ys 0 (pos 0)) ≡ column_cmp i xs ys
columns_end i xs ys l e = rw (drop_all i xs (omega (arith, l)), drop_all i ys (omega (arith, e))) (sym (then_equal (int_cmp (get_or xs 0 (pos 0)) (get_or ys 0 (pos 0)))))
