-- The rays of a cone, parted, and the lists that are made of them.
use Rattle.std.proofs.Common.{◌≡◌, ◌≢◌, ℕ, suc, ◌+◌, ◌<◌, Bool, true, false, cond, List, [], ◌∷◌, ◌++◌, length, replicate, take, get_or, refl, ap, sym, ◌∙◌, subst, arith, pos, ℤ, ◌<ℤ◌, ◌≤ℤ◌, int_lt}
use Rattle.std.proofs.lemmas.List.Elements.{All-contains, All-from_get_or, Contains-get_or}
use Rattle.std.proofs.{Common.inl, Common.inr, Common.◌⊎◌, lemmas.Int.ints, lemmas.List.append-nil, lemmas.List.take_more, lemmas.List.Sorted.Contains-permutation, lemmas.List.Sorted.All-permutation}
use Rattle.std.specs.declared.cmp.Ordering.TheVariants.{Less, Equal, Greater}
use Rattle.std.specs.{List.Contains, List.All, List.Sorted.IsPermutation, List.Sorted.IsSorted, Ordering.is_eq, Prelude.Result, Prelude.Ok, Prelude.Err, Prelude.IfOk, declared.cmp.Ordering.Ordering}
use Rattle.lra_descriptions.specs.Crates.lra_linear_spec.RowOrder.{row_cmp, inequality_cmp}
use Rattle.lra_descriptions.specs.Crates.lra_linear_spec.declared.ConKind.TheVariants.{Ge, Eq}
use Rattle.lra_descriptions.specs.Crates.lra_linear_spec.declared.GenKind.TheVariants.{Point, Ray, Line}
use Rattle.lra_descriptions.specs.Crates.{lra_linear_spec.Polyhedra.positivity, lra_linear_spec.Vectors.entry, lra_linear_spec.declared.ConKind.ConKind, lra_linear_spec.declared.GenKind.GenKind}
use Rattle.lra_systems.specs.LinearSystems.{LinearSystem}
use Rattle.lra_descriptions.proofs.Crates.lra_linear_spec.Membership.{contains_none, contains_cases, contains_head, contains_tail}
use Rattle.lra_descriptions.proofs.Crates.{lra_linear_spec.RowOrder.row_cmp_total, lra_row.OrderLemmas.row_cmp_ties}
use Rattle.lra_canonical.proofs.Orders.{tied_itself}
use Rattle.lra_descriptions.specs.ShownLists.{points_of, directions_of, without, ShowsGenerators, ShowsConstraints}

-- ---- the rays above 0 in column 0, and the others
pub points_from : (rays : List (List ℤ)) (r : List ℤ) → Contains (points_of rays) r → Contains rays r × (pos 0 <ℤ entry r 0)
points_from [] r k = absurd (contains_none r k)
points_from (x ∷ rays) r k = go (int_lt (pos 0) (entry x 0)) refl k (λ m. points_from rays r m)
  where
    above : (z : ℤ) → true ≡ int_lt (pos 0) z → pos 0 <ℤ z
    above z h = omega (arith, ints)

    go : (b : Bool) → int_lt (pos 0) (entry x 0) ≡ b → Contains (cond b (x ∷ points_of rays) (points_of rays)) r → (Contains (points_of rays) r → Contains rays r × (pos 0 <ℤ entry r 0)) →
        Contains (x ∷ rays) r × (pos 0 <ℤ entry r 0)
    go true e m later = elim (contains_cases x r (points_of rays) m) [
      | inl f ↦ (subst (Contains (x ∷ rays)) f (contains_head x rays), subst (λ (y : List ℤ). pos 0 <ℤ entry y 0) f (above (entry x 0) (sym e)))
      | inr n ↦ let i = later n in (contains_tail x r rays i.0, i.1)
    ]
    go false e m later = let i = later m in (contains_tail x r rays i.0, i.1)

pub directions_from : (rays : List (List ℤ)) (r : List ℤ) → Contains (directions_of rays) r → Contains rays r × (entry r 0 ≤ℤ pos 0)
directions_from [] r k = absurd (contains_none r k)
directions_from (x ∷ rays) r k = go (int_lt (pos 0) (entry x 0)) refl k (λ m. directions_from rays r m)
  where
    not_above : (z : ℤ) → false ≡ int_lt (pos 0) z → z ≤ℤ pos 0
    not_above z h = omega (arith, ints)

    go : (b : Bool) → int_lt (pos 0) (entry x 0) ≡ b → Contains (cond b (directions_of rays) (x ∷ directions_of rays)) r → (Contains (directions_of rays) r → Contains rays r × (entry r 0 ≤ℤ pos 0)) →
        Contains (x ∷ rays) r × (entry r 0 ≤ℤ pos 0)
    go true e m later = let i = later m in (contains_tail x r rays i.0, i.1)
    go false e m later = elim (contains_cases x r (directions_of rays) m) [
      | inl f ↦ (subst (Contains (x ∷ rays)) f (contains_head x rays), subst (λ (y : List ℤ). entry y 0 ≤ℤ pos 0) f (not_above (entry x 0) (sym e)))
      | inr n ↦ let i = later n in (contains_tail x r rays i.0, i.1)
    ]

pub parted : (rays : List (List ℤ)) (r : List ℤ) → Contains rays r → Contains (points_of rays) r ⊎ Contains (directions_of rays) r
parted [] r k = absurd (contains_none r k)
parted (x ∷ rays) r k = go (int_lt (pos 0) (entry x 0)) (λ m. parted rays r m)
  where
    go : (b : Bool) → (Contains rays r → Contains (points_of rays) r ⊎ Contains (directions_of rays) r) → Contains (cond b (x ∷ points_of rays) (points_of rays)) r ⊎
        Contains (cond b (directions_of rays) (x ∷ directions_of rays)) r
    go true later = elim (contains_cases x r rays k) [
      | inl e ↦ inl (subst (Contains (x ∷ points_of rays)) e (contains_head x (points_of rays)))
      | inr m ↦ elim (later m) [ inl i ↦ inl (contains_tail x r (points_of rays) i) | inr i ↦ inr i ]
    ]
    go false later = elim (contains_cases x r rays k) [
      | inl e ↦ inr (subst (Contains (x ∷ directions_of rays)) e (contains_head x (directions_of rays)))
      | inr m ↦ elim (later m) [ inl i ↦ inl i | inr i ↦ inr (contains_tail x r (directions_of rays) i) ]
    ]

pub parted_length : (rays : List (List ℤ)) → length (points_of rays) + length (directions_of rays) ≡ length rays
parted_length [] = refl
parted_length (x ∷ rays) = go (int_lt (pos 0) (entry x 0)) (parted_length rays)
  where
    go : (b : Bool) → length (points_of rays) + length (directions_of rays) ≡ length rays →
        length (cond b (x ∷ points_of rays) (points_of rays)) + length (cond b (directions_of rays) (x ∷ directions_of rays)) ≡ suc (length rays)
    go true e = omega (arith, e)
    go false e = omega (arith, e)

-- ---- without one of the rays
-- a row that isn't reported equal is another
different : (x row : List ℤ) → is_eq (row_cmp x row) ≡ false → x ≢ row
different x row f e = never (row_cmp x row) (ap (λ (y : List ℤ). row_cmp x y) (sym e) ∙ tied_itself row_cmp row_cmp_total x) f
  where
    never : (o : Ordering) → o ≡ Equal → is_eq o ≡ false → ⊥
    never Less e f = cc
    never Equal e f = cc
    never Greater e f = cc

-- and one that is reported equal is the row
told_equal : (x row : List ℤ) → is_eq (row_cmp x row) ≡ true → x ≡ row
told_equal x row f = row_cmp_ties x row (equal (row_cmp x row) f)
  where
    equal : (o : Ordering) → is_eq o ≡ true → o ≡ Equal
    equal Less f = cc
    equal Equal f = refl
    equal Greater f = cc

pub without_from : (row : List ℤ) (rows : List (List ℤ)) (r : List ℤ) → Contains (without row rows) r → Contains rows r × (r ≢ row)
without_from row [] r k = absurd (contains_none r k)
without_from row (x ∷ rows) r k = go (is_eq (row_cmp x row)) refl k (λ m. without_from row rows r m)
  where
    go : (b : Bool) → is_eq (row_cmp x row) ≡ b → Contains (cond b (without row rows) (x ∷ without row rows)) r → (Contains (without row rows) r → Contains rows r × (r ≢ row)) →
        Contains (x ∷ rows) r × (r ≢ row)
    go true e m later = let i = later m in (contains_tail x r rows i.0, i.1)
    go false e m later = elim (contains_cases x r (without row rows) m) [
      | inl f ↦ (subst (Contains (x ∷ rows)) f (contains_head x rows), subst (λ (y : List ℤ). y ≢ row) f (different x row e))
      | inr n ↦ let i = later n in (contains_tail x r rows i.0, i.1)
    ]

pub without_has : (row : List ℤ) (rows : List (List ℤ)) (r : List ℤ) → Contains rows r → (r ≡ row) ⊎ Contains (without row rows) r
without_has row [] r k = absurd (contains_none r k)
without_has row (x ∷ rows) r k = go (is_eq (row_cmp x row)) refl (λ m. without_has row rows r m)
  where
    go : (b : Bool) → is_eq (row_cmp x row) ≡ b → (Contains rows r → (r ≡ row) ⊎ Contains (without row rows) r) → (r ≡ row) ⊎ Contains (cond b (without row rows) (x ∷ without row rows)) r
    go true e later = elim (contains_cases x r rows k) [ inl f ↦ inl (sym f ∙ told_equal x row e) | inr m ↦ later m ]
    go false e later = elim (contains_cases x r rows k) [
      | inl f ↦ inr (subst (Contains (x ∷ without row rows)) f (contains_head x (without row rows)))
      | inr m ↦ elim (later m) [ inl g ↦ inl g | inr i ↦ inr (contains_tail x r (without row rows) i) ]
    ]

-- ---- row by row
-- each of these lists is made element by element
pub points_append : (xs ys : List (List ℤ)) → points_of (xs ++ ys) ≡ points_of xs ++ points_of ys
points_append [] ys = refl
points_append (x ∷ xs) ys = go (int_lt (pos 0) (entry x 0)) (points_append xs ys)
  where
    go : (b : Bool) → points_of (xs ++ ys) ≡ points_of xs ++ points_of ys → cond b (x ∷ points_of (xs ++ ys)) (points_of (xs ++ ys)) ≡ cond b (x ∷ points_of xs) (points_of xs) ++ points_of ys
    go true e = ap (λ (l : List (List ℤ)). x ∷ l) e
    go false e = e

pub directions_append : (xs ys : List (List ℤ)) → directions_of (xs ++ ys) ≡ directions_of xs ++ directions_of ys
directions_append [] ys = refl
directions_append (x ∷ xs) ys = go (int_lt (pos 0) (entry x 0)) (directions_append xs ys)
  where
    go : (b : Bool) → directions_of (xs ++ ys) ≡ directions_of xs ++ directions_of ys →
        cond b (directions_of (xs ++ ys)) (x ∷ directions_of (xs ++ ys)) ≡ cond b (directions_of xs) (x ∷ directions_of xs) ++ directions_of ys
    go true e = e
    go false e = ap (λ (l : List (List ℤ)). x ∷ l) e

pub without_append : (row : List ℤ) (xs ys : List (List ℤ)) → without row (xs ++ ys) ≡ without row xs ++ without row ys
without_append row [] ys = refl
without_append row (x ∷ xs) ys = go (is_eq (row_cmp x row)) (without_append row xs ys)
  where
    go : (b : Bool) → without row (xs ++ ys) ≡ without row xs ++ without row ys → cond b (without row (xs ++ ys)) (x ∷ without row (xs ++ ys)) ≡
        cond b (without row xs) (x ∷ without row xs) ++ without row ys
    go true e = e
    go false e = ap (λ (l : List (List ℤ)). x ∷ l) e

made_more : (f : List (List ℤ) → List (List ℤ)) → ((xs ys : List (List ℤ)) → f (xs ++ ys) ≡ f xs ++ f ys) → (rows : List (List ℤ)) (k : ℕ) (r : List ℤ) → k < length rows → r ≡ get_or rows k r →
    f (take (k + 1) rows) ≡ f (take k rows) ++ f (r ∷ [])
made_more f appends rows k r h e = ap f (take_more rows k r h ∙ ap (λ (y : List ℤ). take k rows ++ y ∷ []) (sym e)) ∙ appends (take k rows) (r ∷ [])

pub one_kept : (f : List (List ℤ) → List (List ℤ)) → ((xs ys : List (List ℤ)) → f (xs ++ ys) ≡ f xs ++ f ys) → (rows : List (List ℤ)) (k : ℕ) (r t : List ℤ) (items new : List (List ℤ)) →
    k < length rows → r ≡ get_or rows k r →
    f (r ∷ []) ≡ r ∷ [] → t ≡ r → new ≡ items ++ t ∷ [] → items ≡ f (take k rows) → new ≡ f (take (k + 1) rows)
one_kept f appends rows k r t items new h e one et en ei =
    en ∙ ap (λ (l : List (List ℤ)). l ++ t ∷ []) ei ∙ ap (λ (y : List ℤ). f (take k rows) ++ y ∷ []) et ∙ ap (λ (l : List (List ℤ)). f (take k rows) ++ l) (sym one) ∙
    sym (made_more f appends rows k r h e)

pub one_left : (f : List (List ℤ) → List (List ℤ)) → ((xs ys : List (List ℤ)) → f (xs ++ ys) ≡ f xs ++ f ys) → (rows : List (List ℤ)) (k : ℕ) (r : List ℤ) (items : List (List ℤ)) → k < length rows →
    r ≡ get_or rows k r →
    f (r ∷ []) ≡ [] → items ≡ f (take k rows) → items ≡ f (take (k + 1) rows)
one_left f appends rows k r items h e none ei = ei ∙ sym (append-nil (f (take k rows))) ∙ ap (λ (l : List (List ℤ)). f (take k rows) ++ l) (sym none) ∙ sym (made_more f appends rows k r h e)

-- ---- widths
All-from_contains : (P : List ℤ → Type 0) (rows : List (List ℤ)) → ((r : List ℤ) → Contains rows r → P r) → All P rows
All-from_contains P rows h = All-from_get_or P rows [] (λ i l. h (get_or rows i []) (Contains-get_or rows i [] l))

pub all_points : (w : ℕ) (rays : List (List ℤ)) → All (λ r. length r ≡ w) rays → All (λ r. length r ≡ w) (points_of rays)
all_points w rays h = All-from_contains (λ r. length r ≡ w) (points_of rays) (λ r m. All-contains (λ r. length r ≡ w) rays r h (points_from rays r m).0)

pub all_directions : (w : ℕ) (rays : List (List ℤ)) → All (λ r. length r ≡ w) rays → All (λ r. length r ≡ w) (directions_of rays)
all_directions w rays h = All-from_contains (λ r. length r ≡ w) (directions_of rays) (λ r m. All-contains (λ r. length r ≡ w) rays r h (directions_from rays r m).0)

pub all_without : (w : ℕ) (row : List ℤ) (rays : List (List ℤ)) → All (λ r. length r ≡ w) rays → All (λ r. length r ≡ w) (without row rays)
all_without w row rays h = All-from_contains (λ r. length r ≡ w) (without row rays) (λ r m. All-contains (λ r. length r ≡ w) rays r h (without_from row rays r m).0)

pub points_widths : (w : ℕ) (rays points : List (List ℤ)) → All (λ r. length r ≡ w) rays → IsPermutation (points_of rays) points → All (λ r. length r ≡ w) points
points_widths w rays points h p = All-permutation (λ r. length r ≡ w) (points_of rays) points p
    (all_points w rays h)

pub directions_widths : (w : ℕ) (rays directions : List (List ℤ)) → All (λ r. length r ≡ w) rays → IsPermutation (directions_of rays) directions → All (λ r. length r ≡ w) directions
directions_widths w rays directions h p = All-permutation (λ r. length r ≡ w) (directions_of rays) directions p
    (all_directions w rays h)

pub without_widths : (w : ℕ) (row : List ℤ) (rays others : List (List ℤ)) → All (λ r. length r ≡ w) rays → IsPermutation (without row rays) others → All (λ r. length r ≡ w) others
without_widths w row rays others h p = All-permutation (λ r. length r ≡ w) (without row rays) others p
    (all_without w row rays h)

-- ---- the list of generators, as it is put together
pub put_together : {E : Type 0} (lines rays points directions : List (List ℤ)) (result : Result (LinearSystem GenKind) E) →
    IsPermutation (points_of rays) points →
    IsPermutation (directions_of rays) directions → IsSorted row_cmp points → IsSorted row_cmp directions → points ≢ [] →
    IfOk result (λ list. list.rows ≡ (points ++ directions) ++ lines) →
    IfOk result (λ list. list.kinds ≡ (replicate (length points) Point ++ replicate (length directions) Ray) ++ replicate (length lines) Line) →
    IfOk result (ShowsGenerators lines rays)
put_together lines rays points directions (Err e) p d sp sd some r k = tt
put_together lines rays points directions (Ok list) p d sp sd some r k = inr (record {
  points = points;
  directions = directions;
  rows_are = r;
  kinds_are = k;
  points_are = p;
  directions_are = d;
  points_sorted = sp;
  directions_sorted = sd;
  some_point = some;
})

pub none_before : (xs ys : List (List ℤ)) → IsPermutation xs ys → length ys ≡ 0 → xs ≡ []
none_before [] ys p e = refl
none_before (x ∷ xs) [] p e = absurd (contains_none x (Contains-permutation (x ∷ xs) [] x p (contains_head x xs)))
none_before (x ∷ xs) (y ∷ ys) p e = absurd (omega (arith, e))

-- ---- and of constraints
pub put_constraints : (n : ℕ) (lines rays found inequalities : List (List ℤ)) (row : List ℤ) (empty first list : LinearSystem ConKind) → row ≡ positivity n → found ≡ without row rays →
    IsPermutation found inequalities → IsSorted inequality_cmp inequalities → empty.rows ≡ [] → empty.kinds ≡ [] →
    first.rows ≡ empty.rows ++ lines → first.kinds ≡ empty.kinds ++ replicate (length lines) Eq → list.rows ≡ first.rows ++ inequalities →
    list.kinds ≡ first.kinds ++ replicate (length inequalities) Ge → ShowsConstraints n lines rays list
put_constraints n lines rays found inequalities row empty first list er ef p sorted r0 k0 r1 k1 r2 k2 = record {
  inequalities = inequalities;
  rows_are = r2 ∙ ap (λ (x : List (List ℤ)). x ++ inequalities) (r1 ∙ ap (λ (x : List (List ℤ)). x ++ lines) r0);
  kinds_are = k2 ∙ ap (λ (x : List ConKind). x ++ replicate (length inequalities) Ge) (k1 ∙ ap (λ (x : List ConKind). x ++ replicate (length lines) Eq) k0);
  inequalities_are = subst (λ (x : List (List ℤ)). IsPermutation x inequalities) (ef ∙ ap (λ (y : List ℤ). without y rays) er) p;
  sorted = sorted;
}
