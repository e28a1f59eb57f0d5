-- What changes and joins keep of contents with an entry for each dimension, and how their ranks fall.
use Rattle.std.proofs.Common.{◌≡◌, ℕ, zero, suc, ◌*◌, ◌^◌, ◌<◌, ◌≤◌, ℤ, Bool, true, false, List, [], ◌∷◌, ◌++◌, length, replicate, take, refl, ap, arith}
use Rattle.std.proofs.lemmas.Bool.{and_parts}
use Rattle.std.specs.{Cmp.Lexicographic.pointwise, Prelude.slice_set}
use Rattle.guzhtarel.specs.Entries.{AllHave, join_each, total}

-- ---- changes
pub have_length : {E : Type 0} (has : E → ℤ → Type 0) (es : List E) (s : List ℤ) → AllHave has es s → length s ≡ length es
have_length has [] [] a = refl
have_length has [] (x ∷ s) a = absurd a
have_length has (e ∷ es) [] a = absurd a
have_length has (e ∷ es) (x ∷ s) a = ap suc (have_length has es s a.1)

pub have_all : {E : Type 0} (has : E → ℤ → Type 0) (e : E) → ((x : ℤ) → has e x) → (n : ℕ) (s : List ℤ) → length s ≡ n → AllHave has (replicate n e) s
have_all has e every zero [] l = tt
have_all has e every zero (x ∷ s) l = absurd (omega (arith, l))
have_all has e every (suc n) [] l = absurd (omega (arith, l))
have_all has e every (suc n) (x ∷ s) l = (every x, have_all has e every n s (omega (arith, l)))

pub have_set : {E : Type 0} (has : E → ℤ → Type 0) (es : List E) (s : List ℤ) (k : ℕ) (e : E) (x : ℤ) → AllHave has es s → has e x
    → AllHave has (slice_set es k e) (slice_set s k x)
have_set has [] [] k e x a h = a
have_set has [] (y ∷ s) k e x a h = absurd a
have_set has (d ∷ ds) [] k e x a h = absurd a
have_set has (d ∷ ds) (y ∷ s) zero e x a h = (h, a.1)
have_set has (d ∷ ds) (y ∷ s) (suc k) e x a h = (a.0, have_set has ds s k e x a.1 h)

pub have_append : {E : Type 0} (has : E → ℤ → Type 0) (es ds : List E) (s t : List ℤ) → AllHave has es s → AllHave has ds t → AllHave has (es ++ ds) (s ++ t)
have_append has [] ds [] t a b = b
have_append has [] ds (x ∷ s) t a b = absurd a
have_append has (e ∷ es) ds [] t a b = absurd a
have_append has (e ∷ es) ds (x ∷ s) t a b = (a.0, have_append has es ds s t a.1 b)

pub have_take : {E : Type 0} (has : E → ℤ → Type 0) (n : ℕ) (es : List E) (s : List ℤ) → AllHave has es s → AllHave has (take n es) (take n s)
have_take has zero es s a = tt
have_take has (suc n) [] [] a = tt
have_take has (suc n) [] (x ∷ s) a = absurd a
have_take has (suc n) (e ∷ es) [] a = absurd a
have_take has (suc n) (e ∷ es) (x ∷ s) a = (a.0, have_take has n es s a.1)

-- ---- what is covered
pub have_within : {E : Type 0} (has : E → ℤ → Type 0) (test : E → E → Bool) → ((e d : E) (x : ℤ) → test e d ≡ true → has e x → has d x)
    → (es ds : List E) → pointwise test es ds ≡ true → (s : List ℤ) → AllHave has es s → AllHave has ds s
have_within has test one [] [] t s a = a
have_within has test one [] (d ∷ ds) t s a = cc
have_within has test one (e ∷ es) [] t s a = cc
have_within has test one (e ∷ es) (d ∷ ds) t [] a = absurd a
have_within has test one (e ∷ es) (d ∷ ds) t (x ∷ s) a =
    let p = and_parts (test e d) (pointwise test es ds) t in
    (one e d x p.0 a.0, have_within has test one es ds p.1 s a.1)

pub each_covers : {E : Type 0} (test : E → E → Bool) → ((e : E) → test e e ≡ true) → (es : List E) → pointwise test es es ≡ true
each_covers test one [] = refl
each_covers test one (e ∷ es) = rw (one e) (each_covers test one es)

pub join_left : {E : Type 0} (test : E → E → Bool) (join : E → E → E) → ((e d : E) → test e (join e d) ≡ true) → (es ds : List E) → length es ≡ length ds
    → pointwise test es (join_each join es ds) ≡ true
join_left test join one [] ds l = refl
join_left test join one (e ∷ es) [] l = absurd (omega (arith, l))
join_left test join one (e ∷ es) (d ∷ ds) l = rw (one e d) (join_left test join one es ds (omega (arith, l)))

pub join_right : {E : Type 0} (test : E → E → Bool) (join : E → E → E) → ((e d : E) → test d (join e d) ≡ true) → (es ds : List E) → length es ≡ length ds
    → pointwise test ds (join_each join es ds) ≡ true
join_right test join one [] [] l = refl
join_right test join one [] (d ∷ ds) l = absurd (omega (arith, l))
join_right test join one (e ∷ es) [] l = absurd (omega (arith, l))
join_right test join one (e ∷ es) (d ∷ ds) l = rw (one e d) (join_right test join one es ds (omega (arith, l)))

-- ---- ranks: the sum of a number of each entry
pub sum_most : {E : Type 0} (number : E → ℕ) → ((e : E) → number e ≤ 2 ^ 31) → (es : List E) → total number es ≤ 2 ^ 31 * length es
sum_most number one [] = omega arith
sum_most number one (e ∷ es) = let h = one e in let l = sum_most number one es in omega (arith, h, l)

pub sum_less : {E : Type 0} (number : E → ℕ) (join : E → E → E) → ((e d : E) → number (join e d) ≤ number e) → (es ds : List E)
    → total number (join_each join es ds) ≤ total number es
sum_less number join one [] ds = omega arith
sum_less number join one (e ∷ es) [] = omega arith
sum_less number join one (e ∷ es) (d ∷ ds) = let h = one e d in let l = sum_less number join one es ds in omega (arith, h, l)

pub sum_falls : {E : Type 0} (number : E → ℕ) (test : E → E → Bool) (join : E → E → E) → ((e d : E) → number (join e d) ≤ number e)
    → ((e d : E) → test d e ≡ false → number (join e d) < number e) → (es ds : List E) → length es ≡ length ds → pointwise test ds es ≡ false
    → total number (join_each join es ds) < total number es
sum_falls number test join most one [] [] l t = cc
sum_falls number test join most one [] (d ∷ ds) l t = absurd (omega (arith, l))
sum_falls number test join most one (e ∷ es) [] l t = absurd (omega (arith, l))
sum_falls number test join most one (e ∷ es) (d ∷ ds) l t = by_test (test d e) refl (sum_falls number test join most one es ds (omega (arith, l)))
  where
    by_test : (b : Bool) → test d e ≡ b → (pointwise test ds es ≡ false → total number (join_each join es ds) < total number es)
        → total number (join_each join (e ∷ es) (d ∷ ds)) < total number (e ∷ es)
    by_test true is rest =
        let h = most e d in
        let r = rest (rw is at t) in
        omega (arith, h, r)
    by_test false is rest =
        let h = one e d is in
        let r = sum_less number join most es ds in
        omega (arith, h, r)
