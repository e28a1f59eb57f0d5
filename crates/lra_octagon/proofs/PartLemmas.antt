-- Rows of an octagon that are added one after another.
use Rattle.std.proofs.Common.{◌≡◌, ℕ, zero, suc, ◌+◌, ◌-◌, ◌*◌, ◌/◌, ◌<◌, ◌≤◌, ℤ, pos, List, [], ◌∷◌, ◌++◌, length, replicate, Option, None, Some, Bool, true, false, cond, refl, sym, ap, ◌∙◌, subst}
use Rattle.std.proofs.{Common.arith, Common.append_assoc, Common.IfSome, lemmas.Int.ints, lemmas.List.append-nil, lemmas.List.Elements.All-cons}
use Rattle.std.specs.{Int.int_div_euclid, List.All, Prelude.◌==◌, Prelude.slice_set}
use Rattle.lra_linear_spec.specs.{Range.InRange, declared.ConKind.ConKind, declared.ConKind.TheVariants.Ge, declared.ConKind.TheVariants.Eq}
use Rattle.lra_octagon.specs.Crates.lra_systems.LinearSystems.{LinearSystem}
use Rattle.lra_linear_spec.proofs.UnitRows.{set_in_range, zeros_in_range}
use Rattle.lra_box.proofs.PartLemmas.{kinds_append}
use Rattle.lra_dbm.specs.{Cells.Cells, Cells.entries, Cells.IsMatrix, Entry.half_of, Entry.EntryInRange, Tight.Entries, Tight.opposite, Tight.with_sign}
use Rattle.lra_dbm.proofs.{Lowering.half_fits, Strong.half_bounds}
use Rattle.lra_octagon.specs.Parts.{sign_of, pair_row, implied_by, unless_implied, printed, kind_row, RowsAt, rising, falling, rows_with, octagon_equalities, octagon_inequalities, octagon_system}
use Rattle.lra_octagon.specs.{Parts.Pushed, Tables.IsHalf, Tables.most}

-- ---- numbers of rows

half_is : (o : Option ℤ) → EntryInRange o → IfSome (half_of o) IsHalf
half_is None fit = tt
half_is (Some v) fit = let b = half_bounds v in let low = b.0 in let high = b.1 in (omega (arith, ints), omega (arith, ints))

pub half_of_bound : (n : ℕ) (cells : Cells) (i j : ℕ) (o : Option ℤ) (v h : ℤ) → IsMatrix n cells → o ≡ entries n cells i j → o ≡ Some v → h ≡ int_div_euclid v (pos 2) → IsHalf h
half_of_bound n cells i j o v h is e f g = subst (λ (z : ℤ). IsHalf z) (sym g) (half_is (Some v) (subst (λ (z : Option ℤ). EntryInRange z) (sym e ∙ f) (is.range i j)))

sign_in_range : (r : ℕ) → InRange (with_sign r (pos 1))
sign_in_range zero = omega (arith, ints)
sign_in_range (suc r) = omega (arith, ints)

pub pair_in_range : (n i j : ℕ) (q : ℤ) → InRange q → All InRange (pair_row n i j q)
pair_in_range n i j q fit = All-cons InRange q (slice_set (slice_set (replicate n (pos 0)) (i / 2) (sign_of i)) (j / 2) (sign_of j)) fit
    (set_in_range (slice_set (replicate n (pos 0)) (i / 2) (sign_of i)) (j / 2) (sign_of j)
    (set_in_range (replicate n (pos 0)) (i / 2) (sign_of i) (zeros_in_range n) (sign_in_range (i - 2 * (i / 2)))) (sign_in_range (j - 2 * (j / 2))))

unless_fits : (a b o : Option ℤ) → EntryInRange o → EntryInRange (unless_implied a b o)
unless_fits a b None fit = tt
unless_fits a b (Some q) fit = by_test (implied_by a b q)
  where
    by_test : (t : Bool) → EntryInRange (cond t None (Some q))
    by_test true = tt
    by_test false = fit

pub printed_fits : (n : ℕ) (cells : Cells) (i j : ℕ) (o : Option ℤ) → IsMatrix n cells → o ≡ printed (entries n cells) i j → IfSome o InRange
printed_fits n cells i j o is e = subst (λ (z : Option ℤ). EntryInRange z) (sym e) (by_test (i == j))
  where
    by_test : (t : Bool) → EntryInRange (cond t (most (entries n cells) (opposite i))
        (unless_implied (most (entries n cells) (opposite i)) (most (entries n cells) (opposite j)) (entries n cells i (opposite j))))
    by_test true = half_fits (entries n cells (opposite (opposite i)) (opposite i)) (is.range (opposite (opposite i)) (opposite i))
    by_test false = unless_fits (most (entries n cells) (opposite i)) (most (entries n cells) (opposite j)) (entries n cells i (opposite j)) (is.range i (opposite j))

-- ---- rows that are added

pub pushed_none : (kind : ConKind) (added : List (List ℤ)) (s : LinearSystem ConKind) → added ≡ [] → Pushed kind added s s
pushed_none kind added s e = rw e (record { dims = refl; rows = sym (append-nil s.rows); kinds = sym (append-nil s.kinds) })

pub pushed_row : (kind : ConKind) (added : List (List ℤ)) (row : List ℤ) (old new : LinearSystem ConKind) → added ≡ row ∷ [] → new.dims ≡ old.dims
    → new.rows ≡ old.rows ++ (row ∷ []) → new.kinds ≡ old.kinds ++ (kind ∷ []) → Pushed kind added old new
pushed_row kind added row old new e d r k = rw e (record { dims = d; rows = r; kinds = k })

pub pushed_then : (kind : ConKind) (xs ys : List (List ℤ)) (one two three : LinearSystem ConKind) → Pushed kind xs one two → Pushed kind ys two three → Pushed kind (xs ++ ys) one three
pushed_then kind xs ys one two three p q = record {
  dims = q.dims ∙ p.dims;
  rows = q.rows ∙ ap (λ z. z ++ ys) p.rows ∙ append_assoc one.rows xs ys;
  kinds = q.kinds ∙ ap (λ z. z ++ replicate (length ys) kind) p.kinds ∙ append_assoc one.kinds (replicate (length xs) kind) (replicate (length ys) kind)
      ∙ ap (λ z. one.kinds ++ z) (sym (kinds_append kind xs ys));
}

pub pushed_three : (kind : ConKind) (xs ys zs : List (List ℤ)) (one two three four : LinearSystem ConKind) → Pushed kind xs one two → Pushed kind ys two three → Pushed kind zs three four
    → Pushed kind ((xs ++ ys) ++ zs) one four
pushed_three kind xs ys zs one two three four p q r = pushed_then kind (xs ++ ys) zs one three four (pushed_then kind xs ys one two three p q) r

-- the rows before `rest` were added
pub record Pushing (kind : ConKind) (all rest : List (List ℤ)) (old now : LinearSystem ConKind) : Type 0 where
  pub added : List (List ℤ)
  pub pushed : Pushed kind added old now
  pub all_is : all ≡ added ++ rest

pub pushing_start : (kind : ConKind) (all : List (List ℤ)) (s : LinearSystem ConKind) → Pushing kind all all s s
pushing_start kind all s = record { added = []; pushed = pushed_none kind [] s refl; all_is = refl }

pub pushing_more : (kind : ConKind) (all rest more later : List (List ℤ)) (old now new : LinearSystem ConKind) → Pushing kind all rest old now → rest ≡ more ++ later → Pushed kind more now new
    → Pushing kind all later old new
pushing_more kind all rest more later old now new p e q = record {
  added = p.added ++ more;
  pushed = pushed_then kind p.added more old now new p.pushed q;
  all_is = p.all_is ∙ ap (λ z. p.added ++ z) e ∙ sym (append_assoc p.added more later);
}

pub pushing_end : (kind : ConKind) (all rest : List (List ℤ)) (old now : LinearSystem ConKind) → Pushing kind all rest old now → rest ≡ [] →
    Pushed kind all old now
pushing_end kind all rest old now p e = subst (λ (z : List (List ℤ)). Pushed kind z old now) (sym (p.all_is ∙ ap (λ z. p.added ++ z) e ∙ append-nil p.added)) p.pushed

-- ---- one more row of a list

pub rising_next : (f : RowsAt) (b n : ℕ) → b < n → rising f b (n - b) ≡ f (2 * b) ++ rising f (b + 1) (n - (b + 1))
rising_next f b n h = let less : n - b ≡ suc (n - (b + 1)) = omega arith in let next : suc b ≡ b + 1 = omega arith in ap (rising f b) less ∙ ap (λ z. f (2 * b) ++ rising f z (n - (b + 1))) next

pub rising_done : (f : RowsAt) (b n : ℕ) → n ≤ b → rising f b (n - b) ≡ []
rising_done f b n h = let none : n - b ≡ 0 = omega arith in ap (rising f b) none

pub falling_next : (f : RowsAt) (b k : ℕ) → 0 < k → falling f b k ≡ f (2 * (b + (k - 1)) + 1) ++ falling f b (k - 1)
falling_next f b k h = let less : k ≡ suc (k - 1) = omega arith in ap (falling f b) less

pub equal_next : (n : ℕ) (m : Entries) (a : ℕ) → a < n → octagon_equalities n m a (n - a) ≡ rows_with n (kind_row Eq n m) (2 * a) ++ octagon_equalities n m (a + 1) (n - (a + 1))
equal_next n m a h = let less : n - a ≡ suc (n - (a + 1)) = omega arith in let next : suc a ≡ a + 1 = omega arith in
    ap (octagon_equalities n m a) less ∙ ap (λ z. rows_with n (kind_row Eq n m) (2 * a) ++ octagon_equalities n m z (n - (a + 1))) next

pub equal_done : (n : ℕ) (m : Entries) (a : ℕ) → n ≤ a → octagon_equalities n m a (n - a) ≡ []
equal_done n m a h = let none : n - a ≡ 0 = omega arith in ap (octagon_equalities n m a) none

pub unequal_next : (n : ℕ) (m : Entries) (a : ℕ) → a < n
    → octagon_inequalities n m a (n - a) ≡ (rows_with n (kind_row Ge n m) (2 * a) ++ rows_with n (kind_row Ge n m) (2 * a + 1)) ++ octagon_inequalities n m (a + 1) (n - (a + 1))
unequal_next n m a h = let less : n - a ≡ suc (n - (a + 1)) = omega arith in let next : suc a ≡ a + 1 = omega arith in
    ap (octagon_inequalities n m a) less ∙ ap (λ z. (rows_with n (kind_row Ge n m) (2 * a) ++ rows_with n (kind_row Ge n m) (2 * a + 1)) ++ octagon_inequalities n m z (n - (a + 1))) next

pub unequal_done : (n : ℕ) (m : Entries) (a : ℕ) → n ≤ a → octagon_inequalities n m a (n - a) ≡ []
unequal_done n m a h = let none : n - a ≡ 0 = omega arith in ap (octagon_inequalities n m a) none

pub from_first : (n : ℕ) → n - 0 ≡ n
from_first n = omega arith

-- ---- the whole

pub pushed_system : (n : ℕ) (m : Entries) (one two three : LinearSystem ConKind) → one.dims ≡ n → one.rows ≡ [] → one.kinds ≡ []
    → Pushed Eq (octagon_equalities n m 0 n) one two → Pushed Ge (octagon_inequalities n m 0 n) two three → three ≡ octagon_system n m
pushed_system n m one two three d r k p q = same_listed three (octagon_system n m) (q.dims ∙ p.dims ∙ d)
    (q.rows ∙ ap (λ z. z ++ octagon_inequalities n m 0 n) (p.rows ∙ ap (λ z. z ++ octagon_equalities n m 0 n) r))
    (q.kinds ∙ ap (λ z. z ++ replicate (length (octagon_inequalities n m 0 n)) Ge)
    (p.kinds ∙ ap (λ z. z ++ replicate (length (octagon_equalities n m 0 n)) Eq) k))
  where
    same_listed : (a b : LinearSystem ConKind) → a.dims ≡ b.dims → a.rows ≡ b.rows → a.kinds ≡ b.kinds → a ≡ b
    same_listed a b d r k = rw (d, r, k) refl
