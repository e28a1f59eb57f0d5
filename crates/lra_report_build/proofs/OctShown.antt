-- Octagons are shown by their rows, which hold at each of their stores.
use Rattle.std.proofs.Common.{◌≡◌, ℕ, zero, suc, ◌+◌, ◌*◌, ◌/◌, ◌-◌, ◌<◌, ◌⊎◌, ◌++◌, ℤ, pos, List, [], ◌∷◌, length, map, Option, Some, None, Bool, true, false, inl, inr, refl, ap, ◌∙◌, arith}
use Rattle.std.proofs.lemmas.List.{length-replicate, length-set}
use Rattle.std.specs.{List.AllByRecursion, Prelude.replicate, Prelude.slice_set, Prelude.if◌then◌else◌}
use Rattle.lra_report_build.specs.Crates.lra_dbm.Tight.{Entries, with_sign}
use Rattle.lra_report_build.specs.Crates.{lra_dbm.Cells.Cells, lra_dbm.Cells.entries, lra_linear_spec.declared.ConKind.ConKind, lra_linear_spec.declared.ConKind.TheVariants.Ge}
use Rattle.lra_report_build.specs.Crates.{lra_linear_spec.declared.ConKind.TheVariants.Eq, lra_options.declared.options.Domain.TheVariants.Oct, lra_systems.LinearSystems.LinearSystem}
use Rattle.lra_octagon.specs.Parts.{sign_of, pair_row, printed, is_equality_pair, row_if_any, kind_row, RowsAt, rising, falling, rows_with, octagon_equalities, octagon_inequalities, octagon_system}
use Rattle.lra_octagon.specs.{Abstraction.octagon_abstraction, Content.OctagonContent, Content.OctagonGamma, Laws.sized_stores, Parts.octagon_parts}
use Rattle.lra_octagon.proofs.MeanLemmas.{stores_hold}
use Rattle.lra_report.specs.{Listing.HasWidth, Parts.ShowsPart, Report.InvariantHolds}
use Rattle.lra_row_text.specs.Texts.{is_negated}
use Rattle.lra_report.proofs.Every.{every_append}
use Rattle.lra_report_build.specs.Shown.{shown_part, AreDirected, ShowsRows}
use Rattle.lra_report_build.proofs.RowsHold.{parts_hold, AreWide, shown_wide, IsStraight, rows_directed}

-- each row of the lists -----------------------------------------------------------------------------------------------

module _ (P : List ℤ → Type 0) where
  chosen_each : (b : Bool) (xs ys : List (List ℤ)) → AllByRecursion P xs → AllByRecursion P ys → AllByRecursion P (if b then xs else ys)
  chosen_each true xs ys h i = h
  chosen_each false xs ys h i = i

  rising_each : (f : RowsAt) (a b k : ℕ) → a < b → ((j : ℕ) → a < j / 2 → AllByRecursion P (f j)) → AllByRecursion P (rising f b k)
  rising_each f a b zero l h = tt
  rising_each f a b (suc k) l h = every_append P (f (2 * b)) (rising f (suc b) k) (h (2 * b) (omega (arith, l)))
      (rising_each f a (suc b) k (omega (arith, l)) h)

  falling_each : (f : RowsAt) (a b k : ℕ) → a < b → ((j : ℕ) → a < j / 2 → AllByRecursion P (f j)) → AllByRecursion P (falling f b k)
  falling_each f a b zero l h = tt
  falling_each f a b (suc k) l h = every_append P (f (2 * (b + k) + 1)) (falling f b k) (h (2 * (b + k) + 1) (omega (arith, l))) (falling_each f a b k l h)

  with_each : (n : ℕ) (f : ℕ → RowsAt) (i : ℕ) → AllByRecursion P (f i i) → ((j : ℕ) → i / 2 < j / 2 → AllByRecursion P (f i j)) → AllByRecursion P
      (rows_with n f i)
  with_each n f i own later =
      let after : i / 2 < suc (i / 2) = omega arith in
      let up = rising (f i) (suc (i / 2)) (n - suc (i / 2)) in
      let down = falling (f i) (suc (i / 2)) (n - suc (i / 2)) in
      every_append P (up ++ f i i) down
      (every_append P up (f i i) (rising_each (f i) (i / 2) (suc (i / 2)) (n - suc (i / 2)) after later) own)
      (falling_each (f i) (i / 2) (suc (i / 2)) (n - suc (i / 2)) after later)

  equal_each : (n : ℕ) (m : Entries) (a k : ℕ) → ((a : ℕ) → AllByRecursion P (rows_with n (kind_row Eq n m) (2 * a))) →
      AllByRecursion P (octagon_equalities n m a k)
  equal_each n m a zero h = tt
  equal_each n m a (suc k) h = every_append P (rows_with n (kind_row Eq n m) (2 * a)) (octagon_equalities n m (suc a) k) (h a) (equal_each n m (suc a) k h)

  unequal_each : (n : ℕ) (m : Entries) (a k : ℕ) → ((i : ℕ) → AllByRecursion P (rows_with n (kind_row Ge n m) i)) →
      AllByRecursion P (octagon_inequalities n m a k)
  unequal_each n m a zero h = tt
  unequal_each n m a (suc k) h =
      let plus = rows_with n (kind_row Ge n m) (2 * a) in
      let minus = rows_with n (kind_row Ge n m) (2 * a + 1) in
      every_append P (plus ++ minus) (octagon_inequalities n m (suc a) k) (every_append P plus minus (h (2 * a)) (h (2 * a + 1))) (unequal_each n m (suc a) k h)

-- widths --------------------------------------------------------------------------------------------------------------

pair_wide : (n i j : ℕ) (q : ℤ) → length (pair_row n i j q) ≡ suc n
pair_wide n i j q =
    ap suc (length-set (slice_set (replicate n (pos 0)) (i / 2) (sign_of i)) (j / 2) (sign_of j) ∙ length-set (replicate n (pos 0)) (i / 2) (sign_of i) ∙
    length-replicate n (pos 0))

any_wide : (n i j : ℕ) (o : Option ℤ) → AreWide n (row_if_any n i j o)
any_wide n i j None = tt
any_wide n i j (Some q) = (pair_wide n i j q, tt)

abbrev IsWide : ℕ → List ℤ → Type 0
IsWide n r = length r ≡ suc n

kind_wide : (kind : ConKind) (n : ℕ) (m : Entries) (i j : ℕ) → AreWide n (kind_row kind n m i j)
kind_wide Eq n m i j = chosen_each (IsWide n) (is_equality_pair m i j) (row_if_any n i j (printed m i j)) [] (any_wide n i j (printed m i j)) tt
kind_wide Ge n m i j = chosen_each (IsWide n) (is_equality_pair m i j) [] (row_if_any n i j (printed m i j)) tt (any_wide n i j (printed m i j))

with_wide : (kind : ConKind) (n : ℕ) (m : Entries) (i : ℕ) → AreWide n (rows_with n (kind_row kind n m) i)
with_wide kind n m i = with_each (IsWide n) n (kind_row kind n m) i (kind_wide kind n m i i) (λ j l. kind_wide kind n m i j)

system_wide : (n : ℕ) (m : Entries) → AreWide n (octagon_equalities n m 0 n ++ octagon_inequalities n m 0 n)
system_wide n m = every_append (IsWide n) (octagon_equalities n m 0 n) (octagon_inequalities n m 0 n)
    (equal_each (IsWide n) n m 0 n (λ a. with_wide Eq n m (2 * a))) (unequal_each (IsWide n) n m 0 n (with_wide Ge n m))

parts_wide : (n : ℕ) (o : Option Cells) → AllByRecursion (HasWidth n) (map shown_part (octagon_parts n o))
parts_wide n None = tt
parts_wide n (Some cells) =
    let m = entries n cells in
    ((shown_wide n (octagon_system n m).rows (octagon_system n m).kinds (system_wide n m), tt), tt)

no_generators : (n : ℕ) (ps : List (LinearSystem ConKind)) → AllByRecursion (ShowsPart Oct n) (map shown_part ps)
no_generators n [] = tt
no_generators n (p ∷ ps) = (refl, no_generators n ps)

-- texts ---------------------------------------------------------------------------------------------------------------

-- the first coefficient that isn't 0 is 1
own_up : (n a : ℕ) → is_negated (slice_set (slice_set (replicate n (pos 0)) a (pos 1)) a (pos 1)) ≡ false
own_up zero a = refl
own_up (suc n) zero = refl
own_up (suc n) (suc a) = own_up n a

first_up : (n a b : ℕ) (z : ℤ) → a < b → is_negated (slice_set (slice_set (replicate n (pos 0)) a (pos 1)) b z) ≡ false
first_up zero a b z l = refl
first_up (suc n) a zero z l = absurd (omega (arith, l))
first_up (suc n) zero (suc b) z l = refl
first_up (suc n) (suc a) (suc b) z l = first_up n a b z (omega (arith, l))

row_up : (n x y a : ℕ) (u v : ℤ) → x ≡ a → u ≡ pos 1 → (a < y) ⊎ ((y ≡ a) × (v ≡ pos 1)) → is_negated (slice_set (slice_set (replicate n (pos 0)) x u) y v) ≡
    false
row_up n x y a u v ex eu (inl l) = rw (ex, eu) (first_up n a y v l)
row_up n x y a u v ex eu (inr (ey, ev)) = rw (ex, eu, ey, ev) (own_up n a)

half_even : (a : ℕ) → (2 * a) / 2 ≡ a
half_even a = omega arith

sign_even : (a : ℕ) → sign_of (2 * a) ≡ pos 1
sign_even a = let none : 2 * a - 2 * ((2 * a) / 2) ≡ 0 = omega arith in ap (λ (r : ℕ). with_sign r (pos 1)) none

any_straight : (n a j : ℕ) (o : Option ℤ) → (a < j / 2) ⊎ (j ≡ 2 * a) → AllByRecursion IsStraight (row_if_any n (2 * a) j o)
any_straight n a j None c = tt
any_straight n a j (Some q) (inl l) = (row_up n ((2 * a) / 2) (j / 2) a (sign_of (2 * a)) (sign_of j) (half_even a) (sign_even a) (inl l), tt)
any_straight n a j (Some q) (inr e) = (
  row_up n ((2 * a) / 2) (j / 2) a (sign_of (2 * a)) (sign_of j) (half_even a) (sign_even a)
      (inr (ap (λ (z : ℕ). z / 2) e ∙ half_even a, ap (λ (z : ℕ). sign_of z) e ∙ sign_even a)),
  tt,
)

kind_straight : (n : ℕ) (m : Entries) (a j : ℕ) → (a < j / 2) ⊎ (j ≡ 2 * a) → AllByRecursion IsStraight (kind_row Eq n m (2 * a) j)
kind_straight n m a j c =
    chosen_each IsStraight (is_equality_pair m (2 * a) j) (row_if_any n (2 * a) j (printed m (2 * a) j)) [] (any_straight n a j (printed m (2 * a) j) c) tt

with_straight : (n : ℕ) (m : Entries) (a : ℕ) → AllByRecursion IsStraight (rows_with n (kind_row Eq n m) (2 * a))
with_straight n m a = with_each IsStraight n (kind_row Eq n m) (2 * a) (kind_straight n m a (2 * a) (inr refl))
    (λ j l. kind_straight n m a j (inl (omega (arith, l))))

parts_directed : (n : ℕ) (o : Option Cells) → AllByRecursion AreDirected (map shown_part (octagon_parts n o))
parts_directed n None = tt
parts_directed n (Some cells) =
    let m = entries n cells in
    (rows_directed (octagon_equalities n m 0 n) (octagon_inequalities n m 0 n) (equal_each IsStraight n m 0 n (with_straight n m)), tt)

-- stores --------------------------------------------------------------------------------------------------------------

octagon_holds : (v : OctagonContent) (s : List ℤ) → OctagonGamma v s → InvariantHolds (map shown_part (octagon_parts v.dims v.cells)) s
octagon_holds v s h = parts_hold (octagon_parts v.dims v.cells) s (stores_hold v.dims v.cells s (sized_stores v.dims v.cells s h) h)

pub octagons_are_shown : ShowsRows octagon_abstraction Oct
octagons_are_shown = record {
  wide = λ v. parts_wide v.dims v.cells;
  tell = λ v. no_generators v.dims (octagon_abstraction.parts v);
  holds = octagon_holds;
  directed = λ v. parts_directed v.dims v.cells;
}
