-- What the check answers, reported from its columns.
use Rattle.std.proofs.Common.{◌≡◌, ℕ, zero, suc, ◌<◌, ◌≤◌, ◌+◌, ℤ, pos, ◌+ℤ◌, ◌*ℤ◌, ◌<ℤ◌, ◌≤ℤ◌, Bool, true, false, cond, List, [], ◌∷◌, length, Option, Some, None, Result, Ok, Err, refl, ap, sym, ◌∙◌}
use Rattle.std.proofs.Common.{subst, arith, inl, inr, ◌⊎◌, nat_eq, FitsSigned, to_z, of_z}
use Rattle.std.proofs.lemmas.Bool.{false_from_ne_true}
use Rattle.std.proofs.lemmas.Bool.Decides.{nat_tests, Decides-int_eq, Decides-and, Decides-like, Decides-eqb, same_from_decides}
use Rattle.std.proofs.{Math.IntN.+ℤ_idl, Math.IntN.+ℤ_idr, Math.IntN.+ℤ_assoc, lemmas.Bool.cases_lt, lemmas.Int.ints, lemmas.Int.to_z-of_z, lemmas.Option.same_Some, lemmas.Option.none-some}
use Rattle.std.specs.Prelude.{if◌then◌else◌, int_le, ◌&&◌, option_and_then, IfSome}
use Rattle.std.specs.{Bool.Decides, Cmp.Lexicographic.pointwise, Cmp.Rules.signed_items, Int.w128, List.AllByRecursion, Option.SomeIff, Ordering.int_eq}
use borrow.Author.Count.{below_more}
use Rattle.lra_multipliers.specs.Crates.lra_linear_spec.CheckedArithmetic.{checked_added_entry, checked_added, then_rest, and_then}
use Rattle.lra_multipliers.specs.Crates.lra_linear_spec.Descriptions.{LinearRow, rows_of}
use Rattle.lra_multipliers.specs.Crates.lra_linear_spec.Vectors.{entry, zeros, signed_sum}
use Rattle.lra_multipliers.specs.Crates.{lra_linear_spec.Polyhedra.positivity, lra_linear_spec.Range.InRange, lra_linear_spec.Range.in_range, lra_linear_spec.declared.Excess.Excess}
use Rattle.lra_multipliers.proofs.Crates.lra_linear_spec.CheckedArithmetic.{in_range_yes, in_range_no}
use Rattle.lra_multipliers.proofs.Crates.lra_linear_spec.Products.{entry_past, row_same}
use Rattle.lra_multipliers.proofs.Crates.{lra_linear_spec.Lines.entry_zeros, lra_linear_spec.Ring.ring, lra_linear_spec.Ring.v, lra_linear_spec.Ring.◌⊕◌, lra_linear_spec.Ring.◌⊗◌}
use Rattle.lra_multipliers.specs.Columns.{within_range, added_to, column_sum, first_of, premises_column, both, column_agrees, AgreeBelow, ColumnsTell, answer_told}
use Rattle.lra_multipliers.specs.Multipliers.{Multipliers, IsSigned, AreSigned, IsFarkasCertificate, checked_multiple, checked_sum, premises_sum, IsCheckWide, wide, IsAnswer, is_signed, are_signed}
use Rattle.lra_multipliers.specs.{Multipliers.may_show, Multipliers.shown_if, Multipliers.compared, Multipliers.checked, Symbols.constant_row}

-- ---- one number
abbrev kept : ℤ → Bool → Option ℤ
kept z b = if b then Some z else None

pub within_yes : (z : ℤ) → InRange z → within_range z ≡ Some z
within_yes z h = ap (kept z) (in_range_yes z h)

pub within_no : (z : ℤ) → ¬ (InRange z) → within_range z ≡ None
within_no z h = ap (kept z) (in_range_no z h)

kept_is : (z y : ℤ) (b : Bool) → kept z b ≡ Some y → y ≡ z
kept_is z y true e = sym (same_Some z y e)
kept_is z y false e = absurd (none-some y e)

pub within_is : (z y : ℤ) → within_range z ≡ Some y → y ≡ z
within_is z y e = kept_is z y (in_range z) e

added_kept : (s p y : ℤ) (b : Bool) → option_and_then (λ (x : ℤ). within_range (s +ℤ x)) (kept p b) ≡ Some y → y ≡ s +ℤ p
added_kept s p y true e = within_is (s +ℤ p) y e
added_kept s p y false e = absurd (none-some y e)

pub added_is : (s p y : ℤ) → added_to s p ≡ Some y → y ≡ s +ℤ p
added_is s p y e = added_kept s p y (in_range p) e

-- and it is in the range
range_tells : (z : ℤ) → in_range z ≡ true → InRange z
range_tells z e = grind (arith, nat_tests)

kept_in : (z y : ℤ) (b : Bool) → in_range z ≡ b → kept z b ≡ Some y → InRange y
kept_in z y true f e = subst InRange (same_Some z y e) (range_tells z f)
kept_in z y false f e = absurd (none-some y e)

added_in_range : (s y : ℤ) (o : Option ℤ) → option_and_then (λ (x : ℤ). within_range (s +ℤ x)) o ≡ Some y → InRange y
added_in_range s y None e = absurd (none-some y e)
added_in_range s y (Some x) e = kept_in (s +ℤ x) y (in_range (s +ℤ x)) refl e

pub added_in : (s p y : ℤ) → added_to s p ≡ Some y → InRange y
added_in s p y e = added_in_range s y (within_range p) e

zero_kept : (p : ℤ) (b : Bool) → in_range p ≡ b → option_and_then (λ (x : ℤ). within_range (pos 0 +ℤ x)) (kept p b) ≡ kept p b
zero_kept p true e = ap within_range (+ℤ_idl p) ∙ ap (kept p) e
zero_kept p false e = refl

added_to_zero : (p : ℤ) → added_to (pos 0) p ≡ within_range p
added_to_zero p = zero_kept p (in_range p) refl

-- ---- one number more
added_within : (s p : ℤ) → InRange p → added_to s p ≡ within_range (s +ℤ p)
added_within s p h = ap (λ (o : Option ℤ). option_and_then (λ (x : ℤ). within_range (s +ℤ x)) o) (within_yes p h)

-- a factor 0 leaves the sum
pub zero_leaves : (s f e : ℤ) → f ≡ pos 0 → InRange s → Some s ≡ added_to s (f *ℤ e)
zero_leaves s f e h r = sym (ap (added_to s) (ap (λ (z : ℤ). z *ℤ e) h ∙ ring (v (pos 0) ⊗ v e) (v (pos 0)) (omega arith)) ∙ ap within_range (+ℤ_idr s) ∙
    within_yes s r)

pub product_passes : (s p : ℤ) → ¬ (InRange p) → None ≡ added_to s p
product_passes s p h = sym (ap (λ (o : Option ℤ). option_and_then (λ (x : ℤ). within_range (s +ℤ x)) o) (within_no p h))

pub sum_told : (s p q : ℤ) (r : Option ℤ) → InRange p × (q ≡ p) → SomeIff r (InRange (s +ℤ q)) (s +ℤ q) → r ≡ added_to s p
sum_told s p q None a h = sym (added_within s p a.0 ∙ within_no (s +ℤ p) (subst (λ (z : ℤ). ¬ (InRange (s +ℤ z))) a.1 h))
sum_told s p q (Some x) a h = ap Some (h.1 ∙ ap (λ (z : ℤ). s +ℤ z) a.1) ∙ sym
    (added_within s p a.0 ∙ within_yes (s +ℤ p) (subst (λ (z : ℤ). InRange (s +ℤ z)) a.1 h.0))

pub sum_in : (s q : ℤ) (r : Option ℤ) → SomeIff r (InRange (s +ℤ q)) (s +ℤ q) → IfSome r InRange
sum_in s q None h = tt
sum_in s q (Some x) h = subst InRange (sym h.1) h.0

-- ---- the columns of a row that is made, or the one in which it passes
abbrev Number : Type 0
Number = Result ℤ Excess

abbrev Single : Option ℤ → Number → Type 0
Single o (Ok z) = o ≡ Some z
Single o (Err e) = o ≡ None

abbrev pub Matches : (ℕ → Option ℤ) → ℕ → Result (List ℤ) Excess → Type 0
Matches f n (Ok w) = (length w ≡ n) × ((j : ℕ) → j < n → f j ≡ Some (entry w j))
Matches f n (Err e) = (j : ℕ) × (j < n) × (f j ≡ None)

each_column : (f : ℕ → Option ℤ) (n : ℕ) (z : ℤ) (zs : List ℤ) → f 0 ≡ Some z → ((j : ℕ) → j < n → f (suc j) ≡ Some (entry zs j)) → (j : ℕ) → j < suc n →
    f j ≡
    Some (entry (z ∷ zs) j)
each_column f n z zs e h zero k = e
each_column f n z zs e h (suc j) k = h j (omega (arith, k))

matches_cons : (f : ℕ → Option ℤ) (n : ℕ) (x : Number) (xs : Result (List ℤ) Excess) → Single (f 0) x → Matches (λ j. f (suc j)) n xs → Matches f (suc n)
    (then_rest x xs)
matches_cons f n (Err e) xs s m = (0, omega arith, s)
matches_cons f n (Ok z) (Ok zs) s m = (ap suc m.0, each_column f n z zs s m.1)
matches_cons f n (Ok z) (Err e) s m = (suc m.0, omega (arith, m.1), m.2)

pub matches_same : (f g : ℕ → Option ℤ) (n : ℕ) (r : Result (List ℤ) Excess) → ((j : ℕ) → j < n → f j ≡ g j) → Matches f n r → Matches g n r
matches_same f g n (Ok w) e m = (m.0, λ j h. sym (e j h) ∙ m.1 j h)
matches_same f g n (Err x) e m = (m.0, m.1, sym (e m.0 m.1) ∙ m.2)

sum_entry : (z : ℤ) (b : Bool) (f : Excess) → Single (kept z b) (cond {A = Number} b (Ok z) (Err f))
sum_entry z true f = refl
sum_entry z false f = refl

entry_by : (u p : ℤ) (b : Bool) (f g : Excess) →
    Single (option_and_then (λ (x : ℤ). within_range (u +ℤ x)) (kept p b))
    (cond {A = Number} b (cond {A = Number} (in_range (u +ℤ p)) (Ok (u +ℤ p)) (Err f)) (Err g))
entry_by u p true f g = sum_entry (u +ℤ p) (in_range (u +ℤ p)) f
entry_by u p false f g = refl

added_entry : (b x y : ℤ) → Single (added_to x (b *ℤ y)) (checked_added_entry b x y)
added_entry b x y = entry_by x (b *ℤ y) (in_range (b *ℤ y)) _ _

pub added_columns : (b : ℤ) (xs ys : List ℤ) (n : ℕ) → length xs ≡ n → length ys ≡ n → Matches (λ j. added_to (entry xs j) (b *ℤ entry ys j)) n
    (checked_added b xs ys)
added_columns b [] ys n e f = (e, λ j h. absurd (omega (arith, e, h)))
added_columns b (x ∷ xs) [] n e f = absurd (omega (arith, e, f))
added_columns b (x ∷ xs) (y ∷ ys) zero e f = absurd (omega (arith, e))
added_columns b (x ∷ xs) (y ∷ ys) (suc n) e f =
    matches_cons (λ j. added_to (entry (x ∷ xs) j) (b *ℤ entry (y ∷ ys) j)) n (checked_added_entry b x y) (checked_added b xs ys) (added_entry b x y)
    (added_columns b xs ys n (omega (arith, e)) (omega (arith, f)))

pub length_zeros : (n : ℕ) → length (zeros n) ≡ n
length_zeros zero = refl
length_zeros (suc n) = ap suc (length_zeros n)

pub multiple_columns : (claim : List ℤ) (d : ℤ) → Matches (λ j. within_range (d *ℤ entry claim j)) (length claim) (checked_multiple claim d)
multiple_columns claim d =
    matches_same (λ j. added_to (entry (zeros (length claim)) j) (d *ℤ entry claim j)) (λ j. within_range (d *ℤ entry claim j)) (length claim)
    (checked_multiple claim d)
    (λ j h. ap (λ (z : ℤ). added_to z (d *ℤ entry claim j)) (entry_zeros (length claim) j) ∙ added_to_zero (d *ℤ entry claim j))
    (added_columns d (zeros (length claim)) claim (length claim) (length_zeros (length claim)) refl)

-- ---- sums
abbrev pub AreWide : ℕ → List LinearRow → Type 0
AreWide n gs = AllByRecursion (λ g. length g.row ≡ n) gs

then_columns : (sum : List ℤ) (l : ℤ) (g : LinearRow) (ls : List ℤ) (gs : List LinearRow) (n : ℕ) (r : Result (List ℤ) Excess) → Matches
    (λ j. added_to (entry sum j) (l *ℤ entry g.row j)) n r →
    ((next : List ℤ) → length next ≡ n → Matches (λ j. column_sum (entry next j) ls (rows_of gs) j) n (checked_sum next ls gs)) →
    Matches (λ j. column_sum (entry sum j) (l ∷ ls) (rows_of (g ∷ gs)) j) n (and_then r (λ next. checked_sum next ls gs))
then_columns sum l g ls gs n (Ok next) m k =
    matches_same (λ j. column_sum (entry next j) ls (rows_of gs) j) (λ j. column_sum (entry sum j) (l ∷ ls) (rows_of (g ∷ gs)) j) n (checked_sum next ls gs)
    (λ j h. sym (ap (λ (o : Option ℤ). option_and_then (λ (x : ℤ). column_sum x ls (rows_of gs) j) o) (m.1 j h))) (k next m.0)
then_columns sum l g ls gs n (Err e) m k = (m.0, m.1, ap (λ (o : Option ℤ). option_and_then (λ (x : ℤ). column_sum x ls (rows_of gs) m.0) o) m.2)

summed_columns : (sum ls : List ℤ) (gs : List LinearRow) (n : ℕ) → length sum ≡ n → AreWide n gs → Matches (λ j. column_sum (entry sum j) ls (rows_of gs) j) n
    (checked_sum sum ls gs)
summed_columns sum [] gs n e w = (e, λ j h. refl)
summed_columns sum (l ∷ ls) [] n e w = (e, λ j h. refl)
summed_columns sum (l ∷ ls) (g ∷ gs) n e w =
    then_columns sum l g ls gs n (checked_added l sum g.row) (added_columns l sum g.row n e w.0) (λ next f. summed_columns next ls gs n f w.1)

times_zero : (z : ℤ) → z *ℤ pos 0 ≡ pos 0
times_zero z = ring (v z ⊗ v (pos 0)) (v (pos 0)) (omega arith)

-- so many times 1 >= 0
one_entry : (n : ℕ) (k : ℤ) (j : ℕ) → k *ℤ entry (constant_row (suc n) (pos 1)) j ≡ first_of j k
one_entry n k zero = ring (v k ⊗ v (pos 1)) (v k) (omega arith)
one_entry n k (suc j) = ap (λ (z : ℤ). k *ℤ z) (entry_zeros n j) ∙ times_zero k

first_added : (n : ℕ) (k : ℤ) (j : ℕ) → added_to (entry (zeros (suc n)) j) (k *ℤ entry (constant_row (suc n) (pos 1)) j) ≡ within_range (first_of j k)
first_added n k j =
    ap (λ (z : ℤ). added_to z (k *ℤ entry (constant_row (suc n) (pos 1)) j)) (entry_zeros (suc n) j) ∙
    ap (added_to (pos 0)) (one_entry n k j) ∙ added_to_zero (first_of j k)

pub sum_columns : (premises : List LinearRow) (c : ℤ) (cs : List ℤ) (m : Multipliers) → AreWide (length (c ∷ cs)) premises →
    Matches (premises_column (rows_of premises) m) (length (c ∷ cs)) (premises_sum premises (c ∷ cs) m)
sum_columns premises c cs m w =
    matches_same (λ j. column_sum (entry (zeros (suc (length cs))) j) (m.constant ∷ m.factors) (constant_row (suc (length cs)) (pos 1) ∷ rows_of premises) j)
    (premises_column (rows_of premises) m) (length (c ∷ cs)) (premises_sum premises (c ∷ cs) m)
    (λ j h. ap (λ (o : Option ℤ). option_and_then (λ (x : ℤ). column_sum x m.factors (rows_of premises) j) o) (first_added (length cs) m.constant j))
    (summed_columns (zeros (suc (length cs))) (m.constant ∷ m.factors) (record { row = constant_row (suc (length cs)) (pos 1); equal = false } ∷ premises)
    (length (c ∷ cs)) (length_zeros (suc (length cs))) (ap suc (length_zeros (length cs)), w))

sum_on : (l e s : ℤ) (ls : List ℤ) (rows : List (List ℤ)) (j : ℕ) (o : Option ℤ) (y : ℤ) → ((z : ℤ) → o ≡ Some z → z ≡ s +ℤ (l *ℤ e)) →
    ((z : ℤ) → column_sum z ls rows j ≡ Some y → y ≡ z +ℤ signed_sum ls rows j) → option_and_then (λ (x : ℤ). column_sum x ls rows j) o ≡ Some y → y ≡ s +ℤ
    ((l *ℤ e) +ℤ signed_sum ls rows j)
sum_on l e s ls rows j None y h k x = absurd (none-some y x)
sum_on l e s ls rows j (Some z) y h k x = k z x ∙ ap (λ (n : ℤ). n +ℤ signed_sum ls rows j) (h z refl) ∙ +ℤ_assoc s (l *ℤ e) (signed_sum ls rows j)

column_sum_is : (s : ℤ) (ls : List ℤ) (rows : List (List ℤ)) (j : ℕ) (y : ℤ) → column_sum s ls rows j ≡ Some y → y ≡ s +ℤ signed_sum ls rows j
column_sum_is s [] rows j y e = sym (same_Some s y e) ∙ sym (+ℤ_idr s)
column_sum_is s (l ∷ ls) [] j y e = sym (same_Some s y e) ∙ sym (+ℤ_idr s)
column_sum_is s (l ∷ ls) (r ∷ rows) j y e =
    sum_on l (entry r j) s ls rows j (added_to s (l *ℤ entry r j)) y (λ z f. added_is s (l *ℤ entry r j) z f) (λ z f. column_sum_is z ls rows j y f) e

column_from : (k : ℤ) (ls : List ℤ) (rows : List (List ℤ)) (j : ℕ) (o : Option ℤ) (y : ℤ) → ((z : ℤ) → o ≡ Some z → z ≡ k) →
    option_and_then (λ (x : ℤ). column_sum x ls rows j) o ≡ Some y → y ≡ k +ℤ signed_sum ls rows j
column_from k ls rows j None y h e = absurd (none-some y e)
column_from k ls rows j (Some z) y h e = column_sum_is z ls rows j y e ∙ ap (λ (x : ℤ). x +ℤ signed_sum ls rows j) (h z refl)

premises_column_is : (rows : List (List ℤ)) (m : Multipliers) (j : ℕ) (y : ℤ) → premises_column rows m j ≡ Some y →
    y ≡ first_of j m.constant +ℤ signed_sum m.factors rows j
premises_column_is rows m j y e =
    column_from (first_of j m.constant) m.factors rows j (within_range (first_of j m.constant)) y (λ z f. within_is (first_of j m.constant) z f) e

-- ---- what the columns say of the answer
some_below : (f : ℕ → Option Bool) (n : ℕ) (t : Bool) → AgreeBelow f n t → (j : ℕ) → j < n → (b : Bool) × (f j ≡ Some b)
some_below f n true a j h = (true, a j h)
some_below f n false a j h = a.0 j h

none_below : (f : ℕ → Option Bool) (n : ℕ) (t : Bool) → AgreeBelow f n t → (j : ℕ) → j < n → f j ≡ None → ⊥
none_below f n t a j h e = let s = some_below f n t a j h in none-some s.0 (sym e ∙ s.1)

same_entry : (x y : ℤ) (o p : Option ℤ) (b : Bool) → o ≡ Some x → p ≡ Some y → both o p ≡ Some b → int_eq x y ≡ b
same_entry x y o p b e f g = same_Some (int_eq x y) b (sym (ap (λ (q : Option ℤ). both q p) e ∙ ap (both (Some x)) f) ∙ g)

apart : (x y : ℤ) → int_eq x y ≡ false → x ≡ y → ⊥
apart x y e f = true_false (sym ((Decides-int_eq x y).1 f) ∙ e)
  where
    true_false : (let b : Bool = true in b) ≡ false → ⊥
    true_false g = cc

module _ (mult sums : ℕ → Option ℤ) (n : ℕ) (s : Bool) where
  abbrev column : ℕ → Option Bool
  column j = both (mult j) (sums j)

  rows_agree : (row sum : List ℤ) (t : Bool) → Matches mult n (Ok row) → Matches sums n (Ok sum) → AgreeBelow column n t → pointwise int_eq row sum ≡ t
  rows_agree row sum true m k a = (signed_items row sum).1 (row_same row sum (m.0 ∙ sym k.0) each)
    where
      below : (j : ℕ) → j < n → entry row j ≡ entry sum j
      below j h = (Decides-int_eq (entry row j) (entry sum j)).0 (same_entry (entry row j) (entry sum j) (mult j) (sums j) true (m.1 j h) (k.1 j h) (a j h))

      by : (j : ℕ) → (j < n) ⊎ (n ≤ j) → entry row j ≡ entry sum j
      by j (inl h) = below j h
      by j (inr h) = entry_past row j (omega (arith, m.0, h)) ∙ sym (entry_past sum j (omega (arith, k.0, h)))

      each : (j : ℕ) → entry row j ≡ entry sum j
      each j = by j (cases_lt j n)
  rows_agree row sum false m k a =
      false_from_ne_true (pointwise int_eq row sum) (λ e. apart (entry row a.1.0) (entry sum a.1.0)
      (same_entry (entry row a.1.0) (entry sum a.1.0) (mult a.1.0) (sums a.1.0) false (m.1 a.1.0 a.1.1) (k.1 a.1.0 a.1.1) a.1.2)
      (ap (λ (r : List ℤ). entry r a.1.0) ((signed_items row sum).0 e)))

  -- all columns have numbers
  pub told : (a b : Result (List ℤ) Excess) (t : Bool) → Matches mult n a → Matches sums n b → AgreeBelow column n t → compared a b s ≡ shown_if (s && t)
  told (Err e) b t m k h = absurd (none_below column n t h m.0 m.1 (ap (λ (o : Option ℤ). both o (sums m.0)) m.2))
  told (Ok row) (Err e) t m k h = absurd (none_below column n t h k.0 k.1
      (ap (λ (o : Option ℤ). both o (sums k.0)) (m.1 k.0 k.1) ∙ ap (both (Some (entry row k.0))) k.2))
  told (Ok row) (Ok sum) t m k h = ap (λ (b : Bool). shown_if (s && b)) (rows_agree row sum t m k h)

  -- one of them passes
  pub told_wide : (a b : Result (List ℤ) Excess) (j : ℕ) → Matches mult n a → Matches sums n b → j < n → column j ≡ None → compared a b s ≡ wide
  told_wide (Err e) b j m k h o = refl
  told_wide (Ok row) (Err e) j m k h o = refl
  told_wide (Ok row) (Ok sum) j m k h o =
      absurd (none-some (int_eq (entry row j) (entry sum j)) (sym o ∙ ap (λ (p : Option ℤ). both p (sums j)) (m.1 j h) ∙ ap (both (Some (entry row j)))
      (k.1 j h)))

-- ---- a column more
pub agree_none : (f : ℕ → Option Bool) → AgreeBelow f 0 true
agree_none f = λ j h. absurd (omega (arith, h))

pub agree_more : (f : ℕ → Option Bool) (n : ℕ) (a b : Bool) → AgreeBelow f n a → f n ≡ Some b → AgreeBelow f (n + 1) (a && b)
agree_more f n true true h e = below_more (λ j. f j ≡ Some true) n h e
agree_more f n true false h e = (below_more (λ j. (b : Bool) × (f j ≡ Some b)) n (λ j k. (true, h j k)) (false, e), (n, omega arith, e))
agree_more f n false b h e = (below_more (λ j. (b : Bool) × (f j ≡ Some b)) n h.0 (b, e), (h.1.0, omega (arith, h.1.1), h.1.2))

-- the column agrees, and so far all did or not
pub agree_on : (f : ℕ → Option Bool) (n : ℕ) (a b r : Bool) → AgreeBelow f n a → f n ≡ Some b → a ≡ true → r ≡ b → AgreeBelow f (n + 1) r
agree_on f n a b r h e at is = subst (λ (x : Bool). AgreeBelow f (n + 1) x) (ap (λ (x : Bool). x && b) at ∙ sym is) (agree_more f n a b h e)

pub agree_off : (f : ℕ → Option Bool) (n : ℕ) (a b r : Bool) → AgreeBelow f n a → f n ≡ Some b → a ≡ false → r ≡ false → AgreeBelow f (n + 1) r
agree_off f n a b r h e at is = subst (λ (x : Bool). AgreeBelow f (n + 1) x) (ap (λ (x : Bool). x && b) at ∙ sym is) (agree_more f n a b h e)

-- the multiple and the sum of a column
pub agrees_told : (rows : List (List ℤ)) (claim : List ℤ) (m : Multipliers) (j : ℕ) (multiple sum : ℤ) → InRange (m.divisor *ℤ entry claim j) ×
    (multiple ≡ m.divisor *ℤ entry claim j) →
    Some sum ≡ premises_column rows m j → Some (int_eq multiple sum) ≡ column_agrees rows claim m j
agrees_told rows claim m j multiple sum a es =
    sym (ap (λ (o : Option ℤ). both o (premises_column rows m j)) (within_yes (m.divisor *ℤ entry claim j) a.0 ∙ ap Some (sym a.1)) ∙
    ap (both (Some multiple)) (sym es))

-- the number with which the premises begin, and the sum of the others on that
pub premises_told : (rows : List (List ℤ)) (m : Multipliers) (j : ℕ) (first sum : ℤ) → Some first ≡ within_range (first_of j m.constant) →
    Some sum ≡ column_sum first m.factors rows j → Some sum ≡ premises_column rows m j
premises_told rows m j first sum ef es = es ∙ ap (λ (o : Option ℤ). option_and_then (λ (x : ℤ). column_sum x m.factors rows j) o) ef

pub same_bits : (a b : ℤ) → FitsSigned w128 a → FitsSigned w128 b → nat_eq (of_z w128 a) (of_z w128 b) ≡ int_eq a b
same_bits a b fa fb =
    same_from_decides {P = a ≡ b} (nat_eq (of_z w128 a) (of_z w128 b)) (int_eq a b)
    (Decides-like {P = of_z w128 a ≡ of_z w128 b} {Q = a ≡ b} (nat_eq (of_z w128 a) (of_z w128 b))
    (λ e. sym (to_z-of_z w128 a fa) ∙ ap (to_z w128) e ∙ to_z-of_z w128 b fb) (ap (of_z w128))
    (Decides-eqb (of_z w128 a) (of_z w128 b)))
    (Decides-int_eq a b)

-- ---- the answer is right
multiple_value : (claim row : List ℤ) (d : ℤ) → checked_multiple claim d ≡ Ok row → (length row ≡ length claim) × ((j : ℕ) → entry row j ≡ d *ℤ entry claim j)
multiple_value claim row d e = (m.0, λ j. by j (cases_lt j (length claim)))
  where
    m : Matches (λ j. within_range (d *ℤ entry claim j)) (length claim) (Ok row)
    m = subst (λ (r : Result (List ℤ) Excess). Matches (λ j. within_range (d *ℤ entry claim j)) (length claim) r) e (multiple_columns claim d)

    by : (j : ℕ) → (j < length claim) ⊎ (length claim ≤ j) → entry row j ≡ d *ℤ entry claim j
    by j (inl h) = within_is (d *ℤ entry claim j) (entry row j) (m.1 j h)
    by j (inr h) = entry_past row j (omega (arith, m.0, h)) ∙ sym (ap (λ (z : ℤ). d *ℤ z) (entry_past claim j h) ∙ times_zero d)

sum_past : (ls : List ℤ) (gs : List LinearRow) (n j : ℕ) → AreWide n gs → n ≤ j → signed_sum ls (rows_of gs) j ≡ pos 0
sum_past [] gs n j w h = refl
sum_past (l ∷ ls) [] n j w h = refl
sum_past (l ∷ ls) (g ∷ gs) n j w h =
    ap (λ (z : ℤ). (l *ℤ z) +ℤ signed_sum ls (rows_of gs) j) (entry_past g.row j (omega (arith, w.0, h))) ∙ ap (λ (z : ℤ). (l *ℤ pos 0) +ℤ z)
    (sum_past ls gs n j w.1 h) ∙
    ring (v l ⊗ v (pos 0) ⊕ v (pos 0)) (v (pos 0)) (omega arith)

pub first_zero : (j : ℕ) (k : ℤ) → j ≡ 0 → k ≡ first_of j k
first_zero zero k e = refl
first_zero (suc j) k e = absurd (omega (arith, e))

pub first_past : (j : ℕ) (k : ℤ) → 0 < j → first_of j k ≡ pos 0
first_past zero k h = absurd (omega (arith, h))
first_past (suc j) k h = refl

positive_entry : (n : ℕ) (k : ℤ) (j : ℕ) → k *ℤ entry (positivity n) j ≡ first_of j k
positive_entry n k zero = ring (v k ⊗ v (pos 1)) (v k) (omega arith)
positive_entry n k (suc j) = ap (λ (z : ℤ). k *ℤ z) (entry_zeros n j) ∙ times_zero k

sum_value : (premises : List LinearRow) (c : ℤ) (cs sum : List ℤ) (m : Multipliers) → AreWide (length (c ∷ cs)) premises → premises_sum premises (c ∷ cs) m ≡ Ok
    sum →
    (length sum ≡ length (c ∷ cs)) × ((j : ℕ) → entry sum j ≡ first_of j m.constant +ℤ signed_sum m.factors (rows_of premises) j)
sum_value premises c cs sum m w e = (k.0, λ j. by j (cases_lt j (length (c ∷ cs))))
  where
    k : Matches (premises_column (rows_of premises) m) (length (c ∷ cs)) (Ok sum)
    k = subst (λ (r : Result (List ℤ) Excess). Matches (premises_column (rows_of premises) m) (length (c ∷ cs)) r) e (sum_columns premises c cs m w)

    by : (j : ℕ) → (j < length (c ∷ cs)) ⊎ (length (c ∷ cs) ≤ j) → entry sum j ≡ first_of j m.constant +ℤ signed_sum m.factors (rows_of premises) j
    by j (inl h) = premises_column_is (rows_of premises) m j (entry sum j) (k.1 j h)
    by j (inr h) = entry_past sum j (omega (arith, k.0, h)) ∙
        sym (ap (λ (z : ℤ). z +ℤ signed_sum m.factors (rows_of premises) j) (first_past j m.constant (omega (arith, h))) ∙
        ap (λ (z : ℤ). pos 0 +ℤ z) (sum_past m.factors premises (length (c ∷ cs)) j w h))

divisor_tells : (d : ℤ) → Decides (int_le (pos 1) d) (pos 0 <ℤ d)
divisor_tells d = (λ e. grind (arith, ints), λ h. grind (arith, ints))

constant_tells : (k : ℤ) → Decides (int_le (pos 0) k) (pos 0 ≤ℤ k)
constant_tells k = (λ e. grind (arith, ints), λ h. grind (arith, ints))

signed_tells : (b : Bool) (l : ℤ) → Decides (is_signed b l) (IsSigned b l)
signed_tells true l = (λ e. tt, λ h. refl)
signed_tells false l = constant_tells l

false_true : (let b : Bool = false in b) ≡ true → ⊥
false_true e = cc

are_signed_tells : (gs : List LinearRow) (ls : List ℤ) → Decides (are_signed gs ls) (AreSigned gs ls)
are_signed_tells [] [] = (λ e. tt, λ h. refl)
are_signed_tells [] (l ∷ ls) = (λ e. false_true e, λ h. absurd h)
are_signed_tells (g ∷ gs) [] = (λ e. false_true e, λ h. absurd h)
are_signed_tells (g ∷ gs) (l ∷ ls) = Decides-and {P = IsSigned g.equal l} {Q = AreSigned gs ls} (is_signed g.equal l) (are_signed gs ls)
    (signed_tells g.equal l) (are_signed_tells gs ls)

abbrev HasSigns : List LinearRow → Multipliers → Type 0
HasSigns premises m = ((pos 0 <ℤ m.divisor) × (pos 0 ≤ℤ m.constant)) × AreSigned premises m.factors

signs_tell : (premises : List LinearRow) (m : Multipliers) → Decides (may_show premises m) (HasSigns premises m)
signs_tell premises m =
    Decides-and {P = (pos 0 <ℤ m.divisor) × (pos 0 ≤ℤ m.constant)} {Q = AreSigned premises m.factors} (int_le (pos 1) m.divisor && int_le (pos 0) m.constant)
    (are_signed premises m.factors)
    (Decides-and {P = pos 0 <ℤ m.divisor} {Q = pos 0 ≤ℤ m.constant} (int_le (pos 1) m.divisor) (int_le (pos 0) m.constant) (divisor_tells m.divisor)
    (constant_tells m.constant)) (are_signed_tells premises m.factors)

shows_decided : (premises : List LinearRow) (c : ℤ) (cs : List ℤ) (m : Multipliers) (row sum : List ℤ) → AreWide (length (c ∷ cs)) premises → checked_multiple
    (c ∷ cs) m.divisor ≡ Ok row →
    premises_sum premises (c ∷ cs) m ≡ Ok sum → Decides (may_show premises m && pointwise int_eq row sum) (IsFarkasCertificate premises (c ∷ cs) m)
shows_decided premises c cs m row sum w f g =
    Decides-like {P = HasSigns premises m × (row ≡ sum)} {Q = IsFarkasCertificate premises (c ∷ cs) m} (may_show premises m && pointwise int_eq row sum) forth
    back
    (Decides-and {P = HasSigns premises m} {Q = row ≡ sum} (may_show premises m) (pointwise int_eq row sum) (signs_tell premises m) (signed_items row sum))
  where
    left : (length row ≡ length (c ∷ cs)) × ((j : ℕ) → entry row j ≡ m.divisor *ℤ entry (c ∷ cs) j)
    left = multiple_value (c ∷ cs) row m.divisor f

    right : (length sum ≡ length (c ∷ cs)) × ((j : ℕ) → entry sum j ≡ first_of j m.constant +ℤ signed_sum m.factors (rows_of premises) j)
    right = sum_value premises c cs sum m w g

    first : (j : ℕ) → (m.constant *ℤ entry (positivity (length (c ∷ cs))) j) +ℤ signed_sum m.factors (rows_of premises) j ≡
        first_of j m.constant +ℤ signed_sum
        m.factors (rows_of premises) j
    first j = ap (λ (z : ℤ). z +ℤ signed_sum m.factors (rows_of premises) j) (positive_entry (length (c ∷ cs)) m.constant j)

    forth : HasSigns premises m × (row ≡ sum) → IsFarkasCertificate premises (c ∷ cs) m
    forth p = record {
      divisor = p.0.0.0;
      constant = p.0.0.1;
      factors = p.0.1;
      sum = λ j. sym (left.1 j) ∙ ap (λ (r : List ℤ). entry r j) p.1 ∙ right.1 j ∙ sym (first j);
    }

    back : IsFarkasCertificate premises (c ∷ cs) m → HasSigns premises m × (row ≡ sum)
    back s = (((s.divisor, s.constant), s.factors), row_same row sum (left.0 ∙ sym right.0) (λ j. left.1 j ∙ s.sum j ∙ first j ∙ sym (right.1 j)))

pub ok_err : (r : List ℤ) (e : Excess) → (let a : Result (List ℤ) Excess = Ok r in a) ≡ Err e → ⊥
ok_err r e f = cc

not_wide : (premises : List LinearRow) (claim : List ℤ) (m : Multipliers) (row sum : List ℤ) → checked_multiple claim m.divisor ≡ Ok row → premises_sum premises
    claim m ≡ Ok sum →
    IsCheckWide premises claim m → ⊥
not_wide premises claim m row sum f g (inl x) = ok_err row x.0 (sym f ∙ x.1)
not_wide premises claim m row sum f g (inr x) = ok_err sum x.0 (sym g ∙ x.1)

answer_by : (premises : List LinearRow) (claim : List ℤ) (m : Multipliers) (t : Bool) → (IsCheckWide premises claim m → ⊥) →
    Decides t (IsFarkasCertificate premises claim m) →
    IsAnswer premises claim m (shown_if t)
answer_by premises claim m true n d = (n, d.0 refl)
answer_by premises claim m false n d = (n, λ s. false_true (d.1 s))

exact_by : (premises : List LinearRow) (claim : List ℤ) (m : Multipliers) (a b : Result (List ℤ) Excess) → checked_multiple claim m.divisor ≡ a → premises_sum
    premises claim m ≡ b →
    ((row sum : List ℤ) → checked_multiple claim m.divisor ≡ Ok row → premises_sum premises claim m ≡ Ok sum →
    Decides (may_show premises m && pointwise int_eq row sum) (IsFarkasCertificate premises claim m)) →
    IsAnswer premises claim m (compared a b (may_show premises m))
exact_by premises claim m (Err e) b f g d = inl (e, f)
exact_by premises claim m (Ok row) (Err e) f g d = inr (e, g)
exact_by premises claim m (Ok row) (Ok sum) f g d =
    answer_by premises claim m (may_show premises m && pointwise int_eq row sum) (not_wide premises claim m row sum f g) (d row sum f g)

pub checked_exact : (premises : List LinearRow) (claim : List ℤ) (m : Multipliers) → 0 < length claim → AreWide (length claim) premises →
    IsAnswer premises claim m
    (checked premises claim m)
checked_exact premises [] m h w = absurd (omega (arith, h))
checked_exact premises (c ∷ cs) m h w =
    exact_by premises (c ∷ cs) m (checked_multiple (c ∷ cs) m.divisor) (premises_sum premises (c ∷ cs) m) refl refl
    (λ row sum f g. shows_decided premises c cs m row sum w f g)

-- ---- as the code states it
pub checked_told : (premises : List LinearRow) (claim : List ℤ) (m : Multipliers) (t : Option Bool) → 0 < length claim → AreWide (length claim) premises →
    ColumnsTell (column_agrees (rows_of premises) claim m) (length claim) t → checked premises claim m ≡ answer_told (may_show premises m) t
checked_told premises [] m t h w a = absurd (omega (arith, h))
checked_told premises (c ∷ cs) m None h w a =
    told_wide (λ j. within_range (m.divisor *ℤ entry (c ∷ cs) j)) (premises_column (rows_of premises) m) (length (c ∷ cs))
    (may_show premises m)
    (checked_multiple (c ∷ cs) m.divisor) (premises_sum premises (c ∷ cs) m) a.0 (multiple_columns (c ∷ cs) m.divisor) (sum_columns premises c cs m w) a.1 a.2
checked_told premises (c ∷ cs) m (Some t) h w a =
    told (λ j. within_range (m.divisor *ℤ entry (c ∷ cs) j)) (premises_column (rows_of premises) m) (length (c ∷ cs))
    (may_show premises m)
    (checked_multiple (c ∷ cs) m.divisor) (premises_sum premises (c ∷ cs) m) t (multiple_columns (c ∷ cs) m.divisor) (sum_columns premises c cs m w) a
