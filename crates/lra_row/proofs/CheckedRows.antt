-- Products of rows and sums of two multiples, one column at a time.
use Rattle.std.proofs.Common.{◌≡◌, ◌+◌, ◌-◌, List, [], ◌∷◌, ◌++◌, length, get_or, take, drop, ap, sym, ◌∙◌, refl, subst, arith, pos, ℤ, ◌+ℤ◌, ◌*ℤ◌, Result, Ok, Err, MatchResult, ◌⊎◌, inl, inr}
use Rattle.std.proofs.{Common.append_assoc, Common.append-nil, Math.IntN.+ℤ_idl, lemmas.List.take_all}
use Rattle.lra_linear_spec.specs.CheckedArithmetic.{checked_product_from, checked_product, checked_entry, checked_blend, then_rest}
use Rattle.lra_linear_spec.specs.{Range.InRange, declared.Excess.Excess, declared.Operation.TheVariants.Product, declared.Operation.TheVariants.Sum}
use Rattle.lra_linear_spec.proofs.CheckedArithmetic.{in_range_yes, in_range_no}

-- ---- products
pub product_passes : (s x y : ℤ) (xs ys xs' ys' : List ℤ) (e : Excess) → xs ≡ x ∷ xs' → ys ≡ y ∷ ys' → (¬ (InRange (x *ℤ y))) × (e ≡ record { op = Product; left = x; right = y }) →
    Err e ≡ checked_product_from s xs ys
product_passes s x y xs ys xs' ys' e h k p = rw (h, k, in_range_no (x *ℤ y) p.0) (ap Err p.1)

pub sum_passes : (s x y z : ℤ) (xs ys xs' ys' : List ℤ) (e : Excess) → xs ≡ x ∷ xs' → ys ≡ y ∷ ys' → InRange (x *ℤ y) × (z ≡ x *ℤ y) → (¬ (InRange (s +ℤ z))) ×
    (e ≡ record { op = Sum; left = s; right = z }) → Err e ≡ checked_product_from s xs ys
sum_passes s x y z xs ys xs' ys' e h k p q =
    rw (h, k, in_range_yes (x *ℤ y) p.0, in_range_no (s +ℤ (x *ℤ y)) (subst (λ (n : ℤ). ¬ (InRange (s +ℤ n))) p.1 q.0))
    (ap Err q.1 ∙ ap (λ (n : ℤ). Err (record { op = Sum; left = s; right = n })) p.1)

pub column_taken : (s x y z n : ℤ) (xs ys xs' ys' : List ℤ) → xs ≡ x ∷ xs' → ys ≡ y ∷ ys' → InRange (x *ℤ y) × (z ≡ x *ℤ y) → InRange (s +ℤ z) × (n ≡ s +ℤ z) →
    checked_product_from n xs' ys' ≡ checked_product_from s xs ys
column_taken s x y z n xs ys xs' ys' h k p q =
    rw (h, k, in_range_yes (x *ℤ y) p.0, in_range_yes (s +ℤ (x *ℤ y)) (subst (λ (n : ℤ). InRange (s +ℤ n)) p.1 q.0))
    (ap (λ (m : ℤ). checked_product_from m xs' ys') (q.1 ∙ ap (λ (m : ℤ). s +ℤ m) p.1))

pub column_summed : (s x y z : ℤ) (r : Result ℤ Excess) → InRange (x *ℤ y) × (z ≡ x *ℤ y) →
    MatchResult r (λ n. InRange (s +ℤ z) × (n ≡ s +ℤ z)) (λ e. (¬ (InRange (s +ℤ z))) × (e ≡ record { op = Sum; left = s; right = z })) → r ≡ checked_product_from s (x ∷ []) (y ∷ [])
column_summed s x y z (Ok n) p q = column_taken s x y z n (x ∷ []) (y ∷ []) [] [] refl refl p q
column_summed s x y z (Err e) p q = sum_passes s x y z (x ∷ []) (y ∷ []) [] [] e refl refl p q

-- the first column, and then the others
pub product_split : (xs ys : List ℤ) (y p : ℤ) (r : Result ℤ Excess) → length xs ≡ length ys + 1 → InRange (get_or xs 0 (pos 0) *ℤ y) → p ≡ get_or xs 0 (pos 0) *ℤ y →
    r ≡ checked_product_from p (take (length xs - 1) (drop 1 xs)) ys → r ≡ checked_product xs (y ∷ ys)
product_split [] ys y p r n h e c = absurd (omega (arith, n))
product_split (x ∷ xs) ys y p r n h e c =
    c ∙ ap (λ (t : List ℤ). checked_product_from p t ys) (take_all (length (x ∷ xs) - 1) xs (omega arith)) ∙
    column_taken (pos 0) x y p p (x ∷ xs) (y ∷ ys) xs ys refl refl (h, e) (subst InRange (sym e ∙ sym (+ℤ_idl p)) h, sym (+ℤ_idl p))

pub first_passes : (xs ys : List ℤ) (y : ℤ) (e : Excess) → length xs ≡ length ys + 1 → (¬ (InRange (get_or xs 0 (pos 0) *ℤ y))) ×
    (e ≡ record { op = Product; left = get_or xs 0 (pos 0); right = y }) → Err e ≡ checked_product xs (y ∷ ys)
first_passes [] ys y e n p = absurd (omega (arith, n))
first_passes (x ∷ xs) ys y e n p = product_passes (pos 0) x y (x ∷ xs) (y ∷ ys) xs ys e refl refl p

pub columns_end : (s : ℤ) (xs ys : List ℤ) → (xs ≡ []) ⊎ (ys ≡ []) → Ok s ≡ checked_product_from s xs ys
columns_end s xs ys (inl e) = rw e refl
columns_end s [] ys (inr e) = refl
columns_end s (x ∷ xs) ys (inr e) = rw e refl

-- ---- the sum of two multiples, in one column
abbrev Number : Type 0
Number = Result ℤ Excess

pub second_passes : (a b u w x : ℤ) (e : Excess) → InRange (a *ℤ u) × (x ≡ a *ℤ u) → (¬ (InRange (b *ℤ w))) × (e ≡ record { op = Product; left = b; right = w }) → Err e ≡ checked_entry a b u w
second_passes a b u w x e p q = rw (in_range_yes (a *ℤ u) p.0, in_range_no (b *ℤ w) q.0) (ap Err q.1)

pub entry_summed : (a b u w x y : ℤ) (r : Number) → InRange (a *ℤ u) × (x ≡ a *ℤ u) → InRange (b *ℤ w) × (y ≡ b *ℤ w) →
    MatchResult r (λ z. InRange (x +ℤ y) × (z ≡ x +ℤ y)) (λ e. (¬ (InRange (x +ℤ y))) × (e ≡ record { op = Sum; left = x; right = y })) → r ≡ checked_entry a b u w
entry_summed a b u w x y (Ok z) p q h =
    let e : x +ℤ y ≡ (a *ℤ u) +ℤ (b *ℤ w) = ap (λ n. n +ℤ y) p.1 ∙ ap (λ n. (a *ℤ u) +ℤ n) q.1 in
    rw (in_range_yes (a *ℤ u) p.0, in_range_yes (b *ℤ w) q.0, in_range_yes ((a *ℤ u) +ℤ (b *ℤ w)) (subst InRange e h.0)) (ap Ok (h.1 ∙ e))
entry_summed a b u w x y (Err f) p q h =
    let e : x +ℤ y ≡ (a *ℤ u) +ℤ (b *ℤ w) = ap (λ n. n +ℤ y) p.1 ∙ ap (λ n. (a *ℤ u) +ℤ n) q.1 in
    rw (in_range_yes (a *ℤ u) p.0, in_range_yes (b *ℤ w) q.0, in_range_no ((a *ℤ u) +ℤ (b *ℤ w)) (subst (λ (n : ℤ). ¬ (InRange n)) e h.0))
    (ap Err h.1 ∙ ap (λ (n : ℤ). Err (record { op = Sum; left = n; right = y })) p.1 ∙ ap (λ (n : ℤ). Err (record { op = Sum; left = a *ℤ u; right = n })) q.1)

-- ---- the sum of two multiples: a row that is made, with the entries so far in front
abbrev pub prepend : List ℤ → Result (List ℤ) Excess → Result (List ℤ) Excess
prepend xs (Ok ys) = Ok (xs ++ ys)
prepend xs (Err e) = Err e

prepend_more : (xs : List ℤ) (x : ℤ) (r : Result (List ℤ) Excess) → prepend (xs ++ x ∷ []) r ≡ prepend xs (then_rest (Ok x) r)
prepend_more xs x (Ok ys) = ap Ok (append_assoc xs (x ∷ []) ys)
prepend_more xs x (Err e) = refl

pub blend_passes : (a b u w : ℤ) (us vs us' vs' out : List ℤ) (e : Excess) → us ≡ u ∷ us' → vs ≡ w ∷ vs' → Err e ≡ checked_entry a b u w → prepend out (checked_blend a b us vs) ≡ Err e
blend_passes a b u w us vs us' vs' out e h k p = rw (h, k, ← p) refl

pub blend_taken : (a b u w z : ℤ) (us vs us' vs' out new : List ℤ) → us ≡ u ∷ us' → vs ≡ w ∷ vs' → Ok z ≡ checked_entry a b u w → new ≡ out ++ z ∷ [] →
    prepend new (checked_blend a b us' vs') ≡ prepend out (checked_blend a b us vs)
blend_taken a b u w z us vs us' vs' out new h k p n = rw (h, k, ← p, n) (prepend_more out z (checked_blend a b us' vs'))

pub blend_end : (a b : ℤ) (us vs out : List ℤ) → (us ≡ []) ⊎ (vs ≡ []) → prepend out (checked_blend a b us vs) ≡ Ok out
blend_end a b us vs out (inl e) = rw e (ap Ok (append-nil out))
blend_end a b [] vs out (inr e) = ap Ok (append-nil out)
blend_end a b (u ∷ us) vs out (inr e) = rw e (ap Ok (append-nil out))
