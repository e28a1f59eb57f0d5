-- Rows over symbols as they are made, coefficient by coefficient.
use Rattle.std.proofs.Common.{◌≡◌, ◌⊎◌, ◌<◌, ◌≤◌, ◌+◌, ◌-◌, ℕ, zero, suc, ℤ, pos, ◌+ℤ◌, ◌*ℤ◌, Bool, cond, List, [], ◌∷◌, ◌++◌, length, drop, get_or, refl, ap, sym, ◌∙◌, subst, arith, inl, inr}
use Rattle.std.proofs.Common.{drop-cons, add-one, append_assoc, Result, Ok, Err}
use Rattle.std.proofs.{lemmas.List.drop_all, lemmas.List.Elements.All-head, lemmas.List.Elements.All-tail, lemmas.List.Elements.All-cons}
use Rattle.std.specs.{List.All, Prelude.slice_set}
use Rattle.lra_certificate_lines.specs.Crates.lra_linear_spec.CheckedArithmetic.{checked_added_entry, checked_added, then_rest, and_then}
use Rattle.lra_certificate_lines.specs.Crates.{lra_linear_spec.Range.InRange, lra_linear_spec.Range.in_range, lra_linear_spec.Vectors.entry, lra_linear_spec.Vectors.zeros}
use Rattle.lra_certificate_lines.specs.Crates.{lra_linear_spec.declared.Excess.Excess, lra_linear_spec.declared.Operation.TheVariants.Product, lra_linear_spec.declared.Operation.TheVariants.Sum}
use Rattle.lra_certificate_lines.proofs.Crates.{lra_linear_spec.CheckedArithmetic.in_range_yes, lra_linear_spec.Ring.ring, lra_linear_spec.Ring.v, lra_linear_spec.Ring.◌⊕◌, lra_linear_spec.Ring.◌⊗◌}
use Rattle.lra_row.specs.{Rows.IsExcessOf, declared.error.RowError.RowError}
use Rattle.lra_row.specs.declared.error.RowError.TheVariants as of_row
use Rattle.lra_row.proofs.RowLemmas.{entry_at}
use Rattle.lra_multipliers.specs.Symbols.{composed_from, composed, symbol, symbols}

-- ---- a factor 0 leaves the sum
abbrev by_sum : ℤ → ℤ → Bool → Result ℤ Excess
by_sum u p b = cond b (Ok (u +ℤ p)) (Err (record { op = Sum; left = u; right = p }))

abbrev by_product : ℤ → ℤ → Bool → Result ℤ Excess
by_product u w b = cond b (by_sum u (pos 0 *ℤ w) (in_range (u +ℤ (pos 0 *ℤ w)))) (Err (record { op = Product; left = pos 0; right = w }))

zero_entry : (u w : ℤ) → InRange u → checked_added_entry (pos 0) u w ≡ Ok u
zero_entry u w h =
    ap (by_product u w) (in_range_yes (pos 0 *ℤ w) (subst (λ (z : ℤ). InRange z) (sym nothing) (omega arith))) ∙
    ap (by_sum u (pos 0 *ℤ w)) (in_range_yes (u +ℤ (pos 0 *ℤ w)) (subst (λ (z : ℤ). InRange z) (sym same) h)) ∙ ap Ok same
  where
    nothing : pos 0 *ℤ w ≡ pos 0
    nothing = ring (v (pos 0) ⊗ v w) (v (pos 0)) (omega arith)

    same : u +ℤ (pos 0 *ℤ w) ≡ u
    same = ring (v u ⊕ v (pos 0) ⊗ v w) (v u) (omega arith)

pub added_nothing : (us ws : List ℤ) → All InRange us → length us ≡ length ws → checked_added (pos 0) us ws ≡ Ok us
added_nothing [] ws h e = refl
added_nothing (u ∷ us) [] h e = absurd (omega (arith, e))
added_nothing (u ∷ us) (w ∷ ws) h e =
    ap (λ (r : Result ℤ Excess). then_rest r (checked_added (pos 0) us ws)) (zero_entry u w (All-head InRange u us h)) ∙
    ap (then_rest (Ok u)) (added_nothing us ws (All-tail InRange u us h) (omega (arith, e)))

-- ---- the first sum
pub zeros_in : (n : ℕ) → All InRange (zeros n)
zeros_in zero = λ k d h. absurd (omega (arith, h))
zeros_in (suc n) = All-cons InRange (pos 0) (zeros n) (omega arith) (zeros_in n)

pub first_in : (n : ℕ) (k : ℤ) → InRange k → All InRange (slice_set (zeros (suc n)) 0 k)
first_in n k h = All-cons InRange k (zeros n) h (zeros_in n)

length_zeros : (n : ℕ) → length (zeros n) ≡ n
length_zeros zero = refl
length_zeros (suc n) = ap suc (length_zeros n)

module _ (width : ℕ) (row : List ℤ) (forms : List (List ℤ)) where
  -- as far as this place
  abbrev pub IsSoFar : ℕ → List ℤ → Type 0
  IsSoFar place sum = composed_from sum (drop place (drop 1 row)) (drop place forms) ≡ composed width row forms

  pub begun : (sum : List ℤ) (k : ℤ) → 0 < width → 0 < length row → k ≡ entry row 0 → sum ≡ slice_set (zeros (suc (width - 1))) 0 k → IsSoFar 0 sum ×
      (length sum ≡ width)
  begun sum k w h e is = (
    by row h e refl,
    ap (λ (x : List ℤ). length x) is ∙ ap suc (length_zeros (width - 1)) ∙ (let n : suc (width - 1) ≡
        width = omega (arith, w) in n),
  )
    where
      by : (r : List ℤ) → 0 < length r → k ≡ entry r 0 → r ≡ row → IsSoFar 0 sum
      by [] h e same = absurd (omega (arith, h))
      by (c ∷ cs) h e same =
          ap (λ (r : List ℤ). composed_from sum (drop 0 (drop 1 r)) forms) (sym same) ∙
          ap (λ (x : List ℤ). composed_from x cs forms)
          (is ∙ ap (λ (n : ℕ). slice_set (zeros n) 0 k) (let n : suc (width - 1) ≡ width = omega (arith, w) in n) ∙
          ap (λ (z : ℤ). slice_set (zeros width) 0 z) e) ∙
          ap (λ (r : List ℤ). composed width r forms) same

  module _ (place : ℕ) (sum : List ℤ) (so_far : IsSoFar place sum) where
    tail_entry : (r : List ℤ) (i : ℕ) → entry (drop 1 r) i ≡ entry r (suc i)
    tail_entry [] i = refl
    tail_entry (c ∷ cs) i = refl

    tail_length : (r : List ℤ) → 0 < length r → suc (length (drop 1 r)) ≡ length r
    tail_length [] h = absurd (omega (arith, h))
    tail_length (c ∷ cs) h = refl

    module _ (c : ℤ) (form : List ℤ) (more : place < length forms) (inside : place + 1 < length row) (is_c : c ≡ entry row (place + 1)) (is_form : form ≡
        get_or forms place form) where
      shape : composed_from sum (drop place (drop 1 row)) (drop place forms) ≡
          and_then (checked_added c sum form) (λ next. composed_from next (drop (place + 1) (drop 1 row)) (drop (place + 1) forms))
      shape =
          ap (λ (cs : List ℤ). composed_from sum cs (drop place forms))
          (drop-cons (drop 1 row) place (pos 0) (let l = tail_length row (omega (arith, inside)) in omega (arith, l, inside)) ∙
          (λ i. (sym (entry_at (drop 1 row) place) ∙ tail_entry row place ∙ ap (entry row) (sym (add-one place)) ∙
          sym is_c) i ∷ drop (sym (add-one place) i) (drop 1 row))) ∙
          ap (λ (fs : List (List ℤ)). composed_from sum (c ∷ drop (place + 1) (drop 1 row)) fs)
          (drop-cons forms place form more ∙ (λ i. sym is_form i ∷ drop (sym (add-one place) i) forms))

      pub goes_on : (next : List ℤ) → checked_added c sum form ≡ Ok next → IsSoFar (place + 1) next
      goes_on next e =
          ap (λ (r : Result (List ℤ) Excess). and_then r (λ x. composed_from x (drop (place + 1) (drop 1 row)) (drop (place + 1) forms))) (sym e) ∙
          sym shape ∙ so_far

      pub passes_on : (e : RowError) → IsExcessOf (checked_added c sum form) e → IsExcessOf (composed width row forms) e
      passes_on (of_row.Excess x) h =
          sym so_far ∙ shape ∙ ap (λ (r : Result (List ℤ) Excess). and_then r (λ x. composed_from x (drop (place + 1) (drop 1 row)) (drop (place + 1)
          forms))) h
      passes_on of_row.Memory h = tt

    pub ends : (length forms ≤ place) ⊎ (length row ≤ place + 1) → composed width row forms ≡ Ok sum
    ends (inl h) = sym so_far ∙ ap (composed_from sum (drop place (drop 1 row))) (drop_all place forms h) ∙ none (drop place (drop 1 row))
      where
        none : (cs : List ℤ) → composed_from sum cs [] ≡ Ok sum
        none [] = refl
        none (c ∷ cs) = refl
    ends (inr h) =
        sym so_far ∙ ap (λ (cs : List ℤ). composed_from sum cs (drop place forms)) (drop_all place (drop 1 row) (short row h))
      where
        short : (r : List ℤ) → length r ≤ place + 1 → length (drop 1 r) ≤ place
        short [] h = omega arith
        short (c ∷ cs) h = omega (arith, h)

-- ---- symbols that come last
symbols_push : (width first n : ℕ) → symbols width first (suc n) ≡ symbols width first n ++ symbol width (first + n) ∷ []
symbols_push width first zero = ap (λ (k : ℕ). symbol width k ∷ []) (let e : first ≡ first + 0 = omega arith in e)
symbols_push width first (suc n) =
    ap (λ (x : List (List ℤ)). symbol width first ∷ x) (symbols_push width (first + 1) n) ∙
    ap (λ (k : ℕ). symbol width first ∷ (symbols width (first + 1) n ++ symbol width k ∷ [])) (let e : first + 1 + n ≡ first + suc n = omega arith in e)

pub symbols_pushed : (start old new : List (List ℤ)) (row : List ℤ) (width first column : ℕ) → first ≤ column → 0 < width → old ≡
    start ++ symbols width first (column - first) →
    new ≡ old ++ row ∷ [] → row ≡ slice_set (zeros (suc (width - 1))) column (pos 1) → new ≡ start ++ symbols width first (column + 1 - first)
symbols_pushed start old new row width first column h w o p r =
    p ∙ (λ i. o i ++ is i ∷ []) ∙ append_assoc start (symbols width first (column - first)) (symbol width column ∷ []) ∙
    ap (λ (x : List (List ℤ)). start ++ x) more
  where
    is : row ≡ symbol width column
    is = r ∙ ap (λ (n : ℕ). slice_set (zeros n) column (pos 1)) (let e : suc (width - 1) ≡ width = omega (arith, w) in e)

    more : symbols width first (column - first) ++ symbol width column ∷ [] ≡ symbols width first (column + 1 - first)
    more =
        ap (λ (k : ℕ). symbols width first (column - first) ++ symbol width k ∷ []) (let e : column ≡ first + (column - first) = omega (arith, h) in e) ∙
        sym (symbols_push width first (column - first)) ∙
        ap (symbols width first) (let e : suc (column - first) ≡ column + 1 - first = omega (arith, h) in e)
