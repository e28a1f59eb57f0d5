-- Chains of reduction, a line of the form at a time.
use Rattle.std.proofs.Common.{◌≡◌, ◌≢◌, ℕ, zero, suc, ◌+◌, ◌*◌, ◌<◌, ◌≤◌, List, [], ◌∷◌, ◌++◌, length, get_or, refl, ap, sym, ◌∙◌, subst, pos, ℤ, ◌+ℤ◌, ◌*ℤ◌, neg_ℤ, ◌<ℤ◌, arith, inl, inr, Ok}
use Rattle.std.proofs.{Common.length-append, Common.FitsSigned, Common.of_z, Common.to_z, Common.take, Common.drop, lemmas.Bool.cases_lt, lemmas.Int.ints, lemmas.Int.to_z-of_z, lemmas.List.take_more}
use Rattle.std.proofs.{lemmas.List.take_all, lemmas.List.Elements.Contains-append_left, lemmas.List.Elements.Contains-append_right}
use Rattle.std.specs.{Int.w128, List.All, List.Contains}
use Rattle.lra_canonical.specs.Crates.lra_linear_spec.declared.Excess as E
use Rattle.lra_canonical.specs.Crates.lra_linear_spec.Reduction.{ClearingStep, ReducesAlong, ReductionPasses}
use Rattle.lra_canonical.specs.Crates.{lra_linear_spec.CheckedArithmetic.checked_blend, lra_linear_spec.Echelon.pivot, lra_linear_spec.LowestTerms.IsLowest, lra_linear_spec.Vectors.entry}
use Rattle.lra_canonical.proofs.Crates.lra_linear_spec.Ring.{ring, v, ⊖, ◌⊕◌, ◌⊗◌}
use Rattle.lra_canonical.proofs.Crates.lra_linear_spec.Signs.{as_nat, no_product, positive_is_nonnegative, positive_nat}
use Rattle.lra_canonical.proofs.Crates.lra_linear_spec.Spans.{spanned_linear, spanned_row, spanned_zero}
use Rattle.lra_canonical.proofs.Crates.{lra_linear_spec.CheckedArithmetic.checked_blend_is, lra_linear_spec.Membership.contains_head, lra_linear_spec.Membership.contains_tail}
use Rattle.lra_canonical.proofs.Crates.{lra_linear_spec.Pivots.echelon_positive, lra_linear_spec.Pivots.echelon_apart_at, lra_linear_spec.Products.entry_blend, lra_linear_spec.Products.blend_length}
use Rattle.lra_row.specs.{Rows.IsExcessOf, declared.error.RowError.RowError, declared.error.RowError.TheVariants.Excess, declared.error.RowError.TheVariants.Memory}
use Rattle.lra_canonical.specs.Reduced.{IsEchelonForm, IsAlong, IsReducedBy, IsCleared, IsClearingExcess, Clears, FirstPassing, IsChainEnd, IsFirstExcess, IsReductionExcess}

-- ---- one step
pub step_entry : (line r next : List ℤ) → length r ≡ length line → (s : ClearingStep line r next) → (j : ℕ) →
    pos s.lowest.times *ℤ entry next j ≡ (entry line (pivot line) *ℤ entry r j) +ℤ (neg_ℤ (entry r (pivot line)) *ℤ entry line j)
step_entry line r next e s j =
    s.lowest.is_multiple j ∙ ap (λ (x : List ℤ). entry x j) (checked_blend_is (entry line (pivot line)) (neg_ℤ (entry r (pivot line))) r line s.sum s.made) ∙
    entry_blend (entry line (pivot line)) (neg_ℤ (entry r (pivot line))) r line e j

pub step_length : (line r next : List ℤ) → length r ≡ length line → ClearingStep line r next → length next ≡ length r
step_length line r next e s =
    s.lowest.same_length ∙ ap length (checked_blend_is (entry line (pivot line)) (neg_ℤ (entry r (pivot line))) r line s.sum s.made) ∙
    blend_length (entry line (pivot line)) (neg_ℤ (entry r (pivot line))) r line e

-- 0 at the pivot
pub step_zero : (line r next : List ℤ) → length r ≡ length line → ClearingStep line r next → entry next (pivot line) ≡ pos 0
step_zero line r next e s =
    let a = entry line (pivot line) in
    let x = entry r (pivot line) in
    no_product s.lowest.times (entry next (pivot line)) s.lowest.positive (step_entry line r next e s (pivot line) ∙ ring (v a ⊗ v x ⊕ ⊖ (v x) ⊗ v a) (v (pos 0)) (omega arith))

-- if both are 0, the next row is
step_keeps : (line r next : List ℤ) → length r ≡ length line → ClearingStep line r next → (q : ℕ) → entry r q ≡ pos 0 → entry line q ≡ pos 0 → entry next q ≡ pos 0
step_keeps line r next e s q h k =
    let a = entry line (pivot line) in
    let x = entry r (pivot line) in
    no_product s.lowest.times (entry next q) s.lowest.positive
    (step_entry line r next e s q ∙ ap (λ z. (a *ℤ z) +ℤ (neg_ℤ x *ℤ entry line q)) h ∙ ap (λ z. (a *ℤ pos 0) +ℤ (neg_ℤ x *ℤ z)) k ∙
    ring (v a ⊗ v (pos 0) ⊕ ⊖ (v x) ⊗ v (pos 0)) (v (pos 0)) (omega arith))

clears_more : (form : List (List ℤ)) (line start now next : List ℤ) → Clears form start now → IsCleared line now next → Clears (form ++ line ∷ []) start next
clears_more [] line start now next f c = (next, subst (λ (x : List ℤ). IsCleared line x next) f c, refl)
clears_more (x ∷ form) line start now next f c = (f.0, f.1, clears_more form line f.0 now next f.2 c)

-- ---- along the form
along_same : (form : List (List ℤ)) (r t : List ℤ) → t ≡ r → IsAlong form r t
along_same form r t e = record {
  times = 1;
  positive = omega arith;
  other = 1;
  other_positive = omega arith;
  line = λ j. pos 0;
  on_line = spanned_zero form;
  is_sum = λ j. ap (λ (x : List ℤ). pos 1 *ℤ entry x j) e ∙ ring (v (pos 1) ⊗ v (entry r j)) (v (pos 1) ⊗ v (entry r j) ⊕ v (pos 0)) (omega arith);
}

-- a step by a row of the form
along_step : (form : List (List ℤ)) (r line now next : List ℤ) → Contains form line → pos 0 <ℤ entry line (pivot line) → length now ≡ length line → ClearingStep line now next → IsAlong form r now →
    IsAlong form r next
along_step form r line now next has here e s a =
    let p = as_nat (entry line (pivot line)) (positive_is_nonnegative (entry line (pivot line)) here) in
    let x = entry now (pivot line) in
    record {
      times = a.times * s.lowest.times;
      positive = let x = a.positive in let y = s.lowest.positive in grind (arith, x, y);
      other = p.0 * a.other;
      other_positive = let q = positive_nat (entry line (pivot line)) p.0 here p.1 in (let o = a.other_positive in grind (arith, q, o));
      line = λ j. (pos p.0 *ℤ a.line j) +ℤ ((pos a.times *ℤ neg_ℤ x) *ℤ entry line j);
      on_line = spanned_linear form (pos p.0) (pos a.times *ℤ neg_ℤ x) a.line (entry line) a.on_line (spanned_row form line has);
      is_sum = λ j.
          ring (v (pos (a.times * s.lowest.times)) ⊗ v (entry next j)) (v (pos a.times) ⊗ (v (pos s.lowest.times) ⊗ v (entry next j))) (omega arith) ∙
          ap (λ z. pos a.times *ℤ z) (step_entry line now next e s j) ∙
          ap (λ z. pos a.times *ℤ ((z *ℤ entry now j) +ℤ (neg_ℤ x *ℤ entry line j))) p.1 ∙
          ring (v (pos a.times) ⊗ (v (pos p.0) ⊗ v (entry now j) ⊕ ⊖ (v x) ⊗ v (entry line j))) (v (pos p.0) ⊗ (v (pos a.times) ⊗ v (entry now j)) ⊕ (v (pos a.times) ⊗ ⊖ (v x)) ⊗ v (entry line j))
          (omega arith) ∙
          ap (λ z. (pos p.0 *ℤ z) +ℤ ((pos a.times *ℤ neg_ℤ x) *ℤ entry line j)) (a.is_sum j) ∙
          ring (v (pos p.0) ⊗ (v (pos a.other) ⊗ v (entry r j) ⊕ v (a.line j)) ⊕ (v (pos a.times) ⊗ ⊖ (v x)) ⊗ v (entry line j))
          (v (pos (p.0 * a.other)) ⊗ v (entry r j) ⊕ (v (pos p.0) ⊗ v (a.line j) ⊕ (v (pos a.times) ⊗ ⊖ (v x)) ⊗ v (entry line j))) (omega arith);
    }

-- lowest terms
along_lowest : (form : List (List ℤ)) (r now next : List ℤ) → IsLowest now next → IsAlong form r now → IsAlong form r next
along_lowest form r now next l a = record {
  times = a.times * l.times;
  positive = let p = a.positive in let q = l.positive in grind (arith, p, q);
  other = a.other;
  other_positive = a.other_positive;
  line = a.line;
  on_line = a.on_line;
  is_sum = λ j. ring (v (pos (a.times * l.times)) ⊗ v (entry next j)) (v (pos a.times) ⊗ (v (pos l.times) ⊗ v (entry next j))) (omega arith) ∙ ap (λ z. pos a.times *ℤ z) (l.is_multiple j) ∙
      a.is_sum j;
}

-- ---- the loop
-- cleared of the first i rows of the form
pub record IsPartly (form : List (List ℤ)) (i : ℕ) (start now : List ℤ) : Type 0 where
  pub clears : Clears (take i form) start now
  pub same_length : length now ≡ length start
  pub along : IsAlong form start now
  pub zeros : (k : ℕ) → k < i → entry now (pivot (get_or form k [])) ≡ pos 0

pub partly_start : (form : List (List ℤ)) (start now : List ℤ) → now ≡ start → IsPartly form 0 start now
partly_start form start now e = record { clears = e; same_length = ap length e; along = along_same form start now e; zeros = λ k h. absurd (omega arith) }

get_same : (form : List (List ℤ)) (i : ℕ) (line : List ℤ) → i < length form → get_or form i line ≡ get_or form i []
get_same [] i line h = absurd (omega (arith, h))
get_same (x ∷ form) zero line h = refl
get_same (x ∷ form) (suc i) line h = get_same form i line (omega (arith, h))

at_last : (form : List (List ℤ)) (i k : ℕ) (line next : List ℤ) → line ≡ get_or form i line → i < length form → k ≡ i → entry next (pivot line) ≡ pos 0 → entry next (pivot (get_or form k [])) ≡ pos 0
at_last form i k line next g h e z = ap (λ (x : List ℤ). entry next (pivot x)) (ap (λ n. get_or form n []) e ∙ sym (g ∙ get_same form i line h)) ∙ z

-- the first rows with one more
one_more : (form : List (List ℤ)) (i : ℕ) (line start now next : List ℤ) → i < length form → line ≡ get_or form i line → Clears (take i form) start now → IsCleared line now next →
    Clears (take (i + 1) form) start next
one_more form i line start now next h g f c =
    subst (λ (rows : List (List ℤ)). Clears rows start next) (ap (λ (x : List ℤ). take i form ++ x ∷ []) g ∙ sym (take_more form i line h)) (clears_more (take i form) line start now next f c)

pub partly_more : (form : List (List ℤ)) (i : ℕ) (start now line next : List ℤ) → IsEchelonForm form → i < length form → line ≡ get_or form i line → length line ≡ length start →
    IsPartly form i start now →
    IsCleared line now next → IsPartly form (i + 1) start next
partly_more form i start now line next f h g w p (inl e) =
    record {
      clears = one_more form i line start now next h g p.clears (inl e);
      same_length = ap length e.1 ∙ p.same_length;
      along = subst (λ (x : List ℤ). IsAlong form start x) (sym e.1) p.along;
      zeros = λ k l. elim (cases_lt k i) [
        | inl a ↦ ap (λ (x : List ℤ). entry x (pivot (get_or form k []))) e.1 ∙ p.zeros k a
        | inr a ↦ at_last form i k line next g h (omega arith) (ap (λ (x : List ℤ). entry x (pivot line)) e.1 ∙ e.0)
      ];
    }
partly_more form i start now line next f h g w p (inr s) =
    let has : Contains form line = (i, h, sym g) in
    record {
      clears = one_more form i line start now next h g p.clears (inr s);
      same_length = step_length line now next (p.same_length ∙ sym w) s ∙ p.same_length;
      along = along_step form start line now next has (echelon_positive form f.0 f.1 line has) (p.same_length ∙ sym w) s p.along;
      zeros = λ k l. elim (cases_lt k i) [
        | inl a ↦
            let apart : i ≢ k = omega arith in
            step_keeps line now next (p.same_length ∙ sym w) s (pivot (get_or form k [])) (p.zeros k a)
            (ap (λ (x : List ℤ). entry x (pivot (get_or form k []))) (g ∙ get_same form i line h) ∙ echelon_apart_at form f.0 f.1 i k h (omega arith) apart)
        | inr a ↦ at_last form i k line next g h (omega arith) (step_zero line now next (p.same_length ∙ sym w) s)
      ];
    }

-- the form round a row
pub split_at : (form : List (List ℤ)) (i : ℕ) (line : List ℤ) → i < length form → line ≡ get_or form i line → form ≡ take i form ++ line ∷ drop (i + 1) form
split_at [] i line h g = absurd (omega (arith, h))
split_at (x ∷ form) zero line h g = ap (λ (y : List ℤ). y ∷ form) (sym g)
split_at (x ∷ form) (suc i) line h g =
    let e : suc (i + 1) ≡ suc i + 1 = omega arith in
    ap (λ (rows : List (List ℤ)). x ∷ rows) (split_at form i line (omega (arith, h)) g) ∙ ap (λ n. take (suc i) (x ∷ form) ++ line ∷ drop n (x ∷ form)) e

pub partly_first : (form : List (List ℤ)) (i : ℕ) (start now line : List ℤ) (e : RowError) → i < length form → line ≡ get_or form i line → IsPartly form i start now → IsClearingExcess line now e →
    IsFirstExcess form start e
partly_first form i start now line Memory h g p x = tt
partly_first form i start now line (Excess e) h g p x =
    record { earlier = take i form; line = line; later = drop (i + 1) form; is = split_at form i line h g; last = now; clears = p.clears; cancels = x.0; passes = x.1 }

-- the steps that are made, as a chain of any order
pub record Made (form : List (List ℤ)) (most : ℕ) (r last : List ℤ) : Type 0 where
  pub steps : List (List ℤ)
  pub few : length steps ≤ most
  pub follows : ReducesAlong form r steps last

chain_made : (form rows : List (List ℤ)) (r last : List ℤ) → ((x : List ℤ) → Contains rows x → Contains form x) → Clears rows r last → Made form (length rows) r last
chain_made form [] r last h c = record { steps = []; few = omega arith; follows = sym c }
chain_made form (x ∷ rows) r last h (next, inl e, c) =
    let i = chain_made form rows next last (λ y k. h y (contains_tail x y rows k)) c in
    record { steps = i.steps; few = omega (arith, i.few); follows = subst (λ (y : List ℤ). ReducesAlong form y i.steps last) e.1 i.follows }
chain_made form (x ∷ rows) r last h (next, inr s, c) =
    let i = chain_made form rows next last (λ y k. h y (contains_tail x y rows k)) c in
    record { steps = next ∷ i.steps; few = omega (arith, i.few); follows = (record { line = x; has = h x (contains_head x rows); by = s }, i.follows) }

-- the first number that passes is the strain of a reduction
pub chain_passes : (form : List (List ℤ)) (r : List ℤ) (e : E.Excess) (most : ℕ) → length form ≤ most → FirstPassing form r e → ReductionPasses most form r e
chain_passes form r e most l x =
    let in_form : (y : List ℤ) → Contains (x.earlier ++ x.line ∷ x.later) y → Contains form y = λ y k. subst (λ (rows : List (List ℤ)). Contains rows y) (sym x.is) k in
    let m = chain_made form x.earlier r x.last (λ y k. in_form y (Contains-append_left x.earlier (x.line ∷ x.later) y k)) x.clears in
    let long = ap length x.is ∙ length-append x.earlier (x.line ∷ x.later) in
    record {
      steps = m.steps;
      few = omega (arith, m.few, l, long);
      last = x.last;
      follows = m.follows;
      line = x.line;
      has = in_form x.line (Contains-append_right x.earlier (x.line ∷ x.later) x.line (contains_head x.line x.later));
      cancels = x.cancels;
      passes = x.passes;
    }

pub first_strains : (form : List (List ℤ)) (start : List ℤ) (e : RowError) → IsFirstExcess form start e → IsReductionExcess form start e
first_strains form start Memory x = tt
first_strains form start (Excess e) x = chain_passes form start e (length form) (omega arith) x

pub partly_end : (form : List (List ℤ)) (i : ℕ) (start now end : List ℤ) → i ≡ length form → IsPartly form i start now → IsLowest now end → IsReducedBy form start end
partly_end form i start now end e p l = record {
  same_length = l.same_length ∙ p.same_length;
  along = along_lowest form start now end l p.along;
  zeros = λ line k.
      let at : get_or form k.0 [] ≡ line = sym (get_same form k.0 line k.1) ∙ k.2 in
      no_product l.times (entry end (pivot line)) l.positive (l.is_multiple (pivot line) ∙ ap (λ (x : List ℤ). entry now (pivot x)) (sym at) ∙ p.zeros k.0 (omega (arith, k.1, e)));
  lowest = l.lowest;
}

pub partly_chain : (form : List (List ℤ)) (i : ℕ) (start now end : List ℤ) → i ≡ length form → IsPartly form i start now → IsLowest now end → IsChainEnd form start end
partly_chain form i start now end e p l = (now, subst (λ (rows : List (List ℤ)). Clears rows start now) (take_all i form (omega (arith, e))) p.clears, l)

-- ---- a row that is 0 at the pivots already
clear_chain : (form : List (List ℤ)) (r : List ℤ) → All (λ line. entry r (pivot line) ≡ pos 0) form → Clears form r r
clear_chain [] r h = refl
clear_chain (line ∷ form) r h = (r, inl (h 0 line (omega arith), refl), clear_chain form r (λ k d l. h (suc k) d (omega (arith, l))))

pub clear_end : (form : List (List ℤ)) (r t : List ℤ) → All (λ line. entry r (pivot line) ≡ pos 0) form → IsLowest r t → IsChainEnd form r t
clear_end form r t h l = (r, clear_chain form r h, l)

pub clear_reduced : (form : List (List ℤ)) (r t : List ℤ) → All (λ line. entry r (pivot line) ≡ pos 0) form → IsLowest r t → IsReducedBy form r t
clear_reduced form r t h l = record {
  same_length = l.same_length;
  along = along_lowest form r r t l (along_same form r r refl);
  zeros = λ line k. no_product l.times (entry t (pivot line)) l.positive (l.is_multiple (pivot line) ∙ ap (λ (x : List ℤ). entry r (pivot x)) (sym k.2) ∙ h k.0 line k.1);
  lowest = l.lowest;
}

-- ---- what the code computes in one step
pub cleared_step : (line r sum next : List ℤ) (p : ℕ) (x a y : ℤ) → p ≡ pivot line → x ≡ entry r p → a ≡ entry line p → y ≡ neg_ℤ x → FitsSigned w128 x → ¬ (of_z w128 x ≡ 0) →
    checked_blend a y r line ≡ Ok sum → IsLowest sum next → ClearingStep line r next
cleared_step line r sum next p x a y e f g b fx n h l =
    let at_x : x ≡ entry r (pivot line) = f ∙ ap (λ j. entry r j) e in
    let at_a : a ≡ entry line (pivot line) = g ∙ ap (λ j. entry line j) e in
    record {
      cancels = λ z. n (ap (λ y. of_z w128 y) (at_x ∙ z) ∙ refl);
      sum = sum;
      made = sym (ap (λ z. checked_blend z y r line) at_a ∙ ap (λ z. checked_blend (entry line (pivot line)) z r line) (b ∙ ap neg_ℤ at_x)) ∙ h;
      lowest = l;
    }

pub cleared_already : (line r : List ℤ) (p : ℕ) (x : ℤ) → p ≡ pivot line → x ≡ entry r p → FitsSigned w128 x → of_z w128 x ≡ 0 → (entry r (pivot line) ≡ pos 0) × (r ≡ r)
cleared_already line r p x e f fx z = (sym (f ∙ ap (λ j. entry r j) e) ∙ sym (to_z-of_z w128 x fx) ∙ ap (to_z w128) z ∙ omega (arith, ints), refl)

pub clearing_excess : (line r : List ℤ) (p : ℕ) (x a y : ℤ) (e : RowError) → p ≡ pivot line → x ≡ entry r p → a ≡ entry line p → y ≡ neg_ℤ x → FitsSigned w128 x → ¬ (of_z w128 x ≡ 0) →
    IsExcessOf (checked_blend a y r line) e → IsClearingExcess line r e
clearing_excess line r p x a y Memory i f g b fx n h = tt
clearing_excess line r p x a y (Excess e) i f g b fx n h =
    let at_x : x ≡ entry r (pivot line) = f ∙ ap (λ j. entry r j) i in
    let at_a : a ≡ entry line (pivot line) = g ∙ ap (λ j. entry line j) i in
    (λ z. n (ap (λ k. of_z w128 k) (at_x ∙ z) ∙ refl), sym (ap (λ z. checked_blend z y r line) at_a ∙ ap (λ z. checked_blend (entry line (pivot line)) z r line) (b ∙ ap neg_ℤ at_x)) ∙ h)
