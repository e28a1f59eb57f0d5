-- A row combined with a line, from the sum that is formed.
use Rattle.std.proofs.Common.{◌≡◌, ℕ, ◌+◌, ◌-◌, ◌<◌, List, [], ◌∷◌, ◌++◌, length, get_or, take, drop, ap, sym, ◌∙◌, subst, pos, ℤ, ◌+ℤ◌, ◌*ℤ◌, neg_ℤ, arith, inr}
use Rattle.std.proofs.lemmas.List.{take_more, length-take-le, append_assoc, take_all, length-drop, get_or_default}
use Rattle.lra_double_description.specs.Crates.{lra_linear_spec.LowestTerms.IsLowest, lra_linear_spec.Vectors.entry, lra_linear_spec.Vectors.negated, lra_linear_spec.Vectors.blend}
use Rattle.lra_double_description.proofs.Crates.lra_linear_spec.Products.{entry_blend, blend_length, entry_negated}
use Rattle.lra_double_description.proofs.Crates.lra_linear_spec.Ring.{ring, v, ⊖, ◌⊕◌, ◌⊗◌}
use Rattle.lra_double_description.specs.{Steps.IsFlattened, Steps.AreFlattened, Steps.PushesFlattened, Steps.AreFlatLines, declared.line_step.Across.Across}

-- a row with a product above 0
pub flattened_above : (line : Across) (p : ℤ) (r sum t : List ℤ) → line.down ≡ negated line.up → length line.down ≡ length r → sum ≡ blend line.product p r line.down → IsLowest sum t →
    IsFlattened line p r t
flattened_above line p r sum t d w e h =
    inr (record {
      times = h.times;
      positive = h.positive;
      is = λ j. h.is_multiple j ∙ ap (λ (x : List ℤ). entry x j) e ∙ entry_blend line.product p r line.down (sym w) j ∙
          ap (λ (x : List ℤ). (line.product *ℤ entry r j) +ℤ (p *ℤ entry x j)) d ∙ ap (λ z. (line.product *ℤ entry r j) +ℤ (p *ℤ z)) (entry_negated line.up j) ∙
          ring (v line.product ⊗ v (entry r j) ⊕ v p ⊗ ⊖ (v (entry line.up j))) (v line.product ⊗ v (entry r j) ⊕ ⊖ (v p) ⊗ v (entry line.up j)) (omega arith);
      lowest = h.lowest;
      same_length = h.same_length ∙ ap length e ∙ blend_length line.product p r line.down (sym w);
    })

-- and one with a product below
pub flattened_below : (line : Across) (p : ℤ) (r sum t : List ℤ) → length line.up ≡ length r → sum ≡ blend (neg_ℤ p) line.product line.up r → IsLowest sum t → IsFlattened line p r t
flattened_below line p r sum t w e h =
    inr (record {
      times = h.times;
      positive = h.positive;
      is = λ j. h.is_multiple j ∙ ap (λ (x : List ℤ). entry x j) e ∙ entry_blend (neg_ℤ p) line.product line.up r w j ∙
          ring (⊖ (v p) ⊗ v (entry line.up j) ⊕ v line.product ⊗ v (entry r j)) (v line.product ⊗ v (entry r j) ⊕ ⊖ (v p) ⊗ v (entry line.up j)) (omega arith);
      lowest = h.lowest;
      same_length = h.same_length ∙ ap length e ∙ blend_length (neg_ℤ p) line.product line.up r w ∙ w;
    })

-- ---- row by row
flattened_end : (line : Across) (ps : List ℤ) (rs ts : List (List ℤ)) (p : ℤ) (r t : List ℤ) → length ps ≡ length rs → AreFlattened line ps rs ts → IsFlattened line p r t →
    AreFlattened line (ps ++ p ∷ []) (rs ++ r ∷ []) (ts ++ t ∷ [])
flattened_end line [] [] [] p r t l f x = (x, tt)
flattened_end line (q ∷ ps) [] ts p r t l f x = absurd (omega (arith, l))
flattened_end line [] [] (y ∷ ts) p r t l f x = absurd f
flattened_end line [] (y ∷ rs) ts p r t l f x = absurd f
flattened_end line (q ∷ ps) (y ∷ rs) [] p r t l f x = absurd f
flattened_end line (q ∷ ps) (y ∷ rs) (z ∷ ts) p r t l f x = (f.0, flattened_end line ps rs ts p r t (omega (arith, l)) f.1 x)

pub flattened_more : (line : Across) (products : List ℤ) (rows old out new : List (List ℤ)) (k : ℕ) (t : List ℤ) → length products ≡ length rows → k < length rows → new ≡ out ++ t ∷ [] →
    IsFlattened line (get_or products k (pos 0)) (get_or rows k []) t →
    PushesFlattened line (take k products) (take k rows) old out → PushesFlattened line (take (k + 1) products) (take (k + 1) rows) old new
flattened_more line products rows old out new k t l h e x f =
    let lp : k < length products = omega (arith, l, h) in (
      f.0 ++ t ∷ [],
      e ∙ ap (λ (y : List (List ℤ)). y ++ t ∷ []) f.1 ∙ append_assoc old f.0 (t ∷ []),
      subst (λ (ps : List ℤ). AreFlattened line ps (take (k + 1) rows) (f.0 ++ t ∷ [])) (sym (take_more products k (pos 0) lp))
          (subst (λ (rs : List (List ℤ)). AreFlattened line (take k products ++ get_or products k (pos 0) ∷ []) rs (f.0 ++ t ∷ [])) (sym (take_more rows k [] h))
          (flattened_end line (take k products) (take k rows) f.0 (get_or products k (pos 0)) (get_or rows k []) t
          (length-take-le k products (omega (arith, lp)) ∙ sym (length-take-le k rows (omega (arith, h)))) f.2 x)),
    )

pub below_sum : (line : Across) (p opposite : ℤ) (r sum : List ℤ) → opposite ≡ neg_ℤ p → sum ≡ blend opposite line.product line.up r → sum ≡ blend (neg_ℤ p) line.product line.up r
below_sum line p opposite r sum e h = h ∙ ap (λ z. blend z line.product line.up r) e

-- the element at a place, whatever stands for what lies past the end
pub at_place : {X : Type 0} (xs : List X) (i : ℕ) (x d : X) → i < length xs → x ≡ get_or xs i x → x ≡ get_or xs i d
at_place xs i x d h e = e ∙ get_or_default xs i x d h

-- ---- the lines
pub flat_lines_are : (line : Across) (products : List ℤ) (lines old mid new : List (List ℤ)) → old ≡ [] → PushesFlattened line (take line.place products) (take line.place lines) old mid →
    new ≡ mid ++ take (length lines - (line.place + 1)) (drop (line.place + 1) lines) → AreFlatLines line products lines new
flat_lines_are line products lines old mid new e f n = (
  f.0,
  n ∙ ap (λ (x : List (List ℤ)). x ++ take (length lines - (line.place + 1)) (drop (line.place + 1) lines)) (f.1 ∙ ap (λ (x : List (List ℤ)). x ++ f.0) e) ∙
      ap (λ (x : List (List ℤ)). f.0 ++ x) (take_all (length lines - (line.place + 1)) (drop (line.place + 1) lines) (omega (arith, length-drop (line.place + 1) lines))),
  f.2,
)
