-- Steps of a form's sum, and the value of an opposite form.
use Rattle.std.proofs.Common.{◌≡◌, ◌↔◌, ℤ, pos, negsuc, ◌+ℤ◌, ◌*ℤ◌, List, [], ◌∷◌, inl, inr, map, refl, arith, FitsSigned}
use Rattle.std.proofs.{lemmas.Int.ints, lemmas.List.Elements.All-cons, lemmas.List.Elements.All-tail}
use Rattle.std.specs.{Int.w64, List.All, Prelude.◌≤ℤ◌, Prelude.neg_ℤ}
use Rattle.lra_linear_forms.specs.Crates.lra_linear_spec.Vectors.{product}
use Rattle.lra_linear_forms.specs.Form.{Form, form_value, opposite_form, AddsInRange, SummingPasses}

-- if the first product and the sum with it are in range, what passes comes later
pub summing_step : (a c x b : ℤ) (cs xs : List ℤ) → AddsInRange a c x → a +ℤ (c *ℤ x) ≡ b
    → (a +ℤ product (c ∷ cs) (x ∷ xs) ≡ b +ℤ product cs xs) × (SummingPasses b cs xs → SummingPasses a (c ∷ cs) (x ∷ xs)) × (SummingPasses a (c ∷ cs) (x ∷ xs) → SummingPasses b cs xs)
summing_step a c x b cs xs fits is = (rw (← is) (omega (arith, ints)), λ h. inr (rw is h), λ h. rw is at (later h))
  where
    later : SummingPasses a (c ∷ cs) (x ∷ xs) → SummingPasses (a +ℤ (c *ℤ x)) cs xs
    later (inl h) = absurd (h fits)
    later (inr h) = h

pub neg_product : (c x : ℤ) → neg_ℤ c *ℤ x ≡ neg_ℤ (c *ℤ x)
neg_product (pos c) (pos x) = grind (arith, ints)
neg_product (pos c) (negsuc x) = grind (arith, ints)
neg_product (negsuc c) (pos x) = grind (arith, ints)
neg_product (negsuc c) (negsuc x) = grind (arith, ints)

zero_times : (c : ℤ) → c *ℤ pos 0 ≡ pos 0
zero_times (pos c) = grind (arith, ints)
zero_times (negsuc c) = grind (arith, ints)

-- past the end of a list all counts 0
pub product_nothing : (cs : List ℤ) → product cs [] ≡ pos 0
product_nothing [] = refl
product_nothing (c ∷ cs) = let z = zero_times c in let p = product_nothing cs in omega (arith, ints)

-- the product of the negated coefficients
pub product_negated : (cs s : List ℤ) → product (map neg_ℤ cs) s ≡ neg_ℤ (product cs s)
product_negated [] s = refl
product_negated (c ∷ cs) [] = let z = zero_times c in let n = zero_times (neg_ℤ c) in let d = product_negated cs [] in omega (arith, ints)
product_negated (c ∷ cs) (x ∷ xs) = let p = neg_product c x in let d = product_negated cs xs in omega (arith, ints)

opposite_sign : (k d v w e : ℤ) → v ≡ k +ℤ d → e ≡ neg_ℤ d → w ≡ (neg_ℤ k +ℤ negsuc 0) +ℤ e → (pos 0 ≤ℤ w) ↔ (¬ (pos 0 ≤ℤ v))
opposite_sign k d v w e is_v is_e is_w = (λ h n. omega (arith, ints), λ h. grind (arith, ints))

-- the opposite form is not negative exactly if the form is negative
pub opposite_holds : (f : Form) (s : List ℤ) → (pos 0 ≤ℤ form_value (opposite_form f) s) ↔ (¬ (pos 0 ≤ℤ form_value f s))
opposite_holds f s = opposite_sign f.constant (product f.coefficients s) (form_value f s) (form_value (opposite_form f) s) (product (map neg_ℤ f.coefficients) s) refl
    (product_negated f.coefficients s) refl

-- a list fits exactly if its rest does, if its first number does
pub fits_later : (c : ℤ) (cs : List ℤ) → FitsSigned w64 c → (All (FitsSigned w64) cs ↔ All (FitsSigned w64) (c ∷ cs))
fits_later c cs fit = (λ h. All-cons (FitsSigned w64) c cs fit h, λ h. All-tail (FitsSigned w64) c cs h)
