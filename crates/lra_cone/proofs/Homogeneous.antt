-- Fewer homogeneous equations than columns: some row other than 0 solves them all. Column by column: an equation that isn't 0 in the
-- first column takes it out of the others, and the column's number follows from the rest.
use Rattle.std.proofs.Common.{List, [], ap, arith, inl, inr, length, neg_ℤ, negsuc, pos, refl, suc, zero, ℕ, ℤ, ◌*ℤ◌, ◌+ℤ◌, ◌<◌, ◌∙◌, ◌∷◌, ◌≡◌, ◌⊎◌, sym}
use Rattle.std.proofs.lemmas.Int.{ints}
use Rattle.lra_cone.specs.Crates.lra_linear_spec.Vectors.{dot, entry, zeros}
use Rattle.lra_cone.proofs.Crates.{lra_linear_spec.Lines.zeros_length, lra_linear_spec.OneSpelling.dot_zeros, lra_linear_spec.Products.dot_linear, lra_linear_spec.Ring.ring, lra_linear_spec.Ring.v}
use Rattle.lra_cone.proofs.Crates.{lra_linear_spec.Ring.⊖, lra_linear_spec.Ring.◌⊕◌, lra_linear_spec.Ring.◌⊗◌, lra_linear_spec.Signs.no_product, lra_linear_spec.Signs.not_both}

-- ---- numbers other than 0
pub zero_or : (z : ℤ) → (z ≡ pos 0) ⊎ ¬ (z ≡ pos 0)
zero_or (pos zero) = inl refl
zero_or (pos (suc n)) = inr (not_both (pos (suc n)) (omega (arith, ints)))
zero_or (negsuc n) = inr (λ e. omega (arith, ints, e))

pub other_factor : (a z : ℤ) → ¬ (a ≡ pos 0) → a *ℤ z ≡ pos 0 → z ≡ pos 0
other_factor (pos zero) z n e = absurd (n refl)
other_factor (pos (suc k)) z n e = no_product (suc k) z (omega arith) e
other_factor (negsuc k) z n e = no_product (suc k) z (omega arith) (ring (v (pos (suc k)) ⊗ v z) (⊖ (v (negsuc k) ⊗ v z)) (omega arith) ∙ ap neg_ℤ e)

-- ---- equations, each by its coefficients as a vector
-- the row solves them all
abbrev pub Vanish : List (ℕ → ℤ) → List ℤ → Type 0
Vanish [] x = Unit {0}
Vanish (f ∷ forms) x = (dot x f ≡ pos 0) × Vanish forms x

-- all are 0 in the first column
abbrev AreFlat : List (ℕ → ℤ) → Type 0
AreFlat [] = Unit {0}
AreFlat (f ∷ forms) = (f 0 ≡ pos 0) × AreFlat forms

-- one that isn't, and the others
record Picked (forms : List (ℕ → ℤ)) : Type 0 where
  form : ℕ → ℤ
  across : ¬ (form 0 ≡ pos 0)
  others : List (ℕ → ℤ)
  many : length forms ≡ suc (length others)
  back : (x : List ℤ) → dot x form ≡ pos 0 → Vanish others x → Vanish forms x

pick : (forms : List (ℕ → ℤ)) → AreFlat forms ⊎ Picked forms
pick [] = inl tt
pick (f ∷ forms) = elim (zero_or (f 0)) [
  | inl z ↦ elim (pick forms) [
    | inl flat ↦ inl (z, flat)
    | inr p ↦ inr (record { form = p.form; across = p.across; others = f ∷ p.others; many = ap suc p.many; back = λ x e all. (all.0, p.back x e all.1) })
  ]
  | inr n ↦ inr (record { form = f; across = n; others = forms; many = refl; back = λ x e all. (e, all) })
]

-- ---- all are 0 in the first column: the first unit row
flat_product : (n : ℕ) (f : ℕ → ℤ) → f 0 ≡ pos 0 → dot (pos 1 ∷ zeros n) f ≡ pos 0
flat_product n f z =
    ap (λ y. (pos 1 *ℤ y) +ℤ dot (zeros n) (λ j. f (suc j))) z ∙ ap (λ y. (pos 1 *ℤ pos 0) +ℤ y) (dot_zeros n (λ j. f (suc j))) ∙
    ring (v (pos 1) ⊗ v (pos 0) ⊕ v (pos 0)) (v (pos 0)) (omega arith)

flat_root : (n : ℕ) (forms : List (ℕ → ℤ)) → AreFlat forms → Vanish forms (pos 1 ∷ zeros n)
flat_root n [] flat = tt
flat_root n (f ∷ forms) flat = (flat_product n f flat.0, flat_root n forms flat.1)

-- ---- one isn't: it takes the first column out of the others
abbrev reduced : (ℕ → ℤ) → (ℕ → ℤ) → ℕ → ℤ
reduced f g j = (f 0 *ℤ g (suc j)) +ℤ (neg_ℤ (g 0) *ℤ f (suc j))

abbrev all_reduced : (ℕ → ℤ) → List (ℕ → ℤ) → List (ℕ → ℤ)
all_reduced f [] = []
all_reduced f (g ∷ forms) = reduced f g ∷ all_reduced f forms

reduced_many : (f : ℕ → ℤ) (forms : List (ℕ → ℤ)) → length (all_reduced f forms) ≡ length forms
reduced_many f [] = refl
reduced_many f (g ∷ forms) = ap suc (reduced_many f forms)

-- a multiple of a row
abbrev multiple : ℤ → List ℤ → List ℤ
multiple a [] = []
multiple a (x ∷ xs) = (a *ℤ x) ∷ multiple a xs

multiple_length : (a : ℤ) (xs : List ℤ) → length (multiple a xs) ≡ length xs
multiple_length a [] = refl
multiple_length a (x ∷ xs) = ap suc (multiple_length a xs)

multiple_entry : (a : ℤ) (xs : List ℤ) (j : ℕ) → entry (multiple a xs) j ≡ a *ℤ entry xs j
multiple_entry a [] j = ring (v (pos 0)) (v a ⊗ v (pos 0)) (omega arith)
multiple_entry a (x ∷ xs) zero = refl
multiple_entry a (x ∷ xs) (suc j) = multiple_entry a xs j

multiple_dot : (a : ℤ) (xs : List ℤ) (u : ℕ → ℤ) → dot (multiple a xs) u ≡ a *ℤ dot xs u
multiple_dot a [] u = ring (v (pos 0)) (v a ⊗ v (pos 0)) (omega arith)
multiple_dot a (x ∷ xs) u =
    let rest = dot xs (λ j. u (suc j)) in
    ap (λ y. ((a *ℤ x) *ℤ u 0) +ℤ y) (multiple_dot a xs (λ j. u (suc j))) ∙ ring ((v a ⊗ v x) ⊗ v (u 0) ⊕ v a ⊗ v rest) (v a ⊗ (v x ⊗ v (u 0) ⊕ v rest)) (omega arith)

-- the row with the first column's number in front, as the equation asks
abbrev lifted : (ℕ → ℤ) → List ℤ → List ℤ
lifted f x = neg_ℤ (dot x (λ j. f (suc j))) ∷ multiple (f 0) x

lifted_own : (f : ℕ → ℤ) (x : List ℤ) → dot (lifted f x) f ≡ pos 0
lifted_own f x =
    let d = dot x (λ j. f (suc j)) in
    ap (λ y. (neg_ℤ d *ℤ f 0) +ℤ y) (multiple_dot (f 0) x (λ j. f (suc j))) ∙ ring (⊖ (v d) ⊗ v (f 0) ⊕ v (f 0) ⊗ v d) (v (pos 0)) (omega arith)

lifted_other : (f g : ℕ → ℤ) (x : List ℤ) → dot x (reduced f g) ≡ pos 0 → dot (lifted f x) g ≡ pos 0
lifted_other f g x h =
    let d = dot x (λ j. f (suc j)) in
    let e = dot x (λ j. g (suc j)) in
    ap (λ y. (neg_ℤ d *ℤ g 0) +ℤ y) (multiple_dot (f 0) x (λ j. g (suc j))) ∙ ring (⊖ (v d) ⊗ v (g 0) ⊕ v (f 0) ⊗ v e) (v (f 0) ⊗ v e ⊕ ⊖ (v (g 0)) ⊗ v d) (omega arith) ∙
    sym (dot_linear x (f 0) (neg_ℤ (g 0)) (λ j. g (suc j)) (λ j. f (suc j))) ∙ h

lifted_all : (f : ℕ → ℤ) (x : List ℤ) (forms : List (ℕ → ℤ)) → Vanish (all_reduced f forms) x → Vanish forms (lifted f x)
lifted_all f x [] all = tt
lifted_all f x (g ∷ forms) all = (lifted_other f g x all.0, lifted_all f x forms all.1)

-- ---- the row
pub record Root (w : ℕ) (forms : List (ℕ → ℤ)) : Type 0 where
  pub row : List ℤ
  pub long : length row ≡ w
  pub column : ℕ
  pub other : ¬ (entry row column ≡ pos 0)
  pub vanish : Vanish forms row

pub root : (w : ℕ) (forms : List (ℕ → ℤ)) → length forms < w → Root w forms
root zero forms h = absurd (omega (arith, h))
root (suc w) forms h = elim (pick forms) [
  | inl flat ↦ record {
    row = pos 1 ∷ zeros w;
    long = ap suc (zeros_length w);
    column = 0;
    other = not_both (pos 1) (omega (arith, ints));
    vanish = flat_root w forms flat;
  }
  | inr p ↦
      let i = root w (all_reduced p.form p.others) (omega (arith, h, p.many, reduced_many p.form p.others)) in
      record {
        row = lifted p.form i.row;
        long = ap suc (multiple_length (p.form 0) i.row ∙ i.long);
        column = suc i.column;
        other = λ e. i.other (other_factor (p.form 0) (entry i.row i.column) p.across (sym (multiple_entry (p.form 0) i.row i.column) ∙ e));
        vanish = p.back (lifted p.form i.row) (lifted_own p.form i.row) (lifted_all p.form i.row p.others i.vanish);
      }
]

-- ---- equations by rows
abbrev pub as_forms : List (List ℤ) → List (ℕ → ℤ)
as_forms [] = []
as_forms (r ∷ rows) = entry r ∷ as_forms rows

pub forms_many : (rows : List (List ℤ)) → length (as_forms rows) ≡ length rows
forms_many [] = refl
forms_many (r ∷ rows) = ap suc (forms_many rows)
