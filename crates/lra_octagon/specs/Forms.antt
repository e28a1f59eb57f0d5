-- Linear forms, by the variables that occur in them.
use Rattle.std.specs.Prelude.{ℕ, suc, zero, ◌+◌, ◌*◌, ◌<◌, ◌^◌, ◌==◌, cond, ℤ, pos, negsuc, List, [], ◌∷◌}
use Rattle.lra_octagon.specs.Crates.lra_linear_forms.Form.{Form}
use Rattle.lra_dbm.specs.Tight.{opposite}
use Rattle.lra_octagon.specs.declared.forms.FormShape.{FormShape}
use Rattle.lra_octagon.specs.declared.forms.FormShape.TheVariants.{Constant, One, Two, Other}

-- a signed variable with the magnitude of its coefficient
pub record Term : Type 0 where
  pub signed : ℕ
  pub magnitude : ℕ

-- the term of a coefficient of x_k, if that isn't 0
abbrev pub terms_at : ℕ → ℤ → List Term → List Term
terms_at k (pos zero) ts = ts
terms_at k (pos (suc m)) ts = record { signed = 2 * k; magnitude = suc m } ∷ ts
terms_at k (negsuc m) ts = record { signed = 2 * k + 1; magnitude = suc m } ∷ ts

-- the terms of the coefficients from column k on
abbrev pub terms_from : ℕ → List ℤ → List Term
terms_from k [] = []
terms_from k (c ∷ cs) = terms_at k c (terms_from (suc k) cs)

abbrev pub terms : Form → List Term
terms e = terms_from 0 e.coefficients

-- what a form is to an octagon: a constant, a multiple of one signed variable or of the sum of two, or another
abbrev pub shape_of : List Term → FormShape
shape_of [] = Constant
shape_of (t ∷ []) = One t.magnitude t.signed
shape_of (t ∷ u ∷ []) = cond (t.magnitude == u.magnitude) (Two t.magnitude t.signed u.signed) Other
shape_of (t ∷ u ∷ w ∷ ts) = Other

abbrev pub shape : Form → FormShape
shape e = shape_of (terms e)

-- the shape of the opposite form
abbrev pub opposite_shape : FormShape → FormShape
opposite_shape Constant = Constant
opposite_shape (One m i) = One m (opposite i)
opposite_shape (Two m i j) = Two m (opposite i) (opposite j)
opposite_shape Other = Other

-- the shape's signed variables are below this number, and its magnitude is that of a number of the range other than 0
abbrev pub ShapeFits : ℕ → FormShape → Type 0
ShapeFits b Constant = Unit {0}
ShapeFits b (One m i) = (i < b) × (0 < m) × (m < 2 ^ 127)
ShapeFits b (Two m i j) = (i < b) × (j < b) × (0 < m) × (m < 2 ^ 127)
ShapeFits b Other = Unit {0}
