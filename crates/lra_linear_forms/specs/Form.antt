-- Stores, linear forms over them, and tests of forms.
-- A store is a list of whole numbers, one for each live variable, the oldest first.
use Rattle.std.specs.Prelude.{◌≡◌, ℤ, pos, negsuc, neg_ℤ, ◌+ℤ◌, ◌*ℤ◌, ◌≤ℤ◌, List, [], ◌∷◌, map, FitsSigned, ◌⊎◌}
use Rattle.std.specs.{Int.w64, List.All}
use Rattle.lra_linear_forms.specs.Crates.lra_linear_spec.Range.{InRange}
use Rattle.lra_linear_forms.specs.Crates.lra_linear_spec.Vectors.{product}
use Rattle.lra_linear_forms.specs.Crates.lra_linear_spec.declared.ConKind.{ConKind}
use Rattle.lra_linear_forms.specs.Crates.lra_linear_spec.declared.ConKind.TheVariants.{Ge, Eq}

-- a linear form: its constant, and one coefficient for each dimension
pub record Form : Type 0 where
  pub constant : ℤ
  pub coefficients : List ℤ

-- the row of a form: the constant in column 0, then the coefficients
abbrev pub form_row : Form → List ℤ
form_row f = f.constant ∷ f.coefficients

-- the value of a form at a store
abbrev pub form_value : Form → List ℤ → ℤ
form_value f s = f.constant +ℤ product f.coefficients s

-- the product, and the sum with it, are in range
abbrev pub AddsInRange : ℤ → ℤ → ℤ → Type 0
AddsInRange a c x = InRange (c *ℤ x) × InRange (a +ℤ (c *ℤ x))

-- summed from the first number on in column order, a product or a partial sum passes the range
abbrev pub SummingPasses : ℤ → List ℤ → List ℤ → Type 0
SummingPasses a [] xs = ⊥
SummingPasses a (c ∷ cs) [] = ⊥
SummingPasses a (c ∷ cs) (x ∷ xs) = (¬ AddsInRange a c x) ⊎ SummingPasses (a +ℤ (c *ℤ x)) cs xs

-- a test of a form: `form >= 0` or `form = 0`
abbrev pub KindHolds : ConKind → ℤ → Type 0
KindHolds Ge v = pos 0 ≤ℤ v
KindHolds Eq v = v ≡ pos 0

-- the test holds at the store
abbrev pub HoldsAt : ConKind → Form → List ℤ → Type 0
HoldsAt kind f s = KindHolds kind (form_value f s)

-- -f - 1
abbrev pub opposite_form : Form → Form
opposite_form f = record { constant = neg_ℤ f.constant +ℤ negsuc 0; coefficients = map neg_ℤ f.coefficients }

-- the constant and each coefficient is an i64
pub record FormFits (f : Form) : Type 0 where
  pub constant_fits : FitsSigned w64 f.constant
  pub coefficients_fit : All (FitsSigned w64) f.coefficients
