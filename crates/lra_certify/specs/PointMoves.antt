-- What least changes do to rational points, at the same divisor; dimension x is column x + 1.
use Rattle.std.specs.Prelude.{◌≡◌, suc, ◌-◌, ℤ, List, [], ◌∷◌, ◌++◌, length, take, slice_set}
use Rattle.lra_certify.specs.Crates.lra_domain.Actions.{Action, assign, forget, test, embed, remove_last}
use Rattle.lra_certify.specs.Crates.{lra_linear_forms.Form.form_row, lra_linear_spec.Descriptions.Holds}
use Rattle.lra_certify.specs.Crates.{lra_linear_spec.Kinds.is_equality, lra_linear_spec.SetOperations.assigned}

-- the change may lead from the first point to the second
abbrev pub PointLeads : Action → List ℤ → List ℤ → Type 0
PointLeads (assign k e) x y = y ≡ assigned (suc k) (form_row e) x
PointLeads (forget k) x y = (z : ℤ) × (y ≡ slice_set x (suc k) z)
PointLeads (test kind e) x y = Holds (record { row = form_row e; equal = is_equality kind }) x × (y ≡ x)
PointLeads (embed k) x y = (added : List ℤ) × (length added ≡ k) × (y ≡ x ++ added)
PointLeads (remove_last k) x y = y ≡ take (suc (length x - suc k)) x

-- one after the other
abbrev pub PointLeadsAll : List Action → List ℤ → List ℤ → Type 0
PointLeadsAll [] x y = y ≡ x
PointLeadsAll (step ∷ steps) x y = (z : List ℤ) × PointLeads step x z × PointLeadsAll steps z y
