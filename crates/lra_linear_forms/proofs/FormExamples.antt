-- Worked examples of forms and their opposites.
use Rattle.std.proofs.Common.{◌≡◌, pos, negsuc, [], ◌∷◌, refl}
use Rattle.lra_linear_forms.specs.Form.{Form, form_value, opposite_form}

-- 3 + 2x - y
abbrev three_two_x_minus_y : Form
three_two_x_minus_y = record { constant = pos 3; coefficients = pos 2 ∷ negsuc 0 ∷ [] }

-- at x = 5, y = 4 it is 9
value_example : form_value three_two_x_minus_y (pos 5 ∷ pos 4 ∷ []) ≡ pos 9
value_example = refl

-- the opposite of x - 10 >= 0 is 9 - x >= 0
opposite_example : opposite_form (record { constant = negsuc 9; coefficients = pos 1 ∷ [] }) ≡
    record { constant = pos 9; coefficients = negsuc 0 ∷ [] }
opposite_example = refl
