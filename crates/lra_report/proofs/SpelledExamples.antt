-- What one text would say of two rows, points or variables, if a premise is left out.
use Rattle.std.proofs.Common.{◌≡◌, ℕ, ℤ, pos, negsuc, List, [], ◌∷◌, codes, refl}
use Rattle.std.specs.Fmt.{digits}
use Rattle.lra_report.specs.Crates.{lra_linear_spec.declared.ConKind.TheVariants.Eq, lra_linear_spec.declared.GenKind.TheVariants.Point}
use Rattle.lra_row_text.specs.{Part.ReportGenerator, Rows.ReportRow, Texts.row_text, Texts.generator_text}
use Rattle.lra_resolution_spec.specs.ShownNames.{shown_names}

abbrev is_zero : ℤ → List ℤ → ReportRow
is_zero c cs = record { kind = Eq; constant = c; coefficients = cs }

abbrev run_point_view : ℕ → List ℤ → ReportGenerator
run_point_view d zs = record { kind = Point; divisor = d; numbers = zs }

-- x - 3 = 0 and 3 - x = 0: an equality is directed
equality_and_opposite : row_text (codes "x" ∷ []) (is_zero (negsuc 2) (pos 1 ∷ [])) ≡ row_text (codes "x" ∷ []) (is_zero (pos 3) (negsuc 0 ∷ []))
unfolding digits
equality_and_opposite = refl

-- 1/1 and 2/2: a point is in lowest terms
point_and_double : generator_text (codes "x" ∷ []) (run_point_view 1 (pos 1 ∷ [])) ≡ generator_text (codes "x" ∷ []) (run_point_view 2 (pos 2 ∷ []))
unfolding digits
point_and_double = refl

-- two variables of one name: names differ
same_names : row_text (codes "x" ∷ codes "x" ∷ []) (is_zero (pos 0) (pos 1 ∷ pos 0 ∷ [])) ≡ row_text (codes "x" ∷ codes "x" ∷ []) (is_zero (pos 0) (pos 0 ∷ pos 1 ∷ []))
unfolding digits
same_names = refl

-- `x~1` as a variable's own name: names are words
marked_name : shown_names (codes "x" ∷ codes "x~1" ∷ codes "x" ∷ []) ≡ codes "x~1" ∷ codes "x~1" ∷ codes "x" ∷ []
unfolding digits
marked_name = refl
