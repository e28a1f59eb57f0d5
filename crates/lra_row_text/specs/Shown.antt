-- Rows of constraints and of generators, as they are shown.
use Rattle.std.specs.Prelude.{ℕ, zero, suc, ℤ, pos, negsuc, nat_abs, Bool, true, false, List, [], ◌∷◌}
use Rattle.lra_row_text.specs.Crates.lra_linear_spec.declared.ConKind.{ConKind}
use Rattle.lra_row_text.specs.Crates.lra_linear_spec.declared.GenKind.{GenKind}
use Rattle.lra_row_text.specs.{Part.ReportGenerator, Rows.ReportRow, Texts.form_text, Texts.terms_text}

-- the constant stands in column 0
abbrev pub report_row : List ℤ → ConKind → ReportRow
report_row [] kind = record { kind = kind; constant = pos 0; coefficients = [] }
report_row (c ∷ cs) kind = record { kind = kind; constant = c; coefficients = cs }

-- the divisor stands in column 0: a point's is above 0, a ray's and a line's is 0
abbrev pub report_generator : List ℤ → GenKind → ReportGenerator
report_generator [] kind = record { kind = kind; divisor = 0; numbers = [] }
report_generator (d ∷ zs) kind = record { kind = kind; divisor = nat_abs d; numbers = zs }

-- whether the next term is the first, after this coefficient
abbrev pub is_first_after : Bool → ℤ → Bool
is_first_after first (pos zero) = first
is_first_after first (pos (suc n)) = false
is_first_after first (negsuc n) = false

-- the terms from a coefficient on, if none or some stand before them
abbrev pub rest_text : Bool → List ℤ → List (List ℕ) → List ℕ
rest_text true cs names = form_text cs names
rest_text false cs names = terms_text cs names
