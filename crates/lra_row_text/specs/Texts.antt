-- The texts of rows, of generators and of parts. Every line ends with a line feed.
use Rattle.std.specs.Prelude.{ℕ, zero, suc, ◌/◌, ◌%◌, ℤ, pos, negsuc, ◌-ℤ◌, nat_abs, List, [], ◌∷◌, ◌++◌, map, Bool}
use Rattle.std.specs.Prelude.{true, false, not, codes, if◌then◌else◌, nat_eq, int_div}
use Rattle.std.specs.{Fmt.decimal, Fmt.signed_decimal, List.flat_map}
use Rattle.lra_row_text.specs.Crates.lra_linear_spec.declared.ConKind.{ConKind}
use Rattle.lra_row_text.specs.Crates.lra_linear_spec.declared.ConKind.TheVariants.{Ge, Eq}
use Rattle.lra_row_text.specs.Crates.lra_linear_spec.declared.GenKind.{GenKind}
use Rattle.lra_row_text.specs.Crates.lra_linear_spec.declared.GenKind.TheVariants.{Point, Ray, Line}
use Rattle.lra_row_text.specs.{Part.ReportGenerator, Part.Part, Rows.ReportRow}

abbrev pub text_line : List ℕ → List ℕ
text_line bytes = bytes ++ 10 ∷ []

-- rows: the terms in column order, turned so that the first is above 0, then the relation and the constant ----------

abbrev pub opposite_number : ℤ → ℤ
opposite_number z = pos 0 -ℤ z

-- whether the first coefficient that isn't 0 is below 0
abbrev pub is_negated : List ℤ → Bool
is_negated [] = false
is_negated (pos zero ∷ cs) = is_negated cs
is_negated (pos (suc n) ∷ cs) = false
is_negated (negsuc n ∷ cs) = true

abbrev pub negated_if : Bool → ℤ → ℤ
negated_if b z = if b then opposite_number z else z

-- a magnitude of 1 is left out
abbrev pub product_text : ℕ → List ℕ → List ℕ
product_text n name = if nat_eq n 1 then name else decimal n ++ codes "*" ++ name

-- the terms after the first
abbrev pub terms_text : List ℤ → List (List ℕ) → List ℕ
terms_text [] names = []
terms_text (c ∷ cs) [] = []
terms_text (pos zero ∷ cs) (name ∷ names) = terms_text cs names
terms_text (pos (suc n) ∷ cs) (name ∷ names) = codes " + " ++ product_text (suc n) name ++ terms_text cs names
terms_text (negsuc n ∷ cs) (name ∷ names) = codes " - " ++ product_text (suc n) name ++ terms_text cs names

-- all terms; the first that isn't 0 is above 0
abbrev pub form_text : List ℤ → List (List ℕ) → List ℕ
form_text [] names = []
form_text (c ∷ cs) [] = []
form_text (pos zero ∷ cs) (name ∷ names) = form_text cs names
form_text (pos (suc n) ∷ cs) (name ∷ names) = product_text (suc n) name ++ terms_text cs names
form_text (negsuc n ∷ cs) (name ∷ names) = product_text (suc n) name ++ terms_text cs names

abbrev pub relation_text : ConKind → Bool → List ℕ
relation_text Eq b = codes " = "
relation_text Ge false = codes " >= "
relation_text Ge true = codes " <= "

abbrev pub row_text : List (List ℕ) → ReportRow → List ℕ
row_text names r =
    let b = is_negated r.coefficients in
    form_text (map (negated_if b) r.coefficients) names ++ relation_text r.kind b ++
    signed_decimal (negated_if (not b) r.constant)

-- generators: the kind, then NAME=VALUE for each variable ---------------------------------------------------------

-- the greatest number up to k that divides both
abbrev pub greatest_divisor : ℕ → ℕ → ℕ → ℕ
greatest_divisor zero m n = 1
greatest_divisor (suc k) m n = if nat_eq (m % suc k) 0
    then (if nat_eq (n % suc k) 0 then suc k else greatest_divisor k m n) else greatest_divisor k m n

abbrev pub fraction_text : ℤ → ℕ → List ℕ
fraction_text numerator divisor = if nat_eq divisor 1 then signed_decimal numerator
    else signed_decimal numerator ++ codes "/" ++ decimal divisor

-- the coordinate in lowest terms, and without the divisor if it is 1
abbrev pub coordinate_text : ℤ → ℕ → List ℕ
coordinate_text z divisor =
    let g = greatest_divisor divisor (nat_abs z) divisor in
    fraction_text (int_div z (pos g)) (divisor / g)

-- a ray's and a line's numbers are whole
abbrev pub value_text : GenKind → ℕ → ℤ → List ℕ
value_text Point divisor z = coordinate_text z divisor
value_text Ray divisor z = signed_decimal z
value_text Line divisor z = signed_decimal z

abbrev pub values_text : (ℤ → List ℕ) → List (List ℕ) → List ℤ → List ℕ
values_text text [] zs = []
values_text text (name ∷ names) [] = []
values_text text (name ∷ names) (z ∷ zs) = codes " " ++ name ++ codes "=" ++ text z ++ values_text text names zs

abbrev pub generator_kind_text : GenKind → List ℕ
generator_kind_text Point = codes "point"
generator_kind_text Ray = codes "ray"
generator_kind_text Line = codes "line"

abbrev pub generator_text : List (List ℕ) → ReportGenerator → List ℕ
generator_text names g = generator_kind_text g.kind ++ values_text (value_text g.kind g.divisor) names g.numbers

-- parts ------------------------------------------------------------------------------------------------------------

abbrev pub rows_text : List (List ℕ) → List ReportRow → List ℕ
rows_text names [] = text_line (codes "  row true")
rows_text names (r ∷ rs) = flat_map (λ row. text_line (codes "  row " ++ row_text names row)) (r ∷ rs)

-- generators follow the rows, if there are some
abbrev pub generators_text : List (List ℕ) → List ReportGenerator → List ℕ → List ℕ
generators_text names [] rows = rows
generators_text names (g ∷ gs) rows = rows ++ flat_map (λ h. text_line (codes "  gen " ++ generator_text names h))
    (g ∷ gs)

abbrev pub part_text : List (List ℕ) → Part → List ℕ
part_text names part = generators_text names part.generators (rows_text names part.rows)
