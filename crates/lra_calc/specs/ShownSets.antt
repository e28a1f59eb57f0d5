-- What lines print. A polyhedron is printed by its canonical constraints, then its canonical generators, in their
-- orders. The variables are x1, x2 and on.
use Rattle.std.specs.Prelude.{ℕ, zero, suc, ◌+◌, ℤ, nat_abs, Bool, true, false, List, [], ◌∷◌, ◌++◌, map, codes, get_or}
use Rattle.std.specs.{Fmt.decimal, Prelude.Option, Prelude.Some, Prelude.None}
use Rattle.lra_calc.specs.Crates.lra_linear_spec.Descriptions.{LinearRow, line}
use Rattle.lra_calc.specs.Crates.{lra_duality.declared.inclusion.Inclusion.Inclusion}
use Rattle.lra_calc.specs.Crates.{lra_duality.declared.maximum.Maximum.Maximum, lra_linear_spec.Polyhedra.Polyhedron}
use Rattle.lra_row_text.specs.Texts.{text_line, part_text, generator_text, fraction_text}
use Rattle.lra_row_text.specs.{Part.Part, ShownDescriptions.shown_constraint, ShownDescriptions.shown_generator}
use Rattle.lra_calc.specs.Crates.lra_duality.declared.inclusion.Inclusion.TheVariants as inclusion
use Rattle.lra_calc.specs.Crates.lra_duality.declared.maximum.Maximum.TheVariants as maximum

-- so many, from this number on
abbrev pub variables_from : ℕ → ℕ → List (List ℕ)
variables_from first zero = []
variables_from first (suc n) = (codes "x" ++ decimal first) ∷ variables_from (first + 1) n

abbrev pub variables : ℕ → List (List ℕ)
variables n = variables_from 1 n

abbrev pub part_of : Polyhedron → Part
part_of p = record { rows = map shown_constraint p.rows; generators = map shown_generator p.generators }

-- a text if there is a generator; without one there is no point
abbrev pub empty_or : List LinearRow → List ℕ → List ℕ
empty_or [] text = text_line (codes "  empty")
empty_or (g ∷ gs) text = text

abbrev pub polyhedron_text : Polyhedron → List ℕ
polyhedron_text p = empty_or p.generators (part_text (variables p.dims) (part_of p))

-- show -------------------------------------------------------------------------------------------------------------

abbrev pub show_text : List ℕ → Polyhedron → List ℕ
show_text name p = text_line (codes "show " ++ name) ++ polyhedron_text p

-- holds ------------------------------------------------------------------------------------------------------------

-- yes, no, or wide
abbrev pub answer_text : Option Bool → List ℕ
answer_text (Some true) = codes "yes"
answer_text (Some false) = codes "no"
answer_text None = codes "wide"

abbrev pub holds_text : List ℕ → Option Bool → List ℕ
holds_text name answer = text_line (codes "holds " ++ name ++ codes " " ++ answer_text answer)

-- include ----------------------------------------------------------------------------------------------------------

-- the generator at a place of the list, from 0
abbrev pub generator_at : Polyhedron → ℕ → List ℕ
generator_at p place = generator_text (variables p.dims) (shown_generator (get_or p.generators place (line [])))

-- of the second set, no with a generator of the first that isn't in it
abbrev pub inclusion_text : Polyhedron → Inclusion → List ℕ
inclusion_text p inclusion.Yes = codes "yes"
inclusion_text p (inclusion.No place) = codes "no " ++ generator_at p place
inclusion_text p (inclusion.Wide place row) = codes "wide"

abbrev pub include_text : List ℕ → List ℕ → Polyhedron → Inclusion → List ℕ
include_text first second p answer =
    text_line (codes "include " ++ first ++ codes " " ++ second ++ codes " " ++ inclusion_text p answer)

abbrev pub is_wide_inclusion : Inclusion → Bool
is_wide_inclusion inclusion.Yes = false
is_wide_inclusion (inclusion.No place) = false
is_wide_inclusion (inclusion.Wide place row) = true

-- maximise ---------------------------------------------------------------------------------------------------------

-- the greatest value, and a point that has it
abbrev pub greatest_text : Polyhedron → ℤ → ℤ → ℕ → List ℕ
greatest_text p num den place = codes "at " ++ fraction_text num (nat_abs den) ++ codes " " ++ generator_at p place

-- unbounded with the ray or line along which the form grows
abbrev pub maximum_text : Polyhedron → Maximum → List ℕ
maximum_text p maximum.Empty = codes "empty"
maximum_text p (maximum.Wide place) = codes "wide"
maximum_text p (maximum.Unbounded place) = codes "unbounded " ++ generator_at p place
maximum_text p (maximum.At num den place) = greatest_text p num den place

abbrev pub maximise_text : List ℕ → Polyhedron → Maximum → List ℕ
maximise_text name p answer = text_line (codes "maximise " ++ name ++ codes " " ++ maximum_text p answer)

abbrev pub is_wide_maximum : Maximum → Bool
is_wide_maximum maximum.Empty = false
is_wide_maximum (maximum.Wide place) = true
is_wide_maximum (maximum.Unbounded place) = false
is_wide_maximum (maximum.At num den place) = false
