-- The kinds of constraints and tests, an inequality or an equality, and of generators.
use Rattle.std.specs.Prelude.{Bool, true, false}
use Rattle.lra_linear_spec.specs.{declared.ConKind.ConKind, declared.GenKind.GenKind}
use Rattle.lra_linear_spec.specs.declared.ConKind.TheVariants as con
use Rattle.lra_linear_spec.specs.declared.GenKind.TheVariants as gen

abbrev pub is_equality : ConKind → Bool
is_equality con.Ge = false
is_equality con.Eq = true

abbrev pub constraint_kind : Bool → ConKind
constraint_kind false = con.Ge
constraint_kind true = con.Eq

-- only a line is taken with factors of either sign
abbrev pub is_line : GenKind → Bool
is_line gen.Point = false
is_line gen.Ray = false
is_line gen.Line = true
