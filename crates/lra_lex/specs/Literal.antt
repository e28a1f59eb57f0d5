-- How a number word is cut into the parts of a literal, and the type of the literal that it is.
use Rattle.std.specs.Prelude.{◌≡◌, ℕ, nat_eq, ◌||◌, List, slice_index, if◌then◌else◌}
use Rattle.lra_base.specs.declared.number_types.NumberType.{NumberType}
use Rattle.lra_syntax.specs.Lexeme.{Base, octal, decimal_base, hexadecimal, IsLiteral, literal_type}
use Rattle.lra_lex.specs.declared.literals.Radix.{Radix}
use Rattle.lra_lex.specs.declared.literals.Radix.TheVariants.{Octal, Decimal, Hexadecimal}

-- the base that a radix stands for
abbrev pub base_of : Radix → Base
base_of Octal = octal
base_of Decimal = decimal_base
base_of Hexadecimal = hexadecimal

-- the base that the first two bytes report
abbrev pub base_at : List ℕ → Base
base_at s = if nat_eq (slice_index s 0) 48 then (if nat_eq (slice_index s 1) 120 || nat_eq (slice_index s 1) 88
    then hexadecimal else octal) else decimal_base

-- how many bytes stand before the digits
abbrev pub front_size : Base → ℕ
front_size octal = 1
front_size decimal_base = 0
front_size hexadecimal = 2

-- a literal of this type and value
abbrev pub IsTyped : List ℕ → NumberType → ℕ → Type 0
IsTyped s t n = (l : IsLiteral s n) × (t ≡ literal_type l.suffix n)
