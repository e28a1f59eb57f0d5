-- The constants of a source: the values of its literals, as its tokens have them.
use Rattle.std.specs.Prelude.{ℕ, ℤ, pos, neg_ℤ, ◌^◌, ◌&&◌, Bool, true, false, not, List, [], ◌∷◌, ◌++◌, fold, length}
use Rattle.std.specs.Prelude.{nat_le, nat_lt, unsigned_abs, if◌then◌else◌}
use Rattle.std.specs.{List.list_any, Ordering.int_eq}
use Rattle.lra_syntax.specs.declared.tokens.Kind.TheVariants.{Number, Mark}
use Rattle.lra_syntax.specs.declared.tokens.Token.{Token}
use Rattle.lra_syntax.specs.{declared.tokens.Kind.Kind, declared.tokens.Mark.TheVariants.Minus}

-- a literal's value, with the sign that stands directly before it
abbrev pub signed : Bool → ℕ → ℤ
signed true n = neg_ℤ (pos n)
signed false n = pos n

abbrev pub literal_at : Bool → Kind → List ℤ
literal_at minus (Number t n) = signed minus n ∷ []
literal_at minus kind = []

abbrev pub is_minus : Kind → Bool
is_minus (Mark Minus) = true
is_minus kind = false

-- the literals in text order; whether a `-` stands directly before the first token
abbrev pub literals_after : Bool → List Token → List ℤ
literals_after minus [] = []
literals_after minus (t ∷ ts) = literal_at minus t.kind ++ literals_after (is_minus t.kind) ts

abbrev pub most_constants : ℕ
most_constants = 64

abbrev pub greatest_constant : ℕ
greatest_constant = 2 ^ 31

abbrev pub is_small : ℤ → Bool
is_small z = nat_le (unsigned_abs z) greatest_constant

-- the constants so far with one more, unless they are full, or it is among them, or it is too large
abbrev pub with_constant : List ℤ → ℤ → List ℤ
with_constant so z =
    if nat_lt (length so) most_constants && (is_small z && not (list_any (λ y. int_eq y z) so))
    then so ++ z ∷ [] else so

-- each once, the first 64 of those whose magnitude is at most 2^31
abbrev pub constants_of : List Token → List ℤ
constants_of tokens = fold with_constant [] (literals_after false tokens)
