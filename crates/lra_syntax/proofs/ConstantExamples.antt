-- Constants of short lists of tokens. Which slip an example would catch stands beside it.
use Rattle.std.proofs.Common.{◌≡◌, ℕ, zero, suc, ℤ, pos, negsuc, List, [], ◌∷◌, length, map, refl}
use Rattle.lra_base.specs.declared.number_types.NumberType.TheVariants.{Int, Long}
use Rattle.lra_syntax.specs.{Constants.constants_of, declared.tokens.Kind.Kind, declared.tokens.Kind.TheVariants.Number, declared.tokens.Kind.TheVariants.Mark, declared.tokens.Kind.TheVariants.End}
use Rattle.lra_syntax.specs.{declared.tokens.Mark.TheVariants.Minus, declared.tokens.Mark.TheVariants.OpenParen, declared.tokens.Mark.TheVariants.Decrement, declared.tokens.Token.Token}

abbrev token_of : Kind → Token
token_of k = record { kind = k; place = record { line = 1; column = 1 } }

abbrev constants_among : List Kind → List ℤ
constants_among ks = constants_of (map token_of ks)

-- `-7`, `x - 5`, `-(3)`: catches a constant without its sign, and a sign that a parenthesis parts from its literal
constants_with_signs : constants_among (Mark Minus ∷ Number Int 7 ∷ Mark Minus ∷ Number Int 5 ∷ Mark Minus ∷ Mark OpenParen ∷ Number Int 3 ∷ End ∷ [])
    ≡ negsuc 6 ∷ negsuc 4 ∷ pos 3 ∷ []
constants_with_signs = refl

-- `x--` has no literal, and no minus sign for the next one
decrement_is_no_sign : constants_among (Mark Decrement ∷ Number Int 4 ∷ End ∷ []) ≡ pos 4 ∷ []
decrement_is_no_sign = refl

-- 3, 3, -3, 0, -0: catches one that is given twice, and -0 beside 0
constants_once : constants_among (Number Int 3 ∷ Number Int 3 ∷ Mark Minus ∷ Number Int 3 ∷ Number Int 0 ∷ Mark Minus ∷ Number Int 0 ∷ []) ≡ pos 3 ∷ negsuc 2 ∷ pos 0 ∷ []
constants_once = refl

-- 2147483648 with both signs, and not 2147483649: catches a limit of 2^31 - 1
constants_at_the_limit : constants_among (Number Long 2147483648 ∷ Mark Minus ∷ Number Long 2147483648 ∷ Number Long 2147483649 ∷ Mark Minus ∷ Number Long 2147483649 ∷ Number Int 1 ∷ [])
    ≡ pos 2147483648 ∷ negsuc 2147483647 ∷ pos 1 ∷ []
constants_at_the_limit = refl

-- so many numbers from this one on
abbrev numbers_from : ℕ → ℕ → List Kind
numbers_from n zero = []
numbers_from n (suc k) = Number Int n ∷ numbers_from (suc n) k

-- the first 64 that are small: catches 64 literals of which large ones count
first_constants : length (constants_among (Number Long 2147483649 ∷ numbers_from 1 70)) ≡ 64
first_constants = refl
