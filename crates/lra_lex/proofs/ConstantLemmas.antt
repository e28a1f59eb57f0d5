-- Steps of the proofs on constants.
use Rattle.std.proofs.Common.{◌≡◌, ◌∙◌, ℤ, List, [], ◌∷◌, ◌++◌, Bool, fold, refl, sym}
use Rattle.lra_syntax.specs.{Constants.constants_of, Constants.is_minus, Constants.literal_at, Constants.literals_after, Constants.with_constant, declared.tokens.Token.Token}

-- taken in two goes
pub taken_both : (so : List ℤ) (xs ys : List ℤ) → fold with_constant so (xs ++ ys) ≡ fold with_constant (fold with_constant so xs) ys
taken_both so [] ys = refl
taken_both so (x ∷ xs) ys = taken_both (with_constant so x) xs ys

-- one token more is taken
pub token_taken : (so new : List ℤ) (minus next : Bool) (t : Token) (ts all : List Token) → new ≡ fold with_constant so (literal_at minus t.kind)
    → next ≡ is_minus t.kind → fold with_constant so (literals_after minus (t ∷ ts)) ≡ constants_of all
    → fold with_constant new (literals_after next ts) ≡ constants_of all
token_taken so new minus next t ts all is sign before =
    rw (is, sign) (sym (taken_both so (literal_at minus t.kind) (literals_after (is_minus t.kind) ts)) ∙ before)
