-- The constants so far and those that are left to take are all.
use Rattle.std.proofs.Common.{◌≡◌, fold, length}
use Rattle.lra_syntax.specs.Constants.{constants_of, literals_after, with_constant}
use Rattle.lra_lex.proofs.constants.constants_of.Given as goal

abbrev pub invariant-tokens : goal.invariant-tokens
invariant-tokens l = fold with_constant l.constants.items (literals_after l.minus l.left) ≡ constants_of l.tokens

abbrev pub decreases-tokens : goal.decreases-tokens
decreases-tokens l = length l.left
