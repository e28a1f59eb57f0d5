-- Goals of `gcd_of_words`: Euclid's algorithm on words.
use Rattle.std.proofs.{Common.arith, lemmas.Nat.Gcd.IsGcd-from_mod, lemmas.Nat.Gcd.IsGcd-from_zero}
use Rattle.lra_row.proofs.Facts.{gcd_one}
use Rattle.lra_row.proofs.number.gcd_of_words.Goals as goal

pub loop-y-preserved : goal.loop-y-preserved
loop-y-preserved c = λ g h. c.loop-y.invariant g (IsGcd-from_mod c.loop-y.x c.loop-y.y g h)

pub returns-then-y-eq1 : goal.returns-then-y-eq1
returns-then-y-eq1 c = c.loop-y.invariant 1 (gcd_one c.loop-y.x c.loop-y.y (omega arith))

pub returns-else-y-eq1 : goal.returns-else-y-eq1
returns-else-y-eq1 c = c.loop-y.invariant c.loop-y.x (IsGcd-from_zero c.loop-y.x c.loop-y.y (omega arith))
