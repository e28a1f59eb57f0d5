-- Goals of `gcd_of`: euclid's algorithm.
use Rattle.std.proofs.{Common.arith, lemmas.Nat.Gcd.IsGcd-from_mod, lemmas.Nat.Gcd.IsGcd-from_zero}
use Rattle.lra_row.proofs.number.gcd_of.Goals as goal

pub loop-y-preserved : goal.loop-y-preserved
loop-y-preserved c = ((λ g h. c.loop-y.invariant.0 g (IsGcd-from_mod c.loop-y.x c.loop-y.y g h)), omega arith, omega arith)

pub returns-clause-divides : goal.returns-clause-divides
returns-clause-divides c = c.loop-y.invariant.0 c.loop-y.x (IsGcd-from_zero c.loop-y.x c.loop-y.y (omega arith))
