-- Goals of `gcd`: the greatest common divisor, never negative; that of 0 and 0 is 0.
use Rattle.lra_row.proofs.Facts.{gcd_read}
use Rattle.lra_row.proofs.number.gcd.Goals as goal

pub returns-clause-divides : goal.returns-clause-divides
returns-clause-divides c = gcd_read c.args.a c.args.b _ _ c.gcd_of.result c.ranges.a c.ranges.b c.unsigned_abs.ensures.value c.unsigned_abs-2.ensures.value c.gcd_of.ensures.small
    c.gcd_of.ensures.divides
