-- Goals of `tighten`: the numbers of the interval for which the form isn't negative.
use Rattle.lra_box.proofs.TightenLemmas.{high_range, high_value, low_range, low_value}
use Rattle.lra_box.proofs.interval.tighten.Goals as goal

pub returns-then-c-gt0-clause-range : goal.returns-then-c-gt0-clause-range
returns-then-c-gt0-clause-range c =
    low_range c.args.c c.in-Some.m c.div_euclid.result c.raise.result c.args.most c.args.interval c.in-Some.is c.requires.factor
    c.requires.most c.requires.ends c.if-c-gt0.true c.div_euclid.ensures c.raise.ensures

pub returns-then-c-gt0-clause-value : goal.returns-then-c-gt0-clause-value
returns-then-c-gt0-clause-value c =
    low_value c.args.c c.in-Some.m c.div_euclid.result c.raise.result c.args.most c.args.interval c.in-Some.is c.requires.factor
    c.requires.most c.requires.ends c.if-c-gt0.true c.div_euclid.ensures c.raise.ensures

pub returns-then-c-lt0-clause-range : goal.returns-then-c-lt0-clause-range
returns-then-c-lt0-clause-range c =
    high_range c.args.c c.in-Some.m c.div_euclid-then-c-lt0.result c.lower.result c.args.most c.args.interval c.in-Some.is
    c.requires.factor c.requires.most c.requires.ends c.if-c-lt0.true c.div_euclid-then-c-lt0.ensures c.lower.ensures

pub returns-then-c-lt0-clause-value : goal.returns-then-c-lt0-clause-value
returns-then-c-lt0-clause-value c =
    high_value c.args.c c.in-Some.m c.div_euclid-then-c-lt0.result c.lower.result c.args.most c.args.interval c.in-Some.is
    c.requires.factor c.requires.most c.requires.ends c.if-c-lt0.true c.div_euclid-then-c-lt0.ensures c.lower.ensures
