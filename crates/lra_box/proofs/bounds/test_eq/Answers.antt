-- Goals of `test_eq`: refines by `constant + factors = 0`.
use Rattle.std.proofs.{Common.rules, Common.arith, Common.◌≡◌, Common.pos, Common.◌-ℤ◌, Common.length, Common.FitsSigned, lemmas.Int.ints, lemmas.Int.to_z-of_z, lemmas.List.length-map}
use Rattle.std.specs.{Int.w128, Prelude.neg_ℤ}
use Rattle.lra_box.specs.{Bounds.form, Content.bounds_view}
use Rattle.lra_box.proofs.TestLemmas.{equal_tested}
use Rattle.lra_box.proofs.bounds.test_eq.Goals as goal

pub test_ge-two-requires-clause-width : goal.test_ge-two-requires-clause-width
test_ge-two-requires-clause-width c =
    let fit = c.test_ge-one.ensures.tested.fit (length c.args.factors.now) c.requires.width in
    rw (c.requires.negated, length-map c.args.factors.now neg_ℤ) fit

pub returns : goal.returns
returns c =
    let fit : FitsSigned w128 (neg_ℤ c.args.constant) = search rules in
    let one = rw (to_z-of_z w128 c.args.constant c.ranges.constant) at c.test_ge-one.ensures.tested in
    let minus : pos 0 -ℤ c.args.constant ≡ neg_ℤ c.args.constant = omega (arith, ints) in
    let two = rw (to_z-of_z w128 c.args.constant c.ranges.constant, minus, to_z-of_z w128 (neg_ℤ c.args.constant) fit, c.requires.negated) at c.test_ge-two.ensures.tested in
    record {
      tested = equal_tested (form c.args.constant c.args.factors.now) (bounds_view c.args.bounds.now) (bounds_view c.test_ge-one.new.bounds)
          (bounds_view c.test_ge-two.new.bounds) _ _ _ one two c.worse.ensures.exact c.worse.ensures.flagged;
    }
