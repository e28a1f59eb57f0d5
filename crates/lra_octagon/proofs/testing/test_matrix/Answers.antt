-- Goals of `test_matrix`: tests a matrix by `constant + factors >= 0`.
use Rattle.std.proofs.Common.{rules, ◌≡◌, sym, ◌∙◌, true}
use Rattle.std.specs.Prelude.{pos, int_lt}
use Rattle.lra_box.specs.Bounds.{form}
use Rattle.lra_octagon.specs.{Content.matrix_view, Forms.shape, declared.forms.FormShape.TheVariants.Constant, declared.forms.FormShape.TheVariants.One, declared.forms.FormShape.TheVariants.Two}
use Rattle.lra_octagon.proofs.{FormLemmas.one_in_range, FormLemmas.two_in_range, TestLemmas.tested_negative, TestLemmas.tested_one, TestLemmas.tested_two}
use Rattle.lra_octagon.proofs.testing.test_matrix.Goals as goal

pub returns-then-constant-lt0-clause-tested : goal.returns-then-constant-lt0-clause-tested
returns-then-constant-lt0-clause-tested c =
    let is : Constant ≡ shape (form c.args.constant c.args.factors.now) = sym c.in-Constant.is ∙ c.classify.ensures in
    let low : int_lt c.args.constant (pos 0) ≡ true = search rules in
    rw (← is) (tested_negative c.args.n (form c.args.constant c.args.factors.now) c.args.matrix.now.cells is low)

pub quotient-least-requires-clause-some : goal.quotient-least-requires-clause-some
quotient-least-requires-clause-some c = (one_in_range c.args.n c.args.factors.now c.in-One.magnitude c.in-One.i c.requires.width c.requires.range (sym c.in-One.is ∙ c.classify.ensures)).1

pub quotient-least-requires-clause-magnitude : goal.quotient-least-requires-clause-magnitude
quotient-least-requires-clause-magnitude c = (one_in_range c.args.n c.args.factors.now c.in-One.magnitude c.in-One.i c.requires.width c.requires.range (sym c.in-One.is ∙ c.classify.ensures)).2

pub test_pair-requires-clause-row : goal.test_pair-requires-clause-row
test_pair-requires-clause-row c = (one_in_range c.args.n c.args.factors.now c.in-One.magnitude c.in-One.i c.requires.width c.requires.range (sym c.in-One.is ∙ c.classify.ensures)).0

pub test_pair-requires-clause-column : goal.test_pair-requires-clause-column
test_pair-requires-clause-column c = (one_in_range c.args.n c.args.factors.now c.in-One.magnitude c.in-One.i c.requires.width c.requires.range (sym c.in-One.is ∙ c.classify.ensures)).0

pub quotient-least-requires-in-Two-clause-some : goal.quotient-least-requires-in-Two-clause-some
quotient-least-requires-in-Two-clause-some c =
    (two_in_range c.args.n c.args.factors.now c.in-Two.magnitude c.in-Two.i c.in-Two.j c.requires.width c.requires.range (sym c.in-Two.is ∙ c.classify.ensures)).2

pub quotient-least-requires-in-Two-clause-magnitude : goal.quotient-least-requires-in-Two-clause-magnitude
quotient-least-requires-in-Two-clause-magnitude c =
    (two_in_range c.args.n c.args.factors.now c.in-Two.magnitude c.in-Two.i c.in-Two.j c.requires.width c.requires.range (sym c.in-Two.is ∙ c.classify.ensures)).3

pub test_pair-requires-in-Two-clause-row : goal.test_pair-requires-in-Two-clause-row
test_pair-requires-in-Two-clause-row c =
    (two_in_range c.args.n c.args.factors.now c.in-Two.magnitude c.in-Two.i c.in-Two.j c.requires.width c.requires.range (sym c.in-Two.is ∙ c.classify.ensures)).0

pub test_pair-requires-in-Two-clause-column : goal.test_pair-requires-in-Two-clause-column
test_pair-requires-in-Two-clause-column c =
    (two_in_range c.args.n c.args.factors.now c.in-Two.magnitude c.in-Two.i c.in-Two.j c.requires.width c.requires.range (sym c.in-Two.is ∙ c.classify.ensures)).1

pub returns-in_ok-tested-in-One-clause-tested : goal.returns-in_ok-tested-in-One-clause-tested
returns-in_ok-tested-in-One-clause-tested c =
    let is : One c.in-One.magnitude c.in-One.i ≡ shape (form c.args.constant c.args.factors.now) = sym c.in-One.is ∙ c.classify.ensures in
    let fit = one_in_range c.args.n c.args.factors.now c.in-One.magnitude c.in-One.i c.requires.width c.requires.range is in
    rw (← is) (tested_one c.args.n c.in-One.magnitude c.in-One.i (form c.args.constant c.args.factors.now) c.args.matrix.now.cells (matrix_view c.in_ok-tested-in-One.tested.0)
    c.in_ok-tested-in-One.tested.1
    is fit.0 fit.1 c.requires.fit.is (search rules))

pub returns-in_ok-tested-in-Two-clause-tested : goal.returns-in_ok-tested-in-Two-clause-tested
returns-in_ok-tested-in-Two-clause-tested c =
    let is : Two c.in-Two.magnitude c.in-Two.i c.in-Two.j ≡ shape (form c.args.constant c.args.factors.now) = sym c.in-Two.is ∙ c.classify.ensures in
    let fit = two_in_range c.args.n c.args.factors.now c.in-Two.magnitude c.in-Two.i c.in-Two.j c.requires.width c.requires.range is in
    rw (← is) (tested_two c.args.n c.in-Two.magnitude c.in-Two.i c.in-Two.j (form c.args.constant c.args.factors.now) c.args.matrix.now.cells (matrix_view c.in_ok-tested-in-Two.tested.0)
    c.in_ok-tested-in-Two.tested.1 is fit.0 fit.1 fit.2 c.requires.fit.is (search rules))
