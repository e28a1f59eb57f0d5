-- Goals of `division_by`: the division of the one by the other, if this is a constant above 0 and the two cases fit 64 bits.
use Rattle.std.proofs.Common.{rules, ◌≡◌, ◌∙◌, sym, subst, ℤ, pos, Some, None, true, to_z, of_z}
use Rattle.std.specs.{Int.w64, Prelude.◌&&◌, Prelude.int_le}
use Rattle.lra_linearize.specs.Crates.lra_linear_forms.Form.{Form, opposite_form}
use Rattle.lra_analysis_spec.specs.{Linear.fitting, Linear.is_constant, Linearization.form_plus_one, Linearization.division, declared.linearization.Division.Division}
use Rattle.lra_linearize.proofs.LinearizationSteps.{no_divisor, no_more, no_opposite, division_is}
use Rattle.lra_linearize.proofs.linearization.division_by.Goals as goal

-- the divisor comes by value
abbrev divided_at : Form → Form → ℤ → Division
divided_at f less k = record { numerator = f; opposite = less; divisor = k }

pub returns-then-not-is_divisor : goal.returns-then-not-is_divisor
returns-then-not-is_divisor c = no_divisor c.args.numerator c.args.divisor.now (sym c.is_divisor.ensures ∙ c.if-not-is_divisor.true)

pub returns-in_default : goal.returns-in_default
returns-in_default c =
    let divides : (is_constant c.args.divisor.now && int_le (pos 1) c.args.divisor.now.constant) ≡ true =
    sym c.is_divisor.ensures ∙ c.if-not-is_divisor.false in
    let none : None ≡ form_plus_one c.args.numerator = rw c.in_default.is at c.in_ok-one_more_of.ensures in
    no_more c.args.numerator c.args.divisor.now divides none

pub returns-in_default-2 : goal.returns-in_default-2
returns-in_default-2 c =
    let divides : (is_constant c.args.divisor.now && int_le (pos 1) c.args.divisor.now.constant) ≡ true =
    sym c.is_divisor.ensures ∙ c.if-not-is_divisor.false in
    let more : Some c.in-Some.field-0 ≡ form_plus_one c.args.numerator = rw c.in-Some.is at c.in_ok-one_more_of.ensures in
    let none : None ≡ fitting (opposite_form c.args.numerator) = rw c.in_default-2.is at c.in_ok-opposite.ensures in
    no_opposite c.args.numerator c.args.divisor.now c.in-Some.field-0 divides more none

pub returns : goal.returns
returns c =
    let divides : (is_constant c.args.divisor.now && int_le (pos 1) c.args.divisor.now.constant) ≡ true =
    sym c.is_divisor.ensures ∙ c.if-not-is_divisor.false in
    let more : Some c.in-Some.field-0 ≡ form_plus_one c.args.numerator = rw c.in-Some.is at c.in_ok-one_more_of.ensures in
    let less : Some c.in-Some-2.opposite ≡ fitting (opposite_form c.args.numerator) = rw c.in-Some-2.is at c.in_ok-opposite.ensures in
    let same : to_z w64 (of_z w64 c.constant.result) ≡ c.args.divisor.now.constant = search rules in
    subst (λ (k : ℤ). Some (divided_at c.args.numerator c.in-Some-2.opposite k) ≡ division c.args.numerator c.args.divisor.now) (sym same)
    (division_is c.args.numerator c.args.divisor.now c.in-Some.field-0 c.in-Some-2.opposite divides more less)
