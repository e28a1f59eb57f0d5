-- Goals of `extend_form`: the form over two variables more.
use Rattle.std.proofs.Common.{rules, ◌≡◌, ◌++◌, [], ◌∷◌}
use Rattle.lra_linearize.proofs.LinearizationSteps.{extended_is}
use Rattle.lra_linearize.proofs.linearization.extend_form.Goals as goal

pub returns : goal.returns
returns c =
    let is : c.in_ok-form.form ≡ record { constant = c.args.f.now.constant; coefficients = c.push-2.new.self.items } = search rules in
    let one : c.push.new.self.items ≡ c.args.f.now.coefficients ++ c.args.quotient ∷ [] = search rules in
    let two : c.push-2.new.self.items ≡ c.push.new.self.items ++ c.args.remainder ∷ [] = search rules in
    extended_is c.args.f.now c.in_ok-form.form c.push.new.self.items c.push-2.new.self.items c.args.quotient c.args.remainder is one two
