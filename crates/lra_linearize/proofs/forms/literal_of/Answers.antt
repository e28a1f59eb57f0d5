-- Goals of `literal_of`: the form of a literal, if it has 64 bits.
use Rattle.std.proofs.Common.{rules, ◌≡◌, pos, FitsSigned, to_z, of_z}
use Rattle.std.specs.Int.{w64}
use Rattle.lra_linearize.proofs.FormSteps.{literal_form}
use Rattle.lra_linearize.proofs.forms.literal_of.Goals as goal

pub returns-in_ok-form-in-Ok : goal.returns-in_ok-form-in-Ok
returns-in_ok-form-in-Ok c =
    let same : c.in-Ok.constant ≡ pos c.args.number = search rules in
    let fits : FitsSigned w64 c.in-Ok.constant = search rules in
    let kept : to_z w64 (of_z w64 c.in-Ok.constant) ≡ c.in-Ok.constant = search rules in
    literal_form c.args.live c.args.number c.in-Ok.constant c.in_ok-form-in-Ok.form same fits (rw kept at c.in_ok-form-in-Ok.ensures)
