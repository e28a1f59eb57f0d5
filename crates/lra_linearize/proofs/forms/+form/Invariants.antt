use Rattle.std.proofs.Common.{◌≡◌, map, drop, Some}
use Rattle.lra_linearize.specs.Crates.lra_program.ProgramViews.{operation_view}
use Rattle.lra_linearize.specs.Forms.{rest_form}
use Rattle.lra_linearize.proofs.forms.+form.Given as goal

abbrev pub invariant-form_of_chain-operations : goal.invariant-form_of_chain-operations
invariant-form_of_chain-operations l =
    rest_form l.live l.base (Some l.form) (map operation_view (drop l.operation-index l.operations)) ≡
    rest_form l.live l.base (Some l.fn.first) (map operation_view l.operations)
