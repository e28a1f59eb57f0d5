-- Goals of `list_test`: the constraint of the test, alone.
use Rattle.std.proofs.Common.{◌≡◌, ◌∙◌, ◌++◌, ◌∷◌, [], List, ℤ, ap, length, refl, sym}
use Rattle.lra_duality.specs.Crates.{lra_linear_spec.Kinds.is_equality, lra_systems.LinearSystems.rows_by_kind}
use Rattle.lra_linear_forms.specs.Form.{form_row}
use Rattle.lra_duality.specs.Rows.{test_row}
use Rattle.lra_duality.proofs.JoinedLists.{row_added}
use Rattle.lra_duality.proofs.lists.list_test.Goals as goal

pub returns-clause-rows : goal.returns-clause-rows
returns-clause-rows c =
    let none = c.new-list.result in
    let row = test_row c.args.test.now.kind c.args.test.now.expr in
    let many : length none.kinds ≡ length none.rows = ap length c.new-list.ensures.kinds ∙ sym (ap length c.new-list.ensures.rows) in
    row_added none none c.push.new.self c.in_ok-row.row (form_row c.args.test.now.expr) c.args.test.now.kind refl c.in_ok-push.ensures.rows c.in_ok-push.ensures.kinds
    c.in_ok-row.ensures many ∙ ap (λ (l : List (List ℤ)). rows_by_kind is_equality l none.kinds ++ row ∷ []) c.new-list.ensures.rows
