-- Goals of `take_change`: one change more.
use Rattle.std.proofs.Common.{◌∙◌, List, ℤ, ap, suc, refl, Result, Ok}
use Rattle.lra_certificate_lines.specs.Crates.{lra_domain.Changes.action_of, lra_domain.declared.changes.Change.Change, lra_linear_spec.CheckedArithmetic.and_then, lra_linear_spec.Kinds.is_equality}
use Rattle.lra_certificate_lines.specs.Crates.{lra_linear_spec.declared.Excess.Excess}
use Rattle.lra_multipliers.specs.Symbols.{tests_too, executed_action}
use Rattle.lra_certificate_lines.specs.SymbolicViews.{symbolic_view}
use Rattle.lra_certificate_lines.proofs.WalkChanges.{test_made}
use Rattle.lra_certificate_lines.proofs.symbolic.SymbolicExecution.take_change.Goals as goal

pub returns-in_ok-push-in-Test-clause-made : goal.returns-in_ok-push-in-Test-clause-made
returns-in_ok-push-in-Test-clause-made c =
    let w = symbolic_view c.args.self.now in
    let kind = c.in-Test.test.kind in
    test_made (suc c.args.self.now.tests.dims) (action_of c.args.change.now) w c.args.self.now.tests c.push.new.self c.in_ok-row-in-Test.row kind
    (ap (λ (ch : Change). executed_action (suc c.args.self.now.tests.dims) (action_of ch) w) c.in-Test.is ∙
    ap (λ (r : Result (List ℤ) Excess). and_then r (λ (row : List ℤ). Ok (tests_too w (record { row = row; equal = is_equality kind }))))
    c.in_ok-row-in-Test.ensures.made) refl c.requires.wide.kinds c.in_ok-push-in-Test.ensures.rows c.in_ok-push-in-Test.ensures.kinds
