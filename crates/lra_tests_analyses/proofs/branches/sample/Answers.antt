-- Goals of `sample`: the tree and its points.
use Rattle.std.proofs.Common.{◌∙◌, ap, map}
use Rattle.lra_program.specs.ProgramViews.{cond_view, expr_view}
use Rattle.lra_program.specs.{Receivers.variable_at, Step.append, Step.store_value, declared.program.Expr.TheVariants.Input, declared.receivers.Receiver.Receiver}
use Rattle.lra_operations.specs.{Tree.Node, Tree.point, Tree.act, Tree.check, Tree.seq, Tree.choose, TreeViews.node_view, TreeViews.site_view}
use Rattle.lra_tests_analyses.proofs.SampleTree.{sample_numbered, asserts_seen}
use Rattle.lra_tests_analyses.proofs.branches.sample.Goals as goal

pub returns-clause-numbered : goal.returns-clause-numbered
returns-clause-numbered c =
    let branches = c.in_ok-branches.ensures ∙ ap (λ (t : Node). seq (point 1) (choose 1 0 (cond_view c.args.condition) t (node_view c.in_ok-no.no))) c.in_ok-yes.ensures
    ∙ ap (λ (t : Node). seq (point 1) (choose 1 0 (cond_view c.args.condition) (seq (point 2) (check 2 0 (cond_view c.at_least.result))) t)) c.in_ok-no.ensures in
    let rest = c.in_ok-rest.ensures ∙ ap (λ (t : Node). seq t (point 4)) branches in
    let given = c.in_ok-given.ensures ∙ ap (λ (x : Receiver). seq (act 0 (store_value 0 x (expr_view Input))) (node_view c.in_ok-rest.rest)) c.variable-receiver.ensures
    ∙ ap (λ (t : Node). seq (act 0 (store_value 0 (variable_at 0 c.args.number_type) (expr_view Input))) t) rest in
    let tree = c.in_ok-tree.ensures ∙ ap (λ (t : Node). seq (point 0) t) (c.in_ok-declared.ensures ∙ ap (λ (t : Node). seq (act 0 (append c.args.number_type)) t) given) in
    sample_numbered (map site_view c.in_ok-sites.sites.items) (node_view c.in_ok-tree.tree) _ _ _ _ _ tree (asserts_seen c.in_ok-sites.sites.items ∙ c.in_ok-sites.ensures)
