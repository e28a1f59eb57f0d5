-- Goals of `pass_along`: one leaf more is passed, and the last.
use Rattle.std.proofs.{Common.rules, Common.◌≡◌, Common.◌∷◌, Common.map, Common.ap, Common.◌∙◌, lemmas.List.nil_from_length}
use Rattle.lra_pass_results.specs.Crates.lra_domain.Interference.{no_interference}
use Rattle.lra_operations.specs.{Tree.seq, TreeViews.node_view, TreeViews.row}
use Rattle.lra_pass_results.specs.TreeForms.{leaf_view}
use Rattle.lra_pass_results.proofs.{FlatRows.first_leaf, FlatRows.flat_ends, FlatRows.flat_next, PassRows.row_first, PassRows.row_last}
use Rattle.lra_pass_results.proofs.flat.pass_along.Goals as goal

pub leaves-preserved : goal.leaves-preserved
leaves-preserved g c =
    let l = c.leaves in
    let last = c.args.the_row.last.now in
    let others = row (map node_view c.in-Some.behind.now) (node_view last) in
    let first : l.left.now ≡ c.in-Some.node.now ∷ c.in-Some.behind.now = search rules in
    record {
      loop = flat_next no_interference g.D.Domain.abstraction c.args.plan.now _ _ (leaf_view c.leaf_of-leaf.result) others c.args.so_far.now l.so_far
          c.pass_on.new.so_far (row_first l.left.now c.in-Some.behind.now c.in-Some.node.now last first
          ∙ ap (λ x. seq x others) c.leaf_of-leaf.ensures) c.in_ok-pass_on.ensures l.invariant.loop;
      leaves = (first_leaf l.left.now c.in-Some.behind.now c.in-Some.node.now first l.invariant.leaves).1;
    }

pub returns : goal.returns
returns g c =
    let m = g.D.Domain.abstraction in
    let set = c.args.plan.now in
    let l = c.leaves in
    let last = c.args.the_row.last.now in
    let all = row (map node_view c.args.the_row.trees.now) (node_view last) in
    let none = nil_from_length l.left.now c.in_default.ensures.cases in
    let is = row_last l.left.now last none ∙ c.leaf_of-last.ensures in
    flat_ends no_interference m set all _ (leaf_view c.leaf_of-last.result) c.args.so_far.now l.so_far c.pass_on-2.new.so_far is
    c.in_ok-pass_on-2.ensures l.invariant.loop
