-- Goals of `TreeForm::of`: the shape of a tree.
use Rattle.std.proofs.Common.{refl, ap, ◌∙◌}
use Rattle.lra_operations.specs.TreeViews.{node_view}
use Rattle.lra_pass_results.specs.Steps.{node_steps}
use Rattle.lra_pass_results.proofs.Crates.lra_linearize.TreeViews.{act_view, aside_view, check_view, empty_view, leave_view, point_view}
use Rattle.lra_pass_results.proofs.PassSteps.{aside_steps, empty_steps, point_steps, act_steps, check_steps, leave_steps, seq_shown, seq_taken, choose_shown, choose_taken, iterate_shown}
use Rattle.lra_pass_results.proofs.PassSteps.{iterate_taken, catch_shown, catch_taken, select_shown, select_taken}
use Rattle.lra_pass_results.proofs.tree_forms.TreeForm.of.Goals as goal

pub returns-in-Empty : goal.returns-in-Empty
returns-in-Empty c =
    (ap node_view c.in-Empty.is ∙ empty_view, λ n. ap (node_steps n) c.in-Empty.is ∙ empty_steps n)

pub returns-in-Point : goal.returns-in-Point
returns-in-Point c =
    (ap node_view c.in-Point.is ∙ point_view c.in-Point.point, λ n. ap (node_steps n) c.in-Point.is ∙ point_steps n c.in-Point.point)

pub returns-in-Probe : goal.returns-in-Probe
returns-in-Probe c =
    let k = c.in-Probe in
    (ap node_view k.is ∙ aside_view k.point k.what, λ n. ap (node_steps n) k.is ∙ aside_steps n k.point k.what)

pub returns-in-Act : goal.returns-in-Act
returns-in-Act c =
    (ap node_view c.in-Act.is ∙ act_view c.in-Act.point c.in-Act.op, λ n. ap (node_steps n) c.in-Act.is ∙ act_steps n c.in-Act.point c.in-Act.op)

pub returns-in-Check : goal.returns-in-Check
returns-in-Check c =
    let k = c.in-Check in
    (ap node_view k.is ∙ check_view k.point k.base k.test, λ n. ap (node_steps n) k.is ∙ check_steps n k.point k.base k.test)

pub returns-in-Seq : goal.returns-in-Seq
returns-in-Seq c =
    let n = c.args.node.now in
    let y = c.deref.result.now in
    let xs = c.as_slice.result.now in (
      seq_shown n y xs c.in-Seq.trees c.in-Seq.last c.as_slice.ensures.value c.deref.ensures c.in-Seq.is,
      seq_taken n y xs c.in-Seq.trees c.in-Seq.last c.as_slice.ensures.value c.deref.ensures c.in-Seq.is,
      refl,
    )

pub returns-in-Choose : goal.returns-in-Choose
returns-in-Choose c =
    let n = c.args.node.now in
    let k = c.in-Choose in
    let x = c.deref-in-Choose.result.now in
    let y = c.deref-in-Choose-2.result.now in (
      choose_shown n x y k.yes k.no c.deref-in-Choose.ensures c.deref-in-Choose-2.ensures k.point k.base k.condition k.is,
      choose_taken n x y k.yes k.no c.deref-in-Choose.ensures c.deref-in-Choose-2.ensures k.point k.base k.condition k.is,
      refl,
    )

pub returns-in-Iterate : goal.returns-in-Iterate
returns-in-Iterate c =
    let n = c.args.node.now in
    let l = c.in-Iterate in
    let x = c.deref-in-Iterate.result.now in (
      iterate_shown n x l.body c.deref-in-Iterate.ensures l.point l.base l.condition l.is,
      iterate_taken n x l.body c.deref-in-Iterate.ensures l.point l.base l.condition l.is,
      refl,
    )

pub returns-in-Catch : goal.returns-in-Catch
returns-in-Catch c =
    let n = c.args.node.now in
    let k = c.in-Catch in
    let x = c.deref-in-Catch.result.now in (
      catch_shown n x k.body c.deref-in-Catch.ensures k.point k.exit k.is,
      catch_taken n x k.body c.deref-in-Catch.ensures k.point k.exit k.is,
    )

pub returns-in-Leave : goal.returns-in-Leave
returns-in-Leave c =
    (ap node_view c.in-Leave.is ∙ leave_view c.in-Leave.live c.in-Leave.exit, λ n. ap (node_steps n) c.in-Leave.is ∙ leave_steps n c.in-Leave.live c.in-Leave.exit)

pub returns-in-Select : goal.returns-in-Select
returns-in-Select c =
    let n = c.args.node.now in
    let k = c.in-Select in
    let xs = c.as_slice-in-Select.result.now in (
      select_shown n xs k.arms k.point k.base k.value c.as_slice-in-Select.ensures.value k.is,
      select_taken n xs k.arms k.point k.base k.value c.as_slice-in-Select.ensures.value k.is,
      refl,
    )
