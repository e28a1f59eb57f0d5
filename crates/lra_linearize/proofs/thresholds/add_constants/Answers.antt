-- Goals of `add_constants`: the rows of a variable at the constants come after the others.
use Rattle.std.proofs.Common.{rules, ◌≡◌, ◌++◌, ◌∷◌, [], ◌∙◌, append_assoc}
use Rattle.lra_linearize.proofs.ThresholdSteps.{constant_added}
use Rattle.lra_linearize.proofs.thresholds.add_constants.Goals as goal

pub constants-preserved : goal.constants-preserved
constants-preserved c =
    let (before, whole, added) = c.constants.invariant in
    let left : c.constants.left.now ≡ c.in-Some.constant.now ∷ c.in-Some.behind.now = search rules in
    let front = rw left at whole in (
      before ++ c.in-Some.constant.now ∷ [],
      append_assoc before (c.in-Some.constant.now ∷ []) c.in-Some.behind.now ∙ front,
      constant_added c.args.own.now.rows c.args.place before c.in-Some.constant.now c.dims.result c.in_ok-variable.variable c.args.rows.now c.constants.rows c.add_constant.new.rows
          c.dims.ensures c.in_ok-variable.ensures added c.in_ok-add_constant.ensures,
    )
