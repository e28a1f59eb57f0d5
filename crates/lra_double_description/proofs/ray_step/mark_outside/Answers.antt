-- Goals of `mark_outside`: marks the rays whose product isn't as the kind asks; so many further places after them are
-- not marked.
use Rattle.std.proofs.{Common.rules, Common.arith, Common.FitsSigned, Common.get_or, Common.pos, lemmas.Int.to_z-of_z}
use Rattle.std.specs.Int.{w128}
use Rattle.lra_double_description.specs.Crates.lra_linear_spec.Kinds.{is_equality}
use Rattle.lra_double_description.proofs.Filling.{marks_more, marks_end}
use Rattle.lra_double_description.proofs.ray_step.mark_outside.Goals as goal

pub loop-k-preserved : goal.loop-k-preserved
loop-k-preserved c =
    let products = c.args.products.now in
    let k = c.loop-k.k in
    let fits : FitsSigned w128 (get_or products k (pos 0)) = search rules in
    marks_more (is_equality c.args.kind) products c.args.further k c.loop-k.gone c.set.new.self c.accepts.result c.loop-k-test.true
    (simp to_z-of_z at c.accepts.ensures) c.set.ensures c.loop-k.invariant

pub returns : goal.returns
returns c = marks_end (is_equality c.args.kind) c.args.products.now c.args.further c.loop-k.k c.loop-k.gone (omega (arith, c.loop-k-test.false, c.loop-k.auto.k-end)) c.loop-k.invariant
