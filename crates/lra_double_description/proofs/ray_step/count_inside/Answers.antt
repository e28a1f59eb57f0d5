-- Goals of `count_inside`: how many products are as the kind asks.
use Rattle.std.proofs.{Common.rules, Common.FitsSigned, Common.get_or, Common.pos, Common.ap, Common.sym, Common.◌∙◌, Common.cond, Common.◌+◌, Common.Bool, lemmas.Int.to_z-of_z}
use Rattle.std.specs.Int.{w128}
use Rattle.lra_double_description.specs.Crates.lra_linear_spec.Kinds.{is_equality}
use Rattle.lra_double_description.proofs.{PairLists.counted, PairLists.plus_none, ray_step.count_inside.Goals.then-accepts, ray_step.count_inside.Goals.else-accepts}
use Rattle.lra_double_description.proofs.ray_step.count_inside.Goals as goal

pub loop-k-preserved : goal.loop-k-preserved
loop-k-preserved c =
    let products = c.args.products.now in
    let k = c.loop-k.k in
    let fits : FitsSigned w128 (get_or products k (pos 0)) = search rules in
    let inside = c.loop-k-test.true in
    let told = simp to_z-of_z at c.accepts.ensures in
    elim c.if-accepts.branch [
      | then-accepts w ↦ counted (is_equality c.args.kind) products k c.loop-k.count c.if-accepts.count c.accepts.result inside told
          (w.count-is ∙ ap (λ (b : Bool). c.loop-k.count + cond b 1 0) (sym w.if-accepts.true)) c.loop-k.invariant
      | else-accepts w ↦ counted (is_equality c.args.kind) products k c.loop-k.count c.if-accepts.count c.accepts.result inside told
          (w.count-is ∙ plus_none c.loop-k.count ∙ ap (λ (b : Bool). c.loop-k.count + cond b 1 0) (sym w.if-accepts.false)) c.loop-k.invariant
    ]
