-- Goals of `live_inside`: how many variables live after the items, if the number fits.
use Rattle.std.proofs.Common.{◌∙◌}
use Rattle.lra_inline_steps.proofs.LiveInside.{declared_behind, filled_behind, stated_behind, none_behind, beyond}
use Rattle.lra_inline_steps.proofs.opening.live_inside.Goals.{in-Declaration+in-Some, in-Array, in-Statement}
use Rattle.lra_inline_steps.proofs.opening.live_inside.Goals as goal

pub returns-in-None : goal.returns-in-None
returns-in-None c = beyond c.args.items.now c.items.item-index c.items.inside _ c.item-item.result c.in-Declaration.field-0 c.items-test.true c.item-item.is c.in-Declaration.is c.items.invariant
    c.in-None.ensures

pub items-preserved : goal.items-preserved
items-preserved c = elim c.match-item.branch [
  | in-Declaration+in-Some w ↦ declared_behind c.args.items.now c.items.item-index c.items.inside c.match-item.inside c.item-item.result w.in-Declaration.field-0 c.items-test.true c.item-item.is
      w.in-Declaration.is (w.inside-is ∙ w.in-Some.ensures.1) ∙ c.items.invariant
  | in-Array w ↦ rw w.inside-is (filled_behind c.args.items.now c.items.item-index c.items.inside c.item-item.result w.in-Array.field-0
      w.in-Array.field-1 c.items-test.true c.item-item.is w.in-Array.is ∙ c.items.invariant)
  | in-Statement w ↦ rw w.inside-is (stated_behind c.args.items.now c.items.item-index c.items.inside c.item-item.result w.in-Statement.field-0 c.items-test.true c.item-item.is w.in-Statement.is
      ∙ c.items.invariant)
]

pub returns : goal.returns
returns c = none_behind c.args.items.now c.items.item-index c.items.inside _ c.items-test.false c.items.invariant
