-- The items that are left lead to where all of them lead.
use Rattle.std.proofs.Common.{◌≡◌, map, drop}
use Rattle.lra_program.specs.{ProgramViews.item_view, ProgramViews.items_of, Sites.live_after_items}
use Rattle.lra_inline_steps.proofs.opening.live_inside.Given as goal

abbrev pub invariant-items : goal.invariant-items
invariant-items l = live_after_items l.inside (items_of (map item_view (drop l.item-index l.items)))
    ≡ live_after_items l.live (items_of (map item_view l.items))
