-- Goals of `open_stmt`: whichever form of statement it is.
use Rattle.std.proofs.Common.{◌≡◌, map, ap, ◌∙◌, sym}
use Rattle.lra_program.specs.{Program.block, ProgramViews.stmt_view, ProgramViews.item_view, ProgramViews.items_of}
use Rattle.lra_inline_steps.proofs.Shown.{shown_block}
use Rattle.lra_inline_steps.proofs.opening.open_stmt.Goals as goal

pub returns-in-Block-clause-leads : goal.returns-in-Block-clause-leads
returns-in-Block-clause-leads c =
    let is : stmt_view c.args.stmt.now ≡ block (items_of (map item_view c.deref.result.now)) c.in-Block.end = ap stmt_view c.in-Block.is
    ∙ shown_block c.in-Block.items c.in-Block.end ∙ ap (λ z. block (items_of (map item_view z)) c.in-Block.end) (sym c.deref.ensures.value) in
    rw is (c.open_block.ensures.leads c.args.sites.now)
