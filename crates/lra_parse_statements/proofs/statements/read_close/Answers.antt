-- Goals of `read_close`: the block of these items, whose brace comes next.
use Rattle.std.proofs.Common.{Ok, sym, ap, map, ◌∙◌}
use Rattle.lra_parse_statements.specs.Crates.lra_base.declared.refusals.Place.{Place}
use Rattle.lra_syntax.specs.{Trees.ItemsTree, Views.item_view, Views.items_of}
use Rattle.lra_parse_statements.proofs.Stated.{close_gives, body_view}
use Rattle.lra_parse_statements.proofs.statements.read_close.Goals as goal

pub returns-clause-gives : goal.returns-clause-gives
returns-clause-gives c =
    close_gives (items_of (map item_view c.args.items.items)) c.args.rest.now c.in_ok-end.behind.now c.in_ok-end.end c.in_ok-end.ensures.gives
    ∙ ap (λ (b : ItemsTree × Place). Ok (b, c.in_ok-end.behind.now)) (sym (body_view (record { items = c.args.items; end = c.in_ok-end.end })))
