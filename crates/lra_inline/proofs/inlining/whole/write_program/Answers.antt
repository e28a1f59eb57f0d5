-- Goals of `write_program`: the items of `main` and the point of its end are the whole program's.
use Rattle.std.proofs.{Common.◌≡◌, Common.[], Common.◌∷◌, Common.map, Common.refl, Common.sym, Common.ap, Common.◌∙◌, Common.arith, lemmas.Result.err_from_is_err_and}
use Rattle.lra_operations.specs.{Tree.seq, TreeViews.node_view, TreeViews.site_view}
use Rattle.lra_program.specs.{ProgramViews.item_view, ProgramViews.items_of, ProgramViews.program_view, Sites.plain_site, Sites.items_events, Sites.call_events, Sites.events_of}
use Rattle.lra_inline_steps.specs.Limits.{add_points, stopped}
use Rattle.lra_inline_steps.proofs.{Items.items_stand_as, Shown.shown_point, Standing.main_stands, Stopping.limit_to}
use Rattle.lra_inline.proofs.Programs.{main_below, main_read, begun_at, frame_first, main_body, main_end, main_receives}
use Rattle.lra_inline.proofs.Totals.{made_graph, made_walk, stopped_in_items, stopped_at_end}
use Rattle.lra_inline.proofs.inlining.whole.write_program.Goals as goal

pub index-main-requires : goal.index-main-requires
index-main-requires c = main_below c.args.program.now c.requires

pub inline_items-requires-clause-stands : goal.inline_items-requires-clause-stands
inline_items-requires-clause-stands c = items_stand_as (program_view c.args.program.now)
    (begun_at c.len-globals.result c.result_receiver.result) _ _
    (main_body c.args.program.now c.index-main.result.now (main_read c.args.program.now c.index-main.result.now c.requires c.index-main.ensures)
    ∙ sym (ap (λ z. items_of (map item_view z)) c.deref.ensures.value))
    (main_stands (program_view c.args.program.now) (begun_at c.len-globals.result c.result_receiver.result) c.requires
    (omega arith) refl refl refl)

pub returns-in_err-body-clause-limit : goal.returns-in_err-body-clause-limit
returns-in_err-body-clause-limit c = let p = err_from_is_err_and c.from_residual.result c.from_residual.ensures.1 in limit_to c.from_residual.result p.0 _
    (λ x. add_points (map site_view c.args.sites.now.items)
    (items_events (call_events (program_view c.args.program.now) 32) c.empty-path.result c.len-globals.result (items_of (map item_view c.deref.result.now))) ≡
    stopped x)
    (λ x. add_points (map site_view c.args.sites.now.items) (events_of (program_view c.args.program.now)) ≡ stopped x) p.1 p.2
    (stopped_in_items (program_view c.args.program.now) c.requires c.empty-path.result
    (begun_at c.len-globals.result c.result_receiver.result) (map site_view c.args.sites.now.items)
    (items_of (map item_view c.deref.result.now)) c.index-main.result.now.end c.empty-path.ensures
    (frame_first c.args.program.now c.len-globals.result c.result_receiver.result c.len-globals.ensures
    (main_receives c.args.program.now c.index-main.result.now (main_read c.args.program.now c.index-main.result.now c.requires c.index-main.ensures)
    c.nobody.result c.result_receiver.result c.nobody.ensures c.result_receiver.ensures))
    (main_body c.args.program.now c.index-main.result.now (main_read c.args.program.now c.index-main.result.now c.requires c.index-main.ensures)
    ∙ sym (ap (λ z. items_of (map item_view z)) c.deref.ensures.value))
    (main_end c.args.program.now c.index-main.result.now (main_read c.args.program.now c.index-main.result.now c.requires c.index-main.ensures)))
    c.in_err-body.ensures.limit

pub returns-in_err-end-clause-limit : goal.returns-in_err-end-clause-limit
returns-in_err-end-clause-limit c = let p = err_from_is_err_and c.from_residual-in_err-end.result c.from_residual-in_err-end.ensures.1 in limit_to
    c.from_residual-in_err-end.result p.0 _
    (λ x. add_points (map site_view c.inline_items.new.sites.items)
    (plain_site c.empty-path.result c.index-main.result.now.end c.in_ok-body.body.live ∷ []) ≡ stopped x)
    (λ x. add_points (map site_view c.args.sites.now.items) (events_of (program_view c.args.program.now)) ≡ stopped x) p.1 p.2
    (λ x h. stopped_at_end (program_view c.args.program.now) c.requires c.empty-path.result
    (begun_at c.len-globals.result c.result_receiver.result) (map site_view c.args.sites.now.items)
    (items_of (map item_view c.deref.result.now)) c.index-main.result.now.end c.empty-path.ensures
    (frame_first c.args.program.now c.len-globals.result c.result_receiver.result c.len-globals.ensures
    (main_receives c.args.program.now c.index-main.result.now (main_read c.args.program.now c.index-main.result.now c.requires c.index-main.ensures)
    c.nobody.result c.result_receiver.result c.nobody.ensures c.result_receiver.ensures))
    (main_body c.args.program.now c.index-main.result.now (main_read c.args.program.now c.index-main.result.now c.requires c.index-main.ensures)
    ∙ sym (ap (λ z. items_of (map item_view z)) c.deref.ensures.value))
    (main_end c.args.program.now c.index-main.result.now (main_read c.args.program.now c.index-main.result.now c.requires c.index-main.ensures))
    (map site_view c.inline_items.new.sites.items)
    (node_view c.in_ok-body.body.node) c.in_ok-body.body.live x c.in_ok-body.ensures.last c.in_ok-body.ensures.written h) c.in_err-end.ensures.limit

pub returns-clause-walked : goal.returns-clause-walked
returns-clause-walked c = made_walk (program_view c.args.program.now) c.requires c.empty-path.result
    (begun_at c.len-globals.result c.result_receiver.result) (map site_view c.args.sites.now.items)
    (items_of (map item_view c.deref.result.now)) c.index-main.result.now.end c.empty-path.ensures
    (frame_first c.args.program.now c.len-globals.result c.result_receiver.result c.len-globals.ensures
    (main_receives c.args.program.now c.index-main.result.now (main_read c.args.program.now c.index-main.result.now c.requires c.index-main.ensures)
    c.nobody.result c.result_receiver.result c.nobody.ensures c.result_receiver.ensures))
    (main_body c.args.program.now c.index-main.result.now (main_read c.args.program.now c.index-main.result.now c.requires c.index-main.ensures)
    ∙ sym (ap (λ z. items_of (map item_view z)) c.deref.ensures.value))
    (main_end c.args.program.now c.index-main.result.now (main_read c.args.program.now c.index-main.result.now c.requires c.index-main.ensures))
    (map site_view c.inline_items.new.sites.items)
    (map site_view c.add_point.new.sites.items) c.in_ok-body.body.live c.in_ok-end.end (node_view c.in_ok-body.body.node)
    c.in_ok-body.ensures.last c.in_ok-body.ensures.written c.in_ok-end.ensures.walked

pub returns-clause-graph : goal.returns-clause-graph
returns-clause-graph c = made_graph (program_view c.args.program.now) c.requires c.empty-path.result
    (begun_at c.len-globals.result c.result_receiver.result) (map site_view c.args.sites.now.items)
    (items_of (map item_view c.deref.result.now)) c.index-main.result.now.end c.empty-path.ensures
    (frame_first c.args.program.now c.len-globals.result c.result_receiver.result c.len-globals.ensures
    (main_receives c.args.program.now c.index-main.result.now (main_read c.args.program.now c.index-main.result.now c.requires c.index-main.ensures)
    c.nobody.result c.result_receiver.result c.nobody.ensures c.result_receiver.ensures))
    (main_body c.args.program.now c.index-main.result.now (main_read c.args.program.now c.index-main.result.now c.requires c.index-main.ensures)
    ∙ sym (ap (λ z. items_of (map item_view z)) c.deref.ensures.value))
    (main_end c.args.program.now c.index-main.result.now (main_read c.args.program.now c.index-main.result.now c.requires c.index-main.ensures))
    (map site_view c.inline_items.new.sites.items)
    (map site_view c.add_point.new.sites.items) c.in_ok-body.body.live c.in_ok-end.end (node_view c.in_ok-body.body.node)
    c.in_ok-body.ensures.last c.in_ok-body.ensures.written c.in_ok-end.ensures.walked
    (node_view c.in_ok-tree.tree) c.in_ok-end.ensures.number (c.in_ok-tree.ensures
    ∙ ap (λ z. seq (node_view c.in_ok-body.body.node) z) (shown_point c.in_ok-end.end))
