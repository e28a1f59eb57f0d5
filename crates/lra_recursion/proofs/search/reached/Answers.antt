-- Goals of `reached`: for each place whether it is reached.
use Rattle.std.proofs.Common.{map, length, arith, rules, refl, sym, ap, ◌∙◌, Some, ◌≡◌, ◌<◌}
use Rattle.std.proofs.{lemmas.List.length-map, lemmas.Option.slice_get_read}
use Rattle.lra_recursion.proofs.{Elements.mapped_at, Visiting.begun_search, Visiting.open_within, Visiting.further_search, Visiting.ended_search}
use Rattle.lra_recursion.proofs.search.reached.Goals as goal

pub left-init : goal.left-init
left-init c =
    begun_search (map (λ row. row.items) c.args.rows.now) c.args.start (length c.args.rows.now) c.in_ok-met.met.items _ c.new.result.items _
    (sym (length-map c.args.rows.now (λ row. row.items))) (search rules) c.new.ensures.items c.in_ok-visit.ensures

pub bounds-rows-place : goal.bounds-rows-place
bounds-rows-place c =
    let h = open_within _ _ _ _ _ _ c.in-Some.ensures.items c.left.invariant in
    let e : length (map (λ row. row.items) c.args.rows.now) ≡ length c.args.rows.now = length-map c.args.rows.now (λ row. row.items) in
    omega (arith, h, e)

pub offset_bounds-rows-place : goal.offset_bounds-rows-place
offset_bounds-rows-place c =
    let h = open_within _ _ _ _ _ _ c.in-Some.ensures.items c.left.invariant in
    let e : length (map (λ row. row.items) c.args.rows.now) ≡ length c.args.rows.now = length-map c.args.rows.now (λ row. row.items) in
    let l : c.in-Some.place < length c.args.rows.now = omega (arith, h, e) in
    search rules

pub left-preserved : goal.left-preserved
left-preserved c =
    let h = open_within _ _ _ _ _ _ c.in-Some.ensures.items c.left.invariant in
    let e : length (map (λ row. row.items) c.args.rows.now) ≡ length c.args.rows.now = length-map c.args.rows.now (λ row. row.items) in
    let l : c.in-Some.place < length c.args.rows.now = omega (arith, h, e) in
    let is = slice_get_read c.args.rows.now (length c.args.rows.now) c.in-Some.place c.index-rows-place.result refl l c.index-rows-place.is in
    further_search _ _ _ _ _ _ _ _ _ c.left.invariant c.in-Some.ensures.items
    (mapped_at (λ row. row.items) c.args.rows.now c.in-Some.place c.index-rows-place.result is ∙ ap Some (sym c.deref.ensures.value)) c.in_ok-visit_all.ensures

pub returns : goal.returns
returns c = ended_search (map (λ row. row.items) c.args.rows.now) c.args.start c.left.search.visited.items c.left.search.left.items (search rules) c.left.invariant
