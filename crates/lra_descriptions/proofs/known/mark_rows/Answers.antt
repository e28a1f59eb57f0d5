-- Goals of `mark_rows`: the rows, each with its row of the matrix.
use Rattle.std.proofs.Common.{rules, arith, refl, ◌≡◌, ◌∙◌, ◌+◌, ◌<◌, ◌≤◌, ◌++◌, ◌∷◌, [], ap, length, length-append, subst, sym, take, List, Bool}
use Rattle.std.proofs.{lemmas.Iterator.Adapters.YieldsList-from_vec, lemmas.Iterator.Consumers.YieldsList-end, lemmas.Iterator.Consumers.YieldsList-turn}
use Rattle.lra_canonical.specs.declared.order.Marked.{Marked}
use Rattle.lra_descriptions.proofs.KnownLists.{all_yielded, mark_more, marked_all, marked_told, marked_wide, still_inside}
use Rattle.lra_descriptions.proofs.known.mark_rows.Goals as goal

pub bounds-rows-place : goal.bounds-rows-place
bounds-rows-place c =
    let rows = c.args.rows.now in
    let all = c.into_rows-values.result.items in
    let items = c.truncate.new.self.items in
    let taken = c.each.yielded in
    let few : length rows ≤ length all = subst (λ (l : List (List Bool)). length rows ≤ length l) (sym c.into_rows-values.ensures.rows) c.requires in
    let turn = YieldsList-turn (YieldsList-from_vec {s = c.into_iter-bits-iterator.result} items (search rules) (search rules)) taken c.each.bits-iterator
    c.each.yielded_by c.next.result
    c.next.new.self c.in-Some.bits c.in-Some.is c.next.ensures.steps in
    let at : c.len-place.result ≡ length taken = c.len-place.ensures ∙ c.each.invariant.count in
    let inside = still_inside rows all items (length c.args.rows.now) (length taken) refl few c.truncate.ensures.items turn.0 in
    omega (arith, inside, at)

pub offset_bounds-rows-place : goal.offset_bounds-rows-place
offset_bounds-rows-place c =
    let rows = c.args.rows.now in
    let all = c.into_rows-values.result.items in
    let items = c.truncate.new.self.items in
    let taken = c.each.yielded in
    let few : length rows ≤ length all = subst (λ (l : List (List Bool)). length rows ≤ length l) (sym c.into_rows-values.ensures.rows) c.requires in
    let turn = YieldsList-turn (YieldsList-from_vec {s = c.into_iter-bits-iterator.result} items (search rules) (search rules)) taken c.each.bits-iterator
    c.each.yielded_by c.next.result
    c.next.new.self c.in-Some.bits c.in-Some.is c.next.ensures.steps in
    let at : c.len-place.result ≡ length taken = c.len-place.ensures ∙ c.each.invariant.count in
    let inside = still_inside rows all items (length c.args.rows.now) (length taken) refl few c.truncate.ensures.items turn.0 in
    let within : c.len-place.result < length rows = omega (arith, inside, at) in
    search rules

pub each-preserved : goal.each-preserved
each-preserved c =
    let rows = c.args.rows.now in
    let all = c.into_rows-values.result.items in
    let items = c.truncate.new.self.items in
    let taken = c.each.yielded in
    let bits = c.in-Some.bits in
    let few : length rows ≤ length all = subst (λ (l : List (List Bool)). length rows ≤ length l) (sym c.into_rows-values.ensures.rows) c.requires in
    let turn = YieldsList-turn (YieldsList-from_vec {s = c.into_iter-bits-iterator.result} items (search rules) (search rules)) taken c.each.bits-iterator
    c.each.yielded_by c.next.result
    c.next.new.self bits c.in-Some.is c.next.ensures.steps in
    let longer : length (taken ++ bits ∷ []) ≡ length taken + 1 = length-append taken (bits ∷ []) in
    let at : c.len-place.result ≡ length taken = c.len-place.ensures ∙ c.each.invariant.count in
    let inside = still_inside rows all items (length c.args.rows.now) (length taken) refl few c.truncate.ensures.items turn.0 in
    let x : Marked = record { row = c.in_ok-row.row; bits = bits } in
    let more = mark_more rows taken bits c.len-place.result c.index-rows-place.result x c.each.marked.items c.push.new.self.items at inside
    c.index-rows-place.is c.in_ok-row.ensures refl c.in_ok-push.ensures.items c.each.invariant.rows c.each.invariant.bits in
    record { count = omega (arith, c.in_ok-push.ensures.len, c.each.invariant.count, longer); rows = more.0; bits = more.1 }

pub returns-clause-rows : goal.returns-clause-rows
returns-clause-rows c =
    let rows = c.args.rows.now in
    let all = c.into_rows-values.result.items in
    let items = c.truncate.new.self.items in
    let few : length rows ≤ length all = subst (λ (l : List (List Bool)). length rows ≤ length l) (sym c.into_rows-values.ensures.rows) c.requires in
    let road = YieldsList-from_vec {s = c.into_iter-bits-iterator.result} items (search rules) (search rules) in
    let end = YieldsList-end road c.each.yielded c.each.bits-iterator c.each.yielded_by c.next.result c.next.new.self c.in-None.is c.next.ensures.steps in
    let done = all_yielded c.each.yielded items end.0 in
    (marked_all rows all items c.each.yielded (length c.args.rows.now) c.each.marked.items refl few c.truncate.ensures.items done c.each.invariant.rows
    c.each.invariant.bits).0

pub returns-clause-told : goal.returns-clause-told
returns-clause-told c =
    let rows = c.args.rows.now in
    let m = c.args.matrix in
    let items = c.truncate.new.self.items in
    let all = c.into_rows-values.result.items in
    let few : length rows ≤ length all = subst (λ (l : List (List Bool)). length rows ≤ length l) (sym c.into_rows-values.ensures.rows) c.requires in
    let road = YieldsList-from_vec {s = c.into_iter-bits-iterator.result} items (search rules) (search rules) in
    let end = YieldsList-end road c.each.yielded c.each.bits-iterator c.each.yielded_by c.next.result c.next.new.self c.in-None.is c.next.ensures.steps in
    let done = all_yielded c.each.yielded items end.0 in
    let both = marked_all rows all items c.each.yielded (length c.args.rows.now) c.each.marked.items refl few c.truncate.ensures.items done c.each.invariant.rows
    c.each.invariant.bits in
    λ told t. marked_told told rows m (length c.args.rows.now) c.each.marked.items refl both.0 (both.1 ∙ ap (take (length c.args.rows.now)) c.into_rows-values.ensures.rows) t

pub returns-clause-widths : goal.returns-clause-widths
returns-clause-widths c =
    let rows = c.args.rows.now in
    let items = c.truncate.new.self.items in
    let all = c.into_rows-values.result.items in
    let few : length rows ≤ length all = subst (λ (l : List (List Bool)). length rows ≤ length l) (sym c.into_rows-values.ensures.rows) c.requires in
    let road = YieldsList-from_vec {s = c.into_iter-bits-iterator.result} items (search rules) (search rules) in
    let end = YieldsList-end road c.each.yielded c.each.bits-iterator c.each.yielded_by c.next.result c.next.new.self c.in-None.is c.next.ensures.steps in
    let done = all_yielded c.each.yielded items end.0 in
    let both = marked_all rows all items c.each.yielded (length c.args.rows.now) c.each.marked.items refl few c.truncate.ensures.items done c.each.invariant.rows
    c.each.invariant.bits in
    marked_wide c.args.matrix.width (length c.args.rows.now) all c.each.marked.items c.into_rows-values.ensures.width both.1
