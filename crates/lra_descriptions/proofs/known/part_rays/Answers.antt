-- Goals of `part_rays`: the rays in their parts.
use Rattle.std.proofs.Common.{rules, ◌≡◌, ◌∙◌, ap, cond, length, subst, sym, Bool, [], ◌∷◌}
use Rattle.std.proofs.{lemmas.Iterator.Adapters.YieldsList-from_vec, lemmas.Iterator.Consumers.YieldsList-end}
use Rattle.std.specs.List.{All}
use Rattle.lra_canonical.specs.declared.order.Marked.{Marked}
use Rattle.lra_descriptions.specs.ShownLists.{directions_of, points_of}
use Rattle.lra_descriptions.proofs.{KnownLists.all_yielded, KnownLists.kept_rows, KnownLists.one_row, KnownLists.other_row, KnownLists.parted_each, Parted.directions_append, Parted.points_append}
use Rattle.lra_descriptions.proofs.known.part_rays.Goals as goal

pub each-preserved : goal.each-preserved
each-preserved c =
    let seen = c.each.yielded in
    let x = c.in-Some.ray in
    let b = c.is_point-above.result in
    let old = c.each.parts in
    let new = c.push_part.new.parts in
    let i = c.each.invariant in
    let told = c.in_ok-push_part.ensures in
    record {
      points = kept_rows points_of points_append seen x (cond b (x ∷ []) []) old.points.items new.points.items
          (one_row b x ∙ ap (λ (q : Bool). cond q (x.row ∷ []) []) c.is_point-above.ensures) told.points i.points;
      directions = kept_rows directions_of directions_append seen x (cond b [] (x ∷ [])) old.directions.items new.directions.items
          (other_row b x ∙ ap (λ (q : Bool). cond q [] (x.row ∷ [])) c.is_point-above.ensures) told.directions i.directions;
      told = λ f t. parted_each (λ (m : Marked). m.bits ≡ f m.row) b seen x old.points.items old.directions.items new.points.items new.directions.items
          told.points told.directions (i.told f) t;
      widths = λ n h. parted_each (λ (m : Marked). length m.bits ≡ n) b seen x old.points.items old.directions.items new.points.items new.directions.items
          told.points told.directions
          (i.widths n) h;
    }

pub returns-clause-widths : goal.returns-clause-widths
returns-clause-widths c =
    let items = c.args.marked.items in
    let road = YieldsList-from_vec {s = c.into_iter-ray-iterator.result} items (search rules) (search rules) in
    let end = YieldsList-end road c.each.yielded c.each.ray-iterator c.each.yielded_by c.next.result c.next.new.self c.in-None.is c.next.ensures.steps in
    let done = all_yielded c.each.yielded items end.0 in
    λ w h. c.each.invariant.widths w (subst (All (λ (m : Marked). length m.bits ≡ w)) (sym done) h)
