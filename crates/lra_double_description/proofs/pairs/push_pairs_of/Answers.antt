-- Goals of `push_pairs_of`: the adjacent pairs with the first ray at `up`, after what is there.
use Rattle.std.proofs.{Common.◌≡◌, Common.[], Common.refl, Common.sym, Common.◌∙◌, Common.get_or, Common.length, Common.arith, lemmas.Grind.common_steps}
use Rattle.std.specs.Vec.{vec_len}
use Rattle.lra_double_description.proofs.pairs.push_pairs_of.Goals.{then-shares+then-are_adjacent+in_ok-tight+in_ok-push, else-shares, else-shares-via-then-shares+else-are_adjacent}
use Rattle.lra_double_description.proofs.{PairLists.pairs_skip, PairLists.pairs_skip_third, PairLists.pairs_push, PairsBelow.goes_first, PairsBelow.pairs_here, PairsBelow.below_here}
use Rattle.lra_double_description.proofs.{PairsBelow.goes_next, PairsBelow.goes_end, Thirds.few_told, Thirds.last_first, pairs.push_pairs_of.Goals.else-shares-via-else-shares}
use Rattle.lra_double_description.proofs.pairs.push_pairs_of.Goals as goal

pub are_adjacent-requires-clause-places : goal.are_adjacent-requires-clause-places
are_adjacent-requires-clause-places c =
    let before : length c.in_ok-places.places.items ≡ vec_len c.in_ok-places.places = grind (arith, common_steps) in
    let after : length c.reverse.new.self.items ≡ vec_len c.reverse.new.self = grind (arith, common_steps) in
    rw (c.deref.ensures.value, ← c.row-first.ensures.row, ← c.height.ensures) (last_first c.row-first.result.now c.height.result
    c.in_ok-places.places.items c.reverse.new.self.items (vec_len c.in_ok-places.places) (sym before) (after ∙ c.reverse.ensures.len ∙ sym before)
    c.reverse.ensures.by_index c.in_ok-places.ensures)

pub loop-i-init : goal.loop-i-init
loop-i-init c = λ products above below first. goes_first products c.args.saturation.now.rows c.args.up c.args.downs.now c.args.pairs.now.items below first

pub loop-i-preserved : goal.loop-i-preserved
loop-i-preserved c = λ products above below first.
    let rows = c.args.saturation.now.rows in
    let up = c.args.up in
    let downs = c.args.downs.now in
    let i = c.loop-i.i in
    let down = get_or downs i 0 in
    let ps = c.loop-i.pairs.items in
    let before = c.loop-i.invariant products above below first in
    let inside = c.loop-i-test.true in
    let here = pairs_here products rows up downs i ps inside before in
    elim c.if-shares.branch [
      | then-shares+then-are_adjacent+in_ok-tight+in_ok-push w ↦ rw (w.pairs-is) (goes_next products rows up downs i ps inside before w.push.new.self.items
          (pairs_push products rows up down ps w.push.new.self.items _ c.row-first.result.now c.row-second.result.now w.are_adjacent.result refl refl
          w.in_ok-push.ensures.items above (below_here products rows up downs i ps inside before) c.row-first.ensures.row c.row-second.ensures.row
          w.in_ok-tight.ensures w.are_adjacent.ensures w.if-are_adjacent.true here))
      | else-shares w ↦ elim w.else-shares.branch [
        | else-shares-via-then-shares+else-are_adjacent v ↦ rw (w.pairs-is) (goes_next products rows up downs i ps inside before ps
            (pairs_skip_third products rows up down ps v.are_adjacent.result v.are_adjacent.ensures v.if-are_adjacent.false here))
        | else-shares-via-else-shares v ↦ rw (w.pairs-is) (goes_next products rows up downs i ps inside before ps
            (pairs_skip products rows up down ps (λ _ _. few_told rows up down c.args.least c.row-first.result.now c.row-second.result.now c.shares.result c.row-first.ensures.row
            c.row-second.ensures.row c.shares.ensures.1 v.if-shares.false c.requires.few c.requires.inside (c.requires.each i 0 inside)) here))
      ]
    ]

pub returns : goal.returns
returns c = λ products above below first.
    let end = c.loop-i.invariant products above below first in
    goes_end products c.args.saturation.now.rows c.args.up c.args.downs.now c.loop-i.i c.loop-i.pairs.items c.loop-i-test.false end
