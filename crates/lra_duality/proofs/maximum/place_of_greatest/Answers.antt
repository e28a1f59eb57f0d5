-- Goals of `place_of_greatest`: the first point at which the form's value is the greatest.
use Rattle.std.proofs.Common.{arith, refl}
use Rattle.std.specs.List.{All}
use Rattle.lra_duality.specs.Crates.{lra_linear_spec.Kinds.is_line, lra_linear_spec.declared.GenKind.TheVariants.Point}
use Rattle.lra_duality.specs.Maxima.{StaysInRange, directed}
use Rattle.lra_duality.proofs.Crates.lra_systems.FirstMembers.{at_member}
use Rattle.lra_duality.proofs.MaximumLemmas.{best_found, best_kept, best_taken, many, rows_seen}
use Rattle.lra_duality.proofs.maximum.place_of_greatest.Goals.{then-exceeds, else-exceeds}
use Rattle.lra_duality.proofs.maximum.place_of_greatest.Goals as goal

pub exceeds-requires-clause-row_in_range : goal.exceeds-requires-clause-row_in_range
exceeds-requires-clause-row_in_range c =
    let list = c.args.list.now in
    let rows = c.rows-rows.result.now in
    let stays = StaysInRange (directed c.args.form.now c.args.is_opposite) in
    let n = many list rows c.kinds-kinds.result.now c.rows-rows.ensures.rows c.kinds-kinds.ensures.kinds
    c.kinds-kinds.ensures.len in
    at_member stays is_line rows list.kinds c.loop-place.place c.index-rows-place.result Point n c.loop-place-test.true
    c.index-rows-place.is
    (rows_seen (All stays) list rows c.rows-rows.ensures.rows c.requires.in_range)

pub exceeds-requires-clause-best_in_range : goal.exceeds-requires-clause-best_in_range
exceeds-requires-clause-best_in_range c =
    let list = c.args.list.now in
    let rows = c.rows-rows.result.now in
    let stays = StaysInRange (directed c.args.form.now c.args.is_opposite) in
    let n = many list rows c.kinds-kinds.result.now c.rows-rows.ensures.rows c.kinds-kinds.ensures.kinds
    c.kinds-kinds.ensures.len in
    at_member stays is_line rows list.kinds c.loop-place.best c.index-rows-best.result Point n
    c.loop-place.invariant.inside c.index-rows-best.is
    (rows_seen (All stays) list rows c.rows-rows.ensures.rows c.requires.in_range)

pub loop-place-preserved : goal.loop-place-preserved
loop-place-preserved c =
    let form = directed c.args.form.now c.args.is_opposite in
    let list = c.args.list.now in
    let rows = c.rows-rows.result.now in
    let n = many list rows c.kinds-kinds.result.now c.rows-rows.ensures.rows c.kinds-kinds.ensures.kinds
    c.kinds-kinds.ensures.len in
    elim c.if-exceeds.branch [
      | then-exceeds w ↦ best_taken form rows list.kinds c.loop-place.place c.loop-place.best c.if-exceeds.best
          c.index-rows-place.result c.index-rows-best.result n c.loop-place-test.true
          c.index-rows-place.is c.index-rows-best.is (w.if-exceeds.ensures.point refl)
          (w.if-exceeds.ensures.above refl) c.loop-place.invariant w.best-is
      | else-exceeds w ↦ best_kept form rows list.kinds c.loop-place.place c.loop-place.best c.if-exceeds.best
          c.index-rows-place.result c.index-rows-best.result n c.loop-place-test.true
          c.index-rows-place.is c.index-rows-best.is (w.if-exceeds.ensures.not_above refl) c.loop-place.invariant
          w.best-is
    ]

pub returns-clause-greatest : goal.returns-clause-greatest
returns-clause-greatest c =
    let list = c.args.list.now in
    let rows = c.rows-rows.result.now in
    let n = many list rows c.kinds-kinds.result.now c.rows-rows.ensures.rows c.kinds-kinds.ensures.kinds
    c.kinds-kinds.ensures.len in
    best_found (directed c.args.form.now c.args.is_opposite) list rows c.loop-place.place c.loop-place.best c.rows-rows.ensures.rows n
    (omega arith) c.loop-place.invariant
