-- Goals of `first_wide`: the first generator with which the product passes the range.
use Rattle.std.proofs.Common.{arith, List, sym}
use Rattle.std.specs.List.{All}
use Rattle.lra_duality.specs.Crates.{lra_linear_spec.Descriptions.LinearRow, lra_linear_spec.Kinds.is_line, lra_linear_spec.declared.GenKind.TheVariants.Point, lra_systems.FirstPlaces.FirstAt}
use Rattle.lra_duality.specs.Maxima.{StaysInRange, PassesRange, directed}
use Rattle.lra_duality.proofs.Crates.lra_systems.FirstMembers.{first_at, one_more, all_gone_through, ok_of}
use Rattle.lra_duality.proofs.MaximumLemmas.{many, seen_rows}
use Rattle.lra_duality.proofs.maximum.first_wide.Goals as goal

pub returns-in-None : goal.returns-in-None
returns-in-None c =
    let list = c.args.list.now in
    let rows = c.rows-rows.result.now in
    let stays = StaysInRange (directed c.args.form.now c.args.is_opposite) in
    let passes = PassesRange (directed c.args.form.now c.args.is_opposite) in
    let n = many list rows c.kinds-kinds.result.now c.rows-rows.ensures.rows c.kinds-kinds.ensures.kinds
    c.kinds-kinds.ensures.len in
    seen_rows (λ (l : List LinearRow). FirstAt stays passes l c.loop-place.place) list rows c.rows-rows.ensures.rows
    (first_at stays passes is_line rows list.kinds c.loop-place.place c.index-rows-place.result Point n
    c.loop-place-test.true c.index-rows-place.is c.loop-place.invariant c.in-None.ensures)

pub loop-place-preserved : goal.loop-place-preserved
loop-place-preserved c =
    let list = c.args.list.now in
    let rows = c.rows-rows.result.now in
    let n = many list rows c.kinds-kinds.result.now c.rows-rows.ensures.rows c.kinds-kinds.ensures.kinds
    c.kinds-kinds.ensures.len in
    one_more (StaysInRange (directed c.args.form.now c.args.is_opposite)) is_line rows list.kinds c.loop-place.place
    c.index-rows-place.result Point n c.loop-place-test.true c.index-rows-place.is c.loop-place.invariant
    (ok_of c.in-Some.field-0 _ (sym c.in-Some.ensures))

pub returns : goal.returns
returns c =
    let list = c.args.list.now in
    let rows = c.rows-rows.result.now in
    let stays = StaysInRange (directed c.args.form.now c.args.is_opposite) in
    let n = many list rows c.kinds-kinds.result.now c.rows-rows.ensures.rows c.kinds-kinds.ensures.kinds
    c.kinds-kinds.ensures.len in
    seen_rows (All stays) list rows c.rows-rows.ensures.rows
    (all_gone_through stays is_line rows list.kinds c.loop-place.place n (omega arith) c.loop-place.invariant)
