-- Goals of `maximum_of`: the greatest value on the points of the generators.
use Rattle.std.proofs.Common.{◌<◌, ap, length, subst, sym, ℕ}
use Rattle.std.specs.List.{All}
use Rattle.lra_duality.specs.Crates.{lra_linear_spec.Kinds.is_line, lra_linear_spec.declared.GenKind.TheVariants.Point, lra_systems.LinearSystems.generators}
use Rattle.lra_duality.specs.Maxima.{StaysInRange, directed}
use Rattle.lra_duality.proofs.Crates.lra_systems.FirstMembers.{at_member}
use Rattle.lra_duality.proofs.MaximumLemmas.{greatest_there, many, row_there, rows_seen}
use Rattle.lra_duality.proofs.maximum.maximum_of.Goals as goal

pub at-requires-clause-in_range : goal.at-requires-clause-in_range
at-requires-clause-in_range c =
    let list = c.args.list.now in
    let listed = c.rows-in-None-first_improving in
    let rows = listed.result.now in
    let place = c.place_of_greatest-place.result in
    let stays = StaysInRange (directed c.args.form.now c.args.is_opposite) in
    let n = many list rows c.kinds-kinds.result.now listed.ensures.rows c.kinds-kinds.ensures.kinds
    c.kinds-kinds.ensures.len in
    let inside : place < length rows = subst (λ (n : ℕ). place < n)
    (ap length (sym listed.ensures.rows)) c.place_of_greatest-place.ensures.inside in
    at_member stays is_line rows list.kinds place c.index-rows-place.result Point n inside c.index-rows-place.is
    (rows_seen (All stays) list rows listed.ensures.rows c.in-None.ensures)

pub returns-in-None-first_improving-clause-maximum : goal.returns-in-None-first_improving-clause-maximum
returns-in-None-first_improving-clause-maximum c =
    let list = c.args.list.now in
    let listed = c.rows-in-None-first_improving in
    let row = c.index-rows-place.result in
    let found = c.place_of_greatest-place in
    c.at.ensures.greatest (generators list)
    (greatest_there (directed c.args.form.now c.args.is_opposite) (generators list) found.result _ row
    (row_there list listed.result.now found.result row listed.ensures.rows c.index-rows-place.is
    found.ensures.inside)
    found.ensures.greatest) c.in-None.ensures c.in-None-first_improving.ensures
