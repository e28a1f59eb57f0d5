-- Goals of `read_row`: the row added at the place, and where it is tight.
use Rattle.std.proofs.Common.{rules, ◌≡◌, ◌<◌, ◌∙◌, arith, ap, sym, length}
use Rattle.lra_description_pair.specs.Crates.{lra_linear_spec.Descriptions.rows_of, lra_linear_spec.Kinds.is_equality}
use Rattle.lra_description_pair.proofs.OwnRows.{taken_length, told_row, row_told, rows_listed}
use Rattle.lra_description_pair.proofs.own.read_row.Goals as goal

pub tight_where-requires : goal.tight_where-requires
tight_where-requires c =
    let many = ap length (sym c.kinds-kinds.ensures.kinds) ∙ c.kinds-kinds.ensures.len in
    let listed = c.rows-rows.result.now in
    let taken = c.taken-taken.result.now in
    let are : listed ≡ rows_of c.args.cone.now.taken = rows_listed is_equality c.args.cone.now.taken listed taken.rows taken.kinds c.taken-taken.ensures.taken c.rows-rows.ensures.rows many in
    let inside : c.args.place < length listed = omega (arith, c.requires.inside, ap length are) in
    taken_length is_equality c.args.cone.now c.saturation.result.now listed taken.rows taken.kinds c.args.place c.saturation.ensures c.taken-taken.ensures.taken c.rows-rows.ensures.rows many inside

pub bounds-rows-place : goal.bounds-rows-place
bounds-rows-place c =
    let many = ap length (sym c.kinds-kinds.ensures.kinds) ∙ c.kinds-kinds.ensures.len in
    let listed = c.rows-rows.result.now in
    let taken = c.taken-taken.result.now in
    let are : listed ≡ rows_of c.args.cone.now.taken = rows_listed is_equality c.args.cone.now.taken listed taken.rows taken.kinds c.taken-taken.ensures.taken c.rows-rows.ensures.rows many in
    omega (arith, c.requires.inside, ap length are)

pub offset_bounds-rows-place : goal.offset_bounds-rows-place
offset_bounds-rows-place c =
    let many = ap length (sym c.kinds-kinds.ensures.kinds) ∙ c.kinds-kinds.ensures.len in
    let listed = c.rows-rows.result.now in
    let taken = c.taken-taken.result.now in
    let are : listed ≡ rows_of c.args.cone.now.taken = rows_listed is_equality c.args.cone.now.taken listed taken.rows taken.kinds c.taken-taken.ensures.taken c.rows-rows.ensures.rows many in
    let inside : c.args.place < length listed = omega (arith, c.requires.inside, ap length are) in
    search rules

pub returns-clause-row : goal.returns-clause-row
returns-clause-row c =
    let many = ap length (sym c.kinds-kinds.ensures.kinds) ∙ c.kinds-kinds.ensures.len in
    let listed = c.rows-rows.result.now in
    let taken = c.taken-taken.result.now in
    let rows = rows_of c.args.cone.now.taken in
    let are : listed ≡ rows = rows_listed is_equality c.args.cone.now.taken listed taken.rows taken.kinds c.taken-taken.ensures.taken c.rows-rows.ensures.rows many in
    let inside : c.args.place < length listed = omega (arith, c.requires.inside, ap length are) in
    row_told listed rows c.args.place c.index-rows-place.result c.in_ok-row.row are inside c.index-rows-place.is c.in_ok-row.ensures

pub returns-clause-tight : goal.returns-clause-tight
returns-clause-tight c =
    let many = ap length (sym c.kinds-kinds.ensures.kinds) ∙ c.kinds-kinds.ensures.len in
    let s = c.args.cone.now in
    let listed = c.rows-rows.result.now in
    let taken = c.taken-taken.result.now in
    let are : listed ≡ rows_of s.taken = rows_listed is_equality s.taken listed taken.rows taken.kinds c.taken-taken.ensures.taken c.rows-rows.ensures.rows many in
    let inside : c.args.place < length listed = omega (arith, c.requires.inside, ap length are) in
    told_row is_equality s listed taken.rows taken.kinds c.args.place c.args.width c.index-rows-place.result c.in_ok-row.row c.in_ok-bits.bits c.saturation.result.now
    c.saturation.ensures c.taken-taken.ensures.taken c.rows-rows.ensures.rows many inside c.index-rows-place.is c.in_ok-row.ensures c.requires.width c.in_ok-bits.ensures
