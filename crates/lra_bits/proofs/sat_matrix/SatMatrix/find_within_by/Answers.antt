-- Goals of `SatMatrix::find_within_by`: as `find_within`, by the columns if they are at hand.
use Rattle.std.proofs.Common.{◌∙◌, sym}
use Rattle.lra_bits.proofs.Places.{within_by_columns, places_inside, places_marked}
use Rattle.lra_bits.proofs.sat_matrix.SatMatrix.find_within_by.Goals as goal

pub find_common-requires-clause-rows : goal.find_common-requires-clause-rows
find_common-requires-clause-rows c =
    let all = sym c.height.ensures ∙ c.if-height-width.true ∙ c.width.ensures.width in
    places_inside c.args.self.now c.args.columns.now c.args.places.now c.args.first c.args.second c.row.result.now c.row.ensures.row c.requires.first c.row.ensures.width c.width.ensures.equal all
    c.requires.columns c.requires.places

pub find_common-requires-clause-marked : goal.find_common-requires-clause-marked
find_common-requires-clause-marked c =
    let all = sym c.height.ensures ∙ c.if-height-width.true ∙ c.width.ensures.width in
    places_marked c.args.self.now c.args.columns.now c.args.places.now c.args.first c.args.second c.row.result.now c.row.ensures.row c.requires.first c.row.ensures.width c.width.ensures.equal all
    c.requires.columns c.requires.places

pub returns-then-height-width : goal.returns-then-height-width
returns-then-height-width c =
    let all = sym c.height.ensures ∙ c.if-height-width.true ∙ c.width.ensures.width in
    within_by_columns c.args.self.now c.args.columns.now c.args.places.now c.args.first c.args.second c.row.result.now c.row.ensures.row c.requires.first c.row.ensures.width
    c.width.ensures.equal all c.requires.columns c.requires.places c.find_common.result c.find_common.ensures
