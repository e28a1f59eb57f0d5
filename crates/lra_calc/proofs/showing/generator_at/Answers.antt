-- Goals of `generator_at`: the text of the generator at a place, from 0.
use Rattle.std.proofs.Common.{rules, ◌<◌, length, string_bytes}
use Rattle.lra_calc.proofs.ShownLemmas.{row_there, kind_there, fits_there, generator_told}
use Rattle.lra_calc.proofs.showing.generator_at.Goals as goal

pub bounds-rows-place : goal.bounds-rows-place
bounds-rows-place c =
    row_there c.generators-generators.result.now c.args.set.now.generators c.rows.result.now c.args.place c.generators-generators.ensures.generators c.rows.ensures.rows c.requires.inside

pub bounds-kinds-place : goal.bounds-kinds-place
bounds-kinds-place c =
    kind_there c.generators-generators.result.now c.args.set.now.generators c.kinds.result.now c.args.place c.generators-generators.ensures.generators c.kinds.ensures.kinds c.requires.inside

pub generator_text-requires : goal.generator_text-requires
generator_text-requires c =
    fits_there c.generators-generators.result.now c.args.set.now.generators c.rows.result.now c.kinds.result.now c.args.place c.index-rows-place.result c.generators-generators.ensures.generators
    c.rows.ensures.rows c.kinds.ensures.kinds c.generators-generators.ensures.kinds c.requires.inside c.index-rows-place.is

pub returns : goal.returns
returns c =
    generator_told c.args.set.now c.generators-generators.result.now c.rows.result.now c.kinds.result.now c.in_ok-names.names c.dims.result c.args.place c.index-rows-place.result
    (string_bytes c.in_ok-text.text) c.generators-generators.ensures.generators c.rows.ensures.rows c.kinds.ensures.kinds c.generators-generators.ensures.kinds c.requires.inside
    c.index-rows-place.is c.in_ok-names.ensures c.dims.ensures c.in_ok-text.ensures

pub offset_bounds-rows-place : goal.offset_bounds-rows-place
offset_bounds-rows-place c =
    let l : c.args.place < length c.rows.result.now =
    row_there c.generators-generators.result.now c.args.set.now.generators c.rows.result.now c.args.place c.generators-generators.ensures.generators c.rows.ensures.rows c.requires.inside in
    search rules
