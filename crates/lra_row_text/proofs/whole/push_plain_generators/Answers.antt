-- Goals of `push_plain_generators`: appends the generators, each on a line.
use Rattle.std.proofs.Common.{arith, get_or}
use Rattle.lra_row_text.specs.Crates.lra_linear_spec.declared.GenKind.TheVariants as gen
use Rattle.lra_row_text.proofs.Lists.{drop_front, drop_at, row_step, rows_end, first_fits, further_fit}
use Rattle.lra_row_text.specs.{Shown.report_generator, Whole.plain_generator}
use Rattle.lra_row_text.proofs.whole.push_plain_generators.Goals as goal

pub push_plain_generator-requires : goal.push_plain_generator-requires
push_plain_generator-requires c =
    let j = c.loop-index.index in
    let rows = c.args.rows.now in
    let kinds = c.args.kinds.now in
    first_fits rows kinds j c.index-rows-index.result (get_or kinds j gen.Point) c.loop-index.invariant.fit
    (drop_front rows j c.index-rows-index.result c.index-rows-index.is (omega arith)) (drop_at kinds j gen.Point (omega arith))

pub loop-index-preserved : goal.loop-index-preserved
loop-index-preserved c =
    let j = c.loop-index.index in
    let rows = c.args.rows.now in
    let kinds = c.args.kinds.now in
    let r = c.index-rows-index.result in
    let k = get_or kinds j gen.Point in
    let row = drop_front rows j r c.index-rows-index.is (omega arith) in
    let kind = drop_at kinds j gen.Point (omega arith) in
    record {
      fit = further_fit rows kinds j r k c.loop-index.invariant.fit row kind;
      written = row_step report_generator (plain_generator c.args.names.now) _ _ _ rows kinds j r k c.loop-index.invariant.written row kind c.in_ok-push_plain_generator.ensures;
    }

pub returns : goal.returns
returns c = rows_end report_generator (plain_generator c.args.names.now) _ _ c.args.rows.now c.args.kinds.now c.loop-index.index c.loop-index.invariant.written (omega arith)
