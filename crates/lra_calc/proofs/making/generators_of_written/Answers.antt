-- Goals of `generators_of_written`: the generators, each with as many numbers as it needs.
use Rattle.std.proofs.Common.{arith, ◌∙◌, suc, ap, sym, length-append}
use Rattle.lra_calc.specs.Crates.lra_linear_spec.Kinds.{is_line}
use Rattle.lra_script.specs.{LineForms.row_of_generator, Views.generator_view}
use Rattle.lra_calc.proofs.MakingLemmas.{generator_fits, pushed_here, fit_later}
use Rattle.lra_calc.proofs.making.generators_of_written.Goals as goal

pub push-requires : goal.push-requires
push-requires c =
    (generator_fits c.args.n c.args.generators.now c.loop-generator.generator-index c.generator-item.result c.in_ok-row.row c.requires.widths c.requires.divided c.loop-generator-test.true
    c.generator-item.is c.in_ok-row.ensures).0
    ∙ ap suc (sym c.loop-generator.invariant.dims)

pub loop-generator-preserved : goal.loop-generator-preserved
loop-generator-preserved c =
    let x = c.generator-item.result in
    let fits = generator_fits c.args.n c.args.generators.now c.loop-generator.generator-index x c.in_ok-row.row c.requires.widths c.requires.divided c.loop-generator-test.true c.generator-item.is
    c.in_ok-row.ensures in
    let kinds = c.loop-generator.invariant.kinds in
    record {
      dims = c.in_ok-push.ensures.dims ∙ c.loop-generator.invariant.dims;
      kinds = rw (c.in_ok-push.ensures.rows, c.in_ok-push.ensures.kinds, length-append, length-append) (omega arith);
      made = pushed_here is_line (λ g. row_of_generator (generator_view g)) c.loop-generator.system c.push.new.self c.in_ok-row.row x.kind c.args.generators.now c.loop-generator.generator-index x _
          kinds
          c.in_ok-push.ensures.rows c.in_ok-push.ensures.kinds c.loop-generator-test.true c.generator-item.is c.in_ok-row.ensures c.loop-generator.invariant.made;
      fit = fit_later c.loop-generator.system c.push.new.self c.in_ok-row.row x.kind kinds c.in_ok-push.ensures.rows c.in_ok-push.ensures.kinds c.loop-generator.invariant.fit fits.1;
    }
