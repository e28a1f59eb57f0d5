-- Goals of `has_too_many`: few to the goals of all segments are few to each goal.
use Rattle.std.proofs.Common.{arith}
use Rattle.lra_paths.specs.Crates.lra_path_segments.declared.segments.Goal.TheVariants.{ComesTo}
use Rattle.lra_paths.proofs.SourceSteps.{few_at_end, few_next, under}
use Rattle.lra_paths.proofs.sources.Source.has_too_many.Goals as goal

pub ways-preserved : goal.ways-preserved
ways-preserved c = few_next c.args.self.now.entries.items c.args.self.now.segments.items c.deref-way-items.result.now c.ways.way-index
    (record { goal = ComesTo 0; place = 0 }) c.ways-test.true c.ways.invariant
    (under _ c.count_to.result c.count_to.ensures (let few = c.if-count_to-gt-GREATEST_PATHS.false in omega (arith, few)))

pub returns-clause-few : goal.returns-clause-few
returns-clause-few c = λ same. few_at_end c.args.self.now.entries.items c.args.self.now.segments.items c.deref-way-items.result.now c.ways.way-index
    c.ways-test.false c.deref-way-items.ensures.value c.ways.invariant
