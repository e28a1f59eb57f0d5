-- Goals of `keeps_apart`: whether a third ray is tight wherever both are.
use Rattle.std.proofs.Common.{arith, List, Bool, [], slice_index_or, subst}
use Rattle.lra_bits.specs.TruthValues.{IsSubset, both}
use Rattle.lra_double_description.proofs.pairs.keeps_apart.Goals as goal

pub returns-clause-yes : goal.returns-clause-yes
returns-clause-yes c = λ t.
    let rows = c.args.saturation.now.rows in
    let first = c.row-first.result.now in
    let second = c.row-second.result.now in
    record {
      third = c.args.third;
      inside = omega (arith, c.if-third-height.false, c.height.ensures);
      not_up = c.if-third-up.false;
      not_down = c.if-third-down.false;
      covers =
          subst (λ (x : List Bool). IsSubset (both x (slice_index_or rows c.args.down [])) (slice_index_or rows c.args.third [])) c.row-first.ensures.row
          (subst (λ (x : List Bool). IsSubset (both first x) (slice_index_or rows c.args.third [])) c.row-second.ensures.row
          (subst (λ (x : List Bool). IsSubset (both first second) x) c.row.ensures.row (c.common_within.ensures.0 t)));
    }
