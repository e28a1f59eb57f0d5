-- Goals of `push_rising`: adds the rows of `v_i` with `+x_b`, for each later variable.
use Rattle.std.proofs.Common.{rules, suc, ◌-◌, ◌+◌, ◌*◌, ◌/◌, ◌∙◌}
use Rattle.lra_dbm.specs.Cells.{entry_at}
use Rattle.lra_octagon.specs.Parts.{kind_row, rising}
use Rattle.lra_octagon.proofs.PartLemmas.{pushing_more, rising_next}
use Rattle.lra_octagon.proofs.parts.push_rising.Goals as goal

pub loop-b-preserved : goal.loop-b-preserved
loop-b-preserved c =
    let n = c.args.matrix.now.dims in
    let f = kind_row c.args.kind n (entry_at c.args.matrix.now) c.args.i in
    record {
      dims = c.in_ok-push_row.ensures.pushed.dims ∙ c.loop-b.invariant.dims;
      pushing = pushing_more c.args.kind (rising f (suc (c.args.i / 2)) (n - suc (c.args.i / 2))) (rising f c.loop-b.b (n - c.loop-b.b)) (f (2 * c.loop-b.b))
          (rising f (c.loop-b.b + 1) (n - (c.loop-b.b + 1))) c.args.system.now c.loop-b.system c.push_row.new.system c.loop-b.invariant.pushing
          (rising_next f c.loop-b.b n (search rules)) c.in_ok-push_row.ensures.pushed;
    }
