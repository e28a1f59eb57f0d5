-- Goals of `push_equals`: adds the equalities.
use Rattle.std.proofs.Common.{rules, ◌-◌, ◌+◌, ◌*◌, ◌∙◌}
use Rattle.lra_linear_spec.specs.declared.ConKind.TheVariants.{Eq}
use Rattle.lra_dbm.specs.Cells.{entry_at}
use Rattle.lra_octagon.specs.Parts.{kind_row, rows_with, octagon_equalities}
use Rattle.lra_octagon.proofs.PartLemmas.{pushing_more, equal_next}
use Rattle.lra_octagon.proofs.parts.push_equals.Goals as goal

pub loop-a-preserved : goal.loop-a-preserved
loop-a-preserved c =
    let n = c.args.matrix.now.dims in
    let m = entry_at c.args.matrix.now in
    record {
      dims = c.in_ok-push_with.ensures.pushed.dims ∙ c.loop-a.invariant.dims;
      pushing = pushing_more Eq (octagon_equalities n m 0 n) (octagon_equalities n m c.loop-a.a (n - c.loop-a.a))
          (rows_with n (kind_row Eq n m) (2 * c.loop-a.a))
          (octagon_equalities n m (c.loop-a.a + 1) (n - (c.loop-a.a + 1))) c.args.system.now c.loop-a.system c.push_with.new.system c.loop-a.invariant.pushing
          (equal_next n m c.loop-a.a (search rules)) c.in_ok-push_with.ensures.pushed;
    }
