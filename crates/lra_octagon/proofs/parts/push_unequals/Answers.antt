-- Goals of `push_unequals`: adds the inequalities.
use Rattle.std.proofs.Common.{rules, ◌-◌, ◌+◌, ◌*◌, ◌∙◌, ◌++◌}
use Rattle.lra_linear_spec.specs.declared.ConKind.TheVariants.{Ge}
use Rattle.lra_dbm.specs.Cells.{entry_at}
use Rattle.lra_octagon.specs.Parts.{kind_row, rows_with, octagon_inequalities}
use Rattle.lra_octagon.proofs.PartLemmas.{pushing_more, pushed_then, unequal_next}
use Rattle.lra_octagon.proofs.parts.push_unequals.Goals as goal

pub loop-a-preserved : goal.loop-a-preserved
loop-a-preserved c =
    let n = c.args.matrix.now.dims in
    let m = entry_at c.args.matrix.now in
    let plus = rows_with n (kind_row Ge n m) (2 * c.loop-a.a) in
    let minus = rows_with n (kind_row Ge n m) (2 * c.loop-a.a + 1) in
    let both = pushed_then Ge plus minus c.loop-a.system c.push_with.new.system c.push_with-in-loop-a.new.system c.in_ok-push_with.ensures.pushed c.in_ok-push_with-2.ensures.pushed in
    record {
      dims = both.dims ∙ c.loop-a.invariant.dims;
      pushing = pushing_more Ge (octagon_inequalities n m 0 n) (octagon_inequalities n m c.loop-a.a (n - c.loop-a.a)) (plus ++ minus)
          (octagon_inequalities n m (c.loop-a.a + 1) (n - (c.loop-a.a + 1))) c.args.system.now c.loop-a.system c.push_with-in-loop-a.new.system c.loop-a.invariant.pushing
          (unequal_next n m c.loop-a.a (search rules)) both;
    }
