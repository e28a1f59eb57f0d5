-- Goals of `append_generators`: marked rows after what is there.
use Rattle.std.proofs.Common.{◌∙◌, ap}
use Rattle.lra_descriptions.specs.Crates.lra_bits.Matrix.{Matrix}
use Rattle.lra_canonical.specs.declared.order.Marked.{Marked}
use Rattle.lra_descriptions.proofs.KnownLists.{kinds_more, matrix_more, put_more}
use Rattle.lra_descriptions.proofs.known.append_generators.Goals as goal

pub each-preserved : goal.each-preserved
each-preserved c =
    let x = c.in-Some.ray in
    record {
      dims = c.in_ok-push.ensures.dims ∙ c.each.invariant.dims;
      width = ap (λ (m : Matrix). m.width) c.in_ok-add_row.ensures.added ∙ c.each.invariant.width;
      rows = put_more (λ (m : Marked). m.row) c.args.list.now.rows c.each.list.rows c.push.new.self.rows c.each.yielded x c.each.invariant.rows
          c.in_ok-push.ensures.rows;
      kinds = kinds_more c.args.list.now.kinds c.each.list.kinds c.push.new.self.kinds c.args.kind c.each.yielded x c.each.invariant.kinds
          c.in_ok-push.ensures.kinds;
      matrix = matrix_more c.args.matrix.now c.each.matrix c.add_row.new.self c.each.yielded x c.each.invariant.matrix c.in_ok-add_row.ensures.added;
    }
