-- Goals of `list_parts`: these points, then these rays, then these lines.
use Rattle.lra_canonical.specs.MarkedRows.{bits_in}
use Rattle.std.proofs.Common.{length}
use Rattle.lra_descriptions.proofs.KnownLists.{parts_matrix}
use Rattle.lra_descriptions.proofs.known.list_parts.Goals as goal

pub returns-clause-matrix : goal.returns-clause-matrix
returns-clause-matrix c = parts_matrix c.args.width (bits_in c.args.points.items) (bits_in c.args.directions.items) c.new-matrix.result
    c.append_generators.new.matrix
    c.append_generators-2.new.matrix c.push_true_rows.new.matrix c.new-matrix.ensures c.in_ok-append_generators.ensures.matrix
    c.in_ok-append_generators-2.ensures.matrix
    (length c.args.lines.now) c.in_ok-push_true_rows.ensures.matrix
