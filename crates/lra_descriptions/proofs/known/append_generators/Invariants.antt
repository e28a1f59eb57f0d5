use Rattle.std.proofs.Common.{◌≡◌, ◌++◌, length, replicate}
use Rattle.lra_canonical.specs.MarkedRows.{bits_in, rows_in}
use Rattle.lra_descriptions.proofs.known.append_generators.Given as goal

abbrev pub invariant-each : goal.invariant-each
invariant-each l = record {
  dims : l.list.dims ≡ l.fn.list.dims;
  width : l.matrix.width ≡ l.fn.matrix.width;
  rows : l.list.rows ≡ l.fn.list.rows ++ rows_in l.yielded;
  kinds : l.list.kinds ≡ l.fn.list.kinds ++ replicate (length l.yielded) l.kind;
  matrix : l.matrix ≡ record l.fn.matrix { rows = l.fn.matrix.rows ++ bits_in l.yielded };
}
