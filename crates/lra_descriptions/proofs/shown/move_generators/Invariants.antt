use Rattle.std.proofs.Common.{◌≡◌, ◌++◌, length, replicate}
use Rattle.lra_descriptions.proofs.shown.move_generators.Given as goal

abbrev pub invariant-loop-row : goal.invariant-loop-row
invariant-loop-row l = record {
  dims : l.list.dims ≡ l.fn.list.dims;
  rows : l.list.rows ≡ l.fn.list.rows ++ l.yielded;
  kinds : l.list.kinds ≡ l.fn.list.kinds ++ replicate (length l.yielded) l.kind;
}
