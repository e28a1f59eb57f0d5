-- Goals of `opposite_but`: the opposite form, with 1 at the column again.
use Rattle.std.proofs.Common.{ap, arith, length}
use Rattle.lra_mapped_systems.proofs.Crates.lra_linear_spec.Products.{negated_length}
use Rattle.lra_mapped_systems.proofs.moving.opposite_but.Goals as goal

pub index_mut-requires : goal.index_mut-requires
index_mut-requires c =
    omega (
      arith,
      ap length c.entries.ensures.entries,
      ap length c.in_ok-opposite.ensures,
      negated_length c.args.form.now,
      c.in_ok-numbers.ensures.len,
    )
