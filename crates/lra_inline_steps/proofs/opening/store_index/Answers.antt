-- Goals of `store_index`: where a variable stands in the store.
use Rattle.std.proofs.Common.{refl}
use Rattle.lra_inline_steps.proofs.opening.store_index.Goals as goal

pub overflow_add-result : goal.overflow_add-result
overflow_add-result c = let h = c.requires c.in-Local.place (rw c.in-Local.is refl) in record { fits = h }
