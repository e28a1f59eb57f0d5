use Rattle.std.proofs.Common.{◌≡◌, ℕ, ℤ, Bool, List, length}
use Rattle.std.specs.List.{All}
use Rattle.lra_canonical.specs.{MarkedRows.AreToldBy, MarkedRows.rows_in, declared.order.Marked.Marked}
use Rattle.lra_descriptions.specs.ShownLists.{without}
use Rattle.lra_descriptions.proofs.known.mark_others.Given as goal

abbrev pub invariant-each : goal.invariant-each
invariant-each l = record {
  rows : rows_in l.others.items ≡ without l.left_out (rows_in l.yielded);
  told : (told : List ℤ → List Bool) → AreToldBy told l.yielded → AreToldBy told l.others.items;
  widths : (w : ℕ) → All (λ (m : Marked). length m.bits ≡ w) l.yielded → All (λ (m : Marked). length m.bits ≡ w) l.others.items;
}
