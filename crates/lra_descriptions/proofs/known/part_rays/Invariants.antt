use Rattle.std.proofs.Common.{◌≡◌, ℕ, ℤ, Bool, List, length}
use Rattle.std.specs.List.{All}
use Rattle.lra_canonical.specs.{MarkedRows.AreToldBy, MarkedRows.rows_in, declared.order.Marked.Marked}
use Rattle.lra_descriptions.specs.ShownLists.{directions_of, points_of}
use Rattle.lra_descriptions.proofs.known.part_rays.Given as goal

abbrev pub invariant-each : goal.invariant-each
invariant-each l = record {
  points : rows_in l.parts.points.items ≡ points_of (rows_in l.yielded);
  directions : rows_in l.parts.directions.items ≡ directions_of (rows_in l.yielded);
  told : (told : List ℤ → List Bool) → AreToldBy told l.yielded → AreToldBy told l.parts.points.items × AreToldBy told l.parts.directions.items;
  widths : (w : ℕ) → All (λ (m : Marked). length m.bits ≡ w) l.yielded →
      All (λ (m : Marked). length m.bits ≡ w) l.parts.points.items × All (λ (m : Marked). length m.bits ≡ w) l.parts.directions.items;
}
